use Rattle.print_pieces.proofs.Steps.{◌▸◌}
use Rattle.print_nodes.proofs.classes.print_declared_head.Goals as goal

pub returns : goal.returns
returns g c = c.text.ensures ▸ ((c.blank.ensures ▸ c.print.ensures.laid) ▸ c.print_heritage.ensures)
