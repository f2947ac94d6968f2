use Rattle.print_pieces.proofs.Steps.{◌▸◌}
use Rattle.print_nodes.proofs.classes.print_class_head.Goals as goal

pub returns : goal.returns
returns g c = c.text.ensures ▸ (c.print_name.ensures ▸ c.print_heritage.ensures)
