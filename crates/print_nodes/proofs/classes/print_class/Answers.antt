use Rattle.print_pieces.proofs.Steps.{◌▸◌}
use Rattle.print_nodes.proofs.classes.print_class.Goals as goal

pub returns : goal.returns
returns g c = c.print_class_head.ensures ▸ c.print.ensures.laid
