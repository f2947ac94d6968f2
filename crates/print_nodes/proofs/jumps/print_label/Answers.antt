use Rattle.print_pieces.proofs.Steps.{◌▸◌, present}
use Rattle.print_nodes.proofs.jumps.print_label.Goals as goal

pub returns-in-Some : goal.returns-in-Some
returns-in-Some g c = rw c.in-Some.is (present c.print.ensures.there (c.blank.ensures ▸ c.print.ensures.laid))
