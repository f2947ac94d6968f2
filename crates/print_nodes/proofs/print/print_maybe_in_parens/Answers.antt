use Rattle.print_pieces.proofs.Steps.{◌▸◌, present}
use Rattle.print_nodes.proofs.print.print_maybe_in_parens.Goals as goal

pub returns-in-Some : goal.returns-in-Some
returns-in-Some g c = rw c.in-Some.is (present c.print.ensures.there (c.text.ensures ▸ (c.print.ensures.laid ▸ c.text-in-Some.ensures)))
