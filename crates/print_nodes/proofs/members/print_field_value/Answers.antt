use Rattle.print_pieces.proofs.Steps.{present, ◌▸◌}
use Rattle.print_nodes.proofs.members.print_field_value.Goals as goal

pub returns-in-Some : goal.returns-in-Some
returns-in-Some g c = rw c.in-Some.is (present c.print_single.ensures.there (c.gap.ensures ▸ (c.text.ensures ▸ (c.gap-in-Some.ensures ▸ c.print_single.ensures.laid))))
