use Rattle.print_pieces.proofs.Steps.{◌▸◌}
use Rattle.print_nodes.proofs.exports.print_source.Goals as goal

pub returns-in-Some : goal.returns-in-Some
returns-in-Some g c = rw c.in-Some.is (c.gap_or.ensures ▸ (c.print_from.ensures ▸ c.print_attributes.ensures))
