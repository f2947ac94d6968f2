use Rattle.print_pieces.proofs.Steps.{◌▸◌}
use Rattle.print_nodes.proofs.exports.print_export_braces.Goals as goal

pub returns-then-others : goal.returns-then-others
returns-then-others g c = rw c.if-others.true c.print_braces.ensures

pub returns-else-others : goal.returns-else-others
returns-else-others g c = rw c.if-others.false (c.text.ensures ▸ (c.gap.ensures ▸ c.brace.ensures))
