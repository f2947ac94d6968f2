use Rattle.print_pieces.proofs.Steps.{◌▸◌}
use Rattle.print_nodes.proofs.specifiers.print_braces.Goals as goal

pub returns : goal.returns
returns g c = c.text.ensures ▸ (c.gap.ensures ▸ (c.print_items.ensures ▸ (c.gap-2.ensures ▸ c.brace.ensures)))
