use Rattle.print_pieces.proofs.Steps.{◌▸◌}
use Rattle.print_nodes.proofs.specifiers.ImportStarAsSpecifierPrint.print.Goals as goal

pub returns-clause-laid : goal.returns-clause-laid
returns-clause-laid g c = c.text.ensures ▸ (c.gap.ensures ▸ (c.text-2.ensures ▸ (c.blank.ensures ▸ c.print.ensures.laid)))
