use Rattle.print_pieces.proofs.Steps.{◌▸◌}
use Rattle.print_nodes.proofs.exports.ExportAllOfPrint.print.Goals as goal

pub returns-clause-laid : goal.returns-clause-laid
returns-clause-laid g c = c.start.ensures ▸ (c.text.ensures ▸ (c.gap.ensures ▸ (c.text-2.ensures ▸ (c.gap-2.ensures ▸ (c.print_from.ensures ▸ (c.print_attributes.ensures ▸ (c.semi.ensures ▸ c.end.ensures)))))))
