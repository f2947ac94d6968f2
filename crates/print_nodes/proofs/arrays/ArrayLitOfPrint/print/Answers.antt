use Rattle.std.proofs.Common.{sym}
use Rattle.print_pieces.proofs.Steps.{◌▸◌}
use Rattle.print_nodes.proofs.arrays.ArrayLitOfPrint.print.Goals as goal

pub returns-clause-laid : goal.returns-clause-laid
returns-clause-laid g c = c.start.ensures ▸ (c.text.ensures ▸ (rw (sym c.as_slice.ensures.value) c.print_elements.ensures ▸ (c.text-2.ensures ▸ c.end.ensures)))
