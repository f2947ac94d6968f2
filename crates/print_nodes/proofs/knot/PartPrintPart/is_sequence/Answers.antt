use Rattle.std.proofs.Common.{sym}
use Rattle.print_nodes.proofs.Sorted.{no_sequence}
use Rattle.print_nodes.proofs.knot.PartPrintPart.is_sequence.Goals as goal

pub returns-in-None : goal.returns-in-None
returns-in-None c = sym (no_sequence _ c.in-None.ensures)
