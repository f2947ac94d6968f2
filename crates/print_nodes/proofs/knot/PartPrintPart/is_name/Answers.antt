use Rattle.std.proofs.Common.{sym}
use Rattle.print_nodes.proofs.Sorted.{no_name}
use Rattle.print_nodes.proofs.knot.PartPrintPart.is_name.Goals as goal

pub returns-in-None : goal.returns-in-None
returns-in-None c = sym (no_name _ c.in-None.ensures)
