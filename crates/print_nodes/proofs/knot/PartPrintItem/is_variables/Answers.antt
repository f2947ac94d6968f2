use Rattle.std.proofs.Common.{sym}
use Rattle.print_nodes.proofs.Sorted.{no_variables}
use Rattle.print_nodes.proofs.knot.PartPrintItem.is_variables.Goals as goal

pub returns-in-None : goal.returns-in-None
returns-in-None c = sym (no_variables _ c.in-None.ensures)
