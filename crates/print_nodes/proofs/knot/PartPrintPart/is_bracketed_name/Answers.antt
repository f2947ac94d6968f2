use Rattle.std.proofs.Common.{sym}
use Rattle.print_nodes.proofs.Sorted.{no_bracketed_name}
use Rattle.print_nodes.proofs.knot.PartPrintPart.is_bracketed_name.Goals as goal

pub returns-in-None : goal.returns-in-None
returns-in-None c = sym (no_bracketed_name _ c.in-None.ensures)
