use Rattle.std.proofs.Common.{sym}
use Rattle.print_nodes.proofs.Sorted.{no_block}
use Rattle.print_nodes.proofs.knot.PartPrintItem.is_block.Goals as goal

pub returns-in-None : goal.returns-in-None
returns-in-None c = sym (no_block _ c.in-None.ensures)
