use Rattle.print_pieces.proofs.Steps.{refuses_now, refuses_again}
use Rattle.print_pieces.proofs.printer.Printer.refuse.Goals as goal

pub returns-then-is_none : goal.returns-then-is_none
returns-then-is_none g c = refuses_now c.is_none.ensures c.if-is_none.true

pub returns-else-is_none : goal.returns-else-is_none
returns-else-is_none g c = refuses_again c.is_none.ensures c.if-is_none.false
