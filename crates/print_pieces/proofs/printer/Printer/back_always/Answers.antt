use Rattle.std.proofs.Common.{refl}
use Rattle.print_pages_spec.specs.Pieces.{Back}
use Rattle.print_pieces.proofs.Steps.{asks, passes}
use Rattle.print_pieces.proofs.printer.Printer.back_always.Goals as goal

pub returns-then-is_none : goal.returns-then-is_none
returns-then-is_none g c = asks Back tt refl c.decrease_indent.result c.is_none.ensures c.if-is_none.true c.err-self.ensures.value c.decrease_indent.ensures.value c.decrease_indent.ensures.keeps

pub returns-else-is_none : goal.returns-else-is_none
returns-else-is_none g c = passes Back tt c.is_none.ensures c.if-is_none.false
