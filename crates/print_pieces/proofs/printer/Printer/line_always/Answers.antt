use Rattle.std.proofs.Common.{refl}
use Rattle.print_pages_spec.specs.Pieces.{Line}
use Rattle.print_pieces.proofs.Steps.{asks, passes}
use Rattle.print_pieces.proofs.printer.Printer.line_always.Goals as goal

pub returns-then-is_none : goal.returns-then-is_none
returns-then-is_none g c = asks Line tt refl c.write_line.result c.is_none.ensures c.if-is_none.true c.err-self.ensures.value c.write_line.ensures.value c.write_line.ensures.keeps

pub returns-else-is_none : goal.returns-else-is_none
returns-else-is_none g c = passes Line tt c.is_none.ensures c.if-is_none.false
