use Rattle.std.proofs.Common.{refl, None}
use Rattle.print_pages_spec.specs.Pieces.{Semicolon}
use Rattle.print_pieces.proofs.Steps.{asks, passes}
use Rattle.print_pieces.proofs.printer.Printer.semi.Goals as goal

pub returns-then-is_none : goal.returns-then-is_none
returns-then-is_none g c = asks (Semicolon None) tt refl c.write_semi.result c.is_none.ensures c.if-is_none.true c.err-self.ensures.value c.write_semi.ensures.value c.write_semi.ensures.keeps

pub returns-else-is_none : goal.returns-else-is_none
returns-else-is_none g c = passes (Semicolon None) tt c.is_none.ensures c.if-is_none.false
