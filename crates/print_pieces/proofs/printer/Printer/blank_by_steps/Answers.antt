use Rattle.std.proofs.Common.{refl}
use Rattle.print_pages_spec.specs.Pieces.{Blank}
use Rattle.print_pieces.proofs.Steps.{asks, passes}
use Rattle.print_pieces.proofs.printer.Printer.blank_by_steps.Goals as goal

pub returns-then-is_none : goal.returns-then-is_none
returns-then-is_none g c = asks Blank tt refl c.write_space.result c.is_none.ensures c.if-is_none.true c.err-self.ensures.value c.write_space.ensures.value c.write_space.ensures.keeps

pub returns-else-is_none : goal.returns-else-is_none
returns-else-is_none g c = passes Blank tt c.is_none.ensures c.if-is_none.false
