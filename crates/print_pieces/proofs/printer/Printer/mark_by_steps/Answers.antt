use Rattle.std.proofs.Common.{refl}
use Rattle.print_pages_spec.specs.Pieces.{Mark}
use Rattle.print_pieces.proofs.Steps.{asks, passes}
use Rattle.print_pieces.proofs.printer.Printer.mark_by_steps.Goals as goal

pub returns-then-is_none : goal.returns-then-is_none
returns-then-is_none g c = asks (Mark c.args.pos) tt refl c.add_srcmap.result c.is_none.ensures c.if-is_none.true c.err-self.ensures.value c.add_srcmap.ensures.value c.add_srcmap.ensures.keeps

pub returns-else-is_none : goal.returns-else-is_none
returns-else-is_none g c = passes (Mark c.args.pos) tt c.is_none.ensures c.if-is_none.false
