use Rattle.std.proofs.Common.{refl, None}
use Rattle.print_pages_spec.specs.Pieces.{Text}
use Rattle.print_pieces.proofs.Steps.{asks, passes}
use Rattle.print_pieces.proofs.printer.Printer.write_by_steps.Goals as goal

pub returns-then-is_none : goal.returns-then-is_none
returns-then-is_none g c = asks (Text None c.args.text.now) c.utf8.text refl c.write_str.result c.is_none.ensures c.if-is_none.true c.err-self.ensures.value c.write_str.ensures.value c.write_str.ensures.keeps

pub returns-else-is_none : goal.returns-else-is_none
returns-else-is_none g c = passes (Text None c.args.text.now) c.utf8.text c.is_none.ensures c.if-is_none.false
