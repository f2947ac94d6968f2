use Rattle.print_pieces.proofs.Steps.{unmarked}
use Rattle.print_pieces.proofs.printer.Printer.mark.Goals as goal

pub returns-else-needs_marks : goal.returns-else-needs_marks
returns-else-needs_marks g c = unmarked c.args.pos c.needs_marks.ensures c.if-needs_marks.false
