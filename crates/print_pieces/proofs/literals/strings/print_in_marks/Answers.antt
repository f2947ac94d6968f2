use Rattle.print_pieces.proofs.literals.Plain.{in_marks}
use Rattle.print_pieces.proofs.literals.strings.print_in_marks.Goals as goal

pub returns : goal.returns
returns g c = in_marks c.args.text.now c.utf8.text c.write.ensures c.write-2.ensures c.write-3.ensures
