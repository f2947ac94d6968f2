use Rattle.std.proofs.Common.{Some, None, arith}
use Rattle.std.proofs.lemmas.Str.Pattern.{strip_suffix_char}
use Rattle.print_pieces.proofs.literals.Parted.{front_printed, all_printed}
use Rattle.print_pieces.proofs.literals.parts.print_front.Goals as goal

pub returns-in-Some : goal.returns-in-Some
returns-in-Some g c = front_printed c.args.part.now c.in-Some.front.now c.utf8.part (strip_suffix_char 13 c.args.part.now (Some c.in-Some.front) c.in-Some.ensures.cases (omega arith)) c.write.ensures

pub returns-in-None : goal.returns-in-None
returns-in-None g c = all_printed c.args.part.now c.utf8.part (strip_suffix_char 13 c.args.part.now None c.in-None.ensures.cases (omega arith)) c.write-in-None.ensures
