use Rattle.std.proofs.Common.{Some, None, arith}
use Rattle.std.proofs.lemmas.Str.Pattern.{strip_prefix_char}
use Rattle.print_pieces.proofs.literals.Parted.{line_printed, return_printed}
use Rattle.print_pieces.proofs.literals.parts.print_return.Goals as goal

pub returns-in-Some : goal.returns-in-Some
returns-in-Some g c = line_printed c.args.part.now c.in-Some.rest.now (strip_prefix_char 10 c.args.part.now (Some c.in-Some.rest) c.in-Some.ensures.cases (omega arith)) c.write.ensures

pub returns-in-None : goal.returns-in-None
returns-in-None g c = return_printed c.args.part.now c.utf8.part c.requires (strip_prefix_char 10 c.args.part.now None c.in-None.ensures.cases (omega arith)) c.write-in-None.ensures
