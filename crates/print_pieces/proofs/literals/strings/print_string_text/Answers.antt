use Rattle.print_pieces.proofs.literals.strings.print_string_text.Goals as goal

pub returns-in-Some : goal.returns-in-Some
returns-in-Some g c = rw c.in-Some.is c.print_read.ensures

pub returns-in-None : goal.returns-in-None
returns-in-None g c = rw c.in-None.is c.print_quoted.ensures
