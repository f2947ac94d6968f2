use Rattle.print_pieces.proofs.literals.Split.{in_two}
use Rattle.print_pieces.proofs.literals.parts.in_two.Goals as goal

pub returns : goal.returns
returns c = in_two
