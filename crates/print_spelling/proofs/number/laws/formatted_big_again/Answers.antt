use Rattle.print_spelling.proofs.number.BigAgainLemmas.{formatted_big_again}
use Rattle.print_spelling.proofs.number.laws.formatted_big_again.Goals as goal

pub returns : goal.returns
returns c = formatted_big_again
