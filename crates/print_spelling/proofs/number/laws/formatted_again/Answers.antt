use Rattle.print_spelling.proofs.number.AgainLemmas.{formatted_again}
use Rattle.print_spelling.proofs.number.laws.formatted_again.Goals as goal

pub returns : goal.returns
returns c = formatted_again
