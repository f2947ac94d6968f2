use Rattle.print_spelling.proofs.string.RawLemmas.{formatted_again}
use Rattle.print_spelling.proofs.string.laws.formatted_again.Goals as goal

pub returns : goal.returns
returns c = formatted_again
