use Rattle.print_spelling.proofs.template.AgainLemmas.{written_again}
use Rattle.print_spelling.proofs.template.laws.written_again.Goals as goal

pub returns : goal.returns
returns c = written_again
