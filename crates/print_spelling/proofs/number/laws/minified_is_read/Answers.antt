use Rattle.print_spelling.proofs.number.MinifiedLemmas.{minified_is_read}
use Rattle.print_spelling.proofs.number.laws.minified_is_read.Goals as goal

pub returns : goal.returns
returns c = minified_is_read
