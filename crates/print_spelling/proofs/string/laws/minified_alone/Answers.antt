use Rattle.print_spelling.proofs.string.RawLemmas.{minified_alone}
use Rattle.print_spelling.proofs.string.laws.minified_alone.Goals as goal

pub returns : goal.returns
returns c = minified_alone
