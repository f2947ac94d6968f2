use Rattle.print_spelling.proofs.number.BigLemmas.{minified_stands}
use Rattle.print_spelling.proofs.number.laws.minified_stands.Goals as goal

pub returns : goal.returns
returns c = minified_stands
