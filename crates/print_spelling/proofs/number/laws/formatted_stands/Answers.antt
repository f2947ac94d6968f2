use Rattle.print_spelling.proofs.number.BigAgainLemmas.{formatted_stands}
use Rattle.print_spelling.proofs.number.laws.formatted_stands.Goals as goal

pub returns : goal.returns
returns c = formatted_stands
