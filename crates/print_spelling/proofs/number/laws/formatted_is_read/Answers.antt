use Rattle.print_spelling.proofs.number.PlainLemmas.{formatted_is_read}
use Rattle.print_spelling.proofs.number.laws.formatted_is_read.Goals as goal

pub returns : goal.returns
returns c = formatted_is_read
