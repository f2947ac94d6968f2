use Rattle.print_spelling.proofs.string.NameLemmas.{name_is_read}
use Rattle.print_spelling.proofs.string.laws.name_is_read.Goals as goal

pub returns : goal.returns
returns c = name_is_read
