use Rattle.print_spelling.proofs.string.NameLemmas.{key_is_read}
use Rattle.print_spelling.proofs.string.laws.key_is_read.Goals as goal

pub returns : goal.returns
returns c = key_is_read
