use Rattle.print_spelling.proofs.string.NameLemmas.{key_word_is_read}
use Rattle.print_spelling.proofs.string.laws.key_word_is_read.Goals as goal

pub returns : goal.returns
returns c = key_word_is_read
