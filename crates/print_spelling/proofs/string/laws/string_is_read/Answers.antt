use Rattle.print_spelling.proofs.string.RawLemmas.{string_is_read}
use Rattle.print_spelling.proofs.string.laws.string_is_read.Goals as goal

pub returns : goal.returns
returns c = string_is_read
