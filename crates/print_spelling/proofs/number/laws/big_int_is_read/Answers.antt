use Rattle.print_spelling.proofs.number.BigLemmas.{big_is_read}
use Rattle.print_spelling.proofs.number.laws.big_int_is_read.Goals as goal

pub returns : goal.returns
returns c = big_is_read
