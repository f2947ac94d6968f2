use Rattle.print_spelling.proofs.string.StringLemmas.{quoted_is_read}
use Rattle.print_spelling.proofs.string.laws.quoted_is_read.Goals as goal

pub returns : goal.returns
returns c = quoted_is_read
