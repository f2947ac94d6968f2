use Rattle.lex_literal.proofs.TaggedLemmas.{tagged_is_read}
use Rattle.print_spelling.proofs.template.laws.tagged_is_read.Goals as goal

pub returns : goal.returns
returns c = tagged_is_read
