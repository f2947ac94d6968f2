use Rattle.lex_literal.proofs.StringLemmas.{one_string}
use Rattle.lex_literal.proofs.laws.one_string_stands.Goals as goal

pub returns : goal.returns
returns c = one_string
