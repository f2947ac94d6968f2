use Rattle.lex_literal.proofs.NumeralLemmas.{one_number}
use Rattle.lex_literal.proofs.laws.one_number_stands.Goals as goal

pub returns : goal.returns
returns c = one_number
