use Rattle.lex_literal.proofs.StandLemmas.{big_stands}
use Rattle.lex_literal.proofs.laws.big_int_stands.Goals as goal

pub returns : goal.returns
returns c = big_stands
