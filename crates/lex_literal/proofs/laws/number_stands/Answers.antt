use Rattle.lex_literal.proofs.StandLemmas.{number_stands}
use Rattle.lex_literal.proofs.laws.number_stands.Goals as goal

pub returns : goal.returns
returns c = number_stands
