use Rattle.parse_lexer_laws.proofs.Backward.{parser_backward, tokens_consumed}
use Rattle.parse_lexer_laws.proofs.back_law.Goals as goal

pub returns-clause-backward : goal.returns-clause-backward
returns-clause-backward g c = parser_backward g.I.Tokened.machine g.I.Tokened.good g.I.Tokened.same

pub returns-clause-consumed : goal.returns-clause-consumed
returns-clause-consumed g c = tokens_consumed g.I.Tokened.machine g.I.Tokened.good g.I.Tokened.same
