use Rattle.parse_lexer_laws.proofs.Orderly.{parser_orderly, tokens_read}
use Rattle.parse_lexer_laws.proofs.tokens_law.Goals as goal

pub returns-clause-orderly : goal.returns-clause-orderly
returns-clause-orderly g c = parser_orderly g.I.Tokened.machine g.I.Tokened.good g.I.Tokened.same

pub returns-clause-read : goal.returns-clause-read
returns-clause-read g c = tokens_read g.I.Tokened.machine g.I.Tokened.good g.I.Tokened.same
