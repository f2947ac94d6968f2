use Rattle.parse_lexer_laws.proofs.Slashes.{lexer_rereads, lexer_consumed}
use Rattle.parse_lexer_laws.proofs.lexer_consumed_law.Goals as goal

pub returns-clause-rereads : goal.returns-clause-rereads
returns-clause-rereads c = lexer_rereads

pub returns-clause-consumed : goal.returns-clause-consumed
returns-clause-consumed c = lexer_consumed
