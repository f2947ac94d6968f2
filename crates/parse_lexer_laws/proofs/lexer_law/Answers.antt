use Rattle.parse_lexer_laws.proofs.Lexes.{lexer_constant, lexer_read}
use Rattle.parse_lexer_laws.proofs.lexer_law.Goals as goal

pub returns-clause-constant : goal.returns-clause-constant
returns-clause-constant c = lexer_constant

pub returns-clause-read : goal.returns-clause-read
returns-clause-read c = lexer_read
