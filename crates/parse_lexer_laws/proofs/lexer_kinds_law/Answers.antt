use Rattle.parse_lexer_laws.proofs.WordKinds.{lexer_tells_kinds}
use Rattle.parse_lexer_laws.proofs.lexer_kinds_law.Goals as goal

pub returns : goal.returns
returns c = lexer_tells_kinds
