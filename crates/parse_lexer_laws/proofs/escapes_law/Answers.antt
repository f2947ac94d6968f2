use Rattle.parse_lexer_laws.proofs.Escapes.{escapes_told}
use Rattle.parse_lexer_laws.proofs.escapes_law.Goals as goal

pub returns : goal.returns
returns c = record { told = escapes_told }
