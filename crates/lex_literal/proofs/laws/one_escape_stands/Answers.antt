use Rattle.lex_literal.proofs.EscapeLemmas.{one_escape}
use Rattle.lex_literal.proofs.laws.one_escape_stands.Goals as goal

pub returns : goal.returns
returns c = one_escape
