use Rattle.lex_literal.proofs.TemplateLemmas.{one_piece}
use Rattle.lex_literal.proofs.laws.one_piece_stands.Goals as goal

pub returns : goal.returns
returns c = one_piece
