use Rattle.std.specs.Str.{chars}
use Rattle.lex_pieces.proofs.TriviaLemmas.{one_piece}
use Rattle.lex_pieces.proofs.laws.one_piece_stands.Goals as goal

pub returns : goal.returns
returns c = one_piece c.args.goal c.args.first (chars c.args.text.now)
