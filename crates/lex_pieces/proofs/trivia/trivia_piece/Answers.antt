use Rattle.std.specs.Str.{chars}
use Rattle.lex_pieces.proofs.TriviaLemmas.{answers}
use Rattle.lex_pieces.proofs.trivia.trivia_piece.Goals as goal

pub returns-clause-piece : goal.returns-clause-piece
returns-clause-piece c = answers c.args.end c.args.goal c.args.first (chars c.args.text.now) c.read.result c.read.ensures.piece
