use Rattle.std.specs.Str.{chars}
use Rattle.lex_pieces.proofs.Longest.{answers}
use Rattle.lex_pieces.proofs.punctuators.punctuator.Goals as goal

pub returns-clause-punctuator : goal.returns-clause-punctuator
returns-clause-punctuator c = answers (chars c.args.text.now) c.read.result c.read.ensures.value
