use Rattle.std.specs.Str.{chars}
use Rattle.lex_pieces.proofs.Longest.{one_punctuator}
use Rattle.lex_pieces.proofs.laws.one_punctuator_stands.Goals as goal

pub returns : goal.returns
returns c = one_punctuator (chars c.args.text.now)
