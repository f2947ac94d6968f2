use Rattle.std.specs.Str.{chars}
use Rattle.lex_pieces.proofs.NameLemmas.{one_name}
use Rattle.lex_pieces.proofs.laws.one_name_stands.Goals as goal

pub returns : goal.returns
returns c = one_name (chars c.args.text.now)
