use Rattle.std.specs.Str.{chars}
use Rattle.lex_pieces.proofs.RegExpLemmas.{one_reg_exp}
use Rattle.lex_pieces.proofs.laws.one_regular_expression_stands.Goals as goal

pub returns : goal.returns
returns c = one_reg_exp (chars c.args.text.now)
