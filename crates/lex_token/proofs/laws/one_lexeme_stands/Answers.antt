use Rattle.std.specs.Str.{chars}
use Rattle.lex_token.proofs.LexemeLemmas.{one_lexeme}
use Rattle.lex_token.proofs.laws.one_lexeme_stands.Goals as goal

pub returns : goal.returns
returns c = one_lexeme c.args.goal (chars c.args.text.now)
