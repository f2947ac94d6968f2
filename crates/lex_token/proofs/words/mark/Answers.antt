use Rattle.std.proofs.Common.{sym, ap, subst, ◌∙◌}
use Rattle.std.specs.Str.{chars}
use Rattle.lex_pieces.specs.Punctuators.{IsPunctuator}
use Rattle.lex_token.specs.Lexemes.{plain}
use Rattle.lex_token.proofs.SortLemmas.{mark_is}
use Rattle.lex_token.proofs.words.mark.Goals as goal

pub mark_token-requires : goal.mark_token-requires
mark_token-requires c = mark_is (chars c.args.text.now) c.in-Some.kind (chars c.in-Some.rest.now) c.in-Some.ensures.punctuator

pub returns-in-Some-clause-mark : goal.returns-in-Some-clause-mark
returns-in-Some-clause-mark c = (
  c.in-Some.kind,
  subst (λ l. IsPunctuator (chars c.args.text.now) c.in-Some.kind (chars l)) (sym c.plain.ensures.rest) c.in-Some.ensures.punctuator,
  c.plain.ensures.view ∙ ap plain c.mark_token.ensures,
)

pub returns-in-None-clause-mark : goal.returns-in-None-clause-mark
returns-in-None-clause-mark c = λ m. (λ x rest g. c.in-None.ensures.punctuator g.0 rest g.1, c.stray.ensures)
