use Rattle.std.proofs.Common.{inl, inr, sym, subst}
use Rattle.std.specs.Str.{chars}
use Rattle.std.proofs.lemmas.Option.{MatchOption-at_some}
use Rattle.lex_token.specs.Lexemes.{IsPattern}
use Rattle.lex_token.specs.Readings.{lexeme_view}
use Rattle.lex_token.proofs.SpelledLemmas.{if_some, is_pattern, none_of}
use Rattle.lex_token.proofs.literals.pattern.Goals as goal

pub returns-in-Ok-Some-clause-pattern : goal.returns-in-Ok-Some-clause-pattern
returns-in-Ok-Some-clause-pattern c =
    let found = c.in-Ok-Some.found in
    let h = MatchOption-at_some _ _ found c.in-Ok-Some.field-0-is c.in-Ok-Some.ensures.expression in
    let u = if_some _ c.in-Ok-Some.field-0 found c.in-Ok-Some.field-0-is c.in-Ok-Some.ensures.rest in
    subst (λ l. IsPattern (chars c.args.text.now) (lexeme_view c.plain.result) (chars l)) (sym c.plain.ensures.rest)
    (is_pattern found.body.now found.flags.now _ _ _ h u.0 u.1 c.plain.ensures.view)

pub returns-in-Ok-None-clause-pattern : goal.returns-in-Ok-None-clause-pattern
returns-in-Ok-None-clause-pattern c = λ m.
    let h = none_of _ _ c.in-Ok-None.field-0 c.in-Ok-None.field-0-is c.in-Ok-None.ensures.expression in
    (λ x rest g. h.0 g.0 g.1 rest g.2, inr (h.1, c.stray.ensures))

pub returns-in-Err-clause-pattern : goal.returns-in-Err-clause-pattern
returns-in-Err-clause-pattern c = λ m. let h = c.in-Err.ensures.expression in (λ x rest g. h.0 g.0 g.1 rest g.2, inl h.1)
