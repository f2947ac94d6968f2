use Rattle.std.proofs.Common.{ℕ, List, ◌∷◌, [], false, refl, ap, sym, subst, ◌∙◌}
use Rattle.std.specs.Str.{chars}
use Rattle.lex_literal.specs.Escapes.{begins}
use Rattle.base_token.specs.Utf16.{utf16}
use Rattle.lex_literal.specs.Strings.{is_quote, SpellsString}
use Rattle.lex_literal.proofs.StringLemmas.{so_far_none, at_more, closes, ends_with}
use Rattle.lex_literal.proofs.string.read_string.Goals as goal

pub before-requires : goal.before-requires
before-requires c =
    let s = at_more c.in-Some.quote _ _ (chars c.split_plain.result.0.now) (chars c.split_plain.result.1.now) [] (utf16 (chars c.split_plain.result.0.now)) false
    (so_far_none c.in-Some.quote (chars c.in-Some.inner.now)) c.split_plain.ensures.run c.split_plain.ensures.after refl in
    ends_with c.in-Some.quote _ _ _ _ _ _ c.in-Some-pop.c c.in-Some.ensures.cut s c.in-Some-pop.ensures.cut

pub returns-in-Some-pop-clause-string : goal.returns-in-Some-pop-clause-string
returns-in-Some-pop-clause-string c =
    let s = at_more c.in-Some.quote _ _ (chars c.split_plain.result.0.now) (chars c.split_plain.result.1.now) [] (utf16 (chars c.split_plain.result.0.now)) false
    (so_far_none c.in-Some.quote (chars c.in-Some.inner.now)) c.split_plain.ensures.run c.split_plain.ensures.after refl in
    let q = ap (begins is_quote) (sym c.in-Some.ensures.cut) ∙ c.requires.quote in
    let at = c.in-Some-pop.ensures.cut ∙ ap (λ x. x ∷ chars c.in-Some-pop.rest.now) c.if-c-quote.true in
    let spelt = closes c.in-Some.quote _ _ _ _ _ false q c.in-Some.ensures.cut s at in
    (subst (λ (units : List ℕ). SpellsString units false (chars c.args.text.now) (chars c.in-Some-pop.rest.now)) (sym c.from.ensures) spelt, c.before-in-Some-pop.ensures.cut)
