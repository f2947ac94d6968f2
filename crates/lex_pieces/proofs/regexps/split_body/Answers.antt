use Rattle.std.proofs.Common.{◌≡◌, ◌∷◌, ◌++◌, ap, sym, arith, rules, false, ◌∙◌}
use Rattle.std.specs.Str.{chars}
use Rattle.lex_pieces.proofs.Passing.{seam}
use Rattle.lex_pieces.proofs.RegExpLemmas.{ends_body, goes_more, goes_passed, passed_run}
use Rattle.lex_pieces.proofs.regexps.split_body.Goals as goal

pub loop-c-init : goal.loop-c-init
loop-c-init c = (c.split_reg_exp_char.ensures.texts.1, omega (arith, c.split_reg_exp_char.ensures.lengths), goes_passed false _ _ (passed_run _ _ c.split_reg_exp_char.ensures.after))

pub split_at-requires : goal.split_at-requires
split_at-requires c =
    let h = c.loop-c.invariant.2 in
    (seam c.args.text.now c.loop-c.rest.now h.front c.utf8.text c.loop-c.invariant.0 h.whole).boundary

pub returns-then-not-in_class-clause-body : goal.returns-then-not-in_class-clause-body
returns-then-not-in_class-clause-body c =
    let text = chars c.args.text.now in
    let rest = c.loop-c.rest.now in
    let more = chars c.in-Some.more.now in
    let h = c.loop-c.invariant.2 in
    let m = seam c.args.text.now rest h.front c.utf8.text c.loop-c.invariant.0 h.whole in
    let own : chars c.split_at.result.0.now ≡ h.front = ap chars c.split_at.ensures.front ∙ m.before in
    let there : chars rest ≡ 47 ∷ more = c.in-Some.ensures.cut ∙ ap (λ x. x ∷ more) c.if-c-eq47.true in
    let outside : c.loop-c.in_class ≡ false = search rules in (
      ends_body text (chars rest) more c.loop-c.in_class h outside there,
      h.whole ∙ ap (λ l. h.front ++ l) there ∙ ap (λ l. l ++ 47 ∷ more) (sym own),
    )

pub loop-c-preserved : goal.loop-c-preserved
loop-c-preserved c = (
  c.split_reg_exp_char-in-Some.ensures.texts.1,
  omega (arith, c.in-Some.ensures.shorter, c.in_ok-now_in_class.ensures.rest.1, c.split_reg_exp_char-in-Some.ensures.lengths),
  goes_more c.loop-c.in_class c.in_ok-now_in_class.now_in_class (chars c.args.text.now) (chars c.loop-c.rest.now) (c.in-Some.c ∷ chars c.in-Some.more.now) _ _
      c.loop-c.invariant.2 c.in-Some.ensures.cut c.in_ok-now_in_class.ensures.passed (passed_run _ _ c.split_reg_exp_char-in-Some.ensures.after),
)
