use Rattle.std.proofs.Common.{◌≡◌, ℕ, List, ◌∷◌, false, ap, sym, arith, rules, ◌∙◌, subst}
use Rattle.std.specs.Str.{chars}
use Rattle.lex_pieces.specs.Comments.{IsBlock, is_end}
use Rattle.lex_pieces.proofs.Passing.{seam}
use Rattle.lex_pieces.proofs.Ending.{passed_unended, more_unended, no_end_before, no_end_other, closes, never_closes}
use Rattle.lex_pieces.proofs.runs.split_block.Goals as goal
use Rattle.lex_pieces.proofs.runs.split_block.Goals.{else-c-eq42-via-else-c-eq42, else-c-eq42-via-then-c-eq42+in-None-1}

pub loop-c-init : goal.loop-c-init
loop-c-init c = (c.skip_plain-rest.utf8, omega (arith, c.skip_plain-rest.ensures.shorter), passed_unended _ _ c.skip_plain-rest.ensures.passed)

pub split_at-requires : goal.split_at-requires
split_at-requires c =
    let h = c.loop-c.invariant.2 in
    (seam c.args.text.now c.loop-c.rest.now h.front c.utf8.text c.loop-c.invariant.0 h.whole).boundary

pub returns-in-Some-clause-cut : goal.returns-in-Some-clause-cut
returns-in-Some-clause-cut c =
    let text = chars c.args.text.now in
    let rest = c.loop-c.rest.now in
    let h = c.loop-c.invariant.2 in
    let m = seam c.args.text.now rest h.front c.utf8.text c.loop-c.invariant.0 h.whole in
    let own : chars c.split_at.result.0.now ≡ h.front = ap chars c.split_at.ensures.front ∙ m.before in
    let there = c.in-Some.ensures.cut ∙ ap (λ x. x ∷ chars c.in-Some.more.now) c.if-c-eq42.true ∙ ap (λ (l : List ℕ). 42 ∷ l) c.in-Some-strip.ensures.cut in
    subst (λ l. IsBlock text l (chars c.in-Some-strip.after.now)) (sym own) (closes text (chars rest) (chars c.in-Some-strip.after.now) h there)

no_end : (c : goal.After-skip_plain-rest-in-Some) → is_end c.in-Some.c (chars c.in-Some.more.now) ≡ false
no_end c =
    elim c.else-c-eq42.branch [
      | else-c-eq42-via-else-c-eq42 w ↦ no_end_other c.in-Some.c (chars c.in-Some.more.now) w.if-c-eq42.false
      | else-c-eq42-via-then-c-eq42+in-None-1 w ↦ search (rules, no_end_before)
    ]

pub loop-c-preserved : goal.loop-c-preserved
loop-c-preserved c = (
  c.skip_plain-rest-in-Some.utf8,
  omega (arith, c.in-Some.ensures.shorter),
  more_unended _ _ _ _ c.in-Some.c c.loop-c.invariant.2 c.in-Some.ensures.cut (no_end c) c.skip_plain-rest-in-Some.ensures.passed,
)

pub returns-clause-cut : goal.returns-clause-cut
returns-clause-cut c = never_closes _ _ c.loop-c.invariant.2 c.in_default.ensures.cut
