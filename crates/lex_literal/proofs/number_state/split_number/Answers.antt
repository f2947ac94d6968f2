use Rattle.std.proofs.Common.{List, ℕ, ◌≡◌, ◌<◌, ◌-◌, take, length, ap, subst, sym, ◌∙◌, IsUtf8}
use Rattle.std.specs.Str.{chars}
use Rattle.lex_literal.specs.declared.number_state.State.{State}
use Rattle.lex_literal.specs.declared.number_state.State.TheVariants as s
use Rattle.lex_literal.specs.NumberSteps.{IsFront, scan}
use Rattle.lex_literal.proofs.ScanLemmas.{Split, split}
use Rattle.lex_literal.proofs.number_state.split_number.Goals as goal

at : (text bytes behind : List ℕ) (q : State) → IsUtf8 text → bytes ≡ text → (q, behind) ≡ scan s.Start (s.Start, bytes) bytes → Split text behind q
at text bytes behind q u b e = split text behind q u (e ∙ ap (λ l. scan s.Start (s.Start, l) l) b)

pub overflow_sub-text : goal.overflow_sub-text
overflow_sub-text c = (at c.args.text.now c.as_bytes.result.now c.scan-state.result.1.now c.scan-state.result.0 c.utf8.text c.as_bytes.ensures.value c.scan-state.ensures).order

pub split_at-requires : goal.split_at-requires
split_at-requires c = (at c.args.text.now c.as_bytes.result.now c.scan-state.result.1.now c.scan-state.result.0 c.utf8.text c.as_bytes.ensures.value c.scan-state.ensures).boundary

pub returns-clause-front : goal.returns-clause-front
returns-clause-front c =
    let f = (at c.args.text.now c.as_bytes.result.now c.scan-state.result.1.now c.scan-state.result.0 c.utf8.text c.as_bytes.ensures.value c.scan-state.ensures).front in
    subst (λ (l : List ℕ). IsFront (chars c.args.text.now) c.scan-state.result.0 l (chars c.split_at.result.1.now)) (sym c.split_at.ensures.front)
    (subst (λ (l : List ℕ). IsFront (chars c.args.text.now) c.scan-state.result.0 (take (length c.args.text.now - length c.scan-state.result.1.now) c.args.text.now) (chars l)) (sym c.split_at.ensures.back) f)

pub returns-clause-whole : goal.returns-clause-whole
returns-clause-whole c h =
    (at c.args.text.now c.as_bytes.result.now c.scan-state.result.1.now c.scan-state.result.0 c.utf8.text c.as_bytes.ensures.value c.scan-state.ensures).whole
    (subst (λ (l : List ℕ). 0 < length l) c.split_at.ensures.front h)

pub returns-clause-own : goal.returns-clause-own
returns-clause-own c =
    subst (λ (l : List ℕ). chars l ≡ l) (sym c.split_at.ensures.front)
    (at c.args.text.now c.as_bytes.result.now c.scan-state.result.1.now c.scan-state.result.0 c.utf8.text c.as_bytes.ensures.value c.scan-state.ensures).ascii
