use Rattle.std.proofs.Common.{◌≡◌, true, false, sym, ◌∙◌, eq-eqb}
use Rattle.std.specs.Cmp.{booleans_Decides}
use Rattle.std.proofs.lemmas.Bool.{eqb-true}
use Rattle.base_number.proofs.FormLemmas.{texts_tell, parts_tell}
use Rattle.base_number.proofs.NumValue.is_same.Goals as goal
use Rattle.base_number.proofs.NumValue.is_same.Goals.{then-negative-other_negative, else-negative-other_negative}

pub returns-then-count-other_count : goal.returns-then-count-other_count
returns-then-count-other_count c =
    let view = rw c.in-Scaled-Scaled.is-0 at c.self.view_is in
    let kept = rw c.in-Scaled-Scaled.is-0 at c.self.invariant in
    let other_view = rw c.in-Scaled-Scaled.is-1 at c.other.view_is in
    let other_kept = rw c.in-Scaled-Scaled.is-1 at c.other.invariant in
    let s = c.in-Scaled-Scaled in
    elim c.if-negative-other_negative.branch [
      | then-negative-other_negative w ↦ rw (c.eq.ensures, c.as_slice.ensures, c.as_slice-then-count-other_count.ensures)
          (texts_tell s.negative s.other_negative s.count s.other_count s.text.items s.other_text.items _ _ kept other_kept view other_view ((booleans_Decides _ _).0 w.if-negative-other_negative.true) (eqb-true _ _ (sym w.value-is ∙ c.if-count-other_count.true)))
      | else-negative-other_negative w ↦ absurd (let differs : true ≡ false = sym c.if-count-other_count.true ∙ (w.value-is ∙ w.if-negative-other_negative.false) in cc)
    ]

pub returns-else-count-other_count : goal.returns-else-count-other_count
returns-else-count-other_count c =
    let view = rw c.in-Scaled-Scaled.is-0 at c.self.view_is in
    let kept = rw c.in-Scaled-Scaled.is-0 at c.self.invariant in
    let other_view = rw c.in-Scaled-Scaled.is-1 at c.other.view_is in
    let other_kept = rw c.in-Scaled-Scaled.is-1 at c.other.invariant in
    let s = c.in-Scaled-Scaled in (
      λ told. absurd (let differs : true ≡ false = sym told ∙ c.if-count-other_count.false in cc),
      λ equal. let same : (s.negative ≡ s.other_negative) × (s.count ≡ s.other_count) = parts_tell s.negative s.other_negative s.count s.other_count s.text.items s.other_text.items _ _ kept other_kept view other_view equal in
          elim c.if-negative-other_negative.branch [
            | then-negative-other_negative w ↦ w.value-is ∙ eq-eqb s.count s.other_count same.1
            | else-negative-other_negative w ↦ w.value-is ∙ (booleans_Decides s.negative s.other_negative).1 same.0
          ],
    )
