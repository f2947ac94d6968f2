use Rattle.std.proofs.Common.{◌≡◌, ◌∙◌, ◌++◌, ap, length}
use Rattle.base_number.specs.Numbers.{IsDecimal, signed, trim_back}
use Rattle.base_number.specs.DigitText.{digits_in}
use Rattle.base_number.proofs.NumberLemmas.{kept_decimal}
use Rattle.base_number.proofs.FormLemmas.{kept_parts}
use Rattle.base_number.proofs.scaled.Goals as goal
use Rattle.base_number.proofs.scaled.Goals.{then-count-eq0, else-count-eq0+in_ok-exponent}

pub invariant_of-result : goal.invariant_of-result
invariant_of-result c =
    let trimmed : c.in_ok-text.text.items ≡ trim_back (digits_in c.trim_front.result.now) = c.in_ok-text.ensures ∙ c.trim_back-zeros.ensures.value in
    let decimal : IsDecimal c.in_ok-text.text.items (signed c.in_ok-negative.negative c.in_ok-negative.exponent.items) =
    kept_decimal (digits_in c.args.text.now) (digits_in c.trim_front.result.now) c.in_ok-text.text.items _ c.requires c.trim_front.ensures trimmed
    (λ none. c.in_ok-negative.ensures.value ∙ elim c.if-count-eq0.branch [
      | then-count-eq0 w ↦ w.exponent2-is ∙ w.zero-exponent.ensures
      | else-count-eq0+in_ok-exponent w ↦ absurd (w.if-count-eq0.false (c.len-count.ensures.value ∙ ap length none))
    ]) in
    kept_parts c.in_ok-negative.negative c.in_ok-text.text.items c.in_ok-negative.exponent.items _ _ c.len-count.ensures.value (c.in_ok-extend_from_slice.ensures.ok ∙ ap (λ ds. c.in_ok-text.text.items ++ ds) c.as_slice.ensures) decimal c.in_ok-negative.ensures.form
