use Rattle.std.proofs.Common.{◌≡◌, ◌∙◌, sym, ap}
use Rattle.std.proofs.lemmas.Bool.Decides.{Decides-eqb}
use Rattle.base_number.specs.Numbers.{trim_front}
use Rattle.base_number.specs.DigitText.{digits_in}
use Rattle.base_number.proofs.DigitLemmas.{signed_zero, signed_kept}
use Rattle.base_number.proofs.NumberLemmas.{kept_signed, zero_signed}
use Rattle.base_number.proofs.TextLemmas.{own_trimmed}
use Rattle.base_number.proofs.exponent.Exponent.into_parts.Goals as goal

pub returns-then-is_empty-clause-value : goal.returns-then-is_empty-clause-value
returns-then-is_empty-clause-value c =
    let kept : c.in_ok-kept.kept.items ≡ trim_front c.self.inside.digits.items = own_trimmed c.self.inside.digits.items _ c.self.invariant (c.in_ok-kept.ensures ∙ (c.trim_front.ensures ∙ ap (λ ds. trim_front (digits_in ds)) c.as_slice.ensures)) in
    rw (c.in_ok-from_slice.ensures.ok, ← c.self.view_is)
    (signed_zero c.self.inside.negative c.self.inside.digits.items c.in_ok-kept.kept.items kept ((Decides-eqb _ _).0 (sym c.is_empty.ensures ∙ c.if-is_empty.true)))

pub returns-then-is_empty-clause-form : goal.returns-then-is_empty-clause-form
returns-then-is_empty-clause-form c = rw c.in_ok-from_slice.ensures.ok zero_signed

pub returns-clause-value : goal.returns-clause-value
returns-clause-value c =
    let kept : c.in_ok-kept.kept.items ≡ trim_front c.self.inside.digits.items = own_trimmed c.self.inside.digits.items _ c.self.invariant (c.in_ok-kept.ensures ∙ (c.trim_front.ensures ∙ ap (λ ds. trim_front (digits_in ds)) c.as_slice.ensures)) in
    rw (← c.self.view_is) (signed_kept c.self.inside.negative c.self.inside.digits.items c.in_ok-kept.kept.items kept)

pub returns-clause-form : goal.returns-clause-form
returns-clause-form c =
    let kept : c.in_ok-kept.kept.items ≡ trim_front c.self.inside.digits.items = own_trimmed c.self.inside.digits.items _ c.self.invariant (c.in_ok-kept.ensures ∙ (c.trim_front.ensures ∙ ap (λ ds. trim_front (digits_in ds)) c.as_slice.ensures)) in
    kept_signed c.self.inside.negative c.self.inside.digits.items c.in_ok-kept.kept.items c.self.invariant kept (sym c.is_empty.ensures ∙ c.if-is_empty.false)
