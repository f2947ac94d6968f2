use Rattle.std.proofs.Common.{◌≡◌, ◌∙◌, ap, true}
use Rattle.base_number.specs.Numbers.{unsigned, trim_front, spells_digits, is_negative}
use Rattle.base_number.specs.DigitText.{digits_in}
use Rattle.base_number.proofs.TextLemmas.{spelled_kept, spelled_signed}
use Rattle.base_number.proofs.exponent.Exponent.read.Goals as goal

pub new-requires : goal.new-requires
new-requires c =
    let spelled : spells_digits 10 (unsigned c.in-Some.text.now) ≡ true = rw c.in-Some.is at c.requires in
    let kept : c.in_ok-digits-in-Some.digits.items ≡ trim_front (digits_in (unsigned c.in-Some.text.now)) = c.in_ok-digits-in-Some.ensures ∙ (c.trim_front.ensures ∙ ap (λ ds. trim_front (digits_in ds)) c.unsigned.ensures) in
    spelled_kept (unsigned c.in-Some.text.now) c.in_ok-digits-in-Some.digits.items spelled kept

pub returns-in_ok-digits-in-Some : goal.returns-in_ok-digits-in-Some
returns-in_ok-digits-in-Some c =
    let spelled : spells_digits 10 (unsigned c.in-Some.text.now) ≡ true = rw c.in-Some.is at c.requires in
    let kept : c.in_ok-digits-in-Some.digits.items ≡ trim_front (digits_in (unsigned c.in-Some.text.now)) = c.in_ok-digits-in-Some.ensures ∙ (c.trim_front.ensures ∙ ap (λ ds. trim_front (digits_in ds)) c.unsigned.ensures) in
    rw (c.in-Some.is, c.new.ensures, c.is_negative.ensures) (spelled_signed (is_negative c.in-Some.text.now) (unsigned c.in-Some.text.now) c.in_ok-digits-in-Some.digits.items spelled kept)
