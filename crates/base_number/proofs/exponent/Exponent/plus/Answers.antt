use Rattle.std.proofs.Common.{◌≡◌, ◌∙◌, ap, arith}
use Rattle.std.specs.Str.Parse.{digits_value}
use Rattle.std.proofs.lemmas.Grind.{common_steps}
use Rattle.base_number.specs.DigitText.{digits_in}
use Rattle.base_number.proofs.TextLemmas.{own_value}
use Rattle.base_number.proofs.exponent.Exponent.plus.Goals as goal
use Rattle.base_number.proofs.exponent.Exponent.plus.Goals.{in_default-via-in-Some+else-value-addend, in_default-via-in_default}

pub returns-in-Some : goal.returns-in-Some
returns-in-Some c =
    let own : digits_value 10 (digits_in c.self.inside.digits.items) ≡ digits_value 10 c.self.inside.digits.items = own_value c.self.inside.digits.items c.self.invariant in
    let value : c.in-Some.value ≡ digits_value 10 c.self.inside.digits.items = c.in-Some.ensures.1 ∙ (ap (λ ds. digits_value 10 (digits_in ds)) c.as_slice-2.ensures ∙ own) in
    grind (arith, common_steps, value)

pub difference-requires-clause-enough : goal.difference-requires-clause-enough
difference-requires-clause-enough c =
    let own : digits_value 10 (digits_in c.self.inside.digits.items) ≡ digits_value 10 c.self.inside.digits.items = own_value c.self.inside.digits.items c.self.invariant in
    let seen : digits_value 10 (digits_in c.as_slice-2.result.now) ≡ digits_value 10 c.self.inside.digits.items = ap (λ ds. digits_value 10 (digits_in ds)) c.as_slice-2.ensures ∙ own in
    rw c.as_slice-in_default.ensures
    elim c.in_default.branch [
      | in_default-via-in-Some+else-value-addend w ↦ omega (arith, seen, w.in-Some.ensures.1, w.if-value-addend.false)
      | in_default-via-in_default w ↦ omega (arith, seen, w.in_default.ensures, c.ranges.addend.fits)
    ]
