use Rattle.std.proofs.Common.{◌≡◌, ◌∙◌, ap, subst, arith, map}
use Rattle.std.specs.Prelude.{IfOk}
use Rattle.std.specs.Char.{to_ascii_lowercase}
use Rattle.std.specs.Str.Parse.{digits_value}
use Rattle.base_number.specs.Numbers.{SpecNumber, plain, trim_front, scaled, in_radix}
use Rattle.base_number.specs.DigitText.{digits_in}
use Rattle.base_number.proofs.NumberLemmas.{kept_in_radix}
use Rattle.base_number.proofs.TextLemmas.{own_all, radix_digits, value_lower, small_in_radix, large_in_radix}
use Rattle.base_number.proofs.in_radix.Goals as goal

pub scaled-requires : goal.scaled-requires
scaled-requires c =
    rw c.as_slice.ensures (own_all c.in_ok-digits-in-Some.digits.items c.in_ok-digits-in-Some.ensures.digits)

pub invariant_of-result : goal.invariant_of-result
invariant_of-result c =
    let digits : c.in_ok-digits-in-None.digits.items ≡ trim_front (map to_ascii_lowercase (plain c.args.text.now)) = c.in_ok-digits-in-None.ensures ∙ radix_digits c.args.radix c.args.text.now c.trim_front-text.result.now c.requires.upper c.requires.digits c.trim_front-text.ensures in
    let value : digits_value c.args.radix c.in_ok-digits-in-None.digits.items ≡ digits_value c.args.radix (digits_in c.trim_front-text.result.now) = ap (digits_value c.args.radix) c.in_ok-digits-in-None.ensures ∙ value_lower c.args.radix 0 (digits_in c.trim_front-text.result.now) in
    kept_in_radix c.args.radix c.args.text.now c.in_ok-digits-in-None.digits.items c.requires.lower c.requires.upper c.requires.digits digits (λ small. c.in-None.ensures (omega (arith, value, small)))

pub returns-in_ok-digits-in-Some : goal.returns-in_ok-digits-in-Some
returns-in_ok-digits-in-Some c =
    let digits = c.in_ok-digits-in-Some.digits.items in
    let whole : scaled (digits_in c.as_slice.result.now) c.zero.result ≡ in_radix c.args.radix c.args.text.now = rw (c.as_slice.ensures, c.zero.ensures)
    (small_in_radix c.args.radix c.in-Some.value c.args.text.now c.trim_front-text.result.now c.in_ok-digits-in-Some.digits.items c.requires.upper c.requires.digits c.trim_front-text.ensures c.in-Some.ensures.1 (omega (arith, c.in-Some.ensures.0, c.in-Some.ensures.1)) c.in_ok-digits-in-Some.ensures.digits c.in_ok-digits-in-Some.ensures.value) in
    let P : SpecNumber → Type 0 = λ n. IfOk c.scaled.result (λ value. value ≡ n) in
    subst P whole c.scaled.ensures

pub returns-in_ok-digits-in-None : goal.returns-in_ok-digits-in-None
returns-in_ok-digits-in-None c =
    large_in_radix c.args.radix c.args.text.now c.trim_front-text.result.now c.in_ok-digits-in-None.digits.items c.requires.upper c.requires.digits c.trim_front-text.ensures c.in_ok-digits-in-None.ensures c.in-None.ensures
