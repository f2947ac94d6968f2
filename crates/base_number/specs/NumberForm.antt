-- What contracts see of a number of the code, and the form in which it is kept.
use Rattle.std.specs.Prelude.{◌≡◌, ℕ, ◌<◌, ◌≤◌, Bool, true, List, length, take, drop}
use Rattle.std.specs.Str.Parse.{digits_value, AllDigits}
use Rattle.base_number.specs.Numbers.{SpecNumber, Scaled, InRadix, signed, numeral, IsDecimal, IsLargeInRadix}
use Rattle.base_number.specs.declared.Form.{Form}
use Rattle.base_number.specs.declared.Form.TheVariants as form

-- a number; the first `count` characters of a scaled one's text are its digits, the others those of its exponent
abbrev pub number_view : Form → SpecNumber
number_view (form.Scaled negative count text) = Scaled (take count text.items) (signed negative (drop count text.items))
number_view (form.InRadix radix digits) = InRadix radix digits.items

-- a sign and the digits of a number, 0 without a minus
pub record IsSigned (negative : Bool) (digits : List ℕ) : Type 0 where
  pub decimal : AllDigits 10 digits
  pub digits_again : digits ≡ numeral (digits_value 10 digits)
  pub sign : negative ≡ true → 0 < digits_value 10 digits

-- a scaled number as it is kept
pub record IsKeptScaled (negative : Bool) (count : ℕ) (text : List ℕ) : Type 0 where
  pub within : count ≤ length text
  pub decimal : IsDecimal (take count text) (signed negative (drop count text))
  pub exponent : IsSigned negative (drop count text)

-- the form in which a number is kept
abbrev pub IsKept : Form → Type 0
IsKept (form.Scaled negative count text) = IsKeptScaled negative count text.items
IsKept (form.InRadix radix digits) = IsLargeInRadix radix digits.items
