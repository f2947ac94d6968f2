-- Numeric literals and their values (ECMA-262, 12.9.3 and B.1.1).
use Rattle.std.specs.Prelude.{◌≡◌, ◌≤◌, ℕ, ◌+◌, ◌-◌, ◌^◌, Bool, true, false, not, ◌&&◌, ◌||◌, ◌==◌, nat_lt, if◌then◌else◌, List, [], ◌∷◌, ◌++◌, length, map, filter, Option, Some, None, unwrap_or, ℤ, pos, negsuc, neg_ℤ, ◌+ℤ◌, ◌-ℤ◌}
use Rattle.std.specs.List.{list_all, list_any}
use Rattle.std.specs.Char.{is_digit, to_ascii_lowercase}
use Rattle.std.specs.Str.Parse.{digits_value, AllDigits}
use Rattle.std.specs.Int.Digits.{digits_of}
use Rattle.std.specs.Fmt.{decimal}

-- A number: decimal digits without zeros at either end, times ten to the exponent, or digits in another
-- radix. Digits are ASCII characters.
pub data SpecNumber : Type 0 where
  Scaled : List ℕ → ℤ → SpecNumber
  InRadix : ℕ → List ℕ → SpecNumber

-- whether a list has no elements
abbrev pub none_left : List ℕ → Bool
none_left [] = true
none_left (c ∷ cs) = false

-- DecimalDigits and its kin in other radices, from a place behind a digit or not: one digit or more, and a
-- `_` between two digits alone
abbrev pub goes_on : ℕ → Bool → List ℕ → Bool
goes_on radix behind_digit [] = behind_digit
goes_on radix behind_digit (c ∷ cs) = if is_digit c radix then goes_on radix true cs else (behind_digit && (c == 95 && goes_on radix false cs))

abbrev pub spells_digits : ℕ → List ℕ → Bool
spells_digits radix text = goes_on radix false text

-- the text without `_`
abbrev pub plain : List ℕ → List ℕ
plain text = filter (λ c. not (c == 95)) text

-- whether a byte is the mark, in either case
abbrev pub is_mark : ℕ → ℕ → Bool
is_mark mark c = to_ascii_lowercase c == mark

-- what stands before the mark, or all where there is none
abbrev pub before : ℕ → List ℕ → List ℕ
before mark [] = []
before mark (c ∷ cs) = if is_mark mark c then [] else c ∷ before mark cs

-- what stands after the mark, where there is one
abbrev pub after : ℕ → List ℕ → Option (List ℕ)
after mark [] = None
after mark (c ∷ cs) = if is_mark mark c then Some cs else after mark cs

-- what follows a 0 in LegacyOctalIntegerLiteral: octal digits, one or more
abbrev pub spells_octal : List ℕ → Bool
spells_octal text = not (none_left text) && list_all (λ c. is_digit c 8) text

-- what follows a 0 in NonOctalDecimalIntegerLiteral: digits with 8 or 9 among them
abbrev pub spells_non_octal : List ℕ → Bool
spells_non_octal text = list_all (λ c. is_digit c 10) text && list_any (λ c. not (is_digit c 8)) text

-- DecimalIntegerLiteral
abbrev pub spells_integer : List ℕ → Bool
spells_integer [] = false
spells_integer (c ∷ cs) = if c == 48 then (none_left cs || spells_non_octal cs) else spells_digits 10 (c ∷ cs)

-- a decimal number up to its exponent: an integer, or digits around a point, on one side at least
abbrev pub spells_mantissa : List ℕ → Option (List ℕ) → Bool
spells_mantissa integer None = spells_integer integer
spells_mantissa [] (Some fraction) = spells_digits 10 fraction
spells_mantissa (c ∷ cs) (Some fraction) = spells_integer (c ∷ cs) && (none_left fraction || spells_digits 10 fraction)

-- whether a minus stands first
abbrev pub is_negative : List ℕ → Bool
is_negative [] = false
is_negative (c ∷ cs) = c == 45

-- a text without the sign in front
abbrev pub unsigned : List ℕ → List ℕ
unsigned [] = []
unsigned (c ∷ cs) = if c == 43 || c == 45 then cs else c ∷ cs

-- SignedInteger, where there is an exponent
abbrev pub spells_exponent : Option (List ℕ) → Bool
spells_exponent None = true
spells_exponent (Some text) = spells_digits 10 (unsigned text)

-- the number that a sign and decimal digits write
abbrev pub signed : Bool → List ℕ → ℤ
signed negative digits = if negative then neg_ℤ (pos (digits_value 10 digits)) else pos (digits_value 10 digits)

-- the decimal digits of a number, without zeros in front but for 0 itself
unfoldable pub numeral : ℕ → List ℕ
numeral n = if n == 0 then 48 ∷ [] else map (λ d. 48 + d) (digits_of 10 n)

-- the value of an exponent
abbrev pub exponent_value : Option (List ℕ) → ℤ
exponent_value None = pos 0
exponent_value (Some text) = signed (is_negative text) (plain (unsigned text))

-- without zeros in front
abbrev pub trim_front : List ℕ → List ℕ
trim_front [] = []
trim_front (c ∷ cs) = if c == 48 then trim_front cs else c ∷ cs

-- a digit in front of digits without zeros at the end
abbrev pub onto_trimmed : ℕ → List ℕ → List ℕ
onto_trimmed c [] = if c == 48 then [] else c ∷ []
onto_trimmed c (d ∷ ds) = c ∷ d ∷ ds

-- without zeros at the end
abbrev pub trim_back : List ℕ → List ℕ
trim_back [] = []
trim_back (c ∷ cs) = onto_trimmed c (trim_back cs)

-- digits times ten to the exponent, where no digits are left for 0
abbrev pub scaled_by : List ℕ → ℤ → SpecNumber
scaled_by [] exponent = Scaled [] (pos 0)
scaled_by (c ∷ cs) exponent = Scaled (c ∷ cs) exponent

-- digits times ten to the exponent, with each zero at their end moved into it
abbrev pub scaled : List ℕ → ℤ → SpecNumber
scaled digits exponent =
    let kept = trim_front digits in
    let trimmed = trim_back kept in
    scaled_by trimmed (exponent +ℤ pos (length kept - length trimmed))

-- the value of digits in a radix: decimal where it fits 64 bits
abbrev pub in_radix : ℕ → List ℕ → SpecNumber
in_radix radix text =
    let digits = trim_front (map to_ascii_lowercase (plain text)) in
    let value = digits_value radix digits in
    if nat_lt value (2 ^ 64) then scaled (decimal value) (pos 0) else InRadix radix digits

-- the value of a decimal number, from its integer, its fraction and its exponent
abbrev pub decimal_value : List ℕ → List ℕ → Option (List ℕ) → SpecNumber
decimal_value integer fraction exponent =
    scaled (plain integer ++ plain fraction) (exponent_value exponent -ℤ pos (length (plain fraction)))

-- DecimalLiteral
abbrev pub decimal_number : List ℕ → Option SpecNumber
decimal_number text =
    let mantissa = before 101 text in
    let exponent = after 101 text in
    let integer = before 46 mantissa in
    let fraction = after 46 mantissa in
    if spells_mantissa integer fraction && spells_exponent exponent
    then Some (decimal_value integer (unwrap_or fraction []) exponent)
    else None

-- the radix that the letter of a prefix stands for
abbrev pub radix_of_letter : ℕ → Option ℕ
radix_of_letter c = if is_mark 120 c then Some 16 else if is_mark 111 c then Some 8 else if is_mark 98 c then Some 2 else None

-- the radix of a prefix `0x`, `0o` or `0b`, in either case
abbrev pub prefix_radix : List ℕ → Option ℕ
prefix_radix [] = None
prefix_radix (c ∷ []) = None
prefix_radix (c ∷ letter ∷ rest) = if c == 48 then radix_of_letter letter else None

-- what follows the first byte
abbrev pub past_first : List ℕ → List ℕ
past_first [] = []
past_first (c ∷ cs) = cs

-- a 0 and octal digits (LegacyOctalIntegerLiteral)
abbrev pub is_legacy_octal : List ℕ → Bool
is_legacy_octal [] = false
is_legacy_octal (c ∷ cs) = c == 48 && spells_octal cs

-- a number with no prefix
abbrev pub unprefixed_number : List ℕ → Option SpecNumber
unprefixed_number text = if is_legacy_octal text then Some (in_radix 8 (past_first text)) else decimal_number text

-- NonDecimalIntegerLiteral, from its radix and what follows its prefix
abbrev pub prefixed_number : ℕ → List ℕ → Option SpecNumber
prefixed_number radix digits = if spells_digits radix digits then Some (in_radix radix digits) else None

-- the number by its prefix, if it has one
abbrev pub number_by : Option ℕ → List ℕ → Option SpecNumber
number_by None text = unprefixed_number text
number_by (Some radix) text = prefixed_number radix (past_first (past_first text))

-- the value of a numeric literal as it is spelled, and none for any other text (NumericLiteral, but for big
-- integers)
unfoldable pub number_of : List ℕ → Option SpecNumber
number_of text = number_by (prefix_radix text) text

-- decimal digits without zeros at either end, and an exponent that is 0 where there are none
pub record IsDecimal (digits : List ℕ) (exponent : ℤ) : Type 0 where
  pub decimal : AllDigits 10 digits
  pub front : trim_front digits ≡ digits
  pub back : trim_back digits ≡ digits
  pub zero_exponent : digits ≡ [] → exponent ≡ pos 0

-- digits in another radix, in lower case and without zeros in front, of a number past 64 bits
pub record IsLargeInRadix (radix : ℕ) (digits : List ℕ) : Type 0 where
  pub lower : 2 ≤ radix
  pub upper : radix ≤ 16
  pub digits_in_radix : AllDigits radix digits
  pub lower_case : map to_ascii_lowercase digits ≡ digits
  pub front : trim_front digits ≡ digits
  pub large : 18446744073709551616 ≤ digits_value radix digits

-- the one form that a number has
abbrev pub IsCanonical : SpecNumber → Type 0
IsCanonical (Scaled digits exponent) = IsDecimal digits exponent
IsCanonical (InRadix radix digits) = IsLargeInRadix radix digits

-- a number's digits
abbrev pub number_digits : SpecNumber → List ℕ
number_digits (Scaled digits exponent) = digits
number_digits (InRadix radix digits) = digits

-- the radix of a number's digits
abbrev pub number_radix : SpecNumber → ℕ
number_radix (Scaled digits exponent) = 10
number_radix (InRadix radix digits) = radix

-- a number's power of ten
abbrev pub number_exponent : SpecNumber → ℤ
number_exponent (Scaled digits exponent) = exponent
number_exponent (InRadix radix digits) = pos 0

-- whether a power of ten is below 0
abbrev pub is_below_zero : ℤ → Bool
is_below_zero (pos n) = false
is_below_zero (negsuc n) = true
