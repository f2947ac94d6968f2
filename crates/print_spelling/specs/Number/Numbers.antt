-- How numbers are written (ECMA-262, 12.9.3).
use Rattle.std.specs.Prelude.{◌≡◌, ℕ, zero, suc, ◌+◌, ◌-◌, Bool, true, false, ◌&&◌, ◌||◌, ◌==◌, nat_lt, nat_le, if◌then◌else◌, List, [], ◌∷◌, ◌++◌, length, take, drop, Option, Some, None, unwrap_or, ℤ, pos, negsuc}
use Rattle.base_number.specs.Numbers.{SpecNumber, Scaled, InRadix, number_of, numeral, plain, prefix_radix, IsCanonical}
use Rattle.lex_pieces.specs.Runs.{Ends}
use Rattle.lex_literal.specs.Numbers.{Number, BigInt, Spells, SpellsNumber, is_barred}
use Rattle.lex_literal.specs.Standing.{takes_point, MayFollow}
use Rattle.print_spelling.specs.declared.style.Style.{Style}
use Rattle.print_spelling.specs.Styles.{is_below_es2021, is_up_to_es5}

-- so many zeros, before a text
abbrev pub zeros : ℕ → List ℕ → List ℕ
zeros zero m = m
zeros (suc n) m = 48 ∷ zeros n m

-- digits times a power of ten: up to two zeros, or the power
abbrev pub large_text : List ℕ → ℕ → List ℕ
large_text ds n = if nat_lt n 3 then ds ++ zeros n [] else ds ++ 101 ∷ numeral n

-- digits divided by a power of ten: a point among the digits or before them, up to two zeros behind it, or the power
abbrev pub small_text : List ℕ → ℕ → List ℕ
small_text ds n =
    if nat_lt n (length ds) then take (length ds - n) ds ++ 46 ∷ drop (length ds - n) ds
    else (if nat_le n (length ds + 2) then 46 ∷ zeros (n - length ds) ds
    else ds ++ 101 ∷ 45 ∷ numeral n)

-- digits times ten to a power, where none are left for 0
abbrev pub scaled_text : List ℕ → ℤ → List ℕ
scaled_text [] x = 48 ∷ []
scaled_text (d ∷ ds) (pos n) = large_text (d ∷ ds) n
scaled_text (d ∷ ds) (negsuc n) = small_text (d ∷ ds) (suc n)

-- the letter of a prefix: `b`, `o`, `x`
abbrev pub letter : ℕ → ℕ
letter radix = if radix == 2 then 98 else (if radix == 8 then 111 else 120)

abbrev pub prefix : ℕ → List ℕ
prefix radix = 48 ∷ letter radix ∷ []

-- a number, as short as it goes (the digits of a number in another radix are not decimal)
abbrev pub minified : SpecNumber → List ℕ
minified (Scaled ds x) = scaled_text ds x
minified (InRadix radix ds) = if radix == 10 then scaled_text ds (pos 0) else 48 ∷ letter radix ∷ ds

-- the radixes of prefixes
abbrev pub is_prefixed : ℕ → Bool
is_prefixed radix = radix == 2 || (radix == 8 || radix == 16)

-- The value of some number as it is spelled: kept in its one form, in a radix that has a prefix.
abbrev pub HasPrefix : SpecNumber → Type 0
HasPrefix (Scaled ds x) = Unit {0}
HasPrefix (InRadix radix ds) = is_prefixed radix ≡ true

-- a number before the point of a member: one point more where the text would take the first
abbrev pub before_member : List ℕ → List ℕ
before_member text = if takes_point text then text ++ 46 ∷ [] else text

-- ---- laws

-- A minified number has its value.
abbrev pub MinifiedIsRead : Type 0
MinifiedIsRead = (v : SpecNumber) → IsCanonical v → HasPrefix v → number_of (minified v) ≡ Some v

-- A minified number is read as its value, before any rest that may follow it.
abbrev pub MinifiedStands : Type 0
MinifiedStands = (v : SpecNumber) (rest : List ℕ) → IsCanonical v → HasPrefix v → MayFollow (minified v) rest
    → SpellsNumber (Number v) (minified v) (minified v ++ rest) rest

-- ---- big integers

-- what stands before the digits
abbrev pub big_prefix : ℕ → List ℕ
big_prefix radix = if radix == 10 then [] else prefix radix

-- a big integer, by its radix and its digits as they were spelled, without `_`
abbrev pub big_text : ℕ → List ℕ → List ℕ
big_text radix digits = big_prefix radix ++ (digits ++ 110 ∷ [])

-- A big integer is read as its radix and digits, before any rest without a digit, what a name begins with or a backslash.
abbrev pub BigIntIsRead : Type 0
BigIntIsRead = (radix : ℕ) (digits own rest : List ℕ) → Spells (BigInt radix digits) own → Ends is_barred rest
    → SpellsNumber (BigInt radix digits) (big_text radix digits) (big_text radix digits ++ rest) rest

-- ---- as it was read

-- `0b` and `0o`, which the editions up to ES5 have not
abbrev pub is_new_prefix : Option ℕ → Bool
is_new_prefix None = false
is_new_prefix (Some radix) = radix == 2 || radix == 8

-- decimal digits alone, where a number has them: digits and as many zeros as its power of ten, below 20 as in each number
-- within 64 bits
abbrev pub whole_digits : List ℕ → ℕ → Option (List ℕ)
whole_digits [] n = Some (48 ∷ [])
whole_digits (d ∷ ds) n = if nat_lt n 20 then Some ((d ∷ ds) ++ zeros n []) else None

abbrev pub whole_text : SpecNumber → Option (List ℕ)
whole_text (Scaled ds (pos n)) = whole_digits ds n
whole_text (Scaled ds (negsuc n)) = None
whole_text (InRadix radix ds) = if radix == 10 then whole_digits ds 0 else None

-- a spelling of a number in an edition: without `_` below ES2021
abbrev pub separated : Style → List ℕ → List ℕ
separated style raw = if is_below_es2021 style then plain raw else raw

-- the whole digits of one with a prefix that the edition has not
abbrev pub whole_in_edition : Style → List ℕ → Option (List ℕ) → Option (List ℕ)
whole_in_edition style raw whole = if is_up_to_es5 style && is_new_prefix (prefix_radix raw) then whole else None

-- these, where there are any, and else the spelling
abbrev pub in_edition : Style → List ℕ → Option (List ℕ) → List ℕ
in_edition style raw whole = unwrap_or (whole_in_edition style raw whole) (separated style raw)

-- a number when formatting: as it was read, else minified
abbrev pub formatted : Style → SpecNumber → Option (List ℕ) → List ℕ
formatted style v None = minified v
formatted style v (Some raw) = in_edition style raw (whole_text v)

-- A formatted number has its value, where the text as it was read has.
abbrev pub FormattedIsRead : Type 0
FormattedIsRead = (style : Style) (v : SpecNumber) (raw : Option (List ℕ)) → IsCanonical v → HasPrefix v
    → ((text : List ℕ) → raw ≡ Some text → number_of text ≡ Some v) → number_of (formatted style v raw) ≡ Some v

-- A formatted number is read as its value, before any rest that may follow it, where the text as it was read has it.
abbrev pub FormattedStands : Type 0
FormattedStands = (style : Style) (v : SpecNumber) (raw : Option (List ℕ)) (rest : List ℕ) → IsCanonical v → HasPrefix v
    → ((text : List ℕ) → raw ≡ Some text → number_of text ≡ Some v) → MayFollow (formatted style v raw) rest
    → SpellsNumber (Number v) (formatted style v raw) (formatted style v raw ++ rest) rest

-- What is written of a number when formatting is written again where it was read.
abbrev pub FormattedAgain : Type 0
FormattedAgain = (style : Style) (v : SpecNumber) (raw : Option (List ℕ)) → IsCanonical v → HasPrefix v
    → ((text : List ℕ) → raw ≡ Some text → number_of text ≡ Some v) → formatted style v (Some (formatted style v raw)) ≡ formatted style v raw

-- Before the point of a member a spelling of a number is read as its value, with a point of its own where it would take
-- the first.
abbrev pub MemberStands : Type 0
MemberStands = (v : SpecNumber) (text more : List ℕ) → number_of text ≡ Some v
    → SpellsNumber (Number v) (before_member text) (before_member text ++ 46 ∷ more) (46 ∷ more)

-- a big integer when formatting: as it was read, if it was, without `_` below ES2021; else by its radix and digits
abbrev pub formatted_big : Style → ℕ → List ℕ → Option (List ℕ) → List ℕ
formatted_big style radix digits None = big_text radix digits
formatted_big style radix digits (Some raw) = separated style raw

-- A formatted big integer is read as its radix and digits, where the text as it was read is, before any rest without a
-- digit, what a name begins with or a backslash.
abbrev pub FormattedBigIsRead : Type 0
FormattedBigIsRead = (style : Style) (radix : ℕ) (digits own : List ℕ) (raw : Option (List ℕ)) (rest : List ℕ) → Spells (BigInt radix digits) own
    → ((text : List ℕ) → raw ≡ Some text → Spells (BigInt radix digits) text) → Ends is_barred rest
    → SpellsNumber (BigInt radix digits) (formatted_big style radix digits raw) (formatted_big style radix digits raw ++ rest) rest

-- What is written of a big integer when formatting is written again where it was read.
abbrev pub FormattedBigAgain : Type 0
FormattedBigAgain = (style : Style) (radix : ℕ) (digits own : List ℕ) (raw : Option (List ℕ)) → Spells (BigInt radix digits) own
    → formatted_big style radix digits (Some (formatted_big style radix digits raw)) ≡ formatted_big style radix digits raw
