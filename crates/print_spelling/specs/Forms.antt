-- How one character is written: as it is, or by an escape (ECMA-262, 12.9.4). A text is a list of characters.
use Rattle.std.specs.Prelude.{◌≡◌, ℕ, ◌+◌, ◌-◌, ◌/◌, ◌%◌, ◌<◌, ◌≤◌, false, nat_lt, if◌then◌else◌, List, [], ◌∷◌, ◌++◌}
use Rattle.std.specs.Char.{digit_char, IsScalar}
use Rattle.lex_literal.specs.Escapes.{begins, is_decimal, is_special, single}
use Rattle.print_spelling.specs.declared.form.Form.{Form}
use Rattle.print_spelling.specs.declared.form.Form.TheVariants.{Bare, Letter, Nul, Hex, Four, FourLower, Pair, Braced}

-- the hexadecimal digit of c at the place that is worth p, in lower case and in upper case
abbrev pub lower : ℕ → ℕ → ℕ
lower p c = digit_char (c / p % 16)

abbrev pub upper_digit : ℕ → ℕ
upper_digit d = if nat_lt d 10 then 48 + d else 55 + d

abbrev pub upper : ℕ → ℕ → ℕ
upper p c = upper_digit (c / p % 16)

-- a high and a low surrogate, the units of a character past U+FFFF
abbrev pub lead : ℕ → ℕ
lead c = 0xD800 + (c - 0x1_0000) / 0x400

abbrev pub trail : ℕ → ℕ
trail c = 0xDC00 + (c - 0x1_0000) % 0x400

-- `u` and four digits, before a text
abbrev pub four : ℕ → List ℕ → List ℕ
four c m = 117 ∷ upper 4096 c ∷ upper 256 c ∷ upper 16 c ∷ upper 1 c ∷ m

abbrev pub four_lower : ℕ → List ℕ → List ℕ
four_lower c m = 117 ∷ lower 4096 c ∷ lower 256 c ∷ lower 16 c ∷ lower 1 c ∷ m

-- the digits of a code point, three or more
abbrev pub braced_digits : ℕ → List ℕ
braced_digits c =
    if nat_lt c 0x1000 then upper 256 c ∷ upper 16 c ∷ upper 1 c ∷ []
    else (if nat_lt c 0x1_0000 then upper 4096 c ∷ upper 256 c ∷ upper 16 c ∷ upper 1 c ∷ []
    else (if nat_lt c 0x10_0000 then upper 65536 c ∷ upper 4096 c ∷ upper 256 c ∷ upper 16 c ∷ upper 1 c ∷ []
    else upper 1048576 c ∷ upper 65536 c ∷ upper 4096 c ∷ upper 256 c ∷ upper 16 c ∷ upper 1 c ∷ []))

-- the character in this form, before a text
abbrev pub written : Form → ℕ → List ℕ → List ℕ
written Bare c m = c ∷ m
written (Letter l) c m = 92 ∷ l ∷ m
written Nul c m = 92 ∷ 48 ∷ m
written Hex c m = 92 ∷ 120 ∷ lower 16 c ∷ lower 1 c ∷ m
written Four c m = 92 ∷ four c m
written FourLower c m = 92 ∷ four_lower c m
written Pair c m = 92 ∷ four (lead c) (92 ∷ four (trail c) m)
written Braced c m = 92 ∷ 117 ∷ 123 ∷ (braced_digits c ++ 125 ∷ m)

-- The form can stand for the character before this text.
abbrev pub Suits : Form → ℕ → List ℕ → Type 0
Suits Bare c m = Unit {0}
Suits (Letter l) c m = (is_special l ≡ false) × (single l ≡ c)
Suits Nul c m = (c ≡ 0) × (begins is_decimal m ≡ false)
Suits Hex c m = c < 256
Suits Four c m = c < 65536
Suits FourLower c m = c < 65536
Suits Pair c m = (65536 ≤ c) × (c < 0x110000)
Suits Braced c m = c < 0x110000

-- The code can write it: what stands bare is a character of UTF-8, and what follows a backslash is ASCII.
abbrev pub Writes : Form → ℕ → Type 0
Writes Bare c = IsScalar c
Writes (Letter l) c = l < 128
Writes Pair c = (65536 ≤ c) × (c < 0x110000)
Writes _ c = c < 0x110000
