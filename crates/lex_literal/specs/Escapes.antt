-- Escapes, as they stand behind their backslash (ECMA-262, 12.9.4 and B.1.2).
use Rattle.std.specs.Prelude.{◌≡◌, ℕ, Bool, true, false, ◌&&◌, ◌||◌, ◌⊎◌, ◌==◌, nat_lt, nat_le, if◌then◌else◌, List, [], ◌∷◌, ◌++◌, length}
use Rattle.std.specs.Char.{is_digit}
use Rattle.std.specs.Str.Parse.{digits_value}
use Rattle.base_token.specs.declared.error.SyntaxError.{SyntaxError}
use Rattle.base_token.specs.declared.error.SyntaxError.TheVariants.{BadCharacterEscapeSequence, InvalidStrEscape, InvalidUnicodeEscape}
use Rattle.lex_pieces.specs.Characters.{is_line_terminator}
use Rattle.lex_pieces.specs.Runs.{Each, run, after}
use Rattle.lex_literal.specs.declared.escape.Escape.{Escape}
use Rattle.lex_literal.specs.declared.escape.Escape.TheVariants.{Continuation, Code, Legacy}

-- DecimalDigit, HexDigit and OctalDigit, and parts of them
abbrev pub is_decimal : ℕ → Bool
is_decimal c = is_digit c 10

abbrev pub is_hex : ℕ → Bool
is_hex c = is_digit c 16

abbrev pub is_octal : ℕ → Bool
is_octal c = is_digit c 8

-- ZeroToThree
abbrev pub is_low_octal : ℕ → Bool
is_low_octal c = is_digit c 4

abbrev pub is_eight_or_nine : ℕ → Bool
is_eight_or_nine c = c == 56 || c == 57

-- whether a character that passes comes first
abbrev pub begins : (ℕ → Bool) → List ℕ → Bool
begins p [] = false
begins p (c ∷ cs) = p c

abbrev pub is_line_feed : ℕ → Bool
is_line_feed c = c == 10

-- LineTerminatorSequence (12.3): a line terminator, or CR LF as one
abbrev pub IsLineEnd : List ℕ → List ℕ → Type 0
IsLineEnd text r = (text ≡ 13 ∷ 10 ∷ r)
    ⊎ ((c : ℕ) × (text ≡ c ∷ r) × (is_line_terminator c ≡ true) × (c ≡ 13 → begins is_line_feed r ≡ false))

-- the characters that stand neither for themselves nor for one control character: DecimalDigit, `x`, `u` and
-- LineTerminator
abbrev pub is_special : ℕ → Bool
is_special c = is_decimal c || (c == 120 || (c == 117 || is_line_terminator c))

-- what a SingleEscapeCharacter stands for, and any other character for itself: `b t n v f r`
abbrev pub single : ℕ → ℕ
single c =
    if c == 98 then 8
    else (if c == 116 then 9
    else (if c == 110 then 10
    else (if c == 118 then 11
    else (if c == 102 then 12
    else (if c == 114 then 13
    else c)))))

-- CharacterEscapeSequence
abbrev pub IsSingle : ℕ → List ℕ → List ℕ → Type 0
IsSingle n text r = (c : ℕ) × (text ≡ c ∷ r) × (is_special c ≡ false) × (n ≡ single c)

-- `0` before no DecimalDigit: NUL
abbrev pub IsNul : ℕ → List ℕ → List ℕ → Type 0
IsNul n text r = (text ≡ 48 ∷ r) × (begins is_decimal r ≡ false) × (n ≡ 0)

-- HexEscapeSequence: `x` and two digits
abbrev pub IsHexEscape : ℕ → List ℕ → List ℕ → Type 0
IsHexEscape n text r = (a b : ℕ) × (text ≡ 120 ∷ a ∷ b ∷ r) × Each is_hex (a ∷ b ∷ []) × (n ≡ digits_value 16 (a ∷ b ∷ []))

-- UnicodeEscapeSequence: `u` and four digits
abbrev pub IsUnicodeEscape : ℕ → List ℕ → List ℕ → Type 0
IsUnicodeEscape n text r = (a b c d : ℕ) × (text ≡ 117 ∷ a ∷ b ∷ c ∷ d ∷ r) × Each is_hex (a ∷ b ∷ c ∷ d ∷ [])
    × (n ≡ digits_value 16 (a ∷ b ∷ c ∷ d ∷ []))

-- the greatest code point
abbrev pub greatest_code : ℕ
greatest_code = 0x10FFFF

-- one digit or more, which write a code point
abbrev pub is_code : List ℕ → Bool
is_code ds = nat_lt 0 (length ds) && nat_le (digits_value 16 ds) greatest_code

-- UnicodeEscapeSequence: `u`, and the digits of a code point between braces
abbrev pub IsBraced : ℕ → List ℕ → List ℕ → Type 0
IsBraced n text r = (ds : List ℕ) × (text ≡ 117 ∷ 123 ∷ (ds ++ 125 ∷ r)) × Each is_hex ds × (is_code ds ≡ true)
    × (n ≡ digits_value 16 ds)

-- LegacyOctalEscapeSequence (B.1.2): one digit before no octal digit, a `0` only before `8` or `9`
abbrev pub IsOneOctal : ℕ → List ℕ → List ℕ → Type 0
IsOneOctal n text r = (a : ℕ) × (text ≡ a ∷ r) × (is_octal a ≡ true) × (n ≡ digits_value 8 (a ∷ []))
    × (begins is_octal r ≡ false) × (a ≡ 48 → begins is_eight_or_nine r ≡ true)

-- two digits, before no octal digit where the first is at most 3
abbrev pub AreTwoOctals : ℕ → List ℕ → List ℕ → Type 0
AreTwoOctals n text r = (a b : ℕ) × (text ≡ a ∷ b ∷ r) × Each is_octal (a ∷ b ∷ []) × (n ≡ digits_value 8 (a ∷ b ∷ []))
    × (is_low_octal a ≡ true → begins is_octal r ≡ false)

-- three digits, of which the first is at most 3
abbrev pub AreThreeOctals : ℕ → List ℕ → List ℕ → Type 0
AreThreeOctals n text r = (a b c : ℕ) × (text ≡ a ∷ b ∷ c ∷ r) × (is_low_octal a ≡ true) × Each is_octal (b ∷ c ∷ [])
    × (n ≡ digits_value 8 (a ∷ b ∷ c ∷ []))

-- NonOctalDecimalEscapeSequence (B.1.2): `8` or `9`, which stands for itself
abbrev pub IsEightOrNine : ℕ → List ℕ → List ℕ → Type 0
IsEightOrNine n text r = (text ≡ n ∷ r) × (is_eight_or_nine n ≡ true)

-- The text behind a backslash begins with an escape of this meaning, up to the rest.
abbrev pub IsEscape : Escape → List ℕ → List ℕ → Type 0
IsEscape Continuation text r = IsLineEnd text r
IsEscape (Code n) text r =
    IsSingle n text r ⊎ (IsNul n text r ⊎ (IsHexEscape n text r ⊎ (IsUnicodeEscape n text r ⊎ IsBraced n text r)))
IsEscape (Legacy n) text r =
    IsOneOctal n text r ⊎ (AreTwoOctals n text r ⊎ (AreThreeOctals n text r ⊎ IsEightOrNine n text r))

-- No escape stands there.
abbrev pub NoEscape : List ℕ → Type 0
NoEscape text = (e : Escape) (r : List ℕ) → IsEscape e text r → ⊥

-- ---- which fault it is where no escape stands, and how far its characters go

-- what follows a hexadecimal digit, where one comes first
abbrev pub past_hex : List ℕ → List ℕ
past_hex [] = []
past_hex (c ∷ cs) = if is_hex c then cs else c ∷ cs

-- behind `u{`: where the digits write a code point, the brace is missing
abbrev pub bad_braced : List ℕ → SyntaxError × List ℕ
bad_braced cs = (if is_code (run is_hex cs) then InvalidUnicodeEscape else BadCharacterEscapeSequence, after is_hex cs)

-- behind `u`
abbrev pub bad_unicode : List ℕ → SyntaxError × List ℕ
bad_unicode [] = (BadCharacterEscapeSequence, [])
bad_unicode (c ∷ cs) =
    if c == 123 then bad_braced cs else (BadCharacterEscapeSequence, past_hex (past_hex (past_hex (past_hex (c ∷ cs)))))

-- behind a backslash, where a text ends or `x` or `u` begins no escape: the kind, and what follows the fault
abbrev pub bad_escape : List ℕ → SyntaxError × List ℕ
bad_escape [] = (InvalidStrEscape, [])
bad_escape (c ∷ cs) = if c == 120 then (BadCharacterEscapeSequence, past_hex (past_hex cs)) else bad_unicode cs

-- At most one escape stands behind a backslash.
abbrev pub OneEscape : Type 0
OneEscape = (text : List ℕ) (e f : Escape) (r s : List ℕ) → IsEscape e text r → IsEscape f text s → (e ≡ f) × (r ≡ s)
