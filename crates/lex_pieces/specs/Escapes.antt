-- Unicode escapes (12.9.4, UnicodeEscapeSequence), as names have them (12.7).
use Rattle.std.specs.Prelude.{◌≡◌, ◌≢◌, ℕ, ◌+◌, ◌-◌, ◌*◌, ◌⊎◌, List, [], ◌∷◌, ◌++◌, Option, None, Some, option_and_then, unwrap_or, min, if◌then◌else◌, ◌==◌}
use Rattle.lex_pieces.specs.Characters.{is_between, is_hex_digit}
use Rattle.lex_pieces.specs.Runs.{Each, run, after}
use Rattle.lex_pieces.specs.ReadingTrivia.{past}

-- the value of a hexadecimal digit
abbrev pub hex_value : ℕ → Option ℕ
hex_value c = if is_between 48 57 c then Some (c - 48)
    else (if is_between 65 70 c then Some (c - 65 + 10)
    else (if is_between 97 102 c then Some (c - 97 + 10)
    else None))

abbrev pub digit : ℕ → ℕ
digit c = unwrap_or (hex_value c) 0

-- the value of hexadecimal digits after others whose value is v (12.9.3, MV of HexDigits)
abbrev pub value_after : ℕ → List ℕ → ℕ
value_after v [] = v
value_after v (d ∷ ds) = value_after (16 * v + digit d) ds

-- four digits (Hex4Digits), with their value
abbrev pub IsFour : List ℕ → ℕ → List ℕ → Type 0
IsFour text v rest = (a : ℕ) × (b : ℕ) × (c : ℕ) × (d : ℕ) × (text ≡ a ∷ b ∷ c ∷ d ∷ rest) × Each is_hex_digit (a ∷ b ∷ c ∷ d ∷ []) × (v ≡ value_after 0 (a ∷ b ∷ c ∷ d ∷ []))

-- one digit or more between braces (`{ CodePoint }`), with their value
abbrev pub IsBraced : List ℕ → ℕ → List ℕ → Type 0
IsBraced text v rest = (ds : List ℕ) × (text ≡ 123 ∷ ds ++ 125 ∷ rest) × (ds ≢ []) × Each is_hex_digit ds × (v ≡ value_after 0 ds)

-- the digits after `\u`, and the code point that they stand for
abbrev pub IsDigits : List ℕ → ℕ → List ℕ → Type 0
IsDigits text v rest = IsFour text v rest ⊎ IsBraced text v rest

-- a whole escape
abbrev pub IsEscape : List ℕ → ℕ → List ℕ → Type 0
IsEscape text v rest = (digits : List ℕ) × (text ≡ 92 ∷ 117 ∷ digits) × IsDigits digits v rest

-- ---- the same as functions

abbrev pub Coded : Type 0
Coded = ℕ × List ℕ

abbrev pub hex : List ℕ → Option Coded
hex [] = None
hex (c ∷ cs) = option_and_then (λ v. Some (v, cs)) (hex_value c)

abbrev pub four : List ℕ → Option Coded
four cs = option_and_then
    (λ a. option_and_then
    (λ b. option_and_then
    (λ c. option_and_then (λ d. Some (16 * (16 * (16 * a.0 + b.0) + c.0) + d.0, d.1)) (hex c.1))
    (hex b.1))
    (hex a.1))
    (hex cs)

abbrev pub braced : List ℕ → Option Coded
braced cs = option_and_then
    (λ d. option_and_then (λ r. Some (value_after 0 (run is_hex_digit cs), r)) (past 125 (after is_hex_digit cs)))
    (hex cs)

abbrev pub digits : List ℕ → Option Coded
digits [] = None
digits (c ∷ cs) = if c == 123 then braced cs else four (c ∷ cs)

-- a value past all code points is told as the first such
abbrev pub capped : Coded → Coded
capped x = (min x.0 0x11_0000, x.1)
