-- The classes of bytes. A byte below 128 is a character of ASCII, and each byte from there on is a part of another character.
use Rattle.std.specs.Prelude.{◌≡◌, ℕ, Bool, true, false, List, [], ◌∷◌, nat_le, if◌then◌else◌, ◌==◌, encode_utf8}
use Rattle.lex_pieces.specs.declared.bytes.ByteClass.{ByteClass}
use Rattle.lex_pieces.specs.declared.bytes.ByteClass.TheVariants.{WhiteSpace, LineTerminator, NameStart, Digit, Quote, BackQuote, Backslash, Punctuator, Other, NonAscii}
use Rattle.lex_pieces.specs.Characters.{is_among, is_white_space, is_line_terminator, is_name_start, is_decimal_digit}

-- the characters that punctuators begin with (12.8), without the back quote
abbrev pub punctuator_starts : List ℕ
punctuator_starts = 33 ∷ 35 ∷ 37 ∷ 38 ∷ 40 ∷ 41 ∷ 42 ∷ 43 ∷ 44 ∷ 45 ∷ 46 ∷ 47 ∷ 58 ∷ 59 ∷ 60 ∷ 61 ∷ 62 ∷ 63 ∷ 64
    ∷ 91 ∷ 93 ∷ 94 ∷ 123 ∷ 124 ∷ 125 ∷ 126 ∷ []

unfoldable pub class_of : ℕ → ByteClass
class_of b =
    if nat_le 128 b then NonAscii
    else (if is_white_space b then WhiteSpace
    else (if is_line_terminator b then LineTerminator
    else (if is_name_start b then NameStart
    else (if is_decimal_digit b then Digit
    else (if is_among (34 ∷ 39 ∷ []) b then Quote
    else (if b == 96 then BackQuote
    else (if b == 92 then Backslash
    else (if is_among punctuator_starts b then Punctuator
    else Other))))))))

-- the classes of what a name goes on with
abbrev pub is_name_class : ByteClass → Bool
is_name_class NameStart = true
is_name_class Digit = true
is_name_class _ = false

abbrev pub is_space_class : ByteClass → Bool
is_space_class WhiteSpace = true
is_space_class _ = false

-- the spelling of these characters begins with the byte
abbrev pub IsLead : ℕ → List ℕ → Type 0
IsLead b cs = (c : ℕ) × (rest : List ℕ) × (more : List ℕ) × (cs ≡ c ∷ rest) × (encode_utf8 c ≡ b ∷ more)
