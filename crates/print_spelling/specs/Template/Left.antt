-- What of a piece of a template is still to be written.
use Rattle.std.specs.Prelude.{ℕ, ◌<◌, zero, Bool, not, ◌&&◌, ◌||◌, ◌==◌, nat_lt, nat_le, if◌then◌else◌, List, [], ◌∷◌, encode_utf8_all}
use Rattle.std.specs.Char.{IsScalar}
use Rattle.lex_literal.specs.Templates.{line_feeds}
use Rattle.print_spelling.specs.declared.style.Style.{Style}
use Rattle.print_spelling.specs.declared.template.part.Part.{Part}
use Rattle.print_spelling.specs.declared.template.part.Part.TheVariants.{Pair, Digits, Last, Nothing, Hexed, Code}
use Rattle.print_spelling.specs.Template.Templates.{parts, parts_text}

-- The code can write the part: it is made of characters.
abbrev pub PartWrites : Part → Type 0
PartWrites (Pair d) = d < 128
PartWrites (Digits a b) = (a < 128) × (b < 128)
PartWrites Last = Unit {0}
PartWrites Nothing = Unit {0}
PartWrites (Hexed v) = v < 256
PartWrites (Code c) = IsScalar c

-- the parts from the first on that writes something
abbrev pub past_nothing : List Part → List Part
past_nothing [] = []
past_nothing (Pair d ∷ ps) = Pair d ∷ ps
past_nothing (Digits a b ∷ ps) = Digits a b ∷ ps
past_nothing (Last ∷ ps) = Last ∷ ps
past_nothing (Nothing ∷ ps) = past_nothing ps
past_nothing (Hexed v ∷ ps) = Hexed v ∷ ps
past_nothing (Code c ∷ ps) = Code c ∷ ps

-- the bytes that stand for themselves in each piece, and those that do where it stands as it was read
abbrev pub is_plain_byte : ℕ → Bool
is_plain_byte c = (nat_le 0x20 c && (nat_lt c 0x7F && not (c == 36 || (c == 92 || c == 123)))) || (c == 9 || c == 10)

abbrev pub is_kept_byte : ℕ → Bool
is_kept_byte c = not (c == 13)

-- the characters to come, by whether the piece stands as it was read and whether a bare dollar stands before them
abbrev pub left_chars : Style → Bool → Bool → List ℕ → List ℕ
left_chars style kept dollar cs = if kept then line_feeds cs else parts_text style dollar (parts zero (line_feeds cs)) []

-- and their bytes
abbrev pub left_bytes : Style → Bool → Bool → List ℕ → List ℕ
left_bytes style kept dollar cs = encode_utf8_all (left_chars style kept dollar cs)
