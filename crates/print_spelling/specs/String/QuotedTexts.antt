-- What of a string in quotes is still to be written.
use Rattle.std.specs.Prelude.{ℕ, Bool, not, ◌&&◌, ◌||◌, ◌==◌, nat_le, List, [], ◌∷◌, encode_utf8_all}
use Rattle.print_spelling.specs.declared.style.Style.{Style}
use Rattle.print_spelling.specs.declared.string.quoted.Behind.{Behind}
use Rattle.print_spelling.specs.declared.string.quoted.Stage.{Stage}
use Rattle.print_spelling.specs.declared.string.quoted.Stage.TheVariants.{Opening, Inside, Closed}
use Rattle.print_spelling.specs.String.Strings.{chars_text}

-- the characters to come, by what is written
abbrev pub left_chars : Style → ℕ → Behind → Stage → List ℕ → List ℕ
left_chars style quote b Opening cs = quote ∷ chars_text style quote b cs (quote ∷ [])
left_chars style quote b Inside cs = chars_text style quote b cs (quote ∷ [])
left_chars style quote b Closed cs = []

-- and their bytes
abbrev pub left_bytes : Style → ℕ → Behind → Stage → List ℕ → List ℕ
left_bytes style quote b stage cs = encode_utf8_all (left_chars style quote b stage cs)

-- the units that stand for themselves in each string, whatever stands round them: what is printed of ASCII but for quotes
-- and backslashes, and in a page's script but for `-`, `/`, `<` and `>`
abbrev pub is_markup : ℕ → Bool
is_markup c = c == 45 || (c == 47 || (c == 60 || c == 62))

abbrev pub is_plain_unit : Style → ℕ → Bool
is_plain_unit style c = (nat_le 0x20 c && nat_le c 0x7E) && (not (c == 34 || (c == 39 || c == 92)) && not (style.inline_script && is_markup c))
