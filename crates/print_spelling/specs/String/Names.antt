-- How names and keys are written (ECMA-262, 12.7 and 13.2.5).
use Rattle.std.specs.Prelude.{◌≡◌, ◌≢◌, ℕ, Bool, true, false, ◌&&◌, nat_lt, nat_le, if◌then◌else◌, List, [], ◌∷◌, encode_utf8_all}
use Rattle.std.specs.Char.{IsScalar}
use Rattle.std.specs.Char.Escape.{encode_utf16}
use Rattle.std.specs.List.{flat_map, list_any}
use Rattle.lex_pieces.specs.Names.{IsName, is_name_char, is_continuing}
use Rattle.lex_pieces.specs.Runs.{Ends}
use Rattle.lex_literal.specs.Strings.{SpellsString}
use Rattle.print_spelling.specs.declared.form.Form.{Form}
use Rattle.print_spelling.specs.declared.form.Form.TheVariants.{Bare, Hex, Four, FourLower, Braced}
use Rattle.print_spelling.specs.declared.style.Style.{Style}
use Rattle.print_spelling.specs.Forms.{written}
use Rattle.print_spelling.specs.declared.string.quoted.Stage.{Stage}
use Rattle.print_spelling.specs.declared.string.quoted.Stage.TheVariants.{Opening, Inside, Closed}

-- from U+7F to U+FF
abbrev pub is_latin : ℕ → Bool
is_latin c = nat_le 0x7F c && nat_lt c 0x100

-- a character of a name: bare, or with `ascii_only` past U+7E by an escape
abbrev pub name_form : Style → ℕ → Form
name_form style c =
    if nat_lt c 0x7F then Bare
    else (if style.ascii_only then (if nat_lt c 0x100 then FourLower else (if nat_lt c 0x1_0000 then Four else Braced))
    else Bare)

-- a character of a key in quotes
abbrev pub key_form : Style → ℕ → Form
key_form style c = if is_latin c then Hex else name_form style c

abbrev pub form_in : Style → Bool → ℕ → Form
form_in style quoted c = if quoted then key_form style c else name_form style c

-- the characters, before a text
abbrev pub name_chars : Style → Bool → List ℕ → List ℕ → List ℕ
name_chars style quoted [] m = m
name_chars style quoted (c ∷ cs) m = written (form_in style quoted c) c (name_chars style quoted cs m)

-- a name, by its characters without escapes, before a text
abbrev pub name_text : Style → List ℕ → List ℕ → List ℕ
name_text style cs m = name_chars style false cs m

-- whether a word as a key becomes a string
abbrev pub is_quoted_key : Style → List ℕ → Bool
is_quoted_key style cs = style.ascii_only && list_any is_latin cs

-- a word as a key, before a text
abbrev pub key_text : Style → List ℕ → List ℕ → List ℕ
key_text style cs m = if is_quoted_key style cs then 34 ∷ name_chars style true cs (34 ∷ m) else name_text style cs m

-- ---- what of it is still to be written

abbrev pub quote_if : Bool → List ℕ
quote_if quoted = if quoted then 34 ∷ [] else []

abbrev pub name_left : Style → Bool → Stage → List ℕ → List ℕ
name_left style quoted Opening cs = 34 ∷ name_chars style quoted cs (quote_if quoted)
name_left style quoted Inside cs = name_chars style quoted cs (quote_if quoted)
name_left style quoted Closed cs = []

abbrev pub name_bytes : Style → Bool → Stage → List ℕ → List ℕ
name_bytes style quoted stage cs = encode_utf8_all (name_left style quoted stage cs)

-- the bytes that stand for themselves in each name
abbrev pub is_plain_byte : ℕ → Bool
is_plain_byte c = nat_lt c 0x7F

-- ---- laws

-- Characters of a name; the mark says that the first begins it.
abbrev pub AreNameChars : Bool → List ℕ → Type 0
AreNameChars first [] = Unit {0}
AreNameChars first (c ∷ cs) = IsScalar c × (is_name_char first c ≡ true) × AreNameChars false cs

-- A name is read as its characters, before whatever goes on no name.
abbrev pub NameIsRead : Type 0
NameIsRead = (style : Style) (cs rest : List ℕ) → cs ≢ [] → AreNameChars true cs → Ends is_continuing rest → IsName (name_text style cs rest) cs rest

-- A key that becomes a string is read as the units of the word, whatever follows.
abbrev pub KeyIsRead : Type 0
KeyIsRead = (style : Style) (cs rest : List ℕ) → is_quoted_key style cs ≡ true → AreNameChars true cs
    → SpellsString (flat_map encode_utf16 cs) false (key_text style cs rest) rest

-- Any other key is read as the word, as a name is.
abbrev pub KeyWordIsRead : Type 0
KeyWordIsRead = (style : Style) (cs rest : List ℕ) → is_quoted_key style cs ≡ false → cs ≢ [] → AreNameChars true cs → Ends is_continuing rest
    → IsName (key_text style cs rest) cs rest
