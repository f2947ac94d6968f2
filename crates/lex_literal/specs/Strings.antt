-- String literals (ECMA-262, 12.9.4 and B.1.2) and their values.
use Rattle.std.specs.Prelude.{◌≡◌, ◌≢◌, ℕ, Bool, true, false, not, ◌||◌, ◌⊎◌, ◌==◌, List, [], ◌∷◌, ◌++◌, Result, Ok, Err}
use Rattle.std.specs.Char.Escape.{encode_utf16}
use Rattle.std.specs.List.{flat_map, list_any}
use Rattle.std.specs.Str.{chars}
use Rattle.base_token.specs.declared.error.Error.{Error}
use Rattle.base_token.specs.declared.error.SyntaxError.TheVariants.{Memory, UnterminatedStrLit}
use Rattle.lex_pieces.specs.Characters.{is_line_break}
use Rattle.lex_literal.specs.declared.escape.Escape.{Escape}
use Rattle.lex_literal.specs.declared.string.StringLiteral.{StringLiteral}
use Rattle.lex_literal.specs.Escapes.{begins, IsEscape, NoEscape, bad_escape}
use Rattle.lex_pieces.specs.Places.{IsAt}
use Rattle.lex_literal.specs.Units.{escape_units, is_legacy}

-- the quotes of strings
abbrev pub is_quote : ℕ → Bool
is_quote c = c == 34 || c == 39

-- what stands for itself between two of this quote; U+2028 and U+2029 do
abbrev pub is_plain : ℕ → ℕ → Bool
is_plain quote c = not (c == quote || (c == 92 || (c == 10 || c == 13)))

-- DoubleStringCharacter and SingleStringCharacter: a character that stands for itself, or an escape
pub data Piece : Type 0 where
  Plain : ℕ → Piece
  Escaped : Escape → Piece

-- The text begins with this piece, up to the rest.
abbrev pub Stands : ℕ → Piece → List ℕ → List ℕ → Type 0
Stands quote (Plain c) text r = (text ≡ c ∷ r) × (is_plain quote c ≡ true)
Stands quote (Escaped e) text r = (m : List ℕ) × (text ≡ 92 ∷ m) × IsEscape e m r

-- It begins with these.
abbrev pub Pieces : ℕ → List Piece → List ℕ → List ℕ → Type 0
Pieces quote [] text r = text ≡ r
Pieces quote (p ∷ ps) text r = (m : List ℕ) × Stands quote p text m × Pieces quote ps m r

-- SV: the code units that a piece stands for
abbrev pub piece_units : Piece → List ℕ
piece_units (Plain c) = encode_utf16 c
piece_units (Escaped e) = escape_units e

abbrev pub has_legacy_escape : Piece → Bool
has_legacy_escape (Plain c) = false
has_legacy_escape (Escaped e) = is_legacy e

-- StringLiteral: a quote, pieces and the same quote
abbrev pub IsString : List Piece → List ℕ → List ℕ → Type 0
IsString ps text r = (quote : ℕ) × (m : List ℕ) × (is_quote quote ≡ true) × (text ≡ quote ∷ m) × Pieces quote ps m (quote ∷ r)

-- The text begins with a string of these units, up to the rest; `legacy` says whether an escape of B.1.2 is in it.
abbrev pub SpellsString : List ℕ → Bool → List ℕ → List ℕ → Type 0
SpellsString units legacy text r =
    (ps : List Piece) × IsString ps text r × (units ≡ flat_map piece_units ps) × (legacy ≡ list_any has_legacy_escape ps)

-- No string stands at the front of the text.
abbrev pub NoString : List ℕ → Type 0
NoString text = (ps : List Piece) (r : List ℕ) → IsString ps text r → ⊥

-- Where the pieces of a string end without a quote: the text or the line ends there, or a bad escape begins.
abbrev pub StopsAt : ℕ → List ℕ → List ℕ → Error → Type 0
StopsAt end text m e =
    ((begins (λ c. not (is_line_break c)) m ≡ false) × (e.kind ≡ UnterminatedStrLit) × IsAt end text m e.span)
    ⊎ ((t : List ℕ) × (m ≡ 92 ∷ t) × NoEscape t × (e.kind ≡ (bad_escape t).0) × IsAt end m (bad_escape t).1 e.span)

-- The fault of a text that begins with a quote and with no string: the first that comes, at its place.
abbrev pub IsStringFault : ℕ → List ℕ → Error → Type 0
IsStringFault end text e = (quote : ℕ) × (inner : List ℕ) × (ps : List Piece) × (m : List ℕ) × (text ≡ quote ∷ inner)
    × Pieces quote ps inner m × StopsAt end text m e

-- What is known of a text from what reading its string answered.
abbrev pub ReadsString : ℕ → List ℕ → Result StringLiteral Error → Type 0
ReadsString end text (Ok s) = SpellsString s.value s.legacy text (chars s.rest.now) × (text ≡ chars s.raw.now ++ chars s.rest.now)
ReadsString end text (Err e) = e.kind ≢ Memory → NoString text × IsStringFault end text e

-- At most one string stands at a front.
abbrev pub OneString : Type 0
OneString = (units others : List ℕ) (legacy other : Bool) (text r s : List ℕ)
    → SpellsString units legacy text r → SpellsString others other text s → (units ≡ others) × (legacy ≡ other) × (r ≡ s)
