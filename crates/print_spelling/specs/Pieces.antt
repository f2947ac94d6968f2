-- Parts of a string in quotes that write units, whatever the rest (ECMA-262, 12.9.4).
use Rattle.std.specs.Prelude.{◌≡◌, ℕ, true, false, List}
use Rattle.std.specs.Char.Escape.{encode_utf16}
use Rattle.std.specs.List.{flat_map, list_any}
use Rattle.lex_literal.specs.Strings.{Piece, Pieces, piece_units, has_legacy_escape, is_plain}
use Rattle.print_spelling.specs.declared.form.Form.{Form}
use Rattle.print_spelling.specs.declared.form.Form.TheVariants.{Bare}
use Rattle.print_spelling.specs.Forms.{written, Suits}

-- The text begins with parts of a string in these quotes that stand for these units, none of them by an escape of
-- B.1.2, up to the rest.
pub record IsQuoted (quote : ℕ) (text units rest : List ℕ) : Type 0 where
  pub pieces : List Piece
  pub stand : Pieces quote pieces text rest
  pub value : units ≡ flat_map piece_units pieces
  pub modern : list_any has_legacy_escape pieces ≡ false

-- A character stands in quotes in each form that suits it.
abbrev pub EachFormStands : Type 0
EachFormStands = (quote : ℕ) (f : Form) (c : ℕ) (rest : List ℕ) → Suits f c rest → (f ≡ Bare → is_plain quote c ≡ true)
    → IsQuoted quote (written f c rest) (encode_utf16 c) rest
