-- Where names stand, as positions tell.
use Rattle.std.specs.Prelude.{ℕ, ◌-◌, List}
use Rattle.std.specs.List.{Contains}
use Rattle.base_token.specs.declared.place.BytePos.{BytePos}
use Rattle.base_token.specs.declared.place.LineCol.{LineCol}
use Rattle.tree_spec.specs.Tree.{Tree}
use Rattle.tree_program_spec.specs.Names.Names.{names}
use Rattle.parse_laws.specs.Text.{text_start}
use Rattle.print_pages_spec.specs.Lines.Lines.{place_of}
use Rattle.again_laws.specs.Marked.{Alongside}

-- A tree and one that is read again of what was written of it have equally many names; the i-th of both is the same word; and the place of the one, with the line and the column of the
-- other in the text written, is among the positions.
abbrev pub NamesAreTold : List ℕ → List (BytePos × LineCol) → Tree → Tree → Type 0
NamesAreTold text positions t u = Alongside (λ pos at. Contains positions (record { 0 = pos }, place_of text (at - text_start))) (names t) (names u)
