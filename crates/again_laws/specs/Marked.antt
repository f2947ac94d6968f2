-- Where names stand in what is written, and what a page that keeps marks says of it.
use Rattle.std.specs.Prelude.{◌≡◌, ℕ, ◌-◌, Bool, true, List, [], ◌∷◌, Some}
use Rattle.std.specs.List.{Contains}
use Rattle.std.specs.Str.{chars}
use lib.Utf8.{scalars}
use Rattle.base_token.specs.declared.place.LineCol.{LineCol}
use Rattle.tree_spec.specs.Tree.{Tree}
use Rattle.tree_program_spec.specs.Names.Names.{Name, names}
use Rattle.grammar_text_spec.specs.Text.{Setting, Reads, TreeSpells, text_start}
use Rattle.print_writers.specs.Pages.{Page, Marks}
use Rattle.print_pages_spec.specs.Pieces.{resolved, shortened}
use Rattle.print_layout_spec.specs.declared.look.Look.{Look}
use Rattle.print_layout_spec.specs.Layout.{pieces}
use Rattle.print_pages_spec.specs.Lines.Lines.{place_of}
use Rattle.again_laws.specs.Tiling.Tiles.{IsEmptyPage}
use Rattle.again_laws.specs.Text.PlacedLaws.{BeginsMarks}

-- Names, one by one: the same word, and P of where the one and the other begin.
abbrev pub Alongside : (ℕ → ℕ → Type 0) → List Name → List Name → Type 0
Alongside P [] [] = Unit {0}
Alongside P (a ∷ ms) (b ∷ bs) = (a.sym ≡ b.sym) × P a.at b.at × Alongside P ms bs
Alongside P _ _ = ⊥

-- Whoever reads the text of the page has the names of the tree, and the page has, for each of them, the pair of where it was read and of the line and column where it stands: where no line and no
-- column is past the last.
abbrev pub MarksNames : Setting → Bool → Tree → Page → Type 0
MarksNames x modules t q = (m : Marks) (end : LineCol) → q.marks ≡ Some m → m.reached ≡ Some end → (v : Tree) → Reads modules x.syntax v (chars q.out)
    → Alongside (λ pos at. Contains m.pairs (record { 0 = pos }, place_of (chars q.out) (at - text_start))) (names t) (names v)

-- So it is of what is written of each tree that spells a text, formatted and minified, on a page that keeps marks.
abbrev pub NamesAreMarked : Type 0
NamesAreMarked = (look : Look) (x : Setting) (modules : Bool) (t : Tree) (text : List ℕ) (p : Page) → scalars text ≡ true → TreeSpells x modules t text → IsEmptyPage p → BeginsMarks p
    → MarksNames x modules t (resolved (pieces look t) p) × MarksNames x modules t (shortened (pieces look t) p)
