-- Names stand in what is written where the marks of the page say: the statements.
use Rattle.std.specs.Prelude.{◌≡◌, ℕ, ◌-◌, Bool, List, [], Some}
use Rattle.std.specs.List.{Contains}
use Rattle.std.specs.Str.{chars}
use Rattle.base_token.specs.declared.place.BytePos.{BytePos}
use Rattle.base_token.specs.declared.place.LineCol.{LineCol}
use Rattle.print_writers.specs.Pages.{Page, Marks}
use Rattle.print_writers.specs.Views.{first_marks}
use Rattle.print_pages_spec.specs.Pieces.{resolved, shortened}
use Rattle.print_layout_spec.specs.Looks.{Laid, meant, hashbang_comment, ◌·◌, line_always, listed}
use Rattle.print_pages_spec.specs.Lines.Lines.{place_of}
use Rattle.again_laws.specs.Tokens.Naming.{Naming, StandsFor}
use Rattle.again_laws.specs.Tiling.Goes.{GoesWhole}
use Rattle.again_laws.specs.Tiling.Tiles.{SaysTiles, IsEmptyPage, IsHashbangText, IsSilent}

-- A page that keeps marks, on which nothing was marked: no place behind the first was reached, and no position waits.
abbrev pub BeginsMarks : Page → Type 0
BeginsMarks p = (pairs : List (BytePos × LineCol)) × (p.marks ≡ Some (first_marks pairs))

-- The page has the pair of a position and of the line and column of a place of its text, whose characters begin at `start`: where no line and no column is past the last.
-- A dummy position makes no pair.
abbrev pub HasPair : ℕ → Page → ℕ → ℕ → Type 0
HasPair start p pos at = (m : Marks) (end : LineCol) → p.marks ≡ Some m → m.reached ≡ Some end → (pos ≡ 0 → ⊥) → Contains m.pairs (record { 0 = pos }, place_of (chars p.out) (at - start))

-- The layout says tokens that tile the text of the page; each of its names stands for one that was read, and the page has the pair of where that was read and of where it stands.
pub record SaysPlaced (start : ℕ) (modules : Bool) (f : Laid) (p : Page) : Type 0 where
  pub naming : Naming
  pub tiles : SaysTiles (StandsFor naming) start modules f (chars p.out)
  pub pairs : (pos at : ℕ) → StandsFor naming pos at → HasPair start p pos at

-- so it is of what is written of a layout on a page, formatted and minified
abbrev pub ArePlaced : ℕ → Bool → Laid → Page → Type 0
ArePlaced start modules f p = SaysPlaced start modules f (resolved (listed f []) p) × SaysPlaced start modules f (shortened (listed f []) p)

-- The names of a layout whose texts may stand one after another are written where the marks say.
abbrev pub NamesArePlaced : Type 0
NamesArePlaced = (start : ℕ) (modules : Bool) (f : Laid) (p : Page) → IsEmptyPage p → BeginsMarks p → GoesWhole f → ArePlaced start modules f p

-- So are those of one behind a hashbang.
abbrev pub NamesBehindHashbangs : Type 0
NamesBehindHashbangs = (start : ℕ) (modules : Bool) (mark : Laid) (own : List ℕ) (f : Laid) (p : Page) → IsEmptyPage p → BeginsMarks p → IsSilent mark → IsHashbangText own → GoesWhole f
    → ArePlaced start modules (mark · (meant (hashbang_comment own) · line_always) · f) p
