-- Pieces without where their marks stand.
use Rattle.std.specs.Prelude.{◌≡◌, List, [], ◌∷◌}
use Rattle.tree_spec.specs.Places.{no_place}
use Rattle.tree_spec.specs.Tree.{Tree}
use Rattle.print_writers.specs.Pages.{Page}
use Rattle.print_pages_spec.specs.Pieces.{Piece, Mark, resolved, shortened}
use Rattle.print_layout_spec.specs.declared.look.Look.{Look}
use Rattle.print_layout_spec.specs.declared.look.Stand.TheVariants.{Alone}
use Rattle.print_layout_spec.specs.Looks.{is_refused}
use Rattle.print_layout_spec.specs.Layout.{laid, pieces}

-- a mark at no place; any other piece as it is
abbrev pub unmarked_piece : Piece → Piece
unmarked_piece (Mark pos) = Mark no_place.lo
unmarked_piece x = x

abbrev pub unmarked : List Piece → List Piece
unmarked [] = []
unmarked (x ∷ xs) = unmarked_piece x ∷ unmarked xs

-- Two trees are written alike: in the same pieces, with as many marks at the same points; so on each page as the same bytes,
-- whether semicolons may go or not; and where one can't be printed the other can't.
pub record AreWrittenAlike (look : Look) (t u : Tree) : Type 0 where
  pub pieces_same : unmarked (pieces look t) ≡ unmarked (pieces look u)
  pub bytes_same : (p : Page) → (resolved (pieces look t) p).out ≡ (resolved (pieces look u) p).out
  pub short_bytes_same : (p : Page) → (shortened (pieces look t) p).out ≡ (shortened (pieces look u) p).out
  pub refused_same : is_refused (laid look Alone t) ≡ is_refused (laid look Alone u)
