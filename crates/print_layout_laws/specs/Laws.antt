-- What the layout of a tree doesn't depend on: the statements of the laws.
use Rattle.std.specs.Prelude.{◌≡◌, true}
use Rattle.tree_spec.specs.Places.{no_place, place_of}
use Rattle.tree_spec.specs.Tree.{Tree}
use Rattle.print_layout_spec.specs.declared.look.Look.{Look}
use Rattle.print_layout_spec.specs.declared.look.Stand.{Stand}
use Rattle.print_layout_spec.specs.Layout.{laid, pieces}
use Rattle.print_layout_laws.specs.Bare.{unplaced, unspelled}
use Rattle.print_layout_laws.specs.Marks.{unmarked, AreWrittenAlike}

-- A tree without places has none of its own (and each of its parts is such a tree again).
abbrev pub UnplacedIsNowhere : Type 0
UnplacedIsNowhere = (t : Tree) → place_of (unplaced t) ≡ no_place

-- A layout has the places of its tree in marks alone.
abbrev pub PlacesAreMarks : Type 0
PlacesAreMarks = (look : Look) (t : Tree) → unmarked (pieces look (unplaced t)) ≡ unmarked (pieces look t)

-- So trees that agree but for places are written alike.
abbrev pub PlacesAside : Type 0
PlacesAside = (look : Look) (t u : Tree) → unplaced t ≡ unplaced u → AreWrittenAlike look t u

-- A minified layout has nothing of the raw texts of numbers and big integers, and of strings other than `use strict` with an escape.
abbrev pub SpellingsGo : Type 0
SpellingsGo = (look : Look) (s : Stand) (t : Tree) → look.style.minify ≡ true → laid look s (unspelled t) ≡ laid look s t

-- So minified, trees that agree but for those and for places are written alike.
abbrev pub SpellingsAside : Type 0
SpellingsAside = (look : Look) (t u : Tree) → look.style.minify ≡ true → unplaced (unspelled t) ≡ unplaced (unspelled u) → AreWrittenAlike look t u
