-- Where the names of a tree begin: where tokens begin of which they were read.
use Rattle.std.specs.Prelude.{◌≡◌, ◌≤◌, ℕ, false, List, [], ◌∷◌}
use Rattle.tree_spec.specs.Tree.{Tree}
use Rattle.tree_program_spec.specs.Names.Names.{Name, names}
use Rattle.grammar_spec.specs.Tokens.Input.{PlacedToken, Input, Code}
use Rattle.grammar_spec.specs.Children.{is_quasi}
use Rattle.grammar_spec.specs.Grammar.{Produces}

-- Each token begins at a place or behind it.
abbrev pub BeginFrom : ℕ → List PlacedToken → Type 0
BeginFrom n [] = Unit {0}
BeginFrom n (p ∷ ps) = (n ≤ p.spot.lo) × BeginFrom n ps

-- Each name does.
abbrev pub NamesFrom : ℕ → List Name → Type 0
NamesFrom n [] = Unit {0}
NamesFrom n (x ∷ xs) = (n ≤ x.at) × NamesFrom n xs

-- The names of what is derived, and is no piece of a template, begin where its tokens do.
abbrev pub NamesBeginThere : Type 0
NamesBeginThere = (n : ℕ) (t : Tree) (c : Code) (ts r : Input) → is_quasi t ≡ false → Produces t c ts r → BeginFrom n ts.places → NamesFrom n (names t)
