-- The tests answer what they are named after.
use Rattle.std.specs.Prelude.{◌≡◌}
use Rattle.std.specs.Bool.{Decides}
use Rattle.tree_spec.specs.Tree.{Tree}
use Rattle.tree_program_spec.specs.Program.{IsSameProgram}
use Rattle.tree_program_spec.specs.Equal.{equal}
use Rattle.tree_program_spec.specs.Same.{same}

-- `equal` is true of any two trees exactly where they are equal
abbrev pub EqualIsTested : Type 0
EqualIsTested = (t u : Tree) → Decides (equal t u) (t ≡ u)

-- `same` is true of any two trees exactly where they are the same program
abbrev pub SameIsTested : Type 0
SameIsTested = (t u : Tree) → Decides (same t u) (IsSameProgram t u)
