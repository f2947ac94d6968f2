-- Being the same program is an equivalence.
use Rattle.tree_spec.specs.Tree.{Tree}
use Rattle.tree_program_spec.specs.Program.{IsSameProgram}

-- every tree is the same program as itself
abbrev pub SameIsReflexive : Type 0
SameIsReflexive = (t : Tree) → IsSameProgram t t

abbrev pub SameIsSymmetric : Type 0
SameIsSymmetric = (t u : Tree) → IsSameProgram t u → IsSameProgram u t

abbrev pub SameIsTransitive : Type 0
SameIsTransitive = (t u v : Tree) → IsSameProgram t u → IsSameProgram u v → IsSameProgram t v
