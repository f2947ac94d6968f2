-- That the test of being the same program is one.
use Rattle.std.specs.Bool.{Decides}
use Rattle.tree_spec.specs.Tree.{Tree}
use Rattle.tree_program_spec.specs.Program.{program, IsSameProgram}
use Rattle.tree_program_spec.specs.Same.{same}
use Rattle.tree_program_spec.proofs.EqualLemmas.{equal_decides}

-- the test says of two trees whether they are the same program
pub same_decides : (t u : Tree) → Decides (same t u) (IsSameProgram t u)
unfolding same
same_decides t u = equal_decides (program t) (program u)
