-- Whether two trees are the same program, as a test.
use Rattle.std.specs.Prelude.{Bool}
use Rattle.tree_spec.specs.Tree.{Tree}
use Rattle.tree_program_spec.specs.Program.{program}
use Rattle.tree_program_spec.specs.Equal.{equal}

-- whether two trees are the same program: what they say without places and spellings is equal
unfoldable pub same : Tree → Tree → Bool
same t u = equal (program t) (program u)
