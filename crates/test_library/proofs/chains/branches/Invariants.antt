use Rattle.tree_nodes.specs.Placed.{holds_stmt}
use Rattle.test_library.proofs.chains.branches.Given as goal

abbrev pub invariant-loop-i : goal.invariant-loop-i
invariant-loop-i g l = holds_stmt l.stmt.part.value
