use Rattle.tree_nodes.specs.Placed.{holds_expr}
use Rattle.test_library.proofs.chains.exprs.Given as goal

abbrev pub invariant-loop-i : goal.invariant-loop-i
invariant-loop-i g l = holds_expr l.expr.part.value
