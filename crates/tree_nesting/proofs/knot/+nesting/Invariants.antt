use Rattle.std.proofs.Common.{◌≡◌, ◌≤◌, max}
use Rattle.tree_nodes.specs.declared.knot.Expr.TheDeep.{size-Expr, size-Stmt}
use Rattle.tree_nesting.specs.Nesting.{nesting, capped}
use Rattle.tree_nesting.proofs.knot.+nesting.Given as goal

abbrev pub invariant-ExprNesting::nesting-chain : goal.invariant-ExprNesting::nesting-chain
invariant-ExprNesting::nesting-chain l = (max l.deepest (capped (nesting l.expr)) ≡ capped (nesting l.self)) × (size-Expr l.expr ≤ size-Expr l.self)

abbrev pub invariant-StmtNesting::nesting-loop-stmt : goal.invariant-StmtNesting::nesting-loop-stmt
invariant-StmtNesting::nesting-loop-stmt l = (max l.deepest (capped (nesting l.stmt)) ≡ capped (nesting l.self)) × (size-Stmt l.stmt ≤ size-Stmt l.self)
