use Rattle.std.proofs.Common.{◌≡◌, ◌+◌, ◌≤◌, max}
use Rattle.tree_nodes.specs.declared.knot.Expr.TheDeep.{size-Expr, size-Stmt, size-Pat, size-Part}
use Rattle.tree_program_spec.specs.Same.{same}
use Rattle.tree_same.proofs.knot.+same.Given as goal

abbrev pub decreases-PartSame::same : goal.decreases-PartSame::same
decreases-PartSame::same l = max (size-Part l.self.now) (size-Part l.other.now)

abbrev pub decreases-ExprSame::same : goal.decreases-ExprSame::same
decreases-ExprSame::same l = max (size-Expr l.self.now) (size-Expr l.other.now) + 1

abbrev pub decreases-left_parts : goal.decreases-left_parts
decreases-left_parts l = max (size-Expr l.expr.now) (size-Expr l.other.now)

abbrev pub decreases-StmtSame::same : goal.decreases-StmtSame::same
decreases-StmtSame::same l = max (size-Stmt l.self.now) (size-Stmt l.other.now)

abbrev pub decreases-PatSame::same : goal.decreases-PatSame::same
decreases-PatSame::same l = max (size-Pat l.self.now) (size-Pat l.other.now)

abbrev pub invariant-ExprSame::same-chain : goal.invariant-ExprSame::same-chain
invariant-ExprSame::same-chain l = (same l.expr l.other_expr ≡ same l.self l.other) × ((size-Expr l.expr ≤ size-Expr l.self) × (size-Expr l.other_expr ≤ size-Expr l.other))

abbrev pub invariant-StmtSame::same-chain : goal.invariant-StmtSame::same-chain
invariant-StmtSame::same-chain l = (same l.stmt l.other_stmt ≡ same l.self l.other) × ((size-Stmt l.stmt ≤ size-Stmt l.self) × (size-Stmt l.other_stmt ≤ size-Stmt l.other))
