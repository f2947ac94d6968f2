use Rattle.std.proofs.Common.{◌≡◌, ◌≤◌}
use Rattle.tree_nodes.specs.declared.knot.Expr.TheDeep.{size-Expr, size-Stmt}
use Rattle.grammar_text_spec.specs.Choice.{telling}
use Rattle.tree_spec.specs.Folds.{fold}
use Rattle.judge_is_module.proofs.knot.+tells.Given as goal

abbrev pub invariant-ExprTells::tells-chain : goal.invariant-ExprTells::tells-chain
invariant-ExprTells::tells-chain l = (fold telling l.expr ≡ fold telling l.self) × (size-Expr l.expr ≤ size-Expr l.self)

abbrev pub invariant-StmtTells::tells-chain : goal.invariant-StmtTells::tells-chain
invariant-StmtTells::tells-chain l = (fold telling l.stmt ≡ fold telling l.self) × (size-Stmt l.stmt ≤ size-Stmt l.self)
