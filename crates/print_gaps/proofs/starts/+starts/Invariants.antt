use Rattle.std.proofs.Common.{◌≡◌, ◌≤◌}
use Rattle.tree_nodes.specs.declared.knot.Expr.TheDeep.{size-Expr}
use Rattle.print_gaps.specs.Edges.{starts_with_word}
use Rattle.print_gaps.proofs.starts.+starts.Given as goal

abbrev pub invariant-ExprStartsWithAlphaNum::starts_with_alpha_num-chain : goal.invariant-ExprStartsWithAlphaNum::starts_with_alpha_num-chain
invariant-ExprStartsWithAlphaNum::starts_with_alpha_num-chain l = (starts_with_word l.expr ≡ starts_with_word l.self) × (size-Expr l.expr ≤ size-Expr l.self)
