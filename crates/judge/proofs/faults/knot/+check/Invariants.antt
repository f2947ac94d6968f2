use Rattle.std.proofs.Common.{◌≡◌, ◌≤◌, ◌++◌, ◌+◌, ◌*◌, ◌-◌}
use Rattle.tree_spec.specs.Folds.{fold}
use Rattle.tree_nodes.specs.declared.knot.Expr.TheDeep.{size-Stmt}
use Rattle.grammar_spec.specs.Judge.Early.{step}
use Rattle.judge.specs.Base.Around.{scope_of}
use Rattle.tree_spec.specs.Codes.{tree_size}
use Rattle.tree_visit.specs.Spine.Chains.{below}
use Rattle.judge.proofs.faults.knot.+check.Given as goal

abbrev pub invariant-StmtCheck::check-loop-stmt : goal.invariant-StmtCheck::check-loop-stmt
invariant-StmtCheck::check-loop-stmt l = (l.faults.items ++ fold step l.stmt (scope_of l.code) ≡ l.initial.faults.items ++ fold step l.self (scope_of l.code)) × (size-Stmt l.stmt ≤ size-Stmt l.self)

-- the links that are left, with their right operands
abbrev pub decreases-check_rights : goal.decreases-check_rights
decreases-check_rights l = 2 * (tree_size l.top.now - tree_size (below l.links l.top.now)) + 1
