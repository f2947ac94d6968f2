use Rattle.std.proofs.Common.{◌≡◌, ◌++◌, drop}
use Rattle.tree_spec.specs.Tree.{trees_by}
use Rattle.tree_spec.specs.Folds.{folds}
use Rattle.grammar_spec.specs.Judge.Early.{statements, step}
use Rattle.judge.specs.Base.Around.{scope_of}
use Rattle.judge.proofs.faults.bodies.check_statements.Given as goal

abbrev pub invariant-loop-x : goal.invariant-loop-x
invariant-loop-x g l = l.faults.items ++ statements (trees_by g.S.Check.tree (drop l.x-index l.items)) (folds step (trees_by g.S.Check.tree (drop l.x-index l.items))) (scope_of l.code) ≡ l.initial.faults.items ++ statements (trees_by g.S.Check.tree l.items) (folds step (trees_by g.S.Check.tree l.items)) (scope_of l.initial.code)
