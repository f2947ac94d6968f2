use Rattle.std.proofs.Common.{◌≡◌, ◌++◌, drop}
use Rattle.tree_spec.specs.Tree.{trees_by, element_by}
use Rattle.tree_spec.specs.Folds.{folds}
use Rattle.grammar_spec.specs.Judge.Early.{every, step}
use Rattle.judge.specs.Base.Around.{scope_of}
use Rattle.judge.proofs.faults.check.check_elements.Given as goal

abbrev pub invariant-loop-x : goal.invariant-loop-x
invariant-loop-x g l = l.faults.items ++ every (folds step (trees_by (λ x. element_by g.T.Check.tree x) (drop l.x-index l.items))) (scope_of l.code) ≡ l.initial.faults.items ++ every (folds step (trees_by (λ x. element_by g.T.Check.tree x) l.items)) (scope_of l.code)
