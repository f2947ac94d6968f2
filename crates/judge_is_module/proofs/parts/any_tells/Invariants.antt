use Rattle.std.proofs.Common.{◌≡◌, drop}
use Rattle.grammar_text_spec.specs.Choice.{some_true, telling}
use Rattle.tree_spec.specs.Folds.{folds}
use Rattle.tree_spec.specs.Tree.{trees_by}
use Rattle.judge_is_module.proofs.parts.any_tells.Given as goal

abbrev pub invariant-loop-x : goal.invariant-loop-x
invariant-loop-x g l = some_true (folds telling (trees_by g.T.Tells.tree (drop l.x-index l.items))) ≡ some_true (folds telling (trees_by g.T.Tells.tree l.items))
