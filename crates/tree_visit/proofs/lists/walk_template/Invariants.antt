use Rattle.std.proofs.Common.{◌≡◌, drop}
use Rattle.tree_nodes.specs.View.{view_tpl_element}
use Rattle.tree_spec.specs.Tree.{trees_by}
use Rattle.tree_spec.specs.Folds.{folds}
use Rattle.tree_visit.specs.Walk.{walk_step, by_turns}
use Rattle.tree_visit.proofs.lists.walk_template.Given as goal

abbrev pub invariant-loop-text : goal.invariant-loop-text
invariant-loop-text g l = by_turns (folds (walk_step g.V.Watch.step) (trees_by view_tpl_element (drop l.text-index l.texts))) (folds (walk_step g.V.Watch.step) (trees_by g.T.Walk.tree l.rest)) (g.V.Watch.state l.visitor) ≡ by_turns (folds (walk_step g.V.Watch.step) (trees_by view_tpl_element l.texts)) (folds (walk_step g.V.Watch.step) (trees_by g.T.Walk.tree l.exprs)) (g.V.Watch.state l.initial.visitor)
