use Rattle.std.proofs.Common.{◌≡◌, drop}
use Rattle.tree_spec.specs.Tree.{trees_by}
use Rattle.tree_visit.specs.Walk.{walk_of_all}
use Rattle.tree_visit.proofs.lists.walk_all.Given as goal

abbrev pub invariant-loop-x : goal.invariant-loop-x
invariant-loop-x g l = walk_of_all g.V.Watch.step (trees_by g.T.Walk.tree (drop l.x-index l.items)) (g.V.Watch.state l.visitor) ≡ walk_of_all g.V.Watch.step (trees_by g.T.Walk.tree l.items) (g.V.Watch.state l.initial.visitor)
