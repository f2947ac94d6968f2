use Rattle.std.proofs.Common.{◌≡◌, max, drop}
use Rattle.tree_nodes.specs.Tree.{trees_by, element_by}
use Rattle.tree_nesting.specs.Nesting.{nesting_of_all, capped}
use Rattle.tree_nesting.proofs.counts.deepest_element.Given as goal

abbrev pub invariant-loop-x : goal.invariant-loop-x
invariant-loop-x g l = max l.deepest (capped (nesting_of_all (trees_by (element_by g.T.Nesting.tree) (drop l.x-index l.items)))) ≡ capped (nesting_of_all (trees_by (element_by g.T.Nesting.tree) l.items))
