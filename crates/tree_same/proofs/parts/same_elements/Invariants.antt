use Rattle.std.proofs.Common.{◌≡◌, drop}
use Rattle.tree_spec.specs.Tree.{trees_by, element_by, list}
use Rattle.tree_program_spec.specs.Same.{same}
use Rattle.tree_same.proofs.parts.same_elements.Given as goal

abbrev pub invariant-items : goal.invariant-items
invariant-items g l = same (list (trees_by (element_by g.T.Same.tree) (drop l.x-index l.items))) (list (trees_by (element_by g.T.Same.tree) l.rest)) ≡ same (list (trees_by (element_by g.T.Same.tree) l.items)) (list (trees_by (element_by g.T.Same.tree) l.others))
