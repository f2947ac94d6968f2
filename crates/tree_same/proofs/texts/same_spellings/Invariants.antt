use Rattle.std.proofs.Common.{◌≡◌, drop}
use Rattle.tree_spec.specs.Tree.{trees_by}
use Rattle.tree_nodes.specs.View.{view_tpl_element}
use Rattle.tree_same.specs.Compared.{same_spellings}
use Rattle.tree_same.proofs.texts.same_spellings.Given as goal

abbrev pub invariant-texts : goal.invariant-texts
invariant-texts l = same_spellings (trees_by view_tpl_element (drop l.x-index l.texts)) (trees_by view_tpl_element l.rest) ≡ same_spellings (trees_by view_tpl_element l.texts) (trees_by view_tpl_element l.others)
