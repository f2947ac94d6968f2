-- The texts of a template tell nothing.
use Rattle.std.proofs.Common.{◌≡◌, false, List, [], ◌∷◌, refl}
use Rattle.tree_spec.specs.Tree.{trees_by}
use Rattle.tree_spec.specs.Folds.{folds}
use Rattle.grammar_text_spec.specs.Choice.{some_true, telling}
use Rattle.tree_nodes.specs.View.{view_tpl_element}
use Rattle.tree_nodes.specs.declared.expressions.TplElement.{TplElement}

pub no_text : (texts : List TplElement) → some_true (folds telling (trees_by view_tpl_element texts)) ≡ false
no_text [] = refl
no_text (x ∷ xs) = no_text xs
