-- Parameters of arrows.
use Rattle.std.proofs.Common.{◌≡◌, false, refl}
use Rattle.print_gaps.specs.Tree.{Tree, Trees, more, binding_ident}
use Rattle.print_layout_spec.specs.Layout.{is_one_name}

-- two or more are no single name
pub several : (t u : Tree) (ts : Trees) → is_one_name (more t (more u ts)) ≡ false
several (binding_ident span id) u ts = refl
several t u ts = refl
