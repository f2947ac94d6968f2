use Rattle.std.proofs.Common.{◌≡◌, ◌+◌, ◌*◌, drop, length, reverse, true, false}
use Rattle.tree_spec.specs.Tree.{element_by, trees_by}
use Rattle.tree_nodes.specs.Placed.{inner}
use Rattle.tree_nodes.specs.View.{view_expr_or_spread, view_prop_or_spread}
use Rattle.parse_refine.specs.Items.{all_told}
use Rattle.parse_refine.proofs.questions.+questions.Given as goal

abbrev pub invariant-is_array-loop-elem : goal.invariant-is_array-loop-elem
invariant-is_array-loop-elem l = record {
  items : all_told false (reverse l.commas) (trees_by (λ x. element_by (view_expr_or_spread inner) x) (drop l.elem-index l.elem-items)) ≡ all_told false (reverse l.commas) (trees_by (λ x. element_by (view_expr_or_spread inner) x) l.node.elems.items);
  left : l.left + l.elem-index ≡ length l.elem-items;
}

abbrev pub invariant-is_object-loop-prop : goal.invariant-is_object-loop-prop
invariant-is_object-loop-prop l = record {
  items : all_told true (reverse l.commas) (trees_by (view_prop_or_spread inner) (drop l.prop-index l.prop-items)) ≡ all_told true (reverse l.commas) (trees_by (view_prop_or_spread inner) l.node.props.items);
  left : l.left + l.prop-index ≡ length l.prop-items;
}

-- a whole comes before its parts, and those before what is in them
abbrev pub decreases-is_item : goal.decreases-is_item
decreases-is_item l = 4 * goal.size-is_item l

abbrev pub decreases-is_array : goal.decreases-is_array
decreases-is_array l = 4 * goal.size-is_array l + 3

abbrev pub decreases-is_object : goal.decreases-is_object
decreases-is_object l = 4 * goal.size-is_object l + 3

abbrev pub decreases-is_elem : goal.decreases-is_elem
decreases-is_elem l = 4 * goal.size-is_elem l + 2

abbrev pub decreases-is_prop : goal.decreases-is_prop
decreases-is_prop l = 4 * goal.size-is_prop l + 2

abbrev pub decreases-is_element : goal.decreases-is_element
decreases-is_element l = 4 * goal.size-is_element l + 1

abbrev pub decreases-is_property : goal.decreases-is_property
decreases-is_property l = 4 * goal.size-is_property l + 1
