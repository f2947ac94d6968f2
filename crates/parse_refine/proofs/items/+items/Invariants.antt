use Rattle.std.proofs.Common.{◌≡◌, ◌+◌, ◌*◌, All, map, length, reverse, true, false}
use Rattle.tree_spec.specs.Tree.{element_by, trees_by}
use Rattle.tree_nodes.specs.Fits.{fits_held, fits_object_pat_prop}
use Rattle.tree_nodes.specs.Placed.{holds_pat, inner}
use Rattle.tree_nodes.specs.View.{view_expr_or_spread, view_object_pat_prop, view_prop_or_spread}
use Rattle.grammar_spec.specs.Reader.Cover.{to_items}
use Rattle.parse_refine.specs.Items.{items_from}
use Rattle.parse_refine.proofs.items.+items.Given as goal

abbrev pub invariant-array-elems : goal.invariant-array-elems
invariant-array-elems l = record {
  items : to_items false l.binds (reverse l.commas) (trees_by (λ x. element_by (view_expr_or_spread inner) x) l.fn.node.elems.items) ≡ items_from false l.binds (reverse l.commas) (map (λ x. element_by (λ y. inner y.part.value) x) l.elems.items) (trees_by (λ x. element_by (view_expr_or_spread inner) x) l.x-iterator.rest.items);
  left : l.left ≡ length l.x-iterator.rest.items;
  fits : All (λ x. fits_held (λ y. holds_pat y.part.value) x) l.elems.items;
}

abbrev pub invariant-object-props : goal.invariant-object-props
invariant-object-props l = record {
  items : to_items true l.binds (reverse l.commas) (trees_by (view_prop_or_spread inner) l.fn.node.props.items) ≡ items_from true l.binds (reverse l.commas) (map (view_object_pat_prop inner) l.props.items) (trees_by (view_prop_or_spread inner) l.x-iterator.rest.items);
  left : l.left ≡ length l.x-iterator.rest.items;
  fits : All (λ x. fits_object_pat_prop (λ p. p) x) l.props.items;
}

-- a whole comes before its parts, and those before what is in them
abbrev pub decreases-item : goal.decreases-item
decreases-item l = 4 * goal.size-item l

abbrev pub decreases-array : goal.decreases-array
decreases-array l = 4 * goal.size-array l + 3

abbrev pub decreases-object : goal.decreases-object
decreases-object l = 4 * goal.size-object l + 3

abbrev pub decreases-elem : goal.decreases-elem
decreases-elem l = 4 * goal.size-elem l + 2

abbrev pub decreases-prop : goal.decreases-prop
decreases-prop l = 4 * goal.size-prop l + 2

abbrev pub decreases-element : goal.decreases-element
decreases-element l = 4 * goal.size-element l + 1

abbrev pub decreases-spread : goal.decreases-spread
decreases-spread l = 4 * goal.size-spread l + 1

abbrev pub decreases-property : goal.decreases-property
decreases-property l = 4 * goal.size-property l + 1
