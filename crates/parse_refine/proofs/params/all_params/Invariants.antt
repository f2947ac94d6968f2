use Rattle.std.proofs.Common.{◌≡◌, All, map, length, reverse, true, false}
use Rattle.tree_nodes.specs.Placed.{holds_pat, inner}
use Rattle.tree_nodes.specs.View.{view_expr_or_spread}
use Rattle.grammar_spec.specs.Reader.Cover.{to_items}
use Rattle.tree_spec.specs.Tree.{trees_by}
use Rattle.parse_refine.specs.Items.{items_from}
use Rattle.parse_refine.proofs.params.all_params.Given as goal

abbrev pub invariant-params : goal.invariant-params
invariant-params l = record {
  items : to_items false true (reverse l.commas) (trees_by (view_expr_or_spread inner) l.fn.items.items) ≡ items_from false true (reverse l.commas) (map (λ y. inner y.part.value) l.params.items) (trees_by (view_expr_or_spread inner) l.x-iterator.rest.items);
  left : l.left ≡ length l.x-iterator.rest.items;
  fits : All (λ x. holds_pat x.part.value) l.params.items;
}
