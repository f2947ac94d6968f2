use Rattle.std.proofs.Common.{◌≡◌, ◌+◌, drop, length, reverse, false}
use Rattle.tree_spec.specs.Tree.{trees_by}
use Rattle.tree_nodes.specs.Placed.{inner}
use Rattle.tree_nodes.specs.View.{view_expr_or_spread}
use Rattle.parse_refine.specs.Items.{all_told}
use Rattle.parse_refine.proofs.params.are_items.Given as goal

abbrev pub invariant-loop-x : goal.invariant-loop-x
invariant-loop-x l = record {
  items : all_told false (reverse l.commas) (trees_by (view_expr_or_spread inner) (drop l.x-index l.items)) ≡ all_told false (reverse l.commas) (trees_by (view_expr_or_spread inner) l.fn.items);
  left : l.left + l.x-index ≡ length l.items;
}
