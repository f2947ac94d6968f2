use Rattle.std.proofs.Common.{◌≡◌, All, map}
use Rattle.tree_nodes.specs.Placed.{holds_expr, inner}
use Rattle.tree_nodes.specs.View.{view_expr_or_spread}
use Rattle.parse_arrows.specs.Groups.{plain_from, plain_list}
use Rattle.parse_arrows.proofs.groups.plain.Given as goal

abbrev pub invariant-items : goal.invariant-items
invariant-items l = record {
  reads : plain_list (map (view_expr_or_spread inner) l.fn.items.items) ≡ plain_from (map (λ e. inner e.part.value) l.exprs.items) (map (view_expr_or_spread inner) l.x-iterator.rest.items);
  holds : All (λ e. holds_expr e.part.value) l.exprs.items;
}
