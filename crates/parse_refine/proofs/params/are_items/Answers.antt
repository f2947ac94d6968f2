use Rattle.std.proofs.Common.{◌∙◌, sym, false, reverse}
use Rattle.tree_spec.specs.Tree.{trees_by}
use Rattle.tree_nodes.specs.Placed.{inner}
use Rattle.tree_nodes.specs.View.{view_expr_or_spread}
use Rattle.parse_refine.proofs.Told.{all_is, nothing_left, stops_at_element, stops_at_rest}
use Rattle.parse_refine.proofs.params.are_items.Goals as goal

pub returns-then-is_rest : goal.returns-then-is_rest
returns-then-is_rest c =
    sym (all_is false (reverse c.args.commas.now) (trees_by (view_expr_or_spread inner) c.args.items.now) ∙ (sym c.loop-x.invariant.items ∙ stops_at_rest false (reverse c.args.commas.now) (view_expr_or_spread inner) c.args.items.now c.loop-x.x-index c.x-item.result c.loop-x.left c.loop-x-test.true c.x-item.is c.loop-x.invariant.left c.if-left-gt0.true (sym c.is_rest.ensures ∙ c.if-is_rest.true)))

pub returns-then-not-is_element : goal.returns-then-not-is_element
returns-then-not-is_element c =
    sym (all_is false (reverse c.args.commas.now) (trees_by (view_expr_or_spread inner) c.args.items.now) ∙ (sym c.loop-x.invariant.items ∙ stops_at_element (reverse c.args.commas.now) (view_expr_or_spread inner) c.args.items.now c.loop-x.x-index c.x-item.result c.loop-x-test.true c.x-item.is (sym c.is_element.ensures ∙ c.if-not-is_element.true)))

pub returns : goal.returns
returns c =
    sym (all_is false (reverse c.args.commas.now) (trees_by (view_expr_or_spread inner) c.args.items.now) ∙ (sym c.loop-x.invariant.items ∙ nothing_left false (reverse c.args.commas.now) (view_expr_or_spread inner) c.args.items.now c.loop-x.x-index c.loop-x-test.false))
