use Rattle.std.proofs.Common.{rules, ◌∙◌, reverse, false, true, sym}
use Rattle.tree_spec.specs.Tree.{element_by, trees_by}
use Rattle.tree_nodes.specs.Placed.{inner}
use Rattle.tree_nodes.specs.View.{view_expr_or_spread, view_object_pat_prop, view_prop_or_spread}
use Rattle.parse_refine.proofs.Rows.{array_read, object_read, items_done}
use Rattle.parse_refine.proofs.items.+items.Goals as goal

pub array-returns-clause-value : goal.array-returns-clause-value
array-returns-clause-value t c =
    array_read c.args.binds (reverse c.args.commas.now) c.args.node.span (trees_by (λ x. element_by (view_expr_or_spread inner) x) c.args.node.elems.items) (trees_by (λ x. element_by (λ y. inner y.part.value) x) c.elems.elems.items) (sym c.is_noted.ensures ∙ c.if-is_noted.false)
    (c.elems.invariant.items ∙ items_done false c.args.binds (reverse c.args.commas.now) (λ x. element_by (λ y. inner y.part.value) x) (λ x. element_by (view_expr_or_spread inner) x) c.elems.elems.items c.elems.x-iterator.rest.items (search rules))

pub object-returns-clause-value : goal.object-returns-clause-value
object-returns-clause-value t c =
    object_read c.args.binds (reverse c.args.commas.now) c.args.node.span (trees_by (view_prop_or_spread inner) c.args.node.props.items) (trees_by (view_object_pat_prop inner) c.props.props.items) (sym c.is_noted.ensures ∙ c.if-is_noted.false)
    (c.props.invariant.items ∙ items_done true c.args.binds (reverse c.args.commas.now) (view_object_pat_prop inner) (view_prop_or_spread inner) c.props.props.items c.props.x-iterator.rest.items (search rules))
