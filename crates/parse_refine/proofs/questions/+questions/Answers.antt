use Rattle.std.proofs.Common.{◌∙◌, ap, sym, true≢false, Bool, true, false, if◌then◌else◌, reverse}
use Rattle.tree_spec.specs.Tree.{element_by, trees_by}
use Rattle.tree_nodes.specs.Placed.{inner}
use Rattle.tree_nodes.specs.View.{view_expr_kind, view_expr_or_spread, view_prop_or_spread}
use Rattle.grammar_spec.specs.Reader.Cover.{to_item}
use Rattle.grammar_spec.specs.Reader.Expressions.{is_read}
use Rattle.parse_refine.proofs.Told.{array_told, element_read, element_stops, nothing_left, object_told, stops_at_item, stops_at_rest}
use Rattle.parse_refine.proofs.questions.+questions.Goals as goal
use Rattle.parse_refine.proofs.questions.+questions.Goals.{is_element-else-is_some-via-then-is_some+else-is_initialised, is_element-else-is_some-via-else-is_some}

pub is_array-returns-then-is_rest_elem : goal.is_array-returns-then-is_rest_elem
is_array-returns-then-is_rest_elem t c =
    array_told (reverse c.args.commas.now) c.args.node.now.span (trees_by (λ x. element_by (view_expr_or_spread inner) x) c.args.node.now.elems.items) (sym c.is_noted.ensures ∙ c.if-is_noted.false) false
    (sym c.loop-elem.invariant.items ∙ stops_at_rest false (reverse c.args.commas.now) (λ x. element_by (view_expr_or_spread inner) x) c.as_slice-elem-items.result.now c.loop-elem.elem-index c.elem-item.result c.loop-elem.left c.loop-elem-test.true c.elem-item.is c.loop-elem.invariant.left c.if-left-gt0.true (sym c.is_rest_elem.ensures ∙ c.if-is_rest_elem.true))

pub is_array-returns-then-not-is_elem : goal.is_array-returns-then-not-is_elem
is_array-returns-then-not-is_elem t c =
    array_told (reverse c.args.commas.now) c.args.node.now.span (trees_by (λ x. element_by (view_expr_or_spread inner) x) c.args.node.now.elems.items) (sym c.is_noted.ensures ∙ c.if-is_noted.false) false
    (sym c.loop-elem.invariant.items ∙ stops_at_item false (reverse c.args.commas.now) (λ x. element_by (view_expr_or_spread inner) x) c.as_slice-elem-items.result.now c.loop-elem.elem-index c.elem-item.result c.loop-elem-test.true c.elem-item.is (sym c.is_elem.ensures ∙ c.if-not-is_elem.true))

pub is_array-returns : goal.is_array-returns
is_array-returns t c =
    array_told (reverse c.args.commas.now) c.args.node.now.span (trees_by (λ x. element_by (view_expr_or_spread inner) x) c.args.node.now.elems.items) (sym c.is_noted.ensures ∙ c.if-is_noted.false) true
    (sym c.loop-elem.invariant.items ∙ nothing_left false (reverse c.args.commas.now) (λ x. element_by (view_expr_or_spread inner) x) c.as_slice-elem-items.result.now c.loop-elem.elem-index c.loop-elem-test.false)

pub is_object-returns-then-is_rest_prop : goal.is_object-returns-then-is_rest_prop
is_object-returns-then-is_rest_prop t c =
    object_told (reverse c.args.commas.now) c.args.node.now.span (trees_by (view_prop_or_spread inner) c.args.node.now.props.items) (sym c.is_noted.ensures ∙ c.if-is_noted.false) false
    (sym c.loop-prop.invariant.items ∙ stops_at_rest true (reverse c.args.commas.now) (view_prop_or_spread inner) c.as_slice-prop-items.result.now c.loop-prop.prop-index c.prop-item.result c.loop-prop.left c.loop-prop-test.true c.prop-item.is c.loop-prop.invariant.left c.if-left-gt0.true (sym c.is_rest_prop.ensures ∙ c.if-is_rest_prop.true))

pub is_object-returns-then-not-is_prop : goal.is_object-returns-then-not-is_prop
is_object-returns-then-not-is_prop t c =
    object_told (reverse c.args.commas.now) c.args.node.now.span (trees_by (view_prop_or_spread inner) c.args.node.now.props.items) (sym c.is_noted.ensures ∙ c.if-is_noted.false) false
    (sym c.loop-prop.invariant.items ∙ stops_at_item true (reverse c.args.commas.now) (view_prop_or_spread inner) c.as_slice-prop-items.result.now c.loop-prop.prop-index c.prop-item.result c.loop-prop-test.true c.prop-item.is (sym c.is_prop.ensures ∙ c.if-not-is_prop.true))

pub is_object-returns : goal.is_object-returns
is_object-returns t c =
    object_told (reverse c.args.commas.now) c.args.node.now.span (trees_by (view_prop_or_spread inner) c.args.node.now.props.items) (sym c.is_noted.ensures ∙ c.if-is_noted.false) true
    (sym c.loop-prop.invariant.items ∙ nothing_left true (reverse c.args.commas.now) (view_prop_or_spread inner) c.as_slice-prop-items.result.now c.loop-prop.prop-index c.loop-prop-test.false)

pub is_element-returns-then-is_initialised : goal.is_element-returns-then-is_initialised
is_element-returns-then-is_initialised t c =
    let e = inner c.args.element.now.expr.part.value in
    element_stops (reverse c.args.commas.now) c.args.element.now.span c.args.element.now.spread e (sym c.is_some.ensures ∙ c.if-is_some.true)
    (λ d. c.is_initialised.ensures (reverse c.args.commas.now) c.args.element.now.span d ∙ ap (λ (b : Bool). if b then false else is_read (to_item true (reverse c.args.commas.now) e)) c.if-is_initialised.true)

pub is_element-returns : goal.is_element-returns
is_element-returns t c =
    let e = inner c.args.element.now.expr.part.value in
    c.is_item.ensures ∙ element_read (reverse c.args.commas.now) c.args.element.now.span c.args.element.now.spread e
    (λ h d. elim c.else-is_some.branch [
      | is_element-else-is_some-via-then-is_some+else-is_initialised w ↦ w.is_initialised.ensures (reverse c.args.commas.now) c.args.element.now.span d ∙ ap (λ (b : Bool). if b then false else is_read (to_item true (reverse c.args.commas.now) e)) w.if-is_initialised.false
      | is_element-else-is_some-via-else-is_some w ↦ absurd (true≢false (sym h ∙ (sym c.is_some.ensures ∙ w.if-is_some.false)))
    ])

pub is_item-returns-in-Assign : goal.is_item-returns-in-Assign
is_item-returns-in-Assign t c =
    rw (ap inner c.get.ensures ∙ sym c.behind-expr.view_is ∙ ap (view_expr_kind inner) c.in-Assign.is) (c.is_default.ensures (reverse c.args.commas.now))
