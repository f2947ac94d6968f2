use Rattle.std.proofs.Common.{◌∙◌, sym}
use Rattle.tree_spec.specs.Tree.{element_by}
use Rattle.tree_same.proofs.Lists.{items_test}
use Rattle.tree_same.proofs.Steps.{second_ends, heads_differ, heads_agree, first_ends}
use Rattle.tree_same.proofs.parts.same_elements.Goals as goal

pub returns-in_default : goal.returns-in_default
returns-in_default g c = second_ends (items_test (element_by g.T.Same.tree)) c.args.items.now c.args.others.now c.items.rest.now c.items.x-index c.items.invariant c.x-item.result c.items-test.true c.x-item.is c.in_default.ensures.cases

pub returns-then-not-same_element : goal.returns-then-not-same_element
returns-then-not-same_element g c = heads_differ (items_test (element_by g.T.Same.tree)) c.args.items.now c.args.others.now c.items.rest.now c.items.x-index c.items.invariant c.x-item.result c.in-Some.y.now c.in-Some.after.now c.items-test.true c.x-item.is c.in-Some.ensures.cases.0 (sym c.same_element.ensures ∙ c.if-not-same_element.true)

pub items-preserved : goal.items-preserved
items-preserved g c = heads_agree (items_test (element_by g.T.Same.tree)) c.args.items.now c.args.others.now c.items.rest.now c.items.x-index c.items.invariant c.x-item.result c.in-Some.y.now c.in-Some.after.now c.items-test.true c.x-item.is c.in-Some.ensures.cases.0 (sym c.same_element.ensures ∙ c.if-not-same_element.false)

pub returns : goal.returns
returns g c = first_ends (items_test (element_by g.T.Same.tree)) c.args.items.now c.args.others.now c.items.rest.now c.items.x-index c.items.invariant c.is_empty.result c.items-test.false c.is_empty.ensures
