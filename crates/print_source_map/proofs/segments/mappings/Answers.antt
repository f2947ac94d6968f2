use Rattle.std.proofs.Common.{sym, ◌∙◌}
use Rattle.print_source_map.proofs.Written.{text_goes_on, order_goes_on, order_ends, near_goes_on, near_ends, are_in_order, all_near, all_said}
use Rattle.print_source_map.proofs.segments.mappings.Goals as goal

pub returns-then-not-follows-clause-err : goal.returns-then-not-follows-clause-err
returns-then-not-follows-clause-err c =
    order_ends c.args.places.now c.loop-place.place-index c.loop-place.last c.loop-place-test.true c.loop-place.invariant.ordered (sym c.follows.ensures.follows ∙ c.if-not-follows.true)

pub returns-then-not-is_near-clause-err : goal.returns-then-not-is_near-clause-err
returns-then-not-is_near-clause-err c =
    near_ends c.args.places.now c.loop-place.place-index c.loop-place-test.true c.loop-place.invariant.near (sym c.is_near.ensures ∙ c.if-not-is_near.true)

pub loop-place-preserved : goal.loop-place-preserved
loop-place-preserved c = record {
  text = text_goes_on c.args.places.now c.loop-place.place-index c.loop-place.last _ _ _ c.loop-place-test.true c.loop-place.invariant.text c.in_ok-push_mapping.ensures;
  ordered = order_goes_on c.args.places.now c.loop-place.place-index c.loop-place.last _ c.loop-place-test.true c.loop-place.invariant.ordered (sym c.follows.ensures.follows ∙ c.if-not-follows.false);
  near = near_goes_on c.args.places.now c.loop-place.place-index _ c.loop-place-test.true c.loop-place.invariant.near (sym c.is_near.ensures ∙ c.if-not-is_near.false);
}

pub returns-clause-says : goal.returns-clause-says
returns-clause-says c =
    all_said c.args.places.now c.loop-place.place-index c.loop-place.last _ c.loop-place-test.false c.loop-place.invariant.text
    (are_in_order c.args.places.now c.loop-place.place-index c.loop-place.last c.loop-place-test.false c.loop-place.invariant.ordered)
    (all_near c.args.places.now c.loop-place.place-index c.loop-place-test.false c.loop-place.invariant.near)

pub returns-clause-ok : goal.returns-clause-ok
returns-clause-ok c = (
  are_in_order c.args.places.now c.loop-place.place-index c.loop-place.last c.loop-place-test.false c.loop-place.invariant.ordered,
  all_near c.args.places.now c.loop-place.place-index c.loop-place-test.false c.loop-place.invariant.near,
)
