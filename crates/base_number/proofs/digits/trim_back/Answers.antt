use Rattle.std.proofs.Common.{◌≤◌, ◌+◌, length, arith, sym}
use Rattle.base_number.proofs.TextLemmas.{zeros_within, zero_goes, digit_stays}
use Rattle.base_number.proofs.digits.trim_back.Goals as goal

pub overflow_add-zeros : goal.overflow_add-zeros
overflow_add-zeros c =
    let within : c.loop-last.zeros + 1 ≤ length c.args.text.now = zeros_within c.loop-last.left.now c.in-Some.front.now c.args.text.now c.in-Some.last.now c.loop-last.zeros c.in-Some.ensures.cases.0 c.if-last-eq48.true c.loop-last.invariant in
    omega (arith, within)

pub returns-then-not-is_between-clause-value : goal.returns-then-not-is_between-clause-value
returns-then-not-is_between-clause-value c =
    digit_stays c.loop-last.left.now c.in-Some.front.now c.args.text.now c.in-Some.last.now c.loop-last.zeros c.in-Some.ensures.cases.0 c.if-last-eq48.false (sym c.if-not-is_between.ensures) c.loop-last.invariant

pub loop-last-preserved-then-last-eq48 : goal.loop-last-preserved-then-last-eq48
loop-last-preserved-then-last-eq48 c =
    zero_goes c.loop-last.left.now c.in-Some.front.now c.args.text.now c.in-Some.last.now c.loop-last.zeros c.in-Some.ensures.cases.0 c.if-last-eq48.true c.loop-last.invariant
