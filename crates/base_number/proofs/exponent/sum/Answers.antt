use Rattle.base_number.proofs.DigitSums.{split_digits, digit_range, sum_goes_on, carry_goes_on}
use Rattle.base_number.proofs.exponent.sum.Goals as goal

pub overflow_sub-digit : goal.overflow_sub-digit
overflow_sub-digit c =
    (digit_range _ (split_digits _ _ _ c.in-Some.ensures.cases.0 c.loop-digit.invariant.left_digits).1).0

pub loop-digit-preserved : goal.loop-digit-preserved
loop-digit-preserved c =
    sum_goes_on _ _ _ _ c.in-Some.digit.now _ _ _ c.in-Some.ensures.cases.0 c.from.ensures c.in_ok-push.ensures.ok c.loop-digit.invariant

pub loop-carry-preserved : goal.loop-carry-preserved
loop-carry-preserved c =
    carry_goes_on _ _ _ _ c.in_ok-push-2.ensures.ok c.loop-carry.invariant
