use Rattle.std.proofs.Common.{arith, ◌≡◌, ◌∙◌, ap, length, reverse}
use Rattle.smallvec.specs.SmallVec.{with_items}
use Rattle.smallvec.proofs.SmallVecLemmas.{items-with_items}
use Rattle.base_number.proofs.DigitSums.{split_digits, digit_range, difference_goes_on, difference_end}
use Rattle.base_number.proofs.exponent.difference.Goals as goal

pub overflow_sub-digit : goal.overflow_sub-digit
overflow_sub-digit c =
    (digit_range _ (split_digits _ _ _ c.in-Some.ensures.cases.0 c.loop-digit.invariant.left_digits).1).0

pub minus_digit-rest-requires-clause-minuend : goal.minus_digit-rest-requires-clause-minuend
minus_digit-rest-requires-clause-minuend c =
    let range : _ = digit_range c.in-Some.digit.now (split_digits _ _ _ c.in-Some.ensures.cases.0 c.loop-digit.invariant.left_digits).1 in
    omega (arith, c.from.ensures, range.1)

pub loop-digit-preserved : goal.loop-digit-preserved
loop-digit-preserved c =
    difference_goes_on _ _ _ _ c.in-Some.digit.now _ _ _ _ _ _ c.in-Some.ensures.cases.0 c.from.ensures c.minus_digit-rest.ensures.rest c.minus_digit-rest.ensures.value c.in_ok-push.ensures.ok c.loop-digit.invariant

pub returns-clause-value : goal.returns-clause-value
returns-clause-value c =
    let written : (with_items c.loop-digit.low_first c.reverse.new.self).items ≡ c.reverse.new.self = items-with_items c.loop-digit.low_first c.reverse.new.self (c.reverse.ensures.len ∙ ap length c.deref_mut.ensures.value) in
    difference_end c.loop-digit.left.now c.loop-digit.low_first.items _ _ _ _ c.in_default.ensures.cases (written ∙ (c.reverse.ensures.after ∙ ap reverse c.deref_mut.ensures.value)) c.requires.enough c.loop-digit.invariant
