use Rattle.std.proofs.Common.{◌+◌, length}
use Rattle.std.specs.Str.Parse.{digits_value}
use Rattle.base_number.proofs.DigitSums.{IsSumSoFar, IsCarried}
use Rattle.base_number.proofs.exponent.sum.Given as goal

abbrev pub invariant-loop-digit : goal.invariant-loop-digit
invariant-loop-digit l = IsSumSoFar l.left l.carry l.low_first.items (digits_value 10 l.digits + l.addend)

abbrev pub decreases-loop-digit : goal.decreases-loop-digit
decreases-loop-digit l = length l.left

abbrev pub invariant-loop-carry : goal.invariant-loop-carry
invariant-loop-carry l = IsCarried l.carry l.low_first.items (digits_value 10 l.digits + l.addend)

abbrev pub decreases-loop-carry : goal.decreases-loop-carry
decreases-loop-carry l = l.carry
