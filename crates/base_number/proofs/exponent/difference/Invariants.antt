use Rattle.std.proofs.Common.{length}
use Rattle.std.specs.Str.Parse.{digits_value}
use Rattle.base_number.proofs.DigitSums.{IsDifferenceSoFar}
use Rattle.base_number.proofs.exponent.difference.Given as goal

abbrev pub invariant-loop-digit : goal.invariant-loop-digit
invariant-loop-digit l = IsDifferenceSoFar l.left l.borrow l.low_first.items l.subtrahend (digits_value 10 l.digits)

abbrev pub decreases-loop-digit : goal.decreases-loop-digit
decreases-loop-digit l = length l.left
