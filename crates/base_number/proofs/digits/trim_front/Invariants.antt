use Rattle.std.proofs.Common.{◌≡◌, length}
use Rattle.base_number.specs.Numbers.{trim_front}
use Rattle.base_number.specs.DigitText.{digits_in}
use Rattle.base_number.proofs.digits.trim_front.Given as goal

abbrev pub invariant-loop-left : goal.invariant-loop-left
invariant-loop-left l = trim_front (digits_in l.left) ≡ trim_front (digits_in l.text)

abbrev pub decreases-loop-left : goal.decreases-loop-left
decreases-loop-left l = length l.left
