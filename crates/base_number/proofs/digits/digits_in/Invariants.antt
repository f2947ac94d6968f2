use Rattle.std.proofs.Common.{◌≡◌, ◌++◌, drop}
use Rattle.base_number.specs.DigitText.{digits_in}
use Rattle.base_number.proofs.digits.digits_in.Given as goal

abbrev pub invariant-loop-byte : goal.invariant-loop-byte
invariant-loop-byte l = l.digits.items ++ digits_in (drop l.byte-index l.text) ≡ digits_in l.text
