use Rattle.std.proofs.Common.{◌≡◌, ◌++◌, drop, map}
use Rattle.std.specs.Char.{to_ascii_lowercase}
use Rattle.base_number.specs.DigitText.{digits_in}
use Rattle.base_number.proofs.digits.lower_digits_in.Given as goal

abbrev pub invariant-loop-byte : goal.invariant-loop-byte
invariant-loop-byte l = l.digits.items ++ map to_ascii_lowercase (digits_in (drop l.byte-index l.text)) ≡ map to_ascii_lowercase (digits_in l.text)
