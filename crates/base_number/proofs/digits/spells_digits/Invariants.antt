use Rattle.std.proofs.Common.{◌≡◌, false, drop}
use Rattle.base_number.specs.Numbers.{goes_on}
use Rattle.base_number.proofs.digits.spells_digits.Given as goal

abbrev pub invariant-loop-byte : goal.invariant-loop-byte
invariant-loop-byte l = goes_on l.radix l.behind_digit (drop l.byte-index l.text) ≡ goes_on l.radix false l.text
