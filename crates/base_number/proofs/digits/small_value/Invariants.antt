use Rattle.std.proofs.Common.{◌≡◌, ◌<◌, drop}
use Rattle.std.specs.Str.Parse.{digits_value, digits_value_after}
use Rattle.base_number.specs.DigitText.{digits_in}
use Rattle.base_number.proofs.digits.small_value.Given as goal

abbrev pub invariant-loop-byte : goal.invariant-loop-byte
invariant-loop-byte l = record {
  value : digits_value_after l.radix l.value (digits_in (drop l.byte-index l.text)) ≡ digits_value l.radix (digits_in l.text);
  fits : l.value < 18446744073709551616;
}
