use Rattle.std.proofs.Common.{sym, length, take, drop, ◌-◌}
use Rattle.base_number.proofs.NumberLemmas.{octal_digits}
use Rattle.base_number.proofs.unprefixed.Goals as goal

pub in_radix-requires-clause-digits : goal.in_radix-requires-clause-digits
in_radix-requires-clause-digits c =
    octal_digits (take (length c.args.text.now - 1) (drop 1 c.args.text.now)) (sym c.if-spells_octal.ensures)
