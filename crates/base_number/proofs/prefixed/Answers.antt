use Rattle.std.proofs.Common.{false, sym, arith}
use Rattle.base_number.proofs.DigitLemmas.{spelled_digits}
use Rattle.base_number.proofs.prefixed.Goals as goal

pub in_radix-requires-clause-digits : goal.in_radix-requires-clause-digits
in_radix-requires-clause-digits c =
    spelled_digits c.args.radix false c.args.digits.now (omega arith) (sym c.if-not-spells_digits.ensures)
