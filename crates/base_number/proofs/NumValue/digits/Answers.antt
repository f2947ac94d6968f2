use Rattle.std.proofs.Common.{arith, lit≤}
use Rattle.base_number.proofs.NumberLemmas.{ascii_digits}
use Rattle.base_number.proofs.NumValue.digits.Goals as goal

pub ascii-requires : goal.ascii-requires
ascii-requires c =
    rw c.as_slice.ensures (ascii_digits 10 _ (lit≤ tt) (rw c.in-Scaled.is at c.self.invariant).decimal.decimal)

pub ascii-requires-in-InRadix : goal.ascii-requires-in-InRadix
ascii-requires-in-InRadix c =
    let kept = rw c.in-InRadix.is at c.self.invariant in
    rw c.as_slice-in-InRadix.ensures (ascii_digits c.in-InRadix.radix _ (omega (arith, kept.upper)) kept.digits_in_radix)
