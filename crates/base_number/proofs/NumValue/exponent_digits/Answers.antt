use Rattle.std.proofs.Common.{lit≤}
use Rattle.base_number.proofs.NumberLemmas.{ascii_digits, zero_numeral}
use Rattle.base_number.proofs.FormLemmas.{all_behind}
use Rattle.base_number.proofs.NumValue.exponent_digits.Goals as goal

pub ascii-requires : goal.ascii-requires
ascii-requires c =
    rw (c.as_slice.ensures, all_behind) (ascii_digits 10 _ (lit≤ tt) (rw c.in-Scaled.is at c.self.invariant).exponent.decimal)

pub returns-in-InRadix : goal.returns-in-InRadix
returns-in-InRadix c = rw (← c.self.view_is, c.in-InRadix.is) zero_numeral
