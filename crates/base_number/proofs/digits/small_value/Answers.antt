use Rattle.std.proofs.Common.{arith, sym}
use Rattle.base_number.proofs.TextLemmas.{too_large}
use Rattle.base_number.proofs.digits.small_value.Goals as goal

pub returns-in-None : goal.returns-in-None
returns-in-None c = λ small.
    too_large c.args.radix c.loop-byte.value _ c.args.text.now c.loop-byte.byte-index (omega arith) c.loop-byte.invariant.value c.loop-byte-test.true (sym c.if-is_between.ensures) (omega (arith, c.in-None.ensures, c.digit_of.ensures)) small
