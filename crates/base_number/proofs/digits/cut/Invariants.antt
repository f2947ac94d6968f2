use Rattle.std.proofs.Common.{◌≡◌, ◌++◌, take, drop}
use Rattle.base_number.specs.Numbers.{before, after}
use Rattle.base_number.proofs.digits.cut.Given as goal

abbrev pub invariant-loop-i : goal.invariant-loop-i
invariant-loop-i l = (before l.mark l.text ≡ take l.i l.text ++ before l.mark (drop l.i l.text)) × (after l.mark l.text ≡ after l.mark (drop l.i l.text))
