use Rattle.std.proofs.Common.{length}
use Rattle.base_number.proofs.TextLemmas.{IsTrimmedSoFar}
use Rattle.base_number.proofs.digits.trim_back.Given as goal

abbrev pub invariant-loop-last : goal.invariant-loop-last
invariant-loop-last l = IsTrimmedSoFar l.left l.text l.zeros

abbrev pub decreases-loop-last : goal.decreases-loop-last
decreases-loop-last l = length l.left
