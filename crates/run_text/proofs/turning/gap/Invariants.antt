use Rattle.std.proofs.Common.{◌-◌, ◌≤◌, length}
use Rattle.run_text.proofs.turning.gap.Given as goal

abbrev pub invariant-loop-at : goal.invariant-loop-at
invariant-loop-at l = (l.at ≤ length l.old) × (l.at ≤ length l.new)

abbrev pub decreases-loop-at : goal.decreases-loop-at
decreases-loop-at l = length l.old - l.at
