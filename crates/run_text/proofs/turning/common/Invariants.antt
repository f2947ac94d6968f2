use Rattle.std.proofs.Common.{◌-◌, ◌≤◌, length}
use Rattle.run_text.specs.Blocks.{Agree}
use Rattle.run_text.proofs.turning.common.Given as goal

abbrev pub invariant-loop-count : goal.invariant-loop-count
invariant-loop-count l = record {
  of_old : l.count ≤ length l.old;
  of_new : l.count ≤ length l.new;
  agree : Agree l.count l.old l.new;
}

abbrev pub decreases-loop-count : goal.decreases-loop-count
decreases-loop-count l = length l.old - l.count
