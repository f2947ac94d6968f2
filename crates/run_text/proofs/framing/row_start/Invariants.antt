use Rattle.std.proofs.Common.{◌≡◌, ℕ, ◌<◌, ◌≤◌, false, get_or}
use Rattle.run_text.specs.Rows.{ends_row}
use Rattle.run_text.proofs.framing.row_start.Given as goal

abbrev pub invariant-loop-start : goal.invariant-loop-start
invariant-loop-start l = record {
  before : l.start ≤ l.at;
  inside : (k : ℕ) → l.start ≤ k → k < l.at → ends_row (get_or l.text k 0) ≡ false;
}

abbrev pub decreases-loop-start : goal.decreases-loop-start
decreases-loop-start l = l.start
