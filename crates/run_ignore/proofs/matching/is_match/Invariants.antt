use Rattle.std.proofs.Common.{◌≤◌, length, drop}
use Rattle.run_ignore.specs.Rows.{IsRow}
use Rattle.run_ignore.proofs.matching.is_match.Given as goal

abbrev pub invariant-loop-at : goal.invariant-loop-at
invariant-loop-at l = (l.at ≤ length l.path) × IsRow l.cells.items l.pieces (drop l.at l.path)

abbrev pub decreases-loop-at : goal.decreases-loop-at
decreases-loop-at l = l.at
