use Rattle.run_ignore.proofs.RowLemmas.{EndLoop}
use Rattle.run_ignore.proofs.matching.set_last_row.Given as goal

abbrev pub invariant-loop-at : goal.invariant-loop-at
invariant-loop-at l = EndLoop l.at l.cells l.pieces l.here

abbrev pub decreases-loop-at : goal.decreases-loop-at
decreases-loop-at l = l.at
