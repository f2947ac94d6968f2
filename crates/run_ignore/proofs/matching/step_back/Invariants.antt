use Rattle.run_ignore.proofs.RowLemmas.{StepLoop}
use Rattle.run_ignore.proofs.matching.step_back.Given as goal

abbrev pub invariant-loop-at : goal.invariant-loop-at
invariant-loop-at l = StepLoop l.at l.cells l.pieces l.path l.past l.behind

abbrev pub decreases-loop-at : goal.decreases-loop-at
decreases-loop-at l = l.at
