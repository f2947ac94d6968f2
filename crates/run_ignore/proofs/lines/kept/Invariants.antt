use Rattle.run_ignore.proofs.KeptLemmas.{KeptSoFar}
use Rattle.run_ignore.proofs.lines.kept.Given as goal

abbrev pub invariant-loop-at : goal.invariant-loop-at
invariant-loop-at l = KeptSoFar l.line l.at l.end l.quoted
