use Rattle.std.proofs.Common.{length}
use Rattle.run_text.proofs.LineLemmas.{LinesSoFar}
use Rattle.run_text.proofs.cutting.lines.Given as goal

abbrev pub invariant-lines : goal.invariant-lines
invariant-lines l = LinesSoFar l.fn.text l.lines.items l.rest

abbrev pub decreases-lines : goal.decreases-lines
decreases-lines l = length l.rest
