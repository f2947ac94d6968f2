use Rattle.std.proofs.Common.{length}
use Rattle.run_ignore.proofs.ReadLemmas.{StarsSoFar}
use Rattle.run_ignore.proofs.reading.past_stars.Given as goal

abbrev pub invariant-stars : goal.invariant-stars
invariant-stars l = StarsSoFar l.fn.text l.rest

abbrev pub decreases-stars : goal.decreases-stars
decreases-stars l = length l.rest
