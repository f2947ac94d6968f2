use Rattle.std.proofs.Common.{length}
use Rattle.run_ignore.proofs.ReadLemmas.{MembersSoFar}
use Rattle.run_ignore.proofs.reading.members.Given as goal

abbrev pub invariant-members : goal.invariant-members
invariant-members l = MembersSoFar l.fn.text l.ranges.items l.is_first l.before l.rest

abbrev pub decreases-members : goal.decreases-members
decreases-members l = length l.rest
