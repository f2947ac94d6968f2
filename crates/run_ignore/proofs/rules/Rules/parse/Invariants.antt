use Rattle.std.proofs.Common.{length}
use Rattle.run_ignore.proofs.LineLemmas.{RulesSoFar}
use Rattle.run_ignore.proofs.rules.Rules.parse.Given as goal

abbrev pub invariant-lines : goal.invariant-lines
invariant-lines l = RulesSoFar l.fn.text l.rules.items l.rest

abbrev pub decreases-lines : goal.decreases-lines
decreases-lines l = length l.rest
