use Rattle.std.proofs.Common.{◌≤◌, length}
use Rattle.run_ignore.proofs.RuleLemmas.{NoneFrom}
use Rattle.run_ignore.proofs.rules.verdict_of.Given as goal

abbrev pub invariant-loop-at : goal.invariant-loop-at
invariant-loop-at l = (l.at ≤ length l.rules) × NoneFrom l.at l.rules l.path l.is_dir

abbrev pub decreases-loop-at : goal.decreases-loop-at
decreases-loop-at l = l.at
