use Rattle.run_ignore.specs.Rules.{rules_of}
use Rattle.run_ignore.proofs.RuleLemmas.{KeptBefore}
use Rattle.run_ignore.proofs.rules.Rules.leaves_out.Given as goal

abbrev pub invariant-loop-at : goal.invariant-loop-at
invariant-loop-at l = KeptBefore l.at (rules_of l.self) l.path
