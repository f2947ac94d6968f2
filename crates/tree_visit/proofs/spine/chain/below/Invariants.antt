use Rattle.std.proofs.Common.{◌≡◌}
use Rattle.tree_visit.specs.Spine.Chains.{below}
use Rattle.tree_visit.proofs.spine.chain.below.Given as goal

abbrev pub invariant-loop : goal.invariant-loop
invariant-loop l = l.at ≡ below l.counter l.expr
