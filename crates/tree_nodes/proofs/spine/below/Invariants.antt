use Rattle.std.proofs.Common.{◌≡◌}
use Rattle.tree_nodes.specs.Spines.{below}
use Rattle.tree_nodes.proofs.spine.below.Given as goal

abbrev pub invariant-loop : goal.invariant-loop
invariant-loop l = l.at ≡ below l.counter l.expr
