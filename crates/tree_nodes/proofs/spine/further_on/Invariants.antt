use Rattle.std.proofs.Common.{◌≡◌}
use Rattle.tree_nodes.specs.Spines.{further_on}
use Rattle.tree_nodes.proofs.spine.further_on.Given as goal

abbrev pub invariant-loop : goal.invariant-loop
invariant-loop l = l.at ≡ further_on l.counter l.stmt
