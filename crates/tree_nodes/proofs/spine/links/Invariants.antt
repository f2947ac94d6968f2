use Rattle.std.proofs.Common.{◌≡◌}
use Rattle.tree_nodes.specs.Spines.{Linked, below}
use Rattle.tree_nodes.proofs.spine.links.Given as goal

abbrev pub invariant-loop-rest : goal.invariant-loop-rest
invariant-loop-rest l = (l.rest ≡ below l.links l.expr) × Linked l.links l.expr
