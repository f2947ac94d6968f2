use Rattle.std.proofs.Common.{◌≡◌}
use Rattle.tree_spec.specs.Codes.{tree_size}
use Rattle.tree_visit.specs.Spine.Chains.{Linked, below}
use Rattle.tree_visit.proofs.spine.chain.links.Given as goal

abbrev pub invariant-down : goal.invariant-down
invariant-down l = (l.rest ≡ below l.count l.expr) × Linked l.count l.expr

abbrev pub decreases-down : goal.decreases-down
decreases-down l = tree_size l.rest
