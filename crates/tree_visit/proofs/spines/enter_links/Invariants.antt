use Rattle.std.proofs.Common.{◌≡◌}
use Rattle.tree_spec.specs.Codes.{tree_size}
use Rattle.tree_visit.specs.Spine.Chains.{Linked, below}
use Rattle.tree_visit.specs.Spines.{entered_links}
use Rattle.tree_visit.proofs.spines.enter_links.Given as goal

abbrev pub invariant-down : goal.invariant-down
invariant-down g l = (g.V.Watch.state l.visitor ≡ entered_links g.V.Watch.step l.links l.expr (g.V.Watch.state l.initial.visitor)) × (l.rest ≡ below l.links l.expr) × Linked l.links l.expr

abbrev pub decreases-down : goal.decreases-down
decreases-down g l = tree_size l.rest
