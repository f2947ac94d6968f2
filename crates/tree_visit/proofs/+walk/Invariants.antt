use Rattle.std.proofs.Common.{◌≡◌, ◌+◌, ◌*◌, ◌-◌, ◌≤◌}
use Rattle.tree_spec.specs.Codes.{tree_size}
use Rattle.tree_nodes.specs.Spines.{Chained, further_on}
use Rattle.tree_visit.specs.Spine.Chains.{below}
use Rattle.tree_visit.specs.Spines.{entered_ifs}
use Rattle.tree_visit.proofs.+walk.Given as goal

abbrev pub invariant-knot::StmtWalk::walk-links : goal.invariant-knot::StmtWalk::walk-links
invariant-knot::StmtWalk::walk-links g l = (g.V.Watch.state l.visitor ≡ entered_ifs g.V.Watch.step l.links l.self (g.V.Watch.state l.initial.visitor))
    × (l.rest ≡ further_on l.links l.self) × Chained l.links l.self × (tree_size l.rest ≤ tree_size l.self)

-- what stands right of the left parts of the links that are left
abbrev pub decreases-spines::leave_links : goal.decreases-spines::leave_links
decreases-spines::leave_links g l = 2 * (tree_size l.top.now - tree_size (below l.links l.top.now)) + 2

-- and of one of them
abbrev pub decreases-spines::walk_rest : goal.decreases-spines::walk_rest
decreases-spines::walk_rest g l = 2 * (tree_size l.link.now - tree_size (below 1 l.link.now)) + 1
