use Rattle.std.proofs.Common.{◌≡◌, ◌+◌, ◌*◌, ◌-◌, ◌≤◌}
use Rattle.tree_spec.specs.Codes.{tree_size}
use Rattle.tree_nodes.specs.Spines.{Chained, further_on}
use Rattle.tree_nodes.specs.declared.knot.Expr.TheDeep.{size-Expr}
use Rattle.tree_visit.specs.Spine.Chains.{Linked, below}
use Rattle.print_pieces.specs.Prints.{Prints}
use Rattle.print_nodes.specs.Spines.{befores_laid, branches_laid, stand_at}
use Rattle.print_nodes.proofs.knot.+print.Given as goal

abbrev pub invariant-ExprPrint::print-down : goal.invariant-ExprPrint::print-down
invariant-ExprPrint::print-down g l = Prints g.W.WriteJs.tells g.W.WriteJs.state g.W.WriteJs.failed_writes g.W.WriteJs.loans (befores_laid l.stand l.links l.self) l.initial.p.wr l.initial.p.fault l.p.wr l.p.fault
    × (l.rest ≡ below l.links l.self) × Linked l.links l.self × (l.stands ≡ stand_at l.stand l.links l.self) × (tree_size l.rest ≤ tree_size l.self)

abbrev pub decreases-ExprPrint::print-down : goal.decreases-ExprPrint::print-down
decreases-ExprPrint::print-down g l = tree_size l.rest

abbrev pub invariant-StmtPrint::print-links : goal.invariant-StmtPrint::print-links
invariant-StmtPrint::print-links g l = Prints g.W.WriteJs.tells g.W.WriteJs.state g.W.WriteJs.failed_writes g.W.WriteJs.loans (branches_laid l.look l.links l.self) l.initial.p.wr l.initial.p.fault l.p.wr l.p.fault
    × (l.rest ≡ further_on l.links l.self) × Chained l.links l.self × (tree_size l.rest ≤ tree_size l.self)

-- what stands below the last link
abbrev pub decreases-print_left : goal.decreases-print_left
decreases-print_left g l = size-Expr l.left.now + 1

-- the links that are left, with what stands right of their left parts
abbrev pub decreases-print_rights : goal.decreases-print_rights
decreases-print_rights g l = 2 * (tree_size l.top.now - tree_size (below l.links l.top.now)) + 1
