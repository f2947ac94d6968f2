use Rattle.std.proofs.Common.{drop, true}
use Rattle.tree_spec.specs.Tree.{trees_by}
use Rattle.print_layout_spec.specs.Looks.{line}
use Rattle.print_layout_spec.specs.Layout.{rows}
use Rattle.print_nodes.proofs.Parts.{Goes, behind}
use Rattle.print_nodes.proofs.lists.print_closed_rows.Given as goal

abbrev pub invariant-loop-x : goal.invariant-loop-x
invariant-loop-x g l = Goes g.W.WriteJs.tells g.W.WriteJs.state g.W.WriteJs.failed_writes g.W.WriteJs.loans (rows l.look true (trees_by g.T.Print.tree l.items)) (behind (line l.look) (rows l.look true) (trees_by g.T.Print.tree (drop l.x-index l.rest))) l.fn.p.wr l.fn.p.fault l.p.wr l.p.fault
