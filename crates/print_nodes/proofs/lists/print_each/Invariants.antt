use Rattle.std.proofs.Common.{drop}
use Rattle.tree_spec.specs.Tree.{trees_by}
use Rattle.print_layout_spec.specs.Layout.{each}
use Rattle.print_nodes.proofs.Parts.{Goes}
use Rattle.print_nodes.proofs.lists.print_each.Given as goal

abbrev pub invariant-loop-x : goal.invariant-loop-x
invariant-loop-x g l = Goes g.W.WriteJs.tells g.W.WriteJs.state g.W.WriteJs.failed_writes g.W.WriteJs.loans (each l.look (trees_by g.T.Print.tree l.items)) (each l.look (trees_by g.T.Print.tree (drop l.x-index l.items))) l.fn.p.wr l.fn.p.fault l.p.wr l.p.fault
