use Rattle.std.proofs.Common.{drop}
use Rattle.tree_spec.specs.Tree.{trees_by}
use Rattle.tree_nodes.specs.View.{view_export_specifier}
use Rattle.print_layout_spec.specs.Layout.{first_namespace}
use Rattle.print_nodes.proofs.Parts.{Goes}
use Rattle.print_nodes.proofs.exports.print_first_namespace.Given as goal

abbrev pub invariant-loop-x : goal.invariant-loop-x
invariant-loop-x g l = Goes g.W.WriteJs.tells g.W.WriteJs.state g.W.WriteJs.failed_writes g.W.WriteJs.loans (first_namespace l.look (trees_by view_export_specifier l.items)) (first_namespace l.look (trees_by view_export_specifier (drop l.x-index l.items))) l.fn.p.wr l.fn.p.fault l.p.wr l.p.fault
