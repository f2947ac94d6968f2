use Rattle.std.proofs.Common.{drop, false}
use Rattle.tree_spec.specs.Tree.{trees_by}
use Rattle.tree_nodes.specs.View.{view_import_specifier}
use Rattle.print_layout_spec.specs.Layout.{import_heads}
use Rattle.print_nodes.proofs.Parts.{Goes}
use Rattle.print_nodes.proofs.imports.print_import_heads.Given as goal

abbrev pub invariant-loop-x : goal.invariant-loop-x
invariant-loop-x g l = Goes g.W.WriteJs.tells g.W.WriteJs.state g.W.WriteJs.failed_writes g.W.WriteJs.loans (import_heads l.look false (trees_by view_import_specifier l.items)) (import_heads l.look l.seen (trees_by view_import_specifier (drop l.x-index l.items))) l.fn.p.wr l.fn.p.fault l.p.wr l.p.fault
