use Rattle.std.proofs.Common.{◌≡◌, drop}
use Rattle.tree_spec.specs.Tree.{trees_by}
use Rattle.tree_nodes.specs.View.{view_export_specifier}
use Rattle.print_layout_spec.specs.Layout.{is_namespace, has_namespace}
use Rattle.print_nodes.specs.Specifiers.{some_stands}
use Rattle.print_nodes.proofs.exports.has_namespace.Given as goal

abbrev pub invariant-loop-x : goal.invariant-loop-x
invariant-loop-x l = some_stands is_namespace (trees_by view_export_specifier (drop l.x-index l.items)) ≡ has_namespace (trees_by view_export_specifier l.items)
