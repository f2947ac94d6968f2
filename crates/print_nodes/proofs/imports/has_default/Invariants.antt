use Rattle.std.proofs.Common.{◌≡◌, drop}
use Rattle.tree_spec.specs.Tree.{trees_by}
use Rattle.tree_nodes.specs.View.{view_import_specifier}
use Rattle.print_layout_spec.specs.Layout.{is_default, has_default}
use Rattle.print_nodes.specs.Specifiers.{some_stands}
use Rattle.print_nodes.proofs.imports.has_default.Given as goal

abbrev pub invariant-loop-x : goal.invariant-loop-x
invariant-loop-x l = some_stands is_default (trees_by view_import_specifier (drop l.x-index l.items)) ≡ has_default (trees_by view_import_specifier l.items)
