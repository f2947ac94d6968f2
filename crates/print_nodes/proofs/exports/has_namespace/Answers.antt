use Rattle.std.proofs.Common.{sym, ◌∙◌}
use Rattle.tree_spec.specs.Tree.{trees_by}
use Rattle.tree_nodes.specs.View.{view_export_specifier}
use Rattle.print_layout_spec.specs.Layout.{is_namespace}
use Rattle.print_nodes.proofs.Named.{passed_over, found, none_found, some_namespace}
use Rattle.print_nodes.proofs.exports.has_namespace.Goals as goal

pub loop-x-init : goal.loop-x-init
loop-x-init c = some_namespace (trees_by view_export_specifier c.args.items.now)

pub loop-x-preserved : goal.loop-x-preserved
loop-x-preserved c = passed_over is_namespace view_export_specifier c.args.items.now c.loop-x.x-index c.x-item.result _ c.loop-x-test.true c.x-item.is (sym c.is_namespace.ensures ∙ c.if-is_namespace.false) c.loop-x.invariant

pub returns-then-is_namespace : goal.returns-then-is_namespace
returns-then-is_namespace c = found is_namespace view_export_specifier c.args.items.now c.loop-x.x-index c.x-item.result _ c.loop-x-test.true c.x-item.is (sym c.is_namespace.ensures ∙ c.if-is_namespace.true) c.loop-x.invariant

pub returns : goal.returns
returns c = none_found is_namespace view_export_specifier c.args.items.now c.loop-x.x-index _ c.loop-x-test.false c.loop-x.invariant
