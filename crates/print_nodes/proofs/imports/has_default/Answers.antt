use Rattle.std.proofs.Common.{sym, ◌∙◌}
use Rattle.tree_spec.specs.Tree.{trees_by}
use Rattle.tree_nodes.specs.View.{view_import_specifier}
use Rattle.print_layout_spec.specs.Layout.{is_default}
use Rattle.print_nodes.proofs.Named.{passed_over, found, none_found, some_default}
use Rattle.print_nodes.proofs.imports.has_default.Goals as goal

pub loop-x-init : goal.loop-x-init
loop-x-init c = some_default (trees_by view_import_specifier c.args.items.now)

pub loop-x-preserved : goal.loop-x-preserved
loop-x-preserved c = passed_over is_default view_import_specifier c.args.items.now c.loop-x.x-index c.x-item.result _ c.loop-x-test.true c.x-item.is (sym c.is_default.ensures ∙ c.if-is_default.false) c.loop-x.invariant

pub returns-then-is_default : goal.returns-then-is_default
returns-then-is_default c = found is_default view_import_specifier c.args.items.now c.loop-x.x-index c.x-item.result _ c.loop-x-test.true c.x-item.is (sym c.is_default.ensures ∙ c.if-is_default.true) c.loop-x.invariant

pub returns : goal.returns
returns c = none_found is_default view_import_specifier c.args.items.now c.loop-x.x-index _ c.loop-x-test.false c.loop-x.invariant
