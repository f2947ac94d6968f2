use Rattle.std.proofs.Common.{◌+◌, drop, refl, sym, ◌∙◌}
use Rattle.tree_spec.specs.Tree.{trees_by}
use Rattle.tree_nodes.specs.View.{view_export_specifier}
use Rattle.print_layout_spec.specs.Layout.{first_namespace}
use Rattle.print_nodes.proofs.Named.{first_here, first_later}
use Rattle.print_nodes.proofs.Parts.{sets_out, as_left, at_part, at_end, goes_home}
use Rattle.print_nodes.proofs.exports.print_first_namespace.Goals as goal

pub loop-x-init : goal.loop-x-init
loop-x-init g c = sets_out

pub loop-x-preserved : goal.loop-x-preserved
loop-x-preserved g c = as_left (first_later c.args.look (view_export_specifier c.x-item.result) (trees_by view_export_specifier (drop (c.loop-x.x-index + 1) c.args.items.now)) (sym c.is_namespace.ensures ∙ c.if-is_namespace.false)) (at_part (first_namespace c.args.look) view_export_specifier c.args.items.now c.loop-x.x-index c.x-item.result c.loop-x-test.true c.x-item.is c.loop-x.invariant)

pub returns-then-is_namespace : goal.returns-then-is_namespace
returns-then-is_namespace g c = goes_home (as_left (first_here c.args.look (view_export_specifier c.x-item.result) (trees_by view_export_specifier (drop (c.loop-x.x-index + 1) c.args.items.now)) (sym c.is_namespace.ensures ∙ c.if-is_namespace.true)) (at_part (first_namespace c.args.look) view_export_specifier c.args.items.now c.loop-x.x-index c.x-item.result c.loop-x-test.true c.x-item.is c.loop-x.invariant)) c.print.ensures.laid

pub returns : goal.returns
returns g c = at_end (first_namespace c.args.look) view_export_specifier c.args.items.now c.loop-x.x-index c.loop-x-test.false refl c.loop-x.invariant
