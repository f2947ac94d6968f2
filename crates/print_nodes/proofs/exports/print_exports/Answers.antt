use Rattle.std.proofs.Common.{false, sym, ◌∙◌}
use Rattle.tree_spec.specs.Tree.{trees_by}
use Rattle.tree_nodes.specs.View.{view_export_specifier}
use Rattle.print_layout_spec.specs.Layout.{named_items, is_no_namespace}
use Rattle.print_pieces.proofs.Steps.{◌▸◌, laid_as, present}
use Rattle.print_nodes.proofs.Named.{exports_are, some_other}
use Rattle.print_nodes.proofs.Arrowed.{left_out}
use Rattle.print_nodes.proofs.exports.print_exports.Goals as goal

pub returns-then-has_braces : goal.returns-then-has_braces
returns-then-has_braces g c = laid_as (exports_are c.args.look (trees_by view_export_specifier c.args.items.now) (named_items c.args.look is_no_namespace false (trees_by view_export_specifier c.args.items.now)) c.some_braced-others.result c.has_namespace-namespace.result (c.some_braced-others.ensures ∙ some_other (trees_by view_export_specifier c.args.items.now)) c.has_namespace-namespace.ensures) (present (sym c.has_braces.ensures ∙ c.if-has_braces.true) (c.print_comma_if.ensures ▸ c.print_export_braces.ensures))

pub returns-else-has_braces : goal.returns-else-has_braces
returns-else-has_braces g c = laid_as (exports_are c.args.look (trees_by view_export_specifier c.args.items.now) (named_items c.args.look is_no_namespace false (trees_by view_export_specifier c.args.items.now)) c.some_braced-others.result c.has_namespace-namespace.result (c.some_braced-others.ensures ∙ some_other (trees_by view_export_specifier c.args.items.now)) c.has_namespace-namespace.ensures) (left_out _ (sym c.has_braces.ensures ∙ c.if-has_braces.false))
