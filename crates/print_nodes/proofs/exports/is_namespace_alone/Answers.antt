use Rattle.std.proofs.Common.{sym, ◌∙◌}
use Rattle.tree_spec.specs.Tree.{trees_by}
use Rattle.tree_nodes.specs.View.{view_export_specifier}
use Rattle.print_nodes.proofs.Named.{alone_is, not_alone, some_other}
use Rattle.print_nodes.proofs.exports.is_namespace_alone.Goals as goal

pub returns-then-has_namespace : goal.returns-then-has_namespace
returns-then-has_namespace c = alone_is (trees_by view_export_specifier c.args.items.now) c.some_braced.result (sym c.has_namespace.ensures ∙ c.if-has_namespace.true) (c.some_braced.ensures ∙ some_other (trees_by view_export_specifier c.args.items.now))

pub returns-else-has_namespace : goal.returns-else-has_namespace
returns-else-has_namespace c = not_alone (trees_by view_export_specifier c.args.items.now) (sym c.has_namespace.ensures ∙ c.if-has_namespace.false)
