use Rattle.std.proofs.Common.{sym, ◌∙◌}
use Rattle.tree_spec.specs.Tree.{trees_by}
use Rattle.tree_nodes.specs.View.{view_import_specifier}
use Rattle.print_layout_spec.specs.Looks.{blank}
use Rattle.print_layout_spec.specs.Layout.{comma}
use Rattle.print_pieces.proofs.Steps.{◌▸◌, chosen, when_as}
use Rattle.print_nodes.proofs.Named.{some_named}
use Rattle.print_nodes.proofs.Chosen.{otherwise}
use Rattle.print_nodes.proofs.imports.print_import_names.Goals as goal

pub returns-then-some_braced : goal.returns-then-some_braced
returns-then-some_braced g c = chosen blank (sym (some_named (trees_by view_import_specifier c.args.items.now)) ∙ (sym c.some_braced.ensures ∙ c.if-some_braced.true)) (when_as (comma c.args.look) c.has_default.ensures c.print_comma_if.ensures ▸ (c.print_braces.ensures ▸ c.gap.ensures))

pub returns-else-some_braced : goal.returns-else-some_braced
returns-else-some_braced g c = otherwise _ (sym (some_named (trees_by view_import_specifier c.args.items.now)) ∙ (sym c.some_braced.ensures ∙ c.if-some_braced.false)) c.blank.ensures
