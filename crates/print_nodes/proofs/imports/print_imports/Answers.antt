use Rattle.print_pieces.proofs.Steps.{◌▸◌, laid_as}
use Rattle.print_nodes.proofs.Named.{imports_are}
use Rattle.print_nodes.proofs.imports.print_imports.Goals as goal

pub returns : goal.returns
returns g c = laid_as (imports_are c.args.look c.args.items.now _ _ c.is_empty.ensures c.if-is_empty.false) (c.print_import_heads.ensures ▸ (c.print_import_names.ensures ▸ (c.text.ensures ▸ c.gap.ensures)))
