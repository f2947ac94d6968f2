use Rattle.std.proofs.Common.{sym}
use Rattle.print_pieces.proofs.Steps.{◌▸◌, laid_as}
use Rattle.print_nodes.proofs.Named.{source_is}
use Rattle.print_nodes.proofs.exports.NamedExportOfPrint.print.Goals as goal

pub returns-clause-laid : goal.returns-clause-laid
returns-clause-laid g c =
    rw (sym c.as_slice-items.ensures.value)
    (c.start.ensures ▸ (c.text.ensures ▸ (c.gap.ensures ▸ (c.print_first_namespace.ensures ▸ (c.print_exports.ensures
    ▸ (laid_as (source_is c.args.look _ _ _ _ c.is_namespace_alone.ensures) c.print_source.ensures ▸ (c.semi.ensures ▸ c.end.ensures)))))))
