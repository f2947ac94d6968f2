use Rattle.std.proofs.Common.{sym}
use Rattle.print_pieces.proofs.Steps.{◌▸◌, laid_as, gap_as}
use Rattle.print_nodes.proofs.Named.{blank_or_gap}
use Rattle.print_nodes.proofs.imports.ImportDeclOfPrint.print.Goals as goal

pub returns-clause-laid : goal.returns-clause-laid
returns-clause-laid g c =
    rw (sym c.as_slice-items.ensures.value)
    (c.start.ensures ▸ (c.text.ensures ▸ (laid_as (blank_or_gap c.args.look _) (gap_as c.args.look c.starts_with_default.ensures c.gap_or.ensures)
    ▸ (c.print_imports.ensures ▸ (c.print.ensures.laid ▸ (c.print_attributes.ensures ▸ (c.semi.ensures ▸ c.end.ensures)))))))
