use Rattle.print_pieces.proofs.Steps.{◌▸◌, gap_as}
use Rattle.print_nodes.proofs.jumps.ThrowStmtOfPrint.print.Goals as goal

pub returns-clause-laid : goal.returns-clause-laid
returns-clause-laid g c = c.start.ensures ▸ (c.text.ensures ▸ (gap_as c.args.look c.starts_with_word.ensures c.gap_or.ensures ▸ (c.print.ensures.laid ▸ c.semi.ensures)))
