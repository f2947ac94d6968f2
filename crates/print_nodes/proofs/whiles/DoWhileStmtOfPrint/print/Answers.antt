use Rattle.print_pieces.proofs.Steps.{◌▸◌, gap_as}
use Rattle.print_nodes.proofs.whiles.DoWhileStmtOfPrint.print.Goals as goal

pub returns-clause-laid : goal.returns-clause-laid
returns-clause-laid g c = c.commit.ensures ▸ (c.start.ensures ▸ (c.text.ensures ▸ (gap_as c.args.look c.starts_with_word.ensures c.gap_or.ensures ▸ (c.print.ensures.laid ▸ (c.print_closing.ensures ▸ (c.text-2.ensures ▸ (c.gap.ensures ▸ (c.print_in_parens.ensures ▸ (c.semi.ensures ▸ c.end.ensures)))))))))
