use Rattle.print_pieces.proofs.Steps.{◌▸◌, gap_as}
use Rattle.print_nodes.proofs.fors.ForInStmtOfPrint.print.Goals as goal

pub returns-clause-laid : goal.returns-clause-laid
returns-clause-laid g c = c.commit.ensures ▸ (c.start.ensures ▸ (c.text.ensures ▸ (c.text-2.ensures ▸ (c.print.ensures.laid ▸ (gap_as c.args.look c.head_ends_with_word.ensures c.gap_or.ensures ▸ (c.text-3.ensures ▸ (gap_as c.args.look c.starts_with_word.ensures c.gap_or-2.ensures ▸ (c.print-2.ensures.laid ▸ (c.text-4.ensures ▸ (c.print-3.ensures.laid ▸ c.print_closing.ensures))))))))))
