use Rattle.print_pieces.proofs.Steps.{◌▸◌}
use Rattle.print_nodes.proofs.fors.ForStmtOfPrint.print.Goals as goal

pub returns-clause-laid : goal.returns-clause-laid
returns-clause-laid g c = c.commit.ensures ▸ (c.start.ensures ▸ (c.text.ensures ▸ (c.text-2.ensures ▸ (c.print_maybe.ensures ▸ (c.text-3.ensures ▸ (c.print_behind_gap.ensures ▸ (c.text-4.ensures ▸ (c.print_behind_gap-2.ensures ▸ (c.text-5.ensures ▸ (c.print.ensures.laid ▸ c.print_closing.ensures))))))))))
