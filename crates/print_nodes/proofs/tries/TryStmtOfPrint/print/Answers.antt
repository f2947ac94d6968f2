use Rattle.print_pieces.proofs.Steps.{◌▸◌}
use Rattle.print_nodes.proofs.tries.TryStmtOfPrint.print.Goals as goal

pub returns-clause-laid : goal.returns-clause-laid
returns-clause-laid g c = c.commit.ensures ▸ (c.start.ensures ▸ (c.text.ensures ▸ (c.gap.ensures ▸ (c.print.ensures.laid ▸ (c.print_behind_gap.ensures ▸ c.print_finally.ensures)))))
