use Rattle.print_pieces.proofs.Steps.{◌▸◌}
use Rattle.print_nodes.proofs.simple.LabeledStmtOfPrint.print.Goals as goal

pub returns-clause-laid : goal.returns-clause-laid
returns-clause-laid g c = c.commit.ensures ▸ (c.print.ensures.laid ▸ (c.text.ensures ▸ (c.gap.ensures ▸ (c.print-2.ensures.laid ▸ c.print_closing.ensures))))
