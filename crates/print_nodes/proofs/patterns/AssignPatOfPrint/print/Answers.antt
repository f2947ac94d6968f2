use Rattle.print_pieces.proofs.Steps.{◌▸◌}
use Rattle.print_nodes.proofs.patterns.AssignPatOfPrint.print.Goals as goal

pub returns-clause-laid : goal.returns-clause-laid
returns-clause-laid g c = c.start.ensures ▸ (c.print.ensures.laid ▸ (c.gap.ensures ▸ (c.text.ensures ▸ (c.gap-2.ensures ▸ (c.print-2.ensures.laid ▸ c.end.ensures)))))
