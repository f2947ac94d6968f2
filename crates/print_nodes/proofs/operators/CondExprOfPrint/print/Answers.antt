use Rattle.print_pieces.proofs.Steps.{◌▸◌}
use Rattle.print_nodes.proofs.operators.CondExprOfPrint.print.Goals as goal

pub returns-clause-laid : goal.returns-clause-laid
returns-clause-laid g c = c.start.ensures ▸ (c.print.ensures.laid ▸ (c.gap.ensures ▸ (c.text.ensures ▸ (c.gap-2.ensures ▸ (c.print-2.ensures.laid ▸ (c.gap-3.ensures ▸ (c.text-2.ensures ▸ (c.gap-4.ensures ▸ c.print-3.ensures.laid))))))))
