use Rattle.print_pieces.proofs.Steps.{◌▸◌}
use Rattle.print_nodes.proofs.tries.CatchClauseOfPrint.print.Goals as goal

pub returns-clause-laid : goal.returns-clause-laid
returns-clause-laid g c = c.start.ensures ▸ (c.text.ensures ▸ (c.gap.ensures ▸ (c.print_maybe_in_parens.ensures ▸ (c.gap-2.ensures ▸ c.print.ensures.laid))))
