use Rattle.print_pieces.proofs.Steps.{◌▸◌}
use Rattle.print_nodes.proofs.operators.AwaitExprOfPrint.print.Goals as goal

pub returns-clause-laid : goal.returns-clause-laid
returns-clause-laid g c = c.start.ensures ▸ (c.text.ensures ▸ (c.blank.ensures ▸ c.print.ensures.laid))
