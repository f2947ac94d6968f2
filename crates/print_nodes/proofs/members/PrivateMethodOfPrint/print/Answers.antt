use Rattle.print_pieces.proofs.Steps.{◌▸◌}
use Rattle.print_nodes.proofs.members.PrivateMethodOfPrint.print.Goals as goal

pub returns-clause-laid : goal.returns-clause-laid
returns-clause-laid g c = c.start.ensures ▸ (c.word_if.ensures ▸ (c.print_private_head.ensures ▸ (c.print.ensures.laid ▸ c.print-2.ensures.laid)))
