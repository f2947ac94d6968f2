use Rattle.print_pieces.proofs.Steps.{◌▸◌}
use Rattle.print_nodes.proofs.templates.TaggedTplOfPrint.print.Goals as goal

pub returns-clause-laid : goal.returns-clause-laid
returns-clause-laid g c = c.start.ensures ▸ (c.print.ensures.laid ▸ (c.print-2.ensures.laid ▸ c.end.ensures))
