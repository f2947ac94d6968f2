use Rattle.print_pieces.proofs.Steps.{◌▸◌}
use Rattle.print_nodes.proofs.programs.print_from.Goals as goal

pub returns : goal.returns
returns g c = c.text.ensures ▸ (c.gap.ensures ▸ c.print.ensures.laid)
