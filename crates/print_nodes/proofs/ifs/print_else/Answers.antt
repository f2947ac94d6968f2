use Rattle.print_pieces.proofs.Steps.{◌▸◌}
use Rattle.print_nodes.proofs.ifs.print_else.Goals as goal

pub returns : goal.returns
returns g c = c.gap_if.ensures ▸ (c.text.ensures ▸ c.gap_or.ensures)
