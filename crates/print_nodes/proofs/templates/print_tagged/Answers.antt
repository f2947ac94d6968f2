use Rattle.print_pieces.proofs.Steps.{◌▸◌}
use Rattle.print_nodes.proofs.templates.print_tagged.Goals as goal

pub returns : goal.returns
returns g c = c.print.ensures.laid ▸ c.end.ensures
