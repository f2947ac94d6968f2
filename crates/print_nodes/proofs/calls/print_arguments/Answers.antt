use Rattle.print_pieces.proofs.Steps.{◌▸◌}
use Rattle.print_nodes.proofs.calls.print_arguments.Goals as goal

pub returns : goal.returns
returns g c = c.text.ensures ▸ (c.print_separated.ensures ▸ c.text-2.ensures)
