use Rattle.print_pieces.proofs.Steps.{◌▸◌}
use Rattle.print_nodes.proofs.exports.print_exported.Goals as goal

pub returns : goal.returns
returns g c = c.start.ensures ▸ (c.text.ensures ▸ (c.blank.ensures ▸ c.print.ensures.laid))
