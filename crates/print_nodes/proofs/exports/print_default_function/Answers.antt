use Rattle.print_pieces.proofs.Steps.{◌▸◌}
use Rattle.print_nodes.proofs.exports.print_default_function.Goals as goal

pub returns : goal.returns
returns g c = c.start.ensures ▸ (c.text.ensures ▸ (c.blank.ensures ▸ (c.text-2.ensures ▸ (c.blank-2.ensures ▸ c.print.ensures.laid))))
