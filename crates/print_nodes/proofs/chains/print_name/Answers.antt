use Rattle.std.proofs.Common.{not, codes, ap}
use Rattle.print_layout_spec.specs.Looks.{text}
use Rattle.print_pieces.proofs.Steps.{◌▸◌, when_as}
use Rattle.print_nodes.proofs.chains.print_name.Goals as goal

pub returns : goal.returns
returns g c = when_as (text (codes ".")) (ap not c.is_computed-computed.ensures) c.text_if.ensures ▸ (c.print.ensures.laid ▸ c.end.ensures)
