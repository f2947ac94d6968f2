use Rattle.std.proofs.Common.{ap}
use Rattle.print_layout_spec.specs.Looks.{text}
use Rattle.print_pieces.proofs.Steps.{◌▸◌, laid_as}
use Rattle.print_nodes.proofs.operators.print_operator.Goals as goal

pub returns : goal.returns
returns g c = c.gap_or.ensures ▸ (laid_as (ap text c.as_str.ensures) c.write.ensures ▸ c.gap_or-2.ensures)
