use Rattle.print_layout_spec.specs.Looks.{blank}
use Rattle.print_pieces.proofs.Steps.{◌▸◌, chosen}
use Rattle.print_nodes.proofs.functions.print_star.Goals as goal

pub returns-then-generates : goal.returns-then-generates
returns-then-generates g c = chosen blank c.if-generates.true (c.text.ensures ▸ c.gap.ensures)
