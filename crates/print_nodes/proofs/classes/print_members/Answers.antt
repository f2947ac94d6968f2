use Rattle.print_pieces.proofs.Steps.{◌▸◌}
use Rattle.print_nodes.proofs.classes.print_members.Goals as goal

pub returns : goal.returns
returns g c = c.gap.ensures ▸ (c.text.ensures ▸ (c.print_indented_rows.ensures ▸ (c.last.ensures ▸ c.brace.ensures)))
