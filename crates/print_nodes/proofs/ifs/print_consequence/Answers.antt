use Rattle.print_pieces.proofs.Steps.{◌▸◌}
use Rattle.print_nodes.proofs.ifs.print_consequence.Goals as goal

pub returns : goal.returns
returns g c = c.commit.ensures ▸ (c.start.ensures ▸ (c.text.ensures ▸ (c.gap.ensures ▸ (c.print_in_parens.ensures ▸ (c.gap-2.ensures ▸ (c.print.ensures.laid ▸ c.print_closing.ensures))))))
