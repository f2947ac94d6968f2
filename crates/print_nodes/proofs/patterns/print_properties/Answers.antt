use Rattle.print_pieces.proofs.Steps.{◌▸◌, present}
use Rattle.print_nodes.proofs.Parts.{filled}
use Rattle.print_nodes.proofs.patterns.print_properties.Goals as goal

pub returns : goal.returns
returns g c = present (filled g.T.Print.tree c.args.props.now c.is_empty.ensures c.if-is_empty.false) (c.gap.ensures ▸ (c.print_separated.ensures ▸ c.gap-2.ensures))
