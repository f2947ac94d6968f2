use Rattle.print_pieces.proofs.Steps.{◌▸◌, present}
use Rattle.print_nodes.proofs.Parts.{filled}
use Rattle.print_nodes.proofs.switches.print_case_body.Goals as goal

pub returns : goal.returns
returns g c = present (filled g.T.Print.tree c.args.body.now c.is_empty.ensures c.if-is_empty.false) (c.line.ensures ▸ (c.deeper.ensures ▸ (c.print_closed_rows.ensures ▸ c.back.ensures)))
