use Rattle.print_nodes.proofs.Spines.{line_more, no_lines}
use Rattle.print_nodes.proofs.knot.print_lines.Goals as goal

pub loop-init : goal.loop-init
loop-init g c = no_lines c.args.look

pub loop-preserved : goal.loop-preserved
loop-preserved g c = line_more c.args.look _ c.loop.invariant c.line.ensures
