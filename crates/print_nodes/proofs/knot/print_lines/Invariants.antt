use Rattle.print_pieces.specs.Prints.{Prints}
use Rattle.print_nodes.specs.Spines.{lines_laid}
use Rattle.print_nodes.proofs.knot.print_lines.Given as goal

abbrev pub invariant-loop : goal.invariant-loop
invariant-loop g l = Prints g.W.WriteJs.tells g.W.WriteJs.state g.W.WriteJs.failed_writes g.W.WriteJs.loans (lines_laid l.look l.counter) l.fn.p.wr l.fn.p.fault l.p.wr l.p.fault
