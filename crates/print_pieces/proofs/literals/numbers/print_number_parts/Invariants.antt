use Rattle.std.proofs.Common.{length, ◌++◌}
use Rattle.print_pieces.specs.Literals.Parts.{Leaves, held_back}
use Rattle.print_pieces.proofs.literals.numbers.print_number_parts.Given as goal

abbrev pub invariant-parts : goal.invariant-parts
invariant-parts g l = Leaves g.W.WriteJs.tells g.W.WriteJs.state g.W.WriteJs.failed_writes g.W.WriteJs.loans l.fn.parts (held_back l.held ++ l.parts) l.fn.p.wr l.fn.p.fault l.p.wr l.p.fault

abbrev pub decreases-parts : goal.decreases-parts
decreases-parts g l = length l.parts
