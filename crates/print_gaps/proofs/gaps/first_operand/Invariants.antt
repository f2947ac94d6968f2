use Rattle.std.proofs.Common.{◌≡◌}
use Rattle.print_gaps.specs.Edges.{first_operand}
use Rattle.print_gaps.proofs.gaps.first_operand.Given as goal

abbrev pub invariant-loop-first : goal.invariant-loop-first
invariant-loop-first l = first_operand l.first ≡ first_operand l.expr
