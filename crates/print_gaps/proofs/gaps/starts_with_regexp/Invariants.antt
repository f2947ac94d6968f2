use Rattle.std.proofs.Common.{◌≡◌}
use Rattle.print_gaps.specs.Edges.{starts_with_regexp}
use Rattle.print_gaps.proofs.gaps.starts_with_regexp.Given as goal

abbrev pub invariant-loop-head : goal.invariant-loop-head
invariant-loop-head l = starts_with_regexp l.first ≡ starts_with_regexp l.expr
