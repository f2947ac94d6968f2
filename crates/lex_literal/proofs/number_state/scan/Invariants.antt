use Rattle.std.proofs.Common.{◌≡◌, length}
use Rattle.lex_literal.specs.declared.number_state.State.TheVariants as s
use Rattle.lex_literal.specs.NumberSteps.{scan}
use Rattle.lex_literal.proofs.number_state.scan.Given as goal

abbrev pub invariant-bytes : goal.invariant-bytes
invariant-bytes l = scan l.state (l.last, l.behind) l.left ≡ scan s.Start (s.Start, l.bytes) l.bytes

abbrev pub decreases-bytes : goal.decreases-bytes
decreases-bytes l = length l.left
