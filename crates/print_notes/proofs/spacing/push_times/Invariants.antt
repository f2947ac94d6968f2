-- What is written, and then as many texts as are left.
use Rattle.std.proofs.Common.{◌≡◌, ◌++◌, string_bytes}
use Rattle.print_notes.specs.Spacing.{times}
use Rattle.print_notes.proofs.spacing.push_times.Given as goal

abbrev pub invariant-loop-left : goal.invariant-loop-left
invariant-loop-left l = string_bytes l.out ++ times l.left l.text ≡ string_bytes l.fn.out ++ times l.count l.text

abbrev pub decreases-loop-left : goal.decreases-loop-left
decreases-loop-left l = l.left
