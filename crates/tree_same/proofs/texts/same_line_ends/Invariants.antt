use Rattle.std.proofs.Common.{◌≡◌, bytes_eq, length}
use Rattle.tree_program_spec.specs.Program.{line_ends, line_ends_after}
use Rattle.tree_same.proofs.texts.same_line_ends.Given as goal

abbrev pub invariant-bytes : goal.invariant-bytes
invariant-bytes l = bytes_eq (line_ends_after l.past_cr l.rest) (line_ends_after l.other_past_cr l.other_rest) ≡ bytes_eq (line_ends l.text) (line_ends l.other)

abbrev pub decreases-bytes : goal.decreases-bytes
decreases-bytes l = length l.rest
