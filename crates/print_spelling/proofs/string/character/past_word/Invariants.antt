use Rattle.std.proofs.Common.{◌≡◌, length}
use Rattle.print_spelling.specs.String.CodePoints.{code_points}
use Rattle.print_spelling.specs.String.Strings as spec
use Rattle.print_spelling.proofs.string.character.past_word.Given as goal

abbrev pub invariant-letters : goal.invariant-letters
invariant-letters l = spec.past_word l.left (code_points l.rest) ≡ spec.past_word l.fn.word (code_points l.fn.units)

abbrev pub decreases-letters : goal.decreases-letters
decreases-letters l = length l.left
