use Rattle.std.proofs.Common.{◌≡◌, length, IsUtf8}
use Rattle.base_number.specs.Numbers.{plain}
use Rattle.print_spelling.proofs.number.as_read.past_separators.Given as goal

abbrev pub invariant-separators : goal.invariant-separators
invariant-separators l = (plain l.rest ≡ plain l.fn.text) × IsUtf8 l.rest

abbrev pub decreases-separators : goal.decreases-separators
decreases-separators l = length l.rest
