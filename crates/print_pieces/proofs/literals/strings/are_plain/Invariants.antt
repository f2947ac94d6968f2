use Rattle.std.proofs.Common.{◌≡◌, length}
use Rattle.lex_pieces.specs.Runs.{Each}
use Rattle.print_spelling.specs.String.QuotedTexts.{is_plain_unit}
use Rattle.print_pieces.proofs.literals.strings.are_plain.Given as goal

-- Where all that is left stands for itself and is the same, all is.
abbrev pub invariant-units : goal.invariant-units
invariant-units l = l.bytes ≡ l.units → Each (is_plain_unit l.fn.style) l.units → (l.fn.bytes ≡ l.fn.units) × Each (is_plain_unit l.fn.style) l.fn.units

abbrev pub decreases-units : goal.decreases-units
decreases-units l = length l.units
