use Rattle.std.proofs.Common.{◌≡◌, ◌+◌, ◌*◌, ◌≤◌, length}
use denote.Text.{Utf8}
use denote.Shadow.{shadow}
use Rattle.std.specs.Str.{chars}
use Rattle.print_writers.specs.Lines.{units}
use Rattle.print_writers.proofs.lines.units.Given as goal

abbrev pub invariant-text : goal.invariant-text
invariant-text l = shadow (Utf8 l.rest)
    × (l.count + 2 * length l.rest ≤ 2 * length l.text)
    × (l.count + units (chars l.rest) ≡ units (chars l.text))

abbrev pub decreases-text : goal.decreases-text
decreases-text l = length (chars l.rest)
