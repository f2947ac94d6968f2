use Rattle.std.proofs.Common.{◌≡◌, ◌+◌, ◌≤◌, length}
use denote.Text.{Utf8}
use denote.Shadow.{shadow}
use Rattle.std.specs.Str.{chars}
use Rattle.ecma_front.proofs.Lines.{along}
use Rattle.ecma_front.proofs.line_col.place.Given as goal

abbrev pub invariant-text : goal.invariant-text
invariant-text l = shadow (Utf8 l.rest)
    × (l.place.line + l.left ≤ l.at)
    × (l.place.col + l.left ≤ l.at)
    × (along l.place.line l.place.col l.left (chars l.rest) ≡ along 0 0 l.at (chars l.text))

abbrev pub decreases-text : goal.decreases-text
decreases-text l = length (chars l.rest)
