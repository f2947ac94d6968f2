use Rattle.std.proofs.Common.{◌≡◌, ◌≤◌, length}
use Rattle.std.specs.Prelude.{drop}
use denote.Text.{Utf8}
use denote.Shadow.{shadow}
use Rattle.std.specs.Str.{chars}
use Rattle.ecma_front.proofs.reading.behind.Given as goal

abbrev pub invariant-text : goal.invariant-text
invariant-text l = shadow (Utf8 l.rest)
    × (length l.rest ≤ length l.text)
    × (drop l.left (chars l.rest) ≡ drop l.characters (chars l.text))

abbrev pub decreases-text : goal.decreases-text
decreases-text l = length (chars l.rest)
