use Rattle.std.proofs.Common.{◌≡◌, length}
use denote.Text.{Utf8}
use denote.Shadow.{shadow}
use Rattle.std.specs.Str.{chars}
use Rattle.print_writers.specs.Lines.{after_text}
use Rattle.print_writers.proofs.lines.after_text.Given as goal

abbrev pub invariant-text : goal.invariant-text
invariant-text l = shadow (Utf8 l.rest) × (after_text l.place (chars l.rest) ≡ after_text l.fn.place (chars l.text))

abbrev pub decreases-text : goal.decreases-text
decreases-text l = length (chars l.rest)
