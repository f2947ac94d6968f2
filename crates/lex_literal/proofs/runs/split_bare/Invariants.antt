use Rattle.std.proofs.Common.{◌≤◌, length}
use denote.Text.{Utf8}
use denote.Shadow.{shadow}
use Rattle.std.specs.Str.{chars}
use Rattle.lex_literal.proofs.BareLemmas.{Stand}
use Rattle.lex_literal.proofs.runs.split_bare.Given as goal

abbrev pub invariant-dollars : goal.invariant-dollars
invariant-dollars l = shadow (Utf8 l.rest) × (length l.rest ≤ length l.text) × Stand (chars l.text) (chars l.rest)

abbrev pub decreases-dollars : goal.decreases-dollars
decreases-dollars l = length l.rest
