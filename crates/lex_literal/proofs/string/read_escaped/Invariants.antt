use Rattle.std.proofs.Common.{◌<◌, length}
use denote.Text.{Utf8}
use denote.Shadow.{shadow}
use Rattle.std.specs.Str.{chars}
use Rattle.lex_literal.proofs.StringLemmas.{SoFar}
use Rattle.lex_literal.proofs.string.read_escaped.Given as goal

abbrev pub invariant-pieces : goal.invariant-pieces
invariant-pieces l = shadow (Utf8 l.rest) × (length l.rest < length l.text) × SoFar l.quote (chars l.inner) (chars l.rest) l.units.items l.legacy

abbrev pub decreases-pieces : goal.decreases-pieces
decreases-pieces l = length l.rest
