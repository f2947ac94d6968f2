use Rattle.std.proofs.Common.{◌≤◌, false, length}
use denote.Text.{Utf8}
use denote.Shadow.{shadow}
use Rattle.std.specs.Str.{chars}
use Rattle.lex_pieces.specs.RegExps.{Goes}
use Rattle.lex_pieces.proofs.regexps.split_body.Given as goal

abbrev pub invariant-loop-c : goal.invariant-loop-c
invariant-loop-c l = shadow (Utf8 l.rest) × (length l.rest ≤ length l.text) × Goes false (chars l.text) l.in_class (chars l.rest)

abbrev pub decreases-loop-c : goal.decreases-loop-c
decreases-loop-c l = length l.rest
