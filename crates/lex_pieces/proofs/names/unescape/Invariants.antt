use Rattle.std.proofs.Common.{◌≤◌, length, string_bytes}
use denote.Text.{Utf8}
use denote.Shadow.{shadow}
use Rattle.std.specs.Str.{chars}
use Rattle.lex_pieces.proofs.NameParts.{Made}
use Rattle.lex_pieces.proofs.names.unescape.Given as goal

abbrev pub invariant-loop-more : goal.invariant-loop-more
invariant-loop-more l = shadow (Utf8 l.left) × (length l.left ≤ length l.rest) × Made (chars l.own) (chars l.rest) (string_bytes l.made) (chars l.left) l.first

abbrev pub decreases-loop-more : goal.decreases-loop-more
decreases-loop-more l = length l.left
