use Rattle.std.proofs.Common.{◌≤◌, length}
use denote.Text.{Utf8}
use denote.Shadow.{shadow}
use Rattle.std.specs.Str.{chars}
use Rattle.lex_pieces.proofs.Following.{Skipped}
use Rattle.lex_pieces.proofs.trivia.skip_pieces.Given as goal

abbrev pub invariant-loop-breaks : goal.invariant-loop-breaks
invariant-loop-breaks l = shadow (Utf8 l.rest) × (length l.rest ≤ length l.text) × Skipped l.goal l.first (chars l.text) l.broke (chars l.rest)

abbrev pub decreases-loop-breaks : goal.decreases-loop-breaks
decreases-loop-breaks l = length l.rest
