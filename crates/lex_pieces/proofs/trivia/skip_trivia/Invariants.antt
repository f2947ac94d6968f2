use Rattle.std.proofs.Common.{◌≤◌, length}
use denote.Text.{Utf8}
use denote.Shadow.{shadow}
use Rattle.std.specs.Str.{chars}
use Rattle.lex_pieces.proofs.Following.{Skipped}
use Rattle.lex_pieces.proofs.trivia.skip_trivia.Given as goal

abbrev pub invariant-loop-line_break : goal.invariant-loop-line_break
invariant-loop-line_break l = shadow (Utf8 l.rest) × (length l.rest ≤ length l.text) × Skipped l.goal l.first (chars l.text) l.broke (chars l.rest)

abbrev pub decreases-loop-line_break : goal.decreases-loop-line_break
decreases-loop-line_break l = length l.rest
