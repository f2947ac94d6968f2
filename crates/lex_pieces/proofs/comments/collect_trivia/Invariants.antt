use Rattle.std.proofs.Common.{◌≤◌, length}
use denote.Text.{Utf8}
use denote.Shadow.{shadow}
use Rattle.std.specs.Str.{chars}
use Rattle.lex_pieces.proofs.Noting.{Collected}
use Rattle.lex_pieces.proofs.comments.collect_trivia.Given as goal

abbrev pub invariant-loop-piece : goal.invariant-loop-piece
invariant-loop-piece l = shadow (Utf8 l.rest) × (length l.rest ≤ length l.text)
    × Collected l.end l.goal l.first (chars l.text) l.broke (chars l.rest) l.fn.comments.items l.comments.items

abbrev pub decreases-loop-piece : goal.decreases-loop-piece
decreases-loop-piece l = length l.rest
