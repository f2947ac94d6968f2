use Rattle.std.proofs.Common.{◌≤◌, length, map}
use denote.Text.{Utf8}
use denote.Shadow.{shadow}
use Rattle.std.specs.Str.{chars}
use Rattle.print_remarks.specs.Views.{said_of, tally_of}
use Rattle.print_remarks.proofs.Tallies.{Tallied}
use Rattle.print_remarks.proofs.gaps.push_notes.Given as goal

abbrev pub invariant-loop-piece : goal.invariant-loop-piece
invariant-loop-piece l = shadow (Utf8 l.rest) × (length l.rest ≤ length l.text)
    × Tallied l.goal l.first l.gap (chars l.text) l.broke (chars l.rest) (map said_of l.fn.notes.items) (map said_of l.notes.items) (tally_of l.tally)

abbrev pub decreases-loop-piece : goal.decreases-loop-piece
decreases-loop-piece l = length l.rest
