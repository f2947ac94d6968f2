-- What the comments that are left tell is what all tell.
use Rattle.std.proofs.Common.{◌≡◌, false, drop, map}
use Rattle.print_notes.specs.Slots.{remark_of}
use Rattle.print_notes.specs.Spacing.{some_lines_from}
use Rattle.print_notes.proofs.places.some_lines.Given as goal

abbrev pub invariant-loop-note : goal.invariant-loop-note
invariant-loop-note l = some_lines_from l.ends (map remark_of (drop l.note-index l.notes)) ≡ some_lines_from false (map remark_of l.notes)
