-- Those before this one fit.
use Rattle.std.proofs.Common.{◌≡◌, ◌+◌, drop, map}
use Rattle.print_notes.specs.Slots.{remark_of, token_of}
use Rattle.print_notes.specs.Safe.{fitting}
use Rattle.print_notes.proofs.safe.fitting.Given as goal

abbrev pub invariant-loop-at : goal.invariant-loop-at
invariant-loop-at l = fitting l.gap l.behind (token_of l.slot) (map remark_of (drop l.at l.notes)) + l.at ≡ fitting l.gap l.behind (token_of l.slot) (map remark_of l.notes)
