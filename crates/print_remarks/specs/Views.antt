-- The code's comments by their characters.
use Rattle.std.specs.Prelude.{option_map}
use Rattle.std.specs.Str.{chars}
use Rattle.print_notes.specs.declared.slots.Note.{Note}
use Rattle.print_notes.specs.Slots.{Remark}
use Rattle.print_remarks.specs.declared.gaps.Tally.{Tally as CodeTally}
use Rattle.print_remarks.specs.Found.{Tally}

abbrev pub said_of : Note → Remark
said_of n = record { is_line = n.is_line; text = chars n.text.now; breaks = n.breaks; lines = n.lines; behind = n.behind; gap = n.gap }

abbrev pub tally_of : CodeTally → Tally
tally_of t = record { lines = t.lines; last = option_map said_of t.last }
