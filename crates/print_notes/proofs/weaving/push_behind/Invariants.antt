-- What is written, and then what stands behind the last comment that was.
use Rattle.std.proofs.Common.{◌≡◌, ◌++◌, drop, map, string_bytes}
use Rattle.print_notes.specs.Slots.{looks_of, remark_of}
use Rattle.print_notes.specs.Views.{form_view, place_of}
use Rattle.print_notes.specs.Woven.{behind_comment}
use Rattle.print_notes.proofs.weaving.push_behind.Given as goal

abbrev pub invariant-loop-note : goal.invariant-loop-note
invariant-loop-note l = string_bytes l.out ++ behind_comment (looks_of l.look) (place_of l.place) (form_view l.form) (remark_of l.last) (map remark_of (drop l.note-index l.others))
    ≡ string_bytes l.fn.out ++ behind_comment (looks_of l.look) (place_of l.place) (form_view l.form) (remark_of l.first) (map remark_of l.others)
