-- What is written, and then the tokens and the comments that are left.
use Rattle.std.proofs.Common.{◌≡◌, ◌≤◌, ◌++◌, drop, length, map, string_bytes}
use Rattle.print_notes.specs.Slots.{looks_of, remark_of, token_of}
use Rattle.print_notes.specs.Woven.{woven_from, woven}
use denote.Shadow.{shadow}
use denote.Text.{Utf8}
use Rattle.print_notes.proofs.weaving.weave.Given as goal

abbrev pub invariant-loop-gap : goal.invariant-loop-gap
invariant-loop-gap l = record {
  utf8 : shadow (Utf8 l.line);
  within : l.done ≤ length l.notes;
  text : string_bytes l.out ++ woven_from (looks_of l.look) l.line l.behind l.gap (map token_of (drop l.gap l.slots)) l.tail (drop l.done (map remark_of l.notes))
      ≡ woven (looks_of l.look) l.lead (map token_of l.slots) l.tail (map remark_of l.notes);
}
