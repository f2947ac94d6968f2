use Rattle.std.proofs.Common.{◌≡◌, ◌++◌, replicate, string_bytes}
use Rattle.print_source_map.proofs.segments.push_line_ends.Given as goal

abbrev pub invariant-loop-end : goal.invariant-loop-end
invariant-loop-end l = string_bytes l.text ≡ string_bytes l.initial.text ++ replicate l.end 59
