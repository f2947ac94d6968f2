use Rattle.std.proofs.Common.{◌≡◌, ◌≤◌, ◌++◌, length}
use Rattle.arrayvec.specs.ArrayString.{array_string_len}
use Rattle.print_spelling.specs.declared.string.quoted.Stage.TheVariants.{Inside}
use Rattle.print_spelling.specs.String.CodePoints.{code_points}
use Rattle.print_spelling.specs.String.QuotedTexts.{left_bytes}
use Rattle.print_spelling.proofs.string.quoted.fill.Given as goal

abbrev pub invariant-characters : goal.invariant-characters
invariant-characters l = record {
  bytes : l.fn.block.bytes ++ left_bytes l.fn.style l.fn.quote l.fn.before Inside (code_points l.fn.units)
      ≡ l.block.bytes ++ left_bytes l.fn.style l.fn.quote l.left.behind Inside (code_points l.left.rest.now);
  room : array_string_len l.block ≤ 127;
}

abbrev pub decreases-characters : goal.decreases-characters
decreases-characters l = length l.left.rest.now
