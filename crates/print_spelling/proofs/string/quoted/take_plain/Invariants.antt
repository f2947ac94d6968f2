use Rattle.std.proofs.Common.{◌≡◌, ◌≤◌, ◌++◌, length}
use Rattle.arrayvec.specs.ArrayVec.{array_vec_len}
use Rattle.lex_pieces.specs.Runs.{Each}
use Rattle.print_spelling.specs.String.QuotedTexts.{is_plain_unit}
use Rattle.print_spelling.proofs.string.quoted.take_plain.Given as goal

abbrev pub invariant-units : goal.invariant-units
invariant-units l = record {
  cut : l.fn.units ≡ l.run.items ++ l.rest;
  stand : Each (is_plain_unit l.fn.style) l.run.items;
  room : array_vec_len l.run ≤ l.fn.room;
}

abbrev pub decreases-units : goal.decreases-units
decreases-units l = length l.rest
