use Rattle.std.proofs.Common.{◌≡◌, bytes_eq}
use Rattle.std.specs.Str.{IsUtf8, chars}
use Rattle.std.specs.Str.Iter.{chars_rest}
use Rattle.base_token.specs.Utf16.{utf16}
use Rattle.tree_same.proofs.keys.spells_units.Given as goal

abbrev pub invariant-chars : goal.invariant-chars
invariant-chars l = (bytes_eq (utf16 (chars (chars_rest l.c-iterator))) l.rest ≡ bytes_eq (utf16 (chars l.text)) l.units) × IsUtf8 (chars_rest l.c-iterator)
