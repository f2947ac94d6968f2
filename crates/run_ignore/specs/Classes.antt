-- The bytes of a class (gitignore(5), `[a-zA-Z]`; fnmatch(3)).
use Rattle.std.specs.Prelude.{ℕ, Bool, ◌&&◌, nat_le, not, if◌then◌else◌}
use Rattle.std.specs.List.{list_any}
use Rattle.run_ignore.specs.declared.pieces.Class.{Class}
use Rattle.run_ignore.specs.declared.pieces.Range.{Range}

-- the byte is in the range, whose ends are in it
abbrev pub is_between : ℕ → Range → Bool
is_between byte range = nat_le range.from byte && nat_le byte range.to

-- the class has the byte: it is in a range, or in none where the class is negated
abbrev pub holds : Class → ℕ → Bool
holds class byte =
    if class.negated then not (list_any (is_between byte) class.ranges.items) else list_any (is_between byte) class.ranges.items
