-- The text of a number in parts.
use Rattle.std.specs.Prelude.{ℕ, Bool, if◌then◌else◌, ◌==◌, not, List, ◌++◌}
use Rattle.base_number.specs.Numbers.{plain}
use Rattle.print_spelling.specs.declared.number.text.NumberText.{NumberText}

abbrev pub joined : NumberText → List ℕ
joined t = t.first.now ++ (t.second.now ++ t.third.now)

abbrev pub is_separator : ℕ → Bool
is_separator c = c == 95

abbrev pub is_digit_byte : ℕ → Bool
is_digit_byte c = not (c == 95)

-- the bytes to come of a number: of the first part, without `_` if it is to be plain, and of the others
abbrev pub left_bytes : Bool → List ℕ → List ℕ → List ℕ
left_bytes is_plain first others = (if is_plain then plain first else first) ++ others
