-- The digits of a text, of whatever radix. No public clause cites this module.
use Rattle.std.specs.Prelude.{ℕ, Bool, not, ◌||◌, ◌==◌, List, filter}

-- whether a byte may stand between two digits of a number: NumericLiteralSeparator, or the point (ECMA-262, 12.9.3)
abbrev pub is_between : ℕ → Bool
is_between c = c == 95 || c == 46

-- the text without what stands between its digits
abbrev pub digits_in : List ℕ → List ℕ
digits_in text = filter (λ c. not (is_between c)) text
