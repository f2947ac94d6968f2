-- The line of a place. A line ends at a line feed (10) and at a carriage return (13), as a line of ECMA-262 does (12.3) but for U+2028 and U+2029.
use Rattle.std.specs.Prelude.{◌≡◌, ◌==◌, ◌||◌, ℕ, Bool, true, false, ◌+◌, ◌<◌, ◌≤◌, List, length, slice_index}

-- the byte ends a line
abbrev pub ends_row : ℕ → Bool
ends_row byte = (byte == 10) || (byte == 13)

-- the line of a place begins there: no byte from there up to the place ends a line, and one stands before, or nothing
pub record IsRowStart (text : List ℕ) (at start : ℕ) : Type 0 where
  pub before : start ≤ at
  pub inside : (k : ℕ) → start ≤ k → k < at → ends_row (slice_index text k) ≡ false
  pub first : (k : ℕ) → k + 1 ≡ start → ends_row (slice_index text k) ≡ true

-- the line of a place ends there: no byte from the place up to there ends a line, and one stands there, or nothing
pub record IsRowEnd (text : List ℕ) (at end : ℕ) : Type 0 where
  pub behind : at ≤ end
  pub within : end ≤ length text
  pub inside : (k : ℕ) → at ≤ k → k < end → ends_row (slice_index text k) ≡ false
  pub last : end < length text → ends_row (slice_index text end) ≡ true
