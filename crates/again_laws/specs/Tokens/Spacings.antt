-- What stands between two tokens that a layout writes (ECMA-262, 12.2 to 12.4), and where the second then begins.
use Rattle.std.specs.Prelude.{◌≡◌, ◌≤◌, ℕ, Bool, true, false}

-- What stands since the last token: nothing, white space, or also the end of a line.
pub data Spacing : Type 0 where
  Touching : Spacing
  Spaced : Spacing
  Broken : Spacing

-- whether a line ends in it
abbrev pub is_broken : Spacing → Bool
is_broken Broken = true
is_broken _ = false

-- the spacing with a blank behind it
abbrev pub blanked : Spacing → Spacing
blanked Broken = Broken
blanked _ = Spaced

-- where a token begins behind the end of the last
abbrev pub Lies : Spacing → ℕ → ℕ → Type 0
Lies Touching last lo = lo ≡ last
Lies _ last lo = last ≤ lo
