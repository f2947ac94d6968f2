-- The code points of units of UTF-16 (ECMA-262, 11.1.3 and 11.1.5).
use Rattle.std.specs.Prelude.{ℕ, ◌+◌, ◌*◌, ◌-◌, ◌<◌, Bool, ◌&&◌, nat_le, nat_lt, if◌then◌else◌, List, [], ◌∷◌}

abbrev pub is_high : ℕ → Bool
is_high u = nat_le 0xD800 u && nat_lt u 0xDC00

abbrev pub is_low : ℕ → Bool
is_low u = nat_le 0xDC00 u && nat_lt u 0xE000

-- the character of a high and a low surrogate
abbrev pub of_pair : ℕ → ℕ → ℕ
of_pair u v = 0x1_0000 + (u - 0xD800) * 0x400 + (v - 0xDC00)

-- a unit before code points: with a low surrogate behind a high one it is a pair
abbrev pub onto : ℕ → List ℕ → List ℕ
onto u [] = u ∷ []
onto u (c ∷ cs) = if is_high u && is_low c then of_pair u c ∷ cs else u ∷ c ∷ cs

-- a pair is one code point, and any other unit is one
abbrev pub code_points : List ℕ → List ℕ
code_points [] = []
code_points (u ∷ us) = onto u (code_points us)

-- Each is a unit of UTF-16, and each a code point.
abbrev pub AreUnits : List ℕ → Type 0
AreUnits [] = Unit {0}
AreUnits (u ∷ us) = (u < 65536) × AreUnits us

abbrev pub AreCodes : List ℕ → Type 0
AreCodes [] = Unit {0}
AreCodes (c ∷ cs) = (c < 0x110000) × AreCodes cs
