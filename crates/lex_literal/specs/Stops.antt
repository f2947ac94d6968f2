-- The bytes at which a run is left.
use Rattle.std.specs.Prelude.{ℕ, Bool, not, ◌||◌, ◌==◌}

-- neither CR nor one of these
abbrev pub passes : ℕ → ℕ → ℕ → ℕ → Bool
passes a b c x = not (x == a || (x == b || (x == c || x == 13)))
