-- Which call of a reader or a writer over memory fails.
use Rattle.std.specs.Prelude.{ℕ, Bool, false, ◌==◌, Option, Some, None}

-- the call of this number fails
abbrev pub fails_at : Option ℕ → ℕ → Bool
fails_at None call = false
fails_at (Some number) call = number == call
