-- What a text ends with.
use Rattle.std.specs.Prelude.{◌≡◌, ℕ, List, ◌++◌}

-- The text ends with the rest.
abbrev pub EndsWith : List ℕ → List ℕ → Type 0
EndsWith text rest = (front : List ℕ) × (text ≡ front ++ rest)
