-- The places of tokens, one after the other.
use Rattle.std.specs.Prelude.{ℕ, ◌≤◌, List, [], ◌∷◌}
use Rattle.base_token.specs.Tokens.{Spot}

-- Each token begins where the one before it ends or later, and ends there or later; the last ends by the end of the text.
abbrev pub Rise : ℕ → List Spot → ℕ → Type 0
Rise from [] end = from ≤ end
Rise from (spot ∷ spots) end = (from ≤ spot.lo) × (spot.lo ≤ spot.hi) × Rise spot.hi spots end
