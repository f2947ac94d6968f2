-- The tokens of a text where they stand in its canonical text.
use Rattle.std.specs.Prelude.{◌≡◌, ℕ, ◌+◌, List, [], ◌∷◌, length, Option, None, Some}
use Rattle.base_token.specs.Tokens.{Spot}
use Rattle.lex_source.specs.Canonical.Canonical.{Edge, canonical, edge_of, gap, own_bytes}

abbrev pub moved_to : ℕ → ℕ → Spot → Spot
moved_to lo hi spot = record spot { lo = lo; hi = hi }

-- the tokens behind one, where the place behind that one is known
unfoldable pub moved_from : List ℕ → ℕ → Option Edge → List Spot → List Spot
moved_from source at last [] = []
moved_from source at last (spot ∷ spots) =
    moved_to (at + length (gap last spot)) (at + length (gap last spot) + length (own_bytes source spot.lo spot.hi)) spot
    ∷ moved_from source (at + length (gap last spot) + length (own_bytes source spot.lo spot.hi)) (Some (edge_of spot)) spots

-- Each token is moved to its place in the canonical text, whose first place is 1.
abbrev pub moved : List ℕ → List Spot → List Spot
moved source spots = moved_from source 1 None spots

-- The tokens of one text are those of the other, with the same marks and the same own bytes.
abbrev pub SameTokens : List ℕ → List Spot → List ℕ → List Spot → Type 0
SameTokens a [] b [] = Unit {0}
SameTokens a (x ∷ xs) b (y ∷ ys) = (x.token ≡ y.token) × (x.line_break ≡ y.line_break) × (own_bytes a x.lo x.hi ≡ own_bytes b y.lo y.hi)
    × SameTokens a xs b ys
SameTokens a xs b ys = ⊥

-- The canonical text of tokens has them all, and is its own canonical text.
pub record IsItsOwn (source : List ℕ) (spots : List Spot) : Type 0 where
  pub tokens : SameTokens (canonical source spots) (moved source spots) source spots
  pub text : canonical (canonical source spots) (moved source spots) ≡ canonical source spots
