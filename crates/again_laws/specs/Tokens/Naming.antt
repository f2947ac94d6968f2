-- Where names stand: those of a text that was read, and those of the text that is written of it.
use Rattle.std.specs.Prelude.{◌≡◌, ℕ}
use Rattle.base_token.specs.declared.place.Span.{Span}
use Rattle.tree_spec.specs.Places.{no_place}

-- As what the place of a name is kept, by where it begins: of one that was read, and of one that is written.
pub record Naming : Type 0 where
  pub read : ℕ → Span
  pub written : ℕ → Span
  -- the kind of the token before those that are left, by how many these are
  pub behind : ℕ → ℕ

-- A name that was read here is written there: both places are kept as the same.
abbrev pub StandsFor : Naming → ℕ → ℕ → Type 0
StandsFor n from to = n.written to ≡ n.read from

-- no kind is known
abbrev pub untold : ℕ → ℕ
untold left = 0

-- no place is kept
abbrev pub nowhere : ℕ → Span
nowhere at = no_place

abbrev pub unplaced_names : Naming
unplaced_names = record { read = nowhere; written = nowhere; behind = untold }
