-- The lines of a text, as diff(1) has them: each ends with a line feed (10), but the last, which may have none.
use Rattle.std.specs.Prelude.{◌≡◌, ◌≢◌, ℕ, ◌+◌, ◌<◌, ◌≤◌, List, [], ◌∷◌, ◌++◌, length, slice_index}
use Rattle.std.specs.Borrow.{Bor}

-- the first line has so many bytes
pub record IsFirstLength (text : List ℕ) (n : ℕ) : Type 0 where
  pub within : n ≤ length text
  pub some : 0 < length text → 0 < n
  pub before : (k : ℕ) → k + 1 < n → slice_index text k ≢ 10
  pub found : (k : ℕ) → k + 1 ≡ n → n < length text → slice_index text k ≡ 10

-- the text is this line and then the rest
pub record IsLine (text line rest : List ℕ) : Type 0 where
  pub is : IsFirstLength text (length line)
  pub whole : text ≡ line ++ rest

-- these are the lines of the text
abbrev pub AreLines : List (Bor (List ℕ)) → List ℕ → Type 0
AreLines [] text = text ≡ []
AreLines (line ∷ more) text = (rest : List ℕ) × (IsLine text line.now rest × AreLines more rest)
