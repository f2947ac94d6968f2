-- The text of a block comment (12.4).
use Rattle.std.specs.Prelude.{◌≡◌, ℕ, Bool, false, ◌&&◌, List, [], ◌∷◌, ◌++◌, Option, None, Some, if◌then◌else◌, ◌==◌}

-- `*/` stands nowhere in the characters
abbrev pub NoEnd : List ℕ → Type 0
NoEnd cs = (own rest : List ℕ) → cs ≡ own ++ 42 ∷ 47 ∷ rest → ⊥

-- after the `/*` of a block comment comes its own text (MultiLineCommentChars), the first `*/`, and the rest
abbrev pub IsBlock : List ℕ → List ℕ → List ℕ → Type 0
IsBlock cs own rest = (cs ≡ own ++ 42 ∷ 47 ∷ rest) × NoEnd own

-- ---- the same as functions

abbrev pub is_end : ℕ → List ℕ → Bool
is_end c [] = false
is_end c (d ∷ ds) = c == 42 && d == 47

abbrev pub tail : List ℕ → List ℕ
tail [] = []
tail (c ∷ cs) = cs

abbrev pub before_end : List ℕ → List ℕ
before_end [] = []
before_end (c ∷ cs) = if is_end c cs then [] else c ∷ before_end cs

abbrev pub past_end : List ℕ → Option (List ℕ)
past_end [] = None
past_end (c ∷ cs) = if is_end c cs then Some (tail cs) else past_end cs
