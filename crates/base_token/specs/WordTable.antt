-- The table of the words that have a kind of their own: each stands at a place that its text tells.
use Rattle.std.specs.Prelude.{ℕ, List, [], ◌∷◌, length, ◌+◌, ◌*◌, ◌%◌, ◌==◌, if◌then◌else◌}
use Rattle.base_token.specs.Kinds.{name_kind}

-- the place of a text: by its first two bytes and its length
abbrev pub place_of : List ℕ → ℕ
place_of [] = 0
place_of (first ∷ []) = 0
place_of (first ∷ second ∷ bytes) = (2 * first + 42 * second + length (first ∷ second ∷ bytes)) % 256

-- the text of the word at a place, and nothing where none stands there
abbrev pub text_at : List (ℕ × List ℕ) → ℕ → List ℕ
text_at [] place = []
text_at (word ∷ words) place = if place_of word.1 == place then word.1 else text_at words place

-- the kind of the word at a place
abbrev pub kind_at : List (ℕ × List ℕ) → ℕ → ℕ
kind_at [] place = name_kind
kind_at (word ∷ words) place = if place_of word.1 == place then word.0 else kind_at words place
