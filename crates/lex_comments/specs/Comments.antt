-- The comments of the places of a text.
use Rattle.std.specs.Prelude.{◌≡◌, ◌≢◌, ℕ, List, [], ◌∷◌, ◌++◌, Vec}
use Rattle.std.specs.Option.{option_map_or}
use Rattle.std.specs.BTreeMap.{BTreeMap, get}
use Rattle.std.specs.Ordering.{nat_cmp}
use Rattle.std.specs.declared.alloc.Global.{Global}
use Rattle.lex_pieces.specs.declared.comments.Comment.{Comment as Read}
use Rattle.lex_comments.specs.declared.owned.Comment.{Comment}

-- the comment of a text, with a text of its own
abbrev pub owned_comment : Read → Comment
owned_comment c = record { kind = c.kind; span = c.span; text = c.text.now }

-- the comments of a place, in the order in which they were added
abbrev pub comments_at : BTreeMap ℕ (Vec Comment Global) → ℕ → List Comment
comments_at places pos = option_map_or (λ comments. comments.items) (get nat_cmp places pos) []

-- Below, the comments of each place before and after a call.

-- the same as before at each place
abbrev pub IsSame : (ℕ → List Comment) → (ℕ → List Comment) → Type 0
IsSame old new = (q : ℕ) → new q ≡ old q

-- a comment came after those of the place, and nothing else
pub record IsAdded (old new : ℕ → List Comment) (pos : ℕ) (comment : Comment) : Type 0 where
  pub here : new pos ≡ old pos ++ comment ∷ []
  pub others : (q : ℕ) → q ≢ pos → new q ≡ old q

-- those of the place are gone, and nothing else
pub record IsTaken (old new : ℕ → List Comment) (pos : ℕ) : Type 0 where
  pub here : new pos ≡ []
  pub others : (q : ℕ) → q ≢ pos → new q ≡ old q
