-- That a function which changes what a box holds may be called at a depth, and that the sort then stays.
use Rattle.std.specs.Prelude.{ℕ}
use Rattle.tree_nodes.specs.Placed.{Placed}
use Rattle.tree_visit_mut.specs.Sorts.{SameSort}
use denote.Ref.{MutBor}

pub record Runs {V R : Type 0} (depth : ℕ) (pre : MutBor V → MutBor Placed → ℕ → Type 0)
    (post : MutBor V → MutBor Placed → ℕ → R → MutBor V → MutBor Placed → Type 0) : Type 0 where
  pub callable : (visitor : MutBor V) (part : MutBor Placed) → pre visitor part depth
  pub keeps : (visitor after : MutBor V) (part left : MutBor Placed) (r : R) → post visitor part depth r after left → SameSort part.now left.now
