-- How the lines of one text become those of another.
use Rattle.std.specs.Prelude.{◌≡◌, ℕ, ◌+◌, ◌<◌, ◌≤◌, List, [], ◌∷◌, length, drop, slice_index_or}
use Rattle.std.specs.Borrow.{Bor}
use Rattle.run_text.specs.declared.turning.Block.{Block}

-- this is the line at this place
abbrev pub IsLineAt : List (Bor (List ℕ)) → ℕ → Bor (List ℕ) → Type 0
IsLineAt lines k line = (k < length lines) × (line ≡ slice_index_or lines k line)

-- the first so many lines of both are the same
abbrev pub Agree : ℕ → List (Bor (List ℕ)) → List (Bor (List ℕ)) → Type 0
Agree count old new = (k : ℕ) → (line other : Bor (List ℕ)) → k < count → IsLineAt old k line → IsLineAt new k other → line.now ≡ other.now

-- the block stands at the front of both: the lines that are kept are the same, and behind them are those to leave of either
pub record IsBlock (block : Block) (old new : List (Bor (List ℕ))) : Type 0 where
  pub agree : Agree block.kept old new
  pub of_old : block.kept + block.removed ≤ length old
  pub of_new : block.kept + block.added ≤ length new

-- the blocks turn the lines of one text into those of another: who takes the kept lines of the old one, leaves those that are
-- removed, and puts in those that are added, has the lines of the new one, and none of either is left
abbrev pub Turns : List Block → List (Bor (List ℕ)) → List (Bor (List ℕ)) → Type 0
Turns [] old new = (old ≡ []) × (new ≡ [])
Turns (block ∷ more) old new =
    IsBlock block old new × Turns more (drop block.removed (drop block.kept old)) (drop block.added (drop block.kept new))
