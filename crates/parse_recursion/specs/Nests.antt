-- That functions may be called at a depth, and what they then do.
use Rattle.std.specs.Prelude.{ℕ}
use Rattle.parse_state.specs.declared.code.Around.{Around}
use denote.Ref.{MutBor}

-- of a parser, the depth and the code
pub record Nests {P R : Type 0} (depth : ℕ) (pre : MutBor P → ℕ → Around → Type 0) (post : MutBor P → ℕ → Around → R → MutBor P → Type 0)
    (Does : Around → P → R → P → Type 0) : Type 0 where
  pub callable : (old : MutBor P) (code : Around) → pre old depth code
  pub does : (old new : MutBor P) (code : Around) (r : R) → post old depth code r new → Does code old.now r new.now

-- and of one thing more
pub record NestsAt {P X R : Type 0} (depth : ℕ) (pre : MutBor P → ℕ → Around → X → Type 0) (post : MutBor P → ℕ → Around → X → R → MutBor P → Type 0)
    (Does : Around → X → P → R → P → Type 0) : Type 0 where
  pub callable : (old : MutBor P) (code : Around) (x : X) → pre old depth code x
  pub does : (old new : MutBor P) (code : Around) (x : X) (r : R) → post old depth code x r new → Does code x old.now r new.now
