-- A reading that is settled by which trees read something, of whatever nesting: a text, or a list of tokens.
use Rattle.std.specs.Prelude.{◌≡◌, ◌≤◌, ◌<◌, ℕ, Result, Ok, Err}
use Rattle.tree_spec.specs.Tree.{Tree}
use Rattle.tree_nesting.specs.Nesting.{nesting}
use Rattle.grammar_spec.specs.Reader.Source.{Fault, Unexpected, TooDeep}

module _ (Reads : Tree → Type 0) where
  -- Of every tree that reads it something holds.
  abbrev pub Each : (Tree → Type 0) → Type 0
  Each P = (t : Tree) → Reads t → P t

  module _ (limit : ℕ) where
    -- The tree reads it, nests no deeper than the limit, and no other tree reads it.
    pub record Only (t : Tree) : Type 0 where
      pub reads : Reads t
      pub within : nesting t ≤ limit
      pub only : Each (λ u. u ≡ t)

    -- What is read is the only tree; a token is unexpected where no tree reads it; and reading is too deep where each that does nests deeper.
    abbrev pub JudgedBy : Result Tree Fault → Type 0
    JudgedBy (Ok t) = Only t
    JudgedBy (Err (Unexpected n)) = Each (λ u. ⊥)
    JudgedBy (Err (TooDeep n)) = Each (λ u. limit < nesting u)

    -- A reading is settled so.
    pub record Judged (x : Result Tree Fault) : Type 0 where
      pub read : JudgedBy x
      -- what reads it, within the limit, is what is read
      pub found : Each (λ t. nesting t ≤ limit → x ≡ Ok t)
