-- What a parser reads of a source is exactly what the grammar derives from the tokens that the source hands out: the statements of the law.
use Rattle.std.specs.Prelude.{◌≡◌, ◌≤◌, ℕ, Bool, false, List, [], Result, Ok}
use Rattle.base_token.specs.declared.syntax.EsSyntax.{EsSyntax}
use Rattle.tree_spec.specs.Tree.{Tree}
use Rattle.tree_nesting.specs.Nesting.{nesting}
use Rattle.grammar_spec.specs.Tokens.Input.{PlacedToken}
use Rattle.grammar_text_spec.specs.Text.{code_of}
use Rattle.grammar_spec.specs.Reader.Source.{Fault, Stream}
use Rattle.grammar_laws.specs.CompleteBase.Laws.{InOrder}
use Rattle.parse_source_laws.specs.Sources.{HandsOut, Orderly}
use Rattle.parse_source_laws.specs.Consumed.{Backward}
use Rattle.ecma_parser.specs.Passed.{program_within}
use Rattle.parse_laws.specs.Parsed.{DerivesList, EachDerived}

module _ {S : Type 0} (m : Stream S) where
  -- what a parser reads of a source in a state, within a limit of nesting
  abbrev pub read_within : ℕ → Bool → EsSyntax → S → Result Tree Fault
  read_within limit modules syntax s = program_within m limit modules (code_of modules syntax) (record { source = s; commas = [] })

  -- A tree is what is read of the source exactly where it is within the limit and derives tokens that the source hands out.
  pub record Exactly (limit : ℕ) (modules : Bool) (syntax : EsSyntax) (s : S) (t : Tree) : Type 0 where
    -- what is read is within the limit, and derives tokens that the source hands out
    pub derived : read_within limit modules syntax s ≡ Ok t → (nesting t ≤ limit) × (ps : List PlacedToken) × HandsOut m ps s × DerivesList false modules syntax (m.last s) ps t
    -- what derives tokens that the source hands out, in the order of their places, and is within the limit, is read
    pub read : (placed : Bool) (ps : List PlacedToken) → HandsOut m ps s → InOrder (m.last s) ps → DerivesList placed modules syntax (m.last s) ps t → nesting t ≤ limit → read_within limit modules syntax s ≡ Ok t

module _ {S : Type 0} (m : Stream S) (Live : S → Type 0) where
  -- What a parser reads within a limit is exact.
  abbrev pub ProgramsExact : Type 0
  ProgramsExact = (modules : Bool) → Orderly m Live modules → Backward m Live modules → (limit : ℕ) (syntax : EsSyntax) (s : S) (t : Tree) → Live s → Exactly m limit modules syntax s t

  -- At most one tree, of whatever nesting, derives tokens that the source hands out.
  abbrev pub OneProgram : Type 0
  OneProgram = (modules : Bool) → Orderly m Live modules → (syntax : EsSyntax) (s : S) → Live s → EachDerived m modules syntax s (λ t. EachDerived m modules syntax s (λ u. t ≡ u))
