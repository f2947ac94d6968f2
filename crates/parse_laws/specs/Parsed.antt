-- What a parser reads of a source is what the grammar derives from the tokens that the source hands out: the statements of the law.
use Rattle.std.specs.Prelude.{◌≡◌, ◌≤◌, ◌<◌, ℕ, Bool, true, List, [], Result, Ok, Err}
use Rattle.base_token.specs.declared.syntax.EsSyntax.{EsSyntax}
use Rattle.tree_spec.specs.Tree.{Tree}
use Rattle.tree_nesting.specs.Nesting.{nesting}
use Rattle.grammar_spec.specs.Tokens.Input.{PlacedToken, Input}
use Rattle.grammar_spec.specs.Grammar.{Derives}
use Rattle.grammar_text_spec.specs.Text.{code_of, is_of_goal}
use Rattle.grammar_spec.specs.Reader.Source.{Fault, Unexpected, TooDeep, Stream}
use Rattle.grammar_laws.specs.CompleteBase.Laws.{coded, InOrder}
use Rattle.ecma_parser.specs.Passed.{program_within}
use Rattle.parse_source_laws.specs.Sources.{HandsOut, Orderly}

-- A tree derives a list of tokens to its end, as a script or as a module. Their goals and contexts are judged, or the tokens alone.
abbrev pub DerivesList : Bool → Bool → EsSyntax → ℕ → List PlacedToken → Tree → Type 0
DerivesList placed modules syntax start places t = (is_of_goal modules t ≡ true) × (r : Input) × Derives t (coded placed (code_of modules syntax)) (record { last = start; places = places }) r

module _ {S : Type 0} (m : Stream S) (modules : Bool) (syntax : EsSyntax) where
  -- Of every tree that derives tokens which the source hands out, in the order of their places, something holds.
  abbrev pub EachDerived : S → (Tree → Type 0) → Type 0
  EachDerived s P = (placed : Bool) (ps : List PlacedToken) (t : Tree) → HandsOut m ps s → InOrder (m.last s) ps → DerivesList placed modules syntax (m.last s) ps t → P t

  -- Where a token is unexpected, no tree of any nesting is derived; where reading is too deep, none within the limit is; and what is read is the
  -- only one that is derived, and within the limit.
  abbrev pub Judges : ℕ → S → Result Tree Fault → Type 0
  Judges limit s (Ok t) = (nesting t ≤ limit) × EachDerived s (λ u. u ≡ t)
  Judges limit s (Err (Unexpected n)) = EachDerived s (λ u. ⊥)
  Judges limit s (Err (TooDeep n)) = EachDerived s (λ u. limit < nesting u)

-- What a parser reads within a limit is judged so.
abbrev pub ProgramsJudged : {S : Type 0} → Stream S → (S → Type 0) → Type 0
ProgramsJudged {S} m Live = (modules : Bool) → Orderly m Live modules → (limit : ℕ) (syntax : EsSyntax) (s : S) → Live s
    → Judges m modules syntax limit s (program_within m limit modules (code_of modules syntax) (record { source = s; commas = [] }))
