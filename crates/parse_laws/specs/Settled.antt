-- What a parser reads of a source of tokens from its first token on, by what the grammar derives from the tokens that the source hands out: the statements of the law.
use Rattle.std.specs.Prelude.{◌≡◌, ◌≤◌, ◌<◌, ℕ, Bool, false, List, Result, Ok, Err}
use Rattle.base_token.specs.declared.syntax.EsSyntax.{EsSyntax}
use Rattle.lex_source.specs.Machine as tokens
use Rattle.lex_source.specs.Machine.{Source}
use Rattle.tree_spec.specs.Tree.{Tree}
use Rattle.tree_nesting.specs.Nesting.{nesting}
use Rattle.grammar_spec.specs.Tokens.Input.{PlacedToken}
use Rattle.grammar_spec.specs.Reader.Source.{Fault, Unexpected, TooDeep, Stream}
use Rattle.parse_state.specs.Cursors.{read_on, stream_of}
use Rattle.parse_source_laws.specs.Sources.{HandsOut}
use Rattle.parse_lexer_laws.specs.Constant.{Constant}
use Rattle.parse_laws.specs.Parsed.{DerivesList, EachDerived}
use Rattle.parse_laws.specs.Exact.{read_within}

module _ {S : Type 0} (m : Stream S) (limit : ℕ) (modules : Bool) (syntax : EsSyntax) (s : S) where
  -- The tree is derived from tokens that the source hands out, nests no deeper than the limit, and no other tree is derived from such tokens in order.
  pub record OnlyTree (t : Tree) : Type 0 where
    pub places : List PlacedToken
    pub handed : HandsOut m places s
    pub derived : DerivesList false modules syntax (m.last s) places t
    pub within : nesting t ≤ limit
    pub only : EachDerived m modules syntax s (λ u. u ≡ t)

  -- No tree of any nesting is derived from tokens that the source hands out.
  abbrev pub NoTree : Type 0
  NoTree = EachDerived m modules syntax s (λ u. ⊥)

  -- Each tree that is derived from tokens that the source hands out nests deeper than the limit.
  abbrev pub OnlyDeeper : Type 0
  OnlyDeeper = EachDerived m modules syntax s (λ u. limit < nesting u)

  -- What is read is the only tree; a token is unexpected where there is no tree; and reading is too deep where trees nest deeper only.
  abbrev pub SettledBy : Result Tree Fault → Type 0
  SettledBy (Ok t) = OnlyTree t
  SettledBy (Err (Unexpected n)) = NoTree
  SettledBy (Err (TooDeep n)) = OnlyDeeper

  -- What is read is settled by the grammar.
  pub record Settled : Type 0 where
    pub read : SettledBy (read_within m limit modules syntax s)
    -- what is derived from tokens that the source hands out, within the limit, is read
    pub found : EachDerived m modules syntax s (λ t. nesting t ≤ limit → read_within m limit modules syntax s ≡ Ok t)

-- What a parser reads of a good source of tokens, from its first token on, is settled by the grammar: a script, or a module.
abbrev pub FirstSettled : {S : Type 0} (m : tokens.Machine S) (Good : Source S → Type 0) (Same : Source S → Source S → Type 0) → Type 0
FirstSettled {S} m Good Same = (modules : Bool) → Constant m Good Same modules → (limit : ℕ) (syntax : EsSyntax) (s : Source S) (last : ℕ) → Good s
    → Settled (stream_of m) limit modules syntax (read_on (m.step s) last)
