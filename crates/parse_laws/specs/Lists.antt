-- What a new parser of a list of tokens answers, by the trees that are derived from the whole list: the statements of the law.
use Rattle.std.specs.Prelude.{◌≡◌, ◌≤◌, ℕ, Bool, false, List, [], Result}
use Rattle.base_token.specs.declared.context.Context.{Context}
use Rattle.base_token.specs.declared.error.Error.{Error}
use Rattle.base_token.specs.declared.syntax.Syntax.{Syntax}
use Rattle.base_token.specs.declared.version.EsVersion.{EsVersion}
use Rattle.base_token.specs.Dialect.{parts_of}
use Rattle.base_token.specs.Tokens.{Spot}
use Rattle.lex_source.specs.Machine.{Source}
use Rattle.lex_other_sources.specs.Lists.{list_machine, start_of, list_in}
use Rattle.tree_spec.specs.Tree.{Tree}
use Rattle.tree_nesting.specs.Nesting.{nesting}
use Rattle.grammar_spec.specs.Judge.Early.{early_errors}
use Rattle.grammar_laws.specs.CompleteBase.Laws.{InOrder}
use Rattle.grammar_text_spec.specs.Text.{Setting}
use Rattle.parse_state.specs.declared.parser.Parser.{Parser}
use Rattle.ecma_parser.specs.Entries.{source_in, syntax_in, limit_in}
use Rattle.lex_other_sources.specs.declared.rewinding.Rewinding.{Rewinding}
use Rattle.ecma_parser.specs.declared.entries.Entries.{Entries}
use Rattle.parse_laws.specs.Answered.{NewAnswer, Promised}
use Rattle.parse_laws.specs.ListRead.{seen, ReadsList}

-- A tree spells a list of tokens: it is derived from the whole list, no early error is listed, and it goes no deeper than the limit.
pub record SpellsList (x : Setting) (modules : Bool) (start : ℕ) (spots : List Spot) (t : Tree) : Type 0 where
  pub reads : ReadsList modules x.syntax start spots t
  pub clean : early_errors x.syntax t ≡ []
  pub within : nesting t ≤ x.limit

-- What is answered of a list, and the faults that are recorded, by the trees that are derived from it and those that spell it.
abbrev pub ListAnswered : Setting → Bool → ℕ → List Spot → {X : Type 0} → (X → Tree) → ℕ → Result X Error → List Error → Type 0
ListAnswered x modules start spots view left result recorded = NewAnswer x (ReadsList modules x.syntax start spots) (SpellsList x modules start spots) view left result recorded

module _ {I : Type 0} (state : I → Source (List Spot)) where
  -- A new parser of a list in the order of its places, which has recorded no fault, answers by the trees that are derived from the list: what an entry promises is so much.
  abbrev pub ListsAnswered : {X : Type 0} → (X → Tree) → Type 0
  ListsAnswered {X} view = (modules : Bool) (e : Entries (Parser (Rewinding I))) → e.started ≡ false → InOrder (source_in state e).settings.start (seen (source_in state e).tokens)
      → (left : ℕ) (result : Result X Error) (recorded : List Error) → Promised list_machine state view modules e left result [] recorded
      → ListAnswered (record { syntax = syntax_in state e; limit = limit_in e }) modules (source_in state e).settings.start (source_in state e).tokens view left result recorded

  -- So does a parser over what `TokensInput::new` made of a list, by what that promises.
  abbrev pub NewListAnswered : {X : Type 0} → (X → Tree) → Type 0
  NewListAnswered {X} view = (modules : Bool) (spots : List Spot) (ctx : Context) (syntax : Syntax) (target : EsVersion) (e : Entries (Parser (Rewinding I))) → e.started ≡ false
      → source_in state e ≡ list_in spots ctx syntax target → InOrder (start_of spots) (seen spots)
      → (left : ℕ) (result : Result X Error) (recorded : List Error) → Promised list_machine state view modules e left result [] recorded
      → ListAnswered (record { syntax = parts_of syntax; limit = limit_in e }) modules (start_of spots) spots view left result recorded
