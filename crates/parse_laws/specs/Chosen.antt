-- What a new parser answers where neither script nor module is said, by the tree that is chosen: the statements of the law.
use Rattle.std.specs.Prelude.{◌≡◌, ◌≤◌, ◌⊎◌, ◌+◌, ℕ, Bool, true, false, List, [], length, Result, Ok, Err}
use Rattle.std.specs.Str.{chars, IsUtf8}
use Rattle.base_token.specs.declared.context.Context.{Context}
use Rattle.base_token.specs.declared.error.Error.{Error}
use Rattle.base_token.specs.declared.error.SyntaxError.TheVariants as kinds
use Rattle.base_token.specs.declared.syntax.EsSyntax.{EsSyntax}
use Rattle.base_token.specs.declared.syntax.Syntax.{Syntax}
use Rattle.base_token.specs.declared.version.EsVersion.{EsVersion}
use Rattle.base_token.specs.declared.version.EsVersion.TheVariants.{EsNext}
use Rattle.base_token.specs.Dialect.{parts_of}
use Rattle.base_token.specs.Tokens.{Spot}
use Rattle.lex_source.specs.Machine as tokens
use Rattle.lex_source.specs.Machine.{Source}
use Rattle.lex_other_sources.specs.Lists.{list_machine, start_of, list_in}
use Rattle.lex_pieces.specs.Places.{bytes}
use Rattle.tree_spec.specs.Tree.{Tree}
use Rattle.tree_nesting.specs.Nesting.{nesting}
use Rattle.grammar_spec.specs.Tokens.Input.{PlacedToken}
use Rattle.grammar_spec.specs.Judge.Early.{early_errors}
use Rattle.grammar_laws.specs.CompleteBase.Laws.{InOrder}
use Rattle.grammar_spec.specs.Reader.Source.{Fault, Stream}
use Rattle.lex_step_laws.specs.States.{State, at_start_of}
use Rattle.parse_lexer_laws.specs.Machine.{lexer_machine}
use Rattle.grammar_text_spec.specs.Text.{Setting, Reads, TreeSpells, code_of, text_start}
use Rattle.grammar_text_spec.specs.Choice.{tells_module, TreeChosen}
use Rattle.parse_state.specs.Cursors.{told_of, stream_of}
use Rattle.parse_state.specs.declared.parser.Parser.{Parser}
use Rattle.ecma_parser.specs.Passed.{program_within}
use Rattle.ecma_parser.specs.Choice.{Chooses}
use Rattle.ecma_parser.specs.Entries.{source_in, syntax_in, limit_in, opened}
use Rattle.lex_other_sources.specs.declared.rewinding.Rewinding.{Rewinding}
use Rattle.ecma_parser.specs.declared.entries.Entries.{Entries}
use Rattle.parse_source_laws.specs.Sources.{HandsOut}
use Rattle.parse_lexer_laws.specs.Constant.{Constant}
use Rattle.parse_laws.specs.Parsed.{DerivesList}
use Rattle.parse_laws.specs.Answered.{AnsweredBy, SpelledBy, front_of}
use Rattle.parse_laws.specs.Judged.{JudgedBy}
use Rattle.parse_laws.specs.ListRead.{seen, ReadsList}
use Rattle.parse_laws.specs.Lists.{SpellsList}

-- ---- as a module that tells that it is one, else as a script

module _ (Spells : Bool → Tree → Type 0) where
  -- No module is meant: none that is spelled tells that it is one.
  abbrev pub NoModule : Type 0
  NoModule = (u : Tree) → Spells true u → tells_module u ≡ true → ⊥

  -- The tree is a module that tells it; or none is, and it is a script.
  abbrev pub Chosen : Tree → Type 0
  Chosen t = (Spells true t × (tells_module t ≡ true)) ⊎ (NoModule × Spells false t)

-- the module that is chosen, with no fault recorded; or want of memory
abbrev pub AnswersModule : (Bool → Tree → Type 0) → Result Tree Error → List Error → Type 0
AnswersModule Spells (Ok t) recorded = Spells true t × (tells_module t ≡ true) × (recorded ≡ [])
AnswersModule Spells (Err e) recorded = (e.kind ≡ kinds.Memory) × (recorded ≡ [])

-- What is answered, and the faults that are recorded. Exactly the tree that is chosen is answered with no fault recorded, but for want of memory. Where no module is meant, the
-- answer is that of the script: the only tree that reads it, and its early errors; or a fault, only where none of any nesting does, and too deep only where each that does nests deeper.
pub record ChosenAnswer (x : Setting) (Reads Spells : Bool → Tree → Type 0) (IsChosen : Tree → Type 0) (left : ℕ) (result : Result Tree Error) (recorded : List Error) : Type 0 where
  pub chosen : (t : Tree) → SpelledBy IsChosen (λ u. u) result recorded t
  pub answer : AnswersModule Spells result recorded ⊎ (NoModule Spells × AnsweredBy (JudgedBy (Reads false) x.limit) (λ u. u) x.syntax left result [] recorded)

-- ---- what is promised

-- What the entry of programs promises of its answer and of the faults before and after it, where as many tokens may come as are left.
abbrev pub PromisedChoice : {I S : Type 0} → tokens.Machine S → (I → Source S) → Entries (Parser (Rewinding I)) → ℕ → Result Tree Error → List Error → List Error → Type 0
PromisedChoice m state e left result old new = let syntax = syntax_in state e in
    let read : Bool → Result Tree Fault = λ modules. program_within (stream_of m) (limit_in e) modules (code_of modules syntax) (opened m state (code_of modules syntax).context e) in
    Chooses syntax left result (read true) (read false) old new

-- ---- of a text

-- the tree that is chosen of a text is answered
abbrev pub TextChosen : Setting → List ℕ → ℕ → Result Tree Error → List Error → Type 0
TextChosen x text left result recorded = ChosenAnswer x (λ modules t. Reads modules x.syntax t text) (λ modules t. TreeSpells x modules t text) (λ t. TreeChosen x t text) left result recorded

module _ {I : Type 0} (state : I → State) where
  -- A new parser of a text answers the tree that is chosen: what the entry of programs promises is so much.
  abbrev pub TextsChosen : Type 0
  TextsChosen = (syntax : Syntax) (target : EsVersion) (text : List ℕ) (e : Entries (Parser (Rewinding I))) → e.started ≡ false
      → source_in state e ≡ at_start_of syntax target text_start text (text_start + bytes text)
      → (left : ℕ) (result : Result Tree Error) (recorded : List Error) → PromisedChoice lexer_machine state e left result [] recorded
      → TextChosen (record { syntax = parts_of syntax; limit = limit_in e }) text left result recorded

  -- So does a parser that `Entries::new` made of a text, by what that promises.
  abbrev pub NewChosen : Type 0
  NewChosen = (syntax : Syntax) (text : List ℕ) (e : Entries (Parser (Rewinding I))) → IsUtf8 text → e.started ≡ false
      → source_in state e ≡ at_start_of syntax EsNext 1 (chars text) (1 + length text)
      → (left : ℕ) (result : Result Tree Error) (recorded : List Error) → PromisedChoice lexer_machine state e left result [] recorded
      → TextChosen (record { syntax = parts_of syntax; limit = limit_in e }) (chars text) left result recorded

-- ---- of a list

-- the tree that is chosen of a list is answered
abbrev pub ListChosen : Setting → ℕ → List Spot → ℕ → Result Tree Error → List Error → Type 0
ListChosen x start spots left result recorded = let spells : Bool → Tree → Type 0 = λ modules t. SpellsList x modules start spots t in
    ChosenAnswer x (λ modules t. ReadsList modules x.syntax start spots t) spells (Chosen spells) left result recorded

module _ {I : Type 0} (state : I → Source (List Spot)) where
  -- A new parser of a list in the order of its places answers the tree that is chosen: what the entry of programs promises is so much.
  abbrev pub ListsChosen : Type 0
  ListsChosen = (e : Entries (Parser (Rewinding I))) → e.started ≡ false → InOrder (source_in state e).settings.start (seen (source_in state e).tokens)
      → (left : ℕ) (result : Result Tree Error) (recorded : List Error) → PromisedChoice list_machine state e left result [] recorded
      → ListChosen (record { syntax = syntax_in state e; limit = limit_in e }) (source_in state e).settings.start (source_in state e).tokens left result recorded

  -- So does a parser over what `TokensInput::new` made of a list, by what that promises.
  abbrev pub NewListChosen : Type 0
  NewListChosen = (spots : List Spot) (ctx : Context) (syntax : Syntax) (target : EsVersion) (e : Entries (Parser (Rewinding I))) → e.started ≡ false
      → source_in state e ≡ list_in spots ctx syntax target → InOrder (start_of spots) (seen spots)
      → (left : ℕ) (result : Result Tree Error) (recorded : List Error) → PromisedChoice list_machine state e left result [] recorded
      → ListChosen (record { syntax = parts_of syntax; limit = limit_in e }) (start_of spots) spots left result recorded

-- ---- of any source

-- A tree is derived from tokens that the source hands out, in the order of their places, as a script or a module.
abbrev pub ReadsSource : {S : Type 0} → Stream S → Bool → EsSyntax → S → Tree → Type 0
ReadsSource m modules syntax s t = (ps : List PlacedToken) × HandsOut m ps s × InOrder (m.last s) ps × DerivesList false modules syntax (m.last s) ps t

-- A tree spells what a source hands out: it is derived from that, no early error is listed, and it goes no deeper than the limit.
pub record SpellsSource {S : Type 0} (m : Stream S) (x : Setting) (modules : Bool) (s : S) (t : Tree) : Type 0 where
  pub reads : ReadsSource m modules x.syntax s t
  pub clean : early_errors x.syntax t ≡ []
  pub within : nesting t ≤ x.limit

module _ {I S : Type 0} (m : tokens.Machine S) (state : I → Source S) where
  -- Told the code of a script, or of a module, the source is a good one of these, and hands out its tokens in the order of their places.
  pub record InOrderBoth (Good : Bool → Source S → Type 0) (Same : Source S → Source S → Type 0) (e : Entries (Parser (Rewinding I))) : Type 0 where
    pub constant : (modules : Bool) → Constant m (Good modules) Same modules
    pub good : (modules : Bool) → Good modules (told_of (code_of modules (syntax_in state e)).context (source_in state e))
    pub order : (modules : Bool) (ps : List PlacedToken) → HandsOut (stream_of m) ps (front_of m state modules e) → InOrder (source_in state e).settings.start ps

  -- the tree that is chosen of what the source hands out is answered
  abbrev pub SourceChosen : Entries (Parser (Rewinding I)) → ℕ → Result Tree Error → List Error → Type 0
  SourceChosen e left result recorded = let x : Setting = record { syntax = syntax_in state e; limit = limit_in e } in
      let spells : Bool → Tree → Type 0 = λ modules t. SpellsSource (stream_of m) x modules (front_of m state modules e) t in
      ChosenAnswer x (λ modules t. ReadsSource (stream_of m) modules x.syntax (front_of m state modules e) t) spells (Chosen spells) left result recorded

  -- A parser that read no token yet, on such a source, answers the tree that is chosen: what the entry of programs promises is so much.
  abbrev pub SourcesChosen : (Bool → Source S → Type 0) → (Source S → Source S → Type 0) → Type 0
  SourcesChosen Good Same = (e : Entries (Parser (Rewinding I))) → e.started ≡ false → InOrderBoth Good Same e
      → (left : ℕ) (result : Result Tree Error) (recorded : List Error) → PromisedChoice m state e left result [] recorded → SourceChosen e left result recorded
