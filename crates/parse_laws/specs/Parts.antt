-- What an entry for a part of a program answers, by the complete fronts of the tokens that a source hands out: the statements of the law.
use Rattle.std.specs.Prelude.{◌≡◌, ◌≢◌, ◌≤◌, ◌<◌, ◌+◌, ◌++◌, ℕ, Bool, true, false, List, length, Result, Ok, Err}
use Rattle.std.specs.Str.{chars, IsUtf8}
use Rattle.base_token.specs.declared.context.Context.{Context}
use Rattle.base_token.specs.declared.error.Error.{Error}
use Rattle.base_token.specs.declared.error.SyntaxError.TheVariants as kinds
use Rattle.base_token.specs.declared.syntax.Syntax.{Syntax}
use Rattle.base_token.specs.declared.version.EsVersion.{EsVersion}
use Rattle.base_token.specs.declared.version.EsVersion.TheVariants.{EsNext}
use Rattle.base_token.specs.Tokens.{Spot}
use Rattle.lex_source.specs.Machine as tokens
use Rattle.lex_source.specs.Machine.{Source}
use Rattle.lex_other_sources.specs.Lists.{list_machine, start_of, list_in}
use Rattle.lex_other_sources.specs.declared.rewinding.Rewinding.{Rewinding}
use Rattle.lex_pieces.specs.Places.{bytes}
use Rattle.lex_step_laws.specs.States.{State as Lexer, at_start_of}
use Rattle.tree_spec.specs.Tree.{Tree}
use Rattle.tree_nesting.specs.Nesting.{nesting}
use Rattle.grammar_spec.specs.Tokens.Input.{PlacedToken, Input, Code}
use Rattle.grammar_spec.specs.Tokens.Shape.{is_clean}
use Rattle.grammar_spec.specs.Reader.Source.{Stream, State, Read, retold}
use Rattle.grammar_laws.specs.CompleteBase.Laws.{InOrder}
use Rattle.grammar_text_spec.specs.Text.{code_of, text_start}
use Rattle.parse_state.specs.Cursors.{Cursor, stream_of}
use Rattle.parse_state.specs.declared.parser.Parser.{Parser}
use Rattle.parse_source_laws.specs.Sources.{HandsOut}
use Rattle.parse_front_laws.specs.Parts.{expression_part, binding_part, key_part, parameters_part}
use Rattle.parse_front_laws.specs.Items.{statement_part, list_item_part, module_item_part}
use Rattle.parse_front_laws.specs.Complete.Laws.{input_at, IsComplete, Whatever, Expression, Binding, Key, Statement, ListItem, ModuleItem}
use Rattle.parse_front_laws.specs.Complete.Exact.{Stopped}
use Rattle.parse_front_laws.specs.Laws.{IsFront}
use Rattle.parse_front_laws.specs.Exact.{ListStops}
use Rattle.parse_front_laws.specs.Parameters.{Parameters}
use Rattle.parse_lexer_laws.specs.Constant.{Constant, Before}
use Rattle.parse_lexer_laws.specs.Lexed.{OfGoal}
use Rattle.parse_lexer_laws.specs.Machine.{lexer_machine}
use Rattle.parse_lexer_laws.specs.WordKinds.{ComesOfKind, AreOfKinds, TellsKinds}
use Rattle.parse_lexer_laws.specs.Order.{InFront, FaultsHaveCharacters}
use Rattle.ecma_parser.specs.Entries.{source_in, syntax_in, limit_in, opened}
use Rattle.ecma_parser.specs.Parts.{ParsesPart}
use Rattle.ecma_parser.specs.declared.entries.Entries.{Entries}
use Rattle.parse_laws.specs.ListRead.{seen}

-- ---- complete fronts of what a source hands out, of which something is asked (`Sound`)

module _ {S : Type 0} (m : Stream S) (Sound : List PlacedToken → Type 0) (P : Tree → Input → Input → Type 0) (limit : ℕ) (s : S) where
  -- The source hands out a front from here on, and what is left from the state `r` on. Of sound tokens the tree is derived from the front, which is complete; it nests no deeper
  -- than the limit, and nothing of a cover is left in it.
  pub record IsFrontOf (r : S) (t : Tree) : Type 0 where
    pub front : List PlacedToken
    pub rest : List PlacedToken
    pub handed : HandsOut m (front ++ rest) s
    pub left : HandsOut m rest r
    pub is : Sound (front ++ rest) → IsFront P P limit (m.last s) (front ++ rest) t (input_at (m.last r) rest)

  -- A tree is derived from a complete front of sound tokens that the source hands out, up to a rest, and nothing of a cover is left in it.
  pub record HasFront (Meets : Tree → Input → Type 0) (t : Tree) (r : Input) : Type 0 where
    pub places : List PlacedToken
    pub handed : HandsOut m places s
    pub sound : Sound places
    pub derived : P t (input_at (m.last s) places) r
    pub complete : IsComplete P (m.last s) places r.places
    pub clean : is_clean t ≡ true
    pub meets : Meets t r

  -- What is answered is derived from a complete front, the parser stands behind it, and the faults of the tree come behind those that were recorded. No other tree within the
  -- limit has a front.
  pub record PartRead (Meets : Tree → Input → Type 0) (faults : Tree → List Error) (ctx : Context) (t : Tree) (stood : State S) (old new : List Error) : Type 0 where
    pub behind : State S
    pub stands : stood ≡ retold m ctx behind
    pub front : IsFrontOf behind.source t
    pub recorded : new ≡ old ++ faults t
    pub only : (u : Tree) (r : Input) → HasFront Meets u r → nesting u ≤ limit → (u ≡ t) × (m.last behind.source ≡ r.last) × HandsOut m r.places behind.source

  -- So it is of a tree that is answered. A fault that is not want of memory is answered only where each tree that has a front nests deeper than the limit, and none is recorded.
  abbrev pub PartAnswered : (Tree → Input → Type 0) → {X : Type 0} → (X → Tree) → (Tree → List Error) → Context → Result X Error → State S → List Error → List Error → Type 0
  PartAnswered Meets view faults ctx (Ok x) stood old new = PartRead Meets faults ctx (view x) stood old new
  PartAnswered Meets view faults ctx (Err e) stood old new = (new ≡ old) × (e.kind ≢ kinds.Memory → (t : Tree) (r : Input) → HasFront Meets t r → limit < nesting t)

-- ---- entries

module _ {I S : Type 0} (m : tokens.Machine S) (state : I → Source S) {X : Type 0} (view : X → Tree) where
  -- in front of what an entry reads: as in a script, or as in a module
  abbrev pub reads_at : Bool → Entries (Parser (Rewinding I)) → Cursor S
  reads_at modules e = (opened m state (code_of modules (syntax_in state e)).context e).source

  -- What an entry promises of a part (`read`) says so much of the production (`P`): where what goes on is met.
  abbrev pub EntryAnswers : (List PlacedToken → Type 0) → Bool → Entries (Parser (Rewinding I)) → (ℕ → Code → Read (Cursor S) Tree) → (Code → Tree → Input → Input → Type 0) → (Code → Tree → Input → Type 0) → Type 0
  EntryAnswers Sound modules e read P Meets = let code = code_of modules (syntax_in state e) in
      (faults : Tree → List Error) (ctx : Context) (result : Result X Error) (stood : State (Cursor S)) (old new : List Error)
      → ParsesPart (stream_of m) ctx view faults result (read (limit_in e) code (opened m state code.context e)) stood old new
      → PartAnswered (stream_of m) Sound (P code) (limit_in e) (reads_at modules e) (Meets code) view faults ctx result stood old new

  -- So it is of the parts of a script: expressions of a level, where by the table of semicolons nothing goes on with them; bindings; keys; parameters, where nothing goes on with
  -- an initialiser that ends them; statements, and items of lists of these.
  pub record ScriptPartsAnswer (Sound : List PlacedToken → Type 0) (e : Entries (Parser (Rewinding I))) : Type 0 where
    pub expressions : (l : ℕ) → 1 ≤ l → l ≤ 2 → EntryAnswers Sound false e (expression_part (stream_of m) l) (λ c. Expression false l c) (λ c. Stopped l c)
    pub bindings : EntryAnswers Sound false e (binding_part (stream_of m)) (λ c. Binding false c) (λ c. Whatever)
    pub keys : EntryAnswers Sound false e (key_part (stream_of m)) (λ c. Key false c) (λ c. Whatever)
    pub parameters : EntryAnswers Sound false e (parameters_part (stream_of m)) (λ c. Parameters false c) (λ c. ListStops c)
    pub statements : EntryAnswers Sound false e (statement_part (stream_of m)) (λ c. Statement false c) (λ c. Whatever)
    pub list_items : EntryAnswers Sound false e (list_item_part (stream_of m)) (λ c. ListItem false c) (λ c. Whatever)

  -- and of an item of a module
  pub record ModulePartsAnswer (Sound : List PlacedToken → Type 0) (e : Entries (Parser (Rewinding I))) : Type 0 where
    pub module_items : EntryAnswers Sound true e (module_item_part (stream_of m)) (λ c. ModuleItem false c) (λ c. Whatever)

  abbrev pub PartsAnswer : (List PlacedToken → Type 0) → Bool → Entries (Parser (Rewinding I)) → Type 0
  PartsAnswer Sound false e = ScriptPartsAnswer Sound e
  PartsAnswer Sound true e = ModulePartsAnswer Sound e

  -- Any parser on a good source whose words are of their kinds answers so, of tokens in the order of their places.
  abbrev pub SourcePartsAnswer : (Good : Source S → Type 0) (Same : Source S → Source S → Type 0) → Type 0
  SourcePartsAnswer Good Same = (modules : Bool) → Constant m Good Same modules → TellsKinds m Good Same → (e : Entries (Parser (Rewinding I))) → Before Good (reads_at modules e) → ComesOfKind (reads_at modules e).first
      → PartsAnswer (λ ps. InOrder (reads_at modules e).last ps) modules e

-- ---- a text, through a lexer

module _ {I : Type 0} (state : I → Lexer) {X : Type 0} (view : X → Tree) where
  -- Any parser that stands in front of a lexer answers so, where the text doesn't end among the characters of a template.
  abbrev pub LexerPartsAnswer : Type 0
  LexerPartsAnswer = (modules : Bool) (e : Entries (Parser (Rewinding I))) → Before (OfGoal modules) (reads_at lexer_machine state view modules e) → ComesOfKind (reads_at lexer_machine state view modules e).first → InFront (reads_at lexer_machine state view modules e)
      → PartsAnswer lexer_machine state view FaultsHaveCharacters modules e

  -- So does a new parser of a text.
  abbrev pub TextPartsAnswer : Type 0
  TextPartsAnswer = (modules : Bool) (syntax : Syntax) (target : EsVersion) (text : List ℕ) (e : Entries (Parser (Rewinding I))) → e.started ≡ false
      → source_in state e ≡ at_start_of syntax target text_start text (text_start + bytes text) → PartsAnswer lexer_machine state view FaultsHaveCharacters modules e

  -- So does a parser that `Entries::new` made of a text, by what that promises.
  abbrev pub NewTextPartsAnswer : Type 0
  NewTextPartsAnswer = (modules : Bool) (syntax : Syntax) (text : List ℕ) (e : Entries (Parser (Rewinding I))) → IsUtf8 text → e.started ≡ false
      → source_in state e ≡ at_start_of syntax EsNext 1 (chars text) (1 + length text) → PartsAnswer lexer_machine state view FaultsHaveCharacters modules e

-- ---- a list of tokens

-- no more is asked of the tokens
abbrev pub AnyTokens : List PlacedToken → Type 0
AnyTokens ps = Unit {0}

module _ {I : Type 0} (state : I → Source (List Spot)) {X : Type 0} (view : X → Tree) where
  -- A new parser of a list in the order of its places, whose words are of their kinds, answers so.
  abbrev pub ListPartsAnswer : Type 0
  ListPartsAnswer = (modules : Bool) (e : Entries (Parser (Rewinding I))) → e.started ≡ false → InOrder (source_in state e).settings.start (seen (source_in state e).tokens) → AreOfKinds (seen (source_in state e).tokens)
      → PartsAnswer list_machine state view AnyTokens modules e

  -- So does a parser over what `TokensInput::new` made of a list, by what that promises.
  abbrev pub NewListPartsAnswer : Type 0
  NewListPartsAnswer = (modules : Bool) (spots : List Spot) (ctx : Context) (syntax : Syntax) (target : EsVersion) (e : Entries (Parser (Rewinding I))) → e.started ≡ false
      → source_in state e ≡ list_in spots ctx syntax target → InOrder (start_of spots) (seen spots) → AreOfKinds (seen spots) → PartsAnswer list_machine state view AnyTokens modules e
