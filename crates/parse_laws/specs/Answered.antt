-- What a parser that is new on a source of tokens answers, by the grammar alone: the statements of the law.
use Rattle.std.specs.Prelude.{◌≡◌, ◌≢◌, ◌≤◌, ◌++◌, ℕ, Bool, false, List, [], Result, Ok, Err}
use Rattle.base_token.specs.declared.error.Error.{Error}
use Rattle.base_token.specs.declared.error.SyntaxError.{SyntaxError}
use Rattle.base_token.specs.declared.error.SyntaxError.TheVariants as kinds
use Rattle.base_token.specs.declared.syntax.EsSyntax.{EsSyntax}
use Rattle.lex_source.specs.Machine as tokens
use Rattle.lex_source.specs.Machine.{Source}
use Rattle.tree_spec.specs.Tree.{Tree}
use Rattle.tree_nesting.specs.Nesting.{nesting}
use Rattle.grammar_spec.specs.Judge.Early.{early_errors}
use Rattle.grammar_spec.specs.Reader.Source.{Fault, Unexpected, TooDeep, Stream}
use Rattle.grammar_text_spec.specs.Text.{Setting, code_of}
use Rattle.parse_state.specs.Cursors.{Cursor, told_of, stream_of}
use Rattle.parse_state.specs.declared.failure.Failure.{Failure}
use Rattle.parse_state.specs.declared.failure.Failure.TheVariants as failures
use Rattle.parse_state.specs.declared.parser.Parser.{Parser}
use Rattle.ecma_parser.specs.Passed.{program_within}
use Rattle.parse_lexer_laws.specs.Constant.{Constant}
use Rattle.parse_laws.specs.Parsed.{EachDerived}
use Rattle.parse_laws.specs.Judged.{Each, JudgedBy}
use Rattle.parse_laws.specs.Settled.{SettledBy}
use Rattle.ecma_parser.specs.Answers.{Parses, ReadsProgram}
use Rattle.ecma_parser.specs.Entries.{syntax_in, limit_in, first_of, opened}
use Rattle.lex_other_sources.specs.declared.rewinding.Rewinding.{Rewinding}
use Rattle.ecma_parser.specs.declared.entries.Entries.{Entries}

-- This tree is answered, but for want of memory.
abbrev pub Comes : {X : Type 0} → (X → Tree) → Tree → Result X Error → Type 0
Comes view t (Ok x) = view x ≡ t
Comes view t (Err e) = e.kind ≢ kinds.Memory → ⊥

-- Where each answer of a reading tells something, so does a fault of its kind, found where so many tokens may come: TooDeep what reading too deep there tells,
-- any other but want of memory what an unexpected token there tells. Of want of memory nothing is said.
pub record Refused (By : Result Tree Fault → Type 0) (k : SyntaxError) (left : ℕ) : Type 0 where
  pub deep : k ≡ kinds.TooDeep → By (Err (TooDeep left))
  pub fault : k ≢ kinds.Memory → k ≢ kinds.TooDeep → By (Err (Unexpected left))

-- A tree is answered of which that holds, and its early errors come behind the faults that were recorded; or a fault is answered, and none is recorded.
abbrev pub AnsweredBy : {X : Type 0} → (Result Tree Fault → Type 0) → (X → Tree) → EsSyntax → ℕ → Result X Error → List Error → List Error → Type 0
AnsweredBy By view syntax left (Ok x) old new = By (Ok (view x)) × (new ≡ old ++ early_errors syntax (view x))
AnsweredBy By view syntax left (Err e) old new = Refused By e.kind left × (new ≡ old)

-- Where each answer of a reading tells something, so does a failure, found where so many tokens may come: TooDeep what reading too deep there tells, a fault
-- what an unexpected token there tells. Of want of memory nothing is said.
abbrev pub FailsBy : (Result Tree Fault → Type 0) → Failure → ℕ → Type 0
FailsBy By failures.Memory left = Unit {0}
FailsBy By failures.TooDeep left = By (Err (TooDeep left))
FailsBy By (failures.Syntax e) left = By (Err (Unexpected left))

-- The same of an answer that is a tree or a failure.
abbrev pub ReadBy : {X : Type 0} → (Result Tree Fault → Type 0) → (X → Tree) → EsSyntax → ℕ → Result X Failure → List Error → List Error → Type 0
ReadBy By view syntax left (Ok x) old new = By (Ok (view x)) × (new ≡ old ++ early_errors syntax (view x))
ReadBy By view syntax left (Err e) old new = FailsBy By e left × (new ≡ old)

-- A tree spells something exactly where it is answered and no fault is recorded, but for want of memory.
abbrev pub SpelledBy : (Tree → Type 0) → {X : Type 0} → (X → Tree) → Result X Error → List Error → Tree → Type 0
SpelledBy Spells view (Ok u) recorded t = ((view u ≡ t) × (recorded ≡ []) → Spells t) × (Spells t → (view u ≡ t) × (recorded ≡ []))
SpelledBy Spells view (Err e) recorded t = Spells t → e.kind ≢ kinds.Memory → ⊥

-- What a new parser answers, and the faults that are recorded. The tree is the only one that reads what was to be parsed, within the limit; a fault comes only where none of
-- any nesting does, and too deep only where each that does nests deeper.
pub record NewAnswer (x : Setting) (Reads Spells : Tree → Type 0) {X : Type 0} (view : X → Tree) (left : ℕ) (result : Result X Error) (recorded : List Error) : Type 0 where
  pub answer : AnsweredBy (JudgedBy Reads x.limit) view x.syntax left result [] recorded
  -- what reads it, within the limit, is answered
  pub found : Each Reads (λ t. nesting t ≤ x.limit → Comes view t result)
  pub spells : (t : Tree) → SpelledBy Spells view result recorded t

module _ {S : Type 0} (m : Stream S) (limit : ℕ) (modules : Bool) (syntax : EsSyntax) (s : S) {X : Type 0} (view : X → Tree) where
  -- An entry's answer, and the faults before and after it, by the grammar. The tree is the only one that is derived, within the limit; a fault comes only where
  -- none of any nesting is, and too deep only where each that is nests deeper.
  pub record Answered (left : ℕ) (result : Result X Error) (old new : List Error) : Type 0 where
    pub answer : AnsweredBy (SettledBy m limit modules syntax s) view syntax left result old new
    -- what is derived from tokens that the source hands out, within the limit, is answered
    pub found : EachDerived m modules syntax s (λ t. nesting t ≤ limit → Comes view t result)

module _ {I S : Type 0} (m : tokens.Machine S) (state : I → Source S) where
  -- in front of the first token of an entry's source, which was told the code of a script, or of a module
  abbrev pub front_of : Bool → Entries (Parser (Rewinding I)) → Cursor S
  front_of modules e = (first_of m (told_of (code_of modules (syntax_in state e)).context (state e.reading.input.input))).source

  -- What the entry of scripts promises, or that of modules, of its answer and of the faults before and after it, where as many tokens may come as are left.
  abbrev pub Promised : {X : Type 0} → (X → Tree) → Bool → Entries (Parser (Rewinding I)) → ℕ → Result X Error → List Error → List Error → Type 0
  Promised view modules e left result old new = let syntax = syntax_in state e in let code = code_of modules syntax in
      Parses view syntax left result (program_within (stream_of m) (limit_in e) modules code (opened m state code.context e)) old new

  -- The same of an entry that answers a failure.
  abbrev pub PromisedReading : {X : Type 0} → (X → Tree) → Bool → Entries (Parser (Rewinding I)) → ℕ → Result X Failure → List Error → List Error → Type 0
  PromisedReading view modules e left result old new = let syntax = syntax_in state e in let code = code_of modules syntax in
      ReadsProgram view syntax left result (program_within (stream_of m) (limit_in e) modules code (opened m state code.context e)) old new

  -- A parser that read no token yet, on a good source of tokens, answers by the grammar: what an entry promises is so much.
  abbrev pub EntriesAnswer : (Good : Source S → Type 0) (Same : Source S → Source S → Type 0) {X : Type 0} → (X → Tree) → Type 0
  EntriesAnswer Good Same {X} view = (modules : Bool) → Constant m Good Same modules → (e : Entries (Parser (Rewinding I))) → e.started ≡ false → Good (state e.reading.input.input)
      → (left : ℕ) (result : Result X Error) (old new : List Error) → Promised view modules e left result old new
      → Answered (stream_of m) (limit_in e) modules (syntax_in state e) (front_of modules e) view left result old new
