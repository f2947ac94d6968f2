-- What a new parser of a text answers, by the trees that spell the text: the statements of the law.
use Rattle.std.specs.Prelude.{◌≡◌, ◌+◌, ℕ, Bool, false, List, [], length, Result}
use Rattle.std.specs.Str.{chars, IsUtf8}
use Rattle.base_token.specs.declared.error.Error.{Error}
use Rattle.base_token.specs.declared.syntax.Syntax.{Syntax}
use Rattle.base_token.specs.declared.version.EsVersion.{EsVersion}
use Rattle.base_token.specs.declared.version.EsVersion.TheVariants.{EsNext}
use Rattle.base_token.specs.Dialect.{parts_of}
use Rattle.lex_pieces.specs.Places.{bytes}
use Rattle.tree_spec.specs.Tree.{Tree}
use Rattle.lex_step_laws.specs.States.{State, at_start_of}
use Rattle.parse_lexer_laws.specs.Machine.{lexer_machine}
use Rattle.grammar_text_spec.specs.Text.{Setting, Reads, TreeSpells, text_start}
use Rattle.parse_state.specs.declared.failure.Failure.{Failure}
use Rattle.parse_state.specs.declared.parser.Parser.{Parser}
use Rattle.ecma_parser.specs.Answers.{ReadsProgram}
use Rattle.ecma_parser.specs.Entries.{source_in, limit_in}
use Rattle.lex_other_sources.specs.declared.rewinding.Rewinding.{Rewinding}
use Rattle.ecma_parser.specs.declared.entries.Entries.{Entries}
use Rattle.parse_laws.specs.TextRead.{TextBy, read_text}
use Rattle.parse_laws.specs.Answered.{NewAnswer, Promised, PromisedReading, ReadBy}

-- What is answered of a text, and the faults that are recorded, by the trees that read it and those that spell it.
abbrev pub TextAnswered : Setting → Bool → List ℕ → {X : Type 0} → (X → Tree) → ℕ → Result X Error → List Error → Type 0
TextAnswered x modules text view left result recorded = NewAnswer x (λ t. Reads modules x.syntax t text) (λ t. TreeSpells x modules t text) view left result recorded

-- The same of an answer that is a tree or a failure.
abbrev pub TextReading : Setting → Bool → List ℕ → {X : Type 0} → (X → Tree) → ℕ → Result X Failure → List Error → Type 0
TextReading x modules text view left result recorded = ReadBy (TextBy modules x.syntax text x.limit) view x.syntax left result [] recorded

-- The same by what reading the text comes to: its tree is answered, and its early errors are recorded; or a failure is, too deep where that is what it comes to, and a fault
-- where a token is unexpected, with as many tokens to come.
abbrev pub TextOutcome : Syntax → ℕ → Bool → List ℕ → {X : Type 0} → (X → Tree) → ℕ → Result X Failure → List Error → Type 0
TextOutcome syntax limit modules text view left result recorded = ReadsProgram view (parts_of syntax) left result (read_text modules syntax limit text) [] recorded

module _ {I : Type 0} (state : I → State) where
  -- A new parser of a text, which has recorded no fault, answers by the trees that read the text: what an entry promises is so much.
  abbrev pub TextsAnswered : {X : Type 0} → (X → Tree) → Type 0
  TextsAnswered {X} view = (modules : Bool) (syntax : Syntax) (target : EsVersion) (text : List ℕ) (e : Entries (Parser (Rewinding I))) → e.started ≡ false
      → source_in state e ≡ at_start_of syntax target text_start text (text_start + bytes text)
      → (left : ℕ) (result : Result X Error) (recorded : List Error) → Promised lexer_machine state view modules e left result [] recorded
      → TextAnswered (record { syntax = parts_of syntax; limit = limit_in e }) modules text view left result recorded

  -- So does a parser that `Entries::new` made of a text, by what that promises.
  abbrev pub NewAnswered : {X : Type 0} → (X → Tree) → Type 0
  NewAnswered {X} view = (modules : Bool) (syntax : Syntax) (text : List ℕ) (e : Entries (Parser (Rewinding I))) → IsUtf8 text → e.started ≡ false
      → source_in state e ≡ at_start_of syntax EsNext 1 (chars text) (1 + length text)
      → (left : ℕ) (result : Result X Error) (recorded : List Error) → Promised lexer_machine state view modules e left result [] recorded
      → TextAnswered (record { syntax = parts_of syntax; limit = limit_in e }) modules (chars text) view left result recorded

  -- So does, by its failure, what `read_script` or `read_module` answers of such a parser.
  abbrev pub NewReading : {X : Type 0} → (X → Tree) → Type 0
  NewReading {X} view = (modules : Bool) (syntax : Syntax) (text : List ℕ) (e : Entries (Parser (Rewinding I))) → IsUtf8 text → e.started ≡ false
      → source_in state e ≡ at_start_of syntax EsNext 1 (chars text) (1 + length text)
      → (left : ℕ) (result : Result X Failure) (recorded : List Error) → PromisedReading lexer_machine state view modules e left result [] recorded
      → TextReading (record { syntax = parts_of syntax; limit = limit_in e }) modules (chars text) view left result recorded

  -- And it is what reading the text comes to.
  abbrev pub NewOutcome : {X : Type 0} → (X → Tree) → Type 0
  NewOutcome {X} view = (modules : Bool) (syntax : Syntax) (text : List ℕ) (e : Entries (Parser (Rewinding I))) → IsUtf8 text → e.started ≡ false
      → source_in state e ≡ at_start_of syntax EsNext 1 (chars text) (1 + length text)
      → (left : ℕ) (result : Result X Failure) (recorded : List Error) → PromisedReading lexer_machine state view modules e left result [] recorded
      → TextOutcome syntax (limit_in e) modules (chars text) view left result recorded
