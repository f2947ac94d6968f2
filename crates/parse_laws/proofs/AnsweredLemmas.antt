-- What an entry answers of a reading that the grammar settles.
use Rattle.std.proofs.Common.{◌≡◌, ℕ, ◌≤◌, Bool, true, false, List, [], if◌then◌else◌, Result, Ok, Err, refl, sym, ap, ◌∙◌, subst}
use Rattle.base_token.specs.declared.context.Context.{Context}
use Rattle.base_token.specs.declared.error.Error.{Error}
use Rattle.base_token.specs.declared.syntax.EsSyntax.{EsSyntax}
use Rattle.base_token.specs.Dialect.{parts_of}
use Rattle.lex_source.specs.Machine as tokens
use Rattle.lex_source.specs.Machine.{Source}
use Rattle.tree_spec.specs.Tree.{Tree}
use Rattle.tree_nesting.specs.Nesting.{nesting}
use Rattle.grammar_spec.specs.Tokens.Input.{Code}
use Rattle.grammar_spec.specs.Judge.Early.{early_errors}
use Rattle.grammar_spec.specs.Reader.Source.{Fault, Stream, State}
use Rattle.grammar_text_spec.specs.Text.{Setting, code_of}
use Rattle.parse_state.specs.Cursors.{Cursor, told_of, stream_of}
use Rattle.parse_state.specs.declared.failure.Failure.{Failure}
use Rattle.parse_state.specs.declared.failure.Failure.TheVariants as failures
use Rattle.parse_state.specs.declared.parser.Parser.{Parser}
use Rattle.ecma_parser.specs.Passed.{program_within}
use Rattle.parse_laws.specs.Exact.{read_within}
use Rattle.parse_laws.specs.Settled.{SettledBy, Settled}
use Rattle.parse_laws.specs.Judged.{Each, JudgedBy, Judged}
use Rattle.parse_laws.proofs.SettledLemmas.{first_settled}
use Rattle.ecma_parser.specs.Answers.{Parses, ReadsProgram}
use Rattle.ecma_parser.specs.Entries.{source_in, syntax_in, limit_in, first_of, opened, opened_by, waiting}
use Rattle.lex_other_sources.specs.Rewinding.{back_in}
use Rattle.lex_other_sources.specs.declared.rewinding.Rewinding.{Rewinding}
use Rattle.ecma_parser.specs.declared.entries.Entries.{Entries}
use Rattle.parse_laws.specs.Answered.{AnsweredBy, ReadBy, Comes, SpelledBy, NewAnswer, Answered, EntriesAnswer}
use Rattle.parse_laws.proofs.Passes.{no_tree}
use Rattle.parse_laws.proofs.ParsedLemmas.{tree_of}

-- what is read is answered
pub comes_by : {X : Type 0} (view : X → Tree) (syntax : EsSyntax) (old new : List Error) (left : ℕ) (result : Result X Error) (x : Result Tree Fault) (t : Tree) → x ≡ Ok t → Parses view syntax left result x old new → Comes view t result
comes_by view syntax old new left (Ok u) x t e p = tree_of (view u) t (sym p.0 ∙ e)
comes_by view syntax old new left (Err f) x t e p = λ n. no_tree (sym (p.0.fault n (λ d. no_tree (sym (p.0.deep d) ∙ e))) ∙ e)

-- what holds of the answer of a reading is told by what is answered
pub answered_by : {X : Type 0} (By : Result Tree Fault → Type 0) (view : X → Tree) (syntax : EsSyntax) (old new : List Error) (left : ℕ) (result : Result X Error) (x : Result Tree Fault) → By x → Parses view syntax left result x old new
    → AnsweredBy By view syntax left result old new
answered_by By view syntax old new left (Ok u) x h p = (subst (λ (y : Result Tree Fault). By y) p.0 h, p.1)
answered_by By view syntax old new left (Err e) x h p = (
  record {
    deep = λ i. subst (λ (y : Result Tree Fault). By y) (p.0.deep i) h;
    fault = λ i j. subst (λ (y : Result Tree Fault). By y) (p.0.fault i j) h;
  },
  p.1,
)

-- so it is by a failure
pub read_by : {X : Type 0} (By : Result Tree Fault → Type 0) (view : X → Tree) (syntax : EsSyntax) (old new : List Error) (left : ℕ) (result : Result X Failure) (x : Result Tree Fault) → By x → ReadsProgram view syntax left result x old new
    → ReadBy By view syntax left result old new
read_by By view syntax old new left (Ok u) x h p = (subst (λ (y : Result Tree Fault). By y) p.0 h, p.1)
read_by By view syntax old new left (Err failures.Memory) x h p = (tt, p.1)
read_by By view syntax old new left (Err failures.TooDeep) x h p = (subst (λ (y : Result Tree Fault). By y) p.0 h, p.1)
read_by By view syntax old new left (Err (failures.Syntax e)) x h p = (subst (λ (y : Result Tree Fault). By y) p.0 h, p.1)

-- ---- a new parser

-- A tree spells something where it reads it, lists no early error, and nests no deeper than the limit.
pub record Joins (x : Setting) (Reads Spells : Tree → Type 0) : Type 0 where
  pub spells : (t : Tree) → Reads t → early_errors x.syntax t ≡ [] → nesting t ≤ x.limit → Spells t
  pub reads : (t : Tree) → Spells t → Reads t
  pub clean : (t : Tree) → Spells t → early_errors x.syntax t ≡ []
  pub within : (t : Tree) → Spells t → nesting t ≤ x.limit

module _ (x : Setting) (Reads Spells : Tree → Type 0) (j : Joins x Reads Spells) {X : Type 0} (view : X → Tree) where
  abbrev AnswersOf : ℕ → Result X Error → List Error → Type 0
  AnswersOf left result recorded = AnsweredBy (JudgedBy Reads x.limit) view x.syntax left result [] recorded

  -- a tree that is answered and lists no early error is spelled
  clean_of : (left : ℕ) (u : X) (t : Tree) (recorded : List Error) → AnswersOf left (Ok u) recorded → (view u ≡ t) × (recorded ≡ []) → Spells t
  clean_of left u t recorded a h = subst (λ (z : Tree). Spells z) h.0 (j.spells (view u) a.0.reads (sym a.1 ∙ h.1) a.0.within)

  spelled_by : (left : ℕ) (result : Result X Error) (recorded : List Error) (t : Tree) → AnswersOf left result recorded → Each Reads (λ t. nesting t ≤ x.limit → Comes view t result) → SpelledBy Spells view result recorded t
  spelled_by left (Ok u) recorded t a f = (
    λ h. clean_of left u t recorded a h,
    λ s. let e : view u ≡ t = f t (j.reads t s) (j.within t s) in (e, a.1 ∙ (ap (λ (z : Tree). early_errors x.syntax z) e ∙ j.clean t s)),
  )
  spelled_by left (Err e) recorded t a f = λ s. f t (j.reads t s) (j.within t s)

  pub new_answer : (left : ℕ) (result : Result X Error) (recorded : List Error) (r : Result Tree Fault) → Judged Reads x.limit r → Parses view x.syntax left result r [] recorded → NewAnswer x Reads Spells view left result recorded
  new_answer left result recorded r h p = let a : AnswersOf left result recorded = answered_by (JudgedBy Reads x.limit) view x.syntax [] recorded left result r h.read p in
      let f : Each Reads (λ t. nesting t ≤ x.limit → Comes view t result) = λ t d i. comes_by view x.syntax [] recorded left result r t (h.found t d i) p in
      record { answer = a; found = f; spells = λ t. spelled_by left result recorded t a f }

-- ---- any parser on a good source

module _ {S : Type 0} (m : Stream S) (limit : ℕ) (modules : Bool) (syntax : EsSyntax) (s : S) {X : Type 0} (view : X → Tree) (old new : List Error) where
  answered : (left : ℕ) (result : Result X Error) → Settled m limit modules syntax s → Parses view syntax left result (read_within m limit modules syntax s) old new → Answered m limit modules syntax s view left result old new
  answered left result h p = record {
    answer = answered_by (SettledBy m limit modules syntax s) view syntax old new left result (read_within m limit modules syntax s) h.read p;
    found = λ placed ps t g o d i. comes_by view syntax old new left result (read_within m limit modules syntax s) t (h.found placed ps t g o d i) p;
  }

-- the code of a script is that of a script, and that of a module of a module
pub of_goal : (modules : Bool) (syntax : EsSyntax) → (code_of modules syntax).context.module_ ≡ modules
of_goal true syntax = refl
of_goal false syntax = refl

module _ {I S : Type 0} (m : tokens.Machine S) (state : I → Source S) where
  -- a parser that read no token opens in front of the first
  pub opened_first : (ctx : Context) (e : Entries (Parser (Rewinding I))) → e.started ≡ false → opened m state ctx e ≡ first_of m (told_of ctx (state e.reading.input.input))
  opened_first ctx e h = ap (λ (b : Bool). if b then opened_by m ctx e.reading.last.0 (back_in m state ctx e.reading.input) (waiting state ctx e) else first_of m (told_of ctx (source_in state e))) h

-- what an entry read that opened in front of the first token of this source
module _ {I S : Type 0} (m : tokens.Machine S) (state : I → Source S) (modules : Bool) (e : Entries (Parser (Rewinding I))) where
  abbrev pub first_read : Source S → Result Tree Fault
  first_read z = let code = code_of modules (parts_of z.settings.syntax) in program_within (stream_of m) (limit_in e) modules code (first_of m (told_of code.context z))

  -- so an entry of a parser that read no token did
  pub read_first : e.started ≡ false → (z : Source S) → state e.reading.input.input ≡ z
      → program_within (stream_of m) (limit_in e) modules (code_of modules (syntax_in state e)) (opened m state (code_of modules (syntax_in state e)).context e) ≡ first_read z
  read_first h z source = let code : Code = code_of modules (syntax_in state e) in
      ap (λ (s : State (Cursor S)). program_within (stream_of m) (limit_in e) modules code s) (opened_first m state code.context e h) ∙ ap (λ (y : Source S). first_read y) source

module _ {I S : Type 0} (m : tokens.Machine S) (state : I → Source S) (Good : Source S → Type 0) (Same : Source S → Source S → Type 0) where
  pub entries_answer : {X : Type 0} (view : X → Tree) → EntriesAnswer m state Good Same view
  entries_answer view modules w e h good left result old new p =
      let syntax : EsSyntax = syntax_in state e in
      let code : Code = code_of modules syntax in
      let told : Source S = told_of code.context (state e.reading.input.input) in
      let first : State (Cursor S) = first_of m told in
      let settled : Settled (stream_of m) (limit_in e) modules syntax first.source = first_settled m Good Same modules w (limit_in e) syntax told told.settings.start (w.good_told code.context (state e.reading.input.input) (of_goal modules syntax) good) in
      answered (stream_of m) (limit_in e) modules syntax first.source view old new left result settled
      (subst (λ (x : Result Tree Fault). Parses view syntax left result x old new) (read_first m state modules e h (state e.reading.input.input) refl) p)
