-- The entry of programs answers the tree that is chosen.
use Rattle.std.proofs.Common.{◌≡◌, ◌⊎◌, ◌+◌, ℕ, Bool, true, false, List, [], Result, Ok, Err, inl, inr, refl, sym, ap, ◌∙◌, subst}
use Rattle.std.specs.Str.{chars}
use Rattle.base_token.specs.declared.error.Error.{Error}
use Rattle.base_token.specs.declared.error.SyntaxError.TheVariants as kinds
use Rattle.base_token.specs.declared.version.EsVersion.TheVariants.{EsNext}
use Rattle.base_token.specs.declared.syntax.EsSyntax.{EsSyntax}
use Rattle.base_token.specs.Dialect.{parts_of}
use Rattle.base_token.specs.Tokens.{Spot}
use Rattle.lex_source.specs.Machine as tokens
use Rattle.lex_source.specs.Machine.{Source}
use Rattle.lex_other_sources.specs.Lists.{list_machine}
use Rattle.lex_pieces.specs.Places.{bytes}
use Rattle.tree_spec.specs.Tree.{Tree}
use Rattle.grammar_spec.specs.Tokens.Input.{PlacedToken}
use Rattle.grammar_spec.specs.Judge.Early.{early_errors}
use Rattle.grammar_laws.specs.CompleteBase.Laws.{InOrder}
use Rattle.grammar_spec.specs.Reader.Source.{Fault, Unexpected, TooDeep, Stream}
use Rattle.lex_step_laws.specs.States.{State, at_start_of}
use Rattle.parse_lexer_laws.specs.Machine.{lexer_machine}
use Rattle.grammar_text_spec.specs.Text.{Setting, Reads, TreeSpells, code_of, text_start}
use Rattle.grammar_text_spec.specs.Choice.{tells_module}
use Rattle.parse_state.specs.Cursors.{told_of, stream_of}
use Rattle.parse_source_laws.specs.Sources.{HandsOut}
use Rattle.parse_state.specs.declared.parser.Parser.{Parser}
use Rattle.ecma_parser.specs.Passed.{program_within}
use Rattle.ecma_parser.specs.Answers.{Parses}
use Rattle.ecma_parser.specs.Choice.{IsMeant, NotMeant, Chooses}
use Rattle.ecma_parser.specs.Entries.{syntax_in, limit_in, opened}
use Rattle.lex_other_sources.specs.declared.rewinding.Rewinding.{Rewinding}
use Rattle.ecma_parser.specs.declared.entries.Entries.{Entries}
use Rattle.parse_laws.specs.Answered.{SpelledBy, NewAnswer, front_of}
use Rattle.parse_laws.specs.Exact.{read_within}
use Rattle.parse_laws.specs.Settled.{SettledBy, Settled}
use Rattle.parse_laws.proofs.SettledLemmas.{first_settled}
use Rattle.parse_laws.specs.Judged.{JudgedBy, Judged}
use Rattle.parse_laws.specs.ListRead.{seen, ReadsList}
use Rattle.parse_laws.specs.Lists.{SpellsList}
use Rattle.parse_laws.specs.Chosen.{NoModule, Chosen, ChosenAnswer, PromisedChoice, TextsChosen, NewChosen, ListChosen, ListsChosen, NewListChosen, ReadsSource, SpellsSource, InOrderBoth, SourcesChosen}
use Rattle.parse_laws.proofs.AnsweredLemmas.{Joins, new_answer, first_read, read_first}
use Rattle.parse_laws.proofs.TextLemmas.{text_joins, text_first, chars_start}
use Rattle.parse_laws.proofs.ListAnswers.{list_joins, list_first}
use Rattle.parse_laws.proofs.Passes.{no_tree}
use Rattle.parse_laws.proofs.ParsedLemmas.{tree_of}

module _ (x : Setting) (Reads Spells : Bool → Tree → Type 0) (j : (modules : Bool) → Joins x (Reads modules) (Spells modules)) (modules scripts : Result Tree Fault)
    (read : Judged (Reads true) x.limit modules) (other : Judged (Reads false) x.limit scripts) where
  -- what tells that it is a module, and is spelled as one, is the module that is meant
  meant : (t : Tree) → Spells true t → tells_module t ≡ true → IsMeant x.syntax modules t
  meant t s k = (read.found t ((j true).reads t s) ((j true).within t s), (j true).clean t s, k)

  spelled_of : (r : Result Tree Fault) (t : Tree) → JudgedBy (Reads true) x.limit r → r ≡ Ok t → early_errors x.syntax t ≡ [] → Spells true t
  spelled_of (Ok u) t h e c = subst (λ (z : Tree). Spells true z) (tree_of u t e) ((j true).spells u h.reads (ap (λ (z : Tree). early_errors x.syntax z) (tree_of u t e) ∙ c) h.within)
  spelled_of (Err f) t h e c = absurd (no_tree e)

  -- and what is meant is spelled as a module
  spelled : (t : Tree) → IsMeant x.syntax modules t → Spells true t
  spelled t h = spelled_of modules t read.read h.0 h.1

  none : NotMeant x.syntax modules → NoModule Spells
  none n u s k = n u (meant u s k)

  one_meant : (t u : Tree) → IsMeant x.syntax modules t → IsMeant x.syntax modules u → t ≡ u
  one_meant t u h k = tree_of t u (sym h.0 ∙ k.0)

  -- the answer is that of the script
  module _ (left : ℕ) (result : Result Tree Error) (recorded : List Error) (n : NotMeant x.syntax modules) (p : Parses (λ u. u) x.syntax left result scripts [] recorded) where
    of_script : NewAnswer x (Reads false) (Spells false) (λ u. u) left result recorded
    of_script = new_answer x (Reads false) (Spells false) (j false) (λ u. u) left result recorded scripts other p

    is_chosen : (t : Tree) → Spells false t → Chosen Spells t
    is_chosen t s = inr (none n, s)

    is_script : (t : Tree) → Chosen Spells t → Spells false t
    is_script t (inl h) = absurd (none n t h.0 h.1)
    is_script t (inr h) = h.1

  script_spelled : (left : ℕ) (result : Result Tree Error) (recorded : List Error) (t : Tree) (n : NotMeant x.syntax modules) → Parses (λ u. u) x.syntax left result scripts [] recorded
      → SpelledBy (Spells false) (λ u. u) result recorded t → SpelledBy (Chosen Spells) (λ u. u) result recorded t
  script_spelled left (Ok u) recorded t n p h = (λ i. is_chosen left (Ok u) recorded n p t (h.0 i), λ c. h.1 (is_script left (Ok u) recorded n p t c))
  script_spelled left (Err e) recorded t n p h = λ c. h (is_script left (Err e) recorded n p t c)

  as_script : (left : ℕ) (result : Result Tree Error) (recorded : List Error) → NotMeant x.syntax modules → Parses (λ u. u) x.syntax left result scripts [] recorded → ChosenAnswer x Reads Spells (Chosen Spells) left result recorded
  as_script left result recorded n p = record {
    chosen = λ t. script_spelled left result recorded t n p ((of_script left result recorded n p).spells t);
    answer = inr (none n, (of_script left result recorded n p).answer);
  }

  as_module : (left : ℕ) (u : Tree) (recorded : List Error) → IsMeant x.syntax modules u → recorded ≡ [] → ChosenAnswer x Reads Spells (Chosen Spells) left (Ok u) recorded
  as_module left u recorded h e = record {
    chosen = λ t. (λ i. subst (λ (z : Tree). Chosen Spells z) i.0 (inl (spelled u h, h.2)), λ c. (by_choice t c, e));
    answer = inl (spelled u h, h.2, e);
  }
    where
      by_choice : (t : Tree) → Chosen Spells t → u ≡ t
      by_choice t (inl c) = one_meant u t h (meant t c.0 c.1)
      by_choice t (inr c) = absurd (c.0 u (spelled u h) h.2)

  in_memory : (left : ℕ) (e : Error) (recorded : List Error) → recorded ≡ [] → e.kind ≡ kinds.Memory → ChosenAnswer x Reads Spells (Chosen Spells) left (Err e) recorded
  in_memory left e recorded i k = record { chosen = λ t c n. n k; answer = inl (k, i) }

  pub chosen_answer : (left : ℕ) (result : Result Tree Error) (recorded : List Error) → Chooses x.syntax left result modules scripts [] recorded → ChosenAnswer x Reads Spells (Chosen Spells) left result recorded
  chosen_answer left (Ok t) recorded (inl h) = as_module left t recorded h.0 h.1
  chosen_answer left (Ok t) recorded (inr h) = as_script left (Ok t) recorded h.0 h.1
  chosen_answer left (Err e) recorded h = by_kind h.1
    where
      by_kind : (e.kind ≡ kinds.Memory) ⊎ (NotMeant x.syntax modules × Parses (λ u. u) x.syntax left (Err e) scripts [] recorded) → ChosenAnswer x Reads Spells (Chosen Spells) left (Err e) recorded
      by_kind (inl k) = in_memory left e recorded h.0 k
      by_kind (inr k) = as_script left (Err e) recorded k.0 k.1

-- ---- from the first token on

module _ {I S : Type 0} (m : tokens.Machine S) (state : I → Source S) (e : Entries (Parser (Rewinding I))) (left : ℕ) (result : Result Tree Error) (recorded : List Error) where
  -- a parser that read no token chooses by what is read from the first on
  pub choice_first : e.started ≡ false → (z : Source S) → state e.reading.input.input ≡ z → PromisedChoice m state e left result [] recorded
      → Chooses (parts_of z.settings.syntax) left result (first_read m state true e z) (first_read m state false e z) [] recorded
  choice_first h z source p = subst (λ (y : Source S). Chooses (parts_of y.settings.syntax) left result (first_read m state true e z) (first_read m state false e z) [] recorded) source
      (subst (λ (r : Result Tree Fault). Chooses syntax left result (first_read m state true e z) r [] recorded) (read_first m state false e h z source)
      (subst (λ (r : Result Tree Fault). Chooses syntax left result r (read false) [] recorded) (read_first m state true e h z source) p))
    where
      syntax : EsSyntax
      syntax = syntax_in state e

      read : Bool → Result Tree Fault
      read modules = program_within (stream_of m) (limit_in e) modules (code_of modules syntax) (opened m state (code_of modules syntax).context e)

pub texts_chosen : {I : Type 0} (state : I → State) → TextsChosen state
texts_chosen state syntax target text e h source left result recorded p =
    let x : Setting = record { syntax = parts_of syntax; limit = limit_in e } in
    let start : State = at_start_of syntax target text_start text (text_start + bytes text) in
    chosen_answer x (λ modules t. Reads modules x.syntax t text) (λ modules t. TreeSpells x modules t text) (λ modules. text_joins x modules text)
    (first_read lexer_machine state true e start) (first_read lexer_machine state false e start) (text_first state true syntax target text e) (text_first state false syntax target text e)
    left result recorded (choice_first lexer_machine state e left result recorded h start source p)

pub new_chosen : {I : Type 0} (state : I → State) → NewChosen state
new_chosen state syntax text e u h source left result recorded p = texts_chosen state syntax EsNext (chars text) e h (chars_start state syntax text e u source) left result recorded p

pub lists_chosen : {I : Type 0} (state : I → Source (List Spot)) → ListsChosen state
lists_chosen state e h o left result recorded p =
    let z : Source (List Spot) = state e.reading.input.input in
    let x : Setting = record { syntax = syntax_in state e; limit = limit_in e } in
    let start : ℕ = z.settings.start in
    chosen_answer x (λ modules t. ReadsList modules x.syntax start z.tokens t) (λ modules t. SpellsList x modules start z.tokens t) (λ modules. list_joins x modules start z.tokens)
    (first_read list_machine state true e z) (first_read list_machine state false e z) (list_first state true e z o) (list_first state false e z o)
    left result recorded (choice_first list_machine state e left result recorded h z refl p)

pub new_list_chosen : {I : Type 0} (state : I → Source (List Spot)) → NewListChosen state
new_list_chosen state spots ctx syntax target e h source o left result recorded p =
    subst (λ (z : Source (List Spot)). InOrder z.settings.start (seen z.tokens) → ListChosen (record { syntax = parts_of z.settings.syntax; limit = limit_in e }) z.settings.start z.tokens left result recorded) source
    (λ i. lists_chosen state e h i left result recorded p) o

-- ---- of any source

module _ {S : Type 0} (m : Stream S) (limit : ℕ) (modules : Bool) (syntax : EsSyntax) (s : S) (order : (ps : List PlacedToken) → HandsOut m ps s → InOrder (m.last s) ps) where
  source_by : (r : Result Tree Fault) → SettledBy m limit modules syntax s r → JudgedBy (ReadsSource m modules syntax s) limit r
  source_by (Ok t) h = record { reads = (h.places, h.handed, order h.places h.handed, h.derived); within = h.within; only = λ u d. h.only false d.0 u d.1 d.2 d.3 }
  source_by (Err (Unexpected n)) h = λ u d. h false d.0 u d.1 d.2 d.3
  source_by (Err (TooDeep n)) h = λ u d. h false d.0 u d.1 d.2 d.3

  source_judged : Settled m limit modules syntax s → Judged (ReadsSource m modules syntax s) limit (read_within m limit modules syntax s)
  source_judged h = record { read = source_by (read_within m limit modules syntax s) h.read; found = λ t d i. h.found false d.0 t d.1 d.2 d.3 i }

source_joins : {S : Type 0} (m : Stream S) (x : Setting) (modules : Bool) (s : S) → Joins x (ReadsSource m modules x.syntax s) (SpellsSource m x modules s)
source_joins m x modules s = record {
  spells = λ t r c w. record { reads = r; clean = c; within = w };
  reads = λ t h. h.reads;
  clean = λ t h. h.clean;
  within = λ t h. h.within;
}

module _ {I S : Type 0} (m : tokens.Machine S) (state : I → Source S) (Good : Bool → Source S → Type 0) (Same : Source S → Source S → Type 0) where
  source_first : (modules : Bool) (e : Entries (Parser (Rewinding I))) → InOrderBoth m state Good Same e
      → Judged (ReadsSource (stream_of m) modules (syntax_in state e) (front_of m state modules e)) (limit_in e) (first_read m state modules e (state e.reading.input.input))
  unfolding stream_of
  source_first modules e w = let syntax = syntax_in state e in let told = told_of (code_of modules syntax).context (state e.reading.input.input) in
      source_judged (stream_of m) (limit_in e) modules syntax (front_of m state modules e) (w.order modules) (first_settled m (Good modules) Same modules (w.constant modules) (limit_in e) syntax told told.settings.start (w.good modules))

  pub sources_chosen : SourcesChosen m state Good Same
  sources_chosen e h w left result recorded p =
      let z : Source S = state e.reading.input.input in
      let x : Setting = record { syntax = syntax_in state e; limit = limit_in e } in
      chosen_answer x (λ modules t. ReadsSource (stream_of m) modules x.syntax (front_of m state modules e) t) (λ modules t. SpellsSource (stream_of m) x modules (front_of m state modules e) t)
      (λ modules. source_joins (stream_of m) x modules (front_of m state modules e))
      (first_read m state true e z) (first_read m state false e z) (source_first true e w) (source_first false e w)
      left result recorded (choice_first m state e left result recorded h z refl p)
