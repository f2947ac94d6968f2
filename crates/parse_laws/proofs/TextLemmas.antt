-- What an entry answers of a text.
use Rattle.std.proofs.Common.{◌≡◌, ◌+◌, ℕ, Bool, List, [], length, chars, Result, sym, ap, ◌∙◌, subst}
use Rattle.std.specs.Str.{IsUtf8}
use Rattle.std.proofs.lemmas.Str.{encodes-chars}
use Rattle.base_token.specs.declared.syntax.Syntax.{Syntax}
use Rattle.base_token.specs.declared.version.EsVersion.{EsVersion}
use Rattle.base_token.specs.declared.version.EsVersion.TheVariants.{EsNext}
use Rattle.base_token.specs.Dialect.{parts_of}
use Rattle.lex_pieces.specs.Places.{bytes}
use Rattle.tree_spec.specs.Tree.{Tree}
use Rattle.grammar_spec.specs.Reader.Source.{Fault}
use Rattle.lex_step_laws.specs.States.{State, at_start_of}
use Rattle.parse_lexer_laws.specs.Machine.{lexer_machine}
use Rattle.grammar_text_spec.specs.Text.{Setting, Reads, TreeSpells, code_of, text_start}
use Rattle.parse_state.specs.Cursors.{told_of}
use Rattle.parse_state.specs.declared.parser.Parser.{Parser}
use Rattle.parse_lexer_laws.proofs.Hands.{new_at_start}
use Rattle.parse_laws.specs.TextRead.{TextBy, TextSettled, ReadingSettled, read_text}
use Rattle.parse_laws.proofs.TextReadLemmas.{texts_settled}
use Rattle.ecma_parser.specs.Answers.{Parses, ReadsProgram}
use Rattle.ecma_parser.specs.Entries.{limit_in}
use Rattle.lex_other_sources.specs.declared.rewinding.Rewinding.{Rewinding}
use Rattle.ecma_parser.specs.declared.entries.Entries.{Entries}
use Rattle.parse_laws.specs.Texts.{TextsAnswered, NewAnswered, NewReading, NewOutcome}
use Rattle.parse_laws.proofs.AnsweredLemmas.{Joins, new_answer, read_by, first_read, read_first, of_goal}

pub text_joins : (x : Setting) (modules : Bool) (text : List ℕ) → Joins x (λ t. Reads modules x.syntax t text) (λ t. TreeSpells x modules t text)
text_joins x modules text = record {
  spells = λ t r c w. record { reads = r; clean = c; within = w };
  reads = λ t s. s.reads;
  clean = λ t s. s.clean;
  within = λ t s. s.within;
}

-- what is read from the first token of a text on
pub text_first : {I : Type 0} (state : I → State) (modules : Bool) (syntax : Syntax) (target : EsVersion) (text : List ℕ) (e : Entries (Parser (Rewinding I)))
    → TextSettled modules (parts_of syntax) text (limit_in e) (first_read lexer_machine state modules e (at_start_of syntax target text_start text (text_start + bytes text)))
text_first state modules syntax target text e = let x = parts_of syntax in let ctx = (code_of modules x).context in
    texts_settled (limit_in e) modules x text (told_of ctx (at_start_of syntax target text_start text (text_start + bytes text))) (new_at_start syntax target text_start modules text ctx (of_goal modules x))

pub texts_answered : {I : Type 0} (state : I → State) {X : Type 0} (view : X → Tree) → TextsAnswered state view
texts_answered state view modules syntax target text e h source left result recorded p =
    let x : Setting = record { syntax = parts_of syntax; limit = limit_in e } in
    let start : State = at_start_of syntax target text_start text (text_start + bytes text) in
    new_answer x (λ t. Reads modules x.syntax t text) (λ t. TreeSpells x modules t text) (text_joins x modules text) view left result recorded (first_read lexer_machine state modules e start)
    (text_first state modules syntax target text e)
    (subst (λ (z : State). Parses view (parts_of z.settings.syntax) left result (first_read lexer_machine state modules e start) [] recorded) source
    (subst (λ (r : Result Tree Fault). Parses view (parts_of (state e.reading.input.input).settings.syntax) left result r [] recorded) (read_first lexer_machine state modules e h start source) p))

-- a text takes as many bytes as its characters
pub chars_start : {I : Type 0} (state : I → State) (syntax : Syntax) (text : List ℕ) (e : Entries (Parser (Rewinding I))) → IsUtf8 text → state e.reading.input.input ≡ at_start_of syntax EsNext 1 (chars text) (1 + length text)
    → state e.reading.input.input ≡ at_start_of syntax EsNext text_start (chars text) (text_start + bytes (chars text))
chars_start state syntax text e u source = source ∙ ap (λ (n : ℕ). at_start_of syntax EsNext 1 (chars text) (1 + n)) (sym (ap (λ (z : List ℕ). length z) (encodes-chars text u)))

pub new_answered : {I : Type 0} (state : I → State) {X : Type 0} (view : X → Tree) → NewAnswered state view
new_answered state view modules syntax text e u h source left result recorded p = texts_answered state view modules syntax EsNext (chars text) e h (chars_start state syntax text e u source) left result recorded p

-- what is read from the start of a text on is settled by the text
pub reading_settled : ReadingSettled
unfolding read_text
reading_settled limit modules syntax text = let x = parts_of syntax in let ctx = (code_of modules x).context in
    texts_settled limit modules x text (told_of ctx (at_start_of syntax EsNext text_start text (text_start + bytes text))) (new_at_start syntax EsNext text_start modules text ctx (of_goal modules x))

-- and so much is what a new parser answers
pub new_outcome : {I : Type 0} (state : I → State) {X : Type 0} (view : X → Tree) → NewOutcome state view
unfolding read_text
new_outcome state view modules syntax text e u h source left result recorded p =
    let start : State = at_start_of syntax EsNext text_start (chars text) (text_start + bytes (chars text)) in
    let at : state e.reading.input.input ≡ start = chars_start state syntax text e u source in
    subst (λ (z : State). ReadsProgram view (parts_of z.settings.syntax) left result (first_read lexer_machine state modules e start) [] recorded) at
    (subst (λ (r : Result Tree Fault). ReadsProgram view (parts_of (state e.reading.input.input).settings.syntax) left result r [] recorded) (read_first lexer_machine state modules e h start at) p)

pub new_reading : {I : Type 0} (state : I → State) {X : Type 0} (view : X → Tree) → NewReading state view
new_reading state view modules syntax text e u h source left result recorded p =
    read_by (TextBy modules (parts_of syntax) (chars text) (limit_in e)) view (parts_of syntax) [] recorded left result (read_text modules syntax (limit_in e) (chars text))
    (reading_settled (limit_in e) modules syntax (chars text)).read (new_outcome state view modules syntax text e u h source left result recorded p)
