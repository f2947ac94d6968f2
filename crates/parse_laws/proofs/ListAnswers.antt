-- What an entry answers of a list of tokens.
use Rattle.std.proofs.Common.{ℕ, Bool, List, [], Result, refl, subst}
use Rattle.base_token.specs.Tokens.{Spot}
use Rattle.base_token.specs.Dialect.{parts_of}
use Rattle.lex_source.specs.Machine.{Source}
use Rattle.lex_other_sources.specs.Lists.{list_machine}
use Rattle.tree_spec.specs.Tree.{Tree}
use Rattle.grammar_spec.specs.Reader.Source.{Fault}
use Rattle.grammar_laws.specs.CompleteBase.Laws.{InOrder}
use Rattle.grammar_text_spec.specs.Text.{Setting, code_of}
use Rattle.parse_state.specs.Cursors.{told_of}
use Rattle.parse_state.specs.declared.parser.Parser.{Parser}
use Rattle.ecma_parser.specs.Answers.{Parses}
use Rattle.ecma_parser.specs.Entries.{syntax_in, limit_in}
use Rattle.lex_other_sources.specs.declared.rewinding.Rewinding.{Rewinding}
use Rattle.ecma_parser.specs.declared.entries.Entries.{Entries}
use Rattle.parse_laws.specs.ListRead.{seen, ReadsList, ListSettled}
use Rattle.parse_laws.specs.Lists.{SpellsList, ListAnswered, ListsAnswered, NewListAnswered}
use Rattle.parse_laws.proofs.ListLemmas.{lists_settled}
use Rattle.parse_laws.proofs.AnsweredLemmas.{Joins, new_answer, first_read, read_first}

pub list_joins : (x : Setting) (modules : Bool) (start : ℕ) (spots : List Spot) → Joins x (ReadsList modules x.syntax start spots) (SpellsList x modules start spots)
list_joins x modules start spots = record {
  spells = λ t r c w. record { reads = r; clean = c; within = w };
  reads = λ t s. s.reads;
  clean = λ t s. s.clean;
  within = λ t s. s.within;
}

-- what is read from the first token of a list on
pub list_first : {I : Type 0} (state : I → Source (List Spot)) (modules : Bool) (e : Entries (Parser (Rewinding I))) (z : Source (List Spot)) → InOrder z.settings.start (seen z.tokens)
    → ListSettled modules (parts_of z.settings.syntax) z.settings.start z.tokens (limit_in e) (first_read list_machine state modules e z)
list_first state modules e z o = let x = parts_of z.settings.syntax in
    lists_settled (limit_in e) modules x z.settings.start z.tokens (told_of (code_of modules x).context z).settings o

pub lists_answered : {I : Type 0} (state : I → Source (List Spot)) {X : Type 0} (view : X → Tree) → ListsAnswered state view
lists_answered state view modules e h o left result recorded p =
    let z : Source (List Spot) = state e.reading.input.input in
    let x : Setting = record { syntax = syntax_in state e; limit = limit_in e } in
    let start : ℕ = z.settings.start in
    new_answer x (ReadsList modules x.syntax start z.tokens) (SpellsList x modules start z.tokens) (list_joins x modules start z.tokens) view left result recorded (first_read list_machine state modules e z)
    (list_first state modules e z o)
    (subst (λ (r : Result Tree Fault). Parses view x.syntax left result r [] recorded) (read_first list_machine state modules e h z refl) p)

pub new_list_answered : {I : Type 0} (state : I → Source (List Spot)) {X : Type 0} (view : X → Tree) → NewListAnswered state view
new_list_answered state view modules spots ctx syntax target e h source o left result recorded p =
    subst (λ (z : Source (List Spot)). InOrder z.settings.start (seen z.tokens)
    → ListAnswered (record { syntax = parts_of z.settings.syntax; limit = limit_in e }) modules z.settings.start z.tokens view left result recorded) source
    (λ i. lists_answered state view modules e h i left result recorded p) o
