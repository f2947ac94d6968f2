-- What an entry for a part of a program reads of a source (`parse_alone`) is a complete front of what the source hands out, and such a front is read.
use Rattle.std.specs.Prelude.{◌≡◌, ◌≤◌, ℕ, Bool, true, false, List, [], ◌++◌, Result, Ok, Err}
use Rattle.base_token.specs.declared.syntax.EsSyntax.{EsSyntax}
use Rattle.tree_spec.specs.Tree.{Tree}
use Rattle.tree_nesting.specs.Nesting.{nesting}
use Rattle.grammar_spec.specs.Tokens.Input.{PlacedToken, Input, Code, module_code}
use Rattle.grammar_spec.specs.Tokens.Shape.{is_clean}
use Rattle.grammar_spec.specs.Reader.Source.{Fault, Stream, State}
use Rattle.grammar_laws.specs.CompleteBase.Laws.{InOrder}
use Rattle.parse_source_laws.specs.Sources.{HandsOut, Orderly}
use Rattle.parse_source_laws.specs.Laws.{from_source}
use Rattle.parse_source_laws.specs.Consumed.{Backward, Assigns, AssignsUnlessClosed, Unasked}
use Rattle.parse_source_laws.specs.Ahead.{Named}
use Rattle.parse_front_laws.specs.Complete.Laws.{input_at, IsComplete, Whatever, Expression, Binding, Key, Statement, ListItem, ModuleItem}
use Rattle.parse_front_laws.specs.Complete.Exact.{Stopped}
use Rattle.parse_front_laws.specs.Complete.Asyncs.{Worded}
use Rattle.parse_alone.specs.Parts.{expression_part, binding_part, key_part, parameters_part}
use Rattle.parse_alone.specs.Items.{statement_part, list_item_part, module_item_part}
use Rattle.parse_front_laws.specs.Parameters.{Parameters}
use Rattle.parse_front_laws.specs.Laws.{IsFront}
use Rattle.parse_front_laws.specs.Exact.{AnyList}

module _ {S : Type 0} (m : Stream S) (Live : S → Type 0) where
  -- A tree is derived from a complete front of lists that the source hands out: of each, in order, that goes on with one that it hands out behind, as is asked
  -- of that. It hands out such a list.
  pub record FrontRead (Asked : Tree → List PlacedToken → S → Type 0) (P Plain : Tree → Input → Input → Type 0) (limit : ℕ) (s : S) (t : Tree) (r : State S) : Type 0 where
    pub front : List PlacedToken
    pub rest : List PlacedToken
    pub handed : HandsOut m rest r.source
    pub asked : Asked t rest r.source
    pub each : (qs : List PlacedToken) → HandsOut m qs r.source → Asked t qs r.source → HandsOut m (front ++ qs) s
        × (Named (front ++ qs) → InOrder (m.last s) (front ++ qs) → IsFront P Plain limit (m.last s) (front ++ qs) t (input_at (m.last r.source) qs))

  abbrev pub ReadsFront : (Tree → List PlacedToken → S → Type 0) → (Tree → Input → Input → Type 0) → (Tree → Input → Input → Type 0) → ℕ → S → Result (Tree × State S) Fault → Type 0
  ReadsFront Asked P Plain limit s (Ok x) = FrontRead Asked P Plain limit s x.0 x.1
  ReadsFront Asked P Plain limit s (Err e) = Unit {0}

  -- What is derived from a complete front of such a list that the source hands out in order, within the limit, with nothing of a cover, and meets this, is
  -- answered, and the source then hands out the rest.
  abbrev pub AnswersFront : (List PlacedToken → Type 0) → (Tree → Input → Type 0) → (Tree → Input → Input → Type 0) → ℕ → S → Result (Tree × State S) Fault → Type 0
  AnswersFront IsSuch Meets P limit s x = (ps : List PlacedToken) (t : Tree) (r : Input) → HandsOut m ps s → IsSuch ps → InOrder (m.last s) ps → P t (input_at (m.last s) ps) r → IsComplete P (m.last s) ps r.places → nesting t ≤ limit → is_clean t ≡ true → Meets t r
      → (q : State S) × (x ≡ Ok (t, q)) × (m.last q.source ≡ r.last) × HandsOut m r.places q.source

  pub record EachReadsFront (limit : ℕ) (placed : Bool) (c : Code) (s : S) : Type 0 where
    pub expressions : (l : ℕ) → 1 ≤ l → l ≤ 2 → ReadsFront (AssignsUnlessClosed m) (Expression placed l c) (Expression false l c) limit s (expression_part m l limit c (from_source m Live s []))
    pub bindings : ReadsFront (Unasked m) (Binding placed c) (Binding false c) limit s (binding_part m limit c (from_source m Live s []))
    pub keys : ReadsFront (Unasked m) (Key placed c) (Key false c) limit s (key_part m limit c (from_source m Live s []))
    pub parameters : ReadsFront (Assigns m) (Parameters placed c) (Parameters false c) limit s (parameters_part m limit c (from_source m Live s []))
    pub statements : ReadsFront (Unasked m) (Statement placed c) (Statement false c) limit s (statement_part m limit c (from_source m Live s []))
    pub list_items : ReadsFront (Unasked m) (ListItem placed c) (ListItem false c) limit s (list_item_part m limit c (from_source m Live s []))
    pub module_items : (syntax : EsSyntax) → c ≡ module_code syntax → ReadsFront (Unasked m) (ModuleItem placed c) (ModuleItem false c) limit s (module_item_part m limit c (from_source m Live s []))

  pub record EachAnswersFront (limit : ℕ) (c : Code) (s : S) : Type 0 where
    pub expressions : (l : ℕ) → 1 ≤ l → l ≤ 2 → c.context.in_generator ≡ false → AnswersFront Worded (Stopped l c) (Expression false l c) limit s (expression_part m l limit c (from_source m Live s []))
    pub bindings : AnswersFront AnyList Whatever (Binding false c) limit s (binding_part m limit c (from_source m Live s []))
    pub keys : AnswersFront AnyList Whatever (Key false c) limit s (key_part m limit c (from_source m Live s []))
    pub statements : AnswersFront AnyList Whatever (Statement false c) limit s (statement_part m limit c (from_source m Live s []))
    pub list_items : AnswersFront AnyList Whatever (ListItem false c) limit s (list_item_part m limit c (from_source m Live s []))
    pub module_items : AnswersFront AnyList Whatever (ModuleItem false c) limit s (module_item_part m limit c (from_source m Live s []))

  abbrev pub SourceFrontsRead : Type 0
  SourceFrontsRead = (modules : Bool) → Orderly m Live modules → Backward m Live modules → (limit : ℕ) (placed : Bool) (c : Code) (s : S) → c.context.module_ ≡ modules → Live s → EachReadsFront limit placed c s

  abbrev pub SourceFrontsAnswered : Type 0
  SourceFrontsAnswered = (modules : Bool) → Orderly m Live modules → Backward m Live modules → (limit : ℕ) (c : Code) (s : S) → c.context.module_ ≡ modules → Live s → EachAnswersFront limit c s
