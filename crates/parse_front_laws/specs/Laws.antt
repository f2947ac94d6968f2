-- What is read of a part of a program that stands alone (`parse_alone`) is a complete front of a list in order, and such a front is read.
use Rattle.std.specs.Prelude.{◌≡◌, ◌≤◌, ℕ, Bool, true, false, List, [], Ok}
use Rattle.base_token.specs.declared.syntax.EsSyntax.{EsSyntax}
use Rattle.tree_spec.specs.Tree.{Tree}
use Rattle.tree_nesting.specs.Nesting.{nesting}
use Rattle.grammar_spec.specs.Tokens.Input.{PlacedToken, Input, Code, module_code}
use Rattle.grammar_spec.specs.Tokens.Shape.{ends, is_clean, last_of}
use Rattle.grammar_spec.specs.Reader.Source.{State, Read, list_stream}
use Rattle.grammar_laws.specs.CompleteBase.Laws.{InOrder, Follow}
use Rattle.parse_source_laws.specs.Ahead.{Named, at_list}
use Rattle.parse_front_laws.specs.Complete.Laws.{input_at, IsComplete, Expression, Binding, Key, Statement, ListItem, ModuleItem, Whatever, Apart}
use Rattle.parse_alone.specs.Ends.{async_end, heads_arrow}
use Rattle.parse_alone.specs.Parts.{expression_part, binding_part, key_part, parameters_part}
use Rattle.parse_alone.specs.Items.{statement_part, list_item_part, module_item_part}
use Rattle.parse_front_laws.specs.Parameters.{Parameters}

-- A tree is derived from a complete front; it nests no deeper than the limit, and nothing of a cover is left in it.
pub record IsFront (P Plain : Tree → Input → Input → Type 0) (limit n : ℕ) (ps : List PlacedToken) (t : Tree) (r : Input) : Type 0 where
  pub derived : Plain t (input_at n ps) r
  pub complete : IsComplete P n ps r.places
  pub within : nesting t ≤ limit
  pub clean : is_clean t ≡ true

abbrev pub ReadsFronts : (Tree → List PlacedToken → Type 0) → Read Input Tree → (Tree → Input → Input → Type 0) → (Tree → Input → Input → Type 0) → ℕ → Type 0
ReadsFronts Before f P Plain limit = (n : ℕ) (ps : List PlacedToken) (t : Tree) (r : State Input) → Named ps → InOrder n ps → f (at_list n ps []) ≡ Ok (t, r) → Before t r.source.places → IsFront P Plain limit n ps t r.source

abbrev pub Anywhere : Tree → List PlacedToken → Type 0
Anywhere t ps = Unit {0}

pub record EachIsFront (limit : ℕ) (placed : Bool) (c : Code) : Type 0 where
  pub expressions : (l : ℕ) → 1 ≤ l → l ≤ 2 → ReadsFronts Anywhere (expression_part list_stream l limit c) (Expression placed l c) (Expression false l c) limit
  pub bindings : ReadsFronts Anywhere (binding_part list_stream limit c) (Binding placed c) (Binding false c) limit
  pub keys : ReadsFronts Anywhere (key_part list_stream limit c) (Key placed c) (Key false c) limit
  pub parameters : ReadsFronts Anywhere (parameters_part list_stream limit c) (Parameters placed c) (Parameters false c) limit
  pub statements : ReadsFronts Anywhere (statement_part list_stream limit c) (Statement placed c) (Statement false c) limit
  pub list_items : ReadsFronts Anywhere (list_item_part list_stream limit c) (ListItem placed c) (ListItem false c) limit
  pub module_items : (syntax : EsSyntax) → c ≡ module_code syntax → ReadsFronts Anywhere (module_item_part list_stream limit c) (ModuleItem placed c) (ModuleItem false c) limit

abbrev pub PartsAreFronts : Type 0
PartsAreFronts = (limit : ℕ) (placed : Bool) (c : Code) → EachIsFront limit placed c

-- What is derived within the limit, with nothing of a cover, before such a rest, is what is read.
abbrev pub Answers : (Tree → Input → Type 0) → Read Input Tree → (Tree → Input → Input → Type 0) → ℕ → Type 0
Answers Before f P limit = (n : ℕ) (ps : List PlacedToken) (t : Tree) (r : Input) → InOrder n ps → P t (input_at n ps) r → nesting t ≤ limit → is_clean t ≡ true → Before t r → (commas : List ℕ) × (f (at_list n ps []) ≡ Ok (t, record { source = r; commas = commas }))

-- What the law of completeness asks of what follows an expression; and no name stands on the line of the word `async` that ends it.
pub record Goes (l : ℕ) (c : Code) (t : Tree) (r : Input) : Type 0 where
  pub follow : Follow c (ends t) l r
  pub alone : heads_arrow list_stream (async_end c (last_of t)) (record { source = r; commas = [] }) ≡ false

pub record EachIsAnswered (limit : ℕ) (placed : Bool) (c : Code) : Type 0 where
  pub expressions : (l : ℕ) → 1 ≤ l → l ≤ 2 → Answers (Goes l c) (expression_part list_stream l limit c) (Expression placed l c) limit
  pub bindings : Answers Whatever (binding_part list_stream limit c) (Binding placed c) limit
  pub keys : Answers Whatever (key_part list_stream limit c) (Key placed c) limit
  pub statements : Answers Apart (statement_part list_stream limit c) (Statement placed c) limit
  pub list_items : Answers Apart (list_item_part list_stream limit c) (ListItem placed c) limit
  pub module_items : Answers Apart (module_item_part list_stream limit c) (ModuleItem placed c) limit

abbrev pub FrontsAreAnswered : Type 0
FrontsAreAnswered = (limit : ℕ) (placed : Bool) (c : Code) → EachIsAnswered limit placed c
