-- Each complete front is what an entry for a part of a program reads (`parse_alone`), within the limit.
use Rattle.std.specs.Prelude.{◌≡◌, ◌≤◌, ℕ, true, false, List, [], Ok}
use Rattle.tree_spec.specs.Tree.{Tree, list}
use Rattle.tree_nesting.specs.Nesting.{nesting}
use Rattle.grammar_spec.specs.Tokens.Input.{PlacedToken, Input, Code}
use Rattle.grammar_spec.specs.Tokens.Shape.{is_clean}
use Rattle.grammar_spec.specs.Reader.Source.{Read, list_stream}
use Rattle.grammar_laws.specs.CompleteBase.Laws.{InOrder}
use Rattle.parse_source_laws.specs.Ahead.{at_list}
use Rattle.parse_front_laws.specs.Complete.Laws.{input_at, IsComplete, Whatever, Expression, Binding, Key, Statement, ListItem, ModuleItem}
use Rattle.parse_front_laws.specs.Complete.Exact.{Stopped}
use Rattle.parse_front_laws.specs.Complete.Asyncs.{Worded}
use Rattle.parse_alone.specs.Parts.{expression_part, binding_part, key_part, parameters_part}
use Rattle.parse_alone.specs.Items.{statement_part, list_item_part, module_item_part}
use Rattle.parse_front_laws.specs.Parameters.{Parameters, ParametersStop}

-- What is derived from a complete front of such a list within the limit, with nothing of a cover, and meets this, is what is read.
abbrev pub AnswersWhere : (List PlacedToken → Type 0) → (Tree → Input → Type 0) → Read Input Tree → (Tree → Input → Input → Type 0) → ℕ → Type 0
AnswersWhere IsSuch Meets f P limit = (n : ℕ) (ps : List PlacedToken) (t : Tree) (r : Input) → IsSuch ps → InOrder n ps → P t (input_at n ps) r → IsComplete P n ps r.places → nesting t ≤ limit → is_clean t ≡ true → Meets t r
    → (commas : List ℕ) × (f (at_list n ps []) ≡ Ok (t, record { source = r; commas = commas }))

abbrev pub AnyList : List PlacedToken → Type 0
AnyList ps = Unit {0}

-- of parameters
abbrev pub ListStops : Code → Tree → Input → Type 0
ListStops c (list xs) r = ParametersStop c xs r
ListStops c _ r = Unit {0}

pub record EachIsAnsweredExactly (limit : ℕ) (c : Code) : Type 0 where
  pub expressions : (l : ℕ) → 1 ≤ l → l ≤ 2 → c.context.in_generator ≡ false → AnswersWhere Worded (Stopped l c) (expression_part list_stream l limit c) (Expression false l c) limit
  pub bindings : AnswersWhere AnyList Whatever (binding_part list_stream limit c) (Binding false c) limit
  pub keys : AnswersWhere AnyList Whatever (key_part list_stream limit c) (Key false c) limit
  pub parameters : c.context.in_generator ≡ false → c.context.in_async ≡ false → c.context.in_static_block ≡ false → AnswersWhere Worded (ListStops c) (parameters_part list_stream limit c) (Parameters false c) limit
  pub statements : AnswersWhere AnyList Whatever (statement_part list_stream limit c) (Statement false c) limit
  pub list_items : AnswersWhere AnyList Whatever (list_item_part list_stream limit c) (ListItem false c) limit
  pub module_items : AnswersWhere AnyList Whatever (module_item_part list_stream limit c) (ModuleItem false c) limit

abbrev pub FrontsAreAnsweredExactly : Type 0
FrontsAreAnsweredExactly = (limit : ℕ) (c : Code) → EachIsAnsweredExactly limit c
