-- Each complete front is read.
use Rattle.std.specs.Prelude.{◌≡◌, ◌≤◌, ◌<◌, ℕ, true, false, List, [], Ok, if◌then◌else◌}
use Rattle.base_token.specs.Kinds.{plus_plus_kind, minus_minus_kind}
use Rattle.tree_spec.specs.Tree.{Tree}
use Rattle.tree_nesting.specs.Nesting.{nesting}
use Rattle.grammar_spec.specs.Tokens.Input.{PlacedToken, Input, Code, kind, alone, in_list}
use Rattle.grammar_spec.specs.Tokens.Operators.{between, goes_expr}
use Rattle.grammar_spec.specs.Tokens.Shape.{ends}
use Rattle.grammar_spec.specs.Reader.Source.{Read, list_stream}
use Rattle.grammar_spec.specs.Reader.Expressions.{key_by}
use Rattle.grammar_spec.specs.Reader.Modules.{item_by}
use Rattle.grammar_spec.specs.Reader.Reading.{readers}
use Rattle.grammar_laws.specs.CompleteBase.Laws.{InOrder}
use Rattle.parse_source_laws.specs.Ahead.{at_list}
use Rattle.parse_front_laws.specs.Complete.Laws.{input_at, IsComplete, Whatever, Expression, Binding, Key, Statement, ListItem, ModuleItem}

-- What is derived from a complete front of a list in order, and meets this, is read of it, at every depth of at least its nesting.
abbrev pub IsReadWhere : (Tree → Input → Type 0) → (ℕ → Read Input Tree) → (Tree → Input → Input → Type 0) → Type 0
IsReadWhere Meets f P = (depth n : ℕ) (ps : List PlacedToken) (t : Tree) (r : Input) → nesting t ≤ depth → InOrder n ps → P t (input_at n ps) r → IsComplete P n ps r.places → Meets t r
    → (commas : List ℕ) × (f depth (at_list n ps []) ≡ Ok (t, record { source = r; commas = commas }))

-- The table of semicolons after an expression, whatever line break stands there: `++` and `--` are not in it.
abbrev pub goes_after : Code → ℕ → Input → ℕ
goes_after c e r = if between plus_plus_kind minus_minus_kind (kind r) then 0 else goes_expr c e r

-- By it nothing goes on with an expression at a level.
abbrev pub Stopped : ℕ → Code → Tree → Input → Type 0
Stopped l c t r = goes_after c (ends t) r < l

-- So it is of each part of a program; of expressions outside generators, where no bare `yield` ends one.
pub record EachIsExact (c : Code) : Type 0 where
  pub expressions : (l : ℕ) → 1 ≤ l → l ≤ 2 → c.context.in_generator ≡ false → IsReadWhere (Stopped l c) (λ d s. (readers list_stream d).expr c l s) (Expression false l c)
  pub bindings : IsReadWhere Whatever (λ d s. (readers list_stream d).pat c s) (Binding false c)
  pub keys : IsReadWhere Whatever (λ d s. key_by list_stream (readers list_stream d) c s) (Key false c)
  pub statements : IsReadWhere Whatever (λ d s. (readers list_stream d).stmt (alone c) s) (Statement false c)
  pub list_items : IsReadWhere Whatever (λ d s. (readers list_stream d).stmt (in_list c) s) (ListItem false c)
  pub module_items : IsReadWhere Whatever (λ d s. item_by list_stream (readers list_stream d) true (in_list c) s) (ModuleItem false c)

abbrev pub FrontsAreExact : Type 0
FrontsAreExact = (c : Code) → EachIsExact c
