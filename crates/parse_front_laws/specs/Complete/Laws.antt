-- What is read of a part is a complete front: no longer front is derived of any list in order that begins with it and the next token.
use Rattle.std.specs.Prelude.{◌≡◌, ◌≤◌, ◌<◌, ℕ, Bool, true, false, ◌||◌, ◌==◌, List, [], ◌∷◌, ◌++◌, length, Ok}
use Rattle.base_token.specs.declared.syntax.EsSyntax.{EsSyntax}
use Rattle.base_token.specs.Kinds.{finally_kind, colon_kind}
use Rattle.tree_spec.specs.Tree.{Tree}
use Rattle.tree_nesting.specs.Nesting.{nesting}
use Rattle.grammar_spec.specs.Tokens.Input.{PlacedToken, Input, Code, kind, kind_of, break_of, alone, in_list, module_code}
use Rattle.grammar_spec.specs.Tokens.Operators.{goes_expr, may_name}
use Rattle.grammar_spec.specs.Tokens.Shape.{level, ends, is_binding, is_key, is_statement, is_item}
use Rattle.grammar_spec.specs.Children.{is_module_item}
use Rattle.grammar_spec.specs.Grammar.{Produces}
use Rattle.grammar_spec.specs.Reader.Source.{State, Read, list_stream}
use Rattle.grammar_spec.specs.Reader.Expressions.{key_by}
use Rattle.grammar_spec.specs.Reader.Modules.{item_by}
use Rattle.grammar_spec.specs.Reader.Reading.{readers}
use Rattle.grammar_laws.specs.CompleteBase.Laws.{coded, patterned, InOrder, Follow}
use Rattle.parse_source_laws.specs.Ahead.{ends_async, Named, at_list}

-- ---- complete fronts

abbrev pub input_at : ℕ → List PlacedToken → Input
input_at n ps = record { last = n; places = ps }

-- No list in order that begins with the front and this token has a longer front that the production derives.
abbrev pub EndsBefore : (Tree → Input → Input → Type 0) → ℕ → List PlacedToken → PlacedToken → Type 0
EndsBefore P n front q = (more : List PlacedToken) (t : Tree) (r : Input) → InOrder n (front ++ q ∷ more) → P t (input_at n (front ++ q ∷ more)) r → length more < length r.places

abbrev pub EndsAt : (Tree → Input → Input → Type 0) → ℕ → List PlacedToken → List PlacedToken → Type 0
EndsAt P n front [] = Unit {0}
EndsAt P n front (q ∷ ps) = EndsBefore P n front q

abbrev pub IsComplete : (Tree → Input → Input → Type 0) → ℕ → List PlacedToken → List PlacedToken → Type 0
IsComplete P n ps rest = (front : List PlacedToken) × (ps ≡ front ++ rest) × EndsAt P n front rest

-- ---- productions, by tokens with or without their goals and contexts

-- Expression (13.16), AssignmentExpression (13.15)
abbrev pub Expression : Bool → ℕ → Code → Tree → Input → Input → Type 0
Expression placed l c t ts r = (l ≤ level t) × Produces t (coded placed c) ts r

-- a name or a pattern that binds (14.3.3)
abbrev pub Binding : Bool → Code → Tree → Input → Input → Type 0
Binding placed c t ts r = (is_binding t ≡ true) × Produces t (patterned placed c) ts r

-- PropertyName (13.2.5)
abbrev pub Key : Bool → Code → Tree → Input → Input → Type 0
Key placed c t ts r = (is_key t ≡ true) × Produces t (coded placed c) ts r

-- Statement (clause 14); StatementListItem (14.2)
abbrev pub Statement : Bool → Code → Tree → Input → Input → Type 0
Statement placed c t ts r = (is_statement t ≡ true) × Produces t (coded placed (alone c)) ts r

abbrev pub ListItem : Bool → Code → Tree → Input → Input → Type 0
ListItem placed c t ts r = (is_item t ≡ true) × Produces t (coded placed (in_list c)) ts r

-- ModuleItem (16.2)
abbrev pub ModuleItem : Bool → Code → Tree → Input → Input → Type 0
ModuleItem placed c t ts r = (is_module_item t ≡ true) × Produces t (coded placed (in_list c)) ts r

-- ---- the laws

-- The word `async` ends no tree before a word on its line that may be a name.
abbrev pub Settled : Tree → List PlacedToken → Type 0
Settled t ps = ends_async t ≡ true → break_of ps ≡ false → may_name (kind_of ps) ≡ true → ⊥

-- What is read as an expression of a level, up to an assignment's, is derived from a complete front, and the next token doesn't go on with it.
abbrev pub ExpressionsEnd : Type 0
ExpressionsEnd = (depth : ℕ) (placed : Bool) (c : Code) (l n : ℕ) (ps : List PlacedToken) (t : Tree) (r : State Input) → 1 ≤ l → l ≤ 2 → Named ps → InOrder n ps
    → (readers list_stream depth).expr c l (at_list n ps []) ≡ Ok (t, r) → Settled t r.source.places → Expression false l c t (input_at n ps) r.source × IsComplete (Expression placed l c) n ps r.source.places × (goes_expr c (ends t) r.source < l)

-- the same of a binding, of a key, of an item of a list of statements and of one that is a statement, after which anything may stand
abbrev pub BindingsEnd : Type 0
BindingsEnd = (depth : ℕ) (placed : Bool) (c : Code) (n : ℕ) (ps : List PlacedToken) (t : Tree) (r : State Input) → Named ps → InOrder n ps
    → (readers list_stream depth).pat c (at_list n ps []) ≡ Ok (t, r) → Binding false c t (input_at n ps) r.source × IsComplete (Binding placed c) n ps r.source.places

abbrev pub KeysEnd : Type 0
KeysEnd = (depth : ℕ) (placed : Bool) (c : Code) (n : ℕ) (ps : List PlacedToken) (t : Tree) (r : State Input) → Named ps → InOrder n ps
    → key_by list_stream (readers list_stream depth) c (at_list n ps []) ≡ Ok (t, r) → Key false c t (input_at n ps) r.source × IsComplete (Key placed c) n ps r.source.places

abbrev pub StatementsEnd : Type 0
StatementsEnd = (depth : ℕ) (placed : Bool) (c : Code) (n : ℕ) (ps : List PlacedToken) (t : Tree) (r : State Input) → Named ps → InOrder n ps
    → (readers list_stream depth).stmt (alone c) (at_list n ps []) ≡ Ok (t, r) → is_statement t ≡ true → Statement false c t (input_at n ps) r.source × IsComplete (Statement placed c) n ps r.source.places

abbrev pub ListItemsEnd : Type 0
ListItemsEnd = (depth : ℕ) (placed : Bool) (c : Code) (n : ℕ) (ps : List PlacedToken) (t : Tree) (r : State Input) → Named ps → InOrder n ps
    → (readers list_stream depth).stmt (in_list c) (at_list n ps []) ≡ Ok (t, r) → ListItem false c t (input_at n ps) r.source × IsComplete (ListItem placed c) n ps r.source.places

-- an item of a module
abbrev pub ModuleItemsEnd : Type 0
ModuleItemsEnd = (depth : ℕ) (placed : Bool) (syntax : EsSyntax) (n : ℕ) (ps : List PlacedToken) (t : Tree) (r : State Input) → Named ps → InOrder n ps
    → item_by list_stream (readers list_stream depth) true (in_list (module_code syntax)) (at_list n ps []) ≡ Ok (t, r) → ModuleItem false (module_code syntax) t (input_at n ps) r.source × IsComplete (ModuleItem placed (module_code syntax)) n ps r.source.places

-- At most one tree is derived from a complete front of a list in order, so what is read is the only one.
abbrev pub OneFront : (Tree → Input → Input → Type 0) → Type 0
OneFront P = (n : ℕ) (ps : List PlacedToken) (t u : Tree) (r o : Input) → InOrder n ps → P t (input_at n ps) r → P u (input_at n ps) o → IsComplete P n ps r.places → IsComplete P n ps o.places → (t ≡ u) × (r ≡ o)

pub record OneOfEach (placed : Bool) (c : Code) : Type 0 where
  pub expressions : (l : ℕ) → 1 ≤ l → l ≤ 2 → OneFront (Expression placed l c)
  pub bindings : OneFront (Binding placed c)
  pub keys : OneFront (Key placed c)
  pub statements : OneFront (Statement placed c)
  pub list_items : OneFront (ListItem placed c)
  pub module_items : OneFront (ModuleItem placed c)

abbrev pub FrontsAreOne : Type 0
FrontsAreOne = (placed : Bool) (c : Code) → OneOfEach placed c

-- What is derived from a front of a list in order, before such a rest, is read of it, at every depth of at least its nesting.
abbrev pub IsReadBefore : (Tree → Input → Type 0) → (ℕ → Read Input Tree) → (Tree → Input → Input → Type 0) → Type 0
IsReadBefore Before f P = (depth n : ℕ) (ps : List PlacedToken) (t : Tree) (r : Input) → nesting t ≤ depth → InOrder n ps → P t (input_at n ps) r → Before t r → (commas : List ℕ) × (f depth (at_list n ps []) ≡ Ok (t, record { source = r; commas = commas }))

abbrev pub Whatever : Tree → Input → Type 0
Whatever t r = Unit {0}

-- neither `finally` nor a colon, with which a statement may go on
abbrev pub Apart : Tree → Input → Type 0
Apart t r = ((kind r == finally_kind) || (kind r == colon_kind)) ≡ false

pub record EachIsRead (placed : Bool) (c : Code) : Type 0 where
  pub expressions : (l : ℕ) → 1 ≤ l → l ≤ 2 → IsReadBefore (λ t r. Follow c (ends t) l r) (λ d s. (readers list_stream d).expr c l s) (Expression placed l c)
  pub bindings : IsReadBefore Whatever (λ d s. (readers list_stream d).pat c s) (Binding placed c)
  pub keys : IsReadBefore Whatever (λ d s. key_by list_stream (readers list_stream d) c s) (Key placed c)
  pub statements : IsReadBefore Apart (λ d s. (readers list_stream d).stmt (alone c) s) (Statement placed c)
  pub list_items : IsReadBefore Apart (λ d s. (readers list_stream d).stmt (in_list c) s) (ListItem placed c)
  pub module_items : IsReadBefore Apart (λ d s. item_by list_stream (readers list_stream d) true (in_list c) s) (ModuleItem placed c)

abbrev pub FrontsAreRead : Type 0
FrontsAreRead = (placed : Bool) (c : Code) → EachIsRead placed c

-- What is derived up to a rest is derived before a closing brace in its place: the same front, with the tokens alone.
abbrev pub Closing : List PlacedToken → List PlacedToken → Type 0
Closing [] qs = qs ≡ []
Closing (p ∷ ps) qs = (q : PlacedToken) × (qs ≡ q ∷ [])

abbrev pub CutsOff : Type 0
CutsOff = (t : Tree) (c : Code) (ts r : Input) → Produces t c ts r → (front qs : List PlacedToken) × (ts.places ≡ front ++ r.places) × Closing r.places qs × Produces t (record c { placed = false }) (input_at ts.last (front ++ qs)) (input_at r.last qs)
