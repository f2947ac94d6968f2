-- Evidence that parts of nodes are no odd trees, from what the grammar says of the nodes.
use Rattle.std.proofs.Common.{◌≡◌, ℕ, ◌≤◌, inl, inr, Bool, true, false, ◌||◌, not, Option, Some, None, refl}
use Rattle.std.specs.Prelude.{◌==◌}
use Rattle.std.proofs.lemmas.Bool.{and_right}
use Rattle.base_token.specs.declared.place.Span.{Span}
use Rattle.base_token.specs.Kinds.{from_kind, set_kind, exp_kind, nullish_coalescing_kind, assign_kind, right_paren_kind, right_brace_kind}
use Rattle.tree_spec.specs.Tree.{Tree, Trees, none, more, plain_method, tpl_element, script, es_module, catch_clause, function, block_stmt, ident, export_namespace_specifier}
use Rattle.grammar_spec.specs.Tokens.Input.{Input, Code, setting, TakesWord}
use Rattle.grammar_spec.specs.Tokens.Operators.{assignment_level, call_level, binary_level, right_level, operates, expression_level}
use Rattle.grammar_spec.specs.Tokens.Shape.{level, is_param, is_element, is_attributes, is_absent, is_member, is_item, is_place, is_item_pat, is_target, is_string, is_bound_name, fits_left, is_chain, export_name, is_named_import, is_named_export, is_default_import, is_star_import, is_star_export, is_word_name, is_private, count_of}
use Rattle.grammar_spec.specs.Grammar.{Produces, children}
use Rattle.grammar_spec.specs.Children.{child, By, IsEmpty, Expr}
use Rattle.grammar_spec.specs.Functions.{Parameters, SetParameter, Closes, Body as BodyOf, Function, Method, Members, ArrowParameters, ArrowPattern, BareName}
use Rattle.grammar_spec.specs.Expressions.{Element, ChainMember, ChainCall, Sequence, Yield, AccessedName, Dotted, Bracketed}
use Rattle.grammar_spec.specs.Statements.{ForExpression}
use Rattle.grammar_spec.specs.Modules.{ExportName, NamedImports, AfterDefault, ImportClause, NamedExports, Specified, ExportList, Source}
use Rattle.again_laws.proofs.text.GrammarToLayout.{is_odd, either_by, whole_test, whole_level, whole_up, whole_assigned, whole_absent, whole_by, Wholes, none_whole, wholes, wholes_then, wholes_sorted, whole_items}
use Rattle.again_laws.proofs.derived.FoundParts.{no_left, operator_level, right_some}

pub whole_left : (c : Code) (op : ℕ) (t : Tree) → operates c op ≡ true → fits_left op t ≡ true → is_odd t ≡ false
whole_left c op (tpl_element s b w u) o h = absurd (no_left (op == exp_kind) (op == nullish_coalescing_kind) (binary_level op) (operator_level c op o) h)
whole_left c op (script s b l) o h = absurd (no_left (op == exp_kind) (op == nullish_coalescing_kind) (binary_level op) (operator_level c op o) h)
whole_left c op (es_module s b l) o h = absurd (no_left (op == exp_kind) (op == nullish_coalescing_kind) (binary_level op) (operator_level c op o) h)
whole_left c op (catch_clause s p b) o h = absurd (no_left (op == exp_kind) (op == nullish_coalescing_kind) (binary_level op) (operator_level c op o) h)
whole_left c op _ o h = refl

pub whole_right : (op : ℕ) (t : Tree) → right_level op ≤ level t → is_odd t ≡ false
whole_right op t h = whole_up (right_level op) (right_some (op == exp_kind) (op == nullish_coalescing_kind) (binary_level op)) t h

pub whole_place : (b : Bool) (t : Tree) → is_place b t ≡ true → is_odd t ≡ false
whole_place b t h = whole_test (λ x. is_place b x) (λ s t w u. and_right (not b) false refl) (λ s x l. and_right (not b) false refl) (λ s x l. and_right (not b) false refl) (λ s p x. and_right (not b) false refl) t h

pub whole_item_pat : (b : Bool) (t : Tree) → is_item_pat b t ≡ true → is_odd t ≡ false
whole_item_pat b t h = whole_test (λ x. is_item_pat b x) (λ s t w u. and_right (not b) false refl) (λ s x l. and_right (not b) false refl) (λ s x l. and_right (not b) false refl) (λ s p x. and_right (not b) false refl) t h

pub whole_target : (op : ℕ) (t : Tree) → is_target op t ≡ true → is_odd t ≡ false
whole_target op t h = whole_test (λ x. is_target op x) (λ s t w u. and_right (op == assign_kind) false refl) (λ s x l. and_right (op == assign_kind) false refl) (λ s x l. and_right (op == assign_kind) false refl) (λ s p x. and_right (op == assign_kind) false refl) t h

pub whole_chain : (t : Tree) → is_chain t ≡ true → is_odd t ≡ false
whole_chain t h = (whole_test (is_chain) (λ s t w u. refl) (λ s b l. refl) (λ s b l. refl) (λ s p b. refl) t h)

-- ---- expressions

pub element_whole : (c : Code) (s : Span) (d : Option Span) (e : Tree) (ts r : Input) → Element c s d (child e (λ y. Produces e y)) ts r → is_odd e ≡ false
element_whole c s None e ts r h = whole_assigned e h.0.0
element_whole c s (Some d) e ts r h = whole_assigned e h.3.0

pub yield_whole : (c : Code) (s : Span) (e : Tree) (g : Bool) (ts r : Input) → Yield c s (child e (λ y. Produces e y)) g ts r → is_odd e ≡ false
yield_whole c s e false ts r h = whole_assigned e h.4.0
yield_whole c s e true ts r h = whole_assigned e h.6.0

pub sequence_whole : (c : Code) (s : Span) (xs : Trees) (ts r : Input) → Sequence c s (children xs) ts r → Wholes xs
sequence_whole c s none ts r h = absurd h
sequence_whole c s (more x none) ts r h = absurd h
sequence_whole c s (more x (more y ys)) ts r h = (whole_assigned x h.1.0, wholes_then (Expr assignment_level c) (λ t m n k. whole_assigned t k.0) c (more y ys) h.0 r h.2)

pub chain_object : (c : Code) (s : Span) (q : Bool) (t : Span) (o : Tree) (A B : Input → Input → Type 0) (ts r : Input) → ChainMember c s q t (child o (λ y. Produces o y)) A B ts r → is_odd o ≡ false
chain_object c s true t o A B ts r h = whole_up call_level refl o h.2.0
chain_object c s false t o A B ts r h = whole_chain o h.1

pub chain_inner : (c : Code) (s : Span) (q : Bool) (t : Span) (o : Tree) (b : Span) (e : Tree) (ts r : Input)
    → ChainMember c s q t (child o (λ y. Produces o y)) (λ m n. Bracketed expression_level c b (child e (λ y. Produces e y)) m n) (λ m n. Bracketed expression_level c b (child e (λ y. Produces e y)) m n) ts r → is_odd e ≡ false
chain_inner c s true t o b e ts r h = whole_level e h.4.3.0
chain_inner c s false t o b e ts r h = whole_level e h.3.3.0

pub chain_name : (c : Code) (s : Span) (q : Bool) (t : Span) (o k : Tree) (ts r : Input)
    → ChainMember c s q t (child o (λ y. Produces o y)) (λ m n. Dotted true c (child k (λ y. Produces k y)) m n) (λ m n. AccessedName true c (child k (λ y. Produces k y)) m n) ts r → is_odd k ≡ false
chain_name c s true t o k ts r h = (whole_test (λ x. is_word_name x || is_private x) (λ s t w u. refl) (λ s b l. refl) (λ s b l. refl) (λ s p b. refl) k h.4.0)
chain_name c s false t o k ts r h = (whole_test (λ x. is_word_name x || is_private x) (λ s t w u. refl) (λ s b l. refl) (λ s b l. refl) (λ s p b. refl) k h.3.2.0)

pub called_whole : (c : Code) (s : Span) (q : Bool) (t : Span) (f : Tree) (xs : Trees) (ts r : Input) → ChainCall c s q t (child f (λ y. Produces f y)) (children xs) ts r → is_odd f ≡ false
called_whole c s true t f xs ts r h = whole_up call_level refl f h.2.0
called_whole c s false t f xs ts r h = whole_chain f h.1

pub called_args : (c : Code) (s : Span) (q : Bool) (t : Span) (f : Tree) (xs : Trees) (ts r : Input) → ChainCall c s q t (child f (λ y. Produces f y)) (children xs) ts r → Wholes xs
called_args c s true t f xs ts r h = wholes_sorted is_element (λ s t w u. refl) (λ s b l. refl) (λ s b l. refl) (λ s p b. refl) false c right_paren_kind xs _ _ h.4.2
called_args c s false t f xs ts r h = wholes_sorted is_element (λ s t w u. refl) (λ s b l. refl) (λ s b l. refl) (λ s p b. refl) false c right_paren_kind xs _ _ h.3.2

pub head_whole : (c : Code) (s : Span) (i t u b : Tree) (ts r : Input)
    → ForExpression c s (child i (λ y. Produces i y)) (child t (λ y. Produces t y)) (child u (λ y. Produces u y)) (child b (λ y. Produces b y)) ts r → is_odd i ≡ false
head_whole c s i t u b ts r h = whole_by i _ _ h.4 (λ q. whole_level i q.1.0)

-- ---- functions

pub params_whole : (c : Code) (ps : Trees) (ts r : Input) → Parameters c (children ps) ts r → Wholes ps
params_whole c ps ts r h = wholes_sorted is_param (λ s t w u. refl) (λ s b l. refl) (λ s b l. refl) (λ s p b. refl) false c right_paren_kind ps _ _ h.2

set_whole : (c : Code) (ps : Trees) (ts r : Input) → SetParameter c (children ps) ts r → Wholes ps
set_whole c none ts r h = absurd h
set_whole c (more p ps) ts r h = ((whole_test (is_param) (λ s t w u. refl) (λ s b l. refl) (λ s b l. refl) (λ s p b. refl) p h.5.0), none_whole ps h.2)

pub body_whole : (c : Code) (b : Span) (ss : Trees) (ts r : Input) → BodyOf c b (children ss) ts r → Wholes ss
body_whole c b ss ts r h = whole_items is_item (λ s t w u. refl) (λ s b l. refl) (λ s b l. refl) (λ s p b. refl) Closes c true ss _ _ h.2

pub function_params_whole : (c : Code) (ps ds : Trees) (b : Span) (ss : Trees) (g w : Bool) (ts r : Input) → Function c (children ps) (children ds) b (children ss) g w ts r → Wholes ps
function_params_whole c ps ds b ss g w ts r h = either_by c.sets _ _ h.2 (λ z. set_whole _ ps ts h.0 z) (λ z. params_whole _ ps ts h.0 z)

pub function_items_whole : (c : Code) (ps ds : Trees) (b : Span) (ss : Trees) (g w : Bool) (ts r : Input) → Function c (children ps) (children ds) b (children ss) g w ts r → Wholes ss
function_items_whole c ps ds b ss g w ts r h = body_whole _ b ss h.0 r h.3

abbrev pub MethodOf : Code → ℕ → Tree → Span → Trees → Trees → Span → Trees → Bool → Bool → Input → Input → Type 0
MethodOf c k key at' ps ds b ss g w ts r = Method c k (child key (λ y. Produces key y)) (record { span = at'; generator = g; async = w; count = count_of ps })
    (child (function at' ps ds (block_stmt b ss) g w) (λ y. Produces (function at' ps ds (block_stmt b ss) g w) y)) ts r

pub method_params_whole : (c : Code) (k : ℕ) (key : Tree) (at' : Span) (ps ds : Trees) (b : Span) (ss : Trees) (g w : Bool) (ts r : Input) → MethodOf c k key at' ps ds b ss g w ts r → Wholes ps
method_params_whole c k key at' ps ds b ss g w ts r h = either_by (k == plain_method) _ _ h (λ z. function_params_whole (setting false c) ps ds b ss g w z.1 r z.4) (λ z. function_params_whole (setting (k == set_kind) c) ps ds b ss g w z.1 r z.7)

pub method_items_whole : (c : Code) (k : ℕ) (key : Tree) (at' : Span) (ps ds : Trees) (b : Span) (ss : Trees) (g w : Bool) (ts r : Input) → MethodOf c k key at' ps ds b ss g w ts r → Wholes ss
method_items_whole c k key at' ps ds b ss g w ts r h = either_by (k == plain_method) _ _ h (λ z. function_items_whole (setting false c) ps ds b ss g w z.1 r z.4) (λ z. function_items_whole (setting (k == set_kind) c) ps ds b ss g w z.1 r z.7)

pub arrow_whole : (c : Code) (ps : Trees) (ts r : Input) → ArrowParameters c (children ps) ts r → Wholes ps
arrow_whole c ps ts r (inl h) = bare ps h
  where
    bare : (ps : Trees) → BareName c (children ps) ts r → Wholes ps
    bare none h = absurd h
    bare (more p ps) h = ((whole_test (is_bound_name) (λ s t w u. refl) (λ s b l. refl) (λ s b l. refl) (λ s p b. refl) p h.1.0), none_whole ps h.0)
arrow_whole c ps ts r (inr h) = wholes (ArrowPattern c) (λ t m n k. whole_item_pat true t k.0) false c right_paren_kind ps _ _ h.2

pub members_whole : (c : Code) (ms : Trees) (ts r : Input) → Members c (children ms) ts r → Wholes ms
members_whole c none ts r h = tt
members_whole c (more m ms) ts r h = ((whole_test (is_member) (λ s t w u. refl) (λ s b l. refl) (λ s b l. refl) (λ s p b. refl) m h.1.0), members_whole c ms _ _ h.2)

-- ---- modules

pub export_whole : (c : Code) (k : Tree) (ts r : Input) → ExportName c (export_name k) (child k (λ y. Produces k y)) ts r → is_odd k ≡ false
export_whole c (ident s n) ts r h = refl
export_whole c k ts r h = (whole_test (is_string) (λ s t w u. refl) (λ s b l. refl) (λ s b l. refl) (λ s p b. refl) k h.0)

named_whole : (c : Code) (xs : Trees) (ts r : Input) → NamedImports c (children xs) ts r → Wholes xs
named_whole c xs ts r h = wholes_sorted is_named_import (λ s t w u. refl) (λ s b l. refl) (λ s b l. refl) (λ s p b. refl) false c right_brace_kind xs _ _ h.2

after_whole : (c : Code) (xs : Trees) (ts r : Input) → AfterDefault c (children xs) ts r → Wholes xs
after_whole c none ts r h = tt
after_whole c (more x xs) ts r h = star_by (is_star_import x) refl h.2
  where
    star_by : (b : Bool) → is_star_import x ≡ b → By b (IsEmpty (children xs) × Produces x c h.0 r) (NamedImports c (children (more x xs)) h.0 r) → Wholes (more x xs)
    star_by true e z = ((whole_test (is_star_import) (λ s t w u. refl) (λ s b l. refl) (λ s b l. refl) (λ s p b. refl) x e), none_whole xs z.0)
    star_by false e z = named_whole c (more x xs) h.0 r z

pub imports_whole : (c : Code) (xs : Trees) (ts r : Input) → ImportClause c (children xs) ts r → Wholes xs
imports_whole c none ts r h = tt
imports_whole c (more x xs) ts r h = default_by (is_default_import x) refl h.1
  where
    star_by : (b : Bool) → is_star_import x ≡ b → By b (IsEmpty (children xs) × Produces x c ts h.0) (NamedImports c (children (more x xs)) ts h.0) → Wholes (more x xs)
    star_by true e z = ((whole_test (is_star_import) (λ s t w u. refl) (λ s b l. refl) (λ s b l. refl) (λ s p b. refl) x e), none_whole xs z.0)
    star_by false e z = named_whole c (more x xs) ts h.0 z

    default_by : (b : Bool) → is_default_import x ≡ b → By b ((n : Input) × Produces x c ts n × AfterDefault c (children xs) n h.0) (By (is_star_import x) (IsEmpty (children xs) × Produces x c ts h.0) (NamedImports c (children (more x xs)) ts h.0)) → Wholes (more x xs)
    default_by true e z = ((whole_test (is_default_import) (λ s t w u. refl) (λ s b l. refl) (λ s b l. refl) (λ s p b. refl) x e), after_whole c xs z.0 h.0 z.2)
    default_by false e z = star_by (is_star_import x) refl z

exported_whole : (c : Code) (xs : Trees) (ts r : Input) → NamedExports c (children xs) ts r → Wholes xs
exported_whole c xs ts r h = wholes_sorted is_named_export (λ s t w u. refl) (λ s b l. refl) (λ s b l. refl) (λ s p b. refl) false c right_brace_kind xs _ _ h.2

pub exports_whole : (c : Code) (xs : Trees) (f w : Tree) (ts r : Input) → Specified c (children xs) (child f (λ y. Produces f y)) (child w (λ y. Produces w y)) ts r → Wholes xs
exports_whole c none f w ts r h = tt
exports_whole c (more (export_namespace_specifier s n) xs) f w ts r h = (refl, none_whole xs h.0)
exports_whole c (more x xs) f w ts r h = exported_whole c (more x xs) ts h.0 h.1

of_source : (c : Code) (f w : Tree) (ts r : Input) → Source c (child f (λ y. Produces f y)) (child w (λ y. Produces w y)) ts r → (is_odd f ≡ false) × (is_odd w ≡ false)
of_source c f w ts r h = ((whole_test (is_string) (λ s t w u. refl) (λ s b l. refl) (λ s b l. refl) (λ s p b. refl) f h.1.0), whole_by w _ _ h.2 (λ q. (whole_test (is_attributes) (λ s t w u. refl) (λ s b l. refl) (λ s b l. refl) (λ s p b. refl) w q.1.3)))

of_list : (c : Code) (xs : Trees) (f w : Tree) (ts r : Input) → ExportList c (children xs) (child f (λ y. Produces f y)) (child w (λ y. Produces w y)) ts r → (is_odd f ≡ false) × (is_odd w ≡ false)
of_list c xs f w ts r h = absent_by _ (is_absent f) refl h.2
  where
    absent_by : (A : Type 0) (b : Bool) → is_absent f ≡ b → By b ((is_absent w ≡ true) × A) ((n : Input) × TakesWord c from_kind h.0 n × Source c (child f (λ y. Produces f y)) (child w (λ y. Produces w y)) n r) → (is_odd f ≡ false) × (is_odd w ≡ false)
    absent_by A true e z = (whole_absent f e, whole_absent w z.0)
    absent_by A false e z = of_source c f w z.0 r z.2

both_whole : (c : Code) (xs : Trees) (f w : Tree) (ts r : Input) → Specified c (children xs) (child f (λ y. Produces f y)) (child w (λ y. Produces w y)) ts r → (is_odd f ≡ false) × (is_odd w ≡ false)
both_whole c none f w ts r h = of_list c none f w ts r h
both_whole c (more x xs) f w ts r h = either_by (is_star_export x) _ _ h (λ z. of_source c f w z.1.1 r z.1.4) (λ z. of_list c (more x xs) f w ts r z)

pub source_whole : (c : Code) (xs : Trees) (f w : Tree) (ts r : Input) → Specified c (children xs) (child f (λ y. Produces f y)) (child w (λ y. Produces w y)) ts r → is_odd f ≡ false
source_whole c xs f w ts r h = (both_whole c xs f w ts r h).0

pub with_whole : (c : Code) (xs : Trees) (f w : Tree) (ts r : Input) → Specified c (children xs) (child f (λ y. Produces f y)) (child w (λ y. Produces w y)) ts r → is_odd w ≡ false
with_whole c xs f w ts r h = (both_whole c xs f w ts r h).1
