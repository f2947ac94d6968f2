-- Early errors (ECMA-262, clauses 12 to 16, those of this project's table): a walk over the finished tree that carries strictness, labels and
-- flags, and lists faults with the places of their nodes.
use Rattle.std.specs.Prelude.{ℕ, Bool, true, false, not, ◌&&◌, ◌||◌, ◌==◌, nat_le, nat_lt, if◌then◌else◌, List, [], ◌∷◌, ◌++◌, Option, Some, None, codes, bytes_eq}
use Rattle.tree_spec.specs.Error.{Error}
use Rattle.tree_spec.specs.SyntaxError.{SyntaxError}
use Rattle.tree_spec.specs.SyntaxError.TheVariants.{Unexpected, InvalidIdentInStrict, EvalAndArgumentsInStrict, LegacyOctal, LegacyDecimal, WithInStrict, NotSimpleAssign, UndefinedLabel, DuplicateLabel, IllegalBreak, IllegalContinue, ReturnNotAllowed, InvalidSuper, InvalidSuperCall, InvalidNewTarget, DuplicateConstructor, DuplicateProto, IllegalLanguageModeDirective, InitRequired, UsingDeclNotAllowed, UsingDeclNotAllowedForForInLoop, InvalidNameInUsingDecl, InitRequiredForUsingDecl}
use Rattle.tree_spec.specs.Span.{Span}
use Rattle.tree_spec.specs.EsSyntax.{EsSyntax}
use Rattle.tree_spec.specs.Kinds.{const_kind, new_kind}
use Rattle.tree_spec.specs.Reserved.{strict_reserved, is_among}
use Rattle.tree_spec.specs.Tree.{Tree, Trees, none, more, script, es_module, import_named_specifier, import_default_specifier, import_star_as_specifier, export_named_specifier, export_namespace_specifier, block_stmt, with_stmt, return_stmt, labeled_stmt, break_stmt, continue_stmt, switch_stmt, while_stmt, do_while_stmt, for_stmt, for_in_stmt, for_of_stmt, class_decl, fn_decl, var_decl, using_decl, var_declarator, function, param, class, constructor, class_method, private_method, class_prop, private_prop, static_block, auto_accessor, fn_expr, update_expr, super_prop_expr, call_expr, ident, arrow_expr, class_expr, meta_prop_expr, paren_expr, member_expr, assign_expr, super, object_lit, key_value_prop, ident_name, getter_prop, setter_prop, method_prop, str_lit, number_lit, binding_ident, expr_pat, expr_stmt, absent}
use Rattle.tree_spec.specs.Folds.{fold}
use Rattle.grammar_spec.specs.Tokens.Shape.{is_absent, is_bound_name, is_use_strict, is_directive}

-- The code around a node.
pub record Scope : Type 0 where
  -- strict code; the directives of a body may still come
  pub strict : Bool
  pub starts : Bool
  -- the labels around, each with whether it labels a loop
  pub labels : List (List ℕ × Bool)
  -- in a loop, or in a `switch`: what `continue`, and what `break` without a label ends
  pub loops : Bool
  pub breaks : Bool
  -- what `return`, `super.x`, `super()` and `new.target` ask for
  pub returns : Bool
  pub supers : Bool
  pub calls : Bool
  pub targets : Bool
  -- the next function is a method; the next declaration heads a `for`-`in` or `for`-`of`
  pub method : Bool
  pub heads : Bool
  -- among the parameters of an async arrow, where `await` is no name
  pub awaits : Bool
  pub syntax : EsSyntax

abbrev pub Walk : Type 0
Walk = Scope → List Error

-- a fault at a place, where the test holds
abbrev pub fault : Bool → SyntaxError → Span → List Error
fault true kind span = record { span = span; kind = kind } ∷ []
fault false kind span = []

-- ---- the parts of a node

abbrev pub every : List Walk → Walk
every [] x = []
every (w ∷ ws) x = w x ++ every ws x

abbrev pub within : List (List Walk) → Walk
within [] x = []
within (ws ∷ kids) x = every ws x ++ within kids x

-- the parts of the first field, and those of the later ones
abbrev pub first : List (List Walk) → Walk
first [] x = []
first (ws ∷ kids) x = every ws x

abbrev pub later : List (List Walk) → List (List Walk)
later [] = []
later (ws ∷ kids) = kids

-- ---- code

abbrev pub strictly : Scope → Scope
strictly x = record x { strict = true }

-- in a loop's body, and in a `switch`
abbrev pub looping : Scope → Scope
looping x = record x { loops = true; breaks = true }

abbrev pub switching : Scope → Scope
switching x = record x { breaks = true }

-- Where a function begins, labels and loops end. An arrow keeps what `super` and `new.target` mean; a function that is no method has no `super`.
abbrev pub in_arrow : Scope → Scope
in_arrow x = record x { starts = false; heads = false; labels = []; loops = false; breaks = false; returns = true; awaits = false }

-- An arrow's parameters. Those of an async one are an AsyncArrowHead, in which `await` is reserved (15.9.1), as in the arrows among them.
abbrev pub in_arrow_params : Bool → Scope → Scope
in_arrow_params async x = record (in_arrow x) { awaits = async || x.awaits }

abbrev pub in_function : Scope → Scope
in_function x = record x { starts = false; heads = false; labels = []; loops = false; breaks = false; returns = true; supers = x.method; calls = false; targets = true; method = false; awaits = false }

abbrev pub in_constructor : Bool → Scope → Scope
in_constructor derived x = record x { starts = false; heads = false; labels = []; loops = false; breaks = false; returns = true; supers = true; calls = derived; targets = true; method = false; awaits = false }

-- the value of a field, and a static block
abbrev pub in_part : Scope → Scope
in_part x = record x { starts = false; heads = false; labels = []; loops = false; breaks = false; returns = false; supers = true; calls = false; targets = true; method = false; awaits = false }

-- a function that is a method, and one that is none: its name stands under its own [Await] (15.2)
abbrev pub as_method : Scope → Scope
as_method x = record x { method = true }

abbrev pub as_function : Scope → Scope
as_function x = record x { method = false; awaits = false }

-- the statements of a body: those after `'use strict'` among its directives are strict (11.2.1)
abbrev pub as_body : Scope → Scope
as_body x = record x { starts = true }

abbrev pub as_block : Scope → Scope
as_block x = record x { starts = false }

abbrev pub statements : Trees → List Walk → Walk
statements none ws x = every ws (as_block x)
statements (more t ts) [] x = []
statements (more t ts) (w ∷ ws) x = w (as_block x) ++ statements ts ws (record x { strict = x.strict || (x.starts && is_use_strict t); starts = x.starts && is_directive t; heads = false })

abbrev pub block : Trees → List (List Walk) → Walk
block ss [] x = []
block ss (ws ∷ kids) x = statements ss ws x

-- a declaration that heads a `for`-`in` or `for`-`of`, which needs no initialiser
abbrev pub heading : Scope → Scope
heading x = record x { heads = true }

abbrev pub past_head : Scope → Scope
past_head x = record x { heads = false }

abbrev pub unless : Bool → List Error → List Error
unless true es = []
unless false es = es

-- ---- names (13.1.1, 13.15.1)

abbrev pub is_await : List ℕ → Bool
is_await name = bytes_eq name (codes "await")

abbrev pub is_evil : List ℕ → Bool
is_evil name = bytes_eq name (codes "eval") || bytes_eq name (codes "arguments")

-- the name that parentheses hold
abbrev pub name_in : Tree → Option Tree
name_in (ident s n) = Some (ident s n)
name_in (paren_expr s e) = name_in e
name_in _ = None

-- `eval` and `arguments` bound, assigned or updated in strict code
abbrev pub evil : Option Tree → Walk
evil (Some (ident s n)) x = fault (x.strict && is_evil n) EvalAndArgumentsInStrict s
evil _ x = []

-- a binding that is a bare name: of a function, a class, an import
abbrev pub evil_name : Tree → Walk
evil_name t x = evil (name_in t) x

-- ---- literals (B.1.1, B.1.2)

abbrev pub is_digit : ℕ → Bool
is_digit c = nat_le 48 c && nat_le c 57

-- whether a string's spelling has an octal escape, `\8` or `\9`; `\0` is none where no digit follows
abbrev mutual
  pub has_octal : List ℕ → Bool
  has_octal [] = false
  has_octal (c ∷ cs) = if c == 92 then is_octal_escape cs else has_octal cs

  pub is_octal_escape : List ℕ → Bool
  is_octal_escape [] = false
  is_octal_escape (c ∷ cs) = if c == 48 then (begins_digit cs || has_octal cs) else (is_digit c || has_octal cs)

  pub begins_digit : List ℕ → Bool
  begins_digit [] = false
  begins_digit (c ∷ cs) = is_digit c

abbrev pub all_octal : List ℕ → Bool
all_octal [] = true
all_octal (c ∷ cs) = nat_le 48 c && nat_le c 55 && all_octal cs

-- `010`, and `08`: a zero and a digit more
abbrev pub is_legacy : List ℕ → Bool
is_legacy [] = false
is_legacy (c ∷ cs) = c == 48 && begins_digit cs

abbrev pub legacy_number : Option (List ℕ) → Span → List Error
legacy_number None s = []
legacy_number (Some raw) s = fault (is_legacy raw && all_octal raw) LegacyOctal s ++ fault (is_legacy raw && not (all_octal raw)) LegacyDecimal s

abbrev pub legacy_string : Option (List ℕ) → Span → List Error
legacy_string None s = []
legacy_string (Some raw) s = fault (has_octal raw) LegacyOctal s

abbrev pub where_strict : Scope → List Error → List Error
where_strict x faults = if x.strict then faults else []

-- ModuleExportName (16.2): a string is judged as any other, a word is no name that strict code judges
abbrev pub export_name : Tree → Walk
export_name (str_lit s u w) x = where_strict x (legacy_string w s)
export_name _ x = []

-- ---- labels (14.8.1, 14.9.1, 14.13.1)

abbrev pub has_label : List ℕ → List (List ℕ × Bool) → Bool
has_label name [] = false
has_label name (l ∷ ls) = bytes_eq l.0 name || has_label name ls

abbrev pub has_loop_label : List ℕ → List (List ℕ × Bool) → Bool
has_loop_label name [] = false
has_loop_label name (l ∷ ls) = (bytes_eq l.0 name && l.1) || has_loop_label name ls

abbrev pub is_loop : Tree → Bool
is_loop (while_stmt s t b) = true
is_loop (do_while_stmt s t b) = true
is_loop (for_stmt s i t u b) = true
is_loop (for_in_stmt s l r b) = true
is_loop (for_of_stmt s w l r b) = true
is_loop (labeled_stmt s l b) = is_loop b
is_loop _ = false

abbrev pub labelled : Tree → Tree → Scope → Scope
labelled (ident s n) body x = record x { labels = (n, is_loop body) ∷ x.labels }
labelled _ body x = x

abbrev pub doubled : Tree → Walk
doubled (ident s n) x = fault (has_label n x.labels) DuplicateLabel s
doubled _ x = []

abbrev pub breaks_out : Tree → Span → Walk
breaks_out (ident t n) s x = fault (not (has_label n x.labels)) UndefinedLabel s
breaks_out _ s x = fault (not x.breaks) IllegalBreak s

abbrev pub continues : Tree → Span → Walk
continues (ident t n) s x = fault (not (has_loop_label n x.labels)) UndefinedLabel s
continues _ s x = fault (not x.loops) IllegalContinue s

-- ---- functions and classes (15.2.1, 15.7.1)

abbrev pub is_bare : Tree → Bool
is_bare (param s ds p) = is_bound_name p
is_bare t = is_bound_name t

abbrev pub are_bare : Trees → Bool
are_bare none = true
are_bare (more t ts) = is_bare t && are_bare ts

-- the first `'use strict'` of a body
abbrev pub own_use_strict : Trees → Option Span
own_use_strict none = None
own_use_strict (more (expr_stmt s e) ts) = if is_use_strict (expr_stmt s e) then Some s else (if is_directive (expr_stmt s e) then own_use_strict ts else None)
own_use_strict (more t ts) = None

abbrev pub mode_fault : Bool → Option Span → List Error
mode_fault bare None = []
mode_fault bare (Some s) = fault (not bare) IllegalLanguageModeDirective s

-- a body's own `'use strict'` beside parameters that aren't all bare names
abbrev pub mode : Trees → Tree → List Error
mode ps (block_stmt s ss) = mode_fault (are_bare ps) (own_use_strict ss)
mode ps _ = []

abbrev pub second_constructors : Bool → Trees → List Error
second_constructors had none = []
second_constructors had (more (constructor s k ps b) ms) = fault had DuplicateConstructor s ++ second_constructors true ms
second_constructors had (more m ms) = second_constructors had ms

-- the members of a class: its constructor, derived or not, and the others
abbrev pub members : Bool → Trees → List Walk → Walk
members derived none ws x = []
members derived (more t ts) [] x = []
members derived (more (constructor s k ps b) ts) (w ∷ ws) x = w (record x { calls = derived }) ++ members derived ts ws x
members derived (more t ts) (w ∷ ws) x = w x ++ members derived ts ws x

abbrev pub class_body : Bool → Trees → List (List Walk) → Walk
class_body derived ms [] x = []
class_body derived ms (ws ∷ kids) x = members derived ms ws x

-- ---- objects (13.2.5.1)

abbrev pub is_proto : Tree → Bool
is_proto (key_value_prop s (ident_name t n) v) = bytes_eq n (codes "__proto__")
is_proto (key_value_prop s (str_lit t u w) v) = bytes_eq u (codes "__proto__")
is_proto _ = false

abbrev pub span_of_prop : Tree → Option Span
span_of_prop (key_value_prop s k v) = Some s
span_of_prop _ = None

abbrev pub proto_fault : Bool → Option Span → List Error
proto_fault b None = []
proto_fault b (Some s) = fault b DuplicateProto s

abbrev pub second_protos : Bool → Trees → List Error
second_protos had none = []
second_protos had (more p ps) = proto_fault (had && is_proto p) (span_of_prop p) ++ second_protos (had || is_proto p) ps

-- ---- updates and declarations (13.4.1, 14.3.1.1)

abbrev pub is_updatable : Tree → Bool
is_updatable (ident s n) = true
is_updatable (member_expr s o p) = true
is_updatable (super_prop_expr s o p) = true
is_updatable (paren_expr s e) = is_updatable e
is_updatable _ = false

abbrev pub unset : Bool → Trees → List Error
unset is_const none = []
unset is_const (more (var_declarator s n absent) ds) = fault (is_const || not (is_bound_name n)) InitRequired s ++ unset is_const ds
unset is_const (more d ds) = unset is_const ds

abbrev pub unset_using : Trees → List Error
unset_using none = []
unset_using (more (var_declarator s n absent) ds) = fault true InitRequiredForUsingDecl s ++ unset_using ds
unset_using (more d ds) = unset_using ds

abbrev pub bad_using : Trees → List Error
bad_using none = []
bad_using (more (var_declarator s n e) ds) = fault (not (is_bound_name n)) InvalidNameInUsingDecl s ++ bad_using ds
bad_using (more d ds) = bad_using ds

-- what stands directly in a script's body
abbrev pub top_using : Trees → List Error
top_using none = []
top_using (more (using_decl s w ds) ts) = fault true UsingDeclNotAllowed s ++ top_using ts
top_using (more t ts) = top_using ts

-- ---- the walk

-- what each node lists, before its parts; `kids` are its parts, a list for each field
abbrev pub step : Tree → List (List Walk) → Walk
step (ident s n) kids x = fault (x.awaits && is_await n) Unexpected s ++ fault (x.strict && is_among strict_reserved n) InvalidIdentInStrict s
step (binding_ident s i) kids x = within kids x ++ evil_name i x
step (str_lit s u w) kids x = where_strict x (legacy_string w s)
step (number_lit s v w) kids x = where_strict x (legacy_number w s)
step (with_stmt s o b) kids x = fault x.strict WithInStrict s ++ within kids x
step (update_expr s op b a) kids x = fault (not (is_updatable a)) NotSimpleAssign s ++ (evil (name_in a) x ++ within kids x)
step (expr_pat e) kids x = evil (name_in e) x ++ within kids x
step (assign_expr s op (paren_expr t e) v) kids x = evil (name_in e) x ++ within kids x
step (labeled_stmt s l b) kids x = doubled l x ++ (first kids x ++ within (later kids) (labelled l b x))
step (break_stmt s l) kids x = breaks_out l s x ++ within kids x
step (continue_stmt s l) kids x = continues l s x ++ within kids x
step (return_stmt s e) kids x = fault (not (x.returns || x.syntax.allow_return_outside_function)) ReturnNotAllowed s ++ within kids x
step (super_prop_expr s (super t) p) kids x = fault (not (x.supers || x.syntax.allow_super_outside_method)) InvalidSuper t ++ within kids x
step (call_expr s (super t) xs) kids x = fault (not x.calls) InvalidSuperCall s ++ within kids x
step (meta_prop_expr s k) kids x = fault (k == new_kind && not x.targets) InvalidNewTarget s
step (object_lit s ps) kids x = second_protos false ps ++ within kids x
step (while_stmt s t b) kids x = first kids x ++ within (later kids) (looping x)
step (do_while_stmt s t b) kids x = first kids x ++ within (later kids) (looping x)
step (for_stmt s i t u b) kids x = within kids (looping x)
step (for_in_stmt s (using_decl v w ds) r b) kids x = fault true UsingDeclNotAllowedForForInLoop v ++ (first kids (heading x) ++ within (later kids) (looping x))
step (for_in_stmt s l r b) kids x = first kids (heading x) ++ within (later kids) (looping x)
step (for_of_stmt s w l r b) kids x = first kids (heading x) ++ within (later kids) (looping x)
step (switch_stmt s d cs) kids x = first kids x ++ within (later kids) (switching x)
step (block_stmt s ss) kids x = block ss kids x
step (script s ss l) kids x = top_using ss ++ block ss kids (as_body x)
step (es_module s ss l) kids x = block ss kids (as_body (strictly x))
step (var_decl s k ds) kids x = unless x.heads (unset (k == const_kind) ds) ++ within kids (past_head x)
step (using_decl s w ds) kids x = bad_using ds ++ (unless x.heads (unset_using ds) ++ within kids (past_head x))
step (fn_decl s n f) kids x = evil_name n x ++ within kids (as_function x)
step (fn_expr s n f) kids x = evil_name n x ++ within kids (as_function x)
step (function s ps ds b g a) kids x = mode ps b ++ (first kids (in_function x) ++ within (later kids) (as_body (in_function x)))
step (arrow_expr s ps b a) kids x = mode ps b ++ (first kids (in_arrow_params a x) ++ within (later kids) (as_body (in_arrow x)))
step (method_prop s k f) kids x = first kids x ++ within (later kids) (as_method x)
step (getter_prop s k b) kids x = first kids x ++ within (later kids) (as_body (in_function (as_method x)))
step (setter_prop s k p b) kids x = mode (more p none) b ++ (first kids x ++ (first (later kids) (in_function (as_method x)) ++ within (later (later kids)) (as_body (in_function (as_method x)))))
step (class_decl s n k) kids x = evil_name n (strictly x) ++ within kids (strictly x)
step (class_expr s n k) kids x = evil_name n (strictly x) ++ within kids (strictly x)
step (class s ds ms k) kids x = second_constructors false ms ++ (first kids (strictly x) ++ (class_body (not (is_absent k)) ms (later kids) (strictly x) ++ within (later (later kids)) (strictly x)))
step (constructor s k ps b) kids x = mode ps b ++ (first kids x ++ (first (later kids) (in_constructor x.calls x) ++ within (later (later kids)) (as_body (in_constructor x.calls x))))
step (class_method s k f m i) kids x = first kids x ++ within (later kids) (as_method x)
step (private_method s k f m i) kids x = first kids x ++ within (later kids) (as_method x)
step (class_prop s k v i ds) kids x = first kids x ++ within (later kids) (in_part x)
step (private_prop s k v i ds) kids x = within kids (in_part x)
step (auto_accessor s k v i ds) kids x = first kids x ++ within (later kids) (in_part x)
step (static_block s b) kids x = within kids (in_part x)
step (import_named_specifier s l i) kids x = evil_name l x ++ (first kids x ++ export_name i x)
step (import_default_specifier s l) kids x = evil_name l x ++ within kids x
step (import_star_as_specifier s l) kids x = evil_name l x ++ within kids x
step (export_named_specifier s o e) kids x = export_name o x ++ export_name e x
step (export_namespace_specifier s n) kids x = export_name n x
step _ kids x = within kids x

-- ---- the list

-- The faults stand in the order of their places' starts, and those of one start in that of the table.
abbrev pub row : SyntaxError → ℕ
row InvalidIdentInStrict = 1
row EvalAndArgumentsInStrict = 2
row LegacyOctal = 3
row LegacyDecimal = 4
row WithInStrict = 5
row NotSimpleAssign = 6
row UndefinedLabel = 7
row DuplicateLabel = 8
row IllegalBreak = 9
row IllegalContinue = 10
row ReturnNotAllowed = 11
row InvalidSuper = 12
row InvalidSuperCall = 13
row InvalidNewTarget = 14
row DuplicateConstructor = 15
row DuplicateProto = 16
row IllegalLanguageModeDirective = 17
row InitRequired = 18
row UsingDeclNotAllowed = 19
row UsingDeclNotAllowedForForInLoop = 20
row InvalidNameInUsingDecl = 21
row InitRequiredForUsingDecl = 22
row _ = 0

abbrev pub comes_after : Error → Error → Bool
comes_after a b = nat_lt b.span.lo.0 a.span.lo.0 || ((a.span.lo.0 == b.span.lo.0) && nat_lt (row b.kind) (row a.kind))

abbrev pub put : Error → List Error → List Error
put e [] = e ∷ []
put e (f ∷ fs) = if comes_after e f then f ∷ put e fs else e ∷ f ∷ fs

abbrev pub in_order : List Error → List Error
in_order [] = []
in_order (e ∷ es) = put e (in_order es)

-- the code at the start of a script or a module
abbrev pub outermost : EsSyntax → Bool → Scope
outermost syntax strict = record { strict = strict; starts = false; labels = []; loops = false; breaks = false; returns = false; supers = false; calls = false; targets = false; method = false; heads = false; awaits = false; syntax = syntax }

-- the early errors of a tree in some code, and of a program
unfoldable pub faults_in : Scope → Tree → List Error
faults_in x t = in_order (fold step t x)

unfoldable pub early_errors : EsSyntax → Tree → List Error
early_errors syntax t = faults_in (outermost syntax false) t
