-- What each name of a tree stands for (ECMA-262, 8.2, 9.1, 10.2.11 and clauses 13 to 16), and which words keep their meaning in all of a
-- program. One walk carries the code around a node, and tells of the names in the order of the text. A node says what is told of itself
-- (`own`) and the code around each of its parts (`inside`). Faults of names are a walk of the same form (`judge_names_spec`).
use Rattle.std.specs.Prelude.{ℕ, Bool, true, false, not, ◌||◌, ◌+◌, nat_lt, if◌then◌else◌, List, [], ◌∷◌, ◌++◌, map, length, Option, Some, None, codes, bytes_eq}
use Rattle.base_token.specs.declared.place.Span.{Span}
use Rattle.tree_spec.specs.Tree.{Tree, Trees, none, more, script, es_module, export_decl, named_export, export_default_decl, import_named_specifier, export_namespace_specifier, export_default_specifier, export_named_specifier, block_stmt, with_stmt, labeled_stmt, break_stmt, continue_stmt, if_stmt, switch_stmt, for_stmt, for_in_stmt, for_of_stmt, catch_clause, class_decl, var_decl, function, constructor, static_block, getter_prop, setter_prop, object_lit, fn_expr, class_expr, arrow_expr, call_expr, paren_expr, ident}
use Rattle.tree_spec.specs.Folds.{fold}
use Rattle.tree_program_spec.specs.Names.Names.{Identifier, in_order}
use Rattle.grammar_spec.specs.Tokens.Shape.{is_absent, turns_strict}
use Rattle.judge_scopes_spec.specs.Declared.{Names, has_name, without, given, name_in, bound_names, all_bound_names, let_names, all_lexical_names, clause_names, plain_function, plain_functions, clause_functions, body_names, module_names}

-- What a name stands for: nothing that the program declares; a name of the program's own, by the depth of its scope, which is how many scopes
-- are around that, and the index among its names; no variable at all, as a label, a name of another module and a name for importers.
pub data Binder : Type 0 where
  free : Binder
  binder : ℕ → ℕ → Binder
  no_variable : Binder

-- What is told: what a name stands for; a word that keeps its meaning in all of the program.
pub data Told : Type 0 where
  stands : Identifier → Binder → Told
  keep : List ℕ → Told

-- The code around a node.
pub record Around : Type 0 where
  -- the names of the scopes around, the innermost first
  pub scopes : List Names
  -- how many scopes are around that of the body
  pub body_depth : ℕ
  pub strict : Bool
  -- the next block is the body of a function with these parameters
  pub params : Option Names
  -- the next function or class is a declaration, though it is an expression in the tree (`export default`)
  pub declared : Bool
  -- names are variables here
  pub variables : Bool

abbrev pub Walk : Type 0
Walk = Around → List Told

-- The code around the parts of a node, field by field in the order of the text: that around the first field, and around those behind it;
-- or one for all that are left.
pub data Inside : Type 0 where
  one : Around → Inside → Inside
  rest : Around → Inside

-- what is told of the trees of a field
abbrev pub every : List Walk → Walk
every [] x = []
every (w ∷ ws) x = w x ++ every ws x

-- what is told of the fields
abbrev pub within : List (List Walk) → Inside → List Told
within [] c = []
within (ws ∷ fields) (one x c) = every ws x ++ within fields c
within (ws ∷ fields) (rest x) = every ws x ++ within fields (rest x)

-- ---- scopes

-- where the first name with this word stands in a list
abbrev pub index_in : List ℕ → Names → ℕ
index_in word [] = 0
index_in word (n ∷ ns) = if bytes_eq n.sym word then 0 else index_in word ns + 1

-- ResolveBinding (9.4.2): the innermost scope that has the name.
abbrev pub found : List ℕ → List Names → Binder
found word [] = free
found word (s ∷ ss) = if has_name word s then binder (length ss) (index_in word s) else found word ss

-- the same code, where no body of a function and no declaration comes next
abbrev pub plainly : Around → Around
plainly x = record x { params = None; declared = false }

abbrev pub strictly : Around → Around
strictly x = record x { strict = true }

-- where names are no variables
abbrev pub apart : Around → Around
apart x = record (plainly x) { variables = false }

-- in a scope with these names
abbrev pub in_scope : Names → Around → Around
in_scope ns x = record (plainly x) { scopes = ns ∷ x.scopes }

-- in a scope that is there only where it has names
abbrev pub in_any : Names → Around → Around
in_any [] x = plainly x
in_any (n ∷ ns) x = in_scope (n ∷ ns) x

-- in the scope of a body, a script or a module
abbrev pub in_top : Names → Around → Around
in_top ns x = record (in_scope ns x) { body_depth = length x.scopes }

-- A block's scope (14.2.3), or a body's.
abbrev pub in_block : Option Names → Trees → Around → Around
in_block None ss x = in_scope (all_lexical_names false ss) x
in_block (Some params) ss x = in_top (body_names x.strict params ss) x

-- a branch of `if`: a function there stands as in a block (B.3.3)
abbrev pub in_branch : Tree → Around → Around
in_branch t x = in_any (plain_function t) x

-- a `for` that declares by `let`, `const` or `using` (14.7.4.2, 14.7.5.6): its head, what it goes over and its body are in one scope
abbrev pub in_loop : Tree → Around → Around
in_loop head x = in_any (let_names head) x

-- ---- functions (10.2.11)

-- `arguments`, which each function but an arrow has
abbrev pub its_arguments : Span → Names
its_arguments s = record { sym = codes "arguments"; span = s } ∷ []

-- whether a body has `use strict` among its directives (11.2.2)
abbrev pub body_strict : Tree → Bool
body_strict (block_stmt s ss) = turns_strict ss
body_strict _ = false

-- the scope of a function's parameters, and its body, which stands in that scope
abbrev pub in_params : Names → Tree → Around → Around
in_params ps body x = record (in_scope ps x) { strict = x.strict || body_strict body }

abbrev pub in_body : Names → Tree → Around → Around
in_body ps body x = record (in_params ps body x) { params = Some ps }

-- The parameters and the body of a function with these names: parameters don't see what the body declares.
abbrev pub in_function : Names → Tree → Around → Inside
in_function ps body x = one (in_params ps body x) (rest (in_body ps body x))

-- A function expression sees its own name (15.2.5), in a scope around its parameters.
abbrev pub in_expression : Bool → Tree → Around → Inside
in_expression true name x = rest (plainly x)
in_expression false name x = rest (in_any (name_in name) x)

-- A class is strict, and its heritage and its members see its own name (15.7.14). That of a declaration is a name of the code around as well.
abbrev pub in_class : Bool → Tree → Around → Inside
in_class true name x = one (plainly x) (rest (strictly (in_any (name_in name) x)))
in_class false name x = rest (strictly (in_any (name_in name) x))

-- ---- words that keep their meaning

abbrev pub kept : Names → List Told
kept ns = map (λ n. keep n.sym) ns

-- all names around, since a text or an object that is not known may name any of them
abbrev pub kept_around : List Names → List Told
kept_around [] = []
kept_around (s ∷ ss) = kept s ++ kept_around ss

-- A direct `eval` (13.3.6.1): the name, also in parentheses.
abbrev pub is_eval : Tree → Bool
is_eval (ident s n) = bytes_eq n (codes "eval")
is_eval (paren_expr s e) = is_eval e
is_eval _ = false

-- the functions of a block; those at the top of a body are no functions in blocks
abbrev pub own_functions : Option Names → Trees → Names
own_functions None ss = plain_functions ss
own_functions (Some params) ss = []

-- Functions in blocks of sloppy code keep their words, whether they are a `var` as well or a name stands in the way: with another word that may change (B.3.2).
abbrev pub kept_functions : Bool → Names → List Told
kept_functions strict ns = given (not strict) (kept ns)

-- A `var` whose name a scope within the body has as well: `catch (e) { var e }` declares a variable of the body, and writes to the parameter (B.3.4).
abbrev pub is_within : ℕ → Binder → Bool
is_within depth (binder d i) = nat_lt depth d
is_within depth _ = false

abbrev pub kept_caught : Around → Names → List Told
kept_caught x [] = []
kept_caught x (n ∷ ns) = given (is_within x.body_depth (found n.sym x.scopes)) (keep n.sym ∷ []) ++ kept_caught x ns

-- `{__proto__}` makes a property, which `{__proto__: a}` doesn't (B.3.1).
abbrev pub short_proto : Tree → Names
short_proto (ident s n) = given (bytes_eq n (codes "__proto__")) (record { sym = n; span = s } ∷ [])
short_proto _ = []

abbrev pub short_protos : Trees → Names
short_protos none = []
short_protos (more p ps) = short_proto p ++ short_protos ps

-- ---- the walk

-- what a name here stands for
abbrev pub found_here : List ℕ → Around → Binder
found_here word x = if x.variables then found word x.scopes else no_variable

-- What is told of a node itself: of a name what it stands for, of others the words that they keep.
abbrev pub own : Tree → Walk
own (ident s n) x = stands (record { sym = n; span = s }) (found_here n x) ∷ []
own (with_stmt s o b) x = kept_around x.scopes
own (call_expr s f xs) x = given (is_eval f) (kept_around x.scopes)
own (object_lit s ps) x = kept (short_protos ps)
own (var_decl s k ds) x = kept_caught x (without (let_names (var_decl s k ds)) (all_bound_names ds))
own (block_stmt s ss) x = kept_functions x.strict (own_functions x.params ss)
own (if_stmt s t c a) x = kept_functions x.strict (plain_function c ++ plain_function a)
own (switch_stmt s d cs) x = kept_functions x.strict (clause_functions cs)
own (export_decl s d) x = kept (bound_names d)
own t x = []

-- The code around the parts of a node.
abbrev pub inside : Tree → Around → Inside
inside (script s ss l) x = rest (in_top (body_names (turns_strict ss) [] ss) (record x { strict = turns_strict ss }))
inside (es_module s ss l) x = rest (in_top (module_names ss) (strictly x))
inside (export_default_decl s d) x = rest (record (plainly x) { declared = true })
inside (named_export s is f w) x = rest (record (plainly x) { variables = is_absent f })
inside (export_named_specifier s o e) x = one (plainly x) (rest (apart x))
inside (export_namespace_specifier s n) x = rest (apart x)
inside (export_default_specifier s n) x = rest (apart x)
inside (import_named_specifier s l i) x = one (apart x) (rest (plainly x))
inside (labeled_stmt s l b) x = one (apart x) (rest (plainly x))
inside (break_stmt s l) x = rest (apart x)
inside (continue_stmt s l) x = rest (apart x)
inside (block_stmt s ss) x = rest (in_block x.params ss x)
inside (if_stmt s t c a) x = one (plainly x) (one (in_branch c x) (rest (in_branch a x)))
inside (switch_stmt s d cs) x = one (plainly x) (rest (in_scope (clause_names cs) x))
inside (for_stmt s i t u b) x = rest (in_loop i x)
inside (for_in_stmt s l r b) x = rest (in_loop l x)
inside (for_of_stmt s w l r b) x = rest (in_loop l x)
inside (catch_clause s p b) x = rest (in_any (bound_names p) x)
inside (fn_expr s n f) x = in_expression x.declared n x
inside (class_decl s n k) x = in_class true n x
inside (class_expr s n k) x = in_class x.declared n x
inside (function s ps ds b g a) x = one (in_params (all_bound_names ps ++ its_arguments s) b x) (one (plainly x) (rest (in_body (all_bound_names ps ++ its_arguments s) b x)))
inside (constructor s k ps b) x = one (plainly x) (in_function (all_bound_names ps ++ its_arguments s) b x)
inside (getter_prop s k b) x = one (plainly x) (rest (in_body (its_arguments s) b x))
inside (setter_prop s k p b) x = one (plainly x) (in_function (bound_names p ++ its_arguments s) b x)
inside (arrow_expr s ps b a) x = in_function (all_bound_names ps) b x
inside (static_block s b) x = rest (record (plainly x) { params = Some [] })
inside t x = rest (plainly x)

abbrev pub step : Tree → List (List Walk) → Walk
step t fields x = own t x ++ within (in_order t fields) (inside t x)

-- ---- a program

abbrev pub outermost : Around
outermost = record { scopes = []; body_depth = 0; strict = false; params = None; declared = false; variables = true }

-- What is told of a program.
abbrev pub told : Tree → List Told
told t = fold step t outermost

abbrev pub names_told : List Told → Names
names_told [] = []
names_told (stands i b ∷ ts) = i ∷ names_told ts
names_told (keep n ∷ ts) = names_told ts

abbrev pub binders_told : List Told → List Binder
binders_told [] = []
binders_told (stands i no_variable ∷ ts) = binders_told ts
binders_told (stands i b ∷ ts) = b ∷ binders_told ts
binders_told (keep n ∷ ts) = binders_told ts

abbrev pub words_told : List Told → List (List ℕ)
words_told [] = []
words_told (stands i b ∷ ts) = words_told ts
words_told (keep n ∷ ts) = n ∷ words_told ts

-- What the variables of a program stand for, in the order of its text.
abbrev pub resolved : Tree → List Binder
resolved t = binders_told (told t)

-- The words that keep their meaning in all of a program: names around a direct `eval` (19.2.1) or a `with` (14.11), of functions in blocks of
-- sloppy code (B.3.2), of a `var` that a parameter of `catch` hides (B.3.4), of a short `__proto__` (B.3.1), of exported declarations (16.2.3).
abbrev pub kept_words : Tree → List (List ℕ)
kept_words t = words_told (told t)
