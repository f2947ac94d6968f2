-- The faults of names of a tree (ECMA-262, clauses 13 to 16 and B.3): a walk that carries the code around a node. A node says which faults it has
-- itself (`own`), by what its parts declare, and the code around each of its parts (`inside`). None of them is one of `early_errors` of
-- `grammar_spec`: where that lists a fault of a rule, nothing is said here.
use Rattle.std.specs.Prelude.{ℕ, Bool, true, false, not, ◌&&◌, ◌||◌, ◌==◌, List, [], ◌∷◌, ◌++◌, codes, bytes_eq}
use Rattle.std.specs.List.{list_any}
use Rattle.base_token.specs.Kinds.{delete_kind, import_kind}
use Rattle.tree_spec.specs.Tree.{Tree, Trees, script, es_module, import_decl, named_export, export_all, import_named_specifier, export_namespace_specifier, export_named_specifier, block_stmt, with_stmt, labeled_stmt, break_stmt, continue_stmt, if_stmt, switch_stmt, catch_clause, while_stmt, do_while_stmt, for_stmt, for_in_stmt, for_of_stmt, class_decl, fn_decl, var_decl, using_decl, function, class, constructor, class_method, private_method, class_prop, private_prop, static_block, auto_accessor, private_name, fn_expr, unary_expr, ident, arrow_expr, class_expr, yield_expr, meta_prop_expr, await_expr, getter_prop, setter_prop, method_prop, binding_ident}
use Rattle.tree_spec.specs.Folds.{fold}
use Rattle.tree_program_spec.specs.Names.Names.{in_order}
use Rattle.grammar_spec.specs.Judge.Early.{are_bare}
use Rattle.grammar_spec.specs.Tokens.Shape.{is_absent, turns_strict}
use Rattle.judge_scopes_spec.specs.Declared.{Names, given, name_in, bound_names, all_bound_names, let_names}
use Rattle.judge_scopes_spec.specs.Scopes.{body_strict}
use Rattle.judge_names_spec.specs.Faults.{NameFault, fault, by_place, redeclared, parameter_twice, yield_in_parameters, await_in_parameters, meta_in_script, arguments_in_part, private_twice, private_undeclared}
use Rattle.judge_names_spec.specs.Declared.{Declaration, alone, all_by, clashes, declares, declared, clause_declared, loop_declared, caught, parameters, privates}
use Rattle.judge_names_spec.specs.Exports.{module_faults, reserved_in, ill_formed, attribute_faults}
use Rattle.judge_names_spec.specs.Parts.{late_directives, late_faults, late_name, lets, labelled_body, deleted, method_faults, field_faults, private_key_faults}

-- The code around a node.
pub record Around : Type 0 where
  pub strict : Bool
  pub in_module : Bool
  -- what the scope of the next block declares before it: parameters
  pub before : List Declaration
  -- the next block is the body of a function or a static block
  pub is_body : Bool
  -- the next function is a method
  pub method : Bool
  -- among parameters
  pub in_parameters : Bool
  -- in the value of a field or a static block, no function between but arrows; names here are variables
  pub in_part : Bool
  -- the private names of the classes around, the innermost first
  pub classes : List (List Declaration)

abbrev pub Walk : Type 0
Walk = Around → List NameFault

-- The code around the parts of a node, field by field in the order of the text: that around the first field, and around those behind it;
-- or one for all that are left.
pub data Inside : Type 0 where
  one : Around → Inside → Inside
  rest : Around → Inside

-- the faults of the trees of a field
abbrev pub every : List Walk → Walk
every [] x = []
every (w ∷ ws) x = w x ++ every ws x

-- the faults of the fields
abbrev pub within : List (List Walk) → Inside → List NameFault
within [] c = []
within (ws ∷ fields) (one x c) = every ws x ++ within fields c
within (ws ∷ fields) (rest x) = every ws x ++ within fields (rest x)

-- ---- the code around

-- the same code, where no body and no method comes next
abbrev pub plainly : Around → Around
plainly x = record x { before = []; is_body = false; method = false }

abbrev pub strictly : Around → Around
strictly x = record (plainly x) { strict = true }

-- where a name is no reference: a label, what is declared or assigned to
abbrev pub apart : Around → Around
apart x = record (plainly x) { in_part = false }

abbrev pub as_method : Around → Around
as_method x = record (plainly x) { method = true }

-- in the value of a field (15.7.1), and in a static block
abbrev pub in_value : Around → Around
in_value x = record (plainly x) { in_part = true }

abbrev pub in_static : Around → Around
in_static x = record (in_value x) { is_body = true }

-- In the block of a `catch`: what its parameter binds is in the way of what the block declares (14.15.1).
abbrev pub in_catch : Tree → Around → Around
in_catch p x = record (plainly x) { before = caught p }

-- The parameters and the body of an arrow function, which keeps what `arguments` means, and of any other.
abbrev pub in_arrow_parameters : Tree → Around → Around
in_arrow_parameters body x = record (plainly x) { strict = x.strict || body_strict body; in_parameters = true }

abbrev pub in_arrow_body : Names → Tree → Around → Around
in_arrow_body ps body x = record (plainly x) { strict = x.strict || body_strict body; in_parameters = false; before = parameters ps; is_body = true }

abbrev pub in_its_parameters : Tree → Around → Around
in_its_parameters body x = record (in_arrow_parameters body x) { in_part = false }

abbrev pub in_its_body : Names → Tree → Around → Around
in_its_body ps body x = record (in_arrow_body ps body x) { in_part = false }

-- the members of a class are strict, and see its private names
abbrev pub in_members : Trees → Around → Around
in_members ms x = record (strictly x) { classes = privates ms ∷ x.classes }

-- ---- functions

-- Parameters (15.1.1): one name stands once in strict code, in methods and arrows, and where one isn't a bare name.
abbrev pub parameters_twice : Bool → Names → List NameFault
parameters_twice once ps = given once (clashes parameter_twice (all_by alone ps))

-- of a function whose parameters may have one name or not
abbrev pub function_faults : Bool → Names → Tree → Walk
function_faults once ps body x = parameters_twice (once || (x.strict || body_strict body)) ps ++ late_faults x.strict ps body

-- ---- the walk

-- whether a class around has a private name (AllPrivateIdentifiersValid, 15.7.1)
abbrev pub is_private_here : List ℕ → Around → Bool
is_private_here word x = list_any (λ ds. declares word ds) x.classes

-- The faults of a node itself.
abbrev pub own : Tree → Walk
own (script s ss l) x = clashes redeclared (declared true (turns_strict ss) ss) ++ late_directives x.strict ss
own (es_module s ss l) x = module_faults ss
own (import_decl s is f w) x = attribute_faults w
own (named_export s is f w) x = given (is_absent f) (reserved_in is) ++ attribute_faults w
own (export_all s f w) x = attribute_faults w
own (import_named_specifier s l i) x = ill_formed i
own (export_named_specifier s o e) x = ill_formed o ++ ill_formed e
own (export_namespace_specifier s n) x = ill_formed n
own (block_stmt s ss) x = clashes redeclared (x.before ++ declared x.is_body x.strict ss)
own (switch_stmt s d cs) x = clashes redeclared (clause_declared x.strict cs)
own (for_stmt s i t u b) x = clashes redeclared (loop_declared i b) ++ labelled_body b
own (for_in_stmt s l r b) x = clashes redeclared (loop_declared l b) ++ labelled_body b
own (for_of_stmt s w l r b) x = clashes redeclared (loop_declared l b) ++ labelled_body b
own (while_stmt s t b) x = labelled_body b
own (do_while_stmt s t b) x = labelled_body b
own (with_stmt s o b) x = labelled_body b
own (if_stmt s t c a) x = labelled_body c ++ labelled_body a
own (var_decl s k ds) x = lets (let_names (var_decl s k ds))
own (using_decl s w ds) x = lets (all_bound_names ds)
own (fn_decl s n f) x = late_name x.strict (name_in n) f
own (fn_expr s n f) x = late_name x.strict (name_in n) f
own (function s ps ds b g a) x = function_faults (x.method || not (are_bare ps)) (all_bound_names ps) b x
own (constructor s k ps b) x = function_faults true (all_bound_names ps) b x
own (arrow_expr s ps b a) x = function_faults true (all_bound_names ps) b x
own (getter_prop s k b) x = late_faults x.strict [] b
own (setter_prop s k p b) x = function_faults true (bound_names p) b x
own (class s ds ms k) x = clashes private_twice (privates ms)
own (class_method s k f m i) x = method_faults k f m i
own (private_method s k f m i) x = private_key_faults k
own (class_prop s k v i ds) x = field_faults k i
own (private_prop s k v i ds) x = private_key_faults k
own (auto_accessor s k v i ds) x = field_faults k i ++ private_key_faults k
own (private_name s n) x = fault (not (is_private_here n x)) private_undeclared s
own (ident s n) x = fault (x.in_part && bytes_eq n (codes "arguments")) arguments_in_part s
own (unary_expr s op a) x = given (x.strict && (op == delete_kind)) (deleted s a)
own (yield_expr s a g) x = fault x.in_parameters yield_in_parameters s
own (await_expr s a) x = fault x.in_parameters await_in_parameters s
own (meta_prop_expr s k) x = fault ((k == import_kind) && not x.in_module) meta_in_script s
own t x = []

-- The code around the parts of a node.
abbrev pub inside : Tree → Around → Inside
inside (script s ss l) x = rest (record (plainly x) { strict = x.strict || turns_strict ss; in_module = false })
inside (es_module s ss l) x = rest (record (strictly x) { in_module = true })
inside (labeled_stmt s l b) x = one (apart x) (rest (plainly x))
inside (break_stmt s l) x = rest (apart x)
inside (continue_stmt s l) x = rest (apart x)
inside (binding_ident s i) x = rest (apart x)
inside (catch_clause s p b) x = one (plainly x) (rest (in_catch p x))
inside (fn_decl s n f) x = one (apart x) (rest (plainly x))
inside (fn_expr s n f) x = one (apart x) (rest (plainly x))
inside (function s ps ds b g a) x = one (in_its_parameters b x) (one (plainly x) (rest (in_its_body (all_bound_names ps) b x)))
inside (constructor s k ps b) x = one (plainly x) (one (in_its_parameters b x) (rest (in_its_body (all_bound_names ps) b x)))
inside (arrow_expr s ps b a) x = one (in_arrow_parameters b x) (rest (in_arrow_body (all_bound_names ps) b x))
inside (getter_prop s k b) x = one (plainly x) (rest (in_its_body [] b x))
inside (setter_prop s k p b) x = one (plainly x) (one (in_its_parameters b x) (rest (in_its_body (bound_names p) b x)))
inside (method_prop s k f) x = one (plainly x) (rest (as_method x))
inside (class_decl s n k) x = one (apart x) (rest (plainly x))
inside (class_expr s n k) x = one (apart x) (rest (plainly x))
inside (class s ds ms k) x = one (strictly x) (one (strictly x) (rest (in_members ms x)))
inside (class_method s k f m i) x = one (plainly x) (rest (as_method x))
inside (private_method s k f m i) x = one (plainly x) (rest (as_method x))
inside (class_prop s k v i ds) x = one (plainly x) (one (plainly x) (rest (in_value x)))
inside (private_prop s k v i ds) x = one (plainly x) (one (plainly x) (rest (in_value x)))
inside (auto_accessor s k v i ds) x = one (plainly x) (one (plainly x) (rest (in_value x)))
inside (static_block s b) x = rest (in_static x)
inside t x = rest (plainly x)

abbrev pub step : Tree → List (List Walk) → Walk
step t fields x = own t x ++ within (in_order t fields) (inside t x)

-- ---- a program

-- code of its own, strict or not, of a module or not
abbrev pub outermost : Bool → Bool → Around
outermost in_module strict = record { strict = strict; in_module = in_module; before = []; is_body = false; method = false; in_parameters = false; in_part = false; classes = [] }

-- The faults of a tree in some code, and of a program, which is a script or a module.
unfoldable pub name_faults_in : Around → Tree → List NameFault
name_faults_in x t = by_place (fold step t x)

-- those of a program in the order of the walk
abbrev pub faults_found : Tree → List NameFault
faults_found t = fold step t (outermost false false)

unfoldable pub name_faults : Tree → List NameFault
name_faults t = by_place (faults_found t)
