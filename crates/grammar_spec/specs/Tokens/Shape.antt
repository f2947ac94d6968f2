-- What the grammar asks of a tree before its tokens: its level, the class of its last part, and its sort.
use Rattle.std.specs.Prelude.{ℕ, Bool, true, false, not, ◌&&◌, ◌||◌, ◌==◌, ◌+◌, min, nat_le, if◌then◌else◌, List, [], ◌∷◌, Option, Some, None, codes, bytes_eq}
use Rattle.tree_spec.specs.Kinds.{in_kind, exp_kind, nullish_coalescing_kind, let_kind, assign_kind, get_kind, set_kind, static_kind}
use Rattle.tree_spec.specs.Span.{Span}
use Rattle.grammar_spec.specs.Tokens.Operators.{expression_level, assignment_level, conditional_level, coalesce_level, bit_or_level, unary_level, update_level, new_level, call_level, member_level, primary_level, binary_level, other_end, postfix_end, closed_end, binding_end, key_end, accessor_end, static_end}
use Rattle.tree_spec.specs.Folds.{fold}
use Rattle.tree_spec.specs.Tree.{Tree, Trees, import_decl, export_decl, named_export, export_default_decl, export_default_expr, export_all, import_named_specifier, import_default_specifier, import_star_as_specifier, export_namespace_specifier, export_named_specifier, block_stmt, empty_stmt, debugger_stmt, with_stmt, return_stmt, labeled_stmt, break_stmt, continue_stmt, if_stmt, switch_stmt, switch_case, throw_stmt, try_stmt, catch_clause, while_stmt, do_while_stmt, for_stmt, for_in_stmt, for_of_stmt, expr_stmt, class_decl, fn_decl, var_decl, using_decl, var_declarator, function, param, class, constructor, class_method, private_method, class_prop, private_prop, static_block, auto_accessor, ident_name, computed_prop_name, private_name, this_expr, array_lit, object_lit, fn_expr, unary_expr, update_expr, bin_expr, assign_expr, member_expr, super_prop_expr, cond_expr, call_expr, new_expr, seq_expr, ident, tpl, tpl_element, tagged_tpl, arrow_expr, class_expr, yield_expr, meta_prop_expr, await_expr, paren_expr, opt_chain_expr, expr_or_spread, spread_element, key_value_prop, assign_prop, getter_prop, setter_prop, method_prop, str_lit, bool_lit, null_lit, number_lit, big_int_lit, regex_lit, binding_ident, array_pat, rest_pat, object_pat, assign_pat, key_value_pat_prop, assign_pat_prop, expr_pat, absent, hole, none, more}

-- ---- expressions

-- The level of an expression (clause 13), 0 for any other tree. A call is never the callee of `new`, nor is what hangs on one.
abbrev pub level : Tree → ℕ
level (this_expr s) = primary_level
level (ident s n) = primary_level
level (str_lit s u w) = primary_level
level (bool_lit s v) = primary_level
level (null_lit s) = primary_level
level (number_lit s v w) = primary_level
level (big_int_lit s r d w) = primary_level
level (regex_lit s e f) = primary_level
level (array_lit s xs) = primary_level
level (object_lit s ps) = primary_level
level (fn_expr s n f) = primary_level
level (class_expr s n k) = primary_level
level (tpl s es qs) = primary_level
level (paren_expr s e) = primary_level
level (meta_prop_expr s k) = member_level
level (super_prop_expr s o p) = member_level
level (member_expr s o p) = min member_level (level o)
level (tagged_tpl s t q) = min member_level (level t)
level (call_expr s f xs) = call_level
level (opt_chain_expr s o b) = call_level
level (new_expr s f absent) = new_level
level (new_expr s f xs) = member_level
level (update_expr s op b a) = update_level
level (unary_expr s op a) = unary_level
level (await_expr s a) = unary_level
level (bin_expr s op a b) = binary_level op
level (cond_expr s a b d) = conditional_level
level (assign_expr s op a b) = assignment_level
level (arrow_expr s ps b i) = assignment_level
level (yield_expr s a g) = assignment_level
level (seq_expr s xs) = expression_level
level _ = 0

abbrev pub is_absent : Tree → Bool
is_absent absent = true
is_absent _ = false

abbrev pub is_hole : Tree → Bool
is_hole hole = true
is_hole _ = false

abbrev pub is_block : Tree → Bool
is_block (block_stmt s ss) = true
is_block _ = false

-- the class of the last part, and of a list's last
abbrev mutual
  pub ends : Tree → ℕ
  ends (update_expr s op true a) = ends a
  ends (update_expr s op false a) = postfix_end
  ends (unary_expr s op a) = ends a
  ends (await_expr s a) = ends a
  ends (bin_expr s op a b) = ends b
  ends (cond_expr s a b d) = ends d
  ends (assign_expr s op a b) = ends b
  ends (arrow_expr s ps b i) = if is_block b then closed_end else ends b
  ends (yield_expr s a g) = if is_absent a then closed_end else ends a
  ends (seq_expr s xs) = last_ends xs
  ends _ = other_end

  pub last_ends : Trees → ℕ
  last_ends none = other_end
  last_ends (more t none) = ends t
  last_ends (more t (more u ts)) = last_ends (more u ts)

-- the last of some trees, and that of a sequence (13.16)
abbrev pub last_tree : Trees → Tree
last_tree none = absent
last_tree (more t none) = t
last_tree (more t (more u ts)) = last_tree (more u ts)

abbrev pub last_of : Tree → Tree
last_of (seq_expr s xs) = last_tree xs
last_of t = t

-- The left operand of a binary operator: `#x in`, no unary before `**`, no `||` and no `&&` before `??`.
abbrev pub is_private : Tree → Bool
is_private (private_name s n) = true
is_private _ = false

abbrev pub fits_left : ℕ → Tree → Bool
fits_left op a =
    if is_private a then op == in_kind
    else (if op == exp_kind then nat_le update_level (level a)
    else (if op == nullish_coalescing_kind then (level a == coalesce_level) || nat_le bit_or_level (level a)
    else nat_le (binary_level op) (level a)))

-- a chain, on which plain members and calls go on as chains
abbrev pub is_chain : Tree → Bool
is_chain (opt_chain_expr s o b) = true
is_chain _ = false

-- ---- names

-- the one name, not parenthesised
abbrev pub is_name : Tree → Bool
is_name (ident s n) = true
is_name _ = false

-- ---- patterns

-- BindingPattern or BindingIdentifier (14.3.3)
abbrev pub is_binding : Tree → Bool
is_binding (binding_ident s i) = true
is_binding (array_pat s xs) = true
is_binding (object_pat s ps) = true
is_binding _ = false

-- a simple target (13.15.1): a name, a member, a `super` member, or parentheses round one
abbrev pub is_simple : Tree → Bool
is_simple (ident s n) = true
is_simple (member_expr s o p) = true
is_simple (super_prop_expr s o p) = true
is_simple (paren_expr s e) = is_simple e
is_simple _ = false

-- the target of an expression in parentheses: what is no bare name, since that is a `binding_ident`
abbrev pub is_target_expr : Tree → Bool
is_target_expr (member_expr s o p) = true
is_target_expr (super_prop_expr s o p) = true
is_target_expr (paren_expr s e) = true
is_target_expr _ = false

abbrev pub is_bound_name : Tree → Bool
is_bound_name (binding_ident s i) = true
is_bound_name _ = false

-- ArrayAssignmentPattern, ObjectAssignmentPattern, and their counterparts that bind
abbrev pub is_structured : Tree → Bool
is_structured (array_pat s xs) = true
is_structured (object_pat s ps) = true
is_structured _ = false

-- what an operator may assign to: a pattern with `=` alone
abbrev pub is_target : ℕ → Tree → Bool
is_target op t = is_bound_name t || ((is_target_expr t && is_simple t) || ((op == assign_kind) && is_structured t))

-- what a pattern may hold in a place of its own (13.15.5, 14.3.3): where it assigns, also an expression that is a simple target and no bare name
abbrev pub is_assigned : Tree → Bool
is_assigned (expr_pat e) = is_target_expr e && is_simple e
is_assigned _ = false

abbrev pub is_place : Bool → Tree → Bool
is_place binds t = is_binding t || (not binds && is_assigned t)

-- an item of a pattern: such a place, with an initialiser or without
abbrev pub is_item_pat : Bool → Tree → Bool
is_item_pat binds (assign_pat s p e) = is_place binds p
is_item_pat binds (rest_pat s d p) = is_place binds p
is_item_pat binds t = is_place binds t

abbrev pub is_pattern_prop : Tree → Bool
is_pattern_prop (key_value_pat_prop s k v) = true
is_pattern_prop (assign_pat_prop s k v) = true
is_pattern_prop (rest_pat s d a) = true
is_pattern_prop _ = false

-- what a rest in an object pattern takes (13.15.5, 14.3.3): no pattern
abbrev pub takes_rest : Tree → Bool
takes_rest (rest_pat s d a) = not (is_structured a)
takes_rest _ = true

abbrev pub is_spread : Tree → Bool
is_spread (expr_or_spread s (Some d) e) = true
is_spread _ = false

-- ---- statements and declarations

-- Statement (clause 14)
abbrev pub is_statement : Tree → Bool
is_statement (block_stmt s ss) = true
is_statement (empty_stmt s) = true
is_statement (debugger_stmt s) = true
is_statement (with_stmt s o b) = true
is_statement (return_stmt s a) = true
is_statement (labeled_stmt s l b) = true
is_statement (break_stmt s l) = true
is_statement (continue_stmt s l) = true
is_statement (if_stmt s t a b) = true
is_statement (switch_stmt s d cs) = true
is_statement (throw_stmt s a) = true
is_statement (try_stmt s b h f) = true
is_statement (while_stmt s t b) = true
is_statement (do_while_stmt s t b) = true
is_statement (for_stmt s i t u b) = true
is_statement (for_in_stmt s l r b) = true
is_statement (for_of_stmt s w l r b) = true
is_statement (expr_stmt s e) = true
is_statement (var_decl s k ds) = not (nat_le let_kind k)
is_statement _ = false

-- Declaration (14.2): what stands in a list of statements alone
abbrev pub is_declaration : Tree → Bool
is_declaration (class_decl s n k) = true
is_declaration (fn_decl s n f) = true
is_declaration (var_decl s k ds) = nat_le let_kind k
is_declaration (using_decl s w ds) = true
is_declaration _ = false

abbrev pub is_item : Tree → Bool
is_item t = is_statement t || is_declaration t

-- ModuleItem (16.2)
abbrev pub is_module_decl : Tree → Bool
is_module_decl (import_decl s xs f w) = true
is_module_decl (export_decl s d) = true
is_module_decl (named_export s xs f w) = true
is_module_decl (export_default_decl s d) = true
is_module_decl (export_default_expr s e) = true
is_module_decl (export_all s f w) = true
is_module_decl _ = false

-- a plain function, neither async nor a generator (B.3.1, B.3.3)
abbrev pub is_plain_function : Tree → Bool
is_plain_function (fn_decl s n (function t ps ds b g a)) = not g && not a
is_plain_function _ = false

-- a rest, which nothing follows
abbrev pub is_rest : Tree → Bool
is_rest (rest_pat s d a) = true
is_rest (param s ds (rest_pat t d a)) = true
is_rest _ = false

-- ---- functions and classes, as the nodes round them see them

-- What a function is: its place, whether it is a generator or async, and how many parameters it has.
pub record FunctionParts : Type 0 where
  pub span : Span
  pub generator : Bool
  pub async : Bool
  pub count : ℕ

abbrev pub count_of : Trees → ℕ
count_of none = 0
count_of (more t ts) = count_of ts + 1

abbrev pub function_parts : Tree → Option FunctionParts
function_parts (function s ps ds b g a) = Some record { span = s; generator = g; async = a; count = count_of ps }
function_parts _ = None

abbrev pub class_span : Tree → Option Span
class_span (class s ds ms k) = Some s
class_span _ = None

-- ---- directives (11.2.1)

-- `'use strict'` without an escape, in either quotes
abbrev pub is_use_strict : Tree → Bool
is_use_strict (expr_stmt s (str_lit t u (Some w))) = bytes_eq w (codes "\"use strict\"") || bytes_eq w (codes "'use strict'")
is_use_strict _ = false

abbrev pub is_directive : Tree → Bool
is_directive (expr_stmt s (str_lit t u w)) = true
is_directive _ = false

-- whether the directives that start a body have `use strict`
abbrev pub turns_strict : Trees → Bool
turns_strict none = false
turns_strict (more t ts) = is_use_strict t || (is_directive t && turns_strict ts)

-- ---- parts of expressions, functions and classes

-- an element of an array, or an argument
abbrev pub is_element : Tree → Bool
is_element (expr_or_spread s d e) = true
is_element _ = false

-- PropertyDefinition (13.2.5)
abbrev pub is_prop : Tree → Bool
is_prop (ident s n) = true
is_prop (assign_prop s k e) = true
is_prop (spread_element s e) = true
is_prop (key_value_prop s k v) = true
is_prop (getter_prop s k b) = true
is_prop (setter_prop s k p b) = true
is_prop (method_prop s k f) = true
is_prop _ = false

-- PropertyName (13.2.5)
abbrev pub is_key : Tree → Bool
is_key (ident_name s n) = true
is_key (str_lit s u w) = true
is_key (number_lit s v w) = true
is_key (big_int_lit s r d w) = true
is_key (computed_prop_name s e) = true
is_key _ = false

-- a plain key or a private name (15.7)
abbrev pub is_any_key : Tree → Bool
is_any_key k = is_key k || is_private k

-- what follows a dot, and a name in brackets
abbrev pub is_word_name : Tree → Bool
is_word_name (ident_name s n) = true
is_word_name _ = false

abbrev pub is_computed : Tree → Bool
is_computed (computed_prop_name s e) = true
is_computed _ = false

-- ClassElement (15.7)
abbrev pub is_member : Tree → Bool
is_member (constructor s k ps b) = true
is_member (class_method s k f m i) = true
is_member (private_method s k f m i) = true
is_member (class_prop s k v i ds) = true
is_member (private_prop s k v i ds) = true
is_member (static_block s b) = true
is_member (auto_accessor s k v i ds) = true
is_member (empty_stmt s) = true
is_member _ = false

-- the key of a constructor (15.7.1)
abbrev pub constructs : Tree → Bool
constructs (ident_name s n) = bytes_eq n (codes "constructor")
constructs (str_lit s u w) = bytes_eq u (codes "constructor")
constructs _ = false

-- The class of a field that has no value: that of its key, by the kind of the key's first token (own).
abbrev pub field_end : Bool → ℕ → ℕ
field_end is_static k =
    if (k == get_kind) || (k == set_kind) then accessor_end
    else (if (k == static_kind) && not is_static then static_end else key_end)

abbrev pub is_param : Tree → Bool
is_param (param s ds p) = true
is_param _ = false

abbrev pub is_declarator : Tree → Bool
is_declarator (var_declarator s n v) = true
is_declarator _ = false

-- a declarator without initialiser
abbrev pub is_bare_declarator : Tree → Bool
is_bare_declarator (var_declarator s n absent) = true
is_bare_declarator _ = false

-- the class of a list of declarators: of its last one's initialiser, or of a binding without one
abbrev pub declarator_end : Tree → ℕ
declarator_end (var_declarator s n v) = if is_absent v then binding_end else ends v
declarator_end _ = binding_end

abbrev pub declarators_end : Trees → ℕ
declarators_end none = binding_end
declarators_end (more t none) = declarator_end t
declarators_end (more t (more u ts)) = declarators_end (more u ts)

abbrev pub is_case : Tree → Bool
is_case (switch_case s t b) = true
is_case _ = false

-- how many cases are `default`
abbrev pub is_default_case : Tree → Bool
is_default_case (switch_case s absent b) = true
is_default_case _ = false

abbrev pub is_catch : Tree → Bool
is_catch (catch_clause s p b) = true
is_catch _ = false

abbrev pub is_string : Tree → Bool
is_string (str_lit s u w) = true
is_string _ = false

abbrev pub is_cooked : Tree → Bool
is_cooked (tpl_element s t w (Some u)) = true
is_cooked _ = false

abbrev pub is_tail : Tree → Bool
is_tail (tpl_element s t w u) = t
is_tail _ = false

-- ---- parts of modules

abbrev pub is_default_import : Tree → Bool
is_default_import (import_default_specifier s l) = true
is_default_import _ = false

abbrev pub is_star_import : Tree → Bool
is_star_import (import_star_as_specifier s l) = true
is_star_import _ = false

abbrev pub is_named_import : Tree → Bool
is_named_import (import_named_specifier s l i) = true
is_named_import _ = false

abbrev pub is_star_export : Tree → Bool
is_star_export (export_namespace_specifier s n) = true
is_star_export _ = false

abbrev pub is_named_export : Tree → Bool
is_named_export (export_named_specifier s o e) = true
is_named_export _ = false

-- a word as the name of an export, and its place
abbrev pub export_name : Tree → Option (List ℕ × Span)
export_name (ident s n) = Some (n, s)
export_name _ = None

-- what `export` may stand before: any declaration but `using`, and `var`
abbrev pub is_exportable : Tree → Bool
is_exportable (class_decl s n k) = true
is_exportable (fn_decl s n f) = true
is_exportable (var_decl s k ds) = true
is_exportable _ = false

abbrev pub is_default_decl : Tree → Bool
is_default_decl (class_expr s n k) = true
is_default_decl (fn_expr s n f) = true
is_default_decl _ = false

-- WithClause: keys that are words or strings, values that are strings
abbrev pub is_attribute_key : Tree → Bool
is_attribute_key (ident_name s n) = true
is_attribute_key (str_lit s u w) = true
is_attribute_key _ = false

abbrev pub are_attributes : Trees → Bool
are_attributes none = true
are_attributes (more (key_value_prop s k v) ps) = (is_attribute_key k && is_string v) && are_attributes ps
are_attributes (more _ ps) = false

abbrev pub is_attributes : Tree → Bool
is_attributes (object_lit s ps) = are_attributes ps
is_attributes _ = false

-- ---- finished trees

-- Whether nothing of a cover is left: no property with an initialiser (13.2.5.1).
abbrev pub all_true : List Bool → Bool
all_true [] = true
all_true (b ∷ bs) = b && all_true bs

abbrev pub all_clean : List (List Bool) → Bool
all_clean [] = true
all_clean (bs ∷ kids) = all_true bs && all_clean kids

abbrev pub clean_step : Tree → List (List Bool) → Bool
clean_step (assign_prop s k e) kids = false
clean_step t kids = all_clean kids

unfoldable pub is_clean : Tree → Bool
is_clean t = fold clean_step t
