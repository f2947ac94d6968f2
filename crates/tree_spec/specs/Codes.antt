-- Written by tools/tree/spec_tree.py from tools/tree/tree.table. Don't edit this file.
-- The size of a tree, where each tree counts two, since a child has a place around it; and its code, by which
-- proofs tell trees apart: a plain tree of numbers and, of that, a list in postfix order, read back by two
-- stacks.
use Rattle.std.specs.Prelude.{ℕ, zero, suc, ◌+◌, ◌≡◌, nat_lt, List, [], ◌∷◌, Bool, true, false, Option, Some, None, ℤ, pos, negsuc, refl}
use Rattle.std.specs.Coded.{Coded, code_by, coded×, coded_ℕ, coded_list, coded_option}
use mathlib.Core.Path.{◌∙◌}
use Rattle.base_token.specs.declared.place.Span.{Span}
use Rattle.base_token.specs.Numbers.{SpecNumber, Scaled, InRadix}
use Rattle.tree_spec.specs.Tree.{Tree, Trees, none, more, script, es_module, import_decl, export_decl, named_export, export_default_decl, export_default_expr, export_all, import_named_specifier, import_default_specifier, import_star_as_specifier, export_namespace_specifier, export_default_specifier, export_named_specifier, block_stmt, empty_stmt, debugger_stmt, with_stmt, return_stmt, labeled_stmt, break_stmt, continue_stmt, if_stmt, switch_stmt, switch_case, throw_stmt, try_stmt, catch_clause, while_stmt, do_while_stmt, for_stmt, for_in_stmt, for_of_stmt, expr_stmt, class_decl, fn_decl, var_decl, using_decl, var_declarator, function, param, decorator, class, constructor, class_method, private_method, class_prop, private_prop, static_block, auto_accessor, ident_name, computed_prop_name, private_name, this_expr, array_lit, object_lit, fn_expr, unary_expr, update_expr, bin_expr, assign_expr, member_expr, super_prop_expr, cond_expr, call_expr, new_expr, seq_expr, ident, tpl, tpl_element, tagged_tpl, arrow_expr, class_expr, yield_expr, meta_prop_expr, await_expr, paren_expr, opt_chain_expr, opt_call, super, import, invalid, expr_or_spread, spread_element, key_value_prop, assign_prop, getter_prop, setter_prop, method_prop, str_lit, bool_lit, null_lit, number_lit, big_int_lit, regex_lit, binding_ident, array_pat, rest_pat, object_pat, assign_pat, key_value_pat_prop, assign_pat_prop, expr_pat, invalid_pat, invalid_target, list, absent, hole}

-- twice how many trees a tree holds, itself included
abbrev mutual
  pub tree_size : Tree → ℕ
  tree_size (script _ body _) = trees_size body + 2
  tree_size (es_module _ body _) = trees_size body + 2
  tree_size (import_decl _ specifiers src with_) = trees_size specifiers + tree_size src + tree_size with_ + 2
  tree_size (export_decl _ decl) = tree_size decl + 2
  tree_size (named_export _ specifiers src with_) = trees_size specifiers + tree_size src + tree_size with_ + 2
  tree_size (export_default_decl _ decl) = tree_size decl + 2
  tree_size (export_default_expr _ expr) = tree_size expr + 2
  tree_size (export_all _ src with_) = tree_size src + tree_size with_ + 2
  tree_size (import_named_specifier _ local imported) = tree_size local + tree_size imported + 2
  tree_size (import_default_specifier _ local) = tree_size local + 2
  tree_size (import_star_as_specifier _ local) = tree_size local + 2
  tree_size (export_namespace_specifier _ name) = tree_size name + 2
  tree_size (export_default_specifier _ exported) = tree_size exported + 2
  tree_size (export_named_specifier _ orig exported) = tree_size orig + tree_size exported + 2
  tree_size (block_stmt _ stmts) = trees_size stmts + 2
  tree_size (empty_stmt _) = 2
  tree_size (debugger_stmt _) = 2
  tree_size (with_stmt _ obj body) = tree_size obj + tree_size body + 2
  tree_size (return_stmt _ arg) = tree_size arg + 2
  tree_size (labeled_stmt _ label body) = tree_size label + tree_size body + 2
  tree_size (break_stmt _ label) = tree_size label + 2
  tree_size (continue_stmt _ label) = tree_size label + 2
  tree_size (if_stmt _ test cons alt) = tree_size test + tree_size cons + tree_size alt + 2
  tree_size (switch_stmt _ discriminant cases) = tree_size discriminant + trees_size cases + 2
  tree_size (switch_case _ test cons) = tree_size test + trees_size cons + 2
  tree_size (throw_stmt _ arg) = tree_size arg + 2
  tree_size (try_stmt _ block handler finalizer) = tree_size block + tree_size handler + tree_size finalizer + 2
  tree_size (catch_clause _ param_ body) = tree_size param_ + tree_size body + 2
  tree_size (while_stmt _ test body) = tree_size test + tree_size body + 2
  tree_size (do_while_stmt _ test body) = tree_size test + tree_size body + 2
  tree_size (for_stmt _ init test update body) = tree_size init + tree_size test + tree_size update + tree_size body + 2
  tree_size (for_in_stmt _ left right body) = tree_size left + tree_size right + tree_size body + 2
  tree_size (for_of_stmt _ _ left right body) = tree_size left + tree_size right + tree_size body + 2
  tree_size (expr_stmt _ expr) = tree_size expr + 2
  tree_size (class_decl _ ident_ class_) = tree_size ident_ + tree_size class_ + 2
  tree_size (fn_decl _ ident_ function_) = tree_size ident_ + tree_size function_ + 2
  tree_size (var_decl _ _ decls) = trees_size decls + 2
  tree_size (using_decl _ _ decls) = trees_size decls + 2
  tree_size (var_declarator _ name init) = tree_size name + tree_size init + 2
  tree_size (function _ params decorators body _ _) = trees_size params + trees_size decorators + tree_size body + 2
  tree_size (param _ decorators pat) = trees_size decorators + tree_size pat + 2
  tree_size (decorator _ expr) = tree_size expr + 2
  tree_size (class _ decorators body super_class) = trees_size decorators + trees_size body + tree_size super_class + 2
  tree_size (constructor _ key params body) = tree_size key + trees_size params + tree_size body + 2
  tree_size (class_method _ key function_ _ _) = tree_size key + tree_size function_ + 2
  tree_size (private_method _ key function_ _ _) = tree_size key + tree_size function_ + 2
  tree_size (class_prop _ key value _ decorators) = tree_size key + tree_size value + trees_size decorators + 2
  tree_size (private_prop _ key value _ decorators) = tree_size key + tree_size value + trees_size decorators + 2
  tree_size (static_block _ body) = tree_size body + 2
  tree_size (auto_accessor _ key value _ decorators) = tree_size key + tree_size value + trees_size decorators + 2
  tree_size (ident_name _ _) = 2
  tree_size (computed_prop_name _ expr) = tree_size expr + 2
  tree_size (private_name _ _) = 2
  tree_size (this_expr _) = 2
  tree_size (array_lit _ elems) = trees_size elems + 2
  tree_size (object_lit _ props) = trees_size props + 2
  tree_size (fn_expr _ ident_ function_) = tree_size ident_ + tree_size function_ + 2
  tree_size (unary_expr _ _ arg) = tree_size arg + 2
  tree_size (update_expr _ _ _ arg) = tree_size arg + 2
  tree_size (bin_expr _ _ left right) = tree_size left + tree_size right + 2
  tree_size (assign_expr _ _ left right) = tree_size left + tree_size right + 2
  tree_size (member_expr _ obj prop) = tree_size obj + tree_size prop + 2
  tree_size (super_prop_expr _ obj prop) = tree_size obj + tree_size prop + 2
  tree_size (cond_expr _ test cons alt) = tree_size test + tree_size cons + tree_size alt + 2
  tree_size (call_expr _ callee args) = tree_size callee + trees_size args + 2
  tree_size (new_expr _ callee args) = tree_size callee + tree_size args + 2
  tree_size (seq_expr _ exprs) = trees_size exprs + 2
  tree_size (ident _ _) = 2
  tree_size (tpl _ exprs quasis) = trees_size exprs + trees_size quasis + 2
  tree_size (tpl_element _ _ _ _) = 2
  tree_size (tagged_tpl _ tag tpl_) = tree_size tag + tree_size tpl_ + 2
  tree_size (arrow_expr _ params body _) = trees_size params + tree_size body + 2
  tree_size (class_expr _ ident_ class_) = tree_size ident_ + tree_size class_ + 2
  tree_size (yield_expr _ arg _) = tree_size arg + 2
  tree_size (meta_prop_expr _ _) = 2
  tree_size (await_expr _ arg) = tree_size arg + 2
  tree_size (paren_expr _ expr) = tree_size expr + 2
  tree_size (opt_chain_expr _ _ base) = tree_size base + 2
  tree_size (opt_call _ callee args) = tree_size callee + trees_size args + 2
  tree_size (super _) = 2
  tree_size (import _) = 2
  tree_size (invalid _) = 2
  tree_size (expr_or_spread _ _ expr) = tree_size expr + 2
  tree_size (spread_element _ expr) = tree_size expr + 2
  tree_size (key_value_prop _ key value) = tree_size key + tree_size value + 2
  tree_size (assign_prop _ key value) = tree_size key + tree_size value + 2
  tree_size (getter_prop _ key body) = tree_size key + tree_size body + 2
  tree_size (setter_prop _ key param_ body) = tree_size key + tree_size param_ + tree_size body + 2
  tree_size (method_prop _ key function_) = tree_size key + tree_size function_ + 2
  tree_size (str_lit _ _ _) = 2
  tree_size (bool_lit _ _) = 2
  tree_size (null_lit _) = 2
  tree_size (number_lit _ _ _) = 2
  tree_size (big_int_lit _ _ _ _) = 2
  tree_size (regex_lit _ _ _) = 2
  tree_size (binding_ident _ id) = tree_size id + 2
  tree_size (array_pat _ elems) = trees_size elems + 2
  tree_size (rest_pat _ _ arg) = tree_size arg + 2
  tree_size (object_pat _ props) = trees_size props + 2
  tree_size (assign_pat _ left right) = tree_size left + tree_size right + 2
  tree_size (key_value_pat_prop _ key value) = tree_size key + tree_size value + 2
  tree_size (assign_pat_prop _ key value) = tree_size key + tree_size value + 2
  tree_size (expr_pat expr) = tree_size expr + 2
  tree_size (invalid_pat _) = 2
  tree_size (invalid_target _) = 2
  tree_size (list items) = trees_size items + 2
  tree_size absent = 2
  tree_size hole = 2

  pub trees_size : Trees → ℕ
  trees_size none = 0
  trees_size (more t ts) = tree_size t + trees_size ts

-- a plain tree: a kind, what it says, and its parts
mutual
  pub data Node : Type 0 where
    node : ℕ → List (List ℕ) → Nodes → Node
    row : Nodes → Node

  pub data Nodes : Type 0 where
    no_nodes : Nodes
    nodes : Node → Nodes → Nodes

-- what a tree says, as numbers, and back
abbrev pub put_span : Span → List ℕ
put_span s = s.lo.0 ∷ s.hi.0 ∷ []

abbrev pub get_span : List ℕ → Span
get_span (lo ∷ hi ∷ _) = record { lo = record { 0 = lo }; hi = record { 0 = hi } }
get_span _ = record { lo = record { 0 = 0 }; hi = record { 0 = 0 } }

abbrev pub get_word : List ℕ → ℕ
get_word [] = 0
get_word (n ∷ _) = n

abbrev pub put_bool : Bool → List ℕ
put_bool true = 1 ∷ []
put_bool false = []

abbrev pub get_bool : List ℕ → Bool
get_bool [] = false
get_bool (_ ∷ _) = true

pub bool_back : (b : Bool) → get_bool (put_bool b) ≡ b
bool_back true = refl
bool_back false = refl

abbrev pub put_text : Option (List ℕ) → List ℕ
put_text None = []
put_text (Some text) = 1 ∷ text

abbrev pub get_text : List ℕ → Option (List ℕ)
get_text [] = None
get_text (_ ∷ text) = Some text

pub text_back : (o : Option (List ℕ)) → get_text (put_text o) ≡ o
text_back None = refl
text_back (Some text) = refl

abbrev pub put_place : Option Span → List ℕ
put_place None = []
put_place (Some span) = 1 ∷ put_span span

abbrev pub get_place : List ℕ → Option Span
get_place [] = None
get_place (_ ∷ span) = Some (get_span span)

pub place_back : (o : Option Span) → get_place (put_place o) ≡ o
place_back None = refl
place_back (Some span) = refl

abbrev pub put_scaled : List ℕ → ℤ → List ℕ
put_scaled digits (pos n) = 0 ∷ n ∷ digits
put_scaled digits (negsuc n) = 1 ∷ n ∷ digits

abbrev pub put_number : SpecNumber → List ℕ
put_number (Scaled digits exponent) = put_scaled digits exponent
put_number (InRadix radix digits) = 2 ∷ radix ∷ digits

abbrev pub number_by : ℕ → ℕ → List ℕ → SpecNumber
number_by k n digits = elim (nat_lt k 1) [ true ↦ Scaled digits (pos n) | false ↦ elim (nat_lt k 2) [ true ↦ Scaled digits (negsuc n) | false ↦ InRadix n digits ] ]

abbrev pub get_number : List ℕ → SpecNumber
get_number (k ∷ n ∷ digits) = number_by k n digits
get_number _ = InRadix 0 []

pub scaled_back : (digits : List ℕ) (x : ℤ) → get_number (put_scaled digits x) ≡ Scaled digits x
scaled_back digits (pos n) = refl
scaled_back digits (negsuc n) = refl

pub number_back : (x : SpecNumber) → get_number (put_number x) ≡ x
number_back (Scaled digits exponent) = scaled_back digits exponent
number_back (InRadix radix digits) = refl

-- what stands at an index
abbrev pub said : ℕ → List (List ℕ) → List ℕ
said n [] = []
said zero (x ∷ xs) = x
said (suc n) (x ∷ xs) = said n xs

abbrev pub at : ℕ → Trees → Tree
at n none = absent
at zero (more t ts) = t
at (suc n) (more t ts) = at n ts

abbrev pub items_of : Tree → Trees
items_of (list items) = items
items_of _ = none

-- a tree as a plain one
abbrev mutual
  pub to_node : Tree → Node
  to_node (script span body shebang) = node 0 (put_span span ∷ put_text shebang ∷ []) (nodes (row (to_nodes body)) no_nodes)
  to_node (es_module span body shebang) = node 1 (put_span span ∷ put_text shebang ∷ []) (nodes (row (to_nodes body)) no_nodes)
  to_node (import_decl span specifiers src with_) = node 2 (put_span span ∷ []) (nodes (row (to_nodes specifiers)) (nodes (to_node src) (nodes (to_node with_) no_nodes)))
  to_node (export_decl span decl) = node 3 (put_span span ∷ []) (nodes (to_node decl) no_nodes)
  to_node (named_export span specifiers src with_) = node 4 (put_span span ∷ []) (nodes (row (to_nodes specifiers)) (nodes (to_node src) (nodes (to_node with_) no_nodes)))
  to_node (export_default_decl span decl) = node 5 (put_span span ∷ []) (nodes (to_node decl) no_nodes)
  to_node (export_default_expr span expr) = node 6 (put_span span ∷ []) (nodes (to_node expr) no_nodes)
  to_node (export_all span src with_) = node 7 (put_span span ∷ []) (nodes (to_node src) (nodes (to_node with_) no_nodes))
  to_node (import_named_specifier span local imported) = node 8 (put_span span ∷ []) (nodes (to_node local) (nodes (to_node imported) no_nodes))
  to_node (import_default_specifier span local) = node 9 (put_span span ∷ []) (nodes (to_node local) no_nodes)
  to_node (import_star_as_specifier span local) = node 10 (put_span span ∷ []) (nodes (to_node local) no_nodes)
  to_node (export_namespace_specifier span name) = node 11 (put_span span ∷ []) (nodes (to_node name) no_nodes)
  to_node (export_default_specifier span exported) = node 12 (put_span span ∷ []) (nodes (to_node exported) no_nodes)
  to_node (export_named_specifier span orig exported) = node 13 (put_span span ∷ []) (nodes (to_node orig) (nodes (to_node exported) no_nodes))
  to_node (block_stmt span stmts) = node 14 (put_span span ∷ []) (nodes (row (to_nodes stmts)) no_nodes)
  to_node (empty_stmt span) = node 15 (put_span span ∷ []) no_nodes
  to_node (debugger_stmt span) = node 16 (put_span span ∷ []) no_nodes
  to_node (with_stmt span obj body) = node 17 (put_span span ∷ []) (nodes (to_node obj) (nodes (to_node body) no_nodes))
  to_node (return_stmt span arg) = node 18 (put_span span ∷ []) (nodes (to_node arg) no_nodes)
  to_node (labeled_stmt span label body) = node 19 (put_span span ∷ []) (nodes (to_node label) (nodes (to_node body) no_nodes))
  to_node (break_stmt span label) = node 20 (put_span span ∷ []) (nodes (to_node label) no_nodes)
  to_node (continue_stmt span label) = node 21 (put_span span ∷ []) (nodes (to_node label) no_nodes)
  to_node (if_stmt span test cons alt) = node 22 (put_span span ∷ []) (nodes (to_node test) (nodes (to_node cons) (nodes (to_node alt) no_nodes)))
  to_node (switch_stmt span discriminant cases) = node 23 (put_span span ∷ []) (nodes (to_node discriminant) (nodes (row (to_nodes cases)) no_nodes))
  to_node (switch_case span test cons) = node 24 (put_span span ∷ []) (nodes (to_node test) (nodes (row (to_nodes cons)) no_nodes))
  to_node (throw_stmt span arg) = node 25 (put_span span ∷ []) (nodes (to_node arg) no_nodes)
  to_node (try_stmt span block handler finalizer) = node 26 (put_span span ∷ []) (nodes (to_node block) (nodes (to_node handler) (nodes (to_node finalizer) no_nodes)))
  to_node (catch_clause span param_ body) = node 27 (put_span span ∷ []) (nodes (to_node param_) (nodes (to_node body) no_nodes))
  to_node (while_stmt span test body) = node 28 (put_span span ∷ []) (nodes (to_node test) (nodes (to_node body) no_nodes))
  to_node (do_while_stmt span test body) = node 29 (put_span span ∷ []) (nodes (to_node test) (nodes (to_node body) no_nodes))
  to_node (for_stmt span init test update body) = node 30 (put_span span ∷ []) (nodes (to_node init) (nodes (to_node test) (nodes (to_node update) (nodes (to_node body) no_nodes))))
  to_node (for_in_stmt span left right body) = node 31 (put_span span ∷ []) (nodes (to_node left) (nodes (to_node right) (nodes (to_node body) no_nodes)))
  to_node (for_of_stmt span is_await left right body) = node 32 (put_span span ∷ put_bool is_await ∷ []) (nodes (to_node left) (nodes (to_node right) (nodes (to_node body) no_nodes)))
  to_node (expr_stmt span expr) = node 33 (put_span span ∷ []) (nodes (to_node expr) no_nodes)
  to_node (class_decl span ident_ class_) = node 34 (put_span span ∷ []) (nodes (to_node ident_) (nodes (to_node class_) no_nodes))
  to_node (fn_decl span ident_ function_) = node 35 (put_span span ∷ []) (nodes (to_node ident_) (nodes (to_node function_) no_nodes))
  to_node (var_decl span kind decls) = node 36 (put_span span ∷ (kind ∷ []) ∷ []) (nodes (row (to_nodes decls)) no_nodes)
  to_node (using_decl span is_await decls) = node 37 (put_span span ∷ put_bool is_await ∷ []) (nodes (row (to_nodes decls)) no_nodes)
  to_node (var_declarator span name init) = node 38 (put_span span ∷ []) (nodes (to_node name) (nodes (to_node init) no_nodes))
  to_node (function span params decorators body is_generator is_async) = node 39 (put_span span ∷ put_bool is_generator ∷ put_bool is_async ∷ []) (nodes (row (to_nodes params)) (nodes (row (to_nodes decorators)) (nodes (to_node body) no_nodes)))
  to_node (param span decorators pat) = node 40 (put_span span ∷ []) (nodes (row (to_nodes decorators)) (nodes (to_node pat) no_nodes))
  to_node (decorator span expr) = node 41 (put_span span ∷ []) (nodes (to_node expr) no_nodes)
  to_node (class span decorators body super_class) = node 42 (put_span span ∷ []) (nodes (row (to_nodes decorators)) (nodes (row (to_nodes body)) (nodes (to_node super_class) no_nodes)))
  to_node (constructor span key params body) = node 43 (put_span span ∷ []) (nodes (to_node key) (nodes (row (to_nodes params)) (nodes (to_node body) no_nodes)))
  to_node (class_method span key function_ kind is_static) = node 44 (put_span span ∷ (kind ∷ []) ∷ put_bool is_static ∷ []) (nodes (to_node key) (nodes (to_node function_) no_nodes))
  to_node (private_method span key function_ kind is_static) = node 45 (put_span span ∷ (kind ∷ []) ∷ put_bool is_static ∷ []) (nodes (to_node key) (nodes (to_node function_) no_nodes))
  to_node (class_prop span key value is_static decorators) = node 46 (put_span span ∷ put_bool is_static ∷ []) (nodes (to_node key) (nodes (to_node value) (nodes (row (to_nodes decorators)) no_nodes)))
  to_node (private_prop span key value is_static decorators) = node 47 (put_span span ∷ put_bool is_static ∷ []) (nodes (to_node key) (nodes (to_node value) (nodes (row (to_nodes decorators)) no_nodes)))
  to_node (static_block span body) = node 48 (put_span span ∷ []) (nodes (to_node body) no_nodes)
  to_node (auto_accessor span key value is_static decorators) = node 49 (put_span span ∷ put_bool is_static ∷ []) (nodes (to_node key) (nodes (to_node value) (nodes (row (to_nodes decorators)) no_nodes)))
  to_node (ident_name span sym) = node 50 (put_span span ∷ sym ∷ []) no_nodes
  to_node (computed_prop_name span expr) = node 51 (put_span span ∷ []) (nodes (to_node expr) no_nodes)
  to_node (private_name span name) = node 52 (put_span span ∷ name ∷ []) no_nodes
  to_node (this_expr span) = node 53 (put_span span ∷ []) no_nodes
  to_node (array_lit span elems) = node 54 (put_span span ∷ []) (nodes (row (to_nodes elems)) no_nodes)
  to_node (object_lit span props) = node 55 (put_span span ∷ []) (nodes (row (to_nodes props)) no_nodes)
  to_node (fn_expr span ident_ function_) = node 56 (put_span span ∷ []) (nodes (to_node ident_) (nodes (to_node function_) no_nodes))
  to_node (unary_expr span op arg) = node 57 (put_span span ∷ (op ∷ []) ∷ []) (nodes (to_node arg) no_nodes)
  to_node (update_expr span op prefix arg) = node 58 (put_span span ∷ (op ∷ []) ∷ put_bool prefix ∷ []) (nodes (to_node arg) no_nodes)
  to_node (bin_expr span op left right) = node 59 (put_span span ∷ (op ∷ []) ∷ []) (nodes (to_node left) (nodes (to_node right) no_nodes))
  to_node (assign_expr span op left right) = node 60 (put_span span ∷ (op ∷ []) ∷ []) (nodes (to_node left) (nodes (to_node right) no_nodes))
  to_node (member_expr span obj prop) = node 61 (put_span span ∷ []) (nodes (to_node obj) (nodes (to_node prop) no_nodes))
  to_node (super_prop_expr span obj prop) = node 62 (put_span span ∷ []) (nodes (to_node obj) (nodes (to_node prop) no_nodes))
  to_node (cond_expr span test cons alt) = node 63 (put_span span ∷ []) (nodes (to_node test) (nodes (to_node cons) (nodes (to_node alt) no_nodes)))
  to_node (call_expr span callee args) = node 64 (put_span span ∷ []) (nodes (to_node callee) (nodes (row (to_nodes args)) no_nodes))
  to_node (new_expr span callee args) = node 65 (put_span span ∷ []) (nodes (to_node callee) (nodes (to_node args) no_nodes))
  to_node (seq_expr span exprs) = node 66 (put_span span ∷ []) (nodes (row (to_nodes exprs)) no_nodes)
  to_node (ident span sym) = node 67 (put_span span ∷ sym ∷ []) no_nodes
  to_node (tpl span exprs quasis) = node 68 (put_span span ∷ []) (nodes (row (to_nodes exprs)) (nodes (row (to_nodes quasis)) no_nodes))
  to_node (tpl_element span tail raw cooked) = node 69 (put_span span ∷ put_bool tail ∷ raw ∷ put_text cooked ∷ []) no_nodes
  to_node (tagged_tpl span tag tpl_) = node 70 (put_span span ∷ []) (nodes (to_node tag) (nodes (to_node tpl_) no_nodes))
  to_node (arrow_expr span params body is_async) = node 71 (put_span span ∷ put_bool is_async ∷ []) (nodes (row (to_nodes params)) (nodes (to_node body) no_nodes))
  to_node (class_expr span ident_ class_) = node 72 (put_span span ∷ []) (nodes (to_node ident_) (nodes (to_node class_) no_nodes))
  to_node (yield_expr span arg delegate) = node 73 (put_span span ∷ put_bool delegate ∷ []) (nodes (to_node arg) no_nodes)
  to_node (meta_prop_expr span kind) = node 74 (put_span span ∷ (kind ∷ []) ∷ []) no_nodes
  to_node (await_expr span arg) = node 75 (put_span span ∷ []) (nodes (to_node arg) no_nodes)
  to_node (paren_expr span expr) = node 76 (put_span span ∷ []) (nodes (to_node expr) no_nodes)
  to_node (opt_chain_expr span optional base) = node 77 (put_span span ∷ put_bool optional ∷ []) (nodes (to_node base) no_nodes)
  to_node (opt_call span callee args) = node 78 (put_span span ∷ []) (nodes (to_node callee) (nodes (row (to_nodes args)) no_nodes))
  to_node (super span) = node 79 (put_span span ∷ []) no_nodes
  to_node (import span) = node 80 (put_span span ∷ []) no_nodes
  to_node (invalid span) = node 81 (put_span span ∷ []) no_nodes
  to_node (expr_or_spread span spread expr) = node 82 (put_span span ∷ put_place spread ∷ []) (nodes (to_node expr) no_nodes)
  to_node (spread_element span expr) = node 83 (put_span span ∷ []) (nodes (to_node expr) no_nodes)
  to_node (key_value_prop span key value) = node 84 (put_span span ∷ []) (nodes (to_node key) (nodes (to_node value) no_nodes))
  to_node (assign_prop span key value) = node 85 (put_span span ∷ []) (nodes (to_node key) (nodes (to_node value) no_nodes))
  to_node (getter_prop span key body) = node 86 (put_span span ∷ []) (nodes (to_node key) (nodes (to_node body) no_nodes))
  to_node (setter_prop span key param_ body) = node 87 (put_span span ∷ []) (nodes (to_node key) (nodes (to_node param_) (nodes (to_node body) no_nodes)))
  to_node (method_prop span key function_) = node 88 (put_span span ∷ []) (nodes (to_node key) (nodes (to_node function_) no_nodes))
  to_node (str_lit span units raw) = node 89 (put_span span ∷ units ∷ put_text raw ∷ []) no_nodes
  to_node (bool_lit span value) = node 90 (put_span span ∷ put_bool value ∷ []) no_nodes
  to_node (null_lit span) = node 91 (put_span span ∷ []) no_nodes
  to_node (number_lit span value raw) = node 92 (put_span span ∷ put_number value ∷ put_text raw ∷ []) no_nodes
  to_node (big_int_lit span radix digits raw) = node 93 (put_span span ∷ (radix ∷ []) ∷ digits ∷ put_text raw ∷ []) no_nodes
  to_node (regex_lit span exp flags) = node 94 (put_span span ∷ exp ∷ flags ∷ []) no_nodes
  to_node (binding_ident span id) = node 95 (put_span span ∷ []) (nodes (to_node id) no_nodes)
  to_node (array_pat span elems) = node 96 (put_span span ∷ []) (nodes (row (to_nodes elems)) no_nodes)
  to_node (rest_pat span dot3_token arg) = node 97 (put_span span ∷ put_span dot3_token ∷ []) (nodes (to_node arg) no_nodes)
  to_node (object_pat span props) = node 98 (put_span span ∷ []) (nodes (row (to_nodes props)) no_nodes)
  to_node (assign_pat span left right) = node 99 (put_span span ∷ []) (nodes (to_node left) (nodes (to_node right) no_nodes))
  to_node (key_value_pat_prop span key value) = node 100 (put_span span ∷ []) (nodes (to_node key) (nodes (to_node value) no_nodes))
  to_node (assign_pat_prop span key value) = node 101 (put_span span ∷ []) (nodes (to_node key) (nodes (to_node value) no_nodes))
  to_node (expr_pat expr) = node 102 [] (nodes (to_node expr) no_nodes)
  to_node (invalid_pat span) = node 103 (put_span span ∷ []) no_nodes
  to_node (invalid_target span) = node 104 (put_span span ∷ []) no_nodes
  to_node (list items) = node 105 [] (nodes (row (to_nodes items)) no_nodes)
  to_node absent = node 106 [] no_nodes
  to_node hole = node 107 [] no_nodes

  pub to_nodes : Trees → Nodes
  to_nodes none = no_nodes
  to_nodes (more t ts) = nodes (to_node t) (to_nodes ts)

-- a tree of a kind, of what it says and its parts
abbrev pub build : ℕ → List (List ℕ) → Trees → Tree
build k says kids = elim (nat_lt k 54) [ true ↦ elim (nat_lt k 27) [ true ↦ elim (nat_lt k 13) [ true ↦ elim (nat_lt k 6) [ true ↦ elim (nat_lt k 3) [ true ↦ elim (nat_lt k 1) [ true ↦ script (get_span (said 0 says)) (items_of (at 0 kids)) (get_text (said 1 says)) | false ↦ elim (nat_lt k 2) [ true ↦ es_module (get_span (said 0 says)) (items_of (at 0 kids)) (get_text (said 1 says)) | false ↦ import_decl (get_span (said 0 says)) (items_of (at 0 kids)) (at 1 kids) (at 2 kids) ] ] | false ↦ elim (nat_lt k 4) [ true ↦ export_decl (get_span (said 0 says)) (at 0 kids) | false ↦ elim (nat_lt k 5) [ true ↦ named_export (get_span (said 0 says)) (items_of (at 0 kids)) (at 1 kids) (at 2 kids) | false ↦ export_default_decl (get_span (said 0 says)) (at 0 kids) ] ] ] | false ↦ elim (nat_lt k 9) [ true ↦ elim (nat_lt k 7) [ true ↦ export_default_expr (get_span (said 0 says)) (at 0 kids) | false ↦ elim (nat_lt k 8) [ true ↦ export_all (get_span (said 0 says)) (at 0 kids) (at 1 kids) | false ↦ import_named_specifier (get_span (said 0 says)) (at 0 kids) (at 1 kids) ] ] | false ↦ elim (nat_lt k 11) [ true ↦ elim (nat_lt k 10) [ true ↦ import_default_specifier (get_span (said 0 says)) (at 0 kids) | false ↦ import_star_as_specifier (get_span (said 0 says)) (at 0 kids) ] | false ↦ elim (nat_lt k 12) [ true ↦ export_namespace_specifier (get_span (said 0 says)) (at 0 kids) | false ↦ export_default_specifier (get_span (said 0 says)) (at 0 kids) ] ] ] ] | false ↦ elim (nat_lt k 20) [ true ↦ elim (nat_lt k 16) [ true ↦ elim (nat_lt k 14) [ true ↦ export_named_specifier (get_span (said 0 says)) (at 0 kids) (at 1 kids) | false ↦ elim (nat_lt k 15) [ true ↦ block_stmt (get_span (said 0 says)) (items_of (at 0 kids)) | false ↦ empty_stmt (get_span (said 0 says)) ] ] | false ↦ elim (nat_lt k 18) [ true ↦ elim (nat_lt k 17) [ true ↦ debugger_stmt (get_span (said 0 says)) | false ↦ with_stmt (get_span (said 0 says)) (at 0 kids) (at 1 kids) ] | false ↦ elim (nat_lt k 19) [ true ↦ return_stmt (get_span (said 0 says)) (at 0 kids) | false ↦ labeled_stmt (get_span (said 0 says)) (at 0 kids) (at 1 kids) ] ] ] | false ↦ elim (nat_lt k 23) [ true ↦ elim (nat_lt k 21) [ true ↦ break_stmt (get_span (said 0 says)) (at 0 kids) | false ↦ elim (nat_lt k 22) [ true ↦ continue_stmt (get_span (said 0 says)) (at 0 kids) | false ↦ if_stmt (get_span (said 0 says)) (at 0 kids) (at 1 kids) (at 2 kids) ] ] | false ↦ elim (nat_lt k 25) [ true ↦ elim (nat_lt k 24) [ true ↦ switch_stmt (get_span (said 0 says)) (at 0 kids) (items_of (at 1 kids)) | false ↦ switch_case (get_span (said 0 says)) (at 0 kids) (items_of (at 1 kids)) ] | false ↦ elim (nat_lt k 26) [ true ↦ throw_stmt (get_span (said 0 says)) (at 0 kids) | false ↦ try_stmt (get_span (said 0 says)) (at 0 kids) (at 1 kids) (at 2 kids) ] ] ] ] ] | false ↦ elim (nat_lt k 40) [ true ↦ elim (nat_lt k 33) [ true ↦ elim (nat_lt k 30) [ true ↦ elim (nat_lt k 28) [ true ↦ catch_clause (get_span (said 0 says)) (at 0 kids) (at 1 kids) | false ↦ elim (nat_lt k 29) [ true ↦ while_stmt (get_span (said 0 says)) (at 0 kids) (at 1 kids) | false ↦ do_while_stmt (get_span (said 0 says)) (at 0 kids) (at 1 kids) ] ] | false ↦ elim (nat_lt k 31) [ true ↦ for_stmt (get_span (said 0 says)) (at 0 kids) (at 1 kids) (at 2 kids) (at 3 kids) | false ↦ elim (nat_lt k 32) [ true ↦ for_in_stmt (get_span (said 0 says)) (at 0 kids) (at 1 kids) (at 2 kids) | false ↦ for_of_stmt (get_span (said 0 says)) (get_bool (said 1 says)) (at 0 kids) (at 1 kids) (at 2 kids) ] ] ] | false ↦ elim (nat_lt k 36) [ true ↦ elim (nat_lt k 34) [ true ↦ expr_stmt (get_span (said 0 says)) (at 0 kids) | false ↦ elim (nat_lt k 35) [ true ↦ class_decl (get_span (said 0 says)) (at 0 kids) (at 1 kids) | false ↦ fn_decl (get_span (said 0 says)) (at 0 kids) (at 1 kids) ] ] | false ↦ elim (nat_lt k 38) [ true ↦ elim (nat_lt k 37) [ true ↦ var_decl (get_span (said 0 says)) (get_word (said 1 says)) (items_of (at 0 kids)) | false ↦ using_decl (get_span (said 0 says)) (get_bool (said 1 says)) (items_of (at 0 kids)) ] | false ↦ elim (nat_lt k 39) [ true ↦ var_declarator (get_span (said 0 says)) (at 0 kids) (at 1 kids) | false ↦ function (get_span (said 0 says)) (items_of (at 0 kids)) (items_of (at 1 kids)) (at 2 kids) (get_bool (said 1 says)) (get_bool (said 2 says)) ] ] ] ] | false ↦ elim (nat_lt k 47) [ true ↦ elim (nat_lt k 43) [ true ↦ elim (nat_lt k 41) [ true ↦ param (get_span (said 0 says)) (items_of (at 0 kids)) (at 1 kids) | false ↦ elim (nat_lt k 42) [ true ↦ decorator (get_span (said 0 says)) (at 0 kids) | false ↦ class (get_span (said 0 says)) (items_of (at 0 kids)) (items_of (at 1 kids)) (at 2 kids) ] ] | false ↦ elim (nat_lt k 45) [ true ↦ elim (nat_lt k 44) [ true ↦ constructor (get_span (said 0 says)) (at 0 kids) (items_of (at 1 kids)) (at 2 kids) | false ↦ class_method (get_span (said 0 says)) (at 0 kids) (at 1 kids) (get_word (said 1 says)) (get_bool (said 2 says)) ] | false ↦ elim (nat_lt k 46) [ true ↦ private_method (get_span (said 0 says)) (at 0 kids) (at 1 kids) (get_word (said 1 says)) (get_bool (said 2 says)) | false ↦ class_prop (get_span (said 0 says)) (at 0 kids) (at 1 kids) (get_bool (said 1 says)) (items_of (at 2 kids)) ] ] ] | false ↦ elim (nat_lt k 50) [ true ↦ elim (nat_lt k 48) [ true ↦ private_prop (get_span (said 0 says)) (at 0 kids) (at 1 kids) (get_bool (said 1 says)) (items_of (at 2 kids)) | false ↦ elim (nat_lt k 49) [ true ↦ static_block (get_span (said 0 says)) (at 0 kids) | false ↦ auto_accessor (get_span (said 0 says)) (at 0 kids) (at 1 kids) (get_bool (said 1 says)) (items_of (at 2 kids)) ] ] | false ↦ elim (nat_lt k 52) [ true ↦ elim (nat_lt k 51) [ true ↦ ident_name (get_span (said 0 says)) (said 1 says) | false ↦ computed_prop_name (get_span (said 0 says)) (at 0 kids) ] | false ↦ elim (nat_lt k 53) [ true ↦ private_name (get_span (said 0 says)) (said 1 says) | false ↦ this_expr (get_span (said 0 says)) ] ] ] ] ] ] | false ↦ elim (nat_lt k 81) [ true ↦ elim (nat_lt k 67) [ true ↦ elim (nat_lt k 60) [ true ↦ elim (nat_lt k 57) [ true ↦ elim (nat_lt k 55) [ true ↦ array_lit (get_span (said 0 says)) (items_of (at 0 kids)) | false ↦ elim (nat_lt k 56) [ true ↦ object_lit (get_span (said 0 says)) (items_of (at 0 kids)) | false ↦ fn_expr (get_span (said 0 says)) (at 0 kids) (at 1 kids) ] ] | false ↦ elim (nat_lt k 58) [ true ↦ unary_expr (get_span (said 0 says)) (get_word (said 1 says)) (at 0 kids) | false ↦ elim (nat_lt k 59) [ true ↦ update_expr (get_span (said 0 says)) (get_word (said 1 says)) (get_bool (said 2 says)) (at 0 kids) | false ↦ bin_expr (get_span (said 0 says)) (get_word (said 1 says)) (at 0 kids) (at 1 kids) ] ] ] | false ↦ elim (nat_lt k 63) [ true ↦ elim (nat_lt k 61) [ true ↦ assign_expr (get_span (said 0 says)) (get_word (said 1 says)) (at 0 kids) (at 1 kids) | false ↦ elim (nat_lt k 62) [ true ↦ member_expr (get_span (said 0 says)) (at 0 kids) (at 1 kids) | false ↦ super_prop_expr (get_span (said 0 says)) (at 0 kids) (at 1 kids) ] ] | false ↦ elim (nat_lt k 65) [ true ↦ elim (nat_lt k 64) [ true ↦ cond_expr (get_span (said 0 says)) (at 0 kids) (at 1 kids) (at 2 kids) | false ↦ call_expr (get_span (said 0 says)) (at 0 kids) (items_of (at 1 kids)) ] | false ↦ elim (nat_lt k 66) [ true ↦ new_expr (get_span (said 0 says)) (at 0 kids) (at 1 kids) | false ↦ seq_expr (get_span (said 0 says)) (items_of (at 0 kids)) ] ] ] ] | false ↦ elim (nat_lt k 74) [ true ↦ elim (nat_lt k 70) [ true ↦ elim (nat_lt k 68) [ true ↦ ident (get_span (said 0 says)) (said 1 says) | false ↦ elim (nat_lt k 69) [ true ↦ tpl (get_span (said 0 says)) (items_of (at 0 kids)) (items_of (at 1 kids)) | false ↦ tpl_element (get_span (said 0 says)) (get_bool (said 1 says)) (said 2 says) (get_text (said 3 says)) ] ] | false ↦ elim (nat_lt k 72) [ true ↦ elim (nat_lt k 71) [ true ↦ tagged_tpl (get_span (said 0 says)) (at 0 kids) (at 1 kids) | false ↦ arrow_expr (get_span (said 0 says)) (items_of (at 0 kids)) (at 1 kids) (get_bool (said 1 says)) ] | false ↦ elim (nat_lt k 73) [ true ↦ class_expr (get_span (said 0 says)) (at 0 kids) (at 1 kids) | false ↦ yield_expr (get_span (said 0 says)) (at 0 kids) (get_bool (said 1 says)) ] ] ] | false ↦ elim (nat_lt k 77) [ true ↦ elim (nat_lt k 75) [ true ↦ meta_prop_expr (get_span (said 0 says)) (get_word (said 1 says)) | false ↦ elim (nat_lt k 76) [ true ↦ await_expr (get_span (said 0 says)) (at 0 kids) | false ↦ paren_expr (get_span (said 0 says)) (at 0 kids) ] ] | false ↦ elim (nat_lt k 79) [ true ↦ elim (nat_lt k 78) [ true ↦ opt_chain_expr (get_span (said 0 says)) (get_bool (said 1 says)) (at 0 kids) | false ↦ opt_call (get_span (said 0 says)) (at 0 kids) (items_of (at 1 kids)) ] | false ↦ elim (nat_lt k 80) [ true ↦ super (get_span (said 0 says)) | false ↦ import (get_span (said 0 says)) ] ] ] ] ] | false ↦ elim (nat_lt k 94) [ true ↦ elim (nat_lt k 87) [ true ↦ elim (nat_lt k 84) [ true ↦ elim (nat_lt k 82) [ true ↦ invalid (get_span (said 0 says)) | false ↦ elim (nat_lt k 83) [ true ↦ expr_or_spread (get_span (said 0 says)) (get_place (said 1 says)) (at 0 kids) | false ↦ spread_element (get_span (said 0 says)) (at 0 kids) ] ] | false ↦ elim (nat_lt k 85) [ true ↦ key_value_prop (get_span (said 0 says)) (at 0 kids) (at 1 kids) | false ↦ elim (nat_lt k 86) [ true ↦ assign_prop (get_span (said 0 says)) (at 0 kids) (at 1 kids) | false ↦ getter_prop (get_span (said 0 says)) (at 0 kids) (at 1 kids) ] ] ] | false ↦ elim (nat_lt k 90) [ true ↦ elim (nat_lt k 88) [ true ↦ setter_prop (get_span (said 0 says)) (at 0 kids) (at 1 kids) (at 2 kids) | false ↦ elim (nat_lt k 89) [ true ↦ method_prop (get_span (said 0 says)) (at 0 kids) (at 1 kids) | false ↦ str_lit (get_span (said 0 says)) (said 1 says) (get_text (said 2 says)) ] ] | false ↦ elim (nat_lt k 92) [ true ↦ elim (nat_lt k 91) [ true ↦ bool_lit (get_span (said 0 says)) (get_bool (said 1 says)) | false ↦ null_lit (get_span (said 0 says)) ] | false ↦ elim (nat_lt k 93) [ true ↦ number_lit (get_span (said 0 says)) (get_number (said 1 says)) (get_text (said 2 says)) | false ↦ big_int_lit (get_span (said 0 says)) (get_word (said 1 says)) (said 2 says) (get_text (said 3 says)) ] ] ] ] | false ↦ elim (nat_lt k 101) [ true ↦ elim (nat_lt k 97) [ true ↦ elim (nat_lt k 95) [ true ↦ regex_lit (get_span (said 0 says)) (said 1 says) (said 2 says) | false ↦ elim (nat_lt k 96) [ true ↦ binding_ident (get_span (said 0 says)) (at 0 kids) | false ↦ array_pat (get_span (said 0 says)) (items_of (at 0 kids)) ] ] | false ↦ elim (nat_lt k 99) [ true ↦ elim (nat_lt k 98) [ true ↦ rest_pat (get_span (said 0 says)) (get_span (said 1 says)) (at 0 kids) | false ↦ object_pat (get_span (said 0 says)) (items_of (at 0 kids)) ] | false ↦ elim (nat_lt k 100) [ true ↦ assign_pat (get_span (said 0 says)) (at 0 kids) (at 1 kids) | false ↦ key_value_pat_prop (get_span (said 0 says)) (at 0 kids) (at 1 kids) ] ] ] | false ↦ elim (nat_lt k 104) [ true ↦ elim (nat_lt k 102) [ true ↦ assign_pat_prop (get_span (said 0 says)) (at 0 kids) (at 1 kids) | false ↦ elim (nat_lt k 103) [ true ↦ expr_pat (at 0 kids) | false ↦ invalid_pat (get_span (said 0 says)) ] ] | false ↦ elim (nat_lt k 106) [ true ↦ elim (nat_lt k 105) [ true ↦ invalid_target (get_span (said 0 says)) | false ↦ list (items_of (at 0 kids)) ] | false ↦ elim (nat_lt k 107) [ true ↦ absent | false ↦ hole ] ] ] ] ] ] ]

abbrev mutual
  pub from_node : Node → Tree
  from_node (node k says kids) = build k says (from_nodes kids)
  from_node (row kids) = list (from_nodes kids)

  pub from_nodes : Nodes → Trees
  from_nodes no_nodes = none
  from_nodes (nodes x xs) = more (from_node x) (from_nodes xs)

mutual
  pub tree_back : (t : Tree) → from_node (to_node t) ≡ t
  tree_back (script span body shebang) = λ i. script span (trees_back body i) (text_back shebang i)
  tree_back (es_module span body shebang) = λ i. es_module span (trees_back body i) (text_back shebang i)
  tree_back (import_decl span specifiers src with_) = λ i. import_decl span (trees_back specifiers i) (tree_back src i) (tree_back with_ i)
  tree_back (export_decl span decl) = λ i. export_decl span (tree_back decl i)
  tree_back (named_export span specifiers src with_) = λ i. named_export span (trees_back specifiers i) (tree_back src i) (tree_back with_ i)
  tree_back (export_default_decl span decl) = λ i. export_default_decl span (tree_back decl i)
  tree_back (export_default_expr span expr) = λ i. export_default_expr span (tree_back expr i)
  tree_back (export_all span src with_) = λ i. export_all span (tree_back src i) (tree_back with_ i)
  tree_back (import_named_specifier span local imported) = λ i. import_named_specifier span (tree_back local i) (tree_back imported i)
  tree_back (import_default_specifier span local) = λ i. import_default_specifier span (tree_back local i)
  tree_back (import_star_as_specifier span local) = λ i. import_star_as_specifier span (tree_back local i)
  tree_back (export_namespace_specifier span name) = λ i. export_namespace_specifier span (tree_back name i)
  tree_back (export_default_specifier span exported) = λ i. export_default_specifier span (tree_back exported i)
  tree_back (export_named_specifier span orig exported) = λ i. export_named_specifier span (tree_back orig i) (tree_back exported i)
  tree_back (block_stmt span stmts) = λ i. block_stmt span (trees_back stmts i)
  tree_back (empty_stmt span) = refl
  tree_back (debugger_stmt span) = refl
  tree_back (with_stmt span obj body) = λ i. with_stmt span (tree_back obj i) (tree_back body i)
  tree_back (return_stmt span arg) = λ i. return_stmt span (tree_back arg i)
  tree_back (labeled_stmt span label body) = λ i. labeled_stmt span (tree_back label i) (tree_back body i)
  tree_back (break_stmt span label) = λ i. break_stmt span (tree_back label i)
  tree_back (continue_stmt span label) = λ i. continue_stmt span (tree_back label i)
  tree_back (if_stmt span test cons alt) = λ i. if_stmt span (tree_back test i) (tree_back cons i) (tree_back alt i)
  tree_back (switch_stmt span discriminant cases) = λ i. switch_stmt span (tree_back discriminant i) (trees_back cases i)
  tree_back (switch_case span test cons) = λ i. switch_case span (tree_back test i) (trees_back cons i)
  tree_back (throw_stmt span arg) = λ i. throw_stmt span (tree_back arg i)
  tree_back (try_stmt span block handler finalizer) = λ i. try_stmt span (tree_back block i) (tree_back handler i) (tree_back finalizer i)
  tree_back (catch_clause span param_ body) = λ i. catch_clause span (tree_back param_ i) (tree_back body i)
  tree_back (while_stmt span test body) = λ i. while_stmt span (tree_back test i) (tree_back body i)
  tree_back (do_while_stmt span test body) = λ i. do_while_stmt span (tree_back test i) (tree_back body i)
  tree_back (for_stmt span init test update body) = λ i. for_stmt span (tree_back init i) (tree_back test i) (tree_back update i) (tree_back body i)
  tree_back (for_in_stmt span left right body) = λ i. for_in_stmt span (tree_back left i) (tree_back right i) (tree_back body i)
  tree_back (for_of_stmt span is_await left right body) = λ i. for_of_stmt span (bool_back is_await i) (tree_back left i) (tree_back right i) (tree_back body i)
  tree_back (expr_stmt span expr) = λ i. expr_stmt span (tree_back expr i)
  tree_back (class_decl span ident_ class_) = λ i. class_decl span (tree_back ident_ i) (tree_back class_ i)
  tree_back (fn_decl span ident_ function_) = λ i. fn_decl span (tree_back ident_ i) (tree_back function_ i)
  tree_back (var_decl span kind decls) = λ i. var_decl span kind (trees_back decls i)
  tree_back (using_decl span is_await decls) = λ i. using_decl span (bool_back is_await i) (trees_back decls i)
  tree_back (var_declarator span name init) = λ i. var_declarator span (tree_back name i) (tree_back init i)
  tree_back (function span params decorators body is_generator is_async) = λ i. function span (trees_back params i) (trees_back decorators i) (tree_back body i) (bool_back is_generator i) (bool_back is_async i)
  tree_back (param span decorators pat) = λ i. param span (trees_back decorators i) (tree_back pat i)
  tree_back (decorator span expr) = λ i. decorator span (tree_back expr i)
  tree_back (class span decorators body super_class) = λ i. class span (trees_back decorators i) (trees_back body i) (tree_back super_class i)
  tree_back (constructor span key params body) = λ i. constructor span (tree_back key i) (trees_back params i) (tree_back body i)
  tree_back (class_method span key function_ kind is_static) = λ i. class_method span (tree_back key i) (tree_back function_ i) kind (bool_back is_static i)
  tree_back (private_method span key function_ kind is_static) = λ i. private_method span (tree_back key i) (tree_back function_ i) kind (bool_back is_static i)
  tree_back (class_prop span key value is_static decorators) = λ i. class_prop span (tree_back key i) (tree_back value i) (bool_back is_static i) (trees_back decorators i)
  tree_back (private_prop span key value is_static decorators) = λ i. private_prop span (tree_back key i) (tree_back value i) (bool_back is_static i) (trees_back decorators i)
  tree_back (static_block span body) = λ i. static_block span (tree_back body i)
  tree_back (auto_accessor span key value is_static decorators) = λ i. auto_accessor span (tree_back key i) (tree_back value i) (bool_back is_static i) (trees_back decorators i)
  tree_back (ident_name span sym) = refl
  tree_back (computed_prop_name span expr) = λ i. computed_prop_name span (tree_back expr i)
  tree_back (private_name span name) = refl
  tree_back (this_expr span) = refl
  tree_back (array_lit span elems) = λ i. array_lit span (trees_back elems i)
  tree_back (object_lit span props) = λ i. object_lit span (trees_back props i)
  tree_back (fn_expr span ident_ function_) = λ i. fn_expr span (tree_back ident_ i) (tree_back function_ i)
  tree_back (unary_expr span op arg) = λ i. unary_expr span op (tree_back arg i)
  tree_back (update_expr span op prefix arg) = λ i. update_expr span op (bool_back prefix i) (tree_back arg i)
  tree_back (bin_expr span op left right) = λ i. bin_expr span op (tree_back left i) (tree_back right i)
  tree_back (assign_expr span op left right) = λ i. assign_expr span op (tree_back left i) (tree_back right i)
  tree_back (member_expr span obj prop) = λ i. member_expr span (tree_back obj i) (tree_back prop i)
  tree_back (super_prop_expr span obj prop) = λ i. super_prop_expr span (tree_back obj i) (tree_back prop i)
  tree_back (cond_expr span test cons alt) = λ i. cond_expr span (tree_back test i) (tree_back cons i) (tree_back alt i)
  tree_back (call_expr span callee args) = λ i. call_expr span (tree_back callee i) (trees_back args i)
  tree_back (new_expr span callee args) = λ i. new_expr span (tree_back callee i) (tree_back args i)
  tree_back (seq_expr span exprs) = λ i. seq_expr span (trees_back exprs i)
  tree_back (ident span sym) = refl
  tree_back (tpl span exprs quasis) = λ i. tpl span (trees_back exprs i) (trees_back quasis i)
  tree_back (tpl_element span tail raw cooked) = λ i. tpl_element span (bool_back tail i) raw (text_back cooked i)
  tree_back (tagged_tpl span tag tpl_) = λ i. tagged_tpl span (tree_back tag i) (tree_back tpl_ i)
  tree_back (arrow_expr span params body is_async) = λ i. arrow_expr span (trees_back params i) (tree_back body i) (bool_back is_async i)
  tree_back (class_expr span ident_ class_) = λ i. class_expr span (tree_back ident_ i) (tree_back class_ i)
  tree_back (yield_expr span arg delegate) = λ i. yield_expr span (tree_back arg i) (bool_back delegate i)
  tree_back (meta_prop_expr span kind) = refl
  tree_back (await_expr span arg) = λ i. await_expr span (tree_back arg i)
  tree_back (paren_expr span expr) = λ i. paren_expr span (tree_back expr i)
  tree_back (opt_chain_expr span optional base) = λ i. opt_chain_expr span (bool_back optional i) (tree_back base i)
  tree_back (opt_call span callee args) = λ i. opt_call span (tree_back callee i) (trees_back args i)
  tree_back (super span) = refl
  tree_back (import span) = refl
  tree_back (invalid span) = refl
  tree_back (expr_or_spread span spread expr) = λ i. expr_or_spread span (place_back spread i) (tree_back expr i)
  tree_back (spread_element span expr) = λ i. spread_element span (tree_back expr i)
  tree_back (key_value_prop span key value) = λ i. key_value_prop span (tree_back key i) (tree_back value i)
  tree_back (assign_prop span key value) = λ i. assign_prop span (tree_back key i) (tree_back value i)
  tree_back (getter_prop span key body) = λ i. getter_prop span (tree_back key i) (tree_back body i)
  tree_back (setter_prop span key param_ body) = λ i. setter_prop span (tree_back key i) (tree_back param_ i) (tree_back body i)
  tree_back (method_prop span key function_) = λ i. method_prop span (tree_back key i) (tree_back function_ i)
  tree_back (str_lit span units raw) = λ i. str_lit span units (text_back raw i)
  tree_back (bool_lit span value) = λ i. bool_lit span (bool_back value i)
  tree_back (null_lit span) = refl
  tree_back (number_lit span value raw) = λ i. number_lit span (number_back value i) (text_back raw i)
  tree_back (big_int_lit span radix digits raw) = λ i. big_int_lit span radix digits (text_back raw i)
  tree_back (regex_lit span exp flags) = refl
  tree_back (binding_ident span id) = λ i. binding_ident span (tree_back id i)
  tree_back (array_pat span elems) = λ i. array_pat span (trees_back elems i)
  tree_back (rest_pat span dot3_token arg) = λ i. rest_pat span dot3_token (tree_back arg i)
  tree_back (object_pat span props) = λ i. object_pat span (trees_back props i)
  tree_back (assign_pat span left right) = λ i. assign_pat span (tree_back left i) (tree_back right i)
  tree_back (key_value_pat_prop span key value) = λ i. key_value_pat_prop span (tree_back key i) (tree_back value i)
  tree_back (assign_pat_prop span key value) = λ i. assign_pat_prop span (tree_back key i) (tree_back value i)
  tree_back (expr_pat expr) = λ i. expr_pat (tree_back expr i)
  tree_back (invalid_pat span) = refl
  tree_back (invalid_target span) = refl
  tree_back (list items) = λ i. list (trees_back items i)
  tree_back absent = refl
  tree_back hole = refl

  pub trees_back : (ts : Trees) → from_nodes (to_nodes ts) ≡ ts
  trees_back none = refl
  trees_back (more t ts) = λ i. more (tree_back t i) (trees_back ts i)

-- a plain tree in postfix order
abbrev pub Mark : Type 0
Mark = Option (Option (Option (ℕ × List (List ℕ))))

abbrev mutual
  pub put_node : Node → List Mark → List Mark
  put_node (row ns) acc = put_nodes ns (Some (Some None) ∷ acc)
  put_node (node k says ns) acc = put_nodes ns (Some (Some (Some (k, says))) ∷ acc)

  pub put_nodes : Nodes → List Mark → List Mark
  put_nodes no_nodes acc = None ∷ acc
  put_nodes (nodes n ns) acc = put_node n (put_nodes ns (Some None ∷ acc))

-- what a list in postfix order stands for, over what was read
abbrev pub read : List Mark → List Node → List Nodes → List Node
read [] ns fs = ns
read (None ∷ r) ns fs = read r ns (no_nodes ∷ fs)
read (Some None ∷ r) [] fs = []
read (Some None ∷ r) (n ∷ ns) [] = []
read (Some None ∷ r) (n ∷ ns) (f ∷ fs) = read r ns (nodes n f ∷ fs)
read (Some (Some o) ∷ r) ns [] = []
read (Some (Some None) ∷ r) ns (f ∷ fs) = read r (row f ∷ ns) fs
read (Some (Some (Some p)) ∷ r) ns (f ∷ fs) = read r (node p.0 p.1 f ∷ ns) fs

mutual
  pub read_node : (t : Node) (acc : List Mark) (ns : List Node) (fs : List Nodes) → read (put_node t acc) ns fs ≡ read acc (t ∷ ns) fs
  read_node (node k says us) acc ns fs = read_nodes us (Some (Some (Some (k, says))) ∷ acc) ns fs
  read_node (row us) acc ns fs = read_nodes us (Some (Some None) ∷ acc) ns fs

  pub read_nodes : (u : Nodes) (acc : List Mark) (ns : List Node) (fs : List Nodes) → read (put_nodes u acc) ns fs ≡ read acc ns (u ∷ fs)
  read_nodes no_nodes acc ns fs = refl
  read_nodes (nodes n u) acc ns fs = read_node n (put_nodes u (Some None ∷ acc)) ns fs ∙ read_nodes u (Some None ∷ acc) (n ∷ ns) fs

abbrev pub first : List Node → Node
first [] = row no_nodes
first (n ∷ ns) = n

pub first_same : (xs : List Node) (ys : List Node) → xs ≡ ys → first xs ≡ first ys
first_same xs ys p = λ i. first (p i)

abbrev pub node_code : Coded Node
node_code = code_by (List Mark) (coded_list (coded_option (coded_option (coded_option (coded× coded_ℕ (coded_list (coded_list coded_ℕ))))))) (λ n. put_node n []) (λ ms. first (read ms [] [])) (λ n. first_same _ _ (read_node n [] [] []))

-- the code of a tree
abbrev pub tree_code : Coded Tree
tree_code = code_by Node node_code to_node from_node tree_back
