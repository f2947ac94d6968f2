-- The shape of a tree as a text, without places: a node in parentheses, its name first, an absent part as `-`, a hole as `_`.
use Rattle.std.proofs.Common.{ℕ, Bool, ◌==◌, if◌then◌else◌, List, [], ◌∷◌, ◌++◌, Option, Some, None, codes}
use Rattle.tree_spec.specs.Kinds.{var_kind, let_kind, new_kind, get_kind, set_kind, plus_plus_kind, minus_minus_kind, bang_kind, tilde_kind, add_kind, sub_kind}
use Rattle.tree_spec.specs.Operators.{operator_text}
use Rattle.tree_spec.specs.Words.{own_words, text_among}
use Rattle.tree_spec.specs.Folds.{fold}
use Rattle.tree_spec.specs.Tree.{Tree, script, es_module, import_decl, export_decl, named_export, export_default_decl, export_default_expr, export_all, import_named_specifier, import_default_specifier, import_star_as_specifier, export_namespace_specifier, export_default_specifier, export_named_specifier, block_stmt, empty_stmt, debugger_stmt, with_stmt, return_stmt, labeled_stmt, break_stmt, continue_stmt, if_stmt, switch_stmt, switch_case, throw_stmt, try_stmt, catch_clause, while_stmt, do_while_stmt, for_stmt, for_in_stmt, for_of_stmt, expr_stmt, class_decl, fn_decl, var_decl, using_decl, var_declarator, function, param, decorator, class, constructor, class_method, private_method, class_prop, private_prop, static_block, auto_accessor, ident_name, computed_prop_name, private_name, this_expr, array_lit, object_lit, fn_expr, unary_expr, update_expr, bin_expr, assign_expr, member_expr, super_prop_expr, cond_expr, call_expr, new_expr, seq_expr, ident, tpl, tpl_element, tagged_tpl, arrow_expr, class_expr, yield_expr, meta_prop_expr, await_expr, paren_expr, opt_chain_expr, opt_call, super, import, invalid, invalid_pat, invalid_target, expr_or_spread, spread_element, key_value_prop, assign_prop, getter_prop, setter_prop, method_prop, str_lit, bool_lit, null_lit, number_lit, big_int_lit, regex_lit, binding_ident, array_pat, rest_pat, object_pat, assign_pat, key_value_pat_prop, assign_pat_prop, expr_pat, list, absent, hole}

abbrev pub raw_of : Option (List ℕ) → List ℕ
raw_of None = []
raw_of (Some w) = w

-- the parts with blanks between, and a node
abbrev pub spaced : List (List ℕ) → List ℕ
spaced [] = []
spaced (w ∷ []) = w
spaced (w ∷ (v ∷ vs)) = w ++ (32 ∷ spaced (v ∷ vs))

abbrev pub flat : List (List (List ℕ)) → List (List ℕ)
flat [] = []
flat (ws ∷ kids) = ws ++ flat kids

abbrev pub inner : List (List (List ℕ)) → List ℕ
inner kids = spaced (flat kids)

abbrev pub named : List ℕ → List (List (List ℕ)) → List ℕ
named name kids = 40 ∷ (spaced (name ∷ flat kids) ++ codes ")")

-- the text of an operator with one operand
abbrev pub sign : ℕ → List ℕ
sign op =
    if op == plus_plus_kind then codes "++" else (if op == minus_minus_kind then codes "--" else (if op == bang_kind then codes "!" else (if op == tilde_kind then codes "~"
    else (if op == add_kind then codes "+" else (if op == sub_kind then codes "-" else text_among own_words op)))))

abbrev pub method_name : ℕ → Bool → List ℕ
method_name m i = (if i then codes "s" else []) ++ (if m == get_kind then codes "get" else (if m == set_kind then codes "set" else codes "method"))

abbrev pub step : Tree → List (List (List ℕ)) → List ℕ
step (script s ss l) kids = inner kids
step (es_module s ss l) kids = inner kids
step (import_decl x0 x1 x2 x3) kids = named (codes "import") kids
step (export_decl x0 x1) kids = named (codes "exportdecl") kids
step (named_export x0 x1 x2 x3) kids = named (codes "export") kids
step (export_default_decl x0 x1) kids = named (codes "default") kids
step (export_default_expr x0 x1) kids = named (codes "default") kids
step (export_all x0 x1 x2) kids = named (codes "exportall") kids
step (import_named_specifier x0 x1 x2) kids = named (codes "named") kids
step (import_default_specifier x0 x1) kids = named (codes "default") kids
step (import_star_as_specifier x0 x1) kids = named (codes "star") kids
step (export_namespace_specifier x0 x1) kids = named (codes "star") kids
step (export_default_specifier x0 x1) kids = named (codes "export_default_specifier") kids
step (export_named_specifier x0 x1 x2) kids = named (codes "named") kids
step (block_stmt x0 x1) kids = named (codes "block") kids
step (empty_stmt x0) kids = named (codes "empty") kids
step (debugger_stmt x0) kids = named (codes "debugger") kids
step (with_stmt x0 x1 x2) kids = named (codes "with") kids
step (return_stmt x0 x1) kids = named (codes "return") kids
step (labeled_stmt x0 x1 x2) kids = named (codes "label") kids
step (break_stmt x0 x1) kids = named (codes "break") kids
step (continue_stmt x0 x1) kids = named (codes "continue") kids
step (if_stmt x0 x1 x2 x3) kids = named (codes "if") kids
step (switch_stmt x0 x1 x2) kids = named (codes "switch") kids
step (switch_case x0 x1 x2) kids = named (codes "case") kids
step (throw_stmt x0 x1) kids = named (codes "throw") kids
step (try_stmt x0 x1 x2 x3) kids = named (codes "try") kids
step (catch_clause x0 x1 x2) kids = named (codes "catch") kids
step (while_stmt x0 x1 x2) kids = named (codes "while") kids
step (do_while_stmt x0 x1 x2) kids = named (codes "dowhile") kids
step (for_stmt x0 x1 x2 x3 x4) kids = named (codes "for") kids
step (for_in_stmt x0 x1 x2 x3) kids = named (codes "forin") kids
step (for_of_stmt s w l r b) kids = named (if w then codes "forawait" else codes "forof") kids
step (expr_stmt x0 x1) kids = named (codes "do") kids
step (class_decl x0 x1 x2) kids = named (codes "classdecl") kids
step (fn_decl x0 x1 x2) kids = named (codes "function") kids
step (var_decl s k ds) kids = named (if k == var_kind then codes "var" else (if k == let_kind then codes "let" else codes "const")) kids
step (using_decl x0 x1 x2) kids = named (codes "using") kids
step (var_declarator x0 x1 x2) kids = named (codes "let") kids
step (function s ps ds b g a) kids = named (if g then (if a then codes "async*" else codes "gen") else (if a then codes "async" else codes "of")) kids
step (param s ds p) kids = inner kids
step (decorator x0 x1) kids = named (codes "decorator") kids
step (class x0 x1 x2 x3) kids = named (codes "body") kids
step (constructor x0 x1 x2 x3) kids = named (codes "constructor") kids
step (class_method s k f m i) kids = named (method_name m i) kids
step (private_method s k f m i) kids = named (method_name m i) kids
step (class_prop s k v i ds) kids = named (if i then codes "sfield" else codes "field") kids
step (private_prop s k v i ds) kids = named (if i then codes "sfield" else codes "field") kids
step (static_block x0 x1) kids = named (codes "static") kids
step (auto_accessor s k v i ds) kids = named (if i then codes "saccessor" else codes "accessor") kids
step (ident_name s n) kids = n
step (computed_prop_name x0 x1) kids = named (codes "at") kids
step (private_name s n) kids = 35 ∷ n
step (this_expr s) kids = codes "this"
step (array_lit x0 x1) kids = named (codes "array") kids
step (object_lit x0 x1) kids = named (codes "object") kids
step (fn_expr x0 x1 x2) kids = named (codes "fn") kids
step (unary_expr s op a) kids = named (sign op) kids
step (update_expr s op b a) kids = named (if b then sign op else (sign op ++ codes "p")) kids
step (bin_expr s op a b) kids = named (operator_text op) kids
step (assign_expr s op a b) kids = named (operator_text op) kids
step (member_expr x0 x1 x2) kids = named (codes ".") kids
step (super_prop_expr x0 x1 x2) kids = named (codes "super.") kids
step (cond_expr x0 x1 x2 x3) kids = named (codes "?") kids
step (call_expr x0 x1 x2) kids = named (codes "call") kids
step (new_expr x0 x1 x2) kids = named (codes "new") kids
step (seq_expr x0 x1) kids = named (codes ",") kids
step (ident s n) kids = n
step (tpl x0 x1 x2) kids = named (codes "tpl") kids
step (tpl_element s t w u) kids = 96 ∷ w
step (tagged_tpl x0 x1 x2) kids = named (codes "tag") kids
step (arrow_expr s ps b a) kids = named (if a then codes "async=>" else codes "=>") kids
step (class_expr x0 x1 x2) kids = named (codes "class") kids
step (yield_expr s a g) kids = named (if g then codes "yield*" else codes "yield") kids
step (meta_prop_expr s k) kids = if k == new_kind then codes "new.target" else codes "import.meta"
step (await_expr x0 x1) kids = named (codes "await") kids
step (paren_expr x0 x1) kids = named (codes "paren") kids
step (opt_chain_expr s o b) kids = named (if o then codes "?." else codes "chain") kids
step (opt_call x0 x1 x2) kids = named (codes "call") kids
step (super s) kids = codes "super"
step (import s) kids = codes "import"
step (invalid s) kids = codes "!"
step (invalid_pat s) kids = codes "!"
step (invalid_target s) kids = codes "!"
step (expr_or_spread s None e) kids = inner kids
step (expr_or_spread s (Some d) e) kids = named (codes "...") kids
step (spread_element x0 x1) kids = named (codes "...") kids
step (key_value_prop x0 x1 x2) kids = named (codes ":") kids
step (assign_prop x0 x1 x2) kids = named (codes "assign_prop") kids
step (getter_prop x0 x1 x2) kids = named (codes "get") kids
step (setter_prop x0 x1 x2 x3) kids = named (codes "set") kids
step (method_prop x0 x1 x2) kids = named (codes "method") kids
step (str_lit s u w) kids = raw_of w
step (bool_lit s v) kids = if v then codes "true" else codes "false"
step (null_lit s) kids = codes "null"
step (number_lit s v w) kids = raw_of w
step (big_int_lit s b d w) kids = raw_of w
step (regex_lit s e f) kids = 47 ∷ (e ++ (47 ∷ f))
step (binding_ident s i) kids = inner kids
step (array_pat x0 x1) kids = named (codes "[]") kids
step (rest_pat x0 x1 x2) kids = named (codes "...") kids
step (object_pat x0 x1) kids = named (codes "{}") kids
step (assign_pat x0 x1 x2) kids = named (codes "=") kids
step (key_value_pat_prop x0 x1 x2) kids = named (codes ":") kids
step (assign_pat_prop x0 x1 x2) kids = named (codes "key") kids
step (expr_pat e) kids = inner kids
step (list xs) kids = named (codes "args") kids
step absent kids = codes "-"
step hole kids = codes "_"

unfoldable pub shape : Tree → List ℕ
shape t = fold step t
