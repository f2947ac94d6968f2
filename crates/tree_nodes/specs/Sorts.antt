-- Of which sort a tree is, among those that stand in a child's place (ECMA-262, clauses 13, 14 and 14.3.3).
use Rattle.std.specs.Prelude.{Bool, true, false}
use Rattle.tree_spec.specs.Tree.{Tree, this_expr, array_lit, object_lit, fn_expr, unary_expr, update_expr, bin_expr, assign_expr, member_expr, super_prop_expr, cond_expr, call_expr, new_expr, seq_expr, ident, str_lit, bool_lit, null_lit, number_lit, big_int_lit, regex_lit, tpl, tagged_tpl, arrow_expr, class_expr, yield_expr, meta_prop_expr, await_expr, paren_expr, private_name, opt_chain_expr, invalid, opt_call, block_stmt, empty_stmt, debugger_stmt, with_stmt, return_stmt, labeled_stmt, break_stmt, continue_stmt, if_stmt, switch_stmt, throw_stmt, try_stmt, while_stmt, do_while_stmt, for_stmt, for_in_stmt, for_of_stmt, class_decl, fn_decl, var_decl, using_decl, expr_stmt, binding_ident, array_pat, rest_pat, object_pat, assign_pat, expr_pat, invalid_pat}

pub data Sort : Type 0 where
  expression : Sort
  statement : Sort
  pattern : Sort
  part : Sort

-- an expression, a statement or a declaration, a pattern, or a part of one of these
abbrev pub sort_of : Tree → Sort
sort_of (this_expr span) = expression
sort_of (array_lit span elems) = expression
sort_of (object_lit span props) = expression
sort_of (fn_expr span id fn_) = expression
sort_of (unary_expr span op arg) = expression
sort_of (update_expr span op prefix arg) = expression
sort_of (bin_expr span op left right) = expression
sort_of (assign_expr span op left right) = expression
sort_of (member_expr span obj prop) = expression
sort_of (super_prop_expr span obj prop) = expression
sort_of (cond_expr span test cons alt) = expression
sort_of (call_expr span callee args) = expression
sort_of (new_expr span callee args) = expression
sort_of (seq_expr span exprs) = expression
sort_of (ident span name) = expression
sort_of (str_lit span units raw) = expression
sort_of (bool_lit span value) = expression
sort_of (null_lit span) = expression
sort_of (number_lit span value raw) = expression
sort_of (big_int_lit span radix digits raw) = expression
sort_of (regex_lit span body flags) = expression
sort_of (tpl span exprs quasis) = expression
sort_of (tagged_tpl span tag tpl_) = expression
sort_of (arrow_expr span params body waits) = expression
sort_of (class_expr span id class_) = expression
sort_of (yield_expr span arg delegate) = expression
sort_of (meta_prop_expr span kind) = expression
sort_of (await_expr span arg) = expression
sort_of (paren_expr span e) = expression
sort_of (private_name span name) = expression
sort_of (opt_chain_expr span optional base) = expression
sort_of (invalid span) = expression
sort_of (opt_call span callee args) = expression
sort_of (block_stmt span stmts) = statement
sort_of (empty_stmt span) = statement
sort_of (debugger_stmt span) = statement
sort_of (with_stmt span obj body) = statement
sort_of (return_stmt span arg) = statement
sort_of (labeled_stmt span label body) = statement
sort_of (break_stmt span label) = statement
sort_of (continue_stmt span label) = statement
sort_of (if_stmt span test cons alt) = statement
sort_of (switch_stmt span discriminant cases) = statement
sort_of (throw_stmt span arg) = statement
sort_of (try_stmt span block handler finalizer) = statement
sort_of (while_stmt span test body) = statement
sort_of (do_while_stmt span test body) = statement
sort_of (for_stmt span init test update body) = statement
sort_of (for_in_stmt span left right body) = statement
sort_of (for_of_stmt span waits left right body) = statement
sort_of (class_decl span id class_) = statement
sort_of (fn_decl span id fn_) = statement
sort_of (var_decl span kind decls) = statement
sort_of (using_decl span waits decls) = statement
sort_of (expr_stmt span e) = statement
sort_of (binding_ident span id) = pattern
sort_of (array_pat span elems) = pattern
sort_of (rest_pat span dots arg) = pattern
sort_of (object_pat span props) = pattern
sort_of (assign_pat span left right) = pattern
sort_of (expr_pat e) = pattern
sort_of (invalid_pat span) = pattern
sort_of t = part

abbrev pub is_expression : Sort → Bool
is_expression expression = true
is_expression s = false

abbrev pub is_statement : Sort → Bool
is_statement statement = true
is_statement s = false

abbrev pub is_pattern : Sort → Bool
is_pattern pattern = true
is_pattern s = false

abbrev pub is_sorted : Sort → Bool
is_sorted part = false
is_sorted s = true
