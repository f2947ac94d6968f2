-- Written by tools/tree/same.py from tools/tree/tree.table. Don't edit this file.
-- Which trees stand in which places.
use Rattle.std.specs.Prelude.{Bool, true, false}
use Rattle.tree_spec.specs.Tree.{Tree, block_stmt, empty_stmt, debugger_stmt, with_stmt, return_stmt, labeled_stmt, break_stmt, continue_stmt, if_stmt, switch_stmt, throw_stmt, try_stmt, while_stmt, do_while_stmt, for_stmt, for_in_stmt, for_of_stmt, expr_stmt, class_decl, fn_decl, var_decl, using_decl, private_name, this_expr, array_lit, object_lit, fn_expr, unary_expr, update_expr, bin_expr, assign_expr, member_expr, super_prop_expr, cond_expr, call_expr, new_expr, seq_expr, ident, tpl, tagged_tpl, arrow_expr, class_expr, yield_expr, meta_prop_expr, await_expr, paren_expr, opt_chain_expr, invalid, str_lit, bool_lit, null_lit, number_lit, big_int_lit, regex_lit, binding_ident, array_pat, rest_pat, object_pat, assign_pat, expr_pat, invalid_pat, absent, hole}

-- whether it is a statement or a declaration
abbrev pub is_statement : Tree → Bool
is_statement (block_stmt _ _) = true
is_statement (empty_stmt _) = true
is_statement (debugger_stmt _) = true
is_statement (with_stmt _ _ _) = true
is_statement (return_stmt _ _) = true
is_statement (labeled_stmt _ _ _) = true
is_statement (break_stmt _ _) = true
is_statement (continue_stmt _ _) = true
is_statement (if_stmt _ _ _ _) = true
is_statement (switch_stmt _ _ _) = true
is_statement (throw_stmt _ _) = true
is_statement (try_stmt _ _ _ _) = true
is_statement (while_stmt _ _ _) = true
is_statement (do_while_stmt _ _ _) = true
is_statement (for_stmt _ _ _ _ _) = true
is_statement (for_in_stmt _ _ _ _) = true
is_statement (for_of_stmt _ _ _ _ _) = true
is_statement (class_decl _ _ _) = true
is_statement (fn_decl _ _ _) = true
is_statement (var_decl _ _ _) = true
is_statement (using_decl _ _ _) = true
is_statement (expr_stmt _ _) = true
is_statement t = false

-- whether it is a pattern
abbrev pub is_pattern : Tree → Bool
is_pattern (binding_ident _ _) = true
is_pattern (array_pat _ _) = true
is_pattern (rest_pat _ _ _) = true
is_pattern (object_pat _ _) = true
is_pattern (assign_pat _ _ _) = true
is_pattern (expr_pat _) = true
is_pattern (invalid_pat _) = true
is_pattern t = false

-- whether it is an expression, a statement or a pattern
abbrev pub is_node : Tree → Bool
is_node (block_stmt _ _) = true
is_node (empty_stmt _) = true
is_node (debugger_stmt _) = true
is_node (with_stmt _ _ _) = true
is_node (return_stmt _ _) = true
is_node (labeled_stmt _ _ _) = true
is_node (break_stmt _ _) = true
is_node (continue_stmt _ _) = true
is_node (if_stmt _ _ _ _) = true
is_node (switch_stmt _ _ _) = true
is_node (throw_stmt _ _) = true
is_node (try_stmt _ _ _ _) = true
is_node (while_stmt _ _ _) = true
is_node (do_while_stmt _ _ _) = true
is_node (for_stmt _ _ _ _ _) = true
is_node (for_in_stmt _ _ _ _) = true
is_node (for_of_stmt _ _ _ _ _) = true
is_node (class_decl _ _ _) = true
is_node (fn_decl _ _ _) = true
is_node (var_decl _ _ _) = true
is_node (using_decl _ _ _) = true
is_node (expr_stmt _ _) = true
is_node (this_expr _) = true
is_node (array_lit _ _) = true
is_node (object_lit _ _) = true
is_node (fn_expr _ _ _) = true
is_node (unary_expr _ _ _) = true
is_node (update_expr _ _ _ _) = true
is_node (bin_expr _ _ _ _) = true
is_node (assign_expr _ _ _ _) = true
is_node (member_expr _ _ _) = true
is_node (super_prop_expr _ _ _) = true
is_node (cond_expr _ _ _ _) = true
is_node (call_expr _ _ _) = true
is_node (new_expr _ _ _) = true
is_node (seq_expr _ _) = true
is_node (ident _ _) = true
is_node (str_lit _ _ _) = true
is_node (bool_lit _ _) = true
is_node (null_lit _) = true
is_node (number_lit _ _ _) = true
is_node (big_int_lit _ _ _ _) = true
is_node (regex_lit _ _ _) = true
is_node (tpl _ _ _) = true
is_node (tagged_tpl _ _ _) = true
is_node (arrow_expr _ _ _ _) = true
is_node (class_expr _ _ _) = true
is_node (yield_expr _ _ _) = true
is_node (meta_prop_expr _ _) = true
is_node (await_expr _ _) = true
is_node (paren_expr _ _) = true
is_node (private_name _ _) = true
is_node (opt_chain_expr _ _ _) = true
is_node (invalid _) = true
is_node (binding_ident _ _) = true
is_node (array_pat _ _) = true
is_node (rest_pat _ _ _) = true
is_node (object_pat _ _) = true
is_node (assign_pat _ _ _) = true
is_node (expr_pat _) = true
is_node (invalid_pat _) = true
is_node t = false

-- whether it stands for what is left out
abbrev pub is_left_out : Tree → Bool
is_left_out absent = true
is_left_out hole = true
is_left_out t = false
