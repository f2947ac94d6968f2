-- What produces tokens can be printed: by induction on the tree, a line a node.
use Rattle.std.proofs.Common.{true, false}
use Rattle.tree_spec.specs.Tree.{Tree, Trees, script, es_module, import_decl, export_decl, named_export, export_default_decl, export_default_expr, export_all, import_named_specifier, import_default_specifier, import_star_as_specifier, export_namespace_specifier, export_named_specifier, block_stmt, empty_stmt, debugger_stmt, with_stmt, return_stmt, labeled_stmt, break_stmt, continue_stmt, if_stmt, switch_stmt, switch_case, throw_stmt, try_stmt, catch_clause, while_stmt, do_while_stmt, for_stmt, for_in_stmt, for_of_stmt, expr_stmt, class_decl, fn_decl, var_decl, using_decl, var_declarator, function, param, class, constructor, class_method, private_method, class_prop, private_prop, static_block, auto_accessor, ident_name, computed_prop_name, private_name, this_expr, array_lit, object_lit, fn_expr, unary_expr, update_expr, bin_expr, assign_expr, member_expr, super_prop_expr, cond_expr, call_expr, new_expr, seq_expr, ident, tpl, tpl_element, tagged_tpl, arrow_expr, class_expr, yield_expr, meta_prop_expr, await_expr, paren_expr, opt_chain_expr, opt_call, super, import, expr_or_spread, spread_element, key_value_prop, assign_prop, getter_prop, setter_prop, method_prop, str_lit, bool_lit, null_lit, number_lit, big_int_lit, regex_lit, binding_ident, array_pat, rest_pat, object_pat, assign_pat, key_value_pat_prop, assign_pat_prop, expr_pat, list, absent, none, more}
use Rattle.grammar_spec.specs.Tokens.Operators.{expression_level, assignment_level}
use Rattle.print_layout_spec.specs.declared.look.Look.{Look}
use Rattle.print_layout_spec.specs.declared.look.Stand.TheVariants.{Alone}
use Rattle.print_layout_spec.specs.Layout.{is_key}
use Rattle.print_layout_laws.proofs.Fine.{◌▸◌, ok, token, if_fine, maybe, name_fine, identifier_fine, number_fine}
use Rattle.print_layout_laws.proofs.Forms.{Sound, AllSound}
use Rattle.print_layout_laws.proofs.PrintedExpressions.{element, array, object, property, cover, spread, bracketed, parens, template, accessed, dotted, member, super_property, call, super_call, import_call, new_with, new_bare, chain_member, chain_call, tagged, update, unary, awaits, binary, conditional, assignment, sequence, yield_bare, yields, array_pattern, object_pattern, initialised, rests, keyed_item, named_item}
use Rattle.print_layout_laws.proofs.PrintedFunctions.{InnerSound, parameter, function_inner, function_good, function_declared, function_expressed, arrow_block, arrow_expression, object_method, getter, setter, class_inner, class_good, class_declared, class_expressed, constructs, class_method_on, private_method_on, field, private_field, accessor, static_block_on}
use Rattle.print_layout_laws.proofs.PrintedStatements.{block, declarator, variables, using_on, expression_statement, if_on, do_while, while_on, for_expression, for_variables, for_using, head_variables, head_using, head_target, of_target, for_in, for_of, continue_on, break_on, return_on, throw_on, with_on, labelled, case_on, switch_on, catch_on, try_on}
use Rattle.print_layout_laws.proofs.PrintedModules.{named_import, default_import, star_import, import_on, named_export_on, star_export, exports_on, export_all_on, export_declaration, default_declaration, default_expression, script_on, module_on}

module _ (look : Look) where
  mutual
    pub good : (t : Tree) → Sound look t
    good (this_expr s) c = λ ts r h st. ok ▸ ok ▸ ok ▸ ok
    good (null_lit s) c = λ ts r h st. ok ▸ ok
    good (bool_lit s v) c = λ ts r h st. ok ▸ ok
    good (ident s n) c = λ ts r h st. identifier_fine look s n
    good (ident_name s n) c = λ ts r h st. if_fine (is_key st) (ok ▸ ok ▸ ok) (name_fine look s n)
    good (private_name s n) c = λ ts r h st. ok ▸ ok ▸ name_fine look s n ▸ ok
    good (str_lit s u w) c = λ ts r h st. maybe _ _ ▸ ok ▸ ok ▸ ok ▸ maybe _ _
    good (number_lit s v w) c = λ ts r h st. maybe _ _ ▸ number_fine look s v w
    good (big_int_lit s b d w) c = λ ts r h st. maybe _ _ ▸ ok ▸ ok ▸ ok ▸ ok
    good (regex_lit s e f) c = λ ts r h st. ok ▸ token
    good (expr_or_spread s d e) c = element look s d e (good e) c
    good (array_lit s xs) c = array look s xs (goods xs) c
    good (object_lit s ps) c = object look s ps (goods ps) c
    good (key_value_prop s k v) c = property look s k v (good k) (good v) c
    good (assign_prop s k e) c = cover look s k e (good k) (good e) c
    good (spread_element s e) c = spread look s e (good e) c
    good (computed_prop_name s e) c = bracketed look assignment_level s e (good e) c
    good (tpl_element s t w u) c = λ ts r h st. ok ▸ token ▸ ok
    good (tpl s es qs) c = template look false s es qs (goods es) c
    good (paren_expr s e) c = parens look s e (good e) c
    good (member_expr s o (computed_prop_name t e)) c = member look s o (computed_prop_name t e) (good o) c _ (bracketed look expression_level t e (good e) c)
    good (member_expr s o k) c = member look s o k (good o) c _ (dotted look true k (good k) c)
    good (super_prop_expr s (super t) (computed_prop_name q e)) c = super_property look s t (computed_prop_name q e) c _ (bracketed look expression_level q e (good e) c)
    good (super_prop_expr s (super t) k) c = super_property look s t k c _ (dotted look false k (good k) c)
    good (super_prop_expr s _ k) c = λ ts r h. absurd h
    good (call_expr s (super t) xs) c = super_call look s t xs (goods xs) c
    good (call_expr s (import t) xs) c = import_call look s t xs (goods xs) c
    good (call_expr s f xs) c = call look s f xs (good f) (goods xs) c
    good (new_expr s f absent) c = new_bare look s f (good f) c
    good (new_expr s f (list xs)) c = new_with look s f xs (good f) (goods xs) c
    good (new_expr s f _) c = λ ts r h. absurd h
    good (opt_chain_expr s q (member_expr t o (computed_prop_name b e))) c = chain_member look s q t o (computed_prop_name b e) (good o) c _ _ (bracketed look expression_level b e (good e) c) (bracketed look expression_level b e (good e) c)
    good (opt_chain_expr s q (member_expr t o k)) c = chain_member look s q t o k (good o) c _ _ (dotted look true k (good k) c) (accessed look true k (good k) c)
    good (opt_chain_expr s q (opt_call t f xs)) c = chain_call look s q t f xs (good f) (goods xs) c
    good (opt_chain_expr s q _) c = λ ts r h. absurd h
    good (tagged_tpl s t (tpl q es qs)) c = tagged look s t q es qs (good t) (goods es) c
    good (tagged_tpl s t _) c = λ ts r h. absurd h
    good (meta_prop_expr s k) c = λ ts r h st. ok ▸ if_fine _ token token
    good (update_expr s op b a) c = update look s op b a (good a) c
    good (unary_expr s op a) c = unary look s op a (good a) c
    good (await_expr s a) c = awaits look s a (good a) c
    good (bin_expr s op a b) c = binary look s op a b (good a) (good b) c
    good (cond_expr s a b d) c = conditional look s a b d (good a) (good b) (good d) c
    good (assign_expr s op a b) c = assignment look s op a b (good a) (good b) c
    good (arrow_expr s ps (block_stmt b ss) i) c = arrow_block look s ps b ss i (goods ps) (goods ss) c
    good (arrow_expr s ps e i) c = arrow_expression look s ps e i (goods ps) (good e) c
    good (yield_expr s absent g) c = λ ts r h. yield_bare look s g
    good (yield_expr s a g) c = yields look s a g (good a) c
    good (seq_expr s xs) c = sequence look s xs (goods xs) c
    good (binding_ident s (ident t n)) c = λ ts r h st. identifier_fine look s n
    good (binding_ident s _) c = λ ts r h. absurd h
    good (array_pat s xs) c = array_pattern look s xs (goods xs) c
    good (object_pat s ps) c = object_pattern look s ps (goods ps) c
    good (assign_pat s a e) c = initialised look s a e (good a) (good e) c
    good (rest_pat s d a) c = rests look s d a (good a) c
    good (key_value_pat_prop s k a) c = keyed_item look s k a (good k) (good a) c
    good (assign_pat_prop s k e) c = named_item look s k e (good k) (good e) c
    good (expr_pat e) c = λ ts r h st. good e c ts r h.1 Alone
    good (param s ds a) c = parameter look s ds a (good a) c
    good (function s ps ds (block_stmt b ss) g a) c = function_good look s ps ds (block_stmt b ss) g a (function_inner look s ps ds b ss g a (goods ps) (goods ss)) c
    good (function s ps ds _ g a) c = λ ts r h. absurd h
    good (fn_decl s n f) c = function_declared look s n f (good n) (inner f) c
    good (fn_expr s n f) c = function_expressed look s n f (good n) (inner f) c
    good (method_prop s k f) c = object_method look s k f (good k) (inner f) c
    good (getter_prop s k (block_stmt b ss)) c = getter look s k b ss (good k) (goods ss) c
    good (getter_prop s k _) c = λ ts r h. absurd h
    good (setter_prop s k a (block_stmt b ss)) c = setter look s k a b ss (good k) (good a) (goods ss) c
    good (setter_prop s k a _) c = λ ts r h. absurd h
    good (class s ds ms k) c = class_good look s ds ms k (class_inner look s ds ms k (goods ms) (good k)) c
    good (class_decl s n k) c = class_declared look s n k (good n) (inner k) c
    good (class_expr s n k) c = class_expressed look s n k (good n) (inner k) c
    good (constructor s k ps (block_stmt b ss)) c = constructs look s k ps b ss (goods ps) (goods ss) c
    good (constructor s k ps _) c = λ ts r h. absurd h
    good (class_method s k f m i) c = class_method_on look s k f m i (good k) (inner f) c
    good (private_method s k f m i) c = private_method_on look s k f m i (good k) (inner f) c
    good (class_prop s k v i ds) c = field look s k v i ds (good k) (good v) c
    good (private_prop s k v i ds) c = private_field look s k v i ds (good k) (good v) c
    good (auto_accessor s k v i ds) c = accessor look s k v i ds (good k) (good v) c
    good (static_block s (block_stmt b ss)) c = static_block_on look s b ss (goods ss) c
    good (static_block s _) c = λ ts r h. absurd h
    good (block_stmt s ss) c = block look s ss (goods ss) c
    good (empty_stmt s) c = λ ts r h st. ok
    good (debugger_stmt s) c = λ ts r h st. ok ▸ ok ▸ ok ▸ ok ▸ ok
    good (var_decl s k ds) c = variables look s k ds (goods ds) c
    good (using_decl s w ds) c = using_on look s w ds (goods ds) c
    good (var_declarator s n e) c = declarator look s n e (good n) (good e) c
    good (expr_stmt s e) c = expression_statement look s e (good e) c
    good (if_stmt s t a b) c = if_on look s t a b (good t) (good a) (good b) c
    good (do_while_stmt s t b) c = do_while look s t b (good t) (good b) c
    good (while_stmt s t b) c = while_on look s t b (good t) (good b) c
    good (for_stmt s (var_decl v k ds) t u b) c = for_variables look s v k ds t u b (goods ds) (good t) (good u) (good b) c
    good (for_stmt s (using_decl v w ds) t u b) c = for_using look s v w ds t u b (goods ds) (good t) (good u) (good b) c
    good (for_stmt s i t u b) c = for_expression look s i t u b (good i) (good t) (good u) (good b) c
    good (for_in_stmt s (var_decl v k ds) e b) c = for_in look s (var_decl v k ds) e b c _ (head_variables look v k ds (goods ds) c) (good e) (good b)
    good (for_in_stmt s (using_decl v w ds) e b) c = for_in look s (using_decl v w ds) e b c _ (head_using look v w ds (goods ds) c) (good e) (good b)
    good (for_in_stmt s a e b) c = for_in look s a e b c _ (head_target look a (good a) c) (good e) (good b)
    good (for_of_stmt s w (var_decl v k ds) e b) c = for_of look s w (var_decl v k ds) e b c _ (head_variables look v k ds (goods ds) c) (good e) (good b)
    good (for_of_stmt s w (using_decl v i ds) e b) c = for_of look s w (using_decl v i ds) e b c _ (head_using look v i ds (goods ds) c) (good e) (good b)
    good (for_of_stmt s w a e b) c = for_of look s w a e b c _ (of_target look w a (good a) c) (good e) (good b)
    good (continue_stmt s l) c = continue_on look s l (good l) c
    good (break_stmt s l) c = break_on look s l (good l) c
    good (return_stmt s e) c = return_on look s e (good e) c
    good (with_stmt s e b) c = with_on look s e b (good e) (good b) c
    good (switch_stmt s e xs) c = switch_on look s e xs (good e) (goods xs) c
    good (switch_case s t ss) c = case_on look s t ss (good t) (goods ss) c
    good (labeled_stmt s l b) c = labelled look s l b (good l) (good b) c
    good (throw_stmt s e) c = throw_on look s e (good e) c
    good (try_stmt s b h f) c = try_on look s b h f (good b) (good h) (good f) c
    good (catch_clause s a b) c = catch_on look s a b (good a) (good b) c
    good (import_decl s xs f w) c = import_on look s xs f w (goods xs) (good f) (good w) c
    good (import_named_specifier s l i) c = named_import look s l i (good l) (good i) c
    good (import_default_specifier s l) c = default_import look s l (good l) c
    good (import_star_as_specifier s l) c = star_import look s l (good l) c
    good (named_export s xs f w) c = exports_on look s xs f w (goods xs) (good f) (good w) c
    good (export_named_specifier s o e) c = named_export_on look s o e (good o) (good e) c
    good (export_namespace_specifier s n) c = star_export look s n (good n) c
    good (export_all s f w) c = export_all_on look s f w (good f) (good w) c
    good (export_decl s d) c = export_declaration look s d (good d) c
    good (export_default_decl s d) c = default_declaration look s d (good d) c
    good (export_default_expr s e) c = default_expression look s e (good e) c
    good (script s ss l) c = script_on look s ss l (goods ss) c
    good (es_module s ss l) c = module_on look s ss l (goods ss) c
    good _ c = λ ts r h. absurd h

    inner : (t : Tree) → InnerSound look t
    inner (function s ps ds (block_stmt b ss) g a) c = function_inner look s ps ds b ss g a (goods ps) (goods ss) c
    inner (function s ps ds _ g a) c = λ ts r h. absurd h
    inner (class s ds ms k) c = class_inner look s ds ms k (goods ms) (good k) c
    inner _ c = λ ts r h. tt

    goods : (ts : Trees) → AllSound look ts
    goods none = tt
    goods (more t ts) = (good t, goods ts)
