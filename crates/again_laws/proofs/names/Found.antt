-- At every node the names are among its tokens, in their order.
use Rattle.std.proofs.Common.{◌≡◌, true, false, List, [], ◌∷◌, ◌++◌, refl, sym, ap, subst, ◌∙◌}
use Rattle.base_token.specs.Kinds.{break_kind, continue_kind}
use Rattle.tree_spec.specs.Tree.{Tree, Trees, absent, array_lit, array_pat, arrow_expr, assign_expr, assign_pat, assign_pat_prop, assign_prop, auto_accessor, await_expr, big_int_lit, bin_expr, binding_ident, block_stmt, bool_lit, break_stmt, call_expr, catch_clause, class, class_decl, class_expr, class_method, class_prop, computed_prop_name, cond_expr, constructor, continue_stmt, debugger_stmt, do_while_stmt, empty_stmt, es_module, export_all, export_decl, export_default_decl, export_default_expr, export_named_specifier, export_namespace_specifier, expr_or_spread, expr_pat, expr_stmt, fn_decl, fn_expr, for_in_stmt, for_of_stmt, for_stmt, function, getter_prop, ident, ident_name, if_stmt, import, import_decl, import_default_specifier, import_named_specifier, import_star_as_specifier, key_value_pat_prop, key_value_prop, labeled_stmt, list, member_expr, meta_prop_expr, method_prop, more, named_export, new_expr, none, null_lit, number_lit, object_lit, object_pat, opt_call, opt_chain_expr, param, paren_expr, private_method, private_name, private_prop, regex_lit, rest_pat, return_stmt, script, seq_expr, setter_prop, spread_element, static_block, str_lit, super, super_prop_expr, switch_case, switch_stmt, tagged_tpl, this_expr, throw_stmt, tpl, tpl_element, try_stmt, unary_expr, update_expr, using_decl, var_decl, var_declarator, while_stmt, with_stmt, yield_expr}
use Rattle.tree_spec.specs.Folds.{folds}
use Rattle.tree_program_spec.specs.Names.Names.{Identifier, identifiers, identifiers_step, joined}
use Rattle.grammar_spec.specs.Tokens.Input.{Code, Input}
use Rattle.grammar_spec.specs.Tokens.Operators.{assignment_level, expression_level}
use Rattle.grammar_spec.specs.Tokens.Shape.{class_span, declarators_end, function_parts, is_item, is_key, is_private}
use Rattle.grammar_spec.specs.Children.{Child, child, is_module_item}
use Rattle.grammar_spec.specs.Expressions.{AccessedName, Bracketed, Dotted}
use Rattle.grammar_spec.specs.Statements.{HeadTarget, HeadUsing, HeadVariables, OfTarget}
use Rattle.grammar_spec.specs.Grammar.{Produces, children}
use Rattle.again_laws.proofs.names.Sits.{AllKnown, Parts, Sits, a_word, each, end, go, single, skip, whole}
use Rattle.again_laws.proofs.names.Expressions.{accessed_name_names, array_literal_names, assignment_names, await_names, binary_names, bracketed_names, call_names, chain_call_names, chain_member_names, conditional_names, cover_initialized_name_names, dotted_names, element_names, import_call_names, member_names, meta_property_names, new_bare_names, new_with_names, object_literal_names, parenthesized_expression_names, property_value_names, sequence_names, spread_names, super_call_names, super_property_names, tagged_template_names, template_literal_names, unary_names, update_names, yield_bare_names, yield_names}
use Rattle.again_laws.proofs.names.Patterns.{array_pattern_names, initialised_names, keyed_item_names, named_item_names, object_pattern_names, rest_names, target_names}
use Rattle.again_laws.proofs.names.Functions.{arrow_block_names, arrow_expression_names, auto_accessor_names, class_declaration_names, class_expression_names, class_method_names, class_tail_names, constructor_names, field_names, function_declaration_names, function_expression_names, function_names, getter_names, object_method_names, parameter_names, setter_names, static_block_names}
use Rattle.again_laws.proofs.names.Statements.{block_names, case_names, catch_names, debugger_names, declarator_names, do_while_names, empty_names, expression_statement_names, for_expression_names, for_in_names, for_of_names, for_using_names, for_variables_names, head_target_names, head_using_names, head_variables_names, if_names, jump_names, labelled_names, of_target_names, return_names, switch_names, throw_names, try_names, using_names, variables_names, while_names, with_names}
use Rattle.again_laws.proofs.names.Modules.{default_declaration_names, default_expression_names, default_import_names, export_all_names, export_declaration_names, exports_names, import_names, named_export_names, named_import_names, program_names, star_export_names, star_import_names}

rows : (ts : Trees) → each (children ts) ≡ folds identifiers_step ts
rows none = refl
rows (more t ts) = ap (λ (x : List (List Identifier)). identifiers t ∷ x) (rows ts)

listwise : (ts : Trees) (M : List (List Identifier) → Type 0) → M (each (children ts)) → M (folds identifiers_step ts)
listwise ts M h = subst M (rows ts) h

abbrev kid : Tree → Child
kid t = child t (λ y. Produces t y)

mutual
  pub found : (t : Tree) (c : Code) (ts r : Input) → Produces t c ts r → Sits (identifiers t) ts r
  found (this_expr s) c ts r h = whole (skip h.0.3 end)
  found (null_lit s) c ts r h = whole (skip h.0.3 end)
  found (bool_lit s v) c ts r h = whole (skip h.0.3 end)
  found (ident s n) c ts r h = a_word ts r s n h.0.0 h.0.3 h.0.5 h.1
  found (ident_name s n) c ts r h = whole (skip h.0.3 end)
  found (private_name s n) c ts r h = whole (skip h.1.2 (skip h.3.3 end))
  found (str_lit s u w) c ts r h = whole (skip h.3.2 end)
  found (number_lit s v w) c ts r h = whole (skip h.3.2 end)
  found (big_int_lit s b d w) c ts r h = whole (skip h.3.2 end)
  found (regex_lit s e f) c ts r h = whole (skip h.1.2 end)
  found (expr_or_spread s d e) c ts r h = whole (element_names c s d (kid e) (found e) h end)
  found (array_lit s xs) c ts r h = whole (listwise xs (λ (g : List (List Identifier)). Parts (g ++ []) ts r) (array_literal_names c s (children xs) (founds xs) h end))
  found (object_lit s ps) c ts r h = whole (listwise ps (λ (g : List (List Identifier)). Parts (g ++ []) ts r) (object_literal_names c s (children ps) (founds ps) h end))
  found (key_value_prop s k v) c ts r h = whole (property_value_names c s (kid k) (found k) (kid v) (found v) h end)
  found (assign_prop s k e) c ts r h = whole (cover_initialized_name_names c s (kid k) (found k) (kid e) (found e) h end)
  found (spread_element s e) c ts r h = whole (spread_names c s (kid e) (found e) h end)
  found (computed_prop_name s e) c ts r h = whole (bracketed_names assignment_level c s (kid e) (found e) h end)
  found (tpl_element s t w u) c ts r h = whole (skip h.1.2 end)
  found (tpl s es qs) c ts r h = whole (listwise qs (λ (g : List (List Identifier)). Parts (folds identifiers_step es ++ (g ++ [])) ts r) (listwise es (λ (g : List (List Identifier)). Parts (g ++ (each (children qs) ++ [])) ts r) (template_literal_names false c s (children es) (founds es) (children qs) (founds qs) h end)))
  found (paren_expr s e) c ts r h = whole (parenthesized_expression_names c s (kid e) (found e) h end)
  found (member_expr s o (computed_prop_name t e)) c ts r h = whole (member_names c s (kid o) (found o) (Bracketed expression_level c t (kid e)) (λ y z j. whole (bracketed_names expression_level c t (kid e) (found e) j end)) h end)
  found (member_expr s o k) c ts r h = whole (member_names c s (kid o) (found o) (Dotted true c (kid k)) (λ y z j. single (dotted_names true c (kid k) (found k) j end)) h end)
  found (super_prop_expr s (super t) (computed_prop_name q e)) c ts r h = whole (super_property_names c s t (Bracketed expression_level c q (kid e)) (λ y z j. whole (bracketed_names expression_level c q (kid e) (found e) j end)) h end)
  found (super_prop_expr s (super t) k) c ts r h = whole (super_property_names c s t (Dotted false c (kid k)) (λ y z j. single (dotted_names false c (kid k) (found k) j end)) h end)
  found (super_prop_expr s _ k) c ts r h = absurd h
  found (call_expr s (super t) xs) c ts r h = whole (listwise xs (λ (g : List (List Identifier)). Parts (g ++ []) ts r) (super_call_names c s t (children xs) (founds xs) h end))
  found (call_expr s (import t) xs) c ts r h = whole (listwise xs (λ (g : List (List Identifier)). Parts (g ++ []) ts r) (import_call_names c s t (children xs) (founds xs) h end))
  found (call_expr s f xs) c ts r h = whole (listwise xs (λ (g : List (List Identifier)). Parts (identifiers f ∷ (g ++ [])) ts r) (call_names c s (kid f) (found f) (children xs) (founds xs) h end))
  found (new_expr s f absent) c ts r h = whole (new_bare_names c s (kid f) (found f) h end)
  found (new_expr s f (list xs)) c ts r h = whole (listwise xs (λ (g : List (List Identifier)). Parts (identifiers f ∷ (joined (g ++ []) ∷ [])) ts r) (new_with_names c s (kid f) (found f) (children xs) (founds xs) h end))
  found (new_expr s f _) c ts r h = absurd h
  found (opt_chain_expr s q (member_expr t o (computed_prop_name b e))) c ts r h = whole (go (whole (chain_member_names c s q t (kid o) (found o) (Bracketed expression_level c b (kid e)) (λ y z j. whole (bracketed_names expression_level c b (kid e) (found e) j end)) (Bracketed expression_level c b (kid e)) (λ y z j. whole (bracketed_names expression_level c b (kid e) (found e) j end)) h end)) end)
  found (opt_chain_expr s q (member_expr t o k)) c ts r h = whole (go (whole (chain_member_names c s q t (kid o) (found o) (Dotted true c (kid k)) (λ y z j. single (dotted_names true c (kid k) (found k) j end)) (AccessedName true c (kid k)) (λ y z j. single (accessed_name_names true c (kid k) (found k) j end)) h end)) end)
  found (opt_chain_expr s q (opt_call t f xs)) c ts r h = whole (go (whole (listwise xs (λ (g : List (List Identifier)). Parts (identifiers f ∷ (g ++ [])) ts r) (chain_call_names c s q t (kid f) (found f) (children xs) (founds xs) h end))) end)
  found (opt_chain_expr s q _) c ts r h = absurd h
  found (tagged_tpl s t (tpl q es qs)) c ts r h = whole (listwise qs (λ (g : List (List Identifier)). Parts (identifiers t ∷ (joined (folds identifiers_step es ++ (g ++ [])) ∷ [])) ts r) (listwise es (λ (g : List (List Identifier)). Parts (identifiers t ∷ (joined (g ++ (each (children qs) ++ [])) ∷ [])) ts r) (tagged_template_names c s (kid t) (found t) q (children es) (founds es) (children qs) (founds qs) h end)))
  found (tagged_tpl s t _) c ts r h = absurd h
  found (meta_prop_expr s k) c ts r h = whole (meta_property_names c s k h end)
  found (update_expr s op b a) c ts r h = whole (update_names c s op b (kid a) (found a) h end)
  found (unary_expr s op a) c ts r h = whole (unary_names c s op (kid a) (found a) h end)
  found (await_expr s a) c ts r h = whole (await_names c s (kid a) (found a) h end)
  found (bin_expr s op a b) c ts r h = whole (binary_names c s op (kid a) (found a) (kid b) (found b) h end)
  found (cond_expr s a b d) c ts r h = whole (conditional_names c s (kid a) (found a) (kid b) (found b) (kid d) (found d) h end)
  found (assign_expr s op a b) c ts r h = whole (assignment_names c s op (kid a) (found a) (kid b) (found b) h end)
  found (arrow_expr s ps (block_stmt b ss) i) c ts r h = whole (listwise ss (λ (g : List (List Identifier)). Parts ((folds identifiers_step ps ++ (joined (g ++ []) ∷ []))) ts r) (listwise ps (λ (g : List (List Identifier)). Parts ((g ++ (joined (each (children ss) ++ []) ∷ []))) ts r) (arrow_block_names c s (children ps) (founds ps) b (children ss) (founds ss) i h end)))
  found (arrow_expr s ps e i) c ts r h = whole (listwise ps (λ (g : List (List Identifier)). Parts ((g ++ (identifiers e ∷ []))) ts r) (arrow_expression_names c s (children ps) (founds ps) (kid e) (found e) i h end))
  found (yield_expr s absent g) c ts r h = whole (yield_bare_names c s h.1 end)
  found (yield_expr s a g) c ts r h = whole (yield_names c s (kid a) (found a) g h end)
  found (seq_expr s xs) c ts r h = whole (listwise xs (λ (g : List (List Identifier)). Parts (g ++ []) ts r) (sequence_names c s (children xs) (founds xs) h end))
  found (binding_ident s (ident t n)) c ts r h = a_word ts r t n h.1.0.0 h.1.0.3 h.1.0.5 (sym h.0 ∙ h.1.1)
  found (binding_ident s _) c ts r h = absurd h
  found (array_pat s xs) c ts r h = whole (listwise xs (λ (g : List (List Identifier)). Parts (g ++ []) ts r) (array_pattern_names c s (children xs) (founds xs) h end))
  found (object_pat s ps) c ts r h = whole (listwise ps (λ (g : List (List Identifier)). Parts (g ++ []) ts r) (object_pattern_names c s (children ps) (founds ps) h end))
  found (assign_pat s a e) c ts r h = whole (initialised_names c s (kid a) (found a) (kid e) (found e) h end)
  found (rest_pat s d a) c ts r h = whole (rest_names c s d (kid a) (found a) h end)
  found (key_value_pat_prop s k a) c ts r h = whole (keyed_item_names c s (kid k) (found k) (kid a) (found a) h end)
  found (assign_pat_prop s k e) c ts r h = whole (named_item_names c s (kid k) (found k) (kid e) (found e) h end)
  found (expr_pat e) c ts r h = whole (target_names c (kid e) (found e) h end)
  found (param s ds a) c ts r h = whole (listwise ds (λ (g : List (List Identifier)). Parts (g ++ (identifiers a ∷ [])) ts r) (parameter_names c s (children ds) (founds ds) (kid a) (found a) h end))
  found (function s ps ds (block_stmt b ss) g a) c ts r h = whole (listwise ss (λ (g : List (List Identifier)). Parts (folds identifiers_step ps ++ (folds identifiers_step ds ++ (joined (g ++ []) ∷ []))) ts r) (listwise ds (λ (g : List (List Identifier)). Parts (folds identifiers_step ps ++ (g ++ (joined (each (children ss) ++ []) ∷ []))) ts r) (listwise ps (λ (g : List (List Identifier)). Parts (g ++ (each (children ds) ++ (joined (each (children ss) ++ []) ∷ []))) ts r) (function_names c (children ps) (founds ps) (children ds) (founds ds) b (children ss) (founds ss) g a h end))))
  found (function s ps ds _ g a) c ts r h = absurd h
  found (fn_decl s n f) c ts r h = whole (function_declaration_names c s (kid n) (found n) (kid f) (found f) (function_parts f) h end)
  found (fn_expr s n f) c ts r h = whole (function_expression_names c s (kid n) (found n) (kid f) (found f) (function_parts f) h end)
  found (method_prop s k f) c ts r h = whole (object_method_names c s (kid k) (found k) (kid f) (found f) (function_parts f) h end)
  found (getter_prop s k (block_stmt b ss)) c ts r h = whole (listwise ss (λ (g : List (List Identifier)). Parts (identifiers k ∷ (joined (g ++ []) ∷ [])) ts r) (getter_names c s (kid k) (found k) b (children ss) (founds ss) h end))
  found (getter_prop s k _) c ts r h = absurd h
  found (setter_prop s k a (block_stmt b ss)) c ts r h = whole (listwise ss (λ (g : List (List Identifier)). Parts (identifiers k ∷ (identifiers a ∷ (joined (g ++ []) ∷ []))) ts r) (setter_names c s (kid k) (found k) (kid a) (found a) b (children ss) (founds ss) h end))
  found (setter_prop s k a _) c ts r h = absurd h
  found (class s ds ms k) c ts r h = whole (listwise ms (λ (g : List (List Identifier)). Parts (folds identifiers_step ds ++ (identifiers k ∷ (g ++ []))) ts r) (listwise ds (λ (g : List (List Identifier)). Parts (g ++ (identifiers k ∷ (each (children ms) ++ []))) ts r) (class_tail_names c (children ds) (founds ds) (children ms) (founds ms) (kid k) (found k) h end)))
  found (class_decl s n k) c ts r h = whole (class_declaration_names c s (kid n) (found n) (kid k) (found k) (class_span k) h end)
  found (class_expr s n k) c ts r h = whole (class_expression_names c s (kid n) (found n) (kid k) (found k) (class_span k) h end)
  found (constructor s k ps (block_stmt b ss)) c ts r h = whole (listwise ss (λ (g : List (List Identifier)). Parts (identifiers k ∷ (folds identifiers_step ps ++ (joined (g ++ []) ∷ []))) ts r) (listwise ps (λ (g : List (List Identifier)). Parts (identifiers k ∷ (g ++ (joined (each (children ss) ++ []) ∷ []))) ts r) (constructor_names c s (kid k) (found k) (children ps) (founds ps) b (children ss) (founds ss) h end)))
  found (constructor s k ps _) c ts r h = absurd h
  found (class_method s k f m i) c ts r h = whole (class_method_names is_key c s (kid k) (found k) (kid f) (found f) (function_parts f) m i h end)
  found (private_method s k f m i) c ts r h = whole (class_method_names is_private c s (kid k) (found k) (kid f) (found f) (function_parts f) m i h end)
  found (class_prop s k v i ds) c ts r h = whole (listwise ds (λ (g : List (List Identifier)). Parts (g ++ (identifiers k ∷ (identifiers v ∷ []))) ts r) (field_names is_key c s (kid k) (found k) (kid v) (found v) i (children ds) (founds ds) h end))
  found (private_prop s k v i ds) c ts r h = whole (listwise ds (λ (g : List (List Identifier)). Parts (g ++ (identifiers k ∷ (identifiers v ∷ []))) ts r) (field_names is_private c s (kid k) (found k) (kid v) (found v) i (children ds) (founds ds) h end))
  found (auto_accessor s k v i ds) c ts r h = whole (listwise ds (λ (g : List (List Identifier)). Parts (g ++ (identifiers k ∷ (identifiers v ∷ []))) ts r) (auto_accessor_names c s (kid k) (found k) (kid v) (found v) i (children ds) (founds ds) h end))
  found (static_block s (block_stmt b ss)) c ts r h = whole (listwise ss (λ (g : List (List Identifier)). Parts (joined (g ++ []) ∷ []) ts r) (static_block_names c s b (children ss) (founds ss) h end))
  found (static_block s _) c ts r h = absurd h
  found (block_stmt s ss) c ts r h = whole (listwise ss (λ (g : List (List Identifier)). Parts (g ++ []) ts r) (block_names c s (children ss) (founds ss) h end))
  found (empty_stmt s) c ts r h = whole (empty_names c s h end)
  found (debugger_stmt s) c ts r h = whole (debugger_names c s h end)
  found (var_decl s k ds) c ts r h = whole (listwise ds (λ (g : List (List Identifier)). Parts (g ++ []) ts r) (variables_names c s k (declarators_end ds) (children ds) (founds ds) h end))
  found (using_decl s w ds) c ts r h = whole (listwise ds (λ (g : List (List Identifier)). Parts (g ++ []) ts r) (using_names c s w (declarators_end ds) (children ds) (founds ds) h end))
  found (var_declarator s n e) c ts r h = whole (declarator_names c s (kid n) (found n) (kid e) (found e) h end)
  found (expr_stmt s e) c ts r h = whole (expression_statement_names c s (kid e) (found e) h end)
  found (if_stmt s t a b) c ts r h = whole (if_names c s (kid t) (found t) (kid a) (found a) (kid b) (found b) h end)
  found (do_while_stmt s t b) c ts r h = whole (do_while_names c s (kid t) (found t) (kid b) (found b) h end)
  found (while_stmt s t b) c ts r h = whole (while_names c s (kid t) (found t) (kid b) (found b) h end)
  found (for_stmt s (var_decl v k ds) t u b) c ts r h = whole (listwise ds (λ (g : List (List Identifier)). Parts ((joined (g ++ []) ∷ ((identifiers t ∷ (identifiers u ∷ (identifiers b ∷ [])))))) ts r) (for_variables_names c s v k (children ds) (founds ds) (kid t) (found t) (kid u) (found u) (kid b) (found b) h end))
  found (for_stmt s (using_decl v w ds) t u b) c ts r h = whole (listwise ds (λ (g : List (List Identifier)). Parts ((joined (g ++ []) ∷ ((identifiers t ∷ (identifiers u ∷ (identifiers b ∷ [])))))) ts r) (for_using_names c s v w (children ds) (founds ds) (kid t) (found t) (kid u) (found u) (kid b) (found b) h end))
  found (for_stmt s i t u b) c ts r h = whole (for_expression_names c s (kid i) (found i) (kid t) (found t) (kid u) (found u) (kid b) (found b) h end)
  found (for_in_stmt s (var_decl v k ds) e b) c ts r h = whole (for_in_names c s (HeadVariables c v k (children ds)) (λ y z j. whole (listwise ds (λ g. Parts (g ++ []) y z) (head_variables_names c v k (children ds) (founds ds) j end))) (kid e) (found e) (kid b) (found b) h end)
  found (for_in_stmt s (using_decl v w ds) e b) c ts r h = whole (for_in_names c s (HeadUsing c v w (children ds)) (λ y z j. whole (listwise ds (λ g. Parts (g ++ []) y z) (head_using_names c v w (children ds) (founds ds) j end))) (kid e) (found e) (kid b) (found b) h end)
  found (for_in_stmt s a e b) c ts r h = whole (for_in_names c s (HeadTarget c (kid a)) (λ y z j. single (head_target_names c (kid a) (found a) j end)) (kid e) (found e) (kid b) (found b) h end)
  found (for_of_stmt s w (var_decl v k ds) e b) c ts r h = whole (for_of_names c s w (HeadVariables c v k (children ds)) (λ y z j. whole (listwise ds (λ g. Parts (g ++ []) y z) (head_variables_names c v k (children ds) (founds ds) j end))) (kid e) (found e) (kid b) (found b) h end)
  found (for_of_stmt s w (using_decl v i ds) e b) c ts r h = whole (for_of_names c s w (HeadUsing c v i (children ds)) (λ y z j. whole (listwise ds (λ g. Parts (g ++ []) y z) (head_using_names c v i (children ds) (founds ds) j end))) (kid e) (found e) (kid b) (found b) h end)
  found (for_of_stmt s w a e b) c ts r h = whole (for_of_names c s w (OfTarget c w (kid a)) (λ y z j. single (of_target_names c w (kid a) (found a) j end)) (kid e) (found e) (kid b) (found b) h end)
  found (continue_stmt s l) c ts r h = whole (jump_names continue_kind c s (kid l) (found l) h end)
  found (break_stmt s l) c ts r h = whole (jump_names break_kind c s (kid l) (found l) h end)
  found (return_stmt s e) c ts r h = whole (return_names c s (kid e) (found e) h end)
  found (with_stmt s e b) c ts r h = whole (with_names c s (kid e) (found e) (kid b) (found b) h end)
  found (switch_stmt s e xs) c ts r h = whole (listwise xs (λ (g : List (List Identifier)). Parts (identifiers e ∷ (g ++ [])) ts r) (switch_names c s (kid e) (found e) (children xs) (founds xs) h end))
  found (switch_case s t ss) c ts r h = whole (listwise ss (λ (g : List (List Identifier)). Parts (identifiers t ∷ (g ++ [])) ts r) (case_names c s (kid t) (found t) (children ss) (founds ss) h end))
  found (labeled_stmt s l b) c ts r h = whole (labelled_names c s (kid l) (found l) (kid b) (found b) h end)
  found (throw_stmt s e) c ts r h = whole (throw_names c s (kid e) (found e) h end)
  found (try_stmt s b y0 f) c ts r h = whole (try_names c s (kid b) (found b) (kid y0) (found y0) (kid f) (found f) h end)
  found (catch_clause s a b) c ts r h = whole (catch_names c s (kid a) (found a) (kid b) (found b) h end)
  found (import_decl s xs f w) c ts r h = whole (listwise xs (λ (g : List (List Identifier)). Parts (g ++ (identifiers f ∷ (identifiers w ∷ []))) ts r) (import_names c s (children xs) (founds xs) (kid f) (found f) (kid w) (found w) h end))
  found (import_named_specifier s l i) c ts r h = whole (named_import_names c s (kid l) (found l) (kid i) (found i) h end)
  found (import_default_specifier s l) c ts r h = whole (default_import_names c s (kid l) (found l) h end)
  found (import_star_as_specifier s l) c ts r h = whole (star_import_names c s (kid l) (found l) h end)
  found (named_export s xs f w) c ts r h = whole (listwise xs (λ (g : List (List Identifier)). Parts (g ++ (identifiers f ∷ (identifiers w ∷ []))) ts r) (exports_names c s (children xs) (founds xs) (kid f) (found f) (kid w) (found w) h end))
  found (export_named_specifier s o e) c ts r h = whole (named_export_names c s (kid o) (found o) (kid e) (found e) h end)
  found (export_namespace_specifier s n) c ts r h = whole (star_export_names c s (kid n) (found n) h end)
  found (export_all s f w) c ts r h = whole (export_all_names c s (kid f) (found f) (kid w) (found w) h end)
  found (export_decl s d) c ts r h = whole (export_declaration_names c s (kid d) (found d) h end)
  found (export_default_decl s d) c ts r h = whole (default_declaration_names c s (kid d) (found d) h end)
  found (export_default_expr s e) c ts r h = whole (default_expression_names c s (kid e) (found e) h end)
  found (script s ss l) c ts r h = whole (listwise ss (λ (g : List (List Identifier)). Parts ((g ++ [])) ts r) (program_names is_item c s l (children ss) (founds ss) h end))
  found (es_module s ss l) c ts r h = whole (listwise ss (λ (g : List (List Identifier)). Parts ((g ++ [])) ts r) (program_names is_module_item c s l (children ss) (founds ss) h end))
  found _ c ts r h = absurd h

  founds : (ts : Trees) → AllKnown (children ts)
  founds none = tt
  founds (more t ts) = (found t, founds ts)
