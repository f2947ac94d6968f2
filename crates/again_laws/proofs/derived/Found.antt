-- A tree that is derived from known tokens is read from these: by induction, a line a node.
use Rattle.std.proofs.Common.{ℕ, true, false, ◌&&◌, List, Option, ap, refl, sym, ◌∙◌, true≢false}
use Rattle.base_number.specs.Numbers.{SpecNumber}
use Rattle.base_token.specs.declared.place.Span.{Span}
use Rattle.tree_spec.specs.Tree.{Tree, Trees, none, more, script, es_module, import_decl, export_decl, named_export, export_default_decl, export_default_expr, export_all, import_named_specifier, import_default_specifier, import_star_as_specifier, export_namespace_specifier, export_named_specifier, block_stmt, empty_stmt, debugger_stmt, with_stmt, return_stmt, labeled_stmt, break_stmt, continue_stmt, if_stmt, switch_stmt, switch_case, throw_stmt, try_stmt, catch_clause, while_stmt, do_while_stmt, for_stmt, for_in_stmt, for_of_stmt, expr_stmt, class_decl, fn_decl, var_decl, using_decl, var_declarator, function, param, class, constructor, class_method, private_method, class_prop, private_prop, static_block, auto_accessor, ident_name, computed_prop_name, private_name, this_expr, array_lit, object_lit, fn_expr, unary_expr, update_expr, bin_expr, assign_expr, member_expr, super_prop_expr, cond_expr, call_expr, new_expr, seq_expr, ident, tpl, tpl_element, tagged_tpl, arrow_expr, class_expr, yield_expr, meta_prop_expr, await_expr, paren_expr, opt_chain_expr, opt_call, super, import, expr_or_spread, spread_element, key_value_prop, assign_prop, getter_prop, setter_prop, method_prop, str_lit, bool_lit, null_lit, number_lit, big_int_lit, regex_lit, binding_ident, array_pat, rest_pat, object_pat, assign_pat, key_value_pat_prop, assign_pat_prop, expr_pat, list, absent}
use Rattle.grammar_spec.specs.Tokens.Shape.{is_target_expr, is_simple, is_key, is_private}
use Rattle.grammar_spec.specs.Tokens.Operators.{expression_level}
use Rattle.again_laws.specs.Derived.Redo.{Plain}
use Rattle.again_laws.specs.Derived.Read.{Knowledge}
use Rattle.again_laws.proofs.derived.FoundParts.{Found, AllFound, took, word, whole_test}
use Rattle.again_laws.proofs.derived.FoundExpressions.{paren_found, element_found, array_found, object_found, property_found, cover_found, spread_found, bracketed, computed_found, template_found, tagged_found, accessed, dotted, member_found, super_found, call_found, super_call_found, import_call_found, new_with_found, new_bare_found, chain_member_found, chain_call_found, meta_found, unary_found, update_found, await_found, binary_found, conditional_found, assignment_found, sequence_found, yield_found, array_pattern_found, object_pattern_found, initialised_found, rest_found, keyed_item_found, named_item_found}
use Rattle.again_laws.proofs.derived.FoundFunctions.{param_found, function_found, declaration_found, expression_found, arrow_block_found, arrow_found, object_method_found, getter_found, setter_found, class_found, class_declaration_found, class_expression_found, constructor_found, method_parts, field, accessor_found, static_block_found}
use Rattle.again_laws.proofs.derived.FoundStatements.{block_found, variables_found, using_found, declarator_found, statement_found, debugger_found, if_found, do_while_found, while_found, for_expression_found, for_variables_found, for_using_found, head_variables, head_using, head_target, of_target, for_in_found, for_of_found, break_found, continue_found, return_found, throw_found, with_found, labelled_found, case_found, switch_found, catch_found, try_found}
use Rattle.again_laws.proofs.derived.FoundModules.{named_import_found, default_import_found, star_import_found, import_found, named_export_found, star_export_found, exports_found, export_all_found, export_declaration_found, default_declaration_found, default_expression_found, script_found, module_found}

module _ (know : Knowledge) where
  -- ---- the induction

  pub word_found : (s : Span) (k : List ℕ) → Found know (ident s k)
  word_found s k mode n whole c ts r h l = (record { at = ts; known = l; word = h.0.0; is = h.0.3; begins = ap (λ (p : Span). p.lo.0) h.1 }, know.later ts r h.0.5 l)

  pub key_found : (s : Span) (k : List ℕ) → Found know (ident_name s k)
  key_found s k mode n whole c ts r h l = (record { at = ts; known = l; word = h.0.0; is = h.0.1 }, know.later ts r h.0.3 l)

  pub private_found : (s : Span) (k : List ℕ) → Found know (private_name s k)
  private_found s k mode n whole c ts r h l = let m = took know c _ ts h.0 h.1 l in (record { at = h.0; known = m; word = h.3.0; is = h.3.1 }, know.later h.0 r h.3.3 m)

  pub string_found : (s : Span) (u : List ℕ) (w : Option (List ℕ)) → Found know (str_lit s u w)
  string_found s u w mode n whole c ts r h l = (record { own = h.0; is = h.1; told = record { at = ts; known = l; is = h.2 } }, took know c _ ts r h.3 l)

  pub number_found : (s : Span) (v : SpecNumber) (w : Option (List ℕ)) → Found know (number_lit s v w)
  number_found s v w mode n whole c ts r h l = (record { own = h.0; is = h.1; told = record { at = ts; known = l; is = h.2 } }, took know c _ ts r h.3 l)

  pub big_found : (s : Span) (b : ℕ) (ds : List ℕ) (w : Option (List ℕ)) → Found know (big_int_lit s b ds w)
  big_found s b ds w mode n whole c ts r h l = (record { own = h.0; is = h.1; told = record { at = ts; known = l; is = h.2 } }, took know c _ ts r h.3 l)

  pub pattern_found : (s : Span) (e f : List ℕ) → Found know (regex_lit s e f)
  pattern_found s e f mode n whole c ts r h l = (record { at = ts; known = l; is = h.0 }, took know c _ ts r h.1 l)

  pub bound_found : (s t : Span) (k : List ℕ) → Found know (binding_ident s (ident t k))
  bound_found s t k mode n whole c ts r h l = ((tt, record { at = ts; known = l; word = h.1.0.0; is = h.1.0.3; begins = ap (λ (p : Span). p.lo.0) (sym h.0 ∙ h.1.1) }), know.later ts r h.1.0.5 l)

  mutual
    pub found : (t : Tree) → Found know t
    found (this_expr s) mode n whole = λ c ts r h l. (tt, word know c _ ts r h.0 l)
    found (null_lit s) mode n whole = λ c ts r h l. (tt, word know c _ ts r h.0 l)
    found (bool_lit s v) mode n whole = λ c ts r h l. (tt, word know c _ ts r h.0 l)
    found (ident s k) mode n whole = word_found s k mode n whole
    found (ident_name s k) mode n whole = key_found s k mode n whole
    found (private_name s k) mode n whole = private_found s k mode n whole
    found (str_lit s u w) mode n whole = string_found s u w mode n whole
    found (number_lit s v w) mode n whole = number_found s v w mode n whole
    found (big_int_lit s b ds w) mode n whole = big_found s b ds w mode n whole
    found (regex_lit s e f) mode n whole = pattern_found s e f mode n whole
    found (expr_or_spread s d e) mode n whole = element_found know s d e (found e) mode n whole
    found (array_lit s xs) mode n whole = array_found know s xs (all_found xs) mode n whole
    found (object_lit s ps) mode n whole = object_found know s ps (all_found ps) mode n whole
    found (key_value_prop s k v) mode n whole = property_found know s k v (found k) (found v) mode n whole
    found (assign_prop s k e) mode n whole = cover_found know s k e (found k) (found e) mode n whole
    found (spread_element s e) mode n whole = spread_found know s e (found e) mode n whole
    found (computed_prop_name s e) mode n whole = computed_found know s e (found e) mode n whole
    found (tpl s es qs) mode n whole = template_found know s es qs (all_found es) mode n whole
    found (tpl_element s t w u) mode n whole = λ c ts r h l. absurd (true≢false whole)
    found (paren_expr s e) mode n whole = paren_found know s e (found e) mode n whole
    found (member_expr s o (computed_prop_name t e)) mode n whole = member_found know s o (computed_prop_name t e) _ (found o) (bracketed know expression_level refl t e (found e)) mode
    found (member_expr s o k) mode n whole = member_found know s o k _ (found o) (dotted know true k (found k)) mode
    found (super_prop_expr s (super t) (computed_prop_name q e)) mode n whole = super_found know s t (computed_prop_name q e) _ (bracketed know expression_level refl q e (found e)) mode
    found (super_prop_expr s (super t) k) mode n whole = super_found know s t k _ (dotted know false k (found k)) mode
    found (super_prop_expr s _ k) mode n whole = λ c ts r h l. absurd h
    found (call_expr s (super t) xs) mode n whole = super_call_found know s t xs (all_found xs) mode n whole
    found (call_expr s (import t) xs) mode n whole = import_call_found know s t xs (all_found xs) mode n whole
    found (call_expr s f xs) mode n whole = call_found know s f xs (found f) (all_found xs) mode
    found (new_expr s f absent) mode n whole = new_bare_found know s f (found f) mode n whole
    found (new_expr s f (list xs)) mode n whole = new_with_found know s f xs (found f) (all_found xs) mode n whole
    found (new_expr s f _) mode n whole = λ c ts r h l. absurd h
    found (opt_chain_expr s q (member_expr t o (computed_prop_name b e))) mode n whole = chain_member_found know s q t o (computed_prop_name b e) _ _ (found o) (bracketed know expression_level refl b e (found e)) (bracketed know expression_level refl b e (found e)) mode
    found (opt_chain_expr s q (member_expr t o k)) mode n whole = chain_member_found know s q t o k _ _ (found o) (dotted know true k (found k)) (accessed know true k (found k)) mode
    found (opt_chain_expr s q (opt_call t f xs)) mode n whole = chain_call_found know s q t f xs (found f) (all_found xs) mode n whole
    found (opt_chain_expr s q _) mode n whole = λ c ts r h l. absurd h
    found (tagged_tpl s t (tpl q es qs)) mode n whole = tagged_found know s t q es qs (found t) (all_found es) mode n whole
    found (tagged_tpl s t _) mode n whole = λ c ts r h l. absurd h
    found (meta_prop_expr s k) mode n whole = meta_found know s k mode n whole
    found (update_expr s op b a) mode n whole = update_found know s op b a (found a) mode n whole
    found (unary_expr s op a) mode n whole = unary_found know s op a (found a) mode n whole
    found (await_expr s a) mode n whole = await_found know s a (found a) mode n whole
    found (bin_expr s op a b) mode n whole = binary_found know s op a b (found a) (found b) mode n whole
    found (cond_expr s a b d) mode n whole = conditional_found know s a b d (found a) (found b) (found d) mode n whole
    found (assign_expr s op a b) mode n whole = assignment_found know s op a b (found a) (found b) mode n whole
    found (arrow_expr s ps (block_stmt b ss) i) mode n whole = arrow_block_found know s ps b ss i (all_found ps) (all_found ss) mode n whole
    found (arrow_expr s ps e i) mode n whole = arrow_found know s ps e i (all_found ps) (found e) mode
    found (yield_expr s absent g) mode n whole = λ c ts r h l. ((tt, tt), word know c _ ts r h.1.1 l)
    found (yield_expr s a g) mode n whole = yield_found know s a g (found a) mode
    found (seq_expr s xs) mode n whole = sequence_found know s xs (all_found xs) mode n whole
    found (binding_ident s (ident t k)) mode n whole = bound_found s t k mode n whole
    found (binding_ident s _) mode n whole = λ c ts r h l. absurd h
    found (array_pat s xs) mode n whole = array_pattern_found know s xs (all_found xs) mode n whole
    found (object_pat s ps) mode n whole = object_pattern_found know s ps (all_found ps) mode n whole
    found (assign_pat s a e) mode n whole = initialised_found know s a e (found a) (found e) mode n whole
    found (rest_pat s d a) mode n whole = rest_found know s d a (found a) mode n whole
    found (key_value_pat_prop s k a) mode n whole = keyed_item_found know s k a (found k) (found a) mode n whole
    found (assign_pat_prop s k e) mode n whole = named_item_found know s k e (found k) (found e) mode n whole
    found (expr_pat e) mode n whole = λ c ts r h l. let y = found e Plain refl (whole_test know (λ t. is_target_expr t && is_simple t) e (λ s b w u. refl) h.0) c ts r h.1 l in ((tt, y.0), y.1)
    found (param s ds a) mode n whole = param_found know s ds a (found a) mode n whole
    found (function s ps ds (block_stmt b ss) g a) mode n whole = function_found know s ps ds b ss g a (all_found ps) (all_found ss) mode n whole
    found (function s ps ds _ g a) mode n whole = λ c ts r h l. absurd h
    found (fn_decl s k f) mode n whole = declaration_found know s k f (found k) (found f) mode n whole
    found (fn_expr s k f) mode n whole = expression_found know s k f (found k) (found f) mode n whole
    found (method_prop s k f) mode n whole = object_method_found know s k f (found k) (found f) mode n whole
    found (getter_prop s k (block_stmt b ss)) mode n whole = getter_found know s k b ss (found k) (all_found ss) mode n whole
    found (getter_prop s k _) mode n whole = λ c ts r h l. absurd h
    found (setter_prop s k a (block_stmt b ss)) mode n whole = setter_found know s k a b ss (found k) (found a) (all_found ss) mode n whole
    found (setter_prop s k a _) mode n whole = λ c ts r h l. absurd h
    found (class s ds ms e) mode n whole = class_found know s ds ms e (all_found ms) (found e) mode n whole
    found (class_decl s k b) mode n whole = class_declaration_found know s k b (found k) (found b) mode n whole
    found (class_expr s k b) mode n whole = class_expression_found know s k b (found k) (found b) mode n whole
    found (constructor s k ps (block_stmt b ss)) mode n whole = constructor_found know s k ps b ss (found k) (all_found ps) (all_found ss) mode n whole
    found (constructor s k ps _) mode n whole = λ c ts r h l. absurd h
    found (class_method s k f m i) mode n whole = λ c ts r h l. let y = method_parts know is_key (λ s b w u. refl) s k f m i (found k) (found f) c ts r h l in ((tt, y.0, y.1), y.2)
    found (private_method s k f m i) mode n whole = λ c ts r h l. let y = method_parts know is_private (λ s b w u. refl) s k f m i (found k) (found f) c ts r h l in ((tt, y.0, y.1), y.2)
    found (class_prop s k v i ds) mode n whole = λ c ts r h l. let y = field know is_key (λ s b w u. refl) s k v i ds (found k) (found v) c ts r h l in ((tt, y.0, y.1, y.2), y.3)
    found (private_prop s k v i ds) mode n whole = λ c ts r h l. let y = field know is_private (λ s b w u. refl) s k v i ds (found k) (found v) c ts r h l in ((tt, y.0, y.1, y.2), y.3)
    found (auto_accessor s k v i ds) mode n whole = accessor_found know s k v i ds (found k) (found v) mode n whole
    found (static_block s (block_stmt b ss)) mode n whole = static_block_found know s b ss (all_found ss) mode n whole
    found (static_block s _) mode n whole = λ c ts r h l. absurd h
    found (block_stmt s ss) mode n whole = block_found know s ss (all_found ss) mode n whole
    found (empty_stmt s) mode n whole = λ c ts r h l. (tt, took know c _ ts r h.0 l)
    found (debugger_stmt s) mode n whole = debugger_found know s mode n whole
    found (var_decl s k ds) mode n whole = variables_found know s k ds (all_found ds) mode n whole
    found (using_decl s w ds) mode n whole = using_found know s w ds (all_found ds) mode n whole
    found (var_declarator s k e) mode n whole = declarator_found know s k e (found k) (found e) mode n whole
    found (expr_stmt s e) mode n whole = statement_found know s e (found e) mode n whole
    found (if_stmt s t a b) mode n whole = if_found know s t a b (found t) (found a) (found b) mode n whole
    found (do_while_stmt s t b) mode n whole = do_while_found know s t b (found t) (found b) mode n whole
    found (while_stmt s t b) mode n whole = while_found know s t b (found t) (found b) mode n whole
    found (for_stmt s (var_decl v k ds) t u b) mode n whole = for_variables_found know s v k ds t u b (all_found ds) (found t) (found u) (found b) mode n whole
    found (for_stmt s (using_decl v w ds) t u b) mode n whole = for_using_found know s v w ds t u b (all_found ds) (found t) (found u) (found b) mode n whole
    found (for_stmt s i t u b) mode n whole = for_expression_found know s i t u b (found i) (found t) (found u) (found b) mode
    found (for_in_stmt s (var_decl v k ds) e b) mode n whole = for_in_found know s (var_decl v k ds) e b _ (head_variables know v k ds (all_found ds)) (found e) (found b) mode
    found (for_in_stmt s (using_decl v w ds) e b) mode n whole = for_in_found know s (using_decl v w ds) e b _ (head_using know v w ds (all_found ds)) (found e) (found b) mode
    found (for_in_stmt s a e b) mode n whole = for_in_found know s a e b _ (head_target know a (found a)) (found e) (found b) mode
    found (for_of_stmt s w (var_decl v k ds) e b) mode n whole = for_of_found know s w (var_decl v k ds) e b _ (head_variables know v k ds (all_found ds)) (found e) (found b) mode
    found (for_of_stmt s w (using_decl v i ds) e b) mode n whole = for_of_found know s w (using_decl v i ds) e b _ (head_using know v i ds (all_found ds)) (found e) (found b) mode
    found (for_of_stmt s w a e b) mode n whole = for_of_found know s w a e b _ (of_target know w a (found a)) (found e) (found b) mode
    found (continue_stmt s k) mode n whole = continue_found know s k (found k) mode n whole
    found (break_stmt s k) mode n whole = break_found know s k (found k) mode n whole
    found (return_stmt s e) mode n whole = return_found know s e (found e) mode n whole
    found (with_stmt s e b) mode n whole = with_found know s e b (found e) (found b) mode n whole
    found (switch_stmt s e xs) mode n whole = switch_found know s e xs (found e) (all_found xs) mode n whole
    found (switch_case s t ss) mode n whole = case_found know s t ss (found t) (all_found ss) mode n whole
    found (labeled_stmt s k b) mode n whole = labelled_found know s k b (found k) (found b) mode n whole
    found (throw_stmt s e) mode n whole = throw_found know s e (found e) mode n whole
    found (try_stmt s b k e) mode n whole = try_found know s b k e (found b) (found k) (found e) mode n whole
    found (catch_clause s a b) mode n whole = catch_found know s a b (found a) (found b) mode n whole
    found (import_decl s xs k w) mode n whole = import_found know s xs k w (all_found xs) (found k) (found w) mode n whole
    found (import_named_specifier s k i) mode n whole = named_import_found know s k i (found k) (found i) mode n whole
    found (import_default_specifier s k) mode n whole = default_import_found know s k (found k) mode n whole
    found (import_star_as_specifier s k) mode n whole = star_import_found know s k (found k) mode n whole
    found (named_export s xs k w) mode n whole = exports_found know s xs k w (all_found xs) (found k) (found w) mode n whole
    found (export_named_specifier s o e) mode n whole = named_export_found know s o e (found o) (found e) mode n whole
    found (export_namespace_specifier s k) mode n whole = star_export_found know s k (found k) mode n whole
    found (export_all s k w) mode n whole = export_all_found know s k w (found k) (found w) mode n whole
    found (export_decl s d) mode n whole = export_declaration_found know s d (found d) mode n whole
    found (export_default_decl s d) mode n whole = default_declaration_found know s d (found d) mode n whole
    found (export_default_expr s e) mode n whole = default_expression_found know s e (found e) mode n whole
    found (script s ss o) mode n whole = script_found know s ss o (all_found ss) mode n whole
    found (es_module s ss o) mode n whole = module_found know s ss o (all_found ss) mode n whole
    found _ mode n whole = λ c ts r h l. absurd h

    pub all_found : (ts : Trees) → AllFound know ts
    all_found none = tt
    all_found (more t ts) = (found t, all_found ts)
