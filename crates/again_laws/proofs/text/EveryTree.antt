-- Every tree that produces tokens goes, where its leaves are tokens of their categories.
use Rattle.std.proofs.Common.{◌≡◌, ℕ, ⊎_elim, Bool, true, false, ◌&&◌, ◌||◌, List, [], ◌∷◌, refl, subst, arith}
use Rattle.std.specs.Prelude.{◌==◌, codes}
use Rattle.std.proofs.lemmas.Bool.{false≢true, true≢false}
use Rattle.std.proofs.lemmas.Option.{none-some}
use Rattle.lex_token.specs.declared.goal.LexicalGoal.TheVariants.{Div, RegExp, TemplateTail}
use Rattle.base_token.specs.Kinds.{right_bracket_kind, right_brace_kind, right_paren_kind}
use Rattle.tree_spec.specs.Tree.{Tree, Trees, this_expr, null_lit, bool_lit, ident, ident_name, private_name, str_lit, number_lit, big_int_lit, regex_lit, expr_or_spread, array_lit, object_lit, key_value_prop, assign_prop, spread_element, computed_prop_name, tpl, tpl_element, paren_expr, member_expr, super_prop_expr, super, call_expr, import, new_expr, list, opt_chain_expr, opt_call, tagged_tpl, meta_prop_expr, update_expr, unary_expr, await_expr, bin_expr, cond_expr, assign_expr, arrow_expr, yield_expr, seq_expr, binding_ident, array_pat, object_pat, assign_pat, rest_pat, key_value_pat_prop, assign_pat_prop, expr_pat, param, function, fn_decl, fn_expr, method_prop, getter_prop, setter_prop, class, class_decl, class_expr, constructor, class_method, private_method, class_prop, private_prop, auto_accessor, static_block, block_stmt, empty_stmt, debugger_stmt, var_decl, using_decl, var_declarator, expr_stmt, if_stmt, do_while_stmt, while_stmt, for_stmt, for_in_stmt, for_of_stmt, continue_stmt, break_stmt, return_stmt, with_stmt, switch_stmt, switch_case, labeled_stmt, throw_stmt, try_stmt, catch_clause, import_decl, import_named_specifier, import_default_specifier, import_star_as_specifier, named_export, export_named_specifier, export_namespace_specifier, export_all, export_decl, export_default_decl, export_default_expr, script, es_module, absent, none, more, plain_method}
use Rattle.grammar_spec.specs.Tokens.Input.{Input, Code, setting, without_in}
use Rattle.grammar_spec.specs.Tokens.Operators.{call_level, member_level, new_level, unary_level, coalesce_level}
use Rattle.grammar_spec.specs.Tokens.Shape.{is_absent, is_element, is_prop, is_key, is_any_key, is_word_name, is_private, is_bound_name, is_target_expr, is_simple, is_pattern_prop, is_binding, is_item, is_statement, is_block, is_string, is_attributes}
use Rattle.grammar_spec.specs.Grammar.{children}
use Rattle.print_layout_spec.specs.declared.look.Look.{Look}
use Rattle.print_layout_spec.specs.declared.look.Stand.{Stand}
use Rattle.print_layout_spec.specs.declared.look.Stand.TheVariants.{Tagged}
use Rattle.grammar_spec.specs.Children.{is_ident, is_quasi}
use Rattle.grammar_spec.specs.Expressions.{TemplateSpans}
use Rattle.grammar_spec.specs.Patterns.{Item as PatternItem, Property}
use Rattle.grammar_spec.specs.Statements.{ClosesBlock, ClosesCase}
use Rattle.grammar_spec.specs.Functions.{Closes}
use Rattle.print_spelling.specs.Number.Numbers.{before_member}
use Rattle.print_layout_spec.specs.Layout.{is_tagged}
use Rattle.print_layout_spec.specs.Looks.{joined}
use Rattle.print_layout_spec.specs.Literals.{name_bytes, key_bytes, string_bytes, number_bytes, big_bytes, quasi_bytes}
use Rattle.again_laws.specs.Derived.Redo.{Mode, Plain, Headed, Raw, quasi_mode, object_mode, chain_mode, is_tagged as is_raw}
use Rattle.again_laws.specs.Derived.Every.{every, every_all}
use Rattle.again_laws.specs.Tiling.Categories.{Word, Number, Big, Member, Str, Regex, Quasi}
use Rattle.again_laws.specs.Tiling.Goes.{Fits}
use Rattle.again_laws.specs.Text.Fitting.{class_of_key}
use Rattle.again_laws.proofs.text.Forms.{Good, Sound, AllSound}
use Rattle.again_laws.proofs.text.NamesAndCalls.{parens, call, expression_statement}
use Rattle.again_laws.proofs.text.Operators.{update_before, update_behind, new_bare, returns}
use Rattle.again_laws.proofs.text.Binary.{unary, binary}
use Rattle.again_laws.proofs.text.Statements.{sub_item, block, if_on}
use Rattle.again_laws.proofs.text.LiteralNodes.{string_node, number_node, regex_node, Quasis}
use Rattle.again_laws.proofs.text.VariablesAndMethods.{conditional}
use Rattle.again_laws.proofs.text.Primaries.{this_node, null_node, bool_node, meta_node, name_node, bound_node, key_node, private_node as private_name_node, big_node}
use Rattle.again_laws.proofs.text.Members.{element, IsObject}
use Rattle.again_laws.proofs.text.Loops.{empty_node, debugger_node}
use Rattle.again_laws.proofs.text.GrammarToLayout.{is_odd, either_by, whole_test, whole_level, whole_up, whole_assigned, whole_by, Wholes, wholes, wholes_sorted, whole_items}
use Rattle.again_laws.proofs.text.NoOddParts.{head_whole, whole_left, whole_right, whole_place, whole_item_pat, whole_target, element_whole, yield_whole, sequence_whole, chain_object, chain_inner, chain_name, called_whole, called_args, params_whole, body_whole, function_params_whole, function_items_whole, method_params_whole, method_items_whole, arrow_whole, members_whole, export_whole, imports_whole, exports_whole, source_whole, with_whole}
use Rattle.again_laws.proofs.text.ProducedExpressions.{array, object, property, cover, spread, bracketed_key, spans_whole, template, tagged, member_bracketed, member_dotted, super_bracket, super_word, called_super, import_whole, called_import, new_with, chain_bracketed, chain_dotted, chain_called, awaited, assignment, yield_bare, yields, sequence, of_array, of_object, initialised, rests, keyed_item, named_item, target}
use Rattle.again_laws.proofs.text.ProducedFunctions.{parameter, function_tree, function_declared, function_expressed, arrow_block, arrow_expression, object_method, getter, setter, class_tree, class_declared, class_expressed, constructs, class_method_on, private_method_on, field, field_private, accessor, static_block_on}
use Rattle.again_laws.proofs.text.ProducedStatements.{do_while, while_on, with_on, labelled, throw_on, break_on, continue_on, declared_by, variables, using_on, for_expression, for_variables, for_using, head_variables, head_using, head_target, of_target, for_in, for_of, case_on, switch_on, try_on, cases_whole, bindings_whole, using_whole}
use Rattle.again_laws.proofs.text.ProducedModules.{named_import, default_import, star_import, star_export, named_export_on, import_on, exports_on, export_all_on, export_class_on, export_function_on, export_variables_on, default_class_on, default_function_on, default_expression_on}
use Rattle.again_laws.proofs.derived.FoundParts.{object_untagged}

-- ---- modes

quasi_plain : (mode : Mode) → is_raw mode ≡ false → is_raw (quasi_mode mode) ≡ false
quasi_plain Raw e = absurd (true≢false e)
quasi_plain _ e = refl

abbrev AllQuasi : Trees → Type 0
AllQuasi none = Unit {0}
AllQuasi (more q qs) = (is_quasi q ≡ true) × AllQuasi qs

pieces_are : (tagged : Bool) (c : Code) (es qs : Trees) (ts r : Input) → TemplateSpans tagged c (children es) (children qs) ts r → AllQuasi qs
pieces_are tagged c es none ts r h = tt
pieces_are tagged c none (more q none) ts r h = (h.4.0, tt)
pieces_are tagged c none (more q (more p qs)) ts r h = absurd h.1
pieces_are tagged c (more e es) (more q qs) ts r h = (h.6.0, pieces_are tagged c es qs _ _ h.10)

module _ (look : Look) where
  -- what is asked of each leaf: its text is a token of its category
  abbrev pub Leaf : Mode → Tree → Type 0
  Leaf mode (ident s n) = Fits Div (name_bytes look.style n) Word
  Leaf mode (ident_name s n) = Fits Div (name_bytes look.style n) Word × Fits Div (key_bytes look.style n) (class_of_key look.style n)
  Leaf mode (private_name s n) = Fits Div (name_bytes look.style n) Word
  Leaf mode (str_lit s u w) = Fits Div (string_bytes look.style u w) Str
  Leaf mode (number_lit s v w) = Fits Div (number_bytes look.style v w) Number × Fits Div (before_member (number_bytes look.style v w)) Member
  Leaf mode (big_int_lit s b d w) = Fits Div (big_bytes look.style b d w) Big
  Leaf mode (regex_lit s e f) = Fits RegExp (joined (codes "/" ∷ e ∷ codes "/" ∷ f ∷ [])) Regex
  Leaf mode (tpl_element s t w u) = Fits TemplateTail (quasi_bytes look.style true w) Quasi × (is_raw mode ≡ false → Fits TemplateTail (quasi_bytes look.style false w) Quasi)
  Leaf mode _ = Unit {0}

  object_of : (mode : Mode) (o : Tree) → every Leaf mode o → IsObject look o
  object_of mode o l e t v w q = subst (λ (x : Tree). every Leaf mode x) q l

  name_of : (mode : Mode) (k : Tree) → every Leaf mode k → is_ident k ≡ true → Good look k
  name_of mode (ident s n) l e = name_node look s n l
  name_of mode _ l e = absurd (false≢true e)

  piece_by : (b : Bool) (w : List ℕ) → Fits TemplateTail (quasi_bytes look.style true w) Quasi → Fits TemplateTail (quasi_bytes look.style false w) Quasi → Fits TemplateTail (quasi_bytes look.style b w) Quasi
  piece_by true w f g = f
  piece_by false w f g = g

  plain_quasis : (st : Stand) (mode : Mode) → is_raw mode ≡ false → (qs : Trees) → AllQuasi qs → every_all Leaf mode qs → Quasis look st qs
  unfolding Quasis
  plain_quasis st mode n none a l = tt
  plain_quasis st mode n (more (tpl_element s t w u) qs) a l = (piece_by (is_tagged st) w l.0.0 (l.0.1 n), plain_quasis st mode n qs a.1 l.1)
  plain_quasis st mode n (more _ qs) a l = absurd (false≢true a.0)

  raw_quasis : (mode : Mode) (qs : Trees) → AllQuasi qs → every_all Leaf mode qs → Quasis look Tagged qs
  unfolding Quasis
  raw_quasis mode none a l = tt
  raw_quasis mode (more (tpl_element s t w u) qs) a l = (l.0.0, raw_quasis mode qs a.1 l.1)
  raw_quasis mode (more _ qs) a l = absurd (false≢true a.0)

  mutual
    pub good : (mode : Mode) (t : Tree) → is_raw mode ≡ false → every Leaf mode t → is_odd t ≡ false → Sound look t
    good mode (this_expr s) n l w c ts r h = this_node look s
    good mode (null_lit s) n l w c ts r h = null_node look s
    good mode (bool_lit s v) n l w c ts r h = bool_node look s v
    good mode (ident s k) n l w c ts r h = name_node look s k l
    good mode (ident_name s k) n l w c ts r h = key_node look s k l.0 l.1
    good mode (private_name s k) n l w c ts r h = private_name_node look s k l
    good mode (str_lit s u v) n l w c ts r h = string_node look s u v l
    good mode (number_lit s v x) n l w c ts r h = number_node look s v x l.0
    good mode (big_int_lit s b d x) n l w c ts r h = big_node look s b d x l
    good mode (regex_lit s e f) n l w c ts r h = regex_node look s e f l
    good mode (expr_or_spread s d e) n l w c ts r h = element look s d e (good Plain e refl l.1 (element_whole c s d e ts r h)) c ts r h
    good mode (array_lit s xs) n l w c ts r h = array look s xs (goods Plain xs refl l.1 (wholes_sorted is_element (λ s t w u. refl) (λ s b l. refl) (λ s b l. refl) (λ s p b. refl) true c right_bracket_kind xs _ _ h.2)) c ts r h
    good mode (object_lit s ps) n l w c ts r h = object look s ps (goods Plain ps refl l.1 (wholes_sorted is_prop (λ s t w u. refl) (λ s b l. refl) (λ s b l. refl) (λ s p b. refl) false c right_brace_kind ps _ _ h.2)) c ts r h
    good mode (key_value_prop s k v) n l w c ts r h = property look s k v (good Plain k refl l.1 (whole_test is_key (λ s t w u. refl) (λ s b l. refl) (λ s b l. refl) (λ s p b. refl) k h.2.0)) (good Plain v refl l.2 (whole_assigned v h.4.0)) c ts r h
    good mode (assign_prop s k e) n l w c ts r h = cover look s k e (good Plain k refl l.1 (whole_test is_ident (λ s t w u. refl) (λ s b l. refl) (λ s b l. refl) (λ s p b. refl) k h.2.0)) (good Plain e refl l.2 (whole_assigned e h.4.0)) c ts r h
    good mode (spread_element s e) n l w c ts r h = spread look s e (good Plain e refl l.1 (whole_assigned e h.2.0)) c ts r h
    good mode (computed_prop_name s e) n l w c ts r h = bracketed_key look s e (good Plain e refl l.1 (whole_assigned e h.3.0)) c ts r h
    good mode (tpl s es qs) n l w c ts r h = template look s es qs (goods Plain es refl l.1 (spans_whole look false c es qs _ _ h.2)) (λ st. plain_quasis st (quasi_mode mode) (quasi_plain mode n) qs (pieces_are false c es qs _ _ h.2) l.2) c ts r h
    good mode (paren_expr s e) n l w c ts r h = parens look s e (good Plain e refl l.1 (whole_level e h.3.0)) c ts r h
    good mode (member_expr s o (computed_prop_name t e)) n l w c ts r h = member_bracketed look s o t e (object_of (object_mode mode (computed_prop_name t e)) o l.1) (good (object_mode mode (computed_prop_name t e)) o (object_untagged mode (computed_prop_name t e)) l.1 (whole_up call_level refl o h.2.0)) (good Plain e refl l.2.1 (whole_level e h.3.3.0)) c ts r h
    good mode (member_expr s o k) n l w c ts r h = member_dotted look s o k (object_of (object_mode mode k) o l.1) (good (object_mode mode k) o (object_untagged mode k) l.1 (whole_up call_level refl o h.2.0)) (good Plain k refl l.2 (whole_test (λ x. is_word_name x || is_private x) (λ s t w u. refl) (λ s b l. refl) (λ s b l. refl) (λ s p b. refl) k h.3.2.0)) c ts r h
    good mode (super_prop_expr s (super t) (computed_prop_name q e)) n l w c ts r h = super_bracket look s t q e (good Plain e refl l.2.1 (whole_level e h.3.3.0)) c ts r h
    good mode (super_prop_expr s (super t) k) n l w c ts r h = super_word look s t k (good Plain k refl l.2 (whole_test (λ x. is_word_name x || (false && is_private x)) (λ s t w u. refl) (λ s b l. refl) (λ s b l. refl) (λ s p b. refl) k h.3.2.0)) c ts r h
    good mode (super_prop_expr s _ k) n l w c ts r h = absurd h
    good mode (call_expr s (super t) xs) n l w c ts r h = called_super look s t xs (goods Plain xs refl l.2 (wholes_sorted is_element (λ s t w u. refl) (λ s b l. refl) (λ s b l. refl) (λ s p b. refl) false c right_paren_kind xs _ _ h.3.2)) c ts r h
    good mode (call_expr s (import t) xs) n l w c ts r h = called_import look s t xs (goods Plain xs refl l.2 (import_whole look c xs h.1 r h.5)) c ts r h
    good mode (call_expr s f xs) n l w c ts r h = call look s f xs (good Headed f refl l.1 (whole_up call_level refl f h.2.0)) (goods Plain xs refl l.2 (wholes_sorted is_element (λ s t w u. refl) (λ s b l. refl) (λ s b l. refl) (λ s p b. refl) false c right_paren_kind xs _ _ h.3.2)) c ts r h
    good mode (new_expr s f absent) n l w c ts r h = new_bare look s f (good Headed f refl l.1 (whole_level f (⊎_elim (λ e. omega (arith, e)) (λ e. omega (arith, e)) h.2))) c ts r h
    good mode (new_expr s f (list xs)) n l w c ts r h = new_with look s f xs (good Headed f refl l.1 (whole_up member_level refl f h.3.0)) (goods Plain xs refl l.2.1 (wholes_sorted is_element (λ s t w u. refl) (λ s b l. refl) (λ s b l. refl) (λ s p b. refl) false c right_paren_kind xs _ _ h.4.2)) c ts r h
    good mode (new_expr s f _) n l w c ts r h = absurd h
    good mode (opt_chain_expr s q (member_expr t o (computed_prop_name b e))) n l w c ts r h = chain_bracketed look s q t o b e (object_of (object_mode (chain_mode q) (computed_prop_name b e)) o l.1.1) (good (object_mode (chain_mode q) (computed_prop_name b e)) o (object_untagged (chain_mode q) (computed_prop_name b e)) l.1.1 (chain_object c s q t o _ _ ts r h)) (good Plain e refl l.1.2.1 (chain_inner c s q t o b e ts r h)) c ts r h
    good mode (opt_chain_expr s q (member_expr t o k)) n l w c ts r h = chain_dotted look s q t o k (object_of (object_mode (chain_mode q) k) o l.1.1) (good (object_mode (chain_mode q) k) o (object_untagged (chain_mode q) k) l.1.1 (chain_object c s q t o _ _ ts r h)) (good Plain k refl l.1.2 (chain_name c s q t o k ts r h)) c ts r h
    good mode (opt_chain_expr s q (opt_call t f xs)) n l w c ts r h = chain_called look s q t f xs (good Headed f refl l.1.1 (called_whole c s q t f xs ts r h)) (goods Plain xs refl l.1.2 (called_args c s q t f xs ts r h)) c ts r h
    good mode (opt_chain_expr s q _) n l w c ts r h = absurd h
    good mode (tagged_tpl s t (tpl q es qs)) n l w c ts r h = tagged look s t q es qs (good Headed t refl l.1 (whole_up call_level refl t h.2.0)) (goods Plain es refl l.2.1 (spans_whole look true c es qs _ _ h.3.2)) (raw_quasis Raw qs (pieces_are true c es qs _ _ h.3.2) l.2.2) c ts r h
    good mode (tagged_tpl s t _) n l w c ts r h = absurd h
    good mode (meta_prop_expr s k) n l w c ts r h = meta_node look s k
    good mode (update_expr s op true a) n l w c ts r h = update_before look s op a (good Plain a refl l.1 (whole_up unary_level refl a h.3.0)) c ts r h
    good mode (update_expr s op false a) n l w c ts r h = update_behind look s op a (good Plain a refl l.1 (whole_up new_level refl a h.2.0)) c ts r h
    good mode (unary_expr s op a) n l w c ts r h = unary look s op a (good Plain a refl l.1 (whole_up unary_level refl a h.3.0)) c ts r h
    good mode (await_expr s a) n l w c ts r h = awaited look s a (good Plain a refl l.1 (whole_up unary_level refl a h.3.0)) c ts r h
    good mode (bin_expr s op a b) n l w c ts r h = binary look s op a b (good Plain a refl l.1 (whole_left c op a h.2 h.3)) (good Plain b refl l.2 (whole_right op b h.6.0)) c ts r h
    good mode (cond_expr s a b d) n l w c ts r h = conditional look s a b d (good Plain a refl l.1 (whole_up coalesce_level refl a h.4.0)) (good Plain b refl l.2 (whole_assigned b h.6.0)) (good Plain d refl l.3 (whole_assigned d h.8.0)) c ts r h
    good mode (assign_expr s op a b) n l w c ts r h = assignment look s op a b (good Plain a refl l.1 (whole_target op a h.3)) (good Plain b refl l.2 (whole_assigned b h.6.0)) c ts r h
    good mode (arrow_expr s ps (block_stmt b ss) i) n l w c ts r h = arrow_block look s ps b ss i (goods Plain ps refl l.1 (arrow_whole c ps _ _ h.1.3)) (goods Plain ss refl l.2.1 (body_whole _ b ss h.0 r h.2)) c ts r h
    good mode (arrow_expr s ps e i) n l w c ts r h = arrow_expression look s ps e i (goods Plain ps refl l.1 (arrow_whole c ps _ _ h.1.3)) (good Plain e refl l.2 (whole_assigned e h.3.0)) c ts r h
    good mode (yield_expr s absent g) n l w c ts r h = yield_bare look s g c ts r h
    good mode (yield_expr s a g) n l w c ts r h = yields look s a g (good Plain a refl l.1 (yield_whole c s a g ts r h)) c ts r h
    good mode (seq_expr s xs) n l w c ts r h = sequence look s xs (goods Plain xs refl l.1 (sequence_whole c s xs ts r h)) c ts r h
    good mode (binding_ident s (ident t k)) n l w c ts r h = bound_node look s t k l.1
    good mode (binding_ident s _) n l w c ts r h = absurd h
    good mode (array_pat s xs) n l w c ts r h = of_array look s xs (goods Plain xs refl l.1 (wholes (PatternItem c) (λ t m o k. whole_item_pat c.binds t k.0) true c right_bracket_kind xs _ _ h.2)) c ts r h
    good mode (object_pat s ps) n l w c ts r h = of_object look s ps (goods Plain ps refl l.1 (wholes (Property c) (λ t m o k. (whole_test is_pattern_prop (λ s t w u. refl) (λ s b l. refl) (λ s b l. refl) (λ s p b. refl) t k.0)) false c right_brace_kind ps _ _ h.2)) c ts r h
    good mode (assign_pat s a e) n l w c ts r h = initialised look s a e (good Plain a refl l.1 (whole_place c.binds a h.2)) (good Plain e refl l.2 (whole_assigned e h.5.0)) c ts r h
    good mode (rest_pat s d a) n l w c ts r h = rests look s d a (good Plain a refl l.1 (whole_place c.binds a h.3)) c ts r h
    good mode (key_value_pat_prop s k a) n l w c ts r h = keyed_item look s k a (good Plain k refl l.1 (whole_test is_key (λ s t w u. refl) (λ s b l. refl) (λ s b l. refl) (λ s p b. refl) k h.2.0)) (good Plain a refl l.2 (whole_item_pat c.binds a h.4.0)) c ts r h
    good mode (assign_pat_prop s k e) n l w c ts r h = named_item look s k e (good Plain k refl l.1 (whole_test is_bound_name (λ s t w u. refl) (λ s b l. refl) (λ s b l. refl) (λ s p b. refl) k h.1.0)) (good Plain e refl l.2 (whole_by e _ _ h.2 (λ q. (whole_assigned e q.2.0)))) c ts r h
    good mode (expr_pat e) n l w c ts r h = target look e (good Plain e refl l.1 (whole_test (λ x. is_target_expr x && is_simple x) (λ s t w u. refl) (λ s b l. refl) (λ s b l. refl) (λ s p b. refl) e h.0)) c ts r h
    good mode (param s ds a) n l w c ts r h = parameter look s ds a (good Plain a refl l.2 (whole_item_pat true a h.1)) c ts r h
    good mode (function s ps ds (block_stmt b ss) g a) n l w c ts r h = function_tree look s ps ds b ss g a (goods Plain ps refl l.1 (function_params_whole c ps ds b ss g a ts r h)) (goods Plain ss refl l.3.1 (function_items_whole c ps ds b ss g a ts r h)) c ts r h
    good mode (function s ps ds _ g a) n l w c ts r h = absurd h
    good mode (fn_decl s k (function at' ps ds (block_stmt b ss) g a)) n l w c ts r h = function_declared look s k (function at' ps ds (block_stmt b ss) g a) (good Plain k refl l.1 (whole_test is_ident (λ s t w u. refl) (λ s b l. refl) (λ s b l. refl) (λ s p b. refl) k h.3.0)) ((goods Plain ps refl l.2.1 (function_params_whole (setting false c) ps ds b ss g a h.1 r h.4)), (goods Plain ss refl l.2.3.1 (function_items_whole (setting false c) ps ds b ss g a h.1 r h.4))) c ts r h
    good mode (fn_decl s k (function at' ps ds _ g a)) n l w c ts r h = absurd h.4
    good mode (fn_decl s k _) n l w c ts r h = absurd h
    good mode (fn_expr s k (function at' ps ds (block_stmt b ss) g a)) n l w c ts r h = function_expressed look s k (function at' ps ds (block_stmt b ss) g a) (good Plain k refl l.1 (whole_by k _ _ h.3 (λ q. (whole_test is_ident (λ s t w u. refl) (λ s b l. refl) (λ s b l. refl) (λ s p b. refl) k q.0)))) ((goods Plain ps refl l.2.1 (function_params_whole (setting false c) ps ds b ss g a h.1 r h.4)), (goods Plain ss refl l.2.3.1 (function_items_whole (setting false c) ps ds b ss g a h.1 r h.4))) c ts r h
    good mode (fn_expr s k (function at' ps ds _ g a)) n l w c ts r h = absurd h.4
    good mode (fn_expr s k _) n l w c ts r h = absurd h
    good mode (method_prop s k (function at' ps ds (block_stmt b ss) g a)) n l w c ts r h = object_method look s k (function at' ps ds (block_stmt b ss) g a) (good Plain k refl l.1 (whole_test is_key (λ s t w u. refl) (λ s b l. refl) (λ s b l. refl) (λ s p b. refl) k h.0)) ((goods Plain ps refl l.2.1 (method_params_whole c plain_method k at' ps ds b ss g a ts r h.1)), (goods Plain ss refl l.2.3.1 (method_items_whole c plain_method k at' ps ds b ss g a ts r h.1))) c ts r h
    good mode (method_prop s k (function at' ps ds _ g a)) n l w c ts r h = absurd h.1.4
    good mode (method_prop s k _) n l w c ts r h = absurd h
    good mode (getter_prop s k (block_stmt b ss)) n l w c ts r h = getter look s k b ss (good Plain k refl l.1 (whole_test is_key (λ s t w u. refl) (λ s b l. refl) (λ s b l. refl) (λ s p b. refl) k h.5.0)) (goods Plain ss refl l.2.1 (body_whole _ b ss h.3 r h.8)) c ts r h
    good mode (getter_prop s k _) n l w c ts r h = absurd h
    good mode (setter_prop s k a (block_stmt b ss)) n l w c ts r h = setter look s k a b ss (good Plain k refl l.1 (whole_test is_key (λ s t w u. refl) (λ s b l. refl) (λ s b l. refl) (λ s p b. refl) k h.6.0)) (good Plain a refl l.2 (whole_item_pat true a h.8)) (goods Plain ss refl l.3.1 (body_whole _ b ss h.4 r h.12)) c ts r h
    good mode (setter_prop s k a _) n l w c ts r h = absurd h
    good mode (class s ds ms k) n l w c ts r h = class_tree look s ds ms k (goods Plain ms refl l.2 (members_whole _ ms _ _ h.5)) c ts r h
    good mode (class_decl s k (class at' ds ms p)) n l w c ts r h = class_declared look s k (class at' ds ms p) (good Plain k refl l.1 (whole_test is_ident (λ s t w u. refl) (λ s b l. refl) (λ s b l. refl) (λ s p b. refl) k h.3.0)) ((goods Plain ms refl l.2.2 (members_whole _ ms _ _ h.4.5)), (good Plain p refl l.2.3 (whole_by p _ _ h.4.3 (λ q. (whole_up new_level refl p q.2.0))))) c ts r h
    good mode (class_decl s k _) n l w c ts r h = absurd (none-some s h.5)
    good mode (class_expr s k (class at' ds ms p)) n l w c ts r h = class_expressed look s k (class at' ds ms p) (good Plain k refl l.1 (whole_by k _ _ h.3 (λ q. (whole_test is_ident (λ s t w u. refl) (λ s b l. refl) (λ s b l. refl) (λ s p b. refl) k q.0)))) ((goods Plain ms refl l.2.2 (members_whole _ ms _ _ h.4.5)), (good Plain p refl l.2.3 (whole_by p _ _ h.4.3 (λ q. (whole_up new_level refl p q.2.0))))) c ts r h
    good mode (class_expr s k _) n l w c ts r h = absurd (none-some s h.5)
    good mode (constructor s k ps (block_stmt b ss)) n l w c ts r h = constructs look s k ps b ss (goods Plain ps refl l.2 (params_whole _ ps h.0 h.1 h.4)) (goods Plain ss refl l.3.1 (body_whole _ b ss h.1 r h.5)) c ts r h
    good mode (constructor s k ps _) n l w c ts r h = absurd h
    good mode (class_method s k (function at' ps ds (block_stmt b ss) g a) m i) n l w c ts r h = class_method_on look s k (function at' ps ds (block_stmt b ss) g a) m i (good Plain k refl l.1 (whole_test is_key (λ s t w u. refl) (λ s b l. refl) (λ s b l. refl) (λ s p b. refl) k h.1)) ((goods Plain ps refl l.2.1 (method_params_whole c m k at' ps ds b ss g a h.0 r h.4)), (goods Plain ss refl l.2.3.1 (method_items_whole c m k at' ps ds b ss g a h.0 r h.4))) c ts r h
    good mode (class_method s k (function at' ps ds _ g a) m i) n l w c ts r h = either_by (m == plain_method) _ _ h.4 (λ z. absurd z.4) (λ z. absurd z.7)
    good mode (class_method s k _ m i) n l w c ts r h = absurd h
    good mode (private_method s k (function at' ps ds (block_stmt b ss) g a) m i) n l w c ts r h = private_method_on look s k (function at' ps ds (block_stmt b ss) g a) m i (good Plain k refl l.1 (whole_test is_private (λ s t w u. refl) (λ s b l. refl) (λ s b l. refl) (λ s p b. refl) k h.1)) ((goods Plain ps refl l.2.1 (method_params_whole c m k at' ps ds b ss g a h.0 r h.4)), (goods Plain ss refl l.2.3.1 (method_items_whole c m k at' ps ds b ss g a h.0 r h.4))) c ts r h
    good mode (private_method s k (function at' ps ds _ g a) m i) n l w c ts r h = either_by (m == plain_method) _ _ h.4 (λ z. absurd z.4) (λ z. absurd z.7)
    good mode (private_method s k _ m i) n l w c ts r h = absurd h
    good mode (class_prop s k v i ds) n l w c ts r h = field look s k v i ds (good Plain k refl l.1 (whole_test is_key (λ s t w u. refl) (λ s b l. refl) (λ s b l. refl) (λ s p b. refl) k h.3)) (good Plain v refl l.2 (whole_by v _ _ h.6 (λ q. (whole_assigned v q.3.0)))) c ts r h
    good mode (private_prop s k v i ds) n l w c ts r h = field_private look s k v i ds (good Plain k refl l.1 (whole_test is_private (λ s t w u. refl) (λ s b l. refl) (λ s b l. refl) (λ s p b. refl) k h.3)) (good Plain v refl l.2 (whole_by v _ _ h.6 (λ q. (whole_assigned v q.3.0)))) c ts r h
    good mode (auto_accessor s k v i ds) n l w c ts r h = accessor look s k v i ds (good Plain k refl l.1 (whole_test is_any_key (λ s t w u. refl) (λ s b l. refl) (λ s b l. refl) (λ s p b. refl) k h.8.0)) (good Plain v refl l.2 (whole_by v _ _ h.9 (λ q. (whole_assigned v q.3.0)))) c ts r h
    good mode (static_block s (block_stmt b ss)) n l w c ts r h = static_block_on look s b ss (goods Plain ss refl l.1.1 (whole_items is_item (λ s t w u. refl) (λ s b l. refl) (λ s b l. refl) (λ s p b. refl) Closes _ false ss _ _ h.4)) c ts r h
    good mode (static_block s _) n l w c ts r h = absurd h
    good mode (block_stmt s ss) n l w c ts r h = block look s ss (goods Plain ss refl l.1 (whole_items is_item (λ s t w u. refl) (λ s b l. refl) (λ s b l. refl) (λ s p b. refl) ClosesBlock _ false ss _ _ h.2)) c ts r h
    good mode (empty_stmt s) n l w c ts r h = empty_node look s
    good mode (debugger_stmt s) n l w c ts r h = debugger_node look s
    good mode (var_decl s k ds) n l w c ts r h = variables look s k ds (goods Plain ds refl l.1 (bindings_whole c k ds ts h.0 h.1)) c ts r h
    good mode (using_decl s i ds) n l w c ts r h = using_on look s i ds (goods Plain ds refl l.1 (using_whole c i ds ts h.0 h.1)) c ts r h
    good mode (var_declarator s k e) n l w c ts r h = declared_by look s k e (good Plain k refl l.1 (whole_test is_binding (λ s t w u. refl) (λ s b l. refl) (λ s b l. refl) (λ s p b. refl) k h.1)) (good Plain e refl l.2 (whole_by e _ _ h.3 (λ q. (whole_assigned e q.2.0)))) c ts r h
    good mode (expr_stmt s e) n l w c ts r h = expression_statement look s e (good Plain e refl l.1 (whole_level e h.2.0)) c ts r h
    good mode (if_stmt s t a b) n l w c ts r h = if_on look s t a b (good Plain t refl l.1 (whole_level t h.4.3.0)) (good Plain a refl l.2 (whole_test is_item (λ s t w u. refl) (λ s b l. refl) (λ s b l. refl) (λ s p b. refl) a (sub_item look c a h.5.0))) (good Plain b refl l.3 (whole_by b _ _ h.6 (λ q. (whole_test is_item (λ s t w u. refl) (λ s b l. refl) (λ s b l. refl) (λ s p b. refl) b (sub_item look c b q.2.0))))) c ts r h
    good mode (do_while_stmt s t b) n l w c ts r h = do_while look s t b (good Plain t refl l.1 (whole_level t h.7.3.0)) (good Plain b refl l.2 (whole_test is_statement (λ s t w u. refl) (λ s b l. refl) (λ s b l. refl) (λ s p b. refl) b h.5.0)) c ts r h
    good mode (while_stmt s t b) n l w c ts r h = while_on look s t b (good Plain t refl l.1 (whole_level t h.3.3.0)) (good Plain b refl l.2 (whole_test is_statement (λ s t w u. refl) (λ s b l. refl) (λ s b l. refl) (λ s p b. refl) b h.4.0)) c ts r h
    good mode (for_stmt s (var_decl v k ds) t u b) n l w c ts r h = for_variables look s v k ds t u b (goods Plain ds refl l.1.1 (bindings_whole (without_in c) k ds h.0 h.1 h.4)) (good Plain t refl l.2 (whole_by t _ _ h.7.2.1 (λ q. whole_level t q.0))) (good Plain u refl l.3 (whole_by u _ _ h.7.3.1 (λ q. whole_level u q.0))) (good Plain b refl l.4 (whole_test is_statement (λ s t w u. refl) (λ s b l. refl) (λ s b l. refl) (λ s p b. refl) b h.7.4.0)) c ts r h
    good mode (for_stmt s (using_decl v i ds) t u b) n l w c ts r h = for_using look s v i ds t u b (goods Plain ds refl l.1.1 (using_whole (without_in c) i ds h.0 h.1 h.5)) (good Plain t refl l.2 (whole_by t _ _ h.8.2.1 (λ q. whole_level t q.0))) (good Plain u refl l.3 (whole_by u _ _ h.8.3.1 (λ q. whole_level u q.0))) (good Plain b refl l.4 (whole_test is_statement (λ s t w u. refl) (λ s b l. refl) (λ s b l. refl) (λ s p b. refl) b h.8.4.0)) c ts r h
    good mode (for_stmt s i t u b) n l w c ts r h = for_expression look s i t u b (good Plain i refl l.1 (head_whole c s i t u b ts r h)) (good Plain t refl l.2 (whole_by t _ _ h.6.2.1 (λ q. whole_level t q.0))) (good Plain u refl l.3 (whole_by u _ _ h.6.3.1 (λ q. whole_level u q.0))) (good Plain b refl l.4 (whole_test is_statement (λ s t w u. refl) (λ s b l. refl) (λ s b l. refl) (λ s p b. refl) b h.6.4.0)) c ts r h
    good mode (for_in_stmt s (var_decl v k ds) e b) n l w c ts r h = for_in look s (var_decl v k ds) e b c _ (head_variables look v k ds (goods Plain ds refl l.1.1 (bindings_whole (without_in c) k ds h.0 h.1 h.3.1)) c) (good Plain e refl l.2 (whole_level e h.4.4.0)) (good Plain b refl l.3 (whole_test is_statement (λ s t w u. refl) (λ s b l. refl) (λ s b l. refl) (λ s p b. refl) b h.4.6.0)) ts r h
    good mode (for_in_stmt s (using_decl v i ds) e b) n l w c ts r h = for_in look s (using_decl v i ds) e b c _ (head_using look v i ds (goods Plain ds refl l.1.1 (using_whole (without_in c) i ds h.0 h.1 h.3.2)) c) (good Plain e refl l.2 (whole_level e h.4.4.0)) (good Plain b refl l.3 (whole_test is_statement (λ s t w u. refl) (λ s b l. refl) (λ s b l. refl) (λ s p b. refl) b h.4.6.0)) ts r h
    good mode (for_in_stmt s a e b) n l w c ts r h = for_in look s a e b c _ (head_target look a (good Plain a refl l.1 (whole_place false a h.3.1)) c) (good Plain e refl l.2 (whole_level e h.4.4.0)) (good Plain b refl l.3 (whole_test is_statement (λ s t w u. refl) (λ s b l. refl) (λ s b l. refl) (λ s p b. refl) b h.4.6.0)) ts r h
    good mode (for_of_stmt s x (var_decl v k ds) e b) n l w c ts r h = for_of look s x (var_decl v k ds) e b c _ (head_variables look v k ds (goods Plain ds refl l.1.1 (bindings_whole (without_in c) k ds h.0 h.1 h.3.1)) c) (good Plain e refl l.2 (whole_assigned e h.4.4.0)) (good Plain b refl l.3 (whole_test is_statement (λ s t w u. refl) (λ s b l. refl) (λ s b l. refl) (λ s p b. refl) b h.4.6.0)) ts r h
    good mode (for_of_stmt s x (using_decl v i ds) e b) n l w c ts r h = for_of look s x (using_decl v i ds) e b c _ (head_using look v i ds (goods Plain ds refl l.1.1 (using_whole (without_in c) i ds h.0 h.1 h.3.2)) c) (good Plain e refl l.2 (whole_assigned e h.4.4.0)) (good Plain b refl l.3 (whole_test is_statement (λ s t w u. refl) (λ s b l. refl) (λ s b l. refl) (λ s p b. refl) b h.4.6.0)) ts r h
    good mode (for_of_stmt s x a e b) n l w c ts r h = for_of look s x a e b c _ (of_target look x a (good Plain a refl l.1 (whole_place false a h.3.1.1)) c) (good Plain e refl l.2 (whole_assigned e h.4.4.0)) (good Plain b refl l.3 (whole_test is_statement (λ s t w u. refl) (λ s b l. refl) (λ s b l. refl) (λ s p b. refl) b h.4.6.0)) ts r h
    good mode (continue_stmt s k) n l w c ts r h = continue_on look s k (good Plain k refl l.1 (whole_by k _ _ h.3 (λ q. (whole_test is_ident (λ s t w u. refl) (λ s b l. refl) (λ s b l. refl) (λ s p b. refl) k q.1.0)))) c ts r h
    good mode (break_stmt s k) n l w c ts r h = break_on look s k (good Plain k refl l.1 (whole_by k _ _ h.3 (λ q. (whole_test is_ident (λ s t w u. refl) (λ s b l. refl) (λ s b l. refl) (λ s p b. refl) k q.1.0)))) c ts r h
    good mode (return_stmt s e) n l w c ts r h = returns look s e (good Plain e refl l.1 (whole_by e _ _ h.2 (λ q. (whole_level e q.2.0)))) c ts r h
    good mode (with_stmt s e b) n l w c ts r h = with_on look s e b (good Plain e refl l.1 (whole_level e h.3.3.0)) (good Plain b refl l.2 (whole_test is_statement (λ s t w u. refl) (λ s b l. refl) (λ s b l. refl) (λ s p b. refl) b h.4.0)) c ts r h
    good mode (switch_stmt s e xs) n l w c ts r h = switch_on look s e xs (good Plain e refl l.1 (whole_level e h.4.3.0)) (goods Plain xs refl l.2 (cases_whole c false xs _ _ h.6)) c ts r h
    good mode (switch_case s t ss) n l w c ts r h = case_on look s t ss (good Plain t refl l.1 (whole_by t _ _ h.2 (λ q. (whole_level t q.2.0)))) (goods Plain ss refl l.2 (whole_items is_item (λ s t w u. refl) (λ s b l. refl) (λ s b l. refl) (λ s p b. refl) ClosesCase _ false ss _ _ h.4)) c ts r h
    good mode (labeled_stmt s k b) n l w c ts r h = labelled look s k b (good Plain k refl l.1 (whole_test is_ident (λ s t w u. refl) (λ s b l. refl) (λ s b l. refl) (λ s p b. refl) k h.2.0)) (good Plain b refl l.2 (whole_test is_item (λ s t w u. refl) (λ s b l. refl) (λ s b l. refl) (λ s p b. refl) b (sub_item look c b h.4.0))) c ts r h
    good mode (throw_stmt s e) n l w c ts r h = throw_on look s e (good Plain e refl l.1 (whole_level e h.4.0)) c ts r h
    good mode (try_stmt s (block_stmt b ss) (catch_clause t p (block_stmt a us)) f) n l w c ts r h = try_on look s (block_stmt b ss) (catch_clause t p (block_stmt a us)) f (goods Plain ss refl l.1.1 (whole_items is_item (λ s t w u. refl) (λ s b l. refl) (λ s b l. refl) (λ s p b. refl) ClosesBlock _ false ss _ _ h.5.1.2)) ((good Plain p refl l.2.1 (whole_by p _ _ h.6.1.3 (λ q. (whole_test is_binding (λ s t w u. refl) (λ s b l. refl) (λ s b l. refl) (λ s p b. refl) p q.3)))), (goods Plain us refl l.2.2.1 (whole_items is_item (λ s t w u. refl) (λ s b l. refl) (λ s b l. refl) (λ s p b. refl) ClosesBlock _ false us _ _ h.6.1.4.1.2))) (good Plain f refl l.3 (whole_by f _ _ h.7 (λ q. (whole_test is_block (λ s t w u. refl) (λ s b l. refl) (λ s b l. refl) (λ s p b. refl) f q.2.0)))) c ts r h
    good mode (try_stmt s (block_stmt b ss) absent f) n l w c ts r h = try_on look s (block_stmt b ss) absent f (goods Plain ss refl l.1.1 (whole_items is_item (λ s t w u. refl) (λ s b l. refl) (λ s b l. refl) (λ s p b. refl) ClosesBlock _ false ss _ _ h.5.1.2)) tt (good Plain f refl l.3 (whole_by f _ _ h.7 (λ q. (whole_test is_block (λ s t w u. refl) (λ s b l. refl) (λ s b l. refl) (λ s p b. refl) f q.2.0)))) c ts r h
    good mode (try_stmt s (block_stmt b ss) (catch_clause t p _) f) n l w c ts r h = absurd (false≢true h.6.1.4.0)
    good mode (try_stmt s (block_stmt b ss) _ f) n l w c ts r h = absurd (false≢true h.6.0)
    good mode (try_stmt s _ k f) n l w c ts r h = absurd (false≢true h.5.0)
    good mode (import_decl s xs f x) n l w c ts r h = import_on look s xs f x (goods Plain xs refl l.1 (imports_whole c xs h.0 h.1 h.3)) (good Plain f refl l.2 (whole_test is_string (λ s t w u. refl) (λ s b l. refl) (λ s b l. refl) (λ s p b. refl) f h.4.1.0)) (good Plain x refl l.3 (whole_by x _ _ h.4.2 (λ q. (whole_test is_attributes (λ s t w u. refl) (λ s b l. refl) (λ s b l. refl) (λ s p b. refl) x q.1.3)))) c ts r h
    good mode (import_named_specifier s k i) n l w c ts r h = named_import look s k i (good Plain k refl l.1 (either_by (is_absent i) _ _ h.0 (λ z. (whole_test is_ident (λ s t w u. refl) (λ s b l. refl) (λ s b l. refl) (λ s p b. refl) k z.0)) (λ z. (whole_test is_ident (λ s t w u. refl) (λ s b l. refl) (λ s b l. refl) (λ s p b. refl) k z.4.0)))) (name_of Plain i l.2) (good Plain i refl l.2 (whole_by i _ _ h.0 (λ q. export_whole c i ts q.0 q.2))) c ts r h
    good mode (import_default_specifier s k) n l w c ts r h = default_import look s k (good Plain k refl l.1 (whole_test is_ident (λ s t w u. refl) (λ s b l. refl) (λ s b l. refl) (λ s p b. refl) k h.0.0)) c ts r h
    good mode (import_star_as_specifier s k) n l w c ts r h = star_import look s k (good Plain k refl l.1 (whole_test is_ident (λ s t w u. refl) (λ s b l. refl) (λ s b l. refl) (λ s p b. refl) k h.4.0)) c ts r h
    good mode (named_export s xs f x) n l w c ts r h = exports_on look s xs f x (goods Plain xs refl l.1 (exports_whole c xs f x h.0 r h.2)) (good Plain f refl l.2 (source_whole c xs f x h.0 r h.2)) (good Plain x refl l.3 (with_whole c xs f x h.0 r h.2)) c ts r h
    good mode (export_named_specifier s o e) n l w c ts r h = named_export_on look s o e (name_of Plain o l.1) (good Plain o refl l.1 (export_whole c o ts h.0 h.1)) (name_of Plain e l.2) (good Plain e refl l.2 (whole_by e _ _ h.2 (λ q. export_whole c e q.0 r q.2))) c ts r h
    good mode (export_namespace_specifier s k) n l w c ts r h = star_export look s k (name_of Plain k l.1) (good Plain k refl l.1 (export_whole c k h.1 r h.4)) c ts r h
    good mode (export_all s f x) n l w c ts r h = export_all_on look s f x (good Plain f refl l.1 (whole_test is_string (λ s t w u. refl) (λ s b l. refl) (λ s b l. refl) (λ s p b. refl) f h.6.1.0)) (good Plain x refl l.2 (whole_by x _ _ h.6.2 (λ q. (whole_test is_attributes (λ s t w u. refl) (λ s b l. refl) (λ s b l. refl) (λ s p b. refl) x q.1.3)))) c ts r h
    good mode (export_decl s (class_decl a k (class at' ds ms p))) n l w c ts r h = export_class_on look s a k (class at' ds ms p) (good Plain k refl l.1.1 (whole_test is_ident (λ s t w u. refl) (λ s b l. refl) (λ s b l. refl) (λ s p b. refl) k h.3.3.0)) ((goods Plain ms refl l.1.2.2 (members_whole _ ms _ _ h.3.4.5)), (good Plain p refl l.1.2.3 (whole_by p _ _ h.3.4.3 (λ q. (whole_up new_level refl p q.2.0))))) c ts r h
    good mode (export_decl s (class_decl a k _)) n l w c ts r h = absurd (none-some a h.3.5)
    good mode (export_decl s (fn_decl a k f)) n l w c ts r h = export_function_on look s a k f (good Plain (fn_decl a k f) refl l.1 refl) c ts r h
    good mode (export_decl s (var_decl a k ds)) n l w c ts r h = export_variables_on look s a k ds (good Plain (var_decl a k ds) refl l.1 refl) c ts r h
    good mode (export_decl s _) n l w c ts r h = absurd (false≢true h.2)
    good mode (export_default_decl s (class_expr a k (class at' ds ms p))) n l w c ts r h = default_class_on look s a k (class at' ds ms p) (good Plain k refl l.1.1 (whole_by k _ _ h.3.3 (λ q. (whole_test is_ident (λ s t w u. refl) (λ s b l. refl) (λ s b l. refl) (λ s p b. refl) k q.0)))) ((goods Plain ms refl l.1.2.2 (members_whole _ ms _ _ h.3.4.5)), (good Plain p refl l.1.2.3 (whole_by p _ _ h.3.4.3 (λ q. (whole_up new_level refl p q.2.0))))) c ts r h
    good mode (export_default_decl s (class_expr a k _)) n l w c ts r h = absurd (none-some a h.3.5)
    good mode (export_default_decl s (fn_expr a k (function at' ps ds (block_stmt b ss) g x))) n l w c ts r h = default_function_on look s a k (function at' ps ds (block_stmt b ss) g x) (good Plain k refl l.1.1 (whole_by k _ _ h.3.3 (λ q. (whole_test is_ident (λ s t w u. refl) (λ s b l. refl) (λ s b l. refl) (λ s p b. refl) k q.0)))) ((goods Plain ps refl l.1.2.1 (function_params_whole (setting false c) ps ds b ss g x h.3.1 r h.3.4)), (goods Plain ss refl l.1.2.3.1 (function_items_whole (setting false c) ps ds b ss g x h.3.1 r h.3.4))) c ts r h
    good mode (export_default_decl s (fn_expr a k (function at' ps ds _ g x))) n l w c ts r h = absurd h.3.4
    good mode (export_default_decl s (fn_expr a k _)) n l w c ts r h = absurd h.3
    good mode (export_default_decl s _) n l w c ts r h = absurd (false≢true h.2)
    good mode (export_default_expr s e) n l w c ts r h = default_expression_on look s e (good Plain e refl l.1 (whole_assigned e h.4.0)) c ts r h
    good mode (tpl_element s t x u) n l w c ts r h = absurd (true≢false w)
    good mode (script s b x) n l w c ts r h = absurd (true≢false w)
    good mode (es_module s b x) n l w c ts r h = absurd (true≢false w)
    good mode (catch_clause s p b) n l w c ts r h = absurd (true≢false w)
    good mode _ n l w c ts r h = absurd h

    pub goods : (mode : Mode) (ts : Trees) → is_raw mode ≡ false → every_all Leaf mode ts → Wholes ts → AllSound look ts
    goods mode none n l w = tt
    goods mode (more t ts) n l w = (good mode t n l.0 w.0, goods mode ts n l.1 w.1)
