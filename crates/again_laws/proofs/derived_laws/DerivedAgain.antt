-- The induction: what the layout of each tree says is derived again, a line a production.
use Rattle.std.proofs.Common.{Bool, List, false, if◌then◌else◌, refl, subst, sym, true, true≢false, ℕ, ◌==◌, ◌∙◌, ◌≡◌}
use Rattle.std.proofs.lemmas.Option.{none-some}
use Rattle.base_token.specs.declared.place.Span.{Span}
use Rattle.tree_spec.specs.Tree.{Tree, Trees, absent, array_lit, array_pat, arrow_expr, assign_expr, assign_pat, assign_pat_prop, assign_prop, auto_accessor, await_expr, big_int_lit, bin_expr, binding_ident, block_stmt, bool_lit, break_stmt, call_expr, catch_clause, class, class_decl, class_expr, class_method, class_prop, computed_prop_name, cond_expr, constructor, continue_stmt, debugger_stmt, do_while_stmt, empty_stmt, es_module, export_all, export_decl, export_default_decl, export_default_expr, export_named_specifier, export_namespace_specifier, expr_or_spread, expr_pat, expr_stmt, fn_decl, fn_expr, for_in_stmt, for_of_stmt, for_stmt, function, getter_prop, ident, ident_name, if_stmt, import, import_decl, import_default_specifier, import_named_specifier, import_star_as_specifier, key_value_pat_prop, key_value_prop, labeled_stmt, list, member_expr, meta_prop_expr, method_prop, more, named_export, new_expr, none, null_lit, number_lit, object_lit, object_pat, opt_call, opt_chain_expr, param, paren_expr, plain_method, private_method, private_name, private_prop, regex_lit, rest_pat, return_stmt, script, seq_expr, setter_prop, spread_element, static_block, str_lit, super, super_prop_expr, switch_case, switch_stmt, tagged_tpl, this_expr, throw_stmt, tpl, tpl_element, try_stmt, unary_expr, update_expr, using_decl, var_decl, var_declarator, while_stmt, with_stmt, yield_expr}
use Rattle.grammar_spec.specs.Tokens.Input.{lo, span}
use Rattle.grammar_spec.specs.Children.{By}
use Rattle.grammar_laws.proofs.complete_base.Trees.{begins}
use Rattle.print_layout_spec.specs.Layout.{is_key as is_key_stand}
use Rattle.print_layout_spec.specs.Literals.{key_word, name}
use Rattle.print_layout_spec.specs.Looks.{last}
use Rattle.print_layout_spec.specs.declared.look.Look.{Look}
use Rattle.print_layout_spec.specs.declared.look.Stand.{Stand}
use Rattle.print_layout_spec.specs.declared.look.Stand.TheVariants.{Alone, Head, Key, Operand}
use Rattle.again_laws.specs.Tokens.Spacings.{Touching}
use Rattle.again_laws.specs.Tokens.Lexicon.{Lexicon}
use Rattle.again_laws.specs.Tokens.Told.{says}
use Rattle.again_laws.proofs.derived_rules.KeyParts.{KeyPart}
use Rattle.again_laws.proofs.derived_rules.Sound.{AllSound, Sound}
use Rattle.again_laws.proofs.derived_rules.Tokens.{spelled_word}
use Rattle.again_laws.proofs.derived_rules.Assignments.{assign_on}
use Rattle.again_laws.proofs.derived_rules.Binary.{binary_on}
use Rattle.again_laws.proofs.derived_rules.Calls.{call_on, import_call, super_call}
use Rattle.again_laws.proofs.derived_rules.Chains.{asked_call, asked_named, asked_square, chain_call, chain_named, chain_square, private_on}
use Rattle.again_laws.proofs.derived_rules.Members.{member_computed, member_named, super_computed, super_named, word_name_on}
use Rattle.again_laws.proofs.derived_rules.New.{new_bare, new_with}
use Rattle.again_laws.proofs.derived_rules.Operators.{await_on, conditional_on, unary_on, update_on}
use Rattle.again_laws.proofs.derived_rules.Sequences.{array_on, element_on, sequence_on}
use Rattle.again_laws.proofs.derived_rules.Templates.{tagged_on, template_on}
use Rattle.again_laws.proofs.derived_rules.Yield.{yield_bare, yield_on}
use Rattle.again_laws.proofs.derived_rules.Arrows.{arrow_block_on, arrow_on}
use Rattle.again_laws.proofs.derived_rules.ClassMembers.{accessor_member, constructor_member, field_member, method_member, private_field, private_member, static_block_member}
use Rattle.again_laws.proofs.derived_rules.Classes.{class_declaration, class_on}
use Rattle.again_laws.proofs.derived_rules.Functions.{declaration_on, function_on, param_on}
use Rattle.again_laws.proofs.derived_rules.Keys.{computed_on}
use Rattle.again_laws.proofs.derived_rules.Exports.{export_all_on, named_export_on}
use Rattle.again_laws.proofs.derived_rules.Imports.{import_on}
use Rattle.again_laws.proofs.derived_rules.Specifiers.{default_import, export_as, export_bare, import_as, import_bare, star_export, star_import}
use Rattle.again_laws.proofs.derived_rules.If.{if_on}
use Rattle.again_laws.proofs.derived_rules.Jumps.{break_on, continue_on, labelled_on, return_on, throw_on, with_on}
use Rattle.again_laws.proofs.derived_rules.Loops.{do_while_on, for_expression, for_using, for_variables, while_on}
use Rattle.again_laws.proofs.derived_rules.ForInOf.{for_in_target, for_in_using, for_in_variables, for_of_target, for_of_using, for_of_variables}
use Rattle.again_laws.proofs.derived_rules.Switch.{CasesSound, switch_on}
use Rattle.again_laws.proofs.derived_rules.Try.{HandlerSound, try_on}
use Rattle.again_laws.proofs.derived_rules.Variables.{declarator_on, using_on, variables_on}
use Rattle.again_laws.proofs.derived_rules.Primary.{name_on, number_on, string_on, parens_on, big_on, regexp_on, this_on, null_on, bool_on, meta_on}  -- keep
use Rattle.again_laws.proofs.derived_rules.Objects.{object_on, property_on, spread_on, covered_on, getter_on, setter_on, method_on}  -- keep
use Rattle.again_laws.proofs.derived_rules.Patterns.{binding_on, array_pattern_on, object_pattern_on, rest_on, initialised_on, named_item_on, target_on, keyed_item_on}  -- keep
use Rattle.again_laws.proofs.derived_rules.Simple.{expression_on, block_on, empty_on, debugger_on}  -- keep
use Rattle.again_laws.proofs.derived_rules.DefaultExports.{export_on, default_on, default_expression_on}  -- keep

-- a function without a body in braces spells nothing, nor does a method of one
no_method : (v : Bool) (A B : Type 0) → (A → ⊥) → (B → ⊥) → By v A B → ⊥
no_method true A B f g h = f h
no_method false A B f g h = g h

module _ (look : Look) (x : Lexicon look.style) where
  -- a word, where it is no key
  word_on : (s : Span) (n : List ℕ) (st : Stand) → is_key_stand st ≡ false → Sound look x.naming st (ident_name s n)
  word_on s n st e c ts0 r0 h k b ts K q =
      let p = subst (λ (v : Bool). says x.naming (if v then key_word look s n else name look s n) b ts K) e q in
      let z = spelled_word look x n ts0 r0 ts p.0 c c h.0 k p.1 in record {
        d = Touching;
        m = p.0;
        more = p.2;
        known = x.later ts0 r0 h.0.3 k;
        broke = p.1.broke;
        tight = λ e. refl;
        begins = λ e. sym z.0 ∙ e;
        again = λ f. record { tree = ident_name (span (lo ts) p.0.last) n; produced = (z.1, refl); directive = refl; quoted = λ p q. refl; same = record { so = λ m. refl } };
      }

  mutual
    again : (t : Tree) (st : Stand) → is_key_stand st ≡ false → Sound look x.naming st t
    -- expressions (clause 13)
    again (this_expr s) st e = this_on look x s st
    again (null_lit s) st e = null_on look x s st
    again (bool_lit s v) st e = bool_on look x s v st
    again (ident s n) st e = name_on look x s n st
    again (ident_name s n) st e = word_on s n st e
    again (private_name s n) st e = private_on look x s n st
    again (str_lit s u w) st e = string_on look x s u w st
    again (number_lit s v w) st e = number_on look x s v w st
    again (big_int_lit s r d w) st e = big_on look x s r d w st
    again (regex_lit s b f) st e = regexp_on look x s b f st
    again (expr_or_spread s d a) st e = element_on look x s d a (again a Alone refl) st
    again (array_lit s xs) st e = array_on look x s xs (agains xs) st
    again (object_lit s ps) st e = object_on look x s ps (agains ps) st
    again (key_value_prop s k v) st e = property_on look x s k v (key k) (again v Alone refl) st
    again (assign_prop s k v) st e = covered_on look x s k v (again v Alone refl) st
    again (spread_element s a) st e = spread_on look x s a (again a Alone refl) st
    again (computed_prop_name s a) st e = computed_on look x s a (again a Alone refl) st
    again (tpl_element s t w u) st e = tt
    again (tpl s es qs) st e = template_on look x s es qs (agains es) st
    again (tagged_tpl s t (tpl p es qs)) st e = tagged_on look x s t p es qs (again t Head refl) (agains es) st
    again (paren_expr s a) st e = parens_on look x s a (again a Alone refl) st
    again (member_expr s o (computed_prop_name t a)) st e = λ c ts0 r0 h. member_computed look x s o t a (again o Head refl) (again a Alone refl) st c ts0 r0 h
    again (member_expr s o (ident_name t n)) st e = λ c ts0 r0 h. member_named look x s o (ident_name t n) (again o Head refl) (word_name_on look x t n) st c ts0 r0 h
    again (member_expr s o (private_name t n)) st e = λ c ts0 r0 h. member_named look x s o (private_name t n) (again o Head refl) (private_on look x t n Alone) st c ts0 r0 h
    again (member_expr s o k) st e = λ c ts0 r0 h. absurd (true≢false (sym h.3.2.0))
    again (super_prop_expr s (super t) (computed_prop_name p a)) st e = super_computed look x s t p a (again a Alone refl) st
    again (super_prop_expr s (super t) (ident_name u n)) st e = super_named look x s t u n st
    again (super_prop_expr s (super t) k) st e = λ c ts0 r0 h. absurd (true≢false (sym h.3.2.0))
    again (call_expr s (super t) xs) st e = super_call look x s t xs (agains xs) st
    again (call_expr s (import t) xs) st e = import_call look x s t xs (agains xs) st
    again (call_expr s f xs) st e = λ c ts0 r0 h. call_on look x s f xs (again f Head refl) (agains xs) st c ts0 r0 h
    again (new_expr s f absent) st e = new_bare look x s f (again f Head refl) st
    again (new_expr s f (list xs)) st e = new_with look x s f xs (again f Head refl) (agains xs) st
    again (opt_chain_expr s true (member_expr t o (computed_prop_name p a))) st e = asked_square look x s t o p a (again o Head refl) (again a Alone refl) st
    again (opt_chain_expr s true (member_expr t o (ident_name u n))) st e = λ c ts0 r0 h. asked_named look x s t o (ident_name u n) (again o Head refl) (word_name_on look x u n) st c ts0 r0 h
    again (opt_chain_expr s true (member_expr t o (private_name u n))) st e = λ c ts0 r0 h. asked_named look x s t o (private_name u n) (again o Head refl) (private_on look x u n Alone) st c ts0 r0 h
    again (opt_chain_expr s true (member_expr t o k)) st e = λ c ts0 r0 h. absurd (true≢false (sym h.4.0))
    again (opt_chain_expr s true (opt_call t f xs)) st e = asked_call look x s t f xs (again f Head refl) (agains xs) st
    again (opt_chain_expr s false (member_expr t o (computed_prop_name p a))) st e = chain_square look x s t o p a (again o Head refl) (again a Alone refl) st
    again (opt_chain_expr s false (member_expr t o (ident_name u n))) st e = λ c ts0 r0 h. chain_named look x s t o (ident_name u n) (again o Head refl) (word_name_on look x u n) st c ts0 r0 h
    again (opt_chain_expr s false (member_expr t o (private_name u n))) st e = λ c ts0 r0 h. chain_named look x s t o (private_name u n) (again o Head refl) (private_on look x u n Alone) st c ts0 r0 h
    again (opt_chain_expr s false (member_expr t o k)) st e = λ c ts0 r0 h. absurd (true≢false (sym h.3.2.0))
    again (opt_chain_expr s false (opt_call t f xs)) st e = chain_call look x s t f xs (again f Head refl) (agains xs) st
    again (meta_prop_expr s k) st e = meta_on look x s k st
    -- operators, arrows, `yield`, the comma
    again (update_expr s op p a) st e = update_on look x s op p a (again a Alone refl) st
    again (unary_expr s op a) st e = unary_on look x s op a (again a Alone refl) st
    again (await_expr s a) st e = await_on look x s a (again a Alone refl) st
    again (bin_expr s op a b) st e = binary_on look x s op a b (again a Operand refl) (again b Alone refl) st
    again (cond_expr s a b d) st e = conditional_on look x s a b d (again a Alone refl) (again b Alone refl) (again d Alone refl) st
    again (assign_expr s op a b) st e = assign_on look x s op a b (again a Alone refl) (again b Alone refl) st
    again (arrow_expr s ps (block_stmt p ss) i) st e = λ c ts0 r0 h. arrow_block_on look x s ps p ss i (agains ps) (agains ss) st c ts0 r0 h
    again (arrow_expr s ps a i) st e = λ c ts0 r0 h. arrow_on look x s ps a i (agains ps) (again a Alone refl) st c ts0 r0 h
    again (yield_expr s absent g) st e = yield_bare look x s g st
    again (yield_expr s a g) st e = λ c ts0 r0 h. yield_on look x s a g (again a Alone refl) st c ts0 r0 h
    again (seq_expr s xs) st e = sequence_on look x s xs (agains xs) st
    -- patterns (13.15.5, 14.3.3)
    again (binding_ident s i) st e = binding_on look x s i st
    again (array_pat s xs) st e = array_pattern_on look x s xs (agains xs) st
    again (object_pat s ps) st e = object_pattern_on look x s ps (agains ps) st
    again (assign_pat s p a) st e = initialised_on look x s p a (again p Alone refl) (again a Alone refl) st
    again (rest_pat s d p) st e = rest_on look x s d p (again p Alone refl) st
    again (key_value_pat_prop s k a) st e = keyed_item_on look x s k a (key k) (again a Alone refl) st
    again (assign_pat_prop s k a) st e = named_item_on look x s k a (again k Alone refl) (again a Alone refl) st
    again (expr_pat a) st e = target_on look x a (again a Alone refl) st
    -- functions and classes (clause 15)
    again (param s ds p) st e = param_on look x s ds p (again p Alone refl) st
    again (function s ps ds b g a) st e = tt
    again (fn_decl s i (function t ps ds (block_stmt p ss) g a)) st e = declaration_on look x s i t ps ds p ss g a (agains ps) (agains ss) st
    again (fn_decl s i (function t ps ds b g a)) st e = λ c ts0 r0 h. absurd h.4
    again (fn_expr s i (function t ps ds (block_stmt p ss) g a)) st e = function_on look x s i t ps ds p ss g a (agains ps) (agains ss) st
    again (fn_expr s i (function t ps ds b g a)) st e = λ c ts0 r0 h. absurd h.4
    again (method_prop s k (function t ps ds (block_stmt p ss) g a)) st e = method_on look x s k t ps ds p ss g a (key k) (agains ps) (agains ss) st
    again (method_prop s k (function t ps ds b g a)) st e = λ c ts0 r0 h. absurd h.1.4
    again (getter_prop s k (block_stmt p ss)) st e = getter_on look x s k p ss (key k) (agains ss) st
    again (setter_prop s k a (block_stmt p ss)) st e = setter_on look x s k a p ss (key k) (again a Alone refl) (agains ss) st
    again (class s ds ms k) st e = tt
    again (class_decl s i (class t ds ms k)) st e = class_declaration look x s i t ds ms k (agains ms) (again k Alone refl) st
    again (class_decl s i k) st e = λ c ts0 r0 h. absurd (none-some s h.5)
    again (class_expr s i (class t ds ms k)) st e = class_on look x s i t ds ms k (agains ms) (again k Alone refl) st
    again (class_expr s i k) st e = λ c ts0 r0 h. absurd (none-some s h.5)
    again (constructor s k ps (block_stmt p ss)) st e = constructor_member look x s k ps p ss (agains ps) (agains ss) st
    again (class_method s k (function t ps ds (block_stmt p ss) g a) n i) st e = method_member look x s k t ps ds p ss g a n i (key k) (agains ps) (agains ss) st
    again (class_method s k (function t ps ds b g a) n i) st e = λ c ts0 r0 h. absurd (no_method (n == plain_method) _ _ (λ m. m.4) (λ m. m.7) h.4)
    again (private_method s k (function t ps ds (block_stmt p ss) g a) n i) st e = private_member look x s k t ps ds p ss g a n i (key k) (agains ps) (agains ss) st
    again (private_method s k (function t ps ds b g a) n i) st e = λ c ts0 r0 h. absurd (no_method (n == plain_method) _ _ (λ m. m.4) (λ m. m.7) h.4)
    again (class_prop s k v i ds) st e = field_member look x s k v i ds (key k) (again v Alone refl) st
    again (private_prop s k v i ds) st e = private_field look x s k v i ds (key k) (again v Alone refl) st
    again (auto_accessor s k v i ds) st e = accessor_member look x s k v i ds (key k) (again v Alone refl) st
    again (static_block s (block_stmt p ss)) st e = static_block_member look x s p ss (agains ss) st
    -- statements and declarations (clause 14)
    again (block_stmt s ss) st e = block_on look x s ss (agains ss) st
    again (empty_stmt s) st e = empty_on look x s st
    again (debugger_stmt s) st e = debugger_on look x s st
    again (var_decl s k ds) st e = variables_on look x s k ds (agains ds) st
    again (using_decl s w ds) st e = using_on look x s w ds (agains ds) st
    again (var_declarator s n v) st e = declarator_on look x s n v (again n Alone refl) (again v Alone refl) st
    again (expr_stmt s a) st e = expression_on look x s a (again a Alone refl) st
    again (if_stmt s t a b) st e = if_on look x s t a b (again t Alone refl) (again a Alone refl) (again b Alone refl) st
    again (do_while_stmt s t b) st e = do_while_on look x s t b (again t Alone refl) (again b Alone refl) st
    again (while_stmt s t b) st e = while_on look x s t b (again t Alone refl) (again b Alone refl) st
    again (for_stmt s (var_decl p k ds) t u b) st e = for_variables look x s p k ds t u b (agains ds) (again t Alone refl) (again u Alone refl) (again b Alone refl) st
    again (for_stmt s (using_decl p w ds) t u b) st e = for_using look x s p w ds t u b (agains ds) (again t Alone refl) (again u Alone refl) (again b Alone refl) st
    again (for_stmt s i t u b) st e = λ c ts0 r0 h. for_expression look x s i t u b refl (again i Alone refl) (again t Alone refl) (again u Alone refl) (again b Alone refl) st c ts0 r0 h
    again (for_in_stmt s (var_decl p k ds) a b) st e = for_in_variables look x s p k ds a b (agains ds) (again a Alone refl) (again b Alone refl) st
    again (for_in_stmt s (using_decl p w ds) a b) st e = for_in_using look x s p w ds a b (agains ds) (again a Alone refl) (again b Alone refl) st
    again (for_in_stmt s l a b) st e = λ c ts0 r0 h. for_in_target look x s l a b refl (again l Alone refl) (again a Alone refl) (again b Alone refl) st c ts0 r0 h
    again (for_of_stmt s w (var_decl p k ds) a b) st e = for_of_variables look x s w p k ds a b (agains ds) (again a Alone refl) (again b Alone refl) st
    again (for_of_stmt s w (using_decl p i ds) a b) st e = for_of_using look x s w p i ds a b (agains ds) (again a Alone refl) (again b Alone refl) st
    again (for_of_stmt s w l a b) st e = λ c ts0 r0 h. for_of_target look x s w l a b refl (again l Alone refl) (again a Alone refl) (again b Alone refl) st c ts0 r0 h
    again (continue_stmt s l) st e = continue_on look x s l st
    again (break_stmt s l) st e = break_on look x s l st
    again (return_stmt s a) st e = return_on look x s a (again a Alone refl) st
    again (with_stmt s a b) st e = with_on look x s a b (again a Alone refl) (again b Alone refl) st
    again (switch_stmt s a xs) st e = switch_on look x s a xs (again a Alone refl) (cases xs) st
    again (switch_case s t ss) st e = tt
    again (labeled_stmt s l b) st e = labelled_on look x s l b (again b Alone refl) st
    again (throw_stmt s a) st e = throw_on look x s a (again a Alone refl) st
    again (try_stmt s b h f) st e = try_on look x s b h f (again b Alone refl) (handler h) (again f Alone refl) st
    again (catch_clause s p b) st e = tt
    -- scripts and modules (clause 16)
    again (import_decl s xs f w) st e = import_on look x s xs f w (agains xs) (key f) (again w Alone refl) st
    again (import_named_specifier s l absent) st e = import_bare look x s l st
    again (import_named_specifier s l i) st e = import_as look x s l i refl (key i) st
    again (import_default_specifier s l) st e = default_import look x s l st
    again (import_star_as_specifier s l) st e = star_import look x s l st
    again (named_export s xs f w) st e = named_export_on look x s xs f w (agains xs) (key f) (again w Alone refl) st
    again (export_named_specifier s o absent) st e = export_bare look x s o (key o) st
    again (export_named_specifier s o i) st e = export_as look x s o i refl (key o) (key i) st
    again (export_namespace_specifier s n) st e = star_export look x s n (key n) st
    again (export_all s f w) st e = export_all_on look x s f w (key f) (again w Alone refl) st
    again (export_decl s d) st e = export_on look x s d (again d Alone refl) st
    again (export_default_decl s d) st e = default_on look x s d (again d Alone refl) st
    again (export_default_expr s a) st e = default_expression_on look x s a (again a Alone refl) st
    again (script s ss l) st e = tt
    again (es_module s ss l) st e = tt
    -- anything else spells nothing
    again _ st e = λ c ts0 r0 h. absurd h

    pub agains : (ts : Trees) → AllSound look x.naming ts
    agains none = tt
    agains (more t ts) = (again t Alone refl, agains ts)

    key : (t : Tree) → KeyPart look x.naming t
    key (str_lit s u w) = string_on look x s u w Key
    key (number_lit s v w) = number_on look x s v w Key
    key (big_int_lit s r d w) = big_on look x s r d w Key
    key (computed_prop_name s a) = computed_on look x s a (again a Alone refl) Key
    key (private_name s n) = private_on look x s n Key
    key _ = tt

    handler : (t : Tree) → HandlerSound look x.naming t
    handler (catch_clause s p b) = (again p Alone refl, again b Alone refl)
    handler _ = tt

    cases : (ts : Trees) → CasesSound look x.naming ts
    cases none = tt
    cases (more (switch_case s t ss) ts) = ((again t Alone refl, agains ss), cases ts)
    cases (more _ ts) = (tt, cases ts)
