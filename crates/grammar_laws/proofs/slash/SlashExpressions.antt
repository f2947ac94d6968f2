-- Expressions (ECMA-262, clause 13): their rules over two such lists.
use Rattle.std.proofs.Common.{◌≡◌, ◌≤◌, ℕ, Bool, true, false, not, ◌&&◌, ◌||◌, ◌==◌, cond, nat_le, nat_lt, if◌then◌else◌, List, [], ◌∷◌, ◌++◌, Option, Some, None, Result, Ok, refl, sym, ap, ◌∙◌, subst, true≢false, arith}
use Rattle.base_token.specs.declared.place.Span.{Span}
use Rattle.base_token.specs.Kinds.{div_kind, regex_kind, hash_kind, dot_kind, dot_dot_dot_kind, left_paren_kind, right_paren_kind, left_bracket_kind, right_bracket_kind, left_brace_kind, right_brace_kind, comma_kind, back_quote_kind, template_kind, colon_kind, dollar_brace_kind, question_mark_kind, regex_kind, mul_kind, assign_kind, null_kind, true_kind, false_kind, await_kind, function_kind, class_kind, new_kind, this_kind, super_kind, import_kind, yield_kind, in_kind, plus_plus_kind, minus_minus_kind, async_kind, meta_kind, target_kind, get_kind, set_kind}
use Rattle.tree_spec.specs.Tree.{Tree, none, pack, ident_name, this_expr, update_expr, bin_expr, assign_expr, member_expr, super_prop_expr, cond_expr, call_expr, new_expr, ident, tagged_tpl, arrow_expr, class_expr, yield_expr, meta_prop_expr, paren_expr, opt_chain_expr, opt_call, super, import, assign_prop, bool_lit, null_lit, binding_ident, assign_pat, param, absent, list}
use Rattle.grammar_spec.specs.Tokens.Input.{PlacedToken, Input, Code, kind, kind2, brk, barred, lo, text, span, is_word, has_in, with_in, by, in_body, in_arrow, turned_strict, in_list, lo_of, first_span}
use Rattle.grammar_spec.specs.Tokens.Operators.{closed_end, expression_level, assignment_level, coalesce_level, unary_level, new_level, call_level, member_level, binary_level, right_level, is_assign_op, operates, goes_expr, between, other_end}
use Rattle.grammar_spec.specs.Tokens.Shape.{level, ends, fits_left, is_chain, is_cooked}
use Rattle.grammar_spec.specs.Reader.Source.{Fault, placed, unexpected, ◌>>=◌, State, bound, input, past, spanned, at, eat, eat_word, is_name, name, any_word, Step, go_on, finished, Inner}
use Rattle.grammar_spec.specs.Reader.Cover.{last_rests}
use Rattle.grammar_spec.specs.Reader.Expressions.{first, literal_by, element_by, after_element, element_step, elements_by, array_by, computed_by, key_by, private_by, parameter_by, is_rest_param, parameter_step, parameters_by, function_by, setter_parameter, is_accessor, is_async_head, star, method_prop_by, getter_by, setter_by, prop_rest, prop_by, prop_step, object_by, quasi, quasi_end, quasi_step, template_by, arrows_at, heads_params, is_async_param, arrow_by, params_of, group_end, group_by, ident_end, arguments_by, async_group, function_expr_name, function_expr_by, async_by, class_expr_by, new_end, callee_by, new_by, super_end, fits_import, import_by, unary_by, update_by, await_by, ends_yield, yield_end, yield_by, word_by, fixed, keyword_by, prefix_by, member_name, on_chain, member_by, index_by, call_tree, call_by, chain_by, cond_by, assign_by, binary_by, step_by, loop_step, loop_by, private_in, expr_from, expr_by, Elements, Spans, literal, joined, last_end, plain_elements, no_elements, is_unary, extended}
use Rattle.std.proofs.lemmas.Bool.{lt-ltb, ltb-true}
use Rattle.base_proofs.proofs.Bools.{not_and_false}
use Rattle.grammar_laws.proofs.slash.Twins.{lm, Parting, regexps, slashes, slashes_by, on, Twins, twin_ok, never, unanswered, twin_then, twin_if, twin_no, cut, parted, same, Plain, plain_at, lo_same, no_fourth, eat_on, eat_at, eat_none, word_on, word_at, word_none, name_on, name_none, placed_on, any_on, any_at, any_none, twin_placed, iterate_twin, Told}

module _ (w : Parting) (inner : Inner Input) (told : Told w inner) where
  pub literal_by_twin : (o : List ℕ) (n : ℕ) (l : List PlacedToken) → Twins w (literal_by lm inner (on o n (l ++ regexps w))) (literal_by lm inner (on o n (l ++ slashes w)))
  unfolding literal_by
  literal_by_twin o n [] = unanswered w _ _
  literal_by_twin o n (p ∷ l) = by_literal (literal p.spot.token.kind p.spot.token.content (first lm inner (on o n (p ∷ l))))
    where
      by_literal : (t : Option Tree) → Twins w {A = Tree} (elim t [ None ↦ unexpected lm (on o n (p ∷ (l ++ regexps w))) | Some t ↦ Ok (t, on o p.spot.hi (l ++ regexps w)) ]) (elim t [ None ↦ unexpected lm (on o n (p ∷ (l ++ slashes w))) | Some t ↦ Ok (t, on o p.spot.hi (l ++ slashes w)) ])
      by_literal None = never w _ _
      by_literal (Some t) = twin_ok w t t o p.spot.hi l refl

  pub element_by_twin : (c : Code) (o : List ℕ) (n : ℕ) (l : List PlacedToken) → Twins w (element_by lm inner c (on o n ((l ++ regexps w)))) (element_by lm inner c (on o n ((l ++ slashes w))))
  unfolding element_by
  element_by_twin c o n [] = twin_no w (at lm dot_dot_dot_kind (on o n (slashes w))) (parted w (λ z. at lm dot_dot_dot_kind (on o n z)) refl refl) _ _ _ (twin_then w _ _ _ _ (told.expr (with_in c) assignment_level o n []) (λ ev eo en el. twin_ok w _ _ eo en el refl))
  element_by_twin c o n (p ∷ l) = twin_if w (at lm dot_dot_dot_kind (on o n (p ∷ (l ++ regexps w)))) (at lm dot_dot_dot_kind (on o n (p ∷ (l ++ slashes w)))) refl _ _ _ _ (λ yes. twin_then w _ _ _ _ (told.expr (with_in c) assignment_level o p.spot.hi l) (λ ev eo en el. twin_ok w _ _ eo en el refl)) (λ no. twin_then w _ _ _ _ (told.expr (with_in c) assignment_level o n (p ∷ l)) (λ ev eo en el. twin_ok w _ _ eo en el refl))

  pub after_element_twin : (close : ℕ) (shut : Plain w close) (items : List Tree) (o : List ℕ) (n : ℕ) (l : List PlacedToken) → Twins w (after_element lm inner close items (on o n ((l ++ regexps w)))) (after_element lm inner close items (on o n ((l ++ slashes w))))
  unfolding after_element
  after_element_twin close shut items o n [] = twin_no w (at lm comma_kind (on o n (slashes w))) (parted w (λ z. at lm comma_kind (on o n z)) refl refl) _ _ _ (eat_none w close shut o n _ _)
  after_element_twin close shut items o n (p ∷ l) = twin_if w (at lm comma_kind (on o n (p ∷ (l ++ regexps w)))) (at lm comma_kind (on o n (p ∷ (l ++ slashes w)))) refl _ _ _ _ (λ yes. twin_ok w _ _ o p.spot.hi l refl) (λ no. eat_on w close o n p l _ _ (twin_ok w _ _ o p.spot.hi l refl))

  pub element_step_twin : (c : Code) (holes : Bool) (close : ℕ) (shut : Plain w close) (xs : Elements) (o : List ℕ) (n : ℕ) (l : List PlacedToken) → Twins w (element_step lm inner c holes close xs (on o n ((l ++ regexps w)))) (element_step lm inner c holes close xs (on o n ((l ++ slashes w))))
  unfolding element_step
  element_step_twin c holes close shut xs o n [] = twin_if w (at lm close (on o n (regexps w))) (at lm close (on o n (slashes w))) (plain_at w close shut o n []) _ _ _ _ (λ yes. absurd (true≢false (sym yes ∙ shut.0))) (λ no. twin_if w (holes && at lm comma_kind (on o n (regexps w))) (holes && at lm comma_kind (on o n (slashes w))) (parted w (λ z. holes && at lm comma_kind (on o n z)) refl refl) _ _ _ _ (λ yes. absurd (not_and_false _ yes)) (λ no. twin_then w _ _ _ _ (element_by_twin c o n []) (λ ev eo en el. after_element_twin close shut (xs.items ++ ev ∷ []) eo en el)))
  element_step_twin c holes close shut xs o n (p ∷ l) = twin_if w (at lm close (on o n (p ∷ (l ++ regexps w)))) (at lm close (on o n (p ∷ (l ++ slashes w)))) refl _ _ _ _ (λ yes. twin_ok w _ _ o p.spot.hi l refl) (λ no. twin_if w (holes && at lm comma_kind (on o n (p ∷ (l ++ regexps w)))) (holes && at lm comma_kind (on o n (p ∷ (l ++ slashes w)))) refl _ _ _ _ (λ yes. twin_ok w _ _ o p.spot.hi l refl) (λ no. twin_then w _ _ _ _ (element_by_twin c o n (p ∷ l)) (λ ev eo en el. after_element_twin close shut (xs.items ++ ev ∷ []) eo en el)))

  pub elements_by_twin : (c : Code) (holes : Bool) (close : ℕ) (shut : Plain w close) (o : List ℕ) (n : ℕ) (l : List PlacedToken) → Twins w (elements_by lm inner c holes close (on o n ((l ++ regexps w)))) (elements_by lm inner c holes close (on o n ((l ++ slashes w))))
  unfolding elements_by
  elements_by_twin c holes close shut o n l = iterate_twin w _ _ (λ x xo xn xl. element_step_twin c holes close shut x xo xn xl) no_elements o n l

  pub array_by_twin : (c : Code) (o : List ℕ) (n : ℕ) (p : PlacedToken) (l : List PlacedToken) → Twins w (array_by lm inner c (on o n (p ∷ (l ++ regexps w)))) (array_by lm inner c (on o n (p ∷ (l ++ slashes w))))
  unfolding array_by
  array_by_twin c o n p l = twin_then w _ _ _ _ (elements_by_twin c true right_bracket_kind (refl, refl, refl) o p.spot.hi l) (λ xsv xso xsn xsl. twin_ok w _ _ (if (xsv.comma && last_rests xsv.items) then (lo (input lm (on o n (p ∷ (l ++ regexps w))))) ∷ xso else xso) xsn xsl refl)

  pub computed_by_twin : (c : Code) (l : ℕ) (o : List ℕ) (n : ℕ) (p : PlacedToken) (l1 : List PlacedToken) → Twins w (computed_by lm inner c l (on o n (p ∷ (l1 ++ regexps w)))) (computed_by lm inner c l (on o n (p ∷ (l1 ++ slashes w))))
  unfolding computed_by
  computed_by_twin c l o n p l1 = twin_then w _ _ _ _ (told.expr (with_in c) l o p.spot.hi l1) (λ ev eo en el. eat_at w right_bracket_kind (refl, refl, refl) eo en el _ _ (λ rn rl. twin_ok w _ _ eo rn rl refl))

  pub key_by_twin : (c : Code) (o : List ℕ) (n : ℕ) (l : List PlacedToken) → Twins w (key_by lm inner c (on o n (l ++ regexps w))) (key_by lm inner c (on o n (l ++ slashes w)))
  unfolding key_by
  key_by_twin c o n [] = never w _ _
  key_by_twin c o n (p ∷ l) = twin_if w (at lm left_bracket_kind (on o n (p ∷ (l ++ regexps w)))) (at lm left_bracket_kind (on o n (p ∷ (l ++ slashes w)))) refl _ _ _ _ (λ yes. computed_by_twin c assignment_level o n p l) (λ yes. twin_if w (is_word p.spot.token.kind) (is_word p.spot.token.kind) refl _ _ _ _ (λ yes. twin_ok w _ _ o p.spot.hi l refl) (λ yes. twin_if w (p.spot.token.kind == regex_kind) (p.spot.token.kind == regex_kind) refl _ _ _ _ (λ yes. never w _ _) (λ yes. literal_by_twin o n (p ∷ l))))

  -- at the place where they part no key stands
  pub key_nil : {A : Type 0} (c : Code) (o : List ℕ) (n : ℕ) (f : Tree × State Input → Result (A × State Input) Fault) (y : Result (A × State Input) Fault) → Twins w (key_by lm inner c (on o n (regexps w)) >>= f) y
  unfolding key_by
  key_nil c o n f y = never w _ _

  pub private_by_twin : (o : List ℕ) (n : ℕ) (l : List PlacedToken) → Twins w (private_by lm inner (on o n (l ++ regexps w))) (private_by lm inner (on o n (l ++ slashes w)))
  unfolding private_by
  private_by_twin o n [] = eat_none w hash_kind (refl, refl, refl) o n _ _
  private_by_twin o n (p ∷ l) = eat_on w hash_kind o n p l _ _ (twin_if w (lo (input lm (on o p.spot.hi (l ++ regexps w))) == p.spot.hi) (lo (input lm (on o p.spot.hi (l ++ slashes w))) == p.spot.hi) (same w (λ z. lo (input lm (on o p.spot.hi z)) == p.spot.hi) refl refl (λ p. refl) (λ p. refl) (λ p q. refl) (λ p q. refl) (λ p q r l m n. refl) l) _ _ _ _
      (λ yes. any_at w o p.spot.hi l _ _ (λ v nn nl. twin_ok w _ _ o nn nl refl)) (λ yes. never w _ _))

  pub parameter_by_twin : (c : Code) (o : List ℕ) (n : ℕ) (l : List PlacedToken) → Twins w (parameter_by lm inner c (on o n ((l ++ regexps w)))) (parameter_by lm inner c (on o n ((l ++ slashes w))))
  unfolding parameter_by
  parameter_by_twin c o n [] = twin_no w (at lm dot_dot_dot_kind (on o n (slashes w))) (parted w (λ z. at lm dot_dot_dot_kind (on o n z)) refl refl) _ _ _ (twin_then w _ _ _ _ (told.pat (with_in c) o n []) (λ pv po pn pl. cut w (λ z. Twins w (if at lm assign_kind (on po pn ((z ++ regexps w))) then (inner.expr (with_in c) assignment_level (past lm (on po pn ((z ++ regexps w)))) >>= λ e. Ok (param (spanned lm (lo_of n (regexps w)) e.1) none (assign_pat (spanned lm (lo_of n (regexps w)) e.1) pv e.0), e.1)) else Ok (param (spanned lm (lo_of n (regexps w)) (on po pn ((z ++ regexps w)))) none pv, (on po pn ((z ++ regexps w))))) (if at lm assign_kind (on po pn ((z ++ slashes w))) then (inner.expr (with_in c) assignment_level (past lm (on po pn ((z ++ slashes w)))) >>= λ e. Ok (param (spanned lm (lo_of n (slashes w)) e.1) none (assign_pat (spanned lm (lo_of n (slashes w)) e.1) pv e.0), e.1)) else Ok (param (spanned lm (lo_of n (slashes w)) (on po pn ((z ++ slashes w)))) none pv, (on po pn ((z ++ slashes w)))))) pl (twin_no w (at lm assign_kind (on po pn (slashes w))) (parted w (λ z. at lm assign_kind (on po pn z)) refl refl) _ _ _ (twin_ok w _ _ po pn [] refl)) (λ pp pq. twin_if w (at lm assign_kind (on po pn (pp ∷ (pq ++ regexps w)))) (at lm assign_kind (on po pn (pp ∷ (pq ++ slashes w)))) refl _ _ _ _ (λ yes. twin_then w _ _ _ _ (told.expr (with_in c) assignment_level po pp.spot.hi pq) (λ ev eo en el. twin_ok w _ _ eo en el refl)) (λ no. twin_ok w _ _ po pn (pp ∷ pq) refl))))
  parameter_by_twin c o n (p1 ∷ l) = twin_if w (at lm dot_dot_dot_kind (on o n (p1 ∷ (l ++ regexps w)))) (at lm dot_dot_dot_kind (on o n (p1 ∷ (l ++ slashes w)))) refl _ _ _ _ (λ yes. twin_then w _ _ _ _ (told.pat (with_in c) o p1.spot.hi l) (λ pv po pn pl. twin_ok w _ _ po pn pl refl)) (λ no. twin_then w _ _ _ _ (told.pat (with_in c) o n (p1 ∷ l)) (λ pv po pn pl. cut w (λ z. Twins w (if at lm assign_kind (on po pn ((z ++ regexps w))) then (inner.expr (with_in c) assignment_level (past lm (on po pn ((z ++ regexps w)))) >>= λ e. Ok (param (spanned lm (lo_of n (p1 ∷ (l ++ regexps w))) e.1) none (assign_pat (spanned lm (lo_of n (p1 ∷ (l ++ regexps w))) e.1) pv e.0), e.1)) else Ok (param (spanned lm (lo_of n (p1 ∷ (l ++ regexps w))) (on po pn ((z ++ regexps w)))) none pv, (on po pn ((z ++ regexps w))))) (if at lm assign_kind (on po pn ((z ++ slashes w))) then (inner.expr (with_in c) assignment_level (past lm (on po pn ((z ++ slashes w)))) >>= λ e. Ok (param (spanned lm (lo_of n (p1 ∷ (l ++ slashes w))) e.1) none (assign_pat (spanned lm (lo_of n (p1 ∷ (l ++ slashes w))) e.1) pv e.0), e.1)) else Ok (param (spanned lm (lo_of n (p1 ∷ (l ++ slashes w))) (on po pn ((z ++ slashes w)))) none pv, (on po pn ((z ++ slashes w)))))) pl (twin_no w (at lm assign_kind (on po pn (slashes w))) (parted w (λ z. at lm assign_kind (on po pn z)) refl refl) _ _ _ (twin_ok w _ _ po pn [] refl)) (λ pp pq. twin_if w (at lm assign_kind (on po pn (pp ∷ (pq ++ regexps w)))) (at lm assign_kind (on po pn (pp ∷ (pq ++ slashes w)))) refl _ _ _ _ (λ yes. twin_then w _ _ _ _ (told.expr (with_in c) assignment_level po pp.spot.hi pq) (λ ev eo en el. twin_ok w _ _ eo en el refl)) (λ no. twin_ok w _ _ po pn (pp ∷ pq) refl))))

  pub parameter_step_twin : (c : Code) (ps : List Tree) (o : List ℕ) (n : ℕ) (l : List PlacedToken) → Twins w (parameter_step lm inner c ps (on o n ((l ++ regexps w)))) (parameter_step lm inner c ps (on o n ((l ++ slashes w))))
  unfolding parameter_step
  parameter_step_twin c ps o n [] = twin_no w (at lm right_paren_kind (on o n (slashes w))) (parted w (λ z. at lm right_paren_kind (on o n z)) refl refl) _ _ _ (twin_then w _ _ _ _ (parameter_by_twin c o n []) (λ pv po pn pl. cut w (λ z. Twins w (if at lm comma_kind (on po pn ((z ++ regexps w))) && not (is_rest_param lm inner pv) then Ok (go_on (ps ++ pv ∷ []), past lm (on po pn ((z ++ regexps w)))) else (eat lm right_paren_kind (on po pn ((z ++ regexps w))) >>= λ r. Ok (finished (ps ++ pv ∷ []), r))) (if at lm comma_kind (on po pn ((z ++ slashes w))) && not (is_rest_param lm inner pv) then Ok (go_on (ps ++ pv ∷ []), past lm (on po pn ((z ++ slashes w)))) else (eat lm right_paren_kind (on po pn ((z ++ slashes w))) >>= λ r. Ok (finished (ps ++ pv ∷ []), r)))) pl (twin_no w (at lm comma_kind (on po pn (slashes w)) && not (is_rest_param lm inner pv)) (parted w (λ z. at lm comma_kind (on po pn z) && not (is_rest_param lm inner pv)) refl refl) _ _ _ (eat_none w right_paren_kind (refl, refl, refl) po pn _ _)) (λ pp pq. twin_if w (at lm comma_kind (on po pn (pp ∷ (pq ++ regexps w))) && not (is_rest_param lm inner pv)) (at lm comma_kind (on po pn (pp ∷ (pq ++ slashes w))) && not (is_rest_param lm inner pv)) refl _ _ _ _ (λ yes. twin_ok w _ _ po pp.spot.hi pq refl) (λ no. eat_on w right_paren_kind po pn pp pq _ _ (twin_ok w _ _ po pp.spot.hi pq refl)))))
  parameter_step_twin c ps o n (p1 ∷ l) = twin_if w (at lm right_paren_kind (on o n (p1 ∷ (l ++ regexps w)))) (at lm right_paren_kind (on o n (p1 ∷ (l ++ slashes w)))) refl _ _ _ _ (λ yes. twin_ok w _ _ o p1.spot.hi l refl) (λ no. twin_then w _ _ _ _ (parameter_by_twin c o n (p1 ∷ l)) (λ pv po pn pl. cut w (λ z. Twins w (if at lm comma_kind (on po pn ((z ++ regexps w))) && not (is_rest_param lm inner pv) then Ok (go_on (ps ++ pv ∷ []), past lm (on po pn ((z ++ regexps w)))) else (eat lm right_paren_kind (on po pn ((z ++ regexps w))) >>= λ r. Ok (finished (ps ++ pv ∷ []), r))) (if at lm comma_kind (on po pn ((z ++ slashes w))) && not (is_rest_param lm inner pv) then Ok (go_on (ps ++ pv ∷ []), past lm (on po pn ((z ++ slashes w)))) else (eat lm right_paren_kind (on po pn ((z ++ slashes w))) >>= λ r. Ok (finished (ps ++ pv ∷ []), r)))) pl (twin_no w (at lm comma_kind (on po pn (slashes w)) && not (is_rest_param lm inner pv)) (parted w (λ z. at lm comma_kind (on po pn z) && not (is_rest_param lm inner pv)) refl refl) _ _ _ (eat_none w right_paren_kind (refl, refl, refl) po pn _ _)) (λ pp pq. twin_if w (at lm comma_kind (on po pn (pp ∷ (pq ++ regexps w))) && not (is_rest_param lm inner pv)) (at lm comma_kind (on po pn (pp ∷ (pq ++ slashes w))) && not (is_rest_param lm inner pv)) refl _ _ _ _ (λ yes. twin_ok w _ _ po pp.spot.hi pq refl) (λ no. eat_on w right_paren_kind po pn pp pq _ _ (twin_ok w _ _ po pp.spot.hi pq refl)))))

  pub parameters_by_twin : (c : Code) (o : List ℕ) (n : ℕ) (l : List PlacedToken) → Twins w (parameters_by lm inner c (on o n ((l ++ regexps w)))) (parameters_by lm inner c (on o n ((l ++ slashes w))))
  unfolding parameters_by
  parameters_by_twin c o n l = eat_at w left_paren_kind (refl, refl, refl) o n l _ _ (λ rn rl. iterate_twin w _ _ (λ x xo xn xl. parameter_step_twin c x xo xn xl) [] o rn rl)

  pub function_by_twin : (c : Code) (whole : ℕ) (generator : Bool) (async : Bool) (o : List ℕ) (n : ℕ) (l : List PlacedToken) → Twins w (function_by lm inner c whole generator async (on o n ((l ++ regexps w)))) (function_by lm inner c whole generator async (on o n ((l ++ slashes w))))
  unfolding function_by
  function_by_twin c whole generator async o n l = twin_then w _ _ _ _ (parameters_by_twin (in_body generator async c) o n l) (λ psv pso psn psl. twin_then w _ _ _ _ (told.body (in_body generator async c) pso psn psl) (λ bv bo bn bl. twin_ok w _ _ bo bn bl refl))

  pub setter_parameter_twin : (c : Code) (o1 : List ℕ) (n : ℕ) (l : List PlacedToken) → Twins w (setter_parameter lm inner c (on o1 n ((l ++ regexps w)))) (setter_parameter lm inner c (on o1 n ((l ++ slashes w))))
  unfolding setter_parameter
  setter_parameter_twin c o1 n l = eat_at w left_paren_kind (refl, refl, refl) o1 n l _ _ (λ on1 ol. twin_then w _ _ _ _ (parameter_by_twin c o1 on1 ol) (λ pv po pn pl. twin_if w (is_rest_param lm inner pv) (is_rest_param lm inner pv) refl _ _ _ _ (λ yes. never w _ _) (λ no. eat_at w right_paren_kind (refl, refl, refl) po pn pl _ _ (λ rn rl. twin_ok w _ _ po rn rl refl))))

  pub star_twin : (o : List ℕ) (n : ℕ) (l : List PlacedToken) → Twins w (star lm inner (on o n ((l ++ regexps w)))) (star lm inner (on o n ((l ++ slashes w))))
  unfolding star
  star_twin o n [] = twin_no w (at lm mul_kind (on o n (slashes w))) (parted w (λ z. at lm mul_kind (on o n z)) refl refl) _ _ _ (twin_ok w _ _ o n [] refl)
  star_twin o n (p ∷ l) = twin_if w (at lm mul_kind (on o n (p ∷ (l ++ regexps w)))) (at lm mul_kind (on o n (p ∷ (l ++ slashes w)))) refl _ _ _ _ (λ yes. twin_ok w _ _ o p.spot.hi l refl) (λ no. twin_ok w _ _ o n (p ∷ l) refl)

  pub method_prop_by_twin : (c : Code) (whole : ℕ) (generator : Bool) (async : Bool) (o : List ℕ) (n : ℕ) (l : List PlacedToken) → Twins w (method_prop_by lm inner c whole generator async (on o n ((l ++ regexps w)))) (method_prop_by lm inner c whole generator async (on o n ((l ++ slashes w))))
  unfolding method_prop_by
  method_prop_by_twin c whole generator async o n l = twin_then w _ _ _ _ (key_by_twin c o n l) (λ kv ko kn kl. twin_then w _ _ _ _ (function_by_twin c whole generator async ko kn kl) (λ fv fo fn fl. twin_ok w _ _ fo fn fl refl))

  pub getter_by_twin : (c : Code) (o1 : List ℕ) (n : ℕ) (p1 : PlacedToken) (l : List PlacedToken) → Twins w (getter_by lm inner c (on o1 n (p1 ∷ (l ++ regexps w)))) (getter_by lm inner c (on o1 n (p1 ∷ (l ++ slashes w))))
  unfolding getter_by
  getter_by_twin c o1 n p1 l = twin_then w _ _ _ _ (key_by_twin c o1 p1.spot.hi l) (λ kv ko kn kl. eat_at w left_paren_kind (refl, refl, refl) ko kn kl _ _ (λ on1 ol. eat_at w right_paren_kind (refl, refl, refl) ko on1 ol _ _ (λ pn pl. twin_then w _ _ _ _ (told.body (in_body false false c) ko pn pl) (λ bv bo bn bl. twin_ok w _ _ bo bn bl refl))))

  pub setter_by_twin : (c : Code) (o : List ℕ) (n : ℕ) (p1 : PlacedToken) (l : List PlacedToken) → Twins w (setter_by lm inner c (on o n (p1 ∷ (l ++ regexps w)))) (setter_by lm inner c (on o n (p1 ∷ (l ++ slashes w))))
  unfolding setter_by
  setter_by_twin c o n p1 l = twin_then w _ _ _ _ (key_by_twin c o p1.spot.hi l) (λ kv ko kn kl. twin_then w _ _ _ _ (setter_parameter_twin (in_body false false c) ko kn kl) (λ pv po pn pl. twin_then w _ _ _ _ (told.body (in_body false false c) po pn pl) (λ bv bo bn bl. twin_ok w _ _ bo bn bl refl)))

  pub prop_rest_twin : (c : Code) (so : List ℕ) (sn : ℕ) (sp : PlacedToken) (sl : List PlacedToken) (k : Tree) (o : List ℕ) (n1 : ℕ) (l : List PlacedToken) → Twins w (prop_rest lm inner c (on so sn (sp ∷ (sl ++ regexps w))) k (on o n1 ((l ++ regexps w)))) (prop_rest lm inner c (on so sn (sp ∷ (sl ++ slashes w))) k (on o n1 ((l ++ slashes w))))
  unfolding prop_rest
  prop_rest_twin c so sn sp sl k o n1 [] = twin_no w (at lm colon_kind (on o n1 (slashes w))) (parted w (λ z. at lm colon_kind (on o n1 z)) refl refl) _ _ _ (twin_no w (at lm left_paren_kind (on o n1 (slashes w))) (parted w (λ z. at lm left_paren_kind (on o n1 z)) refl refl) _ _ _ (placed_on w _ _ c so sn sp sl _ _ (λ nv. cut w (λ z. Twins w (if at lm assign_kind (on so sp.spot.hi ((z ++ regexps w))) then (inner.expr (with_in c) assignment_level (past lm (on so sp.spot.hi ((z ++ regexps w)))) >>= λ e. Ok (assign_prop (spanned lm (lo_of sn (sp ∷ (sl ++ regexps w))) e.1) (ident (first lm inner (on so sn (sp ∷ (sl ++ regexps w)))) nv) e.0, e.1)) else Ok (ident (first lm inner (on so sn (sp ∷ (sl ++ regexps w)))) nv, (on so sp.spot.hi ((z ++ regexps w))))) (if at lm assign_kind (on so sp.spot.hi ((z ++ slashes w))) then (inner.expr (with_in c) assignment_level (past lm (on so sp.spot.hi ((z ++ slashes w)))) >>= λ e. Ok (assign_prop (spanned lm (lo_of sn (sp ∷ (sl ++ slashes w))) e.1) (ident (first lm inner (on so sn (sp ∷ (sl ++ slashes w)))) nv) e.0, e.1)) else Ok (ident (first lm inner (on so sn (sp ∷ (sl ++ slashes w)))) nv, (on so sp.spot.hi ((z ++ slashes w)))))) sl (twin_no w (at lm assign_kind (on so sp.spot.hi (slashes w))) (parted w (λ z. at lm assign_kind (on so sp.spot.hi z)) refl refl) _ _ _ (twin_ok w _ _ so sp.spot.hi [] refl)) (λ np nq. twin_if w (at lm assign_kind (on so sp.spot.hi (np ∷ (nq ++ regexps w)))) (at lm assign_kind (on so sp.spot.hi (np ∷ (nq ++ slashes w)))) refl _ _ _ _ (λ yes. twin_then w _ _ _ _ (told.expr (with_in c) assignment_level so np.spot.hi nq) (λ ev eo en el. twin_ok w _ _ eo en el refl)) (λ no. twin_ok w _ _ so sp.spot.hi (np ∷ nq) refl)))))
  prop_rest_twin c so sn sp sl k o n1 (p ∷ l) = twin_if w (at lm colon_kind (on o n1 (p ∷ (l ++ regexps w)))) (at lm colon_kind (on o n1 (p ∷ (l ++ slashes w)))) refl _ _ _ _ (λ yes. twin_then w _ _ _ _ (told.expr (with_in c) assignment_level o p.spot.hi l) (λ vv vo vn vl. twin_ok w _ _ vo vn vl refl)) (λ no. twin_if w (at lm left_paren_kind (on o n1 (p ∷ (l ++ regexps w)))) (at lm left_paren_kind (on o n1 (p ∷ (l ++ slashes w)))) refl _ _ _ _ (λ yes. twin_then w _ _ _ _ (function_by_twin c (lo (input lm (on so sn (sp ∷ (sl ++ regexps w))))) false false o n1 (p ∷ l)) (λ fv fo fn fl. twin_ok w _ _ fo fn fl refl)) (λ no. placed_on w _ _ c so sn sp sl _ _ (λ nv. cut w (λ z. Twins w (if at lm assign_kind (on so sp.spot.hi ((z ++ regexps w))) then (inner.expr (with_in c) assignment_level (past lm (on so sp.spot.hi ((z ++ regexps w)))) >>= λ e. Ok (assign_prop (spanned lm (lo_of sn (sp ∷ (sl ++ regexps w))) e.1) (ident (first lm inner (on so sn (sp ∷ (sl ++ regexps w)))) nv) e.0, e.1)) else Ok (ident (first lm inner (on so sn (sp ∷ (sl ++ regexps w)))) nv, (on so sp.spot.hi ((z ++ regexps w))))) (if at lm assign_kind (on so sp.spot.hi ((z ++ slashes w))) then (inner.expr (with_in c) assignment_level (past lm (on so sp.spot.hi ((z ++ slashes w)))) >>= λ e. Ok (assign_prop (spanned lm (lo_of sn (sp ∷ (sl ++ slashes w))) e.1) (ident (first lm inner (on so sn (sp ∷ (sl ++ slashes w)))) nv) e.0, e.1)) else Ok (ident (first lm inner (on so sn (sp ∷ (sl ++ slashes w)))) nv, (on so sp.spot.hi ((z ++ slashes w)))))) sl (twin_no w (at lm assign_kind (on so sp.spot.hi (slashes w))) (parted w (λ z. at lm assign_kind (on so sp.spot.hi z)) refl refl) _ _ _ (twin_ok w _ _ so sp.spot.hi [] refl)) (λ np nq. twin_if w (at lm assign_kind (on so sp.spot.hi (np ∷ (nq ++ regexps w)))) (at lm assign_kind (on so sp.spot.hi (np ∷ (nq ++ slashes w)))) refl _ _ _ _ (λ yes. twin_then w _ _ _ _ (told.expr (with_in c) assignment_level so np.spot.hi nq) (λ ev eo en el. twin_ok w _ _ eo en el refl)) (λ no. twin_ok w _ _ so sp.spot.hi (np ∷ nq) refl)))))

  pub prop_by_twin : (c : Code) (o : List ℕ) (n : ℕ) (l : List PlacedToken) → Twins w (prop_by lm inner c (on o n ((l ++ regexps w)))) (prop_by lm inner c (on o n ((l ++ slashes w))))
  unfolding prop_by
  prop_by_twin c o n [] = twin_no w (at lm dot_dot_dot_kind (on o n (slashes w))) (parted w (λ z. at lm dot_dot_dot_kind (on o n z)) refl refl) _ _ _ (twin_no w (at lm mul_kind (on o n (slashes w))) (parted w (λ z. at lm mul_kind (on o n z)) refl refl) _ _ _ (twin_no w (is_async_head lm inner (on o n (slashes w))) (parted w (λ z. is_async_head lm inner (on o n z)) refl refl) _ _ _ (twin_no w (is_accessor lm inner get_kind (on o n (slashes w))) (parted w (λ z. is_accessor lm inner get_kind (on o n z)) refl refl) _ _ _ (twin_no w (is_accessor lm inner set_kind (on o n (slashes w))) (parted w (λ z. is_accessor lm inner set_kind (on o n z)) refl refl) _ _ _ (key_nil c o n _ _)))))
  prop_by_twin c o n (p ∷ l) = twin_if w (at lm dot_dot_dot_kind (on o n (p ∷ (l ++ regexps w)))) (at lm dot_dot_dot_kind (on o n (p ∷ (l ++ slashes w)))) refl _ _ _ _ (λ yes. twin_then w _ _ _ _ (told.expr (with_in c) assignment_level o p.spot.hi l) (λ ev eo en el. twin_ok w _ _ eo en el refl)) (λ no. twin_if w (at lm mul_kind (on o n (p ∷ (l ++ regexps w)))) (at lm mul_kind (on o n (p ∷ (l ++ slashes w)))) refl _ _ _ _ (λ yes. method_prop_by_twin c (lo (input lm (on o n (p ∷ (l ++ regexps w))))) true false o p.spot.hi l) (λ no. twin_if w (is_async_head lm inner (on o n (p ∷ (l ++ regexps w)))) (is_async_head lm inner (on o n (p ∷ (l ++ slashes w)))) (same w (λ z. is_async_head lm inner (on o n (p ∷ z))) refl refl (λ p. refl) (λ p. refl) (λ p q. refl) (λ p q. refl) (λ p q r l m n. refl) l) _ _ _ _ (λ yes. twin_then w _ _ _ _ (star_twin o p.spot.hi l) (λ gv go gn gl. method_prop_by_twin c (lo (input lm (on o n (p ∷ (l ++ regexps w))))) gv true go gn gl)) (λ no. twin_if w (is_accessor lm inner get_kind (on o n (p ∷ (l ++ regexps w)))) (is_accessor lm inner get_kind (on o n (p ∷ (l ++ slashes w)))) (same w (λ z. is_accessor lm inner get_kind (on o n (p ∷ z))) refl refl (λ p. refl) (λ p. refl) (λ p q. refl) (λ p q. refl) (λ p q r l m n. refl) l) _ _ _ _ (λ yes. getter_by_twin c o n p l) (λ no. twin_if w (is_accessor lm inner set_kind (on o n (p ∷ (l ++ regexps w)))) (is_accessor lm inner set_kind (on o n (p ∷ (l ++ slashes w)))) (same w (λ z. is_accessor lm inner set_kind (on o n (p ∷ z))) refl refl (λ p. refl) (λ p. refl) (λ p q. refl) (λ p q. refl) (λ p q r l m n. refl) l) _ _ _ _ (λ yes. setter_by_twin c o n p l) (λ no. twin_then w _ _ _ _ (key_by_twin c o n (p ∷ l)) (λ kv ko kn kl. prop_rest_twin c o n p l kv ko kn kl))))))

  pub prop_step_twin : (c : Code) (xs : Elements) (o : List ℕ) (n : ℕ) (l : List PlacedToken) → Twins w (prop_step lm inner c xs (on o n ((l ++ regexps w)))) (prop_step lm inner c xs (on o n ((l ++ slashes w))))
  unfolding prop_step
  prop_step_twin c xs o n [] = twin_no w (at lm right_brace_kind (on o n (slashes w))) (parted w (λ z. at lm right_brace_kind (on o n z)) refl refl) _ _ _ (twin_then w _ _ _ _ (prop_by_twin c o n []) (λ pv po pn pl. after_element_twin right_brace_kind (refl, refl, refl) (xs.items ++ pv ∷ []) po pn pl))
  prop_step_twin c xs o n (p1 ∷ l) = twin_if w (at lm right_brace_kind (on o n (p1 ∷ (l ++ regexps w)))) (at lm right_brace_kind (on o n (p1 ∷ (l ++ slashes w)))) refl _ _ _ _ (λ yes. twin_ok w _ _ o p1.spot.hi l refl) (λ no. twin_then w _ _ _ _ (prop_by_twin c o n (p1 ∷ l)) (λ pv po pn pl. after_element_twin right_brace_kind (refl, refl, refl) (xs.items ++ pv ∷ []) po pn pl))

  pub object_by_twin : (c : Code) (o : List ℕ) (n : ℕ) (p : PlacedToken) (l : List PlacedToken) → Twins w (object_by lm inner c (on o n (p ∷ (l ++ regexps w)))) (object_by lm inner c (on o n (p ∷ (l ++ slashes w))))
  unfolding object_by
  object_by_twin c o n p l = twin_then w _ _ _ _ (iterate_twin w _ _ (λ x xo xn xl. prop_step_twin c x xo xn xl) no_elements o p.spot.hi l) (λ psv pso psn psl. twin_ok w _ _ (if (psv.comma && last_rests psv.items) then (lo (input lm (on o n (p ∷ (l ++ regexps w))))) ∷ pso else pso) psn psl refl)

  pub quasi_end_twin : (c : Code) (tagged : Bool) (x : Spans) (q : Bool → Option Tree) (o : List ℕ) (n : ℕ) (l : List PlacedToken) → Twins w (quasi_end lm inner c tagged x q (on o n (l ++ regexps w))) (quasi_end lm inner c tagged x q (on o n (l ++ slashes w)))
  unfolding quasi_end eat
  quasi_end_twin c tagged x q o n [] = never w _ _
  quasi_end_twin c tagged x q o n (p ∷ l) = twin_if w (p.spot.token.kind == back_quote_kind) (p.spot.token.kind == back_quote_kind) refl _ _ _ _ (λ yes. last (q true)) (λ yes. eat_on w dollar_brace_kind o n p l _ _ (twin_then w _ _ _ _ (told.expr (with_in c) expression_level o p.spot.hi l)
      (λ v eo en el. eat_at w right_brace_kind (refl, refl, refl) eo en el _ _ (λ rn rl. more v eo rn rl (q false)))))
    where
      last : (t : Option Tree) → Twins w {A = Step Spans} (elim t [ None ↦ unexpected lm (on o p.spot.hi (l ++ regexps w)) | Some t ↦ if tagged || is_cooked t then Ok (finished (record { exprs = x.exprs; quasis = x.quasis ++ t ∷ [] }), on o p.spot.hi (l ++ regexps w)) else unexpected lm (on o p.spot.hi (l ++ regexps w)) ])
          (elim t [ None ↦ unexpected lm (on o p.spot.hi (l ++ slashes w)) | Some t ↦ if tagged || is_cooked t then Ok (finished (record { exprs = x.exprs; quasis = x.quasis ++ t ∷ [] }), on o p.spot.hi (l ++ slashes w)) else unexpected lm (on o p.spot.hi (l ++ slashes w)) ])
      last None = never w _ _
      last (Some t) = twin_if w (tagged || is_cooked t) (tagged || is_cooked t) refl _ _ _ _ (λ yes. twin_ok w _ _ o p.spot.hi l refl) (λ yes. never w _ _)

      more : (v : Tree) (eo : List ℕ) (rn : ℕ) (rl : List PlacedToken) (t : Option Tree) → Twins w {A = Step Spans} (elim t [ None ↦ unexpected lm (on eo rn (rl ++ regexps w)) | Some t ↦ if tagged || is_cooked t then Ok (go_on (record { exprs = x.exprs ++ v ∷ []; quasis = x.quasis ++ t ∷ [] }), on eo rn (rl ++ regexps w)) else unexpected lm (on eo rn (rl ++ regexps w)) ])
          (elim t [ None ↦ unexpected lm (on eo rn (rl ++ slashes w)) | Some t ↦ if tagged || is_cooked t then Ok (go_on (record { exprs = x.exprs ++ v ∷ []; quasis = x.quasis ++ t ∷ [] }), on eo rn (rl ++ slashes w)) else unexpected lm (on eo rn (rl ++ slashes w)) ])
      more v eo rn rl None = never w _ _
      more v eo rn rl (Some t) = twin_if w (tagged || is_cooked t) (tagged || is_cooked t) refl _ _ _ _ (λ yes. twin_ok w _ _ eo rn rl refl) (λ yes. never w _ _)

  pub quasi_step_twin : (c : Code) (tagged : Bool) (x : Spans) (o : List ℕ) (n : ℕ) (l : List PlacedToken) → Twins w (quasi_step lm inner c tagged x (on o n (l ++ regexps w))) (quasi_step lm inner c tagged x (on o n (l ++ slashes w)))
  unfolding quasi_step
  quasi_step_twin c tagged x o n [] = eat_none w template_kind (refl, refl, refl) o n _ _
  quasi_step_twin c tagged x o n (p ∷ l) = eat_on w template_kind o n p l _ _ (quasi_end_twin c tagged x (quasi lm inner p.spot.token.content (first lm inner (on o n (p ∷ l)))) o p.spot.hi l)

  pub template_by_twin : (c : Code) (tagged : Bool) (o : List ℕ) (n : ℕ) (p : PlacedToken) (l : List PlacedToken) → Twins w (template_by lm inner c tagged (on o n (p ∷ (l ++ regexps w)))) (template_by lm inner c tagged (on o n (p ∷ (l ++ slashes w))))
  unfolding template_by
  template_by_twin c tagged o n p l = twin_then w _ _ _ _ (iterate_twin w _ _ (λ x xo xn xl. quasi_step_twin c tagged x xo xn xl) (record { exprs = []; quasis = [] }) o p.spot.hi l) (λ xv xo xn xl. twin_ok w _ _ xo xn xl refl)

  pub arrow_by_twin : (c : Code) (starto : List ℕ) (startn : ℕ) (startl : List PlacedToken) (async : Bool) (ps : List Tree) (o : List ℕ) (n : ℕ) (p : PlacedToken) (l : List PlacedToken) → Twins w (arrow_by lm inner c (lo_of startn (startl ++ regexps w)) async ps (on o n (p ∷ (l ++ regexps w)))) (arrow_by lm inner c (lo_of startn (startl ++ slashes w)) async ps (on o n (p ∷ (l ++ slashes w))))
  unfolding arrow_by
  arrow_by_twin c starto startn startl async ps o n p l = twin_if w (at lm left_brace_kind (past lm (on o n (p ∷ (l ++ regexps w))))) (at lm left_brace_kind (past lm (on o n (p ∷ (l ++ slashes w))))) (same w (λ z. at lm left_brace_kind (past lm (on o n (p ∷ z)))) refl refl (λ p. refl) (λ p. refl) (λ p q. refl) (λ p q. refl) (λ p q r l m n. refl) l) _ _ _ _ (λ yes. twin_then w _ _ _ _ (told.body (in_list (with_in (in_arrow async c))) o p.spot.hi l) (λ bv bo bn bl. twin_ok w _ _ bo bn bl (ap (λ (z : ℕ). arrow_expr (span z bn) (pack ps) bv async) (lo_same w starto startn startl)))) (λ no. twin_then w _ _ _ _ (told.expr (in_arrow async c) assignment_level o p.spot.hi l) (λ bv bo bn bl. twin_ok w _ _ bo bn bl (ap (λ (z : ℕ). arrow_expr (span z bn) (pack ps) bv async) (lo_same w starto startn startl))))

  -- an expression in parentheses
  closed_twin : (c : Code) (starto : List ℕ) (startn : ℕ) (startp : PlacedToken) (startl : List PlacedToken) (open_o : List ℕ) (open_n : ℕ) (open_l : List PlacedToken) (xs : Elements) (o : List ℕ) (n : ℕ) (l : List PlacedToken)
      → Twins w {A = Tree} (if xs.comma then unexpected lm (on o n (l ++ regexps w)) else elim (plain_elements xs.items) [ None ↦ unexpected lm (on o n (l ++ regexps w)) | Some [] ↦ unexpected lm (on o n (l ++ regexps w)) | Some (e ∷ es) ↦ Ok (paren_expr (span startp.spot.lo n) (joined (e ∷ es) (span (lo (input lm (on open_o open_n (open_l ++ regexps w)))) (last_end xs.items))), on o n (l ++ regexps w)) ])
      (if xs.comma then unexpected lm (on o n (l ++ slashes w)) else elim (plain_elements xs.items) [ None ↦ unexpected lm (on o n (l ++ slashes w)) | Some [] ↦ unexpected lm (on o n (l ++ slashes w)) | Some (e ∷ es) ↦ Ok (paren_expr (span startp.spot.lo n) (joined (e ∷ es) (span (lo (input lm (on open_o open_n (open_l ++ slashes w)))) (last_end xs.items))), on o n (l ++ slashes w)) ])
  closed_twin c starto startn startp startl open_o open_n open_l xs o n l = twin_if w xs.comma xs.comma refl _ _ _ _ (λ yes. never w _ _) (λ yes. alone (plain_elements xs.items))
    where
      alone : (es : Option (List Tree)) → Twins w {A = Tree} (elim es [ None ↦ unexpected lm (on o n (l ++ regexps w)) | Some [] ↦ unexpected lm (on o n (l ++ regexps w)) | Some (e ∷ es) ↦ Ok (paren_expr (span startp.spot.lo n) (joined (e ∷ es) (span (lo (input lm (on open_o open_n (open_l ++ regexps w)))) (last_end xs.items))), on o n (l ++ regexps w)) ])
          (elim es [ None ↦ unexpected lm (on o n (l ++ slashes w)) | Some [] ↦ unexpected lm (on o n (l ++ slashes w)) | Some (e ∷ es) ↦ Ok (paren_expr (span startp.spot.lo n) (joined (e ∷ es) (span (lo (input lm (on open_o open_n (open_l ++ slashes w)))) (last_end xs.items))), on o n (l ++ slashes w)) ])
      alone None = never w _ _
      alone (Some []) = never w _ _
      alone (Some (e ∷ es)) = twin_ok w _ _ o n l (ap (λ (z : ℕ). paren_expr (span startp.spot.lo n) (joined (e ∷ es) (span z (last_end xs.items)))) (lo_same w open_o open_n open_l))

  pub group_end_twin : (c : Code) (v : ℕ) (starto : List ℕ) (startn : ℕ) (startp : PlacedToken) (startl : List PlacedToken) (open_o : List ℕ) (open_n : ℕ) (open_l : List PlacedToken) (xs : Elements) (o : List ℕ) (n : ℕ) (l : List PlacedToken)
      → Twins w (group_end lm inner c v (lo_of startn (startp ∷ (startl ++ regexps w))) (lo_of open_n (open_l ++ regexps w)) xs (on o n (l ++ regexps w))) (group_end lm inner c v (lo_of startn (startp ∷ (startl ++ slashes w))) (lo_of open_n (open_l ++ slashes w)) xs (on o n (l ++ slashes w)))
  unfolding group_end
  group_end_twin c v starto startn startp startl open_o open_n open_l xs o n [] = twin_no w (heads_params lm inner v xs (on o n (slashes w))) (parted w (λ z. heads_params lm inner v xs (on o n z)) refl refl) _ _ _ (closed_twin c starto startn startp startl open_o open_n open_l xs o n [])
  group_end_twin c v starto startn startp startl open_o open_n open_l xs o n (p ∷ q) = twin_if w (heads_params lm inner v xs (on o n (p ∷ (q ++ regexps w)))) (heads_params lm inner v xs (on o n (p ∷ (q ++ slashes w)))) refl _ _ _ _
      (λ yes. twin_placed w _ _ _ _ _ (λ ps. arrow_by_twin c starto startn (startp ∷ startl) false ps o n p q)) (λ yes. closed_twin c starto startn startp startl open_o open_n open_l xs o n (p ∷ q))

  pub group_by_twin : (c : Code) (v : ℕ) (o : List ℕ) (n : ℕ) (p : PlacedToken) (l : List PlacedToken) → Twins w (group_by lm inner c v (on o n (p ∷ (l ++ regexps w)))) (group_by lm inner c v (on o n (p ∷ (l ++ slashes w))))
  unfolding group_by
  group_by_twin c v o n p l = twin_then w _ _ _ _ (elements_by_twin (with_in c) false right_paren_kind (refl, refl, refl) o p.spot.hi l) (λ xsv xso xsn xsl. group_end_twin c v o n p l o p.spot.hi l xsv xso xsn xsl)

  pub ident_end_twin : (c : Code) (v : ℕ) (starto : List ℕ) (startn : ℕ) (startp : PlacedToken) (startl : List PlacedToken) (n : List ℕ) (o : List ℕ) (n1 : ℕ) (l : List PlacedToken) → Twins w (ident_end lm inner c v (first_span (input lm (on starto startn (startp ∷ (startl ++ regexps w))))) n (on o n1 ((l ++ regexps w)))) (ident_end lm inner c v (first_span (input lm (on starto startn (startp ∷ (startl ++ slashes w))))) n (on o n1 ((l ++ slashes w))))
  unfolding ident_end
  ident_end_twin c v starto startn startp startl n o n1 [] = twin_no w (arrows_at lm inner v (on o n1 (slashes w))) (parted w (λ z. arrows_at lm inner v (on o n1 z)) refl refl) _ _ _ (twin_ok w _ _ o n1 [] refl)
  ident_end_twin c v starto startn startp startl n o n1 (p ∷ l) = twin_if w (arrows_at lm inner v (on o n1 (p ∷ (l ++ regexps w)))) (arrows_at lm inner v (on o n1 (p ∷ (l ++ slashes w)))) refl _ _ _ _ (λ yes. arrow_by_twin c starto startn (startp ∷ startl) false (binding_ident (first lm inner (on starto startn (startp ∷ (startl ++ regexps w)))) (ident (first lm inner (on starto startn (startp ∷ (startl ++ regexps w)))) n) ∷ []) o n1 p l) (λ no. twin_ok w _ _ o n1 (p ∷ l) refl)

  pub arguments_by_twin : (c : Code) (o : List ℕ) (n : ℕ) (l : List PlacedToken) → Twins w (arguments_by lm inner c (on o n ((l ++ regexps w)))) (arguments_by lm inner c (on o n ((l ++ slashes w))))
  unfolding arguments_by
  arguments_by_twin c o n l = twin_then w _ _ _ _ (elements_by_twin c false right_paren_kind (refl, refl, refl) o n l) (λ xsv xso xsn xsl. twin_ok w _ _ xso xsn xsl refl)

  pub async_group_twin : (c : Code) (v : ℕ) (starto : List ℕ) (startn : ℕ) (startp : PlacedToken) (startl : List PlacedToken) (o : List ℕ) (n : ℕ) (p : PlacedToken) (l : List PlacedToken) → Twins w (async_group lm inner c v (first_span (input lm (on starto startn (startp ∷ (startl ++ regexps w))))) (text (input lm (on starto startn (startp ∷ (startl ++ regexps w))))) (on o n (p ∷ (l ++ regexps w)))) (async_group lm inner c v (first_span (input lm (on starto startn (startp ∷ (startl ++ slashes w))))) (text (input lm (on starto startn (startp ∷ (startl ++ slashes w))))) (on o n (p ∷ (l ++ slashes w))))
  unfolding async_group
  async_group_twin c v starto startn startp startl o n p l = twin_then w _ _ _ _ (elements_by_twin (with_in c) false right_paren_kind (refl, refl, refl) o p.spot.hi l) (λ xsv xso xsn xsl. cut w (λ z. Twins w (if heads_params lm inner v xsv (on xso xsn ((z ++ regexps w))) && not (brk (input lm (on o n (p ∷ (l ++ regexps w))))) then (placed (bound lm (on xso xsn ((z ++ regexps w)))) (params_of lm inner xso xsv) >>= λ ps. arrow_by lm inner c (lo_of startn (startp ∷ (startl ++ regexps w))) true ps (on xso xsn ((z ++ regexps w)))) else Ok (call_expr (spanned lm (lo_of startn (startp ∷ (startl ++ regexps w))) (on xso xsn ((z ++ regexps w)))) (ident (first lm inner (on starto startn (startp ∷ (startl ++ regexps w)))) (text (input lm (on starto startn (startp ∷ (startl ++ regexps w)))))) (pack xsv.items), (on xso xsn ((z ++ regexps w))))) (if heads_params lm inner v xsv (on xso xsn ((z ++ slashes w))) && not (brk (input lm (on o n (p ∷ (l ++ slashes w))))) then (placed (bound lm (on xso xsn ((z ++ slashes w)))) (params_of lm inner xso xsv) >>= λ ps. arrow_by lm inner c (lo_of startn (startp ∷ (startl ++ slashes w))) true ps (on xso xsn ((z ++ slashes w)))) else Ok (call_expr (spanned lm (lo_of startn (startp ∷ (startl ++ slashes w))) (on xso xsn ((z ++ slashes w)))) (ident (first lm inner (on starto startn (startp ∷ (startl ++ slashes w)))) (text (input lm (on starto startn (startp ∷ (startl ++ slashes w)))))) (pack xsv.items), (on xso xsn ((z ++ slashes w)))))) xsl (twin_no w (heads_params lm inner v xsv (on xso xsn (slashes w)) && not (brk (input lm (on o n (p ∷ (l ++ slashes w)))))) (parted w (λ z. heads_params lm inner v xsv (on xso xsn z) && not (brk (input lm (on o n (p ∷ (l ++ regexps w)))))) refl refl) _ _ _ (twin_ok w _ _ xso xsn [] refl)) (λ xsp xsq. twin_if w (heads_params lm inner v xsv (on xso xsn (xsp ∷ (xsq ++ regexps w))) && not (brk (input lm (on o n (p ∷ (l ++ regexps w)))))) (heads_params lm inner v xsv (on xso xsn (xsp ∷ (xsq ++ slashes w))) && not (brk (input lm (on o n (p ∷ (l ++ slashes w)))))) refl _ _ _ _ (λ yes. twin_placed w _ _ _ _ _ (λ psv. arrow_by_twin c starto startn (startp ∷ startl) true psv xso xsn xsp xsq)) (λ no. twin_ok w _ _ xso xsn (xsp ∷ xsq) refl)))

  pub function_expr_name_twin : (c : Code) (starto : List ℕ) (startn : ℕ) (startp : PlacedToken) (startl : List PlacedToken) (generator : Bool) (async : Bool) (o : List ℕ) (n1 : ℕ) (l : List PlacedToken) → Twins w (function_expr_name lm inner c (lo_of startn (startp ∷ (startl ++ regexps w))) generator async (on o n1 ((l ++ regexps w)))) (function_expr_name lm inner c (lo_of startn (startp ∷ (startl ++ slashes w))) generator async (on o n1 ((l ++ slashes w))))
  unfolding function_expr_name
  function_expr_name_twin c starto startn startp startl generator async o n1 [] = twin_no w (at lm left_paren_kind (on o n1 (slashes w))) (parted w (λ z. at lm left_paren_kind (on o n1 z)) refl refl) _ _ _ (name_none w (by generator async c) o n1 _ _)
  function_expr_name_twin c starto startn startp startl generator async o n1 (p ∷ l) = twin_if w (at lm left_paren_kind (on o n1 (p ∷ (l ++ regexps w)))) (at lm left_paren_kind (on o n1 (p ∷ (l ++ slashes w)))) refl _ _ _ _ (λ yes. twin_then w _ _ _ _ (function_by_twin c (lo (input lm (on starto startn (startp ∷ (startl ++ regexps w))))) generator async o n1 (p ∷ l)) (λ fv fo fn fl. twin_ok w _ _ fo fn fl refl)) (λ no. name_on w (by generator async c) o n1 p l _ _ (λ nv. twin_then w _ _ _ _ (function_by_twin c (lo (input lm (on starto startn (startp ∷ (startl ++ regexps w))))) generator async o p.spot.hi l) (λ fv fo fn fl. twin_ok w _ _ fo fn fl refl)))

  pub function_expr_by_twin : (c : Code) (starto : List ℕ) (startn : ℕ) (startp : PlacedToken) (startl : List PlacedToken) (async : Bool) (o : List ℕ) (n : ℕ) (l : List PlacedToken) → Twins w (function_expr_by lm inner c (lo_of startn (startp ∷ (startl ++ regexps w))) async (on o n ((l ++ regexps w)))) (function_expr_by lm inner c (lo_of startn (startp ∷ (startl ++ slashes w))) async (on o n ((l ++ slashes w))))
  unfolding function_expr_by
  function_expr_by_twin c starto startn startp startl async o n l = word_at w c function_kind (refl, refl, refl) o n l _ _ (λ rn rl. twin_then w _ _ _ _ (star_twin o rn rl) (λ gv go gn gl. function_expr_name_twin c starto startn startp startl gv async go gn gl))

  pub async_by_twin : (c : Code) (v : ℕ) (o : List ℕ) (n1 : ℕ) (p : PlacedToken) (l : List PlacedToken) → Twins w (async_by lm inner c v (on o n1 (p ∷ (l ++ regexps w)))) (async_by lm inner c v (on o n1 (p ∷ (l ++ slashes w))))
  unfolding async_by
  async_by_twin c v o n1 p [] = twin_no w ((at lm function_kind (past lm (on o n1 (p ∷ slashes w))) && not (brk (input lm (past lm (on o n1 (p ∷ slashes w)))))) && not (barred c.context (input lm (past lm (on o n1 (p ∷ slashes w)))))) (parted w (λ z. (at lm function_kind (past lm (on o n1 (p ∷ z))) && not (brk (input lm (past lm (on o n1 (p ∷ z)))))) && not (barred c.context (input lm (past lm (on o n1 (p ∷ z)))))) refl refl) _ _ _ (twin_no w (is_async_param lm inner c v (past lm (on o n1 (p ∷ slashes w)))) (parted w (λ z. is_async_param lm inner c v (past lm (on o n1 (p ∷ z)))) refl refl) _ _ _ (twin_no w (at lm left_paren_kind (past lm (on o n1 (p ∷ slashes w))) && not (brk (input lm (past lm (on o n1 (p ∷ slashes w)))))) (parted w (λ z. at lm left_paren_kind (past lm (on o n1 (p ∷ z))) && not (brk (input lm (past lm (on o n1 (p ∷ z)))))) refl refl) _ _ _ (ident_end_twin c v o n1 p [] (text (input lm (on o n1 (p ∷ regexps w)))) o p.spot.hi [])))
  async_by_twin c v o n1 p (p2 ∷ []) = twin_if w ((at lm function_kind (past lm (on o n1 (p ∷ p2 ∷ regexps w))) && not (brk (input lm (past lm (on o n1 (p ∷ p2 ∷ regexps w)))))) && not (barred c.context (input lm (past lm (on o n1 (p ∷ p2 ∷ regexps w)))))) ((at lm function_kind (past lm (on o n1 (p ∷ p2 ∷ slashes w))) && not (brk (input lm (past lm (on o n1 (p ∷ p2 ∷ slashes w)))))) && not (barred c.context (input lm (past lm (on o n1 (p ∷ p2 ∷ slashes w)))))) (parted w (λ z. (at lm function_kind (past lm (on o n1 (p ∷ p2 ∷ z))) && not (brk (input lm (past lm (on o n1 (p ∷ p2 ∷ z)))))) && not (barred c.context (input lm (past lm (on o n1 (p ∷ p2 ∷ z)))))) refl refl) _ _ _ _ (λ yes. function_expr_by_twin c o n1 p (p2 ∷ []) true o p.spot.hi (p2 ∷ [])) (λ no. twin_if w (is_async_param lm inner c v (past lm (on o n1 (p ∷ p2 ∷ regexps w)))) (is_async_param lm inner c v (past lm (on o n1 (p ∷ p2 ∷ slashes w)))) (parted w (λ z. is_async_param lm inner c v (past lm (on o n1 (p ∷ p2 ∷ z)))) refl refl) _ _ _ _ (λ yes. absurd (no_fourth w _ _ _ _ yes)) (λ no. twin_if w (at lm left_paren_kind (past lm (on o n1 (p ∷ p2 ∷ regexps w))) && not (brk (input lm (past lm (on o n1 (p ∷ p2 ∷ regexps w)))))) (at lm left_paren_kind (past lm (on o n1 (p ∷ p2 ∷ slashes w))) && not (brk (input lm (past lm (on o n1 (p ∷ p2 ∷ slashes w)))))) (parted w (λ z. at lm left_paren_kind (past lm (on o n1 (p ∷ p2 ∷ z))) && not (brk (input lm (past lm (on o n1 (p ∷ p2 ∷ z)))))) refl refl) _ _ _ _ (λ yes. async_group_twin c v o n1 p (p2 ∷ []) o p.spot.hi p2 []) (λ no. ident_end_twin c v o n1 p (p2 ∷ []) (text (input lm (on o n1 (p ∷ p2 ∷ regexps w)))) o p.spot.hi (p2 ∷ []))))
  async_by_twin c v o n1 p (p2 ∷ (p3 ∷ l)) = twin_if w ((at lm function_kind (past lm (on o n1 (p ∷ p2 ∷ p3 ∷ (l ++ regexps w)))) && not (brk (input lm (past lm (on o n1 (p ∷ p2 ∷ p3 ∷ (l ++ regexps w))))))) && not (barred c.context (input lm (past lm (on o n1 (p ∷ p2 ∷ p3 ∷ (l ++ regexps w))))))) ((at lm function_kind (past lm (on o n1 (p ∷ p2 ∷ p3 ∷ (l ++ slashes w)))) && not (brk (input lm (past lm (on o n1 (p ∷ p2 ∷ p3 ∷ (l ++ slashes w))))))) && not (barred c.context (input lm (past lm (on o n1 (p ∷ p2 ∷ p3 ∷ (l ++ slashes w))))))) refl _ _ _ _ (λ yes. function_expr_by_twin c o n1 p (p2 ∷ p3 ∷ l) true o p.spot.hi (p2 ∷ p3 ∷ l)) (λ no. twin_if w (is_async_param lm inner c v (past lm (on o n1 (p ∷ p2 ∷ p3 ∷ (l ++ regexps w))))) (is_async_param lm inner c v (past lm (on o n1 (p ∷ p2 ∷ p3 ∷ (l ++ slashes w))))) (same w (λ z. is_async_param lm inner c v (past lm (on o n1 (p ∷ p2 ∷ p3 ∷ z)))) refl refl (λ p. refl) (λ p. refl) (λ p q. refl) (λ p q. refl) (λ p q r l m n. refl) l) _ _ _ _ (λ yes. name_on w c o p.spot.hi p2 (p3 ∷ l) _ _ (λ nv. arrow_by_twin c o n1 (p ∷ p2 ∷ p3 ∷ l) true (binding_ident (first lm inner (past lm (on o n1 (p ∷ p2 ∷ p3 ∷ (l ++ regexps w))))) (ident (first lm inner (past lm (on o n1 (p ∷ p2 ∷ p3 ∷ (l ++ regexps w))))) nv) ∷ []) o p2.spot.hi p3 l)) (λ no. twin_if w (at lm left_paren_kind (past lm (on o n1 (p ∷ p2 ∷ p3 ∷ (l ++ regexps w)))) && not (brk (input lm (past lm (on o n1 (p ∷ p2 ∷ p3 ∷ (l ++ regexps w))))))) (at lm left_paren_kind (past lm (on o n1 (p ∷ p2 ∷ p3 ∷ (l ++ slashes w)))) && not (brk (input lm (past lm (on o n1 (p ∷ p2 ∷ p3 ∷ (l ++ slashes w))))))) refl _ _ _ _ (λ yes. async_group_twin c v o n1 p (p2 ∷ p3 ∷ l) o p.spot.hi p2 (p3 ∷ l)) (λ no. ident_end_twin c v o n1 p (p2 ∷ p3 ∷ l) (text (input lm (on o n1 (p ∷ p2 ∷ p3 ∷ (l ++ regexps w))))) o p.spot.hi (p2 ∷ p3 ∷ l))))

  pub class_expr_by_twin : (c : Code) (o : List ℕ) (n1 : ℕ) (l : List PlacedToken) → Twins w (class_expr_by lm inner c (on o n1 ((l ++ regexps w)))) (class_expr_by lm inner c (on o n1 ((l ++ slashes w))))
  unfolding class_expr_by
  class_expr_by_twin c o n1 [] = word_none w c class_kind (refl, refl, refl) o n1 _ _
  class_expr_by_twin c o n1 (p ∷ l) = word_on w c class_kind o n1 p l _ _ (cut w (λ z. Twins w (if is_name lm (turned_strict c) (on o p.spot.hi ((z ++ regexps w))) && not (at lm left_brace_kind (on o p.spot.hi ((z ++ regexps w)))) then (name lm (turned_strict c) (on o p.spot.hi ((z ++ regexps w))) >>= λ n. inner.class_tail (turned_strict (with_in c)) (lo (input lm (on o n1 (p ∷ (l ++ regexps w))))) n.1 >>= λ k. Ok (class_expr (spanned lm (lo_of n1 (p ∷ (l ++ regexps w))) k.1) (ident (first lm inner (on o p.spot.hi ((z ++ regexps w)))) n.0) k.0, k.1)) else (inner.class_tail (turned_strict (with_in c)) (lo (input lm (on o n1 (p ∷ (l ++ regexps w))))) (on o p.spot.hi ((z ++ regexps w))) >>= λ k. Ok (class_expr (spanned lm (lo_of n1 (p ∷ (l ++ regexps w))) k.1) absent k.0, k.1))) (if is_name lm (turned_strict c) (on o p.spot.hi ((z ++ slashes w))) && not (at lm left_brace_kind (on o p.spot.hi ((z ++ slashes w)))) then (name lm (turned_strict c) (on o p.spot.hi ((z ++ slashes w))) >>= λ n. inner.class_tail (turned_strict (with_in c)) (lo (input lm (on o n1 (p ∷ (l ++ slashes w))))) n.1 >>= λ k. Ok (class_expr (spanned lm (lo_of n1 (p ∷ (l ++ slashes w))) k.1) (ident (first lm inner (on o p.spot.hi ((z ++ slashes w)))) n.0) k.0, k.1)) else (inner.class_tail (turned_strict (with_in c)) (lo (input lm (on o n1 (p ∷ (l ++ slashes w))))) (on o p.spot.hi ((z ++ slashes w))) >>= λ k. Ok (class_expr (spanned lm (lo_of n1 (p ∷ (l ++ slashes w))) k.1) absent k.0, k.1)))) l (twin_no w (is_name lm (turned_strict c) (on o p.spot.hi (slashes w)) && not (at lm left_brace_kind (on o p.spot.hi (slashes w)))) (parted w (λ z. is_name lm (turned_strict c) (on o p.spot.hi z) && not (at lm left_brace_kind (on o p.spot.hi z))) refl refl) _ _ _ (twin_then w _ _ _ _ (told.class_tail (turned_strict (with_in c)) (lo (input lm (on o n1 (p ∷ (l ++ regexps w))))) o p.spot.hi []) (λ kv ko kn kl. twin_ok w _ _ ko kn kl refl))) (λ rp rq. twin_if w (is_name lm (turned_strict c) (on o p.spot.hi (rp ∷ (rq ++ regexps w))) && not (at lm left_brace_kind (on o p.spot.hi (rp ∷ (rq ++ regexps w))))) (is_name lm (turned_strict c) (on o p.spot.hi (rp ∷ (rq ++ slashes w))) && not (at lm left_brace_kind (on o p.spot.hi (rp ∷ (rq ++ slashes w))))) refl _ _ _ _ (λ yes. name_on w (turned_strict c) o p.spot.hi rp rq _ _ (λ nv. twin_then w _ _ _ _ (told.class_tail (turned_strict (with_in c)) (lo (input lm (on o n1 (p ∷ (l ++ regexps w))))) o rp.spot.hi rq) (λ kv ko kn kl. twin_ok w _ _ ko kn kl refl))) (λ no. twin_then w _ _ _ _ (told.class_tail (turned_strict (with_in c)) (lo (input lm (on o n1 (p ∷ (l ++ regexps w))))) o p.spot.hi (rp ∷ rq)) (λ kv ko kn kl. twin_ok w _ _ ko kn kl refl))))

  pub new_end_twin : (c : Code) (starto : List ℕ) (startn : ℕ) (startl : List PlacedToken) (f : Tree) (o : List ℕ) (n : ℕ) (l : List PlacedToken) → Twins w (new_end lm inner c (lo_of startn (startl ++ regexps w)) f (on o n ((l ++ regexps w)))) (new_end lm inner c (lo_of startn (startl ++ slashes w)) f (on o n ((l ++ slashes w))))
  unfolding new_end
  new_end_twin c starto startn startl f o n [] = twin_no w (at lm left_paren_kind (on o n (slashes w)) && nat_le member_level (level f)) (parted w (λ z. at lm left_paren_kind (on o n z) && nat_le member_level (level f)) refl refl) _ _ _ (twin_if w ((nat_le member_level (level f) || (level f == new_level)) && nat_lt (goes_expr c other_end (input lm (on o n (regexps w)))) call_level) ((nat_le member_level (level f) || (level f == new_level)) && nat_lt (goes_expr c other_end (input lm (on o n (slashes w)))) call_level) (parted w (λ z. (nat_le member_level (level f) || (level f == new_level)) && nat_lt (goes_expr c other_end (input lm (on o n z))) call_level) refl refl) _ _ _ _ (λ yes. twin_ok w _ _ o n [] (ap (λ (z : ℕ). new_expr (span z n) f absent) (lo_same w starto startn startl))) (λ no. never w _ _))
  new_end_twin c starto startn startl f o n (p ∷ l) = twin_if w (at lm left_paren_kind (on o n (p ∷ (l ++ regexps w))) && nat_le member_level (level f)) (at lm left_paren_kind (on o n (p ∷ (l ++ slashes w))) && nat_le member_level (level f)) refl _ _ _ _ (λ yes. twin_then w _ _ _ _ (arguments_by_twin c o p.spot.hi l) (λ xsv xso xsn xsl. twin_ok w _ _ xso xsn xsl (ap (λ (z : ℕ). new_expr (span z xsn) f (list (pack xsv))) (lo_same w starto startn startl)))) (λ no. twin_if w ((nat_le member_level (level f) || (level f == new_level)) && nat_lt (goes_expr c other_end (input lm (on o n (p ∷ (l ++ regexps w))))) call_level) ((nat_le member_level (level f) || (level f == new_level)) && nat_lt (goes_expr c other_end (input lm (on o n (p ∷ (l ++ slashes w))))) call_level) (same w (λ z. (nat_le member_level (level f) || (level f == new_level)) && nat_lt (goes_expr c other_end (input lm (on o n (p ∷ z)))) call_level) refl refl (λ p. refl) (λ p. refl) (λ p q. refl) (λ p q. refl) (λ p q r l m n. refl) l) _ _ _ _ (λ yes. twin_ok w _ _ o n (p ∷ l) (ap (λ (z : ℕ). new_expr (span z n) f absent) (lo_same w starto startn startl))) (λ no. never w _ _))

  pub callee_by_twin : (c : Code) (o : List ℕ) (n1 : ℕ) (l : List PlacedToken) → Twins w (callee_by lm inner c (on o n1 ((l ++ regexps w)))) (callee_by lm inner c (on o n1 ((l ++ slashes w))))
  unfolding callee_by
  callee_by_twin c o n1 [] = twin_no w (at lm async_kind (on o n1 (slashes w)) && (kind2 (input lm (on o n1 (slashes w))) == left_paren_kind)) (parted w (λ z. at lm async_kind (on o n1 z) && (kind2 (input lm (on o n1 z)) == left_paren_kind)) refl refl) _ _ _ (told.expr c member_level o n1 [])
  callee_by_twin c o n1 (p ∷ l) = twin_if w (at lm async_kind (on o n1 (p ∷ (l ++ regexps w))) && (kind2 (input lm (on o n1 (p ∷ (l ++ regexps w)))) == left_paren_kind)) (at lm async_kind (on o n1 (p ∷ (l ++ slashes w))) && (kind2 (input lm (on o n1 (p ∷ (l ++ slashes w)))) == left_paren_kind)) (same w (λ z. at lm async_kind (on o n1 (p ∷ z)) && (kind2 (input lm (on o n1 (p ∷ z))) == left_paren_kind)) refl refl (λ p. refl) (λ p. refl) (λ p q. refl) (λ p q. refl) (λ p q r l m n. refl) l) _ _ _ _ (λ yes. name_on w c o n1 p l _ _ (λ nv. twin_ok w _ _ o p.spot.hi l refl)) (λ no. told.expr c member_level o n1 (p ∷ l))

  pub new_by_twin : (c : Code) (o : List ℕ) (n : ℕ) (l : List PlacedToken) → Twins w (new_by lm inner c (on o n ((l ++ regexps w)))) (new_by lm inner c (on o n ((l ++ slashes w))))
  unfolding new_by
  new_by_twin c o n [] = word_none w c new_kind (refl, refl, refl) o n _ _
  new_by_twin c o n (p ∷ l) = word_on w c new_kind o n p l _ _ (cut w (λ z. Twins w (if at lm dot_kind (on o p.spot.hi ((z ++ regexps w))) then (eat_word lm c target_kind (past lm (on o p.spot.hi ((z ++ regexps w)))) >>= λ t. Ok (meta_prop_expr (spanned lm (lo_of n (p ∷ (l ++ regexps w))) t) new_kind, t)) else (callee_by lm inner c (on o p.spot.hi ((z ++ regexps w))) >>= λ f. new_end lm inner c (lo_of n (p ∷ (l ++ regexps w))) f.0 f.1)) (if at lm dot_kind (on o p.spot.hi ((z ++ slashes w))) then (eat_word lm c target_kind (past lm (on o p.spot.hi ((z ++ slashes w)))) >>= λ t. Ok (meta_prop_expr (spanned lm (lo_of n (p ∷ (l ++ slashes w))) t) new_kind, t)) else (callee_by lm inner c (on o p.spot.hi ((z ++ slashes w))) >>= λ f. new_end lm inner c (lo_of n (p ∷ (l ++ slashes w))) f.0 f.1))) l (twin_no w (at lm dot_kind (on o p.spot.hi (slashes w))) (parted w (λ z. at lm dot_kind (on o p.spot.hi z)) refl refl) _ _ _ (twin_then w _ _ _ _ (callee_by_twin c o p.spot.hi []) (λ fv fo fn fl. new_end_twin c o n (p ∷ l) fv fo fn fl))) (λ rp rq. twin_if w (at lm dot_kind (on o p.spot.hi (rp ∷ (rq ++ regexps w)))) (at lm dot_kind (on o p.spot.hi (rp ∷ (rq ++ slashes w)))) refl _ _ _ _ (λ yes. word_at w c target_kind (refl, refl, refl) o rp.spot.hi rq _ _ (λ tn tl. twin_ok w _ _ o tn tl refl)) (λ no. twin_then w _ _ _ _ (callee_by_twin c o p.spot.hi (rp ∷ rq)) (λ fv fo fn fl. new_end_twin c o n (p ∷ l) fv fo fn fl))))

  pub super_end_twin : (c : Code) (starto : List ℕ) (startn : ℕ) (startp : PlacedToken) (startl : List PlacedToken) (o : List ℕ) (n1 : ℕ) (l : List PlacedToken) → Twins w (super_end lm inner c (first_span (input lm (on starto startn (startp ∷ (startl ++ regexps w))))) (on o n1 ((l ++ regexps w)))) (super_end lm inner c (first_span (input lm (on starto startn (startp ∷ (startl ++ slashes w))))) (on o n1 ((l ++ slashes w))))
  unfolding super_end eat
  super_end_twin c starto startn startp startl o n1 [] = never w _ _
  super_end_twin c starto startn startp startl o n1 (p ∷ l) = twin_if w (at lm left_paren_kind (on o n1 (p ∷ (l ++ regexps w)))) (at lm left_paren_kind (on o n1 (p ∷ (l ++ slashes w)))) refl _ _ _ _ (λ yes. twin_then w _ _ _ _ (arguments_by_twin c o p.spot.hi l) (λ xsv xso xsn xsl. twin_ok w _ _ xso xsn xsl refl)) (λ no. twin_if w (at lm left_bracket_kind (on o n1 (p ∷ (l ++ regexps w)))) (at lm left_bracket_kind (on o n1 (p ∷ (l ++ slashes w)))) refl _ _ _ _ (λ yes. twin_then w _ _ _ _ (computed_by_twin c expression_level o n1 p l) (λ kv ko kn kl. twin_ok w _ _ ko kn kl refl)) (λ no. eat_on w dot_kind o n1 p l _ _ (cut w (λ z. Twins w (any_word lm (on o p.spot.hi ((z ++ regexps w))) >>= λ n. Ok (super_prop_expr (spanned lm (lo_of startn (startp ∷ (startl ++ regexps w))) n.1) (super (first lm inner (on starto startn (startp ∷ (startl ++ regexps w))))) (ident_name (first lm inner (on o p.spot.hi ((z ++ regexps w)))) n.0), n.1)) (any_word lm (on o p.spot.hi ((z ++ slashes w))) >>= λ n. Ok (super_prop_expr (spanned lm (lo_of startn (startp ∷ (startl ++ slashes w))) n.1) (super (first lm inner (on starto startn (startp ∷ (startl ++ slashes w))))) (ident_name (first lm inner (on o p.spot.hi ((z ++ slashes w)))) n.0), n.1))) l (any_none w o p.spot.hi _ _) (λ dp dq. any_on w o p.spot.hi dp dq _ _ (λ nv. twin_ok w _ _ o dp.spot.hi dq refl)))))

  pub import_by_twin : (c : Code) (o1 : List ℕ) (n : ℕ) (l : List PlacedToken) → Twins w (import_by lm inner c (on o1 n ((l ++ regexps w)))) (import_by lm inner c (on o1 n ((l ++ slashes w))))
  unfolding import_by
  import_by_twin c o1 n [] = word_none w c import_kind (refl, refl, refl) o1 n _ _
  import_by_twin c o1 n (p ∷ l) = word_on w c import_kind o1 n p l _ _ (cut w (λ z. Twins w (if at lm dot_kind (on o1 p.spot.hi ((z ++ regexps w))) then (eat_word lm c meta_kind (past lm (on o1 p.spot.hi ((z ++ regexps w)))) >>= λ t. Ok (meta_prop_expr (spanned lm (lo_of n (p ∷ (l ++ regexps w))) t) import_kind, t)) else (eat lm left_paren_kind (on o1 p.spot.hi ((z ++ regexps w))) >>= λ o. elements_by lm inner c false right_paren_kind o >>= λ xs. if fits_import lm inner c xs.0 then Ok (call_expr (spanned lm (lo_of n (p ∷ (l ++ regexps w))) xs.1) (import (first lm inner (on o1 n (p ∷ (l ++ regexps w))))) (pack xs.0.items), xs.1) else unexpected lm xs.1)) (if at lm dot_kind (on o1 p.spot.hi ((z ++ slashes w))) then (eat_word lm c meta_kind (past lm (on o1 p.spot.hi ((z ++ slashes w)))) >>= λ t. Ok (meta_prop_expr (spanned lm (lo_of n (p ∷ (l ++ slashes w))) t) import_kind, t)) else (eat lm left_paren_kind (on o1 p.spot.hi ((z ++ slashes w))) >>= λ o. elements_by lm inner c false right_paren_kind o >>= λ xs. if fits_import lm inner c xs.0 then Ok (call_expr (spanned lm (lo_of n (p ∷ (l ++ slashes w))) xs.1) (import (first lm inner (on o1 n (p ∷ (l ++ slashes w))))) (pack xs.0.items), xs.1) else unexpected lm xs.1))) l (twin_no w (at lm dot_kind (on o1 p.spot.hi (slashes w))) (parted w (λ z. at lm dot_kind (on o1 p.spot.hi z)) refl refl) _ _ _ (eat_none w left_paren_kind (refl, refl, refl) o1 p.spot.hi _ _)) (λ rp rq. twin_if w (at lm dot_kind (on o1 p.spot.hi (rp ∷ (rq ++ regexps w)))) (at lm dot_kind (on o1 p.spot.hi (rp ∷ (rq ++ slashes w)))) refl _ _ _ _ (λ yes. word_at w c meta_kind (refl, refl, refl) o1 rp.spot.hi rq _ _ (λ tn tl. twin_ok w _ _ o1 tn tl refl)) (λ no. eat_on w left_paren_kind o1 p.spot.hi rp rq _ _ (twin_then w _ _ _ _ (elements_by_twin c false right_paren_kind (refl, refl, refl) o1 rp.spot.hi rq) (λ xsv xso xsn xsl. twin_if w (fits_import lm inner c xsv) (fits_import lm inner c xsv) refl _ _ _ _ (λ yes. twin_ok w _ _ xso xsn xsl refl) (λ no. never w _ _))))))

  pub unary_by_twin : (c : Code) (o : List ℕ) (n : ℕ) (p : PlacedToken) (l : List PlacedToken) → Twins w (unary_by lm inner c (on o n (p ∷ (l ++ regexps w)))) (unary_by lm inner c (on o n (p ∷ (l ++ slashes w))))
  unfolding unary_by
  unary_by_twin c o n p l = word_on w c (kind (input lm (on o n (p ∷ (l ++ regexps w))))) o n p l _ _ (twin_then w _ _ _ _ (told.expr c unary_level o p.spot.hi l) (λ ev eo en el. twin_ok w _ _ eo en el refl))

  pub update_by_twin : (c : Code) (o : List ℕ) (n : ℕ) (p : PlacedToken) (l : List PlacedToken) → Twins w (update_by lm inner c (on o n (p ∷ (l ++ regexps w)))) (update_by lm inner c (on o n (p ∷ (l ++ slashes w))))
  unfolding update_by
  update_by_twin c o n p l = twin_then w _ _ _ _ (told.expr c unary_level o p.spot.hi l) (λ ev eo en el. twin_ok w _ _ eo en el refl)

  pub await_by_twin : (c : Code) (o : List ℕ) (n : ℕ) (l : List PlacedToken) → Twins w (await_by lm inner c (on o n ((l ++ regexps w)))) (await_by lm inner c (on o n ((l ++ slashes w))))
  unfolding await_by
  await_by_twin c o n [] = word_none w c await_kind (refl, refl, refl) o n _ _
  await_by_twin c o n (p ∷ l) = word_on w c await_kind o n p l _ _ (twin_then w _ _ _ _ (told.expr c unary_level o p.spot.hi l) (λ ev eo en el. twin_ok w _ _ eo en el refl))

  pub yield_end_twin : (c : Code) (so : List ℕ) (sn : ℕ) (sl : List PlacedToken) (o : List ℕ) (n : ℕ) (l : List PlacedToken) → Twins w (yield_end lm inner c (lo_of sn (sl ++ regexps w)) (on o n ((l ++ regexps w)))) (yield_end lm inner c (lo_of sn (sl ++ slashes w)) (on o n ((l ++ slashes w))))
  unfolding yield_end
  yield_end_twin c so sn sl o n [] = twin_if w (brk (input lm (on o n (regexps w))) || ends_yield lm inner (kind (input lm (on o n (regexps w))))) (brk (input lm (on o n (slashes w))) || ends_yield lm inner (kind (input lm (on o n (slashes w))))) (parted w (λ z. brk (input lm (on o n z)) || ends_yield lm inner (kind (input lm (on o n z)))) refl refl) _ _ _ _ (λ yes. twin_ok w _ _ o n [] (ap (λ (z : ℕ). yield_expr (span z n) absent false) (lo_same w so sn sl))) (λ no. twin_no w (at lm mul_kind (on o n (slashes w))) (parted w (λ z. at lm mul_kind (on o n z)) refl refl) _ _ _ (twin_then w _ _ _ _ (told.expr c assignment_level o n []) (λ ev eo en el. twin_ok w _ _ eo en el (ap (λ (z : ℕ). yield_expr (span z en) ev false) (lo_same w so sn sl)))))
  yield_end_twin c so sn sl o n (p ∷ l) = twin_if w (brk (input lm (on o n (p ∷ (l ++ regexps w)))) || ends_yield lm inner (kind (input lm (on o n (p ∷ (l ++ regexps w)))))) (brk (input lm (on o n (p ∷ (l ++ slashes w)))) || ends_yield lm inner (kind (input lm (on o n (p ∷ (l ++ slashes w)))))) refl _ _ _ _ (λ yes. twin_ok w _ _ o n (p ∷ l) (ap (λ (z : ℕ). yield_expr (span z n) absent false) (lo_same w so sn sl))) (λ no. twin_if w (at lm mul_kind (on o n (p ∷ (l ++ regexps w)))) (at lm mul_kind (on o n (p ∷ (l ++ slashes w)))) refl _ _ _ _ (λ yes. twin_then w _ _ _ _ (told.expr c assignment_level o p.spot.hi l) (λ ev eo en el. twin_ok w _ _ eo en el (ap (λ (z : ℕ). yield_expr (span z en) ev true) (lo_same w so sn sl)))) (λ no. twin_then w _ _ _ _ (told.expr c assignment_level o n (p ∷ l)) (λ ev eo en el. twin_ok w _ _ eo en el (ap (λ (z : ℕ). yield_expr (span z en) ev false) (lo_same w so sn sl)))))

  pub yield_by_twin : (c : Code) (o : List ℕ) (n : ℕ) (l : List PlacedToken) → Twins w (yield_by lm inner c (on o n ((l ++ regexps w)))) (yield_by lm inner c (on o n ((l ++ slashes w))))
  unfolding yield_by
  yield_by_twin c o n l = word_at w c yield_kind (refl, refl, refl) o n l _ _ (λ rn rl. yield_end_twin c o n l o rn rl)

  pub word_by_twin : (c : Code) (v : ℕ) (o : List ℕ) (n1 : ℕ) (l : List PlacedToken) → Twins w (word_by lm inner c v (on o n1 ((l ++ regexps w)))) (word_by lm inner c v (on o n1 ((l ++ slashes w))))
  unfolding word_by
  word_by_twin c v o n1 [] = twin_no w (at lm async_kind (on o n1 (slashes w))) (parted w (λ z. at lm async_kind (on o n1 z)) refl refl) _ _ _ (name_none w c o n1 _ _)
  word_by_twin c v o n1 (p ∷ l) = twin_if w (at lm async_kind (on o n1 (p ∷ (l ++ regexps w)))) (at lm async_kind (on o n1 (p ∷ (l ++ slashes w)))) refl _ _ _ _ (λ yes. async_by_twin c v o n1 p l) (λ no. name_on w c o n1 p l _ _ (λ nv. ident_end_twin c v o n1 p l nv o p.spot.hi l))

  pub fixed_twin : (c : Code) (f : Span → Tree) (o : List ℕ) (n : ℕ) (p : PlacedToken) (l : List PlacedToken) → Twins w (fixed lm inner c f (on o n (p ∷ (l ++ regexps w)))) (fixed lm inner c f (on o n (p ∷ (l ++ slashes w))))
  fixed_twin c f o n p l = word_on w c (kind (input lm (on o n (p ∷ (l ++ regexps w))))) o n p l _ _ (twin_ok w _ _ o p.spot.hi l refl)

  pub keyword_by_twin : (c : Code) (v : ℕ) (o : List ℕ) (n : ℕ) (l : List PlacedToken) → Twins w (keyword_by lm inner c v (on o n ((l ++ regexps w)))) (keyword_by lm inner c v (on o n ((l ++ slashes w))))
  unfolding keyword_by
  keyword_by_twin c v o n [] = twin_no w (at lm this_kind (on o n (slashes w))) (parted w (λ z. at lm this_kind (on o n z)) refl refl) _ _ _ (twin_no w (at lm null_kind (on o n (slashes w))) (parted w (λ z. at lm null_kind (on o n z)) refl refl) _ _ _ (twin_no w (at lm true_kind (on o n (slashes w))) (parted w (λ z. at lm true_kind (on o n z)) refl refl) _ _ _ (twin_no w (at lm false_kind (on o n (slashes w))) (parted w (λ z. at lm false_kind (on o n z)) refl refl) _ _ _ (twin_no w (at lm function_kind (on o n (slashes w))) (parted w (λ z. at lm function_kind (on o n z)) refl refl) _ _ _ (twin_no w (at lm class_kind (on o n (slashes w))) (parted w (λ z. at lm class_kind (on o n z)) refl refl) _ _ _ (twin_no w (at lm new_kind (on o n (slashes w))) (parted w (λ z. at lm new_kind (on o n z)) refl refl) _ _ _ (twin_no w (at lm super_kind (on o n (slashes w))) (parted w (λ z. at lm super_kind (on o n z)) refl refl) _ _ _ (twin_no w (at lm import_kind (on o n (slashes w))) (parted w (λ z. at lm import_kind (on o n z)) refl refl) _ _ _ (twin_no w (is_unary (kind (input lm (on o n (slashes w))))) (parted w (λ z. is_unary (kind (input lm (on o n z)))) refl refl) _ _ _ (twin_no w (at lm await_kind (on o n (slashes w)) && c.context.in_async) (parted w (λ z. at lm await_kind (on o n z) && c.context.in_async) refl refl) _ _ _ (twin_no w (at lm yield_kind (on o n (slashes w)) && c.context.in_generator) (parted w (λ z. at lm yield_kind (on o n z) && c.context.in_generator) refl refl) _ _ _ (word_by_twin c v o n []))))))))))))
  keyword_by_twin c v o n (p1 ∷ l) = twin_if w (at lm this_kind (on o n (p1 ∷ (l ++ regexps w)))) (at lm this_kind (on o n (p1 ∷ (l ++ slashes w)))) refl _ _ _ _ (λ yes. fixed_twin c this_expr o n p1 l) (λ no. twin_if w (at lm null_kind (on o n (p1 ∷ (l ++ regexps w)))) (at lm null_kind (on o n (p1 ∷ (l ++ slashes w)))) refl _ _ _ _ (λ yes. fixed_twin c null_lit o n p1 l) (λ no. twin_if w (at lm true_kind (on o n (p1 ∷ (l ++ regexps w)))) (at lm true_kind (on o n (p1 ∷ (l ++ slashes w)))) refl _ _ _ _ (λ yes. fixed_twin c (λ p. bool_lit p true) o n p1 l) (λ no. twin_if w (at lm false_kind (on o n (p1 ∷ (l ++ regexps w)))) (at lm false_kind (on o n (p1 ∷ (l ++ slashes w)))) refl _ _ _ _ (λ yes. fixed_twin c (λ p. bool_lit p false) o n p1 l) (λ no. twin_if w (at lm function_kind (on o n (p1 ∷ (l ++ regexps w)))) (at lm function_kind (on o n (p1 ∷ (l ++ slashes w)))) refl _ _ _ _ (λ yes. function_expr_by_twin c o n p1 l false o n (p1 ∷ l)) (λ no. twin_if w (at lm class_kind (on o n (p1 ∷ (l ++ regexps w)))) (at lm class_kind (on o n (p1 ∷ (l ++ slashes w)))) refl _ _ _ _ (λ yes. class_expr_by_twin c o n (p1 ∷ l)) (λ no. twin_if w (at lm new_kind (on o n (p1 ∷ (l ++ regexps w)))) (at lm new_kind (on o n (p1 ∷ (l ++ slashes w)))) refl _ _ _ _ (λ yes. new_by_twin c o n (p1 ∷ l)) (λ no. twin_if w (at lm super_kind (on o n (p1 ∷ (l ++ regexps w)))) (at lm super_kind (on o n (p1 ∷ (l ++ slashes w)))) refl _ _ _ _ (λ yes. word_on w c super_kind o n p1 l _ _ (super_end_twin c o n p1 l o p1.spot.hi l)) (λ no. twin_if w (at lm import_kind (on o n (p1 ∷ (l ++ regexps w)))) (at lm import_kind (on o n (p1 ∷ (l ++ slashes w)))) refl _ _ _ _ (λ yes. import_by_twin c o n (p1 ∷ l)) (λ no. twin_if w (is_unary (kind (input lm (on o n (p1 ∷ (l ++ regexps w)))))) (is_unary (kind (input lm (on o n (p1 ∷ (l ++ slashes w)))))) refl _ _ _ _ (λ yes. unary_by_twin c o n p1 l) (λ no. twin_if w (at lm await_kind (on o n (p1 ∷ (l ++ regexps w))) && c.context.in_async) (at lm await_kind (on o n (p1 ∷ (l ++ slashes w))) && c.context.in_async) refl _ _ _ _ (λ yes. await_by_twin c o n (p1 ∷ l)) (λ no. twin_if w (at lm yield_kind (on o n (p1 ∷ (l ++ regexps w))) && c.context.in_generator) (at lm yield_kind (on o n (p1 ∷ (l ++ slashes w))) && c.context.in_generator) refl _ _ _ _ (λ yes. yield_by_twin c o n (p1 ∷ l)) (λ no. word_by_twin c v o n (p1 ∷ l)))))))))))))

  pub prefix_by_twin : (c : Code) (v : ℕ) (o : List ℕ) (n : ℕ) (l : List PlacedToken) → Twins w (prefix_by lm inner c v (on o n ((l ++ regexps w)))) (prefix_by lm inner c v (on o n ((l ++ slashes w))))
  unfolding prefix_by
  prefix_by_twin c v o n [] = twin_no w (is_word (kind (input lm (on o n (slashes w))))) (parted w (λ z. is_word (kind (input lm (on o n z)))) refl refl) _ _ _ (twin_no w (at lm left_paren_kind (on o n (slashes w))) (parted w (λ z. at lm left_paren_kind (on o n z)) refl refl) _ _ _ (twin_no w (at lm left_bracket_kind (on o n (slashes w))) (parted w (λ z. at lm left_bracket_kind (on o n z)) refl refl) _ _ _ (twin_no w (at lm left_brace_kind (on o n (slashes w))) (parted w (λ z. at lm left_brace_kind (on o n z)) refl refl) _ _ _ (twin_no w (at lm back_quote_kind (on o n (slashes w))) (parted w (λ z. at lm back_quote_kind (on o n z)) refl refl) _ _ _ (twin_no w (is_unary (kind (input lm (on o n (slashes w))))) (parted w (λ z. is_unary (kind (input lm (on o n z)))) refl refl) _ _ _ (twin_no w (between plus_plus_kind minus_minus_kind (kind (input lm (on o n (slashes w))))) (parted w (λ z. between plus_plus_kind minus_minus_kind (kind (input lm (on o n z)))) refl refl) _ _ _ (literal_by_twin o n [])))))))
  prefix_by_twin c v o n (p ∷ l) = twin_if w (is_word (kind (input lm (on o n (p ∷ (l ++ regexps w)))))) (is_word (kind (input lm (on o n (p ∷ (l ++ slashes w)))))) refl _ _ _ _ (λ yes. keyword_by_twin c v o n (p ∷ l)) (λ no. twin_if w (at lm left_paren_kind (on o n (p ∷ (l ++ regexps w)))) (at lm left_paren_kind (on o n (p ∷ (l ++ slashes w)))) refl _ _ _ _ (λ yes. group_by_twin c v o n p l) (λ no. twin_if w (at lm left_bracket_kind (on o n (p ∷ (l ++ regexps w)))) (at lm left_bracket_kind (on o n (p ∷ (l ++ slashes w)))) refl _ _ _ _ (λ yes. array_by_twin c o n p l) (λ no. twin_if w (at lm left_brace_kind (on o n (p ∷ (l ++ regexps w)))) (at lm left_brace_kind (on o n (p ∷ (l ++ slashes w)))) refl _ _ _ _ (λ yes. object_by_twin c o n p l) (λ no. twin_if w (at lm back_quote_kind (on o n (p ∷ (l ++ regexps w)))) (at lm back_quote_kind (on o n (p ∷ (l ++ slashes w)))) refl _ _ _ _ (λ yes. template_by_twin c false o n p l) (λ no. twin_if w (is_unary (kind (input lm (on o n (p ∷ (l ++ regexps w)))))) (is_unary (kind (input lm (on o n (p ∷ (l ++ slashes w)))))) refl _ _ _ _ (λ yes. unary_by_twin c o n p l) (λ no. twin_if w (between plus_plus_kind minus_minus_kind (kind (input lm (on o n (p ∷ (l ++ regexps w)))))) (between plus_plus_kind minus_minus_kind (kind (input lm (on o n (p ∷ (l ++ slashes w)))))) refl _ _ _ _ (λ yes. update_by_twin c o n p l) (λ no. literal_by_twin o n (p ∷ l))))))))

  pub member_name_twin : (may_private : Bool) (o : List ℕ) (n1 : ℕ) (l : List PlacedToken) → Twins w (member_name lm inner may_private (on o n1 ((l ++ regexps w)))) (member_name lm inner may_private (on o n1 ((l ++ slashes w))))
  unfolding member_name
  member_name_twin may_private o n1 [] = twin_no w (at lm hash_kind (on o n1 (slashes w))) (parted w (λ z. at lm hash_kind (on o n1 z)) refl refl) _ _ _ (any_none w o n1 _ _)
  member_name_twin may_private o n1 (p ∷ l) = twin_if w (at lm hash_kind (on o n1 (p ∷ (l ++ regexps w)))) (at lm hash_kind (on o n1 (p ∷ (l ++ slashes w)))) refl _ _ _ _ (λ yes. twin_if w (may_private) (may_private) refl _ _ _ _ (λ yes. private_by_twin o n1 (p ∷ l)) (λ no. never w _ _)) (λ no. any_on w o n1 p l _ _ (λ nv. twin_ok w _ _ o p.spot.hi l refl))

  pub member_by_twin : (c : Code) (starto : List ℕ) (startn : ℕ) (startl : List PlacedToken) (t : Tree) (o : List ℕ) (n : ℕ) (p : PlacedToken) (l : List PlacedToken) → Twins w (member_by lm inner c (lo_of startn (startl ++ regexps w)) t (on o n (p ∷ (l ++ regexps w)))) (member_by lm inner c (lo_of startn (startl ++ slashes w)) t (on o n (p ∷ (l ++ slashes w))))
  unfolding member_by
  member_by_twin c starto startn startl t o n p l = twin_then w _ _ _ _ (member_name_twin true o p.spot.hi l) (λ kv ko kn kl. twin_ok w _ _ ko kn kl (ap (λ (z : ℕ). on_chain lm inner (is_chain t) (span z kn) (member_expr (span z kn) t kv)) (lo_same w starto startn startl)))

  pub index_by_twin : (c : Code) (starto : List ℕ) (startn : ℕ) (startl : List PlacedToken) (t : Tree) (o : List ℕ) (n : ℕ) (p : PlacedToken) (l : List PlacedToken) → Twins w (index_by lm inner c (lo_of startn (startl ++ regexps w)) t (on o n (p ∷ (l ++ regexps w)))) (index_by lm inner c (lo_of startn (startl ++ slashes w)) t (on o n (p ∷ (l ++ slashes w))))
  unfolding index_by
  index_by_twin c starto startn startl t o n p l = twin_then w _ _ _ _ (computed_by_twin c expression_level o n p l) (λ kv ko kn kl. twin_ok w _ _ ko kn kl (ap (λ (z : ℕ). on_chain lm inner (is_chain t) (span z kn) (member_expr (span z kn) t kv)) (lo_same w starto startn startl)))

  pub call_by_twin : (c : Code) (starto : List ℕ) (startn : ℕ) (startl : List PlacedToken) (t : Tree) (o : List ℕ) (n : ℕ) (p : PlacedToken) (l : List PlacedToken) → Twins w (call_by lm inner c (lo_of startn (startl ++ regexps w)) t (on o n (p ∷ (l ++ regexps w)))) (call_by lm inner c (lo_of startn (startl ++ slashes w)) t (on o n (p ∷ (l ++ slashes w))))
  unfolding call_by
  call_by_twin c starto startn startl t o n p l = twin_then w _ _ _ _ (arguments_by_twin c o p.spot.hi l) (λ xsv xso xsn xsl. twin_ok w _ _ xso xsn xsl (ap (λ (z : ℕ). call_tree lm inner (span z xsn) t xsv) (lo_same w starto startn startl)))

  pub chain_by_twin : (c : Code) (starto : List ℕ) (startn : ℕ) (startl : List PlacedToken) (t : Tree) (o : List ℕ) (n : ℕ) (l : List PlacedToken) → Twins w (chain_by lm inner c (lo_of startn (startl ++ regexps w)) t (on o n ((l ++ regexps w)))) (chain_by lm inner c (lo_of startn (startl ++ slashes w)) t (on o n ((l ++ slashes w))))
  unfolding chain_by
  chain_by_twin c starto startn startl t o n [] = twin_no w (at lm left_paren_kind (on o n (slashes w))) (parted w (λ z. at lm left_paren_kind (on o n z)) refl refl) _ _ _ (twin_no w (at lm left_bracket_kind (on o n (slashes w))) (parted w (λ z. at lm left_bracket_kind (on o n z)) refl refl) _ _ _ (twin_then w _ _ _ _ (member_name_twin true o n []) (λ kv ko kn kl. twin_ok w _ _ ko kn kl (ap (λ (z : ℕ). opt_chain_expr (span z kn) true (member_expr (span z kn) t kv)) (lo_same w starto startn startl)))))
  chain_by_twin c starto startn startl t o n (p ∷ l) = twin_if w (at lm left_paren_kind (on o n (p ∷ (l ++ regexps w)))) (at lm left_paren_kind (on o n (p ∷ (l ++ slashes w)))) refl _ _ _ _ (λ yes. twin_then w _ _ _ _ (arguments_by_twin c o p.spot.hi l) (λ xsv xso xsn xsl. twin_ok w _ _ xso xsn xsl (ap (λ (z : ℕ). opt_chain_expr (span z xsn) true (opt_call (span z xsn) t (pack xsv))) (lo_same w starto startn startl)))) (λ no. twin_if w (at lm left_bracket_kind (on o n (p ∷ (l ++ regexps w)))) (at lm left_bracket_kind (on o n (p ∷ (l ++ slashes w)))) refl _ _ _ _ (λ yes. twin_then w _ _ _ _ (computed_by_twin c expression_level o n p l) (λ kv ko kn kl. twin_ok w _ _ ko kn kl (ap (λ (z : ℕ). opt_chain_expr (span z kn) true (member_expr (span z kn) t kv)) (lo_same w starto startn startl)))) (λ no. twin_then w _ _ _ _ (member_name_twin true o n (p ∷ l)) (λ kv ko kn kl. twin_ok w _ _ ko kn kl (ap (λ (z : ℕ). opt_chain_expr (span z kn) true (member_expr (span z kn) t kv)) (lo_same w starto startn startl)))))

  pub cond_by_twin : (c : Code) (starto : List ℕ) (startn : ℕ) (startl : List PlacedToken) (t : Tree) (o : List ℕ) (n : ℕ) (p : PlacedToken) (l : List PlacedToken) → Twins w (cond_by lm inner c (lo_of startn (startl ++ regexps w)) t (on o n (p ∷ (l ++ regexps w)))) (cond_by lm inner c (lo_of startn (startl ++ slashes w)) t (on o n (p ∷ (l ++ slashes w))))
  unfolding cond_by
  cond_by_twin c starto startn startl t o n p l = twin_then w _ _ _ _ (told.expr (with_in c) assignment_level o p.spot.hi l) (λ av ao an al. eat_at w colon_kind (refl, refl, refl) ao an al _ _ (λ rn rl. twin_then w _ _ _ _ (told.expr c assignment_level ao rn rl) (λ bv bo bn bl. twin_ok w _ _ bo bn bl (ap (λ (z : ℕ). cond_expr (span z bn) t av bv) (lo_same w starto startn startl)))))

  pub assign_by_twin : (c : Code) (starto : List ℕ) (startn : ℕ) (startl : List PlacedToken) (t : Tree) (o : List ℕ) (n : ℕ) (p1 : PlacedToken) (l : List PlacedToken) → Twins w (assign_by lm inner c (lo_of startn (startl ++ regexps w)) t (on o n (p1 ∷ (l ++ regexps w)))) (assign_by lm inner c (lo_of startn (startl ++ slashes w)) t (on o n (p1 ∷ (l ++ slashes w))))
  unfolding assign_by
  assign_by_twin c starto startn startl t o n p1 l = twin_placed w _ _ _ _ _ (λ pv. twin_then w _ _ _ _ (told.expr c assignment_level o p1.spot.hi l) (λ ev eo en el. twin_ok w _ _ eo en el (ap (λ (z : ℕ). assign_expr (span z en) (kind (input lm (on o n (p1 ∷ (l ++ regexps w))))) pv ev) (lo_same w starto startn startl))))

  pub binary_by_twin : (c : Code) (starto : List ℕ) (startn : ℕ) (startl : List PlacedToken) (t : Tree) (o : List ℕ) (n : ℕ) (p : PlacedToken) (l : List PlacedToken) → Twins w (binary_by lm inner c (lo_of startn (startl ++ regexps w)) t (on o n (p ∷ (l ++ regexps w)))) (binary_by lm inner c (lo_of startn (startl ++ slashes w)) t (on o n (p ∷ (l ++ slashes w))))
  unfolding binary_by
  binary_by_twin c starto startn startl t o n p l = word_on w c (kind (input lm (on o n (p ∷ (l ++ regexps w))))) o n p l _ _ (twin_then w _ _ _ _ (told.expr c (right_level (kind (input lm (on o n (p ∷ (l ++ regexps w)))))) o p.spot.hi l) (λ ev eo en el. twin_ok w _ _ eo en el (ap (λ (z : ℕ). bin_expr (span z en) (kind (input lm (on o n (p ∷ (l ++ regexps w))))) t ev) (lo_same w starto startn startl))))

  pub step_by_twin : (c : Code) (starto : List ℕ) (startn : ℕ) (startl : List PlacedToken) (t : Tree) (o : List ℕ) (n : ℕ) (p : PlacedToken) (l : List PlacedToken) → Twins w (step_by lm inner c (lo_of startn (startl ++ regexps w)) t (on o n (p ∷ (l ++ regexps w)))) (step_by lm inner c (lo_of startn (startl ++ slashes w)) t (on o n (p ∷ (l ++ slashes w))))
  unfolding step_by
  step_by_twin c starto startn startl t o n p [] = twin_if w (at lm comma_kind (on o n (p ∷ regexps w))) (at lm comma_kind (on o n (p ∷ slashes w))) refl _ _ _ _ (λ yes. twin_then w _ _ _ _ (told.expr c assignment_level o p.spot.hi []) (λ ev eo en el. twin_ok w _ _ eo en el (ap (λ (z : ℕ). extended t ev (span z en)) (lo_same w starto startn startl)))) (λ no. twin_if w (is_assign_op (kind (input lm (on o n (p ∷ regexps w))))) (is_assign_op (kind (input lm (on o n (p ∷ slashes w))))) refl _ _ _ _ (λ yes. assign_by_twin c starto startn startl t o n p []) (λ no. twin_if w (at lm question_mark_kind (on o n (p ∷ regexps w)) && (kind2 (input lm (on o n (p ∷ regexps w))) == dot_kind)) (at lm question_mark_kind (on o n (p ∷ slashes w)) && (kind2 (input lm (on o n (p ∷ slashes w))) == dot_kind)) (parted w (λ z. at lm question_mark_kind (on o n (p ∷ z)) && (kind2 (input lm (on o n (p ∷ z))) == dot_kind)) refl refl) _ _ _ _ (λ yes. absurd (not_and_false _ yes)) (λ no. twin_if w (at lm question_mark_kind (on o n (p ∷ regexps w))) (at lm question_mark_kind (on o n (p ∷ slashes w))) refl _ _ _ _ (λ yes. twin_if w (nat_le coalesce_level (level t)) (nat_le coalesce_level (level t)) refl _ _ _ _ (λ yes. cond_by_twin c starto startn startl t o n p []) (λ no. never w _ _)) (λ no. twin_if w (operates c (kind (input lm (on o n (p ∷ regexps w))))) (operates c (kind (input lm (on o n (p ∷ slashes w))))) refl _ _ _ _ (λ yes. twin_if w (fits_left (kind (input lm (on o n (p ∷ regexps w)))) t) (fits_left (kind (input lm (on o n (p ∷ slashes w)))) t) refl _ _ _ _ (λ yes. binary_by_twin c starto startn startl t o n p []) (λ no. never w _ _)) (λ no. twin_if w (between plus_plus_kind minus_minus_kind (kind (input lm (on o n (p ∷ regexps w))))) (between plus_plus_kind minus_minus_kind (kind (input lm (on o n (p ∷ slashes w))))) refl _ _ _ _ (λ yes. twin_if w (nat_le new_level (level t) && not (brk (input lm (on o n (p ∷ regexps w))))) (nat_le new_level (level t) && not (brk (input lm (on o n (p ∷ slashes w))))) refl _ _ _ _ (λ yes. twin_ok w _ _ o p.spot.hi [] (ap (λ (z : ℕ). update_expr (span z p.spot.hi) (kind (input lm (on o n (p ∷ regexps w)))) false t) (lo_same w starto startn startl))) (λ no. never w _ _)) (λ no. twin_if w (not (nat_le call_level (level t))) (not (nat_le call_level (level t))) refl _ _ _ _ (λ yes. never w _ _) (λ no. twin_if w (at lm left_paren_kind (on o n (p ∷ regexps w))) (at lm left_paren_kind (on o n (p ∷ slashes w))) refl _ _ _ _ (λ yes. call_by_twin c starto startn startl t o n p []) (λ no. twin_if w (at lm left_bracket_kind (on o n (p ∷ regexps w))) (at lm left_bracket_kind (on o n (p ∷ slashes w))) refl _ _ _ _ (λ yes. index_by_twin c starto startn startl t o n p []) (λ no. twin_if w (at lm dot_kind (on o n (p ∷ regexps w))) (at lm dot_kind (on o n (p ∷ slashes w))) refl _ _ _ _ (λ yes. member_by_twin c starto startn startl t o n p []) (λ no. twin_if w (at lm back_quote_kind (on o n (p ∷ regexps w)) && not (is_chain t)) (at lm back_quote_kind (on o n (p ∷ slashes w)) && not (is_chain t)) refl _ _ _ _ (λ yes. twin_then w _ _ _ _ (template_by_twin c true o n p []) (λ qv qo qn ql. twin_ok w _ _ qo qn ql (ap (λ (z : ℕ). tagged_tpl (span z qn) t qv) (lo_same w starto startn startl)))) (λ no. never w _ _)))))))))))
  step_by_twin c starto startn startl t o n p (p2 ∷ l) = twin_if w (at lm comma_kind (on o n (p ∷ p2 ∷ (l ++ regexps w)))) (at lm comma_kind (on o n (p ∷ p2 ∷ (l ++ slashes w)))) refl _ _ _ _ (λ yes. twin_then w _ _ _ _ (told.expr c assignment_level o p.spot.hi (p2 ∷ l)) (λ ev eo en el. twin_ok w _ _ eo en el (ap (λ (z : ℕ). extended t ev (span z en)) (lo_same w starto startn startl)))) (λ no. twin_if w (is_assign_op (kind (input lm (on o n (p ∷ p2 ∷ (l ++ regexps w)))))) (is_assign_op (kind (input lm (on o n (p ∷ p2 ∷ (l ++ slashes w)))))) refl _ _ _ _ (λ yes. assign_by_twin c starto startn startl t o n p (p2 ∷ l)) (λ no. twin_if w (at lm question_mark_kind (on o n (p ∷ p2 ∷ (l ++ regexps w))) && (kind2 (input lm (on o n (p ∷ p2 ∷ (l ++ regexps w)))) == dot_kind)) (at lm question_mark_kind (on o n (p ∷ p2 ∷ (l ++ slashes w))) && (kind2 (input lm (on o n (p ∷ p2 ∷ (l ++ slashes w)))) == dot_kind)) refl _ _ _ _ (λ yes. twin_if w (nat_le call_level (level t)) (nat_le call_level (level t)) refl _ _ _ _ (λ yes. chain_by_twin c starto startn startl t o p2.spot.hi l) (λ no. never w _ _)) (λ no. twin_if w (at lm question_mark_kind (on o n (p ∷ p2 ∷ (l ++ regexps w)))) (at lm question_mark_kind (on o n (p ∷ p2 ∷ (l ++ slashes w)))) refl _ _ _ _ (λ yes. twin_if w (nat_le coalesce_level (level t)) (nat_le coalesce_level (level t)) refl _ _ _ _ (λ yes. cond_by_twin c starto startn startl t o n p (p2 ∷ l)) (λ no. never w _ _)) (λ no. twin_if w (operates c (kind (input lm (on o n (p ∷ p2 ∷ (l ++ regexps w)))))) (operates c (kind (input lm (on o n (p ∷ p2 ∷ (l ++ slashes w)))))) refl _ _ _ _ (λ yes. twin_if w (fits_left (kind (input lm (on o n (p ∷ p2 ∷ (l ++ regexps w))))) t) (fits_left (kind (input lm (on o n (p ∷ p2 ∷ (l ++ slashes w))))) t) refl _ _ _ _ (λ yes. binary_by_twin c starto startn startl t o n p (p2 ∷ l)) (λ no. never w _ _)) (λ no. twin_if w (between plus_plus_kind minus_minus_kind (kind (input lm (on o n (p ∷ p2 ∷ (l ++ regexps w)))))) (between plus_plus_kind minus_minus_kind (kind (input lm (on o n (p ∷ p2 ∷ (l ++ slashes w)))))) refl _ _ _ _ (λ yes. twin_if w (nat_le new_level (level t) && not (brk (input lm (on o n (p ∷ p2 ∷ (l ++ regexps w)))))) (nat_le new_level (level t) && not (brk (input lm (on o n (p ∷ p2 ∷ (l ++ slashes w)))))) refl _ _ _ _ (λ yes. twin_ok w _ _ o p.spot.hi (p2 ∷ l) (ap (λ (z : ℕ). update_expr (span z p.spot.hi) (kind (input lm (on o n (p ∷ p2 ∷ (l ++ regexps w))))) false t) (lo_same w starto startn startl))) (λ no. never w _ _)) (λ no. twin_if w (not (nat_le call_level (level t))) (not (nat_le call_level (level t))) refl _ _ _ _ (λ yes. never w _ _) (λ no. twin_if w (at lm left_paren_kind (on o n (p ∷ p2 ∷ (l ++ regexps w)))) (at lm left_paren_kind (on o n (p ∷ p2 ∷ (l ++ slashes w)))) refl _ _ _ _ (λ yes. call_by_twin c starto startn startl t o n p (p2 ∷ l)) (λ no. twin_if w (at lm left_bracket_kind (on o n (p ∷ p2 ∷ (l ++ regexps w)))) (at lm left_bracket_kind (on o n (p ∷ p2 ∷ (l ++ slashes w)))) refl _ _ _ _ (λ yes. index_by_twin c starto startn startl t o n p (p2 ∷ l)) (λ no. twin_if w (at lm dot_kind (on o n (p ∷ p2 ∷ (l ++ regexps w)))) (at lm dot_kind (on o n (p ∷ p2 ∷ (l ++ slashes w)))) refl _ _ _ _ (λ yes. member_by_twin c starto startn startl t o n p (p2 ∷ l)) (λ no. twin_if w (at lm back_quote_kind (on o n (p ∷ p2 ∷ (l ++ regexps w))) && not (is_chain t)) (at lm back_quote_kind (on o n (p ∷ p2 ∷ (l ++ slashes w))) && not (is_chain t)) refl _ _ _ _ (λ yes. twin_then w _ _ _ _ (template_by_twin c true o n p (p2 ∷ l)) (λ qv qo qn ql. twin_ok w _ _ qo qn ql (ap (λ (z : ℕ). tagged_tpl (span z qn) t qv) (lo_same w starto startn startl)))) (λ no. never w _ _)))))))))))

  -- Where they part, nothing goes on with a regular expression.
  pub step_nil : {A : Type 0} (c : Code) (start : State Input) (t : Tree) (o : List ℕ) (n : ℕ) (f : Tree × State Input → Result (A × State Input) Fault) (y : Result (A × State Input) Fault) → Twins w (step_by lm inner c (lo (input lm start)) t (on o n (regexps w)) >>= f) y
  unfolding step_by
  step_nil c start t o n f y = by_level (nat_le call_level (level t))
    where
      by_level : (b : Bool) → Twins w (cond (not b) (unexpected lm (on o n (regexps w))) (unexpected lm (on o n (regexps w))) >>= f) y
      by_level true = never w _ _
      by_level false = never w _ _

  -- The loop stops before a regular expression where it stops before division; it stops there before an assignment too.
  stops : (t : Tree) (i j k : ℕ) (o : List ℕ) (n : ℕ) (x y : Result (Step Tree × State Input) Fault) → j ≤ i → ((v : Result (Step Tree × State Input) Fault) → Twins w x v)
      → Twins w (cond (nat_lt i k) (Ok (finished t, on o n (regexps w))) x) (cond (nat_lt j k) (Ok (finished t, on o n (slashes w))) y)
  stops t i j k o n x y h f = by_test (nat_lt i k) (nat_lt j k) (λ yes. lt-ltb j k (omega (arith, h, ltb-true i k yes)))
    where
      by_test : (b d : Bool) → (b ≡ true → d ≡ true) → Twins w (cond b (Ok (finished t, on o n (regexps w))) x) (cond d (Ok (finished t, on o n (slashes w))) y)
      by_test false d e = f _
      by_test true true e = twin_ok w _ _ o n [] refl
      by_test true false e = absurd (true≢false (sym (e refl)))

  abbrev goes_at : Bool → Bool → ℕ
  goes_at z true = cond z 0 assignment_level
  goes_at z false = cond z 0 (binary_level div_kind)

  lower : (z b : Bool) → goes_at z b ≤ goes_at z false
  lower true true = omega arith
  lower true false = omega arith
  lower false true = omega arith
  lower false false = omega arith

  by_sort : (c : Code) (e : ℕ) (o : List ℕ) (n : ℕ) (b : Bool) → goes_expr c e (input lm (on o n (slashes_by b w))) ≡ goes_at (nat_le closed_end e) b
  by_sort c e o n true = refl
  by_sort c e o n false = refl

  pub loop_step_twin : (c : Code) (k : ℕ) (starto : List ℕ) (startn : ℕ) (startl : List PlacedToken) (t : Tree) (o : List ℕ) (n : ℕ) (l : List PlacedToken) → Twins w (loop_step lm inner c k (lo_of startn (startl ++ regexps w)) t (on o n (l ++ regexps w))) (loop_step lm inner c k (lo_of startn (startl ++ slashes w)) t (on o n (l ++ slashes w)))
  unfolding loop_step
  loop_step_twin c k starto startn startl t o n [] = stops t (goes_at (nat_le closed_end (ends t)) false) (goes_expr c (ends t) (input lm (on o n (slashes w)))) k o n _ _
      (subst (λ (j : ℕ). j ≤ goes_at (nat_le closed_end (ends t)) false) (sym (by_sort c (ends t) o n w.assigns)) (lower (nat_le closed_end (ends t)) w.assigns)) (λ v. step_nil c (on starto startn (startl ++ regexps w)) t o n _ v)
  loop_step_twin c k starto startn startl t o n (p ∷ l) = twin_if w (nat_lt (goes_expr c (ends t) (input lm (on o n (p ∷ (l ++ regexps w))))) k) (nat_lt (goes_expr c (ends t) (input lm (on o n (p ∷ (l ++ slashes w))))) k) (same w (λ z. nat_lt (goes_expr c (ends t) (input lm (on o n (p ∷ z)))) k) refl refl (λ p. refl) (λ p. refl) (λ p q. refl) (λ p q. refl) (λ p q r l m n. refl) l) _ _ _ _
      (λ yes. twin_ok w _ _ o n (p ∷ l) refl) (λ yes. twin_then w _ _ _ _ (step_by_twin c starto startn startl t o n p l) (λ v xo xn xl. twin_ok w _ _ xo xn xl refl))

  pub loop_by_twin : (c : Code) (l : ℕ) (starto : List ℕ) (startn : ℕ) (startl : List PlacedToken) (t : Tree) (o : List ℕ) (n : ℕ) (l1 : List PlacedToken) → Twins w (loop_by lm inner c l (lo_of startn (startl ++ regexps w)) t (on o n ((l1 ++ regexps w)))) (loop_by lm inner c l (lo_of startn (startl ++ slashes w)) t (on o n ((l1 ++ slashes w))))
  unfolding loop_by
  loop_by_twin c l starto startn startl t o n l1 = twin_if w (nat_le l (level t)) (nat_le l (level t)) refl _ _ _ _ (λ yes. iterate_twin w _ _ (λ x xo xn xl. loop_step_twin c l starto startn startl x xo xn xl) t o n l1) (λ no. twin_if w ((level t == new_level) && (l == member_level)) ((level t == new_level) && (l == member_level)) refl _ _ _ _ (λ yes. twin_ok w _ _ o n l1 refl) (λ no. never w _ _))

  pub private_in_twin : (c : Code) (l : ℕ) (o : List ℕ) (n : ℕ) (l1 : List PlacedToken) → Twins w (private_in lm inner c l (on o n ((l1 ++ regexps w)))) (private_in lm inner c l (on o n ((l1 ++ slashes w))))
  unfolding private_in
  private_in_twin c l o n l1 = twin_then w _ _ _ _ (private_by_twin o n l1) (λ pv po pn pl. cut w (λ z. Twins w (if at lm in_kind (on po pn ((z ++ regexps w))) && (has_in c && nat_le l (binary_level in_kind)) then (binary_by lm inner c (lo_of n (l1 ++ regexps w)) pv (on po pn ((z ++ regexps w))) >>= λ t. loop_by lm inner c l (lo_of n (l1 ++ regexps w)) t.0 t.1) else unexpected lm (on po pn ((z ++ regexps w)))) (if at lm in_kind (on po pn ((z ++ slashes w))) && (has_in c && nat_le l (binary_level in_kind)) then (binary_by lm inner c (lo_of n (l1 ++ slashes w)) pv (on po pn ((z ++ slashes w))) >>= λ t. loop_by lm inner c l (lo_of n (l1 ++ slashes w)) t.0 t.1) else unexpected lm (on po pn ((z ++ slashes w))))) pl (never w _ _) (λ pp pq. twin_if w (at lm in_kind (on po pn (pp ∷ (pq ++ regexps w))) && (has_in c && nat_le l (binary_level in_kind))) (at lm in_kind (on po pn (pp ∷ (pq ++ slashes w))) && (has_in c && nat_le l (binary_level in_kind))) refl _ _ _ _ (λ yes. twin_then w _ _ _ _ (binary_by_twin c o n l1 pv po pn pp pq) (λ tv to tn tl. loop_by_twin c l o n l1 tv to tn tl)) (λ no. never w _ _)))

  pub expr_from_twin : (c : Code) (l : ℕ) (o : List ℕ) (n : ℕ) (l1 : List PlacedToken) → Twins w (expr_from lm inner c l (on o n ((l1 ++ regexps w)))) (expr_from lm inner c l (on o n ((l1 ++ slashes w))))
  unfolding expr_from
  expr_from_twin c l o n l1 = twin_if w (at lm hash_kind (on o n ((l1 ++ regexps w)))) (at lm hash_kind (on o n ((l1 ++ slashes w)))) (same w (λ z. at lm hash_kind (on o n z)) refl refl (λ p. refl) (λ p. refl) (λ p q. refl) (λ p q. refl) (λ p q r l m n. refl) l1) _ _ _ _ (λ yes. private_in_twin c l o n l1) (λ no. twin_then w _ _ _ _ (prefix_by_twin c l o n l1) (λ tv to tn tl. loop_by_twin c l o n l1 tv to tn tl))

  pub expr_by_twin : (c : Code) (l : ℕ) (o : List ℕ) (n : ℕ) (l1 : List PlacedToken) → Twins w (expr_by lm inner c l (on o n ((l1 ++ regexps w)))) (expr_by lm inner c l (on o n ((l1 ++ slashes w))))
  unfolding expr_by
  expr_by_twin c l o n l1 = expr_from_twin c l o n l1
