-- Expressions (ECMA-262, clause 13): what their rules read of a source is read of a list that it hands out.
use Rattle.std.proofs.Common.{◌≡◌, ◌⊎◌, ℕ, Bool, true, false, not, ◌&&◌, ◌||◌, ◌==◌, cond, eqb, nat_le, nat_lt, if◌then◌else◌, List, [], ◌∷◌, ◌++◌, Option, Some, None, Result, Ok, Err, codes, bytes_eq, inl, inr, refl, sym, ap, ap₂, ◌∙◌, subst, true≢false, arith, eqb-true}
use Rattle.base_proofs.proofs.Bools.{and_second, and_first}
use Rattle.base_token.specs.declared.place.Span.{Span}
use Rattle.base_token.specs.Kinds.{regex_kind, div_kind, div_assign_kind, arrow_kind, hash_kind, dot_kind, dot_dot_dot_kind, left_paren_kind, right_paren_kind, left_bracket_kind, right_bracket_kind, left_brace_kind, right_brace_kind, comma_kind, back_quote_kind, template_kind, colon_kind, dollar_brace_kind, question_mark_kind, mul_kind, assign_kind, null_kind, true_kind, false_kind, await_kind, function_kind, class_kind, new_kind, this_kind, super_kind, import_kind, yield_kind, in_kind, plus_plus_kind, minus_minus_kind, async_kind, meta_kind, target_kind, get_kind, set_kind}
use Rattle.base_token.specs.Tokens.{Content, Quoted, Pattern, Numeral, BigNumeral}
use Rattle.tree_spec.specs.Tree.{Tree, param, rest_pat, none, pack, ident_name, computed_prop_name, private_name, this_expr, array_lit, object_lit, fn_expr, unary_expr, update_expr, bin_expr, assign_expr, member_expr, super_prop_expr, cond_expr, call_expr, new_expr, ident, tpl, tagged_tpl, arrow_expr, class_expr, yield_expr, meta_prop_expr, await_expr, paren_expr, opt_chain_expr, opt_call, super, import, expr_or_spread, spread_element, key_value_prop, assign_prop, getter_prop, setter_prop, method_prop, bool_lit, null_lit, binding_ident, assign_pat, absent, list, unpack, seq_expr, hole}
use Rattle.grammar_spec.specs.Tokens.Input.{PlacedToken, Input, Code, kind, kind_of, content, content_of, lo, hi, text, is_word, barred, first_span, span, kind2, brk, dots_at, has_in, with_in, in_list, by, in_body, in_arrow, turned_strict}
use Rattle.grammar_spec.specs.Tokens.Shape.{level, ends, fits_left, is_chain, is_cooked, is_absent}
use Rattle.grammar_spec.specs.Tokens.Operators.{assignment_level, binary_level, goes_expr, closed_end, postfix_end, other_end, expression_level, coalesce_level, unary_level, new_level, call_level, member_level, right_level, is_assign_op, operates, between}
use Rattle.grammar_spec.specs.Reader.Source.{Fault, ◌>>=◌, placed, unexpected, Stream, State, input, past, operand, at, bound, spanned, eat, eat_word, is_name, name, Step, go_on, finished, iterate, Inner, Unexpected}
use Rattle.grammar_spec.specs.Reader.Expressions.{is_rest_param, pattern_of, quasi, Elements, Spans, literal, joined, extended, is_read, last_end, plain_elements, no_elements, is_unary, first, literal_by, element_by, after_element, element_step, elements_by, noted, array_by, computed_by, key_by, private_by, parameter_by, parameter_step, parameters_by, function_by, setter_parameter, is_accessor, is_async_head, star, method_prop_by, getter_by, setter_by, prop_rest, prop_by, prop_step, object_by, quasi_end, quasi_step, template_by, arrows_at, arrow_by, params_of, heads_params, group_end, group_by, ident_end, arguments_by, async_group, function_expr_name, function_expr_by, is_async_param, async_by, class_expr_by, new_end, callee_by, new_by, super_end, fits_import, import_by, unary_by, update_by, await_by, ends_yield, yield_end, yield_by, word_by, fixed, keyword_by, prefix_by, member_name, on_chain, member_by, index_by, call_tree, call_by, chain_by, cond_by, assign_by, binary_by, step_by, loop_step, loop_by, private_in, expr_from, expr_by}
use Rattle.grammar_spec.specs.Reader.Cover.{last_rests, to_target}
use Rattle.grammar_spec.specs.Tokens.Input.{no_name}
use Rattle.base_token.specs.Kinds.{error_kind}
use Rattle.parse_source_laws.specs.Sources.{is_slash}
use Rattle.parse_source_laws.proofs.Beside.{lm, on, Plain, same_rest, same_pattern, same_quasi}
use Rattle.parse_source_laws.specs.Ahead.{ends_async, last_async}
use Rattle.parse_source_laws.proofs.Pairs.{edge_by, edge, Keeps, is_param, Pairing, Paired}
use Rattle.grammar_spec.specs.Tokens.Shape.{is_block}
use Rattle.grammar_spec.specs.Tokens.Shape.{last_ends}
use Rattle.parse_source_laws.proofs.Backs.{closed, calm, back_closed, back_then_by, shut_keeps, same_keeps, Bides, bides_one, bides_weak, bides_test, bides_back, bides_stay, back_only, back_two, agrees_two, agrees_was_two, at_hand, shown_good, list_at, Here, Path, was, Took, Backed, Steps, join, stay, took_join, back_never, back_ok, back_weak, back_same, back_then, back_pure, back_test, step_all, step_test, live_past, token, took_token, back_past, back_noted, agrees, here_by, here_at, back_if, back_at, back_eat, back_word, back_own, back_name, back_any, back_again_of, back_iterate, lo_was, has_was, hi_was, first_was, kind_was, content_was, text_was, brk_was, at_was, past_is, back_took, agrees_plain, here_second, back_own_again, back_past_again, back_operand, Echoed}

module _ {S : Type 0} {m : Stream S} {Live : Pairing m} {modular : Bool} (w : Paired m Live modular) {il : Inner Input} {im : Inner S} (echo : Echoed m Live modular il im) where
  no_literal : (c : Content) (p : Span) → literal error_kind c p ≡ None
  no_literal (Quoted units raw) p = refl
  no_literal (Numeral value raw) p = refl
  no_literal (BigNumeral radix digits raw) p = refl
  no_literal (Pattern body flags) p = refl
  no_literal _ p = refl

  is_literal : Option Tree → Bool
  is_literal (Some t) = true
  is_literal None = false

  -- a literal is the token that comes
  literal_took : {E : Tree → ℕ} {e : ℕ} (s : State S) → Live.live s.source → (b : List PlacedToken → Bool) → ((p : PlacedToken) (l v : List PlacedToken) → b (p ∷ l) ≡ b (p ∷ v))
      → Backed m Live {A = Tree} E true e s (cond (b (m.seen s.source)) (unexpected m s) (literal_by m im s)) (λ r. cond (b r.source.places) (unexpected lm r) (literal_by lm il r))
  unfolding literal_by is_literal no_literal
  literal_took {E} {e} s l b f = by_test (b (m.seen s.source)) refl (found (m.seen s.source)) refl
    where
      found : List PlacedToken → Option Tree
      found z = literal (kind_of z) (content_of z) (first_span (record { last = m.last s.source; places = z }))

      answer : {T : Type 0} → ℕ → T → Option Tree → Result (Tree × T) Fault
      answer n z t = elim t [ None ↦ Err (Unexpected n) | Some t ↦ Ok (t, z) ]

      by_here : (t : Tree) → b (m.seen s.source) ≡ false → found (m.seen s.source) ≡ Some t → Here m Live s → Backed m Live {A = Tree} E true e s (Ok (t, past m s)) (λ r. cond (b r.source.places) (unexpected lm r) (literal_by lm il r))
      by_here t i e j = back_took w j t (λ r. cond (b r.source.places) (unexpected lm r) (literal_by lm il r)) (λ qs. let r = list_at m Live s (j.place ∷ qs) in
          ap (λ z. cond z (unexpected lm r) (literal_by lm il r)) (f j.place qs j.shown ∙ (ap b (sym j.seen) ∙ i)) ∙ ap (λ z. answer (bound lm r) (past lm r) z) (ap found (sym j.seen) ∙ e))

      by_test : (c : Bool) → b (m.seen s.source) ≡ c → (t : Option Tree) → found (m.seen s.source) ≡ t → Backed m Live {A = Tree} E true e s (cond c (unexpected m s) (answer (bound m s) (past m s) t)) (λ r. cond (b r.source.places) (unexpected lm r) (literal_by lm il r))
      by_test true i t e = back_never
      by_test false i None e = back_never
      by_test false i (Some t) e = by_here t i e (here_by w (λ z. is_literal (found z)) (refl, λ p v. ap is_literal (no_literal p.spot.token.content (span p.spot.lo p.spot.hi))) s l (ap is_literal e))

  pub literal_by_backed : {E : Tree → ℕ} {e : ℕ} (s : State S) (sl' : Live.live s.source) → Backed m Live E true e s (literal_by m im s) (λ r. literal_by lm il r)
  literal_by_backed s sl' = literal_took s sl' (λ z. false) (λ p l v. refl)

  pub element_by_backed : (s : State S) (c : Code) (ce : c.context.module_ ≡ modular) (sl' : Live.live s.source) → Backed m Live calm true closed_end s (element_by m im c s) (λ r'. element_by lm il c r')
  unfolding element_by
  element_by_backed s c ce sl' = back_at w {s = s} dot_dot_dot_kind (refl, refl, refl, refl) refl sl' _ _ _ _ (λ j1. back_past w {s = s} j1 _ (λ r' q'. (il.expr (with_in c) assignment_level q' >>= λ e. Ok (expr_or_spread (spanned lm (lo (input lm r')) e.1) (Some (first lm il r')) e.0, e.1))) (back_then _ _ _ _ (echo.expr (with_in c) ce assignment_level (past m s) (live_past w j1)) (λ e2a e2s e2u. back_ok {s = e2s} _ _ e2u.live (λ qs' h'. ap (λ (z' : ℕ). expr_or_spread ((span z' (m.last e2s.source))) (Some ((first lm il (was m Live (join (token w j1) e2u) (list_at m Live e2s qs'))))) e2a) (lo_was w (join (token w j1) e2u) qs' h') ∙ (ap (λ (z' : Span). expr_or_spread ((spanned m (lo (input m s)) e2s)) (Some (z')) e2a) (first_was w (join (token w j1) e2u) (took_join (token w j1) e2u (took_token w j1)) qs' h'))) ((λ i'. refl), (λ i'. refl))))) (back_then _ _ _ _ (echo.expr (with_in c) ce assignment_level s sl') (λ e4a e4s e4u. back_ok {s = e4s} _ _ e4u.live (λ qs' h'. ap (λ (z' : ℕ). expr_or_spread ((span z' (m.last e4s.source))) None e4a) (lo_was w e4u qs' h')) ((λ i'. refl), (λ i'. refl))))

  pub after_element_backed : {e' : ℕ} (s : State S) (close : ℕ) (shut : Plain close) (shutf : eqb error_kind close ≡ false) (items : List Tree) (sl' : Live.live s.source) → Backed m Live closed true e' s (after_element m im close items s) (λ r'. after_element lm il close items r')
  unfolding after_element
  after_element_backed s close shut shutf items sl' = back_at w {s = s} comma_kind (refl, refl, refl, refl) refl sl' _ _ _ _ (λ j1. back_past w {s = s} j1 _ (λ r' q'. Ok (go_on (record { items = items; comma = true }), q')) (back_ok {s = (past m s)} _ _ (live_past w j1) (λ qs' h'. refl) ((λ i'. absurd (true≢false i')), (λ i'. absurd (true≢false i'))))) (back_eat w {s = s} close shut shutf sl' _ _ (λ j2. back_ok {s = (past m s)} _ _ (live_past w j2) (λ qs' h'. refl) ((λ i'. absurd (true≢false i')), (λ i'. absurd (true≢false i')))))

  pub element_step_backed : (s : State S) (c : Code) (ce : c.context.module_ ≡ modular) (holes : Bool) (close : ℕ) (shut : Plain close) (shutf : eqb error_kind close ≡ false) (xs : Elements) (sl' : Live.live s.source) → Backed m Live closed true closed_end s (element_step m im c holes close xs s) (λ r'. element_step lm il c holes close xs r')
  unfolding element_step
  element_step_backed s c ce holes close shut shutf xs sl' = back_at w {s = s} close shut shutf sl' _ _ _ _ (λ j1. back_past w {s = s} j1 _ (λ r' q'. Ok (finished xs, q')) (back_ok {s = (past m s)} _ _ (live_past w j1) (λ qs' h'. refl) ((λ i'. absurd (true≢false i')), (λ i'. absurd (true≢false i'))))) (back_if w {s = s} (λ z'. holes && at lm comma_kind (on [] 0 z')) ((λ p' q' l' v'. refl), (λ p' q' l' v'. refl), (λ p' l' v'. refl)) sl' _ _ _ _ (λ y2. back_past w {s = s} (here_at w comma_kind (refl, refl, refl, refl) refl s sl' (and_second holes (at m comma_kind s) y2)) _ (λ r' q'. Ok (go_on (record { items = xs.items ++ hole ∷ []; comma = false }), q')) (back_ok {s = (past m s)} _ _ (live_past w (here_at w comma_kind (refl, refl, refl, refl) refl s sl' (and_second holes (at m comma_kind s) y2))) (λ qs' h'. refl) ((λ i'. absurd (true≢false i')), (λ i'. absurd (true≢false i'))))) (back_then _ _ _ _ (element_by_backed s c ce sl') (λ e3a e3s e3u. after_element_backed e3s close shut shutf (xs.items ++ e3a ∷ []) e3u.live)))

  pub elements_by_backed : (s : State S) (c : Code) (ce : c.context.module_ ≡ modular) (holes : Bool) (close : ℕ) (shut : Plain close) (shutf : eqb error_kind close ≡ false) (sl' : Live.live s.source) → Backed m Live closed true closed_end s (elements_by m im c holes close s) (λ r'. elements_by lm il c holes close r')
  unfolding elements_by
  elements_by_backed s c ce holes close shut shutf sl' = back_iterate w closed {s = s} true (λ r' x' q'. element_step lm il c holes close x' q') _ (λ x' t' u'. step_all (element_step_backed t' c ce holes close shut shutf x' u'.live)) no_elements sl'

  pub array_by_backed : {e' : ℕ} (s : State S) (c : Code) (ce : c.context.module_ ≡ modular) (j' : Here m Live s) → Backed m Live closed true e' s (array_by m im c s) (λ r'. array_by lm il c r')
  unfolding array_by
  array_by_backed s c ce j' = back_past w {s = s} j' _ (λ r' q'. (elements_by lm il c true right_bracket_kind q' >>= λ xs. Ok (array_lit (spanned lm (lo (input lm r')) xs.1) (pack xs.0.items), noted lm il (xs.0.comma && last_rests xs.0.items) (lo (input lm r')) xs.1))) (back_then _ _ _ _ (elements_by_backed (past m s) c ce true right_bracket_kind (refl, refl, refl, refl) refl (live_past w j')) (λ xs1a xs1s xs1u. back_noted {s = xs1s} ((xs1a.comma && last_rests xs1a.items)) (lo (input m s)) (λ r'. lo (input lm (was m Live (join (token w j') xs1u) r'))) _ _ xs1u.live (λ qs' h'. ap (λ (z' : ℕ). z') (lo_was w (join (token w j') xs1u) qs' h')) (λ qs' h'. ap (λ (z' : ℕ). array_lit ((span z' (m.last xs1s.source))) (pack xs1a.items)) (lo_was w (join (token w j') xs1u) qs' h')) ((λ i'. absurd (true≢false i')), (λ i'. absurd (true≢false i')))))

  pub computed_by_backed : {e' : ℕ} (s : State S) (c : Code) (ce : c.context.module_ ≡ modular) (l : ℕ) (j' : Here m Live s) → Backed m Live closed true e' s (computed_by m im c l s) (λ r'. computed_by lm il c l r')
  unfolding computed_by
  computed_by_backed s c ce l j' = back_past w {s = s} j' _ (λ r' q'. (il.expr (with_in c) l q' >>= λ e. (eat lm right_bracket_kind e.1 >>= λ r. Ok (computed_prop_name (spanned lm (lo (input lm r')) r) e.0, r)))) (back_then _ _ _ _ (echo.expr (with_in c) ce l (past m s) (live_past w j')) (λ e1a e1s e1u. back_eat w {s = e1s} right_bracket_kind (refl, refl, refl, refl) refl e1u.live _ _ (λ j3. back_ok {s = (past m e1s)} _ _ (live_past w j3) (λ qs' h'. ap (λ (z' : ℕ). computed_prop_name ((span z' (m.last (past m e1s).source))) e1a) (lo_was w (join (join (token w j') e1u) (token w j3)) qs' h')) ((λ i'. absurd (true≢false i')), (λ i'. absurd (true≢false i'))))))

  pub key_by_backed : {e' : ℕ} (s : State S) (c : Code) (ce : c.context.module_ ≡ modular) (sl' : Live.live s.source) → Backed m Live closed true e' s (key_by m im c s) (λ r'. key_by lm il c r')
  unfolding key_by
  key_by_backed s c ce sl' = back_at w {s = s} left_bracket_kind (refl, refl, refl, refl) refl sl' _ _ _ _ (λ j1. computed_by_backed s c ce assignment_level j1) (back_if w {s = s} (λ z'. is_word (kind (input lm (on [] 0 z')))) ((λ p' q' l' v'. refl), (λ p' q' l' v'. refl), (λ p' l' v'. refl)) sl' _ _ _ _ (λ y2. back_past w {s = s} (here_by w (λ z'. is_word (kind (input lm (on [] 0 z')))) (refl, λ p' v'. refl) s sl' y2) _ (λ r' q'. Ok (ident_name (first lm il r') (text (input lm r')), q')) (back_ok {s = (past m s)} _ _ (live_past w (here_by w (λ z'. is_word (kind (input lm (on [] 0 z')))) (refl, λ p' v'. refl) s sl' y2)) (λ qs' h'. ap (λ (z' : Span). ident_name (z') ((text (input lm (was m Live (token w (here_by w (λ z'. is_word (kind (input lm (on [] 0 z')))) (refl, λ p' v'. refl) s sl' y2)) (list_at m Live (past m s) qs')))))) (first_was w (token w (here_by w (λ z'. is_word (kind (input lm (on [] 0 z')))) (refl, λ p' v'. refl) s sl' y2)) (took_token w (here_by w (λ z'. is_word (kind (input lm (on [] 0 z')))) (refl, λ p' v'. refl) s sl' y2)) qs' h') ∙ (ap (λ (z' : List ℕ). ident_name ((first m im s)) (z')) (text_was w (token w (here_by w (λ z'. is_word (kind (input lm (on [] 0 z')))) (refl, λ p' v'. refl) s sl' y2)) (took_token w (here_by w (λ z'. is_word (kind (input lm (on [] 0 z')))) (refl, λ p' v'. refl) s sl' y2)) qs' h'))) ((λ i'. absurd (true≢false i')), (λ i'. absurd (true≢false i'))))) (literal_took s sl' (λ z'. eqb (kind_of z') regex_kind) (λ p' l' v'. refl)))

  pub private_by_backed : {e' : ℕ} (s : State S) (sl' : Live.live s.source) → Backed m Live closed true e' s (private_by m im s) (λ r'. private_by lm il r')
  unfolding private_by
  private_by_backed s sl' = back_eat w {s = s} hash_kind (refl, refl, refl, refl) refl sl' _ _ (λ j1. back_test (lo (input m (past m s)) == hi (input m s)) (λ r'. lo (input lm r') == hi (input lm (was m Live (token w j1) r'))) _ _ _ _ (λ qs' h'. ap (λ (z' : ℕ). z' == (hi (input lm (was m Live (token w j1) (list_at m Live (past m s) qs'))))) (lo_was w (stay {s = (past m s)} (live_past w j1)) qs' h') ∙ (ap (λ (z' : ℕ). (lo (input m (past m s))) == z') (hi_was w (token w j1) (took_token w j1) qs' h'))) (λ y2. back_any w {s = (past m s)} (live_past w j1) _ _ (λ n4 j3. back_ok {s = (past m (past m s))} _ _ (live_past w j3) (λ qs' h'. ap (λ (z' : ℕ). private_name ((span z' (m.last (past m (past m s)).source))) n4) (lo_was w (join (token w j1) (token w j3)) qs' h')) ((λ i'. absurd (true≢false i')), (λ i'. absurd (true≢false i'))))) (λ _. back_never))

  pub parameter_by_backed : (s : State S) (c : Code) (ce : c.context.module_ ≡ modular) (sl' : Live.live s.source) → Backed m Live calm true closed_end s (parameter_by m im c s) (λ r'. parameter_by lm il c r')
  unfolding parameter_by
  parameter_by_backed s c ce sl' = back_at w {s = s} dot_dot_dot_kind (refl, refl, refl, refl) refl sl' _ _ _ _ (λ j1. back_past w {s = s} j1 _ (λ r' q'. (il.pat (with_in c) q' >>= λ p. Ok (param (spanned lm (lo (input lm r')) p.1) none (rest_pat (spanned lm (lo (input lm r')) p.1) (dots_at (lo (input lm r'))) p.0), p.1))) (back_then _ _ _ _ (echo.pat (with_in c) ce (past m s) (live_past w j1)) (λ p2a p2s p2u. back_ok {s = p2s} _ _ p2u.live (λ qs' h'. ap (λ (z' : ℕ). param ((span z' (m.last p2s.source))) none (rest_pat ((span z' (m.last p2s.source))) (dots_at ((lo (input lm (was m Live (join (token w j1) p2u) (list_at m Live p2s qs')))))) p2a)) (lo_was w (join (token w j1) p2u) qs' h') ∙ (ap (λ (z' : ℕ). param ((spanned m (lo (input m s)) p2s)) none (rest_pat ((spanned m (lo (input m s)) p2s)) (dots_at (z')) p2a)) (lo_was w (join (token w j1) p2u) qs' h'))) ((λ i'. absurd (true≢false i')), (λ i'. absurd (true≢false i')))))) (back_then _ _ _ _ (echo.pat (with_in c) ce s sl') (λ p4a p4s p4u. back_at w {s = p4s} assign_kind (refl, refl, refl, refl) refl p4u.live _ _ _ _ (λ j6. back_weak _ (back_past w {s = p4s} j6 _ (λ r' q'. (il.expr (with_in c) assignment_level q' >>= λ e. Ok (param (spanned lm (lo (input lm (was m Live p4u r'))) e.1) none (assign_pat (spanned lm (lo (input lm (was m Live p4u r'))) e.1) p4a e.0), e.1))) (back_then _ _ _ _ (echo.expr (with_in c) ce assignment_level (past m p4s) (live_past w j6)) (λ e7a e7s e7u. back_ok {s = e7s} _ _ e7u.live (λ qs' h'. ap (λ (z' : ℕ). param ((span z' (m.last e7s.source))) none (assign_pat ((span z' (m.last e7s.source))) p4a e7a)) (lo_was w (join (join p4u (token w j6)) e7u) qs' h')) ((λ i'. refl), (λ i'. refl)))))) (back_ok {s = p4s} _ _ p4u.live (λ qs' h'. ap (λ (z' : ℕ). param ((span z' (m.last p4s.source))) none p4a) (lo_was w p4u qs' h')) ((λ i'. absurd (true≢false i')), (λ i'. absurd (true≢false i'))))))

  pub parameter_step_backed : (s : State S) (c : Code) (ce : c.context.module_ ≡ modular) (ps : List Tree) (sl' : Live.live s.source) → Backed m Live closed true closed_end s (parameter_step m im c ps s) (λ r'. parameter_step lm il c ps r')
  unfolding parameter_step
  parameter_step_backed s c ce ps sl' = back_at w {s = s} right_paren_kind (refl, refl, refl, refl) refl sl' _ _ _ _ (λ j1. back_past w {s = s} j1 _ (λ r' q'. Ok (finished ps, q')) (back_ok {s = (past m s)} _ _ (live_past w j1) (λ qs' h'. refl) ((λ i'. absurd (true≢false i')), (λ i'. absurd (true≢false i'))))) (back_then _ _ _ _ (parameter_by_backed s c ce sl') (λ p2a p2s p2u. back_test (at m comma_kind p2s && not (is_rest_param m im p2a)) (λ r'. at lm comma_kind r' && not (is_rest_param lm il p2a)) _ _ _ _ (λ qs' h'. ap (λ (z' : Bool). z' && not ((is_rest_param lm il p2a))) (at_was w comma_kind (refl, refl, refl, refl) (stay {s = p2s} p2u.live) qs' h') ∙ (ap (λ (z' : Bool). (at m comma_kind p2s) && not (z')) (same_rest m im il p2a))) (λ y4. back_past w {s = p2s} (here_at w comma_kind (refl, refl, refl, refl) refl p2s p2u.live (and_first _ _ y4)) _ (λ r' q'. Ok (go_on (ps ++ p2a ∷ []), q')) (back_ok {s = (past m p2s)} _ _ (live_past w (here_at w comma_kind (refl, refl, refl, refl) refl p2s p2u.live (and_first _ _ y4))) (λ qs' h'. refl) ((λ i'. absurd (true≢false i')), (λ i'. absurd (true≢false i'))))) (λ _. back_eat w {s = p2s} right_paren_kind (refl, refl, refl, refl) refl p2u.live _ _ (λ j5. back_ok {s = (past m p2s)} _ _ (live_past w j5) (λ qs' h'. refl) ((λ i'. absurd (true≢false i')), (λ i'. absurd (true≢false i')))))))

  pub parameters_by_backed : {e' : ℕ} (s : State S) (c : Code) (ce : c.context.module_ ≡ modular) (sl' : Live.live s.source) → Backed m Live closed true e' s (parameters_by m im c s) (λ r'. parameters_by lm il c r')
  unfolding parameters_by
  parameters_by_backed s c ce sl' = back_eat w {s = s} left_paren_kind (refl, refl, refl, refl) refl sl' _ _ (λ j1. back_iterate w closed {s = (past m s)} true (λ r' x' q'. parameter_step lm il c x' q') _ (λ x' t' u'. step_all (parameter_step_backed t' c ce x' u'.live)) ([]) (live_past w j1))

  pub function_by_backed : {e' : ℕ} (s : State S) (c : Code) (ce : c.context.module_ ≡ modular) (whole : ℕ) (generator : Bool) (async : Bool) (sl' : Live.live s.source) → Backed m Live closed true e' s (function_by m im c whole generator async s) (λ r'. function_by lm il c whole generator async r')
  unfolding function_by
  function_by_backed s c ce whole generator async sl' = back_then _ _ _ _ (parameters_by_backed s (in_body generator async c) ce sl') (λ ps1a ps1s ps1u. back_then _ _ _ _ (echo.body (in_body generator async c) ce ps1s ps1u.live) (λ b3a b3s b3u. back_ok {s = b3s} _ _ b3u.live (λ qs' h'. refl) ((λ i'. absurd (true≢false i')), (λ i'. absurd (true≢false i')))))

  pub setter_parameter_backed : {e' : ℕ} (s : State S) (c : Code) (ce : c.context.module_ ≡ modular) (sl' : Live.live s.source) → Backed m Live closed true e' s (setter_parameter m im c s) (λ r'. setter_parameter lm il c r')
  unfolding setter_parameter
  setter_parameter_backed s c ce sl' = back_eat w {s = s} left_paren_kind (refl, refl, refl, refl) refl sl' _ _ (λ j1. back_then _ _ _ _ (parameter_by_backed (past m s) c ce (live_past w j1)) (λ p2a p2s p2u. back_test (is_rest_param m im p2a) (λ r'. is_rest_param lm il p2a) _ _ _ _ (λ qs' h'. ap (λ (z' : Bool). z') (same_rest m im il p2a)) (λ y4. back_never) (λ _. back_eat w {s = p2s} right_paren_kind (refl, refl, refl, refl) refl p2u.live _ _ (λ j5. back_ok {s = (past m p2s)} _ _ (live_past w j5) (λ qs' h'. refl) ((λ i'. absurd (true≢false i')), (λ i'. absurd (true≢false i')))))))

  pub star_backed : (s : State S) (sl' : Live.live s.source) → Backed m Live closed false closed_end s (star m im s) (λ r'. star lm il r')
  unfolding star
  star_backed s sl' = back_at w {s = s} mul_kind (refl, refl, refl, refl) refl sl' _ _ _ _ (λ j1. back_weak _ (back_past w {s = s} j1 _ (λ r' q'. Ok (true, q')) (back_ok {s = (past m s)} _ _ (live_past w j1) (λ qs' h'. refl) ((λ i'. absurd (true≢false i')), (λ i'. absurd (true≢false i')))))) (back_ok {s = s} _ _ sl' (λ qs' h'. refl) ((λ i'. absurd (true≢false i')), (λ i'. absurd (true≢false i'))))

  pub method_prop_by_backed : {e' : ℕ} (s : State S) (c : Code) (ce : c.context.module_ ≡ modular) (whole : ℕ) (generator : Bool) (async : Bool) (sl' : Live.live s.source) → Backed m Live closed true e' s (method_prop_by m im c whole generator async s) (λ r'. method_prop_by lm il c whole generator async r')
  unfolding method_prop_by
  method_prop_by_backed s c ce whole generator async sl' = back_then _ _ _ _ (key_by_backed s c ce sl') (λ k1a k1s k1u. back_then _ _ _ _ (function_by_backed k1s c ce whole generator async k1u.live) (λ f3a f3s f3u. back_ok {s = f3s} _ _ f3u.live (λ qs' h'. refl) ((λ i'. absurd (true≢false i')), (λ i'. absurd (true≢false i')))))

  pub getter_by_backed : {e' : ℕ} (s : State S) (c : Code) (ce : c.context.module_ ≡ modular) (j' : Here m Live s) → Backed m Live closed true e' s (getter_by m im c s) (λ r'. getter_by lm il c r')
  unfolding getter_by
  getter_by_backed s c ce j' = back_past w {s = s} j' _ (λ r' q'. (key_by lm il c q' >>= λ k. (eat lm left_paren_kind k.1 >>= λ o. (eat lm right_paren_kind o >>= λ p. (il.body (in_body false false c) p >>= λ b. Ok (getter_prop (spanned lm (lo (input lm r')) b.1) k.0 b.0, b.1)))))) (back_then _ _ _ _ (key_by_backed (past m s) c ce (live_past w j')) (λ k1a k1s k1u. back_eat w {s = k1s} left_paren_kind (refl, refl, refl, refl) refl k1u.live _ _ (λ j3. back_eat w {s = (past m k1s)} right_paren_kind (refl, refl, refl, refl) refl (live_past w j3) _ _ (λ j4. back_then _ _ _ _ (echo.body (in_body false false c) ce (past m (past m k1s)) (live_past w j4)) (λ b5a b5s b5u. back_ok {s = b5s} _ _ b5u.live (λ qs' h'. ap (λ (z' : ℕ). getter_prop ((span z' (m.last b5s.source))) k1a b5a) (lo_was w (join (join (join (join (token w j') k1u) (token w j3)) (token w j4)) b5u) qs' h')) ((λ i'. absurd (true≢false i')), (λ i'. absurd (true≢false i'))))))))

  pub setter_by_backed : {e' : ℕ} (s : State S) (c : Code) (ce : c.context.module_ ≡ modular) (j' : Here m Live s) → Backed m Live closed true e' s (setter_by m im c s) (λ r'. setter_by lm il c r')
  unfolding setter_by
  setter_by_backed s c ce j' = back_past w {s = s} j' _ (λ r' q'. (key_by lm il c q' >>= λ k. (setter_parameter lm il (in_body false false c) k.1 >>= λ p. (il.body (in_body false false c) p.1 >>= λ b. Ok (setter_prop (spanned lm (lo (input lm r')) b.1) k.0 (pattern_of lm il p.0) b.0, b.1))))) (back_then _ _ _ _ (key_by_backed (past m s) c ce (live_past w j')) (λ k1a k1s k1u. back_then _ _ _ _ (setter_parameter_backed k1s (in_body false false c) ce k1u.live) (λ p3a p3s p3u. back_then _ _ _ _ (echo.body (in_body false false c) ce p3s p3u.live) (λ b5a b5s b5u. back_ok {s = b5s} _ _ b5u.live (λ qs' h'. ap (λ (z' : ℕ). setter_prop ((span z' (m.last b5s.source))) k1a ((pattern_of lm il p3a)) b5a) (lo_was w (join (join (join (token w j') k1u) p3u) b5u) qs' h') ∙ (ap (λ (z' : Tree). setter_prop ((spanned m (lo (input m s)) b5s)) k1a (z') b5a) (same_pattern m im il p3a))) ((λ i'. absurd (true≢false i')), (λ i'. absurd (true≢false i')))))))

  word_off : (M : List PlacedToken) → is_word (kind_of M) ≡ true → eqb (kind_of M) left_bracket_kind ≡ false
  word_off M e = by_test (eqb (kind_of M) left_bracket_kind) (λ i. eqb-true (kind_of M) left_bracket_kind i)
    where
      by_test : (b : Bool) → (b ≡ true → kind_of M ≡ left_bracket_kind) → b ≡ false
      by_test false f = refl
      by_test true f = absurd (true≢false (sym e ∙ ap (λ (k : ℕ). is_word k) (f refl)))

  -- a key that is a word
  pub key_word : {T : Type 0} (x : Stream T) (i : Inner T) (c : Code) (s : State T) → is_word (kind (input x s)) ≡ true → key_by x i c s ≡ Ok (ident_name (first x i s) (text (input x s)), past x s)
  unfolding key_by
  key_word x i c s e = ap (λ (b : Bool). cond b (computed_by x i c assignment_level s) (cond (is_word (kind (input x s))) (Ok (ident_name (first x i s) (text (input x s)), past x s)) (cond (at x regex_kind s) (unexpected x s) (literal_by x i s)))) (word_off (x.seen s.source) e)
      ∙ ap (λ (b : Bool). cond b (Ok (ident_name (first x i s) (text (input x s)), past x s)) (cond (at x regex_kind s) (unexpected x s) (literal_by x i s))) e

  -- what is no word is no name
  pub unnamed : {T : Type 0} (x : Stream T) (c : Code) (s : State T) → is_word (kind (input x s)) ≡ false → name x c s ≡ unexpected x s
  unfolding name
  unnamed x c s e = ap (λ (b : Bool). cond (b && (not (no_name c.context (kind (input x s))) && not (barred c.context (input x s)))) (Ok (text (input x s), past x s)) (unexpected x s)) e

  -- a key, and what follows it; or where it is a name, the name again
  pub key_then : {A : Type 0} {F : A → ℕ} {e : ℕ} (c : Code) (ce : c.context.module_ ≡ modular) (s : State S) → Live.live s.source → (g : Tree × State S → Result (A × State S) Fault) (f : State Input → Tree × State Input → Result (A × State Input) Fault)
      → ((j : Here m Live s) (a : Tree) → Backed m Live F false closed_end (past m s) (g (a, past m s)) (λ q. f (was m Live (token w j) q) (a, q)))
      → (is_word (kind (input m s)) ≡ false → (a : Tree) (t : State S) (u : Path m Live s t) → Backed m Live F false closed_end t (g (a, t)) (λ q. f (was m Live u q) (a, q)))
      → Backed m Live F true e s (key_by m im c s >>= g) (λ r. key_by lm il c r >>= f r)
  key_then {A} {F} {e} c ce s l g f h n = by_word (is_word (kind (input m s))) refl
    where
      named : (j : Here m Live s) → is_word (kind (input m s)) ≡ true → (a : Tree) → ident_name (first m im s) (text (input m s)) ≡ a → (y : Result (A × State S) Fault) → g (a, past m s) ≡ y → Backed m Live F true e s y (λ r. key_by lm il c r >>= f r)
      named j y1 a i (Err d) o = back_never
      named j y1 a i (Ok y) o = let k = subst (λ z. Backed m Live F false closed_end (past m s) z (λ q. f (was m Live (token w j) q) (a, q))) o (h j a) in record {
        so = (
          join (token w j) k.so.0,
          λ z. (omega arith, λ qs. j.fine),
          λ qs z z1. let q = list_at m Live (past m s) (k.so.0.back qs) in let r = list_at m Live s (j.place ∷ k.so.0.back qs) in (
            shown_good w j e (k.so.0.back qs) (k.so.0.hands qs z),
            ap (λ v. v >>= f r) (key_word lm il c r (ap (λ (v : List PlacedToken). is_word (kind_of v)) (sym j.seen) ∙ y1))
                ∙ (ap₂ (λ (v : Tree) (p : State Input). f r (v, p)) (ap₂ (λ (v : Span) (p : List ℕ). ident_name v p) (first_was w (token w j) (took_token w j) (k.so.0.back qs) (k.so.0.hands qs z)) (text_was w (token w j) (took_token w j) (k.so.0.back qs) (k.so.0.hands qs z)) ∙ i) (past_is w j (k.so.0.back qs))
                ∙ (k.so.2 qs z z1).1),
          ),
        );
      }

      by_word : (b : Bool) → is_word (kind (input m s)) ≡ b → Backed m Live F true e s (key_by m im c s >>= g) (λ r. key_by lm il c r >>= f r)
      by_word false y1 = back_then _ _ _ _ (key_by_backed s c ce l) (λ a t u. n y1 a t u)
      by_word true y1 = subst (λ z. Backed m Live F true e s (z >>= g) (λ r. key_by lm il c r >>= f r)) (sym (key_word m im c s y1))
          (named (here_by w (λ z. is_word (kind_of z)) (refl, λ p v. refl) s l y1) y1 _ refl (g (ident_name (first m im s) (text (input m s)), past m s)) refl)

  pub back_unnamed : {A : Type 0} {E : A → ℕ} {e : ℕ} {b : Bool} {t : State S} {y : State Input → Result (A × State Input) Fault} (n : ℕ) (c : Code) (s : State S) (g : List ℕ × State S → Result (A × State S) Fault) → is_word (kind (input m s)) ≡ false → Backed m Live E b e t (placed n (name m c s) >>= g) y
  back_unnamed {A} {E} {e} {b} {t} {y} n c s g i = subst (λ z. Backed m Live E b e t (placed n z >>= g) y) (sym (unnamed m c s i)) back_never

  -- a property after what may stand before it
  pub prop_key : {e : ℕ} (s : State S) (c : Code) (ce : c.context.module_ ≡ modular) (sl' : Live.live s.source) → Backed m Live calm true e s (key_by m im c s >>= λ k. prop_rest m im c s k.0 k.1) (λ r'. key_by lm il c r' >>= λ k. prop_rest lm il c r' k.0 k.1)
  unfolding prop_rest
  prop_key s c ce sl' = key_then c ce s sl' _ _ (λ j k. back_at w {s = (past m s)} colon_kind (refl, refl, refl, refl) refl (live_past w j) _ _ _ _ (λ j1. back_weak _ (back_past w {s = (past m s)} j1 _ (λ r' q'. (il.expr (with_in c) assignment_level q' >>= λ v. Ok (key_value_prop (spanned lm (lo (input lm (was m Live (token w j) r'))) v.1) k v.0, v.1))) (back_then _ _ _ _ (echo.expr (with_in c) ce assignment_level (past m (past m s)) (live_past w j1)) (λ v2a v2s v2u. back_ok {s = v2s} _ _ v2u.live (λ qs' h'. ap (λ (z' : ℕ). key_value_prop ((span z' (m.last v2s.source))) k v2a) (lo_was w (join (join (token w j) (token w j1)) v2u) qs' h')) ((λ i'. refl), (λ i'. refl)))))) (back_at w {s = (past m s)} left_paren_kind (refl, refl, refl, refl) refl (live_past w j) _ _ _ _ (λ j4. back_weak _ (back_then _ _ _ _ (back_same _ (λ r'. function_by lm il c ((lo (input m s))) false false r') (λ r'. function_by lm il c (lo (input lm (was m Live (token w j) r'))) false false r') (λ qs' h'. ap (λ (z' : ℕ). function_by lm il c (z') false false (list_at m Live (past m s) qs')) (lo_was w (token w j) qs' h')) (function_by_backed (past m s) c ce (lo (input m s)) false false (live_past w j))) (λ f5a f5s f5u. back_ok {s = f5s} _ _ f5u.live (λ qs' h'. ap (λ (z' : ℕ). method_prop ((span z' (m.last f5s.source))) k f5a) (lo_was w (join (token w j) f5u) qs' h')) ((λ i'. absurd (true≢false i')), (λ i'. absurd (true≢false i')))))) (back_again_of w {s = s} _ (λ q. bound lm q) c j _ _ (λ n7. back_at w {s = (past m s)} assign_kind (refl, refl, refl, refl) refl (live_past w j) _ _ _ _ (λ j8. back_weak _ (back_past w {s = (past m s)} j8 _ (λ r' q'. (il.expr (with_in c) assignment_level q' >>= λ e. Ok (assign_prop (spanned lm (lo (input lm (was m Live (token w j) r'))) e.1) (ident (first lm il (was m Live (token w j) r')) n7) e.0, e.1))) (back_then _ _ _ _ (echo.expr (with_in c) ce assignment_level (past m (past m s)) (live_past w j8)) (λ e9a e9s e9u. back_ok {s = e9s} _ _ e9u.live (λ qs' h'. ap (λ (z' : ℕ). assign_prop ((span z' (m.last e9s.source))) (ident ((first lm il (was m Live (join (join (token w j) (token w j8)) e9u) (list_at m Live e9s qs')))) n7) e9a) (lo_was w (join (join (token w j) (token w j8)) e9u) qs' h') ∙ (ap (λ (z' : Span). assign_prop ((spanned m (lo (input m s)) e9s)) (ident (z') n7) e9a) (first_was w (join (join (token w j) (token w j8)) e9u) (took_join (join (token w j) (token w j8)) e9u (took_join (token w j) (token w j8) (took_token w j))) qs' h'))) ((λ i'. refl), (λ i'. refl)))))) (back_ok {s = (past m s)} _ _ (live_past w j) (λ qs' h'. ap (λ (z' : Span). ident (z') n7) (first_was w (token w j) (took_token w j) qs' h')) ((λ i'. absurd (true≢false i')), (λ i'. absurd (true≢false i'))))))))
      (λ ne k r ru. back_weak _ (back_at w {s = r} colon_kind (refl, refl, refl, refl) refl ru.live _ _ _ _ (λ j11. back_past w {s = r} j11 _ (λ r' q'. (il.expr (with_in c) assignment_level q' >>= λ v. Ok (key_value_prop (spanned lm (lo (input lm (was m Live ru r'))) v.1) k v.0, v.1))) (back_then _ _ _ _ (echo.expr (with_in c) ce assignment_level (past m r) (live_past w j11)) (λ v12a v12s v12u. back_ok {s = v12s} _ _ v12u.live (λ qs' h'. ap (λ (z' : ℕ). key_value_prop ((span z' (m.last v12s.source))) k v12a) (lo_was w (join (join ru (token w j11)) v12u) qs' h')) ((λ i'. refl), (λ i'. refl))))) (back_at w {s = r} left_paren_kind (refl, refl, refl, refl) refl ru.live _ _ _ _ (λ j14. back_then _ _ _ _ (back_same _ (λ r'. function_by lm il c ((lo (input m s))) false false r') (λ r'. function_by lm il c (lo (input lm (was m Live ru r'))) false false r') (λ qs' h'. ap (λ (z' : ℕ). function_by lm il c (z') false false (list_at m Live r qs')) (lo_was w ru qs' h')) (function_by_backed r c ce (lo (input m s)) false false ru.live)) (λ f15a f15s f15u. back_ok {s = f15s} _ _ f15u.live (λ qs' h'. ap (λ (z' : ℕ). method_prop ((span z' (m.last f15s.source))) k f15a) (lo_was w (join ru f15u) qs' h')) ((λ i'. absurd (true≢false i')), (λ i'. absurd (true≢false i'))))) (back_unnamed _ c s _ ne))))

  pub prop_by_backed : {e' : ℕ} (s : State S) (c : Code) (ce : c.context.module_ ≡ modular) (sl' : Live.live s.source) → Backed m Live calm true e' s (prop_by m im c s) (λ r'. prop_by lm il c r')
  unfolding prop_by
  prop_by_backed s c ce sl' = back_at w {s = s} dot_dot_dot_kind (refl, refl, refl, refl) refl sl' _ _ _ _ (λ j1. back_past w {s = s} j1 _ (λ r' q'. (il.expr (with_in c) assignment_level q' >>= λ e. Ok (spread_element (spanned lm (lo (input lm r')) e.1) e.0, e.1))) (back_then _ _ _ _ (echo.expr (with_in c) ce assignment_level (past m s) (live_past w j1)) (λ e2a e2s e2u. back_ok {s = e2s} _ _ e2u.live (λ qs' h'. ap (λ (z' : ℕ). spread_element ((span z' (m.last e2s.source))) e2a) (lo_was w (join (token w j1) e2u) qs' h')) ((λ i'. refl), (λ i'. refl))))) (back_at w {s = s} mul_kind (refl, refl, refl, refl) refl sl' _ _ _ _ (λ j4. back_past w {s = s} j4 _ (λ r' q'. method_prop_by lm il c (lo (input lm r')) true false q') (back_closed _ (back_same _ (λ r'. method_prop_by lm il c ((lo (input m s))) true false r') (λ r'. method_prop_by lm il c (lo (input lm (was m Live (token w j4) r'))) true false r') (λ qs' h'. ap (λ (z' : ℕ). method_prop_by lm il c (z') true false (list_at m Live (past m s) qs')) (lo_was w (token w j4) qs' h')) (method_prop_by_backed (past m s) c ce (lo (input m s)) true false (live_past w j4))))) (back_two w {s = s} (λ z'. is_async_head lm il (on [] 0 z')) ((λ p' q' l' v'. refl), (λ p' q' l' v'. refl), (λ n' p' q' l' v'. refl), (λ n' p' q' l' v'. refl), (λ n' p' l' v'. refl)) sl' _ _ _ _ (λ y5. back_past w {s = s} (here_by w (λ z'. is_async_head lm il (on [] 0 z')) (refl, λ p' v'. refl) s sl' y5) _ (λ r' q'. (star lm il q' >>= λ g. method_prop_by lm il c (lo (input lm r')) g.0 true g.1)) (back_then _ _ _ _ (star_backed (past m s) (live_past w (here_by w (λ z'. is_async_head lm il (on [] 0 z')) (refl, λ p' v'. refl) s sl' y5))) (λ g6a g6s g6u. back_closed _ (back_same _ (λ r'. method_prop_by lm il c ((lo (input m s))) g6a true r') (λ r'. method_prop_by lm il c (lo (input lm (was m Live (join (token w (here_by w (λ z'. is_async_head lm il (on [] 0 z')) (refl, λ p' v'. refl) s sl' y5)) g6u) r'))) g6a true r') (λ qs' h'. ap (λ (z' : ℕ). method_prop_by lm il c (z') g6a true (list_at m Live g6s qs')) (lo_was w (join (token w (here_by w (λ z'. is_async_head lm il (on [] 0 z')) (refl, λ p' v'. refl) s sl' y5)) g6u) qs' h')) (method_prop_by_backed g6s c ce (lo (input m s)) g6a true g6u.live))))) (back_two w {s = s} (λ z'. is_accessor lm il get_kind (on [] 0 z')) ((λ p' q' l' v'. refl), (λ p' q' l' v'. refl), (λ n' p' q' l' v'. refl), (λ n' p' q' l' v'. refl), (λ n' p' l' v'. refl)) sl' _ _ _ _ (λ y8. back_closed _ (getter_by_backed s c ce (here_by w (λ z'. is_accessor lm il get_kind (on [] 0 z')) (refl, λ p' v'. refl) s sl' y8))) (back_two w {s = s} (λ z'. is_accessor lm il set_kind (on [] 0 z')) ((λ p' q' l' v'. refl), (λ p' q' l' v'. refl), (λ n' p' q' l' v'. refl), (λ n' p' q' l' v'. refl), (λ n' p' l' v'. refl)) sl' _ _ _ _ (λ y9. back_closed _ (setter_by_backed s c ce (here_by w (λ z'. is_accessor lm il set_kind (on [] 0 z')) (refl, λ p' v'. refl) s sl' y9))) (prop_key s c ce sl')))))

  pub prop_step_backed : {e' : ℕ} (s : State S) (c : Code) (ce : c.context.module_ ≡ modular) (xs : Elements) (sl' : Live.live s.source) → Backed m Live closed true e' s (prop_step m im c xs s) (λ r'. prop_step lm il c xs r')
  unfolding prop_step
  prop_step_backed s c ce xs sl' = back_at w {s = s} right_brace_kind (refl, refl, refl, refl) refl sl' _ _ _ _ (λ j1. back_past w {s = s} j1 _ (λ r' q'. Ok (finished xs, q')) (back_ok {s = (past m s)} _ _ (live_past w j1) (λ qs' h'. refl) ((λ i'. absurd (true≢false i')), (λ i'. absurd (true≢false i'))))) (back_then _ _ _ _ (prop_by_backed s c ce sl') (λ p2a p2s p2u. after_element_backed p2s right_brace_kind (refl, refl, refl, refl) refl (xs.items ++ p2a ∷ []) p2u.live))

  pub object_by_backed : {e' : ℕ} (s : State S) (c : Code) (ce : c.context.module_ ≡ modular) (j' : Here m Live s) → Backed m Live closed true e' s (object_by m im c s) (λ r'. object_by lm il c r')
  unfolding object_by
  object_by_backed s c ce j' = back_past w {s = s} j' _ (λ r' q'. (iterate (bound lm) (prop_step lm il c) no_elements q' >>= λ ps. Ok (object_lit (spanned lm (lo (input lm r')) ps.1) (pack ps.0.items), noted lm il (ps.0.comma && last_rests ps.0.items) (lo (input lm r')) ps.1))) (back_then _ _ _ _ (back_iterate w closed {s = (past m s)} true (λ r' x' q'. prop_step lm il c x' q') _ (λ x' t' u'. step_all (prop_step_backed t' c ce x' u'.live)) no_elements (live_past w j')) (λ ps1a ps1s ps1u. back_noted {s = ps1s} ((ps1a.comma && last_rests ps1a.items)) (lo (input m s)) (λ r'. lo (input lm (was m Live (join (token w j') ps1u) r'))) _ _ ps1u.live (λ qs' h'. ap (λ (z' : ℕ). z') (lo_was w (join (token w j') ps1u) qs' h')) (λ qs' h'. ap (λ (z' : ℕ). object_lit ((span z' (m.last ps1s.source))) (pack ps1a.items)) (lo_was w (join (token w j') ps1u) qs' h')) ((λ i'. absurd (true≢false i')), (λ i'. absurd (true≢false i')))))

  quasi_backed : (s : State S) (tagged : Bool) (f : Tree → Step Spans) (t : Option Tree) (l : Live.live s.source)
      → Backed m Live {A = Step Spans} closed false closed_end s (elim t [ None ↦ unexpected m s | Some t ↦ if tagged || is_cooked t then Ok (f t, s) else unexpected m s ]) (λ r. elim t [ None ↦ unexpected lm r | Some t ↦ if tagged || is_cooked t then Ok (f t, r) else unexpected lm r ])
  quasi_backed s tagged f None l = back_never
  quasi_backed s tagged f (Some t) l = back_test (tagged || is_cooked t) (λ r. tagged || is_cooked t) _ _ _ _ (λ qs h. refl) (λ y. back_ok {s = s} _ _ l (λ qs h. refl) ((λ i'. absurd (true≢false i')), (λ i'. absurd (true≢false i')))) (λ _. back_never)

  pub quasi_end_backed : {e : ℕ} (s : State S) (c : Code) (ce : c.context.module_ ≡ modular) (tagged : Bool) (x : Spans) (q : Bool → Option Tree) (sl' : Live.live s.source) → Backed m Live closed true e s (quasi_end m im c tagged x q s) (λ r'. quasi_end lm il c tagged x q r')
  unfolding quasi_end
  quasi_end_backed s c ce tagged x q sl' = back_at w {s = s} back_quote_kind (refl, refl, refl, refl) refl sl' _ _ _ _
      (λ j. back_past w {s = s} j _ (λ r' q'. elim (q true) [ None ↦ unexpected lm q' | Some t ↦ if tagged || is_cooked t then Ok (finished (record { exprs = x.exprs; quasis = x.quasis ++ t ∷ [] }), q') else unexpected lm q' ])
      (quasi_backed (past m s) tagged (λ t. finished (record { exprs = x.exprs; quasis = x.quasis ++ t ∷ [] })) (q true) (live_past w j)))
      (back_eat w {s = s} dollar_brace_kind (refl, refl, refl, refl) refl sl' _ _ (λ j. back_then _ _ _ _ (echo.expr (with_in c) ce expression_level (past m s) (live_past w j)) (λ e0 e1 u. back_eat w {s = e1} right_brace_kind (refl, refl, refl, refl) refl u.live _ _
      (λ i. quasi_backed (past m e1) tagged (λ t. go_on (record { exprs = x.exprs ++ e0 ∷ []; quasis = x.quasis ++ t ∷ [] })) (q false) (live_past w i)))))

  pub quasi_step_backed : {e : ℕ} (s : State S) (c : Code) (ce : c.context.module_ ≡ modular) (tagged : Bool) (x : Spans) (sl' : Live.live s.source) → Backed m Live closed true e s (quasi_step m im c tagged x s) (λ r'. quasi_step lm il c tagged x r')
  unfolding quasi_step
  quasi_step_backed s c ce tagged x sl' = back_eat w {s = s} template_kind (refl, refl, refl, refl) refl sl' _ _ (λ j. back_same _ (λ r'. quasi_end lm il c tagged x (quasi m im (content (input m s)) (first m im s)) r') (λ r'. quasi_end lm il c tagged x (quasi lm il (content (input lm (was m Live (token w j) r'))) (first lm il (was m Live (token w j) r'))) r')
      (λ qs h. ap (λ (q : Bool → Option Tree). quasi_end lm il c tagged x q (list_at m Live (past m s) qs)) (ap (λ (z : Content). quasi lm il z (first lm il (list_at m Live s (j.place ∷ qs)))) (content_was w (token w j) (took_token w j) qs h)
      ∙ (ap (λ (z : Span). quasi lm il (content (input m s)) z) (first_was w (token w j) (took_token w j) qs h) ∙ same_quasi m im il (content (input m s)) (first m im s))))
      (quasi_end_backed (past m s) c ce tagged x (quasi m im (content (input m s)) (first m im s)) (live_past w j)))

  pub template_by_backed : {e' : ℕ} (s : State S) (c : Code) (ce : c.context.module_ ≡ modular) (tagged : Bool) (j' : Here m Live s) → Backed m Live closed true e' s (template_by m im c tagged s) (λ r'. template_by lm il c tagged r')
  unfolding template_by
  template_by_backed s c ce tagged j' = back_past w {s = s} j' _ (λ r' q'. (iterate (bound lm) (quasi_step lm il c tagged) (record { exprs = []; quasis = [] }) q' >>= λ x. Ok (tpl (spanned lm (lo (input lm r')) x.1) (pack x.0.exprs) (pack x.0.quasis), x.1))) (back_then _ _ _ _ (back_iterate w closed {s = (past m s)} true (λ r' x' q'. quasi_step lm il c tagged x' q') _ (λ x' t' u'. step_all (quasi_step_backed t' c ce tagged x' u'.live)) ((record { exprs = []; quasis = [] })) (live_past w j')) (λ x1a x1s x1u. back_ok {s = x1s} _ _ x1u.live (λ qs' h'. ap (λ (z' : ℕ). tpl ((span z' (m.last x1s.source))) (pack x1a.exprs) (pack x1a.quasis)) (lo_was w (join (token w j') x1u) qs' h')) ((λ i'. absurd (true≢false i')), (λ i'. absurd (true≢false i')))))

  edge_open : (t : Tree) → nat_le closed_end (ends t) ≡ false → nat_le closed_end (edge t) ≡ false
  edge_open t e = ap (λ (z : Bool). nat_le closed_end (edge_by z (ends_async t))) e ∙ by_word (ends_async t)
    where
      by_word : (b : Bool) → nat_le closed_end (edge_by false b) ≡ false
      by_word true = refl
      by_word false = refl

  -- a bare `new`
  new_open : (s : Span) (f : Tree) → Keeps (edge f) (edge (new_expr s f absent))
  new_open s f = by_class (nat_le closed_end (ends f)) (ends_async f)
    where
      by_class : (a b : Bool) → Keeps (edge_by a b) (edge_by false b)
      by_class true b = shut_keeps (edge_by false b)
      by_class false b = same_keeps (edge_by false b)

  edged : (b d x y : Bool) → b ≡ d → x ≡ y → Keeps (edge_by b x) (edge_by d y)
  edged b d x y e f = subst (λ (z : Bool). Keeps (edge_by b x) (edge_by z y)) e (subst (λ (z : Bool). Keeps (edge_by b x) (edge_by b z)) f (same_keeps (edge_by b x)))

  arrow_open : (b : Tree) → is_block b ≡ false → Keeps (edge b) (edge_by (nat_le closed_end (if is_block b then closed_end else ends b)) (ends_async b))
  arrow_open b e = edged _ _ _ _ (sym (ap (λ (z : Bool). nat_le closed_end (if z then closed_end else ends b)) e)) refl

  yield_open : (b : Tree) → is_absent b ≡ false → Keeps (edge b) (edge_by (nat_le closed_end (if is_absent b then closed_end else ends b)) (ends_async b))
  yield_open b e = edged _ _ _ _ (sym (ap (λ (z : Bool). nat_le closed_end (if z then closed_end else ends b)) e)) refl

  last_pack : (e : Tree) (ts : List Tree) → last_ends (pack (ts ++ e ∷ [])) ≡ ends e
  last_pack e [] = refl
  last_pack e (t ∷ []) = refl
  last_pack e (t ∷ (u ∷ ts)) = last_pack e (u ∷ ts)

  extended_ends : (t e : Tree) (n : Span) → ends (extended t e n) ≡ ends e
  extended_ends (seq_expr s xs) e n = last_pack e (unpack xs)
  extended_ends _ e n = refl

  last_word : (e : Tree) (ts : List Tree) → last_async (pack (ts ++ e ∷ [])) ≡ ends_async e
  last_word e [] = refl
  last_word e (t ∷ []) = refl
  last_word e (t ∷ (u ∷ ts)) = last_word e (u ∷ ts)

  extended_word : (t e : Tree) (n : Span) → ends_async (extended t e n) ≡ ends_async e
  extended_word (seq_expr s xs) e n = last_word e (unpack xs)
  extended_word _ e n = refl

  extended_open : (t e : Tree) (n : Span) → Keeps (edge e) (edge (extended t e n))
  extended_open t e n = edged _ _ _ _ (sym (ap (λ (z : ℕ). nat_le closed_end z) (extended_ends t e n))) (sym (extended_word t e n))

  pub arrow_by_backed : {e' : ℕ} (s : State S) (c : Code) (ce : c.context.module_ ≡ modular) (start : State S) (startu : Path m Live start s) (async : Bool) (ps : List Tree) (j' : Here m Live s) → Backed m Live edge true e' s (arrow_by m im c (lo (input m start)) async ps s) (λ r'. arrow_by lm il c (lo (input lm (was m Live startu r'))) async ps r')
  unfolding arrow_by
  arrow_by_backed s c ce start startu async ps j' = back_past w {s = s} j' _ (λ r' q'. if at lm left_brace_kind q' then (il.body (in_list (with_in (in_arrow async c))) q' >>= λ b. Ok (arrow_expr (spanned lm (lo (input lm (was m Live startu r'))) b.1) (pack ps) b.0 async, b.1)) else ((il.expr (in_arrow async c) assignment_level q' >>= λ b. Ok (arrow_expr (spanned lm (lo (input lm (was m Live startu r'))) b.1) (pack ps) b.0 async, b.1)))) (back_at w {s = (past m s)} left_brace_kind (refl, refl, refl, refl) refl (live_past w j') _ _ _ _ (λ j1. back_then _ _ _ _ (echo.body (in_list (with_in (in_arrow async c))) ce (past m s) (live_past w j')) (λ b2a b2s b2u. back_ok {s = b2s} _ _ b2u.live (λ qs' h'. ap (λ (z' : ℕ). arrow_expr ((span z' (m.last b2s.source))) (pack ps) b2a async) (lo_was w (join (join startu (token w j')) b2u) qs' h')) ((λ i'. absurd (true≢false i')), (λ i'. absurd (true≢false i'))))) (back_then_by _ _ _ _ (echo.expr (in_arrow async c) ce assignment_level (past m s) (live_past w j')) (λ b4a b4s b4u q5. back_ok {s = b4s} _ _ b4u.live (λ qs' h'. ap (λ (z' : ℕ). arrow_expr ((span z' (m.last b4s.source))) (pack ps) b4a async) (lo_was w (join (join startu (token w j')) b4u) qs' h')) (arrow_open b4a (echo.solid _ _ _ _ _ q5).0))))

  pub params_same : (o : List ℕ) (xs : Elements) → params_of lm il o xs ≡ params_of m im o xs
  unfolding params_of
  params_same o xs = refl

  pub heads_same : (l : ℕ) (xs : Elements) (s : State S) → Live.live s.source → (qs : List PlacedToken) → Live.hands 0 qs s.source → heads_params lm il l xs (list_at m Live s qs) ≡ heads_params m im l xs s
  heads_same l xs s a qs h = ap₂ (λ (a b : Bool). a && b) (agrees w (λ z'. arrows_at lm il l (on [] 0 z')) ((λ p' q' l' v'. refl), (λ p' q' l' v'. refl), (λ p' l' v'. refl)) s a qs h) (ap (λ (z : Result (List Tree) Fault). is_read z) (params_same s.commas xs))

  pub heads_here : (l : ℕ) (xs : Elements) (s : State S) → Live.live s.source → heads_params m im l xs s ≡ true → Here m Live s
  heads_here l xs s a y = here_by w (λ z'. arrows_at lm il l (on [] 0 z')) (refl, λ p v. refl) s a (and_first (arrows_at m im l s) (is_read (params_of m im s.commas xs)) y)

  parens_backed : (s : State S) (start : State S) (startu : Path m Live start s) (open_ : State S) (open_u : Path m Live open_ s) (n : ℕ) (t : Option (List Tree)) (l : Live.live s.source)
      → Backed m Live {A = Tree} edge false closed_end s (elim t [ None ↦ unexpected m s | Some [] ↦ unexpected m s | Some (e ∷ es) ↦ Ok (paren_expr (spanned m (lo (input m start)) s) (joined (e ∷ es) (span (lo (input m open_)) n)), s) ])
      (λ r. elim t [ None ↦ unexpected lm r | Some [] ↦ unexpected lm r | Some (e ∷ es) ↦ Ok (paren_expr (spanned lm (lo (input lm (was m Live startu r))) r) (joined (e ∷ es) (span (lo (input lm (was m Live open_u r))) n)), r) ])
  parens_backed s start startu open_ open_u n None l = back_never
  parens_backed s start startu open_ open_u n (Some []) l = back_never
  parens_backed s start startu open_ open_u n (Some (e ∷ es)) l = back_ok {s = s} _ _ l (λ qs h. ap (λ (z : ℕ). paren_expr (span z (m.last s.source)) (joined (e ∷ es) (span (lo (input lm (list_at m Live open_ (open_u.back qs)))) n))) (lo_was w startu qs h) ∙ ap (λ (z : ℕ). paren_expr (spanned m (lo (input m start)) s) (joined (e ∷ es) (span z n))) (lo_was w open_u qs h)) ((λ i'. absurd (true≢false i')), (λ i'. absurd (true≢false i')))

  pub group_end_backed : (s : State S) (c : Code) (ce : c.context.module_ ≡ modular) (l : ℕ) (start : State S) (startu : Path m Live start s) (open_ : State S) (open_u : Path m Live open_ s) (xs : Elements) (sl' : Live.live s.source) → Backed m Live edge false closed_end s (group_end m im c l (lo (input m start)) (lo (input m open_)) xs s) (λ r'. group_end lm il c l (lo (input lm (was m Live startu r'))) (lo (input lm (was m Live open_u r'))) xs r')
  unfolding group_end
  group_end_backed s c ce l start startu open_ open_u xs sl' = back_test (heads_params m im l xs s) (λ r'. heads_params lm il l xs r') _ _ _ _ (λ qs h. heads_same l xs s sl' qs h)
      (λ y. back_weak _ (back_pure _ _ _ _ _ _ (λ qs h. params_same s.commas xs) (λ ps. arrow_by_backed s c ce start startu false ps (heads_here l xs s sl' y))))
      (λ _. back_test xs.comma (λ r'. xs.comma) _ _ _ _ (λ qs h. refl) (λ _. back_never) (λ _. parens_backed s start startu open_ open_u (last_end xs.items) (plain_elements xs.items) sl'))

  pub group_by_backed : {e' : ℕ} (s : State S) (c : Code) (ce : c.context.module_ ≡ modular) (l : ℕ) (j' : Here m Live s) → Backed m Live edge true e' s (group_by m im c l s) (λ r'. group_by lm il c l r')
  unfolding group_by
  group_by_backed s c ce l j' = back_past w {s = s} j' _ (λ r' q'. (elements_by lm il (with_in c) false right_paren_kind q' >>= λ xs. group_end lm il c l (lo (input lm r')) (lo (input lm q')) xs.0 xs.1)) (back_then _ _ _ _ (elements_by_backed (past m s) (with_in c) ce false right_paren_kind (refl, refl, refl, refl) refl (live_past w j')) (λ xs1a xs1s xs1u. group_end_backed xs1s c ce l s (join (token w j') xs1u) (past m s) xs1u xs1a xs1u.live))

  pub ident_end_backed : (s : State S) (c : Code) (ce : c.context.module_ ≡ modular) (l : ℕ) (start : State S) (startu : Path m Live start s) (startk : Took m Live startu) (n : List ℕ) (sl' : Live.live s.source) → Backed m Live edge false closed_end s (ident_end m im c l (first_span (input m start)) n s) (λ r'. ident_end lm il c l (first_span (input lm (was m Live startu r'))) n r')
  unfolding ident_end
  ident_end_backed s c ce l start startu startk n sl' = back_if w {s = s} (λ z'. arrows_at lm il l (on [] 0 z')) ((λ p' q' l' v'. refl), (λ p' q' l' v'. refl), (λ p' l' v'. refl)) sl' _ _ _ _ (λ y1. back_weak _ (back_same _ (λ r'. arrow_by lm il c (lo (input lm (was m Live startu r'))) false (binding_ident ((first m im start)) (ident ((first m im start)) n) ∷ []) r') (λ r'. arrow_by lm il c (lo (input lm (was m Live startu r'))) false (binding_ident (first lm il (was m Live startu r')) (ident (first lm il (was m Live startu r')) n) ∷ []) r') (λ qs' h'. ap (λ (z' : Span). arrow_by lm il c (lo (input lm (was m Live startu (list_at m Live s qs')))) false (binding_ident (z') (ident (z') n) ∷ []) (list_at m Live s qs')) (first_was w startu startk qs' h')) (arrow_by_backed s c ce start startu false (binding_ident (first m im start) (ident (first m im start) n) ∷ []) (here_by w (λ z'. arrows_at lm il l (on [] 0 z')) (refl, λ p' v'. refl) s sl' y1)))) (back_ok {s = s} _ _ sl' (λ qs' h'. ap (λ (z' : Span). ident (z') n) (first_was w startu startk qs' h')) ((λ i'. absurd (true≢false i')), (λ i'. absurd (true≢false i'))))

  pub arguments_by_backed : (s : State S) (c : Code) (ce : c.context.module_ ≡ modular) (sl' : Live.live s.source) → Backed m Live closed true closed_end s (arguments_by m im c s) (λ r'. arguments_by lm il c r')
  unfolding arguments_by
  arguments_by_backed s c ce sl' = back_then _ _ _ _ (elements_by_backed s c ce false right_paren_kind (refl, refl, refl, refl) refl sl') (λ xs1a xs1s xs1u. back_ok {s = xs1s} _ _ xs1u.live (λ qs' h'. refl) ((λ i'. absurd (true≢false i')), (λ i'. absurd (true≢false i'))))

  pub async_group_backed : {e' : ℕ} (s : State S) (c : Code) (ce : c.context.module_ ≡ modular) (l : ℕ) (start : State S) (startu : Path m Live start s) (startk : Took m Live startu) (j' : Here m Live s) → Backed m Live edge true e' s (async_group m im c l (first_span (input m start)) (text (input m start)) s) (λ r'. async_group lm il c l (first_span (input lm (was m Live startu r'))) (text (input lm (was m Live startu r'))) r')
  unfolding async_group
  async_group_backed s c ce l start startu startk j' = back_past w {s = s} j' _ (λ r' q'. (elements_by lm il (with_in c) false right_paren_kind q' >>= λ xs. if heads_params lm il l xs.0 xs.1 && not (brk (input lm r')) then (placed (bound lm xs.1) (params_of lm il xs.1.commas xs.0) >>= λ ps. arrow_by lm il c (lo (input lm (was m Live startu r'))) true ps xs.1) else (Ok (call_expr (spanned lm (lo (input lm (was m Live startu r'))) xs.1) (ident (first lm il (was m Live startu r')) (text (input lm (was m Live startu r')))) (pack xs.0.items), xs.1)))) (back_then _ _ _ _ (elements_by_backed (past m s) (with_in c) ce false right_paren_kind (refl, refl, refl, refl) refl (live_past w j')) (λ xs1a xs1s xs1u. back_test (heads_params m im l xs1a xs1s && not (brk (input m s))) (λ r'. heads_params lm il l xs1a r' && not (brk (input lm (was m Live (join (token w j') xs1u) r')))) _ _ _ _ (λ qs' h'. ap₂ (λ (a' b' : Bool). a' && not b') (heads_same l xs1a xs1s xs1u.live qs' h') (brk_was w (join (token w j') xs1u) qs' h')) (λ y3. back_weak _ (back_pure _ _ _ _ _ _ (λ qs' h'. params_same _ _) (λ ps4. arrow_by_backed xs1s c ce start (join (join startu (token w j')) xs1u) true ps4 (heads_here l xs1a xs1s xs1u.live (and_first _ _ y3))))) (λ _. back_ok {s = xs1s} _ _ xs1u.live (λ qs' h'. ap (λ (z' : ℕ). call_expr ((span z' (m.last xs1s.source))) (ident ((first lm il (was m Live (join (join startu (token w j')) xs1u) (list_at m Live xs1s qs')))) ((text (input lm (was m Live (join (join startu (token w j')) xs1u) (list_at m Live xs1s qs')))))) (pack xs1a.items)) (lo_was w (join (join startu (token w j')) xs1u) qs' h') ∙ (ap (λ (z' : Span). call_expr ((spanned m (lo (input m start)) xs1s)) (ident (z') ((text (input lm (was m Live (join (join startu (token w j')) xs1u) (list_at m Live xs1s qs')))))) (pack xs1a.items)) (first_was w (join (join startu (token w j')) xs1u) (took_join (join startu (token w j')) xs1u (took_join startu (token w j') startk)) qs' h') ∙ (ap (λ (z' : List ℕ). call_expr ((spanned m (lo (input m start)) xs1s)) (ident ((first m im start)) (z')) (pack xs1a.items)) (text_was w (join (join startu (token w j')) xs1u) (took_join (join startu (token w j')) xs1u (took_join startu (token w j') startk)) qs' h')))) ((λ i'. absurd (true≢false i')), (λ i'. absurd (true≢false i'))))))

  pub function_expr_name_backed : {e' : ℕ} (s : State S) (c : Code) (ce : c.context.module_ ≡ modular) (start : State S) (startu : Path m Live start s) (generator : Bool) (async : Bool) (sl' : Live.live s.source) → Backed m Live closed true e' s (function_expr_name m im c (lo (input m start)) generator async s) (λ r'. function_expr_name lm il c (lo (input lm (was m Live startu r'))) generator async r')
  unfolding function_expr_name
  function_expr_name_backed s c ce start startu generator async sl' = back_at w {s = s} left_paren_kind (refl, refl, refl, refl) refl sl' _ _ _ _ (λ j1. back_then _ _ _ _ (back_same _ (λ r'. function_by lm il c ((lo (input m start))) generator async r') (λ r'. function_by lm il c (lo (input lm (was m Live startu r'))) generator async r') (λ qs' h'. ap (λ (z' : ℕ). function_by lm il c (z') generator async (list_at m Live s qs')) (lo_was w startu qs' h')) (function_by_backed s c ce (lo (input m start)) generator async sl')) (λ f2a f2s f2u. back_ok {s = f2s} _ _ f2u.live (λ qs' h'. ap (λ (z' : ℕ). fn_expr ((span z' (m.last f2s.source))) absent f2a) (lo_was w (join startu f2u) qs' h')) ((λ i'. absurd (true≢false i')), (λ i'. absurd (true≢false i'))))) (back_name w {s = s} (by generator async c) sl' _ _ (λ n5 j4. back_then _ _ _ _ (back_same _ (λ r'. function_by lm il c ((lo (input m start))) generator async r') (λ r'. function_by lm il c (lo (input lm (was m Live (join startu (token w j4)) r'))) generator async r') (λ qs' h'. ap (λ (z' : ℕ). function_by lm il c (z') generator async (list_at m Live (past m s) qs')) (lo_was w (join startu (token w j4)) qs' h')) (function_by_backed (past m s) c ce (lo (input m start)) generator async (live_past w j4))) (λ f6a f6s f6u. back_ok {s = f6s} _ _ f6u.live (λ qs' h'. ap (λ (z' : ℕ). fn_expr ((span z' (m.last f6s.source))) (ident ((first lm il (was m Live (join (token w j4) f6u) (list_at m Live f6s qs')))) n5) f6a) (lo_was w (join (join startu (token w j4)) f6u) qs' h') ∙ (ap (λ (z' : Span). fn_expr ((spanned m (lo (input m start)) f6s)) (ident (z') n5) f6a) (first_was w (join (token w j4) f6u) (took_join (token w j4) f6u (took_token w j4)) qs' h'))) ((λ i'. absurd (true≢false i')), (λ i'. absurd (true≢false i'))))))

  pub function_expr_by_backed : {e' : ℕ} (s : State S) (c : Code) (ce : c.context.module_ ≡ modular) (start : State S) (startu : Path m Live start s) (async : Bool) (sl' : Live.live s.source) → Backed m Live closed true e' s (function_expr_by m im c (lo (input m start)) async s) (λ r'. function_expr_by lm il c (lo (input lm (was m Live startu r'))) async r')
  unfolding function_expr_by
  function_expr_by_backed s c ce start startu async sl' = back_word w {s = s} c function_kind (refl, refl, refl, refl) refl sl' _ _ (λ j1. back_then _ _ _ _ (star_backed (past m s) (live_past w j1)) (λ g2a g2s g2u. function_expr_name_backed g2s c ce start (join (join startu (token w j1)) g2u) g2a async g2u.live))

  async_arrow : (a b d e f : Bool) → (a && ((b && d && e) && f)) ≡ true → d ≡ true
  async_arrow true true true true f y = refl
  async_arrow true true true false f y = refl
  async_arrow true true false e f y = y
  async_arrow true false d e f y = absurd (true≢false (sym y))
  async_arrow false b d e f y = absurd (true≢false (sym y))

  -- a name that may be a parameter behind `async`
  param_told : (s : State S) (l : ℕ) (c : Code) → Live.live (past m s).source → (qs : List PlacedToken) → (Live.hands 1 qs (past m s).source ⊎ (is_param c l qs ≡ is_param c l (m.seen (past m s).source))) → is_async_param lm il c l (list_at m Live (past m s) qs) ≡ is_async_param m im c l (past m s)
  param_told s l c a qs (inl o) = agrees_two w (λ z'. is_async_param lm il c l (on [] 0 z')) ((λ p' q' l' v'. refl), (λ p' q' l' v'. refl), (λ n' p' q' l' v'. refl), (λ n' p' q' l' v'. refl), (λ n' p' l' v'. refl)) (past m s) a qs o
  param_told s l c a qs (inr o) = o

  -- the word `async` as a name
  ident_bides : (s : State S) (c : Code) (ce : c.context.module_ ≡ modular) (l : ℕ) (j' : Here m Live s) → at m async_kind s ≡ true
      → Bides m Live 1 (λ z. is_param c l z ≡ is_param c l (m.seen (past m s).source)) edge false closed_end (past m s) (ident_end m im c l (first_span (input m s)) (text (input m s)) (past m s)) (λ r'. ident_end lm il c l (first_span (input lm (was m Live (token w j') r'))) (text (input lm (was m Live (token w j') r'))) r')
  unfolding ident_end
  ident_bides s c ce l j' ak = bides_test w (arrows_at m im l (past m s)) (λ r'. arrows_at lm il l r') _ _ _ _ (λ qs' h' o'. agrees w (λ z'. arrows_at lm il l (on [] 0 z')) ((λ p' q' l' v'. refl), (λ p' q' l' v'. refl), (λ p' l' v'. refl)) (past m s) (live_past w j') qs' h')
      (λ y1. bides_weak w _ _ (bides_one w _ _ (back_same _ (λ r'. arrow_by lm il c (lo (input lm (was m Live (token w j') r'))) false (binding_ident ((first m im s)) (ident ((first m im s)) (text (input m s))) ∷ []) r') (λ r'. arrow_by lm il c (lo (input lm (was m Live (token w j') r'))) false (binding_ident (first lm il (was m Live (token w j') r')) (ident (first lm il (was m Live (token w j') r')) (text (input lm (was m Live (token w j') r')))) ∷ []) r')
      (λ qs' h'. ap₂ (λ (z' : Span) (n' : List ℕ). arrow_by lm il c (lo (input lm (was m Live (token w j') (list_at m Live (past m s) qs')))) false (binding_ident (z') (ident (z') n') ∷ []) (list_at m Live (past m s) qs')) (first_was w (token w j') (took_token w j') qs' h') (text_was w (token w j') (took_token w j') qs' h'))
      (arrow_by_backed (past m s) c ce s (token w j') false (binding_ident (first m im s) (ident (first m im s) (text (input m s))) ∷ []) (here_by w (λ z'. arrows_at lm il l (on [] 0 z')) (refl, λ p' v'. refl) (past m s) (live_past w j') y1)))))
      (λ _. bides_stay w (ident (first m im s) (text (input m s))) _ (live_past w j') (λ qs' h'. ap₂ (λ (z' : Span) (n' : List ℕ). ident (z') n') (first_was w (token w j') (took_token w j') qs' h') (text_was w (token w j') (took_token w j') qs' h')) (shut_keeps _)
      (λ qs' h' g'. w.param c l j'.place qs' j'.shown s.source j'.live j'.seen (eqb-true j'.place.spot.token.kind async_kind (ap (λ z. eqb (kind_of z) async_kind) (sym j'.seen) ∙ ak)) h'
      (λ e'. g'.1 (ap (λ (b : Bool). nat_le postfix_end (edge_by false b)) (ap (λ z. bytes_eq (text (record { last = 0; places = z })) (codes "async")) j'.seen ∙ e')))))

  pub async_by_backed : {e' : ℕ} (s : State S) (c : Code) (ce : c.context.module_ ≡ modular) (l : ℕ) (j' : Here m Live s) (ak : at m async_kind s ≡ true) → Backed m Live edge true e' s (async_by m im c l s) (λ r'. async_by lm il c l r')
  unfolding async_by
  async_by_backed s c ce l j' ak = back_past w {s = s} j' _ (λ r' q'. if (at lm function_kind q' && not (brk (input lm q'))) && not (barred c.context (input lm q')) then function_expr_by lm il c (lo (input lm r')) true q' else (if is_async_param lm il c l q' then (name lm c q' >>= λ n. arrow_by lm il c (lo (input lm r')) true (binding_ident (first lm il q') (ident (first lm il q') n.0) ∷ []) n.1) else (if at lm left_paren_kind q' && not (brk (input lm q')) then async_group lm il c l (first_span (input lm r')) (text (input lm r')) q' else (ident_end lm il c l (first_span (input lm r')) (text (input lm r')) q')))) (back_if w {s = (past m s)} (λ z'. (at lm function_kind (on [] 0 z') && not (brk (input lm (on [] 0 z')))) && not (barred c.context (input lm (on [] 0 z')))) ((λ p' q' l' v'. refl), (λ p' q' l' v'. refl), (λ p' l' v'. refl)) (live_past w j') _ _ _ _ (λ y1. back_weak _ (back_closed _ (function_expr_by_backed (past m s) c ce s (token w j') true (live_past w j')))) (bides_back w _ _ (bides_test w (is_async_param m im c l (past m s)) (λ r'. is_async_param lm il c l r') _ _ _ _ (λ qs' h' o'. param_told s l c (live_past w j') qs' o')
      (λ y2. bides_weak w _ _ (bides_one w _ _ (back_name w {s = (past m s)} c (live_past w j') _ _ (λ n4 j3. back_same _ (λ r'. arrow_by lm il c (lo (input lm (was m Live (join (token w j') (token w j3)) r'))) true (binding_ident ((first m im (past m s))) (ident ((first m im (past m s))) n4) ∷ []) r') (λ r'. arrow_by lm il c (lo (input lm (was m Live (join (token w j') (token w j3)) r'))) true (binding_ident (first lm il (was m Live (token w j3) r')) (ident (first lm il (was m Live (token w j3) r')) n4) ∷ []) r') (λ qs' h'. ap (λ (z' : Span). arrow_by lm il c (lo (input lm (was m Live (join (token w j') (token w j3)) (list_at m Live (past m (past m s)) qs')))) true (binding_ident (z') (ident (z') n4) ∷ []) (list_at m Live (past m (past m s)) qs')) (first_was w (token w j3) (took_token w j3) qs' h')) (arrow_by_backed (past m (past m s)) c ce s (join (token w j') (token w j3)) true (binding_ident (first m im (past m s)) (ident (first m im (past m s)) n4) ∷ []) (here_second w (λ z'. kind2 (input lm (on [] 0 z')) == arrow_kind) (past m s) j3 (λ p'. refl) (λ p' q' l'. refl) (async_arrow _ _ _ _ _ y2)))))))
      (λ n2. bides_test w (at m left_paren_kind (past m s) && not (brk (input m (past m s)))) (λ r'. at lm left_paren_kind r' && not (brk (input lm r'))) _ _ _ _ (λ qs' h' o'. agrees w (λ z'. at lm left_paren_kind (on [] 0 z') && not (brk (input lm (on [] 0 z')))) ((λ p' q' l' v'. refl), (λ p' q' l' v'. refl), (λ p' l' v'. refl)) (past m s) (live_past w j') qs' h')
      (λ y5. bides_weak w _ _ (bides_one w _ _ (async_group_backed (past m s) c ce l s (token w j') (took_token w j') (here_at w left_paren_kind (refl, refl, refl, refl) refl (past m s) (live_past w j') (and_first _ _ y5)))))
      (λ n5. ident_bides s c ce l j' ak)))))

  pub class_expr_by_backed : {e' : ℕ} (s : State S) (c : Code) (ce : c.context.module_ ≡ modular) (sl' : Live.live s.source) → Backed m Live closed true e' s (class_expr_by m im c s) (λ r'. class_expr_by lm il c r')
  unfolding class_expr_by
  class_expr_by_backed s c ce sl' = back_word w {s = s} c class_kind (refl, refl, refl, refl) refl sl' _ _ (λ j1. back_if w {s = (past m s)} (λ z'. is_name lm (turned_strict c) (on [] 0 z') && not (at lm left_brace_kind (on [] 0 z'))) ((λ p' q' l' v'. refl), (λ p' q' l' v'. refl), (λ p' l' v'. refl)) (live_past w j1) _ _ _ _ (λ y2. back_name w {s = (past m s)} (turned_strict c) (live_past w j1) _ _ (λ n4 j3. back_then _ _ _ _ (back_same _ (λ r'. il.class_tail (turned_strict (with_in c)) ((lo (input m s))) r') (λ r'. il.class_tail (turned_strict (with_in c)) (lo (input lm (was m Live (join (token w j1) (token w j3)) r'))) r') (λ qs' h'. ap (λ (z' : ℕ). il.class_tail (turned_strict (with_in c)) (z') (list_at m Live (past m (past m s)) qs')) (lo_was w (join (token w j1) (token w j3)) qs' h')) (echo.class_tail (turned_strict (with_in c)) ce ((lo (input m s))) (past m (past m s)) (live_past w j3))) (λ k5a k5s k5u. back_ok {s = k5s} _ _ k5u.live (λ qs' h'. ap (λ (z' : ℕ). class_expr ((span z' (m.last k5s.source))) (ident ((first lm il (was m Live (join (token w j3) k5u) (list_at m Live k5s qs')))) n4) k5a) (lo_was w (join (join (token w j1) (token w j3)) k5u) qs' h') ∙ (ap (λ (z' : Span). class_expr ((spanned m (lo (input m s)) k5s)) (ident (z') n4) k5a) (first_was w (join (token w j3) k5u) (took_join (token w j3) k5u (took_token w j3)) qs' h'))) ((λ i'. absurd (true≢false i')), (λ i'. absurd (true≢false i')))))) (back_then _ _ _ _ (back_same _ (λ r'. il.class_tail (turned_strict (with_in c)) ((lo (input m s))) r') (λ r'. il.class_tail (turned_strict (with_in c)) (lo (input lm (was m Live (token w j1) r'))) r') (λ qs' h'. ap (λ (z' : ℕ). il.class_tail (turned_strict (with_in c)) (z') (list_at m Live (past m s) qs')) (lo_was w (token w j1) qs' h')) (echo.class_tail (turned_strict (with_in c)) ce ((lo (input m s))) (past m s) (live_past w j1))) (λ k7a k7s k7u. back_ok {s = k7s} _ _ k7u.live (λ qs' h'. ap (λ (z' : ℕ). class_expr ((span z' (m.last k7s.source))) absent k7a) (lo_was w (join (token w j1) k7u) qs' h')) ((λ i'. absurd (true≢false i')), (λ i'. absurd (true≢false i'))))))

  pub new_end_backed : (s : State S) (c : Code) (ce : c.context.module_ ≡ modular) (start : State S) (startu : Path m Live start s) (f : Tree) (sl' : Live.live s.source) → Backed m Live edge false (edge f) s (new_end m im c (lo (input m start)) f s) (λ r'. new_end lm il c (lo (input lm (was m Live startu r'))) f r')
  unfolding new_end
  new_end_backed s c ce start startu f sl' = back_if w {s = s} (λ z'. at lm left_paren_kind (on [] 0 z') && nat_le member_level (level f)) ((λ p' q' l' v'. refl), (λ p' q' l' v'. refl), (λ p' l' v'. refl)) sl' _ _ _ _ (λ y1. back_weak _ (back_past w {s = s} (here_at w left_paren_kind (refl, refl, refl, refl) refl s sl' (and_first _ _ y1)) _ (λ r' q'. (arguments_by lm il c q' >>= λ xs. Ok (new_expr (spanned lm (lo (input lm (was m Live startu r'))) xs.1) f (list (pack xs.0)), xs.1))) (back_then _ _ _ _ (arguments_by_backed (past m s) c ce (live_past w (here_at w left_paren_kind (refl, refl, refl, refl) refl s sl' (and_first _ _ y1)))) (λ xs2a xs2s xs2u. back_ok {s = xs2s} _ _ xs2u.live (λ qs' h'. ap (λ (z' : ℕ). new_expr ((span z' (m.last xs2s.source))) f (list (pack xs2a))) (lo_was w (join (join startu (token w (here_at w left_paren_kind (refl, refl, refl, refl) refl s sl' (and_first _ _ y1)))) xs2u) qs' h')) ((λ i'. absurd (true≢false i')), (λ i'. absurd (true≢false i'))))))) (back_only w _ (λ r. Unexpected (bound lm r)) ((nat_le member_level (level f) || (level f == new_level)) && nat_lt (goes_expr c other_end (input m s)) call_level) (λ r'. (nat_le member_level (level f) || (level f == new_level)) && nat_lt (goes_expr c other_end (input lm r')) call_level) (new_expr (spanned m (lo (input m start)) s) f absent) _ sl'
      (λ qs' h' g'. ap (λ (b' : Bool). (nat_le member_level (level f) || (level f == new_level)) && b') (w.goes c other_end call_level qs' s.source sl' h' (λ o'. g'.0 (edge_open (new_expr (spanned m (lo (input m start)) s) f absent) refl)))) (λ qs' h'. ap (λ (z' : ℕ). new_expr ((span z' (m.last s.source))) f absent) (lo_was w startu qs' h')) (new_open (spanned m (lo (input m start)) s) f))

  pub callee_by_backed : (s : State S) (c : Code) (ce : c.context.module_ ≡ modular) (sl' : Live.live s.source) → Backed m Live edge true closed_end s (callee_by m im c s) (λ r'. callee_by lm il c r')
  unfolding callee_by
  callee_by_backed s c ce sl' = back_two w {s = s} (λ z'. at lm async_kind (on [] 0 z') && (kind2 (input lm (on [] 0 z')) == left_paren_kind)) ((λ p' q' l' v'. refl), (λ p' q' l' v'. refl), (λ n' p' q' l' v'. refl), (λ n' p' q' l' v'. refl), (λ n' p' l' v'. refl)) sl' _ _ _ _ (λ y1. back_name w {s = s} c sl' _ _ (λ n3 j2. back_ok {s = (past m s)} _ _ (live_past w j2) (λ qs' h'. ap (λ (z' : Span). ident (z') n3) (first_was w (token w j2) (took_token w j2) qs' h')) ((λ i'. absurd (true≢false i')), (λ i'. absurd (true≢false i'))))) (echo.expr c ce member_level s sl')

  pub new_by_backed : {e' : ℕ} (s : State S) (c : Code) (ce : c.context.module_ ≡ modular) (sl' : Live.live s.source) → Backed m Live edge true e' s (new_by m im c s) (λ r'. new_by lm il c r')
  unfolding new_by
  new_by_backed s c ce sl' = back_word w {s = s} c new_kind (refl, refl, refl, refl) refl sl' _ _ (λ j1. back_at w {s = (past m s)} dot_kind (refl, refl, refl, refl) refl (live_past w j1) _ _ _ _ (λ j2. back_past w {s = (past m s)} j2 _ (λ r' q'. (eat_word lm c target_kind q' >>= λ t. Ok (meta_prop_expr (spanned lm (lo (input lm (was m Live (token w j1) r'))) t) new_kind, t))) (back_word w {s = (past m (past m s))} c target_kind (refl, refl, refl, refl) refl (live_past w j2) _ _ (λ j3. back_ok {s = (past m (past m (past m s)))} _ _ (live_past w j3) (λ qs' h'. ap (λ (z' : ℕ). meta_prop_expr ((span z' (m.last (past m (past m (past m s))).source))) new_kind) (lo_was w (join (join (token w j1) (token w j2)) (token w j3)) qs' h')) ((λ i'. absurd (true≢false i')), (λ i'. absurd (true≢false i')))))) (back_then _ _ _ _ (callee_by_backed (past m s) c ce (live_past w j1)) (λ f4a f4s f4u. new_end_backed f4s c ce s (join (token w j1) f4u) f4a f4u.live)))

  pub super_end_backed : {e' : ℕ} (s : State S) (c : Code) (ce : c.context.module_ ≡ modular) (start : State S) (startu : Path m Live start s) (startk : Took m Live startu) (sl' : Live.live s.source) → Backed m Live edge true e' s (super_end m im c (first_span (input m start)) s) (λ r'. super_end lm il c (first_span (input lm (was m Live startu r'))) r')
  unfolding super_end
  super_end_backed s c ce start startu startk sl' = back_at w {s = s} left_paren_kind (refl, refl, refl, refl) refl sl' _ _ _ _ (λ j1. back_past w {s = s} j1 _ (λ r' q'. (arguments_by lm il c q' >>= λ xs. Ok (call_expr (spanned lm (lo (input lm (was m Live startu r'))) xs.1) (super (first lm il (was m Live startu r'))) (pack xs.0), xs.1))) (back_then _ _ _ _ (arguments_by_backed (past m s) c ce (live_past w j1)) (λ xs2a xs2s xs2u. back_ok {s = xs2s} _ _ xs2u.live (λ qs' h'. ap (λ (z' : ℕ). call_expr ((span z' (m.last xs2s.source))) (super ((first lm il (was m Live (join (join startu (token w j1)) xs2u) (list_at m Live xs2s qs'))))) (pack xs2a)) (lo_was w (join (join startu (token w j1)) xs2u) qs' h') ∙ (ap (λ (z' : Span). call_expr ((spanned m (lo (input m start)) xs2s)) (super (z')) (pack xs2a)) (first_was w (join (join startu (token w j1)) xs2u) (took_join (join startu (token w j1)) xs2u (took_join startu (token w j1) startk)) qs' h'))) ((λ i'. absurd (true≢false i')), (λ i'. absurd (true≢false i')))))) (back_at w {s = s} left_bracket_kind (refl, refl, refl, refl) refl sl' _ _ _ _ (λ j4. back_then _ _ _ _ (computed_by_backed s c ce expression_level j4) (λ k5a k5s k5u. back_ok {s = k5s} _ _ k5u.live (λ qs' h'. ap (λ (z' : ℕ). super_prop_expr ((span z' (m.last k5s.source))) (super ((first lm il (was m Live (join startu k5u) (list_at m Live k5s qs'))))) k5a) (lo_was w (join startu k5u) qs' h') ∙ (ap (λ (z' : Span). super_prop_expr ((spanned m (lo (input m start)) k5s)) (super (z')) k5a) (first_was w (join startu k5u) (took_join startu k5u startk) qs' h'))) ((λ i'. absurd (true≢false i')), (λ i'. absurd (true≢false i'))))) (back_eat w {s = s} dot_kind (refl, refl, refl, refl) refl sl' _ _ (λ j7. back_any w {s = (past m s)} (live_past w j7) _ _ (λ n9 j8. back_ok {s = (past m (past m s))} _ _ (live_past w j8) (λ qs' h'. ap (λ (z' : ℕ). super_prop_expr ((span z' (m.last (past m (past m s)).source))) (super ((first lm il (was m Live (join (join startu (token w j7)) (token w j8)) (list_at m Live (past m (past m s)) qs'))))) (ident_name ((first lm il (was m Live (token w j8) (list_at m Live (past m (past m s)) qs')))) n9)) (lo_was w (join (join startu (token w j7)) (token w j8)) qs' h') ∙ (ap (λ (z' : Span). super_prop_expr ((spanned m (lo (input m start)) (past m (past m s)))) (super (z')) (ident_name ((first lm il (was m Live (token w j8) (list_at m Live (past m (past m s)) qs')))) n9)) (first_was w (join (join startu (token w j7)) (token w j8)) (took_join (join startu (token w j7)) (token w j8) (took_join startu (token w j7) startk)) qs' h') ∙ (ap (λ (z' : Span). super_prop_expr ((spanned m (lo (input m start)) (past m (past m s)))) (super ((first m im start))) (ident_name (z') n9)) (first_was w (token w j8) (took_token w j8) qs' h')))) ((λ i'. absurd (true≢false i')), (λ i'. absurd (true≢false i')))))))

  pub import_by_backed : {e' : ℕ} (s : State S) (c : Code) (ce : c.context.module_ ≡ modular) (sl' : Live.live s.source) → Backed m Live edge true e' s (import_by m im c s) (λ r'. import_by lm il c r')
  unfolding import_by
  import_by_backed s c ce sl' = back_word w {s = s} c import_kind (refl, refl, refl, refl) refl sl' _ _ (λ j1. back_at w {s = (past m s)} dot_kind (refl, refl, refl, refl) refl (live_past w j1) _ _ _ _ (λ j2. back_past w {s = (past m s)} j2 _ (λ r' q'. (eat_word lm c meta_kind q' >>= λ t. Ok (meta_prop_expr (spanned lm (lo (input lm (was m Live (token w j1) r'))) t) import_kind, t))) (back_word w {s = (past m (past m s))} c meta_kind (refl, refl, refl, refl) refl (live_past w j2) _ _ (λ j3. back_ok {s = (past m (past m (past m s)))} _ _ (live_past w j3) (λ qs' h'. ap (λ (z' : ℕ). meta_prop_expr ((span z' (m.last (past m (past m (past m s))).source))) import_kind) (lo_was w (join (join (token w j1) (token w j2)) (token w j3)) qs' h')) ((λ i'. absurd (true≢false i')), (λ i'. absurd (true≢false i')))))) (back_eat w {s = (past m s)} left_paren_kind (refl, refl, refl, refl) refl (live_past w j1) _ _ (λ j4. back_then _ _ _ _ (elements_by_backed (past m (past m s)) c ce false right_paren_kind (refl, refl, refl, refl) refl (live_past w j4)) (λ xs5a xs5s xs5u. back_test (fits_import m im c xs5a) (λ r'. fits_import lm il c xs5a) _ _ _ _ (λ qs' h'. refl) (λ y7. back_ok {s = xs5s} _ _ xs5u.live (λ qs' h'. ap (λ (z' : ℕ). call_expr ((span z' (m.last xs5s.source))) (import ((first lm il (was m Live (join (join (token w j1) (token w j4)) xs5u) (list_at m Live xs5s qs'))))) (pack xs5a.items)) (lo_was w (join (join (token w j1) (token w j4)) xs5u) qs' h') ∙ (ap (λ (z' : Span). call_expr ((spanned m (lo (input m s)) xs5s)) (import (z')) (pack xs5a.items)) (first_was w (join (join (token w j1) (token w j4)) xs5u) (took_join (join (token w j1) (token w j4)) xs5u (took_join (token w j1) (token w j4) (took_token w j1))) qs' h'))) ((λ i'. absurd (true≢false i')), (λ i'. absurd (true≢false i')))) (λ _. back_never)))))

  pub unary_by_backed : {e' : ℕ} (s : State S) (c : Code) (ce : c.context.module_ ≡ modular) (j' : Here m Live s) → Backed m Live edge true e' s (unary_by m im c s) (λ r'. unary_by lm il c r')
  unfolding unary_by
  unary_by_backed s c ce j' = back_own w {s = s} c j' _ _ (back_then _ _ _ _ (echo.expr c ce unary_level (past m s) (live_past w j')) (λ e2a e2s e2u. back_ok {s = e2s} _ _ e2u.live (λ qs' h'. ap (λ (z' : ℕ). unary_expr ((span z' (m.last e2s.source))) ((kind (input lm (was m Live (join (token w j') e2u) (list_at m Live e2s qs'))))) e2a) (lo_was w (join (token w j') e2u) qs' h') ∙ (ap (λ (z' : ℕ). unary_expr ((spanned m (lo (input m s)) e2s)) (z') e2a) (kind_was w (join (token w j') e2u) (took_join (token w j') e2u (took_token w j')) qs' h'))) ((λ i'. i'), (λ i'. i'))))

  pub update_by_backed : {e' : ℕ} (s : State S) (c : Code) (ce : c.context.module_ ≡ modular) (j' : Here m Live s) → Backed m Live edge true e' s (update_by m im c s) (λ r'. update_by lm il c r')
  unfolding update_by
  update_by_backed s c ce j' = back_past w {s = s} j' _ (λ r' q'. (il.expr c unary_level q' >>= λ e. Ok (update_expr (spanned lm (lo (input lm r')) e.1) (kind (input lm r')) true e.0, e.1))) (back_then _ _ _ _ (echo.expr c ce unary_level (past m s) (live_past w j')) (λ e1a e1s e1u. back_ok {s = e1s} _ _ e1u.live (λ qs' h'. ap (λ (z' : ℕ). update_expr ((span z' (m.last e1s.source))) ((kind (input lm (was m Live (join (token w j') e1u) (list_at m Live e1s qs'))))) true e1a) (lo_was w (join (token w j') e1u) qs' h') ∙ (ap (λ (z' : ℕ). update_expr ((spanned m (lo (input m s)) e1s)) (z') true e1a) (kind_was w (join (token w j') e1u) (took_join (token w j') e1u (took_token w j')) qs' h'))) ((λ i'. i'), (λ i'. i'))))

  pub await_by_backed : {e' : ℕ} (s : State S) (c : Code) (ce : c.context.module_ ≡ modular) (sl' : Live.live s.source) → Backed m Live edge true e' s (await_by m im c s) (λ r'. await_by lm il c r')
  unfolding await_by
  await_by_backed s c ce sl' = back_word w {s = s} c await_kind (refl, refl, refl, refl) refl sl' _ _ (λ j1. back_then _ _ _ _ (echo.expr c ce unary_level (past m s) (live_past w j1)) (λ e2a e2s e2u. back_ok {s = e2s} _ _ e2u.live (λ qs' h'. ap (λ (z' : ℕ). await_expr ((span z' (m.last e2s.source))) e2a) (lo_was w (join (token w j1) e2u) qs' h')) ((λ i'. i'), (λ i'. i'))))

  pub yield_end_backed : (r : State S) (c : Code) (ce : c.context.module_ ≡ modular) (s : State S) (su : Path m Live s r) (rl' : Live.live r.source) → Backed m Live edge false closed_end r (yield_end m im c (lo (input m s)) r) (λ r'. yield_end lm il c (lo (input lm (was m Live su r'))) r')
  unfolding yield_end
  yield_end_backed r c ce s su rl' = back_if w {s = r} (λ z'. brk (input lm (on [] 0 z')) || ends_yield lm il (kind (input lm (on [] 0 z')))) ((λ p' q' l' v'. refl), (λ p' q' l' v'. refl), (λ p' l' v'. refl)) rl' _ _ _ _ (λ y1. back_ok {s = r} _ _ rl' (λ qs' h'. ap (λ (z' : ℕ). yield_expr ((span z' (m.last r.source))) absent false) (lo_was w su qs' h')) ((λ i'. absurd (true≢false i')), (λ i'. absurd (true≢false i')))) (back_weak _ (back_at w {s = r} mul_kind (refl, refl, refl, refl) refl rl' _ _ _ _ (λ j2. back_past w {s = r} j2 _ (λ r' q'. (il.expr c assignment_level q' >>= λ e. Ok (yield_expr (spanned lm (lo (input lm (was m Live su r'))) e.1) e.0 true, e.1))) (back_then_by _ _ _ _ (echo.expr c ce assignment_level (past m r) (live_past w j2)) (λ e3a e3s e3u q4. back_ok {s = e3s} _ _ e3u.live (λ qs' h'. ap (λ (z' : ℕ). yield_expr ((span z' (m.last e3s.source))) e3a true) (lo_was w (join (join su (token w j2)) e3u) qs' h')) (yield_open e3a (echo.solid _ _ _ _ _ q4).1)))) (back_then_by _ _ _ _ (echo.expr c ce assignment_level r rl') (λ e5a e5s e5u q6. back_ok {s = e5s} _ _ e5u.live (λ qs' h'. ap (λ (z' : ℕ). yield_expr ((span z' (m.last e5s.source))) e5a false) (lo_was w (join su e5u) qs' h')) (yield_open e5a (echo.solid _ _ _ _ _ q6).1)))))

  pub yield_by_backed : {e' : ℕ} (s : State S) (c : Code) (ce : c.context.module_ ≡ modular) (sl' : Live.live s.source) → Backed m Live edge true e' s (yield_by m im c s) (λ r'. yield_by lm il c r')
  unfolding yield_by
  yield_by_backed s c ce sl' = back_word w {s = s} c yield_kind (refl, refl, refl, refl) refl sl' _ _ (λ j1. yield_end_backed (past m s) c ce s (token w j1) (live_past w j1))

  pub word_by_backed : {e' : ℕ} (s : State S) (c : Code) (ce : c.context.module_ ≡ modular) (l : ℕ) (sl' : Live.live s.source) → Backed m Live edge true e' s (word_by m im c l s) (λ r'. word_by lm il c l r')
  unfolding word_by
  word_by_backed s c ce l sl' = back_test (at m async_kind s) (λ r'. at lm async_kind r') _ _ _ _ (λ qs' h'. at_hand w async_kind (refl, refl, refl, refl) s sl' qs' h') (λ y1. async_by_backed s c ce l (here_at w async_kind (refl, refl, refl, refl) refl s sl' y1) y1) (λ _. back_name w {s = s} c sl' _ _ (λ n3 j2. ident_end_backed (past m s) c ce l s (token w j2) (took_token w j2) n3 (live_past w j2)))

  pub fixed_backed : {e' : ℕ} (s : State S) (c : Code) (ce : c.context.module_ ≡ modular) (f : (Span → Tree)) (j' : Here m Live s) → Backed m Live edge true e' s (fixed m im c f s) (λ r'. fixed lm il c f r')
  fixed_backed s c ce f j' = back_own w {s = s} c j' _ _ (back_ok {s = (past m s)} _ _ (live_past w j') (λ qs' h'. ap (λ (z' : ℕ). f ((span z' (m.last (past m s).source)))) (lo_was w (token w j') qs' h')) ((λ i'. absurd (true≢false i')), (λ i'. absurd (true≢false i'))))

  pub keyword_by_backed : {e' : ℕ} (s : State S) (c : Code) (ce : c.context.module_ ≡ modular) (l : ℕ) (sl' : Live.live s.source) → Backed m Live edge true e' s (keyword_by m im c l s) (λ r'. keyword_by lm il c l r')
  unfolding keyword_by
  keyword_by_backed s c ce l sl' = back_at w {s = s} this_kind (refl, refl, refl, refl) refl sl' _ _ _ _ (λ j1. fixed_backed s c ce this_expr j1) (back_at w {s = s} null_kind (refl, refl, refl, refl) refl sl' _ _ _ _ (λ j2. fixed_backed s c ce null_lit j2) (back_at w {s = s} true_kind (refl, refl, refl, refl) refl sl' _ _ _ _ (λ j3. fixed_backed s c ce (λ p. bool_lit p true) j3) (back_at w {s = s} false_kind (refl, refl, refl, refl) refl sl' _ _ _ _ (λ j4. fixed_backed s c ce (λ p. bool_lit p false) j4) (back_at w {s = s} function_kind (refl, refl, refl, refl) refl sl' _ _ _ _ (λ j5. back_closed _ (back_same _ (λ r'. function_expr_by lm il c (lo (input lm ((was m Live (stay {s = s} sl') r')))) false r') (λ r'. function_expr_by lm il c (lo (input lm r')) false r') (λ qs' h'. refl) (function_expr_by_backed s c ce s (stay {s = s} sl') false sl'))) (back_at w {s = s} class_kind (refl, refl, refl, refl) refl sl' _ _ _ _ (λ j6. back_closed _ (class_expr_by_backed s c ce sl')) (back_at w {s = s} new_kind (refl, refl, refl, refl) refl sl' _ _ _ _ (λ j7. new_by_backed s c ce sl') (back_at w {s = s} super_kind (refl, refl, refl, refl) refl sl' _ _ _ _ (λ j8. back_word w {s = s} c super_kind (refl, refl, refl, refl) refl sl' _ (λ r' q'. super_end lm il c (first_span (input lm r')) q') (λ j9. super_end_backed (past m s) c ce s (token w j9) (took_token w j9) (live_past w j9))) (back_at w {s = s} import_kind (refl, refl, refl, refl) refl sl' _ _ _ _ (λ j10. import_by_backed s c ce sl') (back_if w {s = s} (λ z'. is_unary (kind (input lm (on [] 0 z')))) ((λ p' q' l' v'. refl), (λ p' q' l' v'. refl), (λ p' l' v'. refl)) sl' _ _ _ _ (λ y11. unary_by_backed s c ce (here_by w (λ z'. is_unary (kind (input lm (on [] 0 z')))) (refl, λ p' v'. refl) s sl' y11)) (back_if w {s = s} (λ z'. at lm await_kind (on [] 0 z') && c.context.in_async) ((λ p' q' l' v'. refl), (λ p' q' l' v'. refl), (λ p' l' v'. refl)) sl' _ _ _ _ (λ y12. await_by_backed s c ce sl') (back_if w {s = s} (λ z'. at lm yield_kind (on [] 0 z') && c.context.in_generator) ((λ p' q' l' v'. refl), (λ p' q' l' v'. refl), (λ p' l' v'. refl)) sl' _ _ _ _ (λ y13. yield_by_backed s c ce sl') (word_by_backed s c ce l sl'))))))))))))

  pub prefix_by_backed : {e' : ℕ} (s : State S) (c : Code) (ce : c.context.module_ ≡ modular) (l : ℕ) (sl' : Live.live s.source) → Backed m Live edge true e' s (prefix_by m im c l s) (λ r'. prefix_by lm il c l r')
  unfolding prefix_by
  prefix_by_backed s c ce l sl' = back_if w {s = s} (λ z'. is_word (kind (input lm (on [] 0 z')))) ((λ p' q' l' v'. refl), (λ p' q' l' v'. refl), (λ p' l' v'. refl)) sl' _ _ _ _ (λ y1. keyword_by_backed s c ce l sl') (back_at w {s = s} left_paren_kind (refl, refl, refl, refl) refl sl' _ _ _ _ (λ j2. group_by_backed s c ce l j2) (back_at w {s = s} left_bracket_kind (refl, refl, refl, refl) refl sl' _ _ _ _ (λ j3. back_closed _ (array_by_backed s c ce j3)) (back_at w {s = s} left_brace_kind (refl, refl, refl, refl) refl sl' _ _ _ _ (λ j4. back_closed _ (object_by_backed s c ce j4)) (back_at w {s = s} back_quote_kind (refl, refl, refl, refl) refl sl' _ _ _ _ (λ j5. back_closed _ (template_by_backed s c ce false j5)) (back_if w {s = s} (λ z'. is_unary (kind (input lm (on [] 0 z')))) ((λ p' q' l' v'. refl), (λ p' q' l' v'. refl), (λ p' l' v'. refl)) sl' _ _ _ _ (λ y6. unary_by_backed s c ce (here_by w (λ z'. is_unary (kind (input lm (on [] 0 z')))) (refl, λ p' v'. refl) s sl' y6)) (back_if w {s = s} (λ z'. between plus_plus_kind minus_minus_kind (kind (input lm (on [] 0 z')))) ((λ p' q' l' v'. refl), (λ p' q' l' v'. refl), (λ p' l' v'. refl)) sl' _ _ _ _ (λ y7. update_by_backed s c ce (here_by w (λ z'. between plus_plus_kind minus_minus_kind (kind (input lm (on [] 0 z')))) (refl, λ p' v'. refl) s sl' y7)) (literal_by_backed s sl')))))))

  pub member_name_backed : {e' : ℕ} (s : State S) (may_private : Bool) (sl' : Live.live s.source) → Backed m Live closed true e' s (member_name m im may_private s) (λ r'. member_name lm il may_private r')
  unfolding member_name
  member_name_backed s may_private sl' = back_at w {s = s} hash_kind (refl, refl, refl, refl) refl sl' _ _ _ _ (λ j1. back_test may_private (λ r'. may_private) _ _ _ _ (λ qs' h'. refl) (λ y2. private_by_backed s sl') (λ _. back_never)) (back_any w {s = s} sl' _ _ (λ n4 j3. back_ok {s = (past m s)} _ _ (live_past w j3) (λ qs' h'. ap (λ (z' : Span). ident_name (z') n4) (first_was w (token w j3) (took_token w j3) qs' h')) ((λ i'. absurd (true≢false i')), (λ i'. absurd (true≢false i')))))

  pub member_by_backed : {e' : ℕ} (s : State S) (c : Code) (ce : c.context.module_ ≡ modular) (start : State S) (startu : Path m Live start s) (t : Tree) (j' : Here m Live s) → Backed m Live edge true e' s (member_by m im c (lo (input m start)) t s) (λ r'. member_by lm il c (lo (input lm (was m Live startu r'))) t r')
  unfolding member_by
  member_by_backed s c ce start startu t j' = back_past w {s = s} j' _ (λ r' q'. (member_name lm il true q' >>= λ k. Ok (on_chain lm il (is_chain t) (spanned lm (lo (input lm (was m Live startu r'))) k.1) (member_expr (spanned lm (lo (input lm (was m Live startu r'))) k.1) t k.0), k.1))) (back_then _ _ _ _ (member_name_backed (past m s) true (live_past w j')) (λ k1a k1s k1u. back_ok {s = k1s} _ _ k1u.live (λ qs' h'. ap (λ (z' : ℕ). on_chain m im (is_chain t) ((span z' (m.last k1s.source))) (member_expr ((span z' (m.last k1s.source))) t k1a)) (lo_was w (join (join startu (token w j')) k1u) qs' h')) ((λ i'. absurd (true≢false i')), (λ i'. absurd (true≢false i')))))

  pub index_by_backed : {e' : ℕ} (s : State S) (c : Code) (ce : c.context.module_ ≡ modular) (start : State S) (startu : Path m Live start s) (t : Tree) (j' : Here m Live s) → Backed m Live edge true e' s (index_by m im c (lo (input m start)) t s) (λ r'. index_by lm il c (lo (input lm (was m Live startu r'))) t r')
  unfolding index_by
  index_by_backed s c ce start startu t j' = back_then _ _ _ _ (computed_by_backed s c ce expression_level j') (λ k1a k1s k1u. back_ok {s = k1s} _ _ k1u.live (λ qs' h'. ap (λ (z' : ℕ). on_chain m im (is_chain t) ((span z' (m.last k1s.source))) (member_expr ((span z' (m.last k1s.source))) t k1a)) (lo_was w (join startu k1u) qs' h')) ((λ i'. absurd (true≢false i')), (λ i'. absurd (true≢false i'))))

  pub call_by_backed : {e' : ℕ} (s : State S) (c : Code) (ce : c.context.module_ ≡ modular) (start : State S) (startu : Path m Live start s) (t : Tree) (j' : Here m Live s) → Backed m Live edge true e' s (call_by m im c (lo (input m start)) t s) (λ r'. call_by lm il c (lo (input lm (was m Live startu r'))) t r')
  unfolding call_by
  call_by_backed s c ce start startu t j' = back_past w {s = s} j' _ (λ r' q'. (arguments_by lm il c q' >>= λ xs. Ok (call_tree lm il (spanned lm (lo (input lm (was m Live startu r'))) xs.1) t xs.0, xs.1))) (back_then _ _ _ _ (arguments_by_backed (past m s) c ce (live_past w j')) (λ xs1a xs1s xs1u. back_ok {s = xs1s} _ _ xs1u.live (λ qs' h'. ap (λ (z' : ℕ). call_tree m im ((span z' (m.last xs1s.source))) t xs1a) (lo_was w (join (join startu (token w j')) xs1u) qs' h')) ((λ i'. absurd (true≢false i')), (λ i'. absurd (true≢false i')))))

  pub chain_by_backed : {e' : ℕ} (s : State S) (c : Code) (ce : c.context.module_ ≡ modular) (start : State S) (startu : Path m Live start s) (t : Tree) (sl' : Live.live s.source) → Backed m Live edge true e' s (chain_by m im c (lo (input m start)) t s) (λ r'. chain_by lm il c (lo (input lm (was m Live startu r'))) t r')
  unfolding chain_by
  chain_by_backed s c ce start startu t sl' = back_at w {s = s} left_paren_kind (refl, refl, refl, refl) refl sl' _ _ _ _ (λ j1. back_past w {s = s} j1 _ (λ r' q'. (arguments_by lm il c q' >>= λ xs. Ok (opt_chain_expr (spanned lm (lo (input lm (was m Live startu r'))) xs.1) true (opt_call (spanned lm (lo (input lm (was m Live startu r'))) xs.1) t (pack xs.0)), xs.1))) (back_then _ _ _ _ (arguments_by_backed (past m s) c ce (live_past w j1)) (λ xs2a xs2s xs2u. back_ok {s = xs2s} _ _ xs2u.live (λ qs' h'. ap (λ (z' : ℕ). opt_chain_expr ((span z' (m.last xs2s.source))) true (opt_call ((span z' (m.last xs2s.source))) t (pack xs2a))) (lo_was w (join (join startu (token w j1)) xs2u) qs' h')) ((λ i'. absurd (true≢false i')), (λ i'. absurd (true≢false i')))))) (back_at w {s = s} left_bracket_kind (refl, refl, refl, refl) refl sl' _ _ _ _ (λ j4. back_then _ _ _ _ (computed_by_backed s c ce expression_level j4) (λ k5a k5s k5u. back_ok {s = k5s} _ _ k5u.live (λ qs' h'. ap (λ (z' : ℕ). opt_chain_expr ((span z' (m.last k5s.source))) true (member_expr ((span z' (m.last k5s.source))) t k5a)) (lo_was w (join startu k5u) qs' h')) ((λ i'. absurd (true≢false i')), (λ i'. absurd (true≢false i'))))) (back_then _ _ _ _ (member_name_backed s true sl') (λ k7a k7s k7u. back_ok {s = k7s} _ _ k7u.live (λ qs' h'. ap (λ (z' : ℕ). opt_chain_expr ((span z' (m.last k7s.source))) true (member_expr ((span z' (m.last k7s.source))) t k7a)) (lo_was w (join startu k7u) qs' h')) ((λ i'. absurd (true≢false i')), (λ i'. absurd (true≢false i'))))))

  pub cond_by_backed : {e' : ℕ} (s : State S) (c : Code) (ce : c.context.module_ ≡ modular) (start : State S) (startu : Path m Live start s) (t : Tree) (j' : Here m Live s) → Backed m Live edge true e' s (cond_by m im c (lo (input m start)) t s) (λ r'. cond_by lm il c (lo (input lm (was m Live startu r'))) t r')
  unfolding cond_by
  cond_by_backed s c ce start startu t j' = back_past w {s = s} j' _ (λ r' q'. (il.expr (with_in c) assignment_level q' >>= λ a. (eat lm colon_kind a.1 >>= λ r. (il.expr c assignment_level r >>= λ b. Ok (cond_expr (spanned lm (lo (input lm (was m Live startu r'))) b.1) t a.0 b.0, b.1))))) (back_then _ _ _ _ (echo.expr (with_in c) ce assignment_level (past m s) (live_past w j')) (λ a1a a1s a1u. back_eat w {s = a1s} colon_kind (refl, refl, refl, refl) refl a1u.live _ _ (λ j3. back_then _ _ _ _ (echo.expr c ce assignment_level (past m a1s) (live_past w j3)) (λ b4a b4s b4u. back_ok {s = b4s} _ _ b4u.live (λ qs' h'. ap (λ (z' : ℕ). cond_expr ((span z' (m.last b4s.source))) t a1a b4a) (lo_was w (join (join (join (join startu (token w j')) a1u) (token w j3)) b4u) qs' h')) ((λ i'. i'), (λ i'. i'))))))

  pub assign_by_backed : {e' : ℕ} (s : State S) (c : Code) (ce : c.context.module_ ≡ modular) (start : State S) (startu : Path m Live start s) (t : Tree) (j' : Here m Live s) → Backed m Live edge true e' s (assign_by m im c (lo (input m start)) t s) (λ r'. assign_by lm il c (lo (input lm (was m Live startu r'))) t r')
  unfolding assign_by
  assign_by_backed s c ce start startu t j' = back_past w {s = s} j' _ (λ r' q'. (placed (bound lm r') (to_target (kind (input lm r')) r'.commas t) >>= λ p. (il.expr c assignment_level q' >>= λ e. Ok (assign_expr (spanned lm (lo (input lm (was m Live startu r'))) e.1) (kind (input lm r')) p e.0, e.1)))) (back_pure _ _ _ _ _ _ (λ qs' h'. ap (λ (z' : ℕ). to_target (z') s.commas t) (kind_was w (token w j') (took_token w j') qs' h')) (λ p2. back_then _ _ _ _ (echo.expr c ce assignment_level (past m s) (live_past w j')) (λ e3a e3s e3u. back_ok {s = e3s} _ _ e3u.live (λ qs' h'. ap (λ (z' : ℕ). assign_expr ((span z' (m.last e3s.source))) ((kind (input lm (was m Live (join (token w j') e3u) (list_at m Live e3s qs'))))) p2 e3a) (lo_was w (join (join startu (token w j')) e3u) qs' h') ∙ (ap (λ (z' : ℕ). assign_expr ((spanned m (lo (input m start)) e3s)) (z') p2 e3a) (kind_was w (join (token w j') e3u) (took_join (token w j') e3u (took_token w j')) qs' h'))) ((λ i'. i'), (λ i'. i')))))

  pub binary_by_backed : {e' : ℕ} (s : State S) (c : Code) (ce : c.context.module_ ≡ modular) (start : State S) (startu : Path m Live start s) (t : Tree) (j' : Here m Live s) → Backed m Live edge true e' s (binary_by m im c (lo (input m start)) t s) (λ r'. binary_by lm il c (lo (input lm (was m Live startu r'))) t r')
  unfolding binary_by
  binary_by_backed s c ce start startu t j' = back_own w {s = s} c j' _ _ (back_then _ _ _ _ (back_same _ (λ r'. il.expr c (right_level ((kind (input m s)))) r') (λ r'. il.expr c (right_level (kind (input lm (was m Live (token w j') r')))) r') (λ qs' h'. ap (λ (z' : ℕ). il.expr c (right_level (z')) (list_at m Live (past m s) qs')) (kind_was w (token w j') (took_token w j') qs' h')) (echo.expr c ce ((right_level (kind (input m s)))) (past m s) (live_past w j'))) (λ e2a e2s e2u. back_ok {s = e2s} _ _ e2u.live (λ qs' h'. ap (λ (z' : ℕ). bin_expr ((span z' (m.last e2s.source))) ((kind (input lm (was m Live (join (token w j') e2u) (list_at m Live e2s qs'))))) t e2a) (lo_was w (join (join startu (token w j')) e2u) qs' h') ∙ (ap (λ (z' : ℕ). bin_expr ((spanned m (lo (input m start)) e2s)) (z') t e2a) (kind_was w (join (token w j') e2u) (took_join (token w j') e2u (took_token w j')) qs' h'))) ((λ i'. i'), (λ i'. i'))))

  no_slash : (T : ℕ → Bool) → T div_assign_kind ≡ false → T div_kind ≡ false → (s : State S) → is_slash (kind (input m s)) ≡ true → T (kind (input m s)) ≡ true → ⊥
  no_slash T a b s e y = by_test (eqb (kind (input m s)) div_kind) refl e
    where
      by_test : (t : Bool) → eqb (kind (input m s)) div_kind ≡ t → (t || eqb (kind (input m s)) div_assign_kind) ≡ true → ⊥
      by_test true i o = true≢false (sym y ∙ (ap T (eqb-true (kind (input m s)) div_kind i) ∙ b))
      by_test false i o = true≢false (sym y ∙ (ap T (eqb-true (kind (input m s)) div_assign_kind o) ∙ a))

  assign_slash : (s : State S) (c : Code) (ce : c.context.module_ ≡ modular) (start : State S) (startp : Path m Live start (past m s)) (t : Tree) (j' : Here m Live s) → Backed m Live edge false closed_end (past m s) (assign_by m im c (lo (input m start)) t s) (λ q'. assign_by lm il c (lo (input lm (was m Live startp q'))) t (was m Live (token w j') q'))
  unfolding assign_by
  assign_slash s c ce start startp t j' = back_past_again w {s = s} j' _ (λ r' q'. (placed (bound lm (was m Live (token w j') r')) (to_target (kind (input lm (was m Live (token w j') r'))) (was m Live (token w j') r').commas t) >>= λ p. (il.expr c assignment_level q' >>= λ e. Ok (assign_expr (spanned lm (lo (input lm (was m Live startp r'))) e.1) (kind (input lm (was m Live (token w j') r'))) p e.0, e.1)))) (back_weak _ (back_pure _ _ _ _ _ _ (λ qs' h'. ap (λ (z' : ℕ). to_target (z') s.commas t) (kind_was w (token w j') (took_token w j') qs' h')) (λ p1. back_then _ _ _ _ (echo.expr c ce assignment_level (past m s) (live_past w j')) (λ e2a e2s e2u. back_ok {s = e2s} _ _ e2u.live (λ qs' h'. ap (λ (z' : ℕ). assign_expr ((span z' (m.last e2s.source))) ((kind (input lm (was m Live (join (token w j') e2u) (list_at m Live e2s qs'))))) p1 e2a) (lo_was w (join startp e2u) qs' h') ∙ (ap (λ (z' : ℕ). assign_expr ((spanned m (lo (input m start)) e2s)) (z') p1 e2a) (kind_was w (join (token w j') e2u) (took_join (token w j') e2u (took_token w j')) qs' h'))) ((λ i'. i'), (λ i'. i'))))))

  binary_slash : (s : State S) (c : Code) (ce : c.context.module_ ≡ modular) (start : State S) (startp : Path m Live start (past m s)) (t : Tree) (j' : Here m Live s) → Backed m Live edge false closed_end (past m s) (binary_by m im c (lo (input m start)) t s) (λ q'. binary_by lm il c (lo (input lm (was m Live startp q'))) t (was m Live (token w j') q'))
  unfolding binary_by
  binary_slash s c ce start startp t j' = back_weak _ (back_own_again w {s = s} c j' _ _ (back_then _ _ _ _ (back_same _ (λ r'. il.expr c (right_level ((kind (input m s)))) r') (λ r'. il.expr c (right_level (kind (input lm (was m Live (token w j') r')))) r') (λ qs' h'. ap (λ (z' : ℕ). il.expr c (right_level (z')) (list_at m Live (past m s) qs')) (kind_was w (token w j') (took_token w j') qs' h')) (echo.expr c ce ((right_level (kind (input m s)))) (past m s) (live_past w j'))) (λ e1a e1s e1u. back_ok {s = e1s} _ _ e1u.live (λ qs' h'. ap (λ (z' : ℕ). bin_expr ((span z' (m.last e1s.source))) ((kind (input lm (was m Live (join (token w j') e1u) (list_at m Live e1s qs'))))) t e1a) (lo_was w (join startp e1u) qs' h') ∙ (ap (λ (z' : ℕ). bin_expr ((spanned m (lo (input m start)) e1s)) (z') t e1a) (kind_was w (join (token w j') e1u) (took_join (token w j') e1u (took_token w j')) qs' h'))) ((λ i'. i'), (λ i'. i')))))

  -- one operator where a slash comes
  step_slash : (s : State S) (c : Code) (ce : c.context.module_ ≡ modular) (start : State S) (startp : Path m Live start (past m s)) (t : Tree) (j' : Here m Live s) (sk : is_slash (kind (input m s)) ≡ true) → Backed m Live edge false closed_end (past m s) (step_by m im c (lo (input m start)) t s) (λ q'. step_by lm il c (lo (input lm (was m Live startp q'))) t (was m Live (token w j') q'))
  unfolding step_by
  step_slash s c ce start startp t j' sk = back_test (at m comma_kind s) (λ r'. at lm comma_kind (was m Live (token w j') r')) _ _ _ _ (λ qs' h'. has_was w (λ z'. at lm comma_kind (on [] 0 z')) (λ p' l' v'. refl) (token w j') (took_token w j') qs' h') (λ y1. absurd (no_slash (λ z'. eqb z' comma_kind) refl refl s sk y1)) (λ _. back_test (is_assign_op (kind (input m s))) (λ r'. is_assign_op (kind (input lm (was m Live (token w j') r')))) _ _ _ _ (λ qs' h'. has_was w (λ z'. is_assign_op (kind (input lm (on [] 0 z')))) (λ p' l' v'. refl) (token w j') (took_token w j') qs' h') (λ y2. assign_slash s c ce start startp t j') (λ _. back_test (at m question_mark_kind s && (kind2 (input m s) == dot_kind)) (λ r'. at lm question_mark_kind (was m Live (token w j') r') && (kind2 (input lm (was m Live (token w j') r')) == dot_kind)) _ _ _ _ (λ qs' h'. agrees_was_two w (λ z'. at lm question_mark_kind (on [] 0 z') && (kind2 (input lm (on [] 0 z')) == dot_kind)) ((λ p' q' l' v'. refl), (λ p' q' l' v'. refl), (λ n' p' q' l' v'. refl), (λ n' p' q' l' v'. refl), (λ n' p' l' v'. refl)) (token w j') (omega arith) qs' h') (λ y3. absurd (no_slash (λ z'. eqb z' question_mark_kind) refl refl s sk (and_first _ _ y3))) (λ _. back_test (at m question_mark_kind s) (λ r'. at lm question_mark_kind (was m Live (token w j') r')) _ _ _ _ (λ qs' h'. has_was w (λ z'. at lm question_mark_kind (on [] 0 z')) (λ p' l' v'. refl) (token w j') (took_token w j') qs' h') (λ y4. absurd (no_slash (λ z'. eqb z' question_mark_kind) refl refl s sk y4)) (λ _. back_test (operates c (kind (input m s))) (λ r'. operates c (kind (input lm (was m Live (token w j') r')))) _ _ _ _ (λ qs' h'. has_was w (λ z'. operates c (kind (input lm (on [] 0 z')))) (λ p' l' v'. refl) (token w j') (took_token w j') qs' h') (λ y5. back_test (fits_left (kind (input m s)) t) (λ r'. fits_left (kind (input lm (was m Live (token w j') r'))) t) _ _ _ _ (λ qs' h'. has_was w (λ z'. fits_left (kind (input lm (on [] 0 z'))) t) (λ p' l' v'. refl) (token w j') (took_token w j') qs' h') (λ y6. binary_slash s c ce start startp t j') (λ _. back_never)) (λ _. back_test (between plus_plus_kind minus_minus_kind (kind (input m s))) (λ r'. between plus_plus_kind minus_minus_kind (kind (input lm (was m Live (token w j') r')))) _ _ _ _ (λ qs' h'. has_was w (λ z'. between plus_plus_kind minus_minus_kind (kind (input lm (on [] 0 z')))) (λ p' l' v'. refl) (token w j') (took_token w j') qs' h') (λ y7. absurd (no_slash (λ z'. between plus_plus_kind minus_minus_kind (z')) refl refl s sk y7)) (λ _. back_test (not (nat_le call_level (level t))) (λ r'. not (nat_le call_level (level t))) _ _ _ _ (λ qs' h'. refl) (λ y8. back_never) (λ _. back_test (at m left_paren_kind s) (λ r'. at lm left_paren_kind (was m Live (token w j') r')) _ _ _ _ (λ qs' h'. has_was w (λ z'. at lm left_paren_kind (on [] 0 z')) (λ p' l' v'. refl) (token w j') (took_token w j') qs' h') (λ y9. absurd (no_slash (λ z'. eqb z' left_paren_kind) refl refl s sk y9)) (λ _. back_test (at m left_bracket_kind s) (λ r'. at lm left_bracket_kind (was m Live (token w j') r')) _ _ _ _ (λ qs' h'. has_was w (λ z'. at lm left_bracket_kind (on [] 0 z')) (λ p' l' v'. refl) (token w j') (took_token w j') qs' h') (λ y10. absurd (no_slash (λ z'. eqb z' left_bracket_kind) refl refl s sk y10)) (λ _. back_test (at m dot_kind s) (λ r'. at lm dot_kind (was m Live (token w j') r')) _ _ _ _ (λ qs' h'. has_was w (λ z'. at lm dot_kind (on [] 0 z')) (λ p' l' v'. refl) (token w j') (took_token w j') qs' h') (λ y11. absurd (no_slash (λ z'. eqb z' dot_kind) refl refl s sk y11)) (λ _. back_test (at m back_quote_kind s && not (is_chain t)) (λ r'. at lm back_quote_kind (was m Live (token w j') r') && not (is_chain t)) _ _ _ _ (λ qs' h'. has_was w (λ z'. at lm back_quote_kind (on [] 0 z') && not (is_chain t)) (λ p' l' v'. refl) (token w j') (took_token w j') qs' h') (λ y12. absurd (no_slash (λ z'. eqb z' back_quote_kind) refl refl s sk (and_first _ _ y12))) (λ _. back_never)))))))))))

  -- and where none comes
  step_plain : {e : ℕ} (s : State S) (c : Code) (ce : c.context.module_ ≡ modular) (start : State S) (startu : Path m Live start s) (t : Tree) (ns : is_slash (kind (input m s)) ≡ false) (sl' : Live.live s.source) → Backed m Live edge true e s (step_by m im c (lo (input m start)) t s) (λ r'. step_by lm il c (lo (input lm (was m Live startu r'))) t r')
  unfolding step_by
  step_plain s c ce start startu t ns sl' = back_at w {s = s} comma_kind (refl, refl, refl, refl) refl sl' _ _ _ _ (λ j1. back_past w {s = s} j1 _ (λ r' q'. (il.expr c assignment_level q' >>= λ e. Ok (extended t e.0 (spanned lm (lo (input lm (was m Live startu r'))) e.1), e.1))) (back_then _ _ _ _ (echo.expr c ce assignment_level (past m s) (live_past w j1)) (λ e2a e2s e2u. back_ok {s = e2s} _ _ e2u.live (λ qs' h'. ap (λ (z' : ℕ). extended t e2a ((span z' (m.last e2s.source)))) (lo_was w (join (join startu (token w j1)) e2u) qs' h')) (extended_open t e2a ((spanned m (lo (input m start)) e2s)))))) (back_test (is_assign_op (kind (input m s))) (λ r'. is_assign_op (kind (input lm r'))) _ _ _ _ (λ qs' h'. agrees_plain w (λ z'. is_assign_op (kind (input lm (on [] 0 z')))) (λ p' l' v'. refl) s ns sl' qs' h') (λ y4. assign_by_backed s c ce start startu t (here_by w (λ z'. is_assign_op (kind (input lm (on [] 0 z')))) (refl, λ p' v'. refl) s sl' y4)) (λ _. back_two w {s = s} (λ z'. at lm question_mark_kind (on [] 0 z') && (kind2 (input lm (on [] 0 z')) == dot_kind)) ((λ p' q' l' v'. refl), (λ p' q' l' v'. refl), (λ n' p' q' l' v'. refl), (λ n' p' q' l' v'. refl), (λ n' p' l' v'. refl)) sl' _ _ _ _ (λ y5. back_test (nat_le call_level (level t)) (λ r'. nat_le call_level (level t)) _ _ _ _ (λ qs' h'. refl) (λ y6. back_past w {s = s} (here_at w question_mark_kind (refl, refl, refl, refl) refl s sl' (and_first _ _ y5)) _ (λ r' q'. chain_by lm il c (lo (input lm (was m Live startu r'))) t (past lm q')) (back_past w {s = (past m s)} (here_second w (λ z'. kind2 (input lm (on [] 0 z')) == dot_kind) s (here_at w question_mark_kind (refl, refl, refl, refl) refl s sl' (and_first _ _ y5)) (λ p'. refl) (λ p' q' l'. refl) (and_second _ _ y5)) _ (λ r' q'. chain_by lm il c (lo (input lm (was m Live (join startu (token w (here_at w question_mark_kind (refl, refl, refl, refl) refl s sl' (and_first _ _ y5)))) r'))) t q') (chain_by_backed (past m (past m s)) c ce start (join (join startu (token w (here_at w question_mark_kind (refl, refl, refl, refl) refl s sl' (and_first _ _ y5)))) (token w (here_second w (λ z'. kind2 (input lm (on [] 0 z')) == dot_kind) s (here_at w question_mark_kind (refl, refl, refl, refl) refl s sl' (and_first _ _ y5)) (λ p'. refl) (λ p' q' l'. refl) (and_second _ _ y5)))) t (live_past w (here_second w (λ z'. kind2 (input lm (on [] 0 z')) == dot_kind) s (here_at w question_mark_kind (refl, refl, refl, refl) refl s sl' (and_first _ _ y5)) (λ p'. refl) (λ p' q' l'. refl) (and_second _ _ y5)))))) (λ _. back_never)) (back_at w {s = s} question_mark_kind (refl, refl, refl, refl) refl sl' _ _ _ _ (λ j7. back_test (nat_le coalesce_level (level t)) (λ r'. nat_le coalesce_level (level t)) _ _ _ _ (λ qs' h'. refl) (λ y8. cond_by_backed s c ce start startu t j7) (λ _. back_never)) (back_test (operates c (kind (input m s))) (λ r'. operates c (kind (input lm r'))) _ _ _ _ (λ qs' h'. agrees_plain w (λ z'. operates c (kind (input lm (on [] 0 z')))) (λ p' l' v'. refl) s ns sl' qs' h') (λ y9. back_test (fits_left (kind (input m s)) t) (λ r'. fits_left (kind (input lm r')) t) _ _ _ _ (λ qs' h'. agrees_plain w (λ z'. fits_left (kind (input lm (on [] 0 z'))) t) (λ p' l' v'. refl) s ns sl' qs' h') (λ y10. binary_by_backed s c ce start startu t (here_by w (λ z'. operates c (kind (input lm (on [] 0 z')))) (refl, λ p' v'. refl) s sl' y9)) (λ _. back_never)) (λ _. back_test (between plus_plus_kind minus_minus_kind (kind (input m s))) (λ r'. between plus_plus_kind minus_minus_kind (kind (input lm r'))) _ _ _ _ (λ qs' h'. agrees_plain w (λ z'. between plus_plus_kind minus_minus_kind (kind (input lm (on [] 0 z')))) (λ p' l' v'. refl) s ns sl' qs' h') (λ y11. back_test (nat_le new_level (level t) && not (brk (input m s))) (λ r'. nat_le new_level (level t) && not (brk (input lm r'))) _ _ _ _ (λ qs' h'. agrees_plain w (λ z'. nat_le new_level (level t) && not (brk (input lm (on [] 0 z')))) (λ p' l' v'. refl) s ns sl' qs' h') (λ y12. back_past w {s = s} (here_by w (λ z'. between plus_plus_kind minus_minus_kind (kind (input lm (on [] 0 z')))) (refl, λ p' v'. refl) s sl' y11) _ (λ r' q'. Ok (update_expr (spanned lm (lo (input lm (was m Live startu r'))) q') (kind (input lm r')) false t, q')) (back_ok {s = (past m s)} _ _ (live_past w (here_by w (λ z'. between plus_plus_kind minus_minus_kind (kind (input lm (on [] 0 z')))) (refl, λ p' v'. refl) s sl' y11)) (λ qs' h'. ap (λ (z' : ℕ). update_expr ((span z' (m.last (past m s).source))) ((kind (input lm (was m Live (token w (here_by w (λ z'. between plus_plus_kind minus_minus_kind (kind (input lm (on [] 0 z')))) (refl, λ p' v'. refl) s sl' y11)) (list_at m Live (past m s) qs'))))) false t) (lo_was w (join startu (token w (here_by w (λ z'. between plus_plus_kind minus_minus_kind (kind (input lm (on [] 0 z')))) (refl, λ p' v'. refl) s sl' y11))) qs' h') ∙ (ap (λ (z' : ℕ). update_expr ((spanned m (lo (input m start)) (past m s))) (z') false t) (kind_was w (token w (here_by w (λ z'. between plus_plus_kind minus_minus_kind (kind (input lm (on [] 0 z')))) (refl, λ p' v'. refl) s sl' y11)) (took_token w (here_by w (λ z'. between plus_plus_kind minus_minus_kind (kind (input lm (on [] 0 z')))) (refl, λ p' v'. refl) s sl' y11)) qs' h'))) ((λ i'. absurd (true≢false i')), (λ i'. absurd (true≢false i'))))) (λ _. back_never)) (λ _. back_test (not (nat_le call_level (level t))) (λ r'. not (nat_le call_level (level t))) _ _ _ _ (λ qs' h'. refl) (λ y13. back_never) (λ _. back_at w {s = s} left_paren_kind (refl, refl, refl, refl) refl sl' _ _ _ _ (λ j14. call_by_backed s c ce start startu t j14) (back_at w {s = s} left_bracket_kind (refl, refl, refl, refl) refl sl' _ _ _ _ (λ j15. index_by_backed s c ce start startu t j15) (back_at w {s = s} dot_kind (refl, refl, refl, refl) refl sl' _ _ _ _ (λ j16. member_by_backed s c ce start startu t j16) (back_test (at m back_quote_kind s && not (is_chain t)) (λ r'. at lm back_quote_kind r' && not (is_chain t)) _ _ _ _ (λ qs' h'. agrees_plain w (λ z'. at lm back_quote_kind (on [] 0 z') && not (is_chain t)) (λ p' l' v'. refl) s ns sl' qs' h') (λ y17. back_then _ _ _ _ (template_by_backed s c ce true (here_at w back_quote_kind (refl, refl, refl, refl) refl s sl' (and_first _ _ y17))) (λ q18a q18s q18u. back_ok {s = q18s} _ _ q18u.live (λ qs' h'. ap (λ (z' : ℕ). tagged_tpl ((span z' (m.last q18s.source))) t q18a) (lo_was w (join startu q18u) qs' h')) ((λ i'. absurd (true≢false i')), (λ i'. absurd (true≢false i'))))) (λ _. back_never)))))))))))

  slash_here : (s : State S) → Live.live s.source → is_slash (kind (input m s)) ≡ true → Here m Live s
  slash_here s l e = here_by w (λ z. is_slash (kind_of z)) (refl, λ p v. refl) s l e

  abbrev pub step_ends : Step Tree → ℕ
  step_ends (go_on t) = edge t
  step_ends (finished t) = edge t

  pub loop_step_steps : (s : State S) (c : Code) (ce : c.context.module_ ≡ modular) (l : ℕ) (start : State S) (startu : Path m Live start s) (t : Tree) (sl' : Live.live s.source) → Steps m Live (λ z. step_ends z) false (edge t) s (loop_step m im c l (lo (input m start)) t s) (λ r'. loop_step lm il c l (lo (input lm (was m Live startu r'))) t r')
  unfolding loop_step
  loop_step_steps s c ce l start startu t sl' = step_test (nat_lt (goes_expr c (ends t) (input m s)) l) (λ r'. nat_lt (goes_expr c (ends t) (input lm r')) l) t _ _ sl' (λ qs h g. w.goes c (ends t) l qs s.source sl' h (λ o. g.0 (edge_open t o))) (λ _. by_slash (is_slash (kind (input m s))) refl) (same_keeps (edge t))
    where
      by_slash : (b : Bool) → is_slash (kind (input m s)) ≡ b → Backed m Live (λ z. step_ends z) true (edge t) s (step_by m im c (lo (input m start)) t s >>= λ x. Ok (go_on x.0, x.1)) (λ r'. step_by lm il c (lo (input lm (was m Live startu r'))) t r' >>= λ x. Ok (go_on x.0, x.1))
      by_slash false e = back_then _ _ _ _ (step_plain s c ce start startu t e sl') (λ x0 x1 u. back_ok {s = x1} _ _ u.live (λ qs h. refl) (same_keeps _))
      by_slash true e = let j = slash_here s sl' e in back_past w {s = s} j _ (λ r' q'. step_by lm il c (lo (input lm (was m Live startu r'))) t r' >>= λ x. Ok (go_on x.0, x.1))
          (back_then _ _ _ _ (step_slash s c ce start (join startu (token w j)) t j e) (λ x0 x1 u. back_ok {s = x1} _ _ u.live (λ qs h. refl) (same_keeps _)))

  pub loop_by_backed : (s : State S) (c : Code) (ce : c.context.module_ ≡ modular) (l : ℕ) (start : State S) (startu : Path m Live start s) (t : Tree) (sl' : Live.live s.source) → Backed m Live edge false (edge t) s (loop_by m im c l (lo (input m start)) t s) (λ r'. loop_by lm il c l (lo (input lm (was m Live startu r'))) t r')
  unfolding loop_by
  loop_by_backed s c ce l start startu t sl' = back_test (nat_le l (level t)) (λ r'. nat_le l (level t)) _ _ _ _ (λ qs' h'. refl) (λ y1. back_iterate w (λ z. step_ends z) {s = s} false (λ r' x' q'. loop_step lm il c l (lo (input lm (was m Live startu r'))) x' q') _ (λ x' t' u'. loop_step_steps t' c ce l start (join startu u') x' u'.live) t sl') (λ _. back_test ((level t == new_level) && (l == member_level)) (λ r'. (level t == new_level) && (l == member_level)) _ _ _ _ (λ qs' h'. refl) (λ y2. back_ok {s = s} _ _ sl' (λ qs' h'. refl) ((λ i'. i'), (λ i'. i'))) (λ _. back_never))

  pub private_in_backed : {e' : ℕ} (s : State S) (c : Code) (ce : c.context.module_ ≡ modular) (l : ℕ) (sl' : Live.live s.source) → Backed m Live edge true e' s (private_in m im c l s) (λ r'. private_in lm il c l r')
  unfolding private_in
  private_in_backed s c ce l sl' = back_then _ _ _ _ (private_by_backed s sl') (λ p1a p1s p1u. back_if w {s = p1s} (λ z'. at lm in_kind (on [] 0 z') && (has_in c && nat_le l (binary_level in_kind))) ((λ p' q' l' v'. refl), (λ p' q' l' v'. refl), (λ p' l' v'. refl)) p1u.live _ _ _ _ (λ y3. back_then _ _ _ _ (binary_by_backed p1s c ce s p1u p1a (here_at w in_kind (refl, refl, refl, refl) refl p1s p1u.live (and_first _ _ y3))) (λ t4a t4s t4u. loop_by_backed t4s c ce l s (join p1u t4u) t4a t4u.live)) (back_never))

  pub expr_from_backed : {e' : ℕ} (s : State S) (c : Code) (ce : c.context.module_ ≡ modular) (l : ℕ) (sl' : Live.live s.source) → Backed m Live edge true e' s (expr_from m im c l s) (λ r'. expr_from lm il c l r')
  unfolding expr_from
  expr_from_backed s c ce l sl' = back_at w {s = s} hash_kind (refl, refl, refl, refl) refl sl' _ _ _ _ (λ j1. private_in_backed s c ce l sl') (back_then _ _ _ _ (prefix_by_backed s c ce l sl') (λ t2a t2s t2u. loop_by_backed t2s c ce l s t2u t2a t2u.live))

  pub expr_by_backed : (s : State S) (c : Code) (ce : c.context.module_ ≡ modular) (l : ℕ) (sl' : Live.live s.source) → Backed m Live edge true closed_end s (expr_by m im c l s) (λ r'. expr_by lm il c l r')
  unfolding expr_by
  expr_by_backed s c ce l sl' = back_operand w {s = s} _ _ sl' (expr_from_backed (operand m s) c ce l (w.order.live_operand s.source sl'))
