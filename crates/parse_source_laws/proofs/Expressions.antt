-- Expressions (ECMA-262, clause 13): their rules over a source and over the list that it hands out.
use Rattle.std.proofs.Common.{◌≡◌, ◌≤◌, ℕ, Bool, true, false, not, ◌&&◌, ◌||◌, ◌==◌, cond, eqb, nat_le, nat_lt, if◌then◌else◌, List, [], ◌∷◌, ◌++◌, Option, Some, None, Result, Ok, Err, inl, inr, refl, sym, ap, ap₂, ◌∙◌, subst, true≢false, arith, le_refl, ltb-true, lt-ltb}
use Rattle.base_proofs.proofs.Bools.{and_second, and_first}
use Rattle.base_token.specs.declared.place.Span.{Span}
use Rattle.base_token.specs.Kinds.{div_kind, div_assign_kind, arrow_kind, hash_kind, dot_kind, dot_dot_dot_kind, left_paren_kind, right_paren_kind, left_bracket_kind, right_bracket_kind, left_brace_kind, right_brace_kind, comma_kind, back_quote_kind, template_kind, colon_kind, dollar_brace_kind, question_mark_kind, str_kind, num_kind, big_int_kind, regex_kind, mul_kind, assign_kind, null_kind, true_kind, false_kind, await_kind, function_kind, class_kind, new_kind, this_kind, super_kind, import_kind, yield_kind, in_kind, plus_plus_kind, minus_minus_kind, async_kind, meta_kind, target_kind, get_kind, set_kind}
use Rattle.base_token.specs.Tokens.{Content, Quoted, Pattern, Numeral, BigNumeral}
use Rattle.tree_spec.specs.Tree.{Tree, none, pack, function, ident_name, computed_prop_name, private_name, this_expr, array_lit, object_lit, fn_expr, unary_expr, update_expr, bin_expr, assign_expr, member_expr, super_prop_expr, cond_expr, call_expr, new_expr, ident, tpl, tagged_tpl, arrow_expr, class_expr, yield_expr, meta_prop_expr, await_expr, paren_expr, opt_chain_expr, opt_call, super, import, expr_or_spread, spread_element, key_value_prop, assign_prop, getter_prop, setter_prop, method_prop, str_lit, bool_lit, null_lit, number_lit, big_int_lit, regex_lit, binding_ident, assign_pat, rest_pat, param, absent, list}
use Rattle.grammar_spec.specs.Tokens.Input.{PlacedToken, Input, Code, kind, kind_of, kind2, brk, break_of, brk2, lo, dots_at, text, content, span, is_word, barred, has_in, with_in, in_list, by, in_body, in_arrow, turned_strict, first_span}
use Rattle.grammar_spec.specs.Tokens.Operators.{closed_end, expression_level, assignment_level, coalesce_level, unary_level, new_level, call_level, member_level, binary_level, right_level, is_assign_op, operates, goes_expr, between, other_end}
use Rattle.grammar_spec.specs.Tokens.Shape.{level, ends, fits_left, is_chain, is_cooked}
use Rattle.grammar_spec.specs.Reader.Source.{Fault, Unexpected, unexpected, ◌>>=◌, Stream, State, input, past, operand, spanned, at, is_name, name, Step, go_on, finished, Inner}
use Rattle.grammar_spec.specs.Reader.Cover.{last_rests, to_target}
use Rattle.grammar_spec.specs.Reader.Expressions.{Elements, Spans, literal, only_kind, joined, extended, is_read, last_end, plain_elements, no_elements, is_unary, first, literal_by, element_by, after_element, element_step, elements_by, noted, array_by, computed_by, key_by, private_by, parameter_by, is_rest_param, parameter_step, parameters_by, function_by, setter_parameter, pattern_of, is_accessor, is_async_head, star, method_prop_by, getter_by, setter_by, prop_rest, prop_by, prop_step, object_by, quasi, quasi_end, quasi_step, template_by, arrows, arrows_at, arrow_by, params_of, heads_params, group_end, group_by, ident_end, arguments_by, async_group, function_expr_name, function_expr_by, is_async_param, async_by, class_expr_by, new_end, callee_by, new_by, super_end, fits_import, import_by, unary_by, update_by, await_by, ends_yield, yield_end, yield_by, word_by, fixed, keyword_by, prefix_by, member_name, on_chain, member_by, index_by, call_tree, call_by, chain_by, cond_by, assign_by, binary_by, step_by, loop_step, loop_by, private_in, expr_from, expr_by}
use Rattle.parse_source_laws.specs.Sources.{is_slash, Rereads, HandsOut, Orderly}
use Rattle.parse_source_laws.proofs.Beside.{lm, on, Ceiling, kinded, regexp, reread, Plain, Beside, Joined, Told, agree1, agree2, at_same, lo_same, span_same, joined_to, joined_by, joined_at, joined_other, joined2, has_same, first_same, hi_as, kind_as, text_as, content_as, told_ok, never, told_then, told_if, told_at, told_pure, told_eat, told_word, told_own, joined_word, told_name, told_name_of, is_word_same, told_any, told_iterate, told_operand, Refused, refused_then, at_slash, told_refused, Heard, same_rest, same_pattern, same_quasi}

module _ {S : Type 0} {m : Stream S} {Live : S → Type 0} {modular : Bool} (w : Orderly m Live modular) {il : Inner Input} {im : Inner S} (told : Heard m Live modular il im) where
  literal_same : (k : Ceiling) (s : State S) (s' : State Input) → Joined m Live k s s' → literal (kind (input lm s')) (content (input lm s')) (first lm il s') ≡ literal (kind (input m s)) (content (input m s)) (first m im s)
  literal_same k s s' sj = ap (λ (z : ℕ). literal z (content (input lm s')) (first lm il s')) (kind_as w k s s' sj)
      ∙ (ap (λ (z : Content). literal (kind (input m s)) z (first lm il s')) (content_as w k s s' sj) ∙ ap (λ (z : Span). literal (kind (input m s)) (content (input m s)) z) (first_same w k s s' sj))

  pub literal_by_told : (k : Ceiling) (s : State S) (s' : State Input) (sj : Joined m Live k s s') → Told m Live k (literal_by lm il s') (literal_by m im s)
  unfolding literal_by
  literal_by_told k s s' sj = subst (λ (z : Option Tree). Told m Live {A = Tree} k (elim (literal (kind (input lm s')) (content (input lm s')) (first lm il s')) [ None ↦ unexpected lm s' | Some t ↦ Ok (t, past lm s') ]) (elim z [ None ↦ unexpected m s | Some t ↦ Ok (t, past m s) ]))
      (literal_same k s s' sj) (by_literal (literal (kind (input lm s')) (content (input lm s')) (first lm il s')))
    where
      by_literal : (t : Option Tree) → Told m Live {A = Tree} k (elim t [ None ↦ unexpected lm s' | Some t ↦ Ok (t, past lm s') ]) (elim t [ None ↦ unexpected m s | Some t ↦ Ok (t, past m s) ])
      by_literal None = never w k _ _
      by_literal (Some t) = told_ok w k t t (past m s) (past lm s') sj.after refl

  literal_end : (o : List ℕ) (n : ℕ) → Refused (literal_by lm il (on o n []))
  unfolding literal_by
  literal_end o n = (Unexpected _, refl)

  -- a literal where an operand starts
  literal_on : (k : Ceiling) (s : State S) (o : List ℕ) (n : ℕ) (l : List PlacedToken) → Beside m Live k s (on o n l) → (at lm regex_kind (on o n l) ≡ true → Joined m Live k s (on o n l)) → Told m Live k (literal_by lm il (on o n l)) (literal_by m im s)
  literal_on k s o n [] h f = told_refused m Live k _ _ (literal_end o n)
  literal_on k s o n (p ∷ l) h f = by_kind (eqb p.spot.token.kind regex_kind) refl
    where
      by_kind : (b : Bool) → eqb p.spot.token.kind regex_kind ≡ b → Told m Live k (literal_by lm il (on o n (p ∷ l))) (literal_by m im s)
      by_kind true e = literal_by_told k s (on o n (p ∷ l)) (f e)
      by_kind false e = literal_by_told k s (on o n (p ∷ l)) (joined_other w k s o n p l h e)

  pub literal_or : (k : Ceiling) (s : State S) (s' : State Input) → Beside m Live k s s' → (at lm regex_kind s' ≡ true → Joined m Live k s s') → Told m Live k (literal_by lm il s') (literal_by m im s)
  literal_or k s s' h f = literal_on k s s'.commas s'.source.last s'.source.places h f

  pub element_by_told : (k : Ceiling) (c : Code) (ce : c.context.module_ ≡ modular) (s : State S) (s' : State Input) (sh : Beside m Live k s s') → Told m Live k (element_by lm il c s') (element_by m im c s)
  unfolding element_by
  element_by_told k c ce s s' sh = told_at w k dot_dot_dot_kind (refl, refl, refl, refl) s s' sh _ _ _ _ (λ j1. told_then w k _ _ _ _ (told.expr k (with_in c) ce assignment_level (past m s) (past lm s') j1.after) (λ e0 e1 e1' e1h. told_ok w k _ _ e1 e1' e1h (ap (λ (z : Span). expr_or_spread z (Some (first lm il s')) e0) (span_same w k k s e1 s' e1' sh e1h) ∙ (ap (λ (z : Span). expr_or_spread (spanned m (lo (input m s)) e1) (Some z) e0) (first_same w k s s' j1))))) (told_then w k _ _ _ _ (told.expr k (with_in c) ce assignment_level s s' sh) (λ e0 e1 e1' e1h. told_ok w k _ _ e1 e1' e1h (ap (λ (z : Span). expr_or_spread z None e0) (span_same w k k s e1 s' e1' sh e1h))))

  pub after_element_told : (k : Ceiling) (close : ℕ) (shut : Plain close) (items : List Tree) (s : State S) (s' : State Input) (sh : Beside m Live k s s') → Told m Live k (after_element lm il close items s') (after_element m im close items s)
  unfolding after_element
  after_element_told k close shut items s s' sh = told_at w k comma_kind (refl, refl, refl, refl) s s' sh _ _ _ _ (λ j1. told_ok w k _ _ (past m s) (past lm s') j1.after refl) (told_eat w k close shut s s' sh _ _ (λ j2. told_ok w k _ _ (past m s) (past lm s') j2.after refl))

  pub element_step_told : (k : Ceiling) (c : Code) (ce : c.context.module_ ≡ modular) (holes : Bool) (close : ℕ) (shut : Plain close) (xs : Elements) (s : State S) (s' : State Input) (sh : Beside m Live k s s') → Told m Live k (element_step lm il c holes close xs s') (element_step m im c holes close xs s)
  unfolding element_step
  element_step_told k c ce holes close shut xs s s' sh = told_at w k close shut s s' sh _ _ _ _ (λ j1. told_ok w k _ _ (past m s) (past lm s') j1.after refl) (told_if w k _ _ (agree1 w (λ z. holes && at lm comma_kind (on [] 0 z)) (λ p q l v. refl) (λ p q l v. refl) (λ p l v. refl) k s s' sh) _ _ _ _ (λ y2. told_ok w k _ _ (past m s) (past lm s') (joined_at w comma_kind (refl, refl, refl, refl) k s s' sh (and_second (holes) (at lm comma_kind s') y2)).after refl) (λ _. told_then w k _ _ _ _ (element_by_told k c ce s s' sh) (λ e0 e1 e1' e1h. after_element_told k close shut (xs.items ++ e0 ∷ []) e1 e1' e1h)))

  pub elements_by_told : (k : Ceiling) (c : Code) (ce : c.context.module_ ≡ modular) (holes : Bool) (close : ℕ) (shut : Plain close) (s : State S) (s' : State Input) (sh : Beside m Live k s s') → Told m Live k (elements_by lm il c holes close s') (elements_by m im c holes close s)
  unfolding elements_by
  elements_by_told k c ce holes close shut s s' sh = told_iterate w _ _ (λ k2 x1 sx sx' sxh. element_step_told k2 c ce holes close shut x1 sx sx' sxh) k no_elements s s' sh

  pub noted_beside : (k : Ceiling) (b : Bool) (i n : ℕ) → i ≡ n → (s : State S) (s' : State Input) → Beside m Live k s s' → Beside m Live k (noted m im b n s) (noted lm il b i s')
  noted_beside k true i n e s s' h = record { commas = ap₂ (λ (a : ℕ) (o : List ℕ). a ∷ o) (sym e) h.commas; last = h.last; live = h.live; hands = h.hands; falls = h.falls }
  noted_beside k false i n e s s' h = h

  pub array_by_told : (k : Ceiling) (c : Code) (ce : c.context.module_ ≡ modular) (s : State S) (s' : State Input) (sj : Joined m Live k s s') → Told m Live k (array_by lm il c s') (array_by m im c s)
  unfolding array_by
  array_by_told k c ce s s' sj = told_then w k _ _ _ _ (elements_by_told k c ce true right_bracket_kind (refl, refl, refl, refl) (past m s) (past lm s') sj.after) (λ xs0 xs1 xs1' xs1h. told_ok w k _ _ _ _ (noted_beside k (xs0.comma && last_rests xs0.items) (lo (input lm s')) (lo (input m s)) (lo_same w k s s' sj.base) xs1 xs1' xs1h) (ap (λ (z : Span). array_lit z (pack xs0.items)) (span_same w k k s xs1 s' xs1' sj.base xs1h)))

  pub computed_by_told : (k : Ceiling) (c : Code) (ce : c.context.module_ ≡ modular) (l : ℕ) (s : State S) (s' : State Input) (sj : Joined m Live k s s') → Told m Live k (computed_by lm il c l s') (computed_by m im c l s)
  unfolding computed_by
  computed_by_told k c ce l s s' sj = told_then w k _ _ _ _ (told.expr k (with_in c) ce l (past m s) (past lm s') sj.after) (λ e0 e1 e1' e1h. told_eat w k right_bracket_kind (refl, refl, refl, refl) e1 e1' e1h _ _ (λ j1. told_ok w k _ _ (past m e1) (past lm e1') j1.after (ap (λ (z : Span). computed_prop_name z e0) (span_same w k k s (past m e1) s' (past lm e1') sj.base j1.after))))

  -- a regular expression is no key, and a slash is none
  told_unless : {A : Type 0} (p q : Fault) (k : Ceiling) (b d : Bool) → (b ≡ false → d ≡ false) → (v : Result (A × State Input) Fault) (u : Result (A × State S) Fault) → (b ≡ false → Told m Live k v u) → Told m Live k (cond b (Err p) v) (cond d (Err q) u)
  told_unless p q k true d e v u h = never w k _ _
  told_unless p q k false d e v u h = subst (λ (z : Bool). Told m Live k v (cond z (Err q) u)) (sym (e refl)) (h refl)

  regexp_off : (k : Ceiling) (s : State S) (o : List ℕ) (n : ℕ) (l : List PlacedToken) → Beside m Live k s (on o n l) → at lm regex_kind (on o n l) ≡ false → at m regex_kind s ≡ false
  regexp_off k s o n [] h e = ap (λ z. eqb (kind_of z) regex_kind) h.hands
  regexp_off k s o n (p ∷ l) h e = sym (ap (λ (z : ℕ). eqb z regex_kind) (kind_as w k s (on o n (p ∷ l)) (joined_other w k s o n p l h e))) ∙ e

  pub key_by_told : (k : Ceiling) (c : Code) (ce : c.context.module_ ≡ modular) (s : State S) (s' : State Input) (sh : Beside m Live k s s') → Told m Live k (key_by lm il c s') (key_by m im c s)
  unfolding key_by
  key_by_told k c ce s s' sh = told_at w k left_bracket_kind (refl, refl, refl, refl) s s' sh _ _ _ _ (λ j1. computed_by_told k c ce assignment_level s s' j1) (told_if w k _ _ (is_word_same w k s s' sh) _ _ _ _
      (λ y. told_ok w k _ _ (past m s) (past lm s') (joined_word w k s s' sh y).after (ap (λ (z : Span). ident_name z (text (input lm s'))) (first_same w k s s' (joined_word w k s s' sh y)) ∙ ap (λ (z : List ℕ). ident_name (first m im s) z) (text_as w k s s' (joined_word w k s s' sh y))))
      (λ _. told_unless _ _ k _ _ (λ e. regexp_off k s s'.commas s'.source.last s'.source.places sh e) _ _ (λ e. literal_or k s s' sh (λ y. absurd (true≢false (sym y ∙ e))))))

  pub private_by_told : (k : Ceiling) (s : State S) (s' : State Input) (sh : Beside m Live k s s') → Told m Live k (private_by lm il s') (private_by m im s)
  unfolding private_by
  private_by_told k s s' sh = told_eat w k hash_kind (refl, refl, refl, refl) s s' sh _ _ (λ j. told_if w k _ _ (ap₂ (λ (a b : ℕ). a == b) (lo_same w k (past m s) (past lm s') j.after) (hi_as w k s s' j)) _ _ _ _
      (λ _. told_any w k (past m s) (past lm s') j.after _ _ (λ n0 i. told_ok w k _ _ (past m (past m s)) (past lm (past lm s')) i.after (ap (λ (z : Span). private_name z n0) (span_same w k k s (past m (past m s)) s' (past lm (past lm s')) sh i.after)))) (λ _. never w k _ _))

  pub parameter_by_told : (k : Ceiling) (c : Code) (ce : c.context.module_ ≡ modular) (s : State S) (s' : State Input) (sh : Beside m Live k s s') → Told m Live k (parameter_by lm il c s') (parameter_by m im c s)
  unfolding parameter_by
  parameter_by_told k c ce s s' sh = told_at w k dot_dot_dot_kind (refl, refl, refl, refl) s s' sh _ _ _ _ (λ j1. told_then w k _ _ _ _ (told.pat k (with_in c) ce (past m s) (past lm s') j1.after) (λ p0 p1 p1' p1h. told_ok w k _ _ p1 p1' p1h (ap (λ (z : Span). param z none (rest_pat z (dots_at (lo (input lm s'))) p0)) (span_same w k k s p1 s' p1' sh p1h) ∙ (ap (λ (z : ℕ). param (spanned m (lo (input m s)) p1) none (rest_pat (spanned m (lo (input m s)) p1) (dots_at z) p0)) (lo_same w k s s' sh))))) (told_then w k _ _ _ _ (told.pat k (with_in c) ce s s' sh) (λ p0 p1 p1' p1h. told_at w k assign_kind (refl, refl, refl, refl) p1 p1' p1h _ _ _ _ (λ j2. told_then w k _ _ _ _ (told.expr k (with_in c) ce assignment_level (past m p1) (past lm p1') j2.after) (λ e0 e1 e1' e1h. told_ok w k _ _ e1 e1' e1h (ap (λ (z : Span). param z none (assign_pat z p0 e0)) (span_same w k k s e1 s' e1' sh e1h)))) (told_ok w k _ _ p1 p1' p1h (ap (λ (z : Span). param z none p0) (span_same w k k s p1 s' p1' sh p1h)))))

  pub parameter_step_told : (k : Ceiling) (c : Code) (ce : c.context.module_ ≡ modular) (ps : List Tree) (s : State S) (s' : State Input) (sh : Beside m Live k s s') → Told m Live k (parameter_step lm il c ps s') (parameter_step m im c ps s)
  unfolding parameter_step
  parameter_step_told k c ce ps s s' sh = told_at w k right_paren_kind (refl, refl, refl, refl) s s' sh _ _ _ _ (λ j1. told_ok w k _ _ (past m s) (past lm s') j1.after refl) (told_then w k _ _ _ _ (parameter_by_told k c ce s s' sh) (λ p0 p1 p1' p1h. told_if w k _ _ (ap₂ (λ (a b : Bool). a && not b) (at_same w comma_kind (refl, refl, refl, refl) k p1 p1' p1h) (same_rest m im il p0)) _ _ _ _ (λ y2. told_ok w k _ _ (past m p1) (past lm p1') (joined_at w comma_kind (refl, refl, refl, refl) k p1 p1' p1h (and_first (at lm comma_kind p1') (not (is_rest_param lm il p0)) y2)).after refl) (λ _. told_eat w k right_paren_kind (refl, refl, refl, refl) p1 p1' p1h _ _ (λ j3. told_ok w k _ _ (past m p1) (past lm p1') j3.after refl))))

  pub parameters_by_told : (k : Ceiling) (c : Code) (ce : c.context.module_ ≡ modular) (s : State S) (s' : State Input) (sh : Beside m Live k s s') → Told m Live k (parameters_by lm il c s') (parameters_by m im c s)
  unfolding parameters_by
  parameters_by_told k c ce s s' sh = told_eat w k left_paren_kind (refl, refl, refl, refl) s s' sh _ _ (λ j1. told_iterate w _ _ (λ k2 x2 sx sx' sxh. parameter_step_told k2 c ce x2 sx sx' sxh) k [] (past m s) (past lm s') j1.after)

  pub function_by_told : (k : Ceiling) (c : Code) (ce : c.context.module_ ≡ modular) (whole : ℕ) (generator : Bool) (async : Bool) (s : State S) (s' : State Input) (sh : Beside m Live k s s') → Told m Live k (function_by lm il c whole generator async s') (function_by m im c whole generator async s)
  unfolding function_by
  function_by_told k c ce whole generator async s s' sh = told_then w k _ _ _ _ (parameters_by_told k (in_body generator async c) ce s s' sh) (λ ps0 ps1 ps1' ps1h. told_then w k _ _ _ _ (told.body k (in_body generator async c) ce ps1 ps1' ps1h) (λ b0 b1 b1' b1h. told_ok w k _ _ b1 b1' b1h (ap (λ (z : ℕ). function (span whole z) (pack ps0) none b0 generator async) (sym b1h.last))))

  pub setter_parameter_told : (k : Ceiling) (c : Code) (ce : c.context.module_ ≡ modular) (s : State S) (s' : State Input) (sh : Beside m Live k s s') → Told m Live k (setter_parameter lm il c s') (setter_parameter m im c s)
  unfolding setter_parameter
  setter_parameter_told k c ce s s' sh = told_eat w k left_paren_kind (refl, refl, refl, refl) s s' sh _ _ (λ j1. told_then w k _ _ _ _ (parameter_by_told k c ce (past m s) (past lm s') j1.after) (λ p0 p1 p1' p1h. told_if w k (is_rest_param lm il p0) (is_rest_param m im p0) (same_rest m im il p0) _ _ _ _ (λ _. never w k _ _) (λ _. told_eat w k right_paren_kind (refl, refl, refl, refl) p1 p1' p1h _ _ (λ j2. told_ok w k _ _ (past m p1) (past lm p1') j2.after refl))))

  pub star_told : (k : Ceiling) (s : State S) (s' : State Input) (sh : Beside m Live k s s') → Told m Live k (star lm il s') (star m im s)
  unfolding star
  star_told k s s' sh = told_at w k mul_kind (refl, refl, refl, refl) s s' sh _ _ _ _ (λ j1. told_ok w k _ _ (past m s) (past lm s') j1.after refl) (told_ok w k _ _ s s' sh refl)

  pub method_prop_by_told : (k : Ceiling) (c : Code) (ce : c.context.module_ ≡ modular) (whole : ℕ) (generator : Bool) (async : Bool) (s : State S) (s' : State Input) (sh : Beside m Live k s s') → Told m Live k (method_prop_by lm il c whole generator async s') (method_prop_by m im c whole generator async s)
  unfolding method_prop_by
  method_prop_by_told k c ce whole generator async s s' sh = told_then w k _ _ _ _ (key_by_told k c ce s s' sh) (λ k0 k1 k1' k1h. told_then w k _ _ _ _ (function_by_told k c ce whole generator async k1 k1' k1h) (λ f0 f1 f1' f1h. told_ok w k _ _ f1 f1' f1h (ap (λ (z : ℕ). method_prop (span whole z) k0 f0) (sym f1h.last))))

  pub getter_by_told : (k : Ceiling) (c : Code) (ce : c.context.module_ ≡ modular) (s : State S) (s' : State Input) (sj : Joined m Live k s s') → Told m Live k (getter_by lm il c s') (getter_by m im c s)
  unfolding getter_by
  getter_by_told k c ce s s' sj = told_then w k _ _ _ _ (key_by_told k c ce (past m s) (past lm s') sj.after) (λ k0 k1 k1' k1h. told_eat w k left_paren_kind (refl, refl, refl, refl) k1 k1' k1h _ _ (λ j1. told_eat w k right_paren_kind (refl, refl, refl, refl) (past m k1) (past lm k1') j1.after _ _ (λ j2. told_then w k _ _ _ _ (told.body k (in_body false false c) ce (past m (past m k1)) (past lm (past lm k1')) j2.after) (λ b0 b1 b1' b1h. told_ok w k _ _ b1 b1' b1h (ap (λ (z : Span). getter_prop z k0 b0) (span_same w k k s b1 s' b1' sj.base b1h))))))

  pub setter_by_told : (k : Ceiling) (c : Code) (ce : c.context.module_ ≡ modular) (s : State S) (s' : State Input) (sj : Joined m Live k s s') → Told m Live k (setter_by lm il c s') (setter_by m im c s)
  unfolding setter_by
  setter_by_told k c ce s s' sj = told_then w k _ _ _ _ (key_by_told k c ce (past m s) (past lm s') sj.after) (λ k0 k1 k1' k1h. told_then w k _ _ _ _ (setter_parameter_told k (in_body false false c) ce k1 k1' k1h) (λ p0 p1 p1' p1h. told_then w k _ _ _ _ (told.body k (in_body false false c) ce p1 p1' p1h) (λ b0 b1 b1' b1h. told_ok w k _ _ b1 b1' b1h (ap (λ (z : Span). setter_prop z k0 (pattern_of lm il p0) b0) (span_same w k k s b1 s' b1' sj.base b1h) ∙ (ap (λ (z : Tree). setter_prop (spanned m (lo (input m s)) b1) k0 z b0) (same_pattern m im il p0))))))

  pub prop_rest_told : (k : Ceiling) (c : Code) (ce : c.context.module_ ≡ modular) (s : State S) (s' : State Input) (sh : Beside m Live k s s') (key : Tree) (r : State S) (r' : State Input) (rh : Beside m Live k r r') → Told m Live k (prop_rest lm il c s' key r') (prop_rest m im c s key r)
  unfolding prop_rest
  prop_rest_told k c ce s s' sh key r r' rh = told_at w k colon_kind (refl, refl, refl, refl) r r' rh _ _ _ _ (λ j1. told_then w k _ _ _ _ (told.expr k (with_in c) ce assignment_level (past m r) (past lm r') j1.after) (λ v0 v1 v1' v1h. told_ok w k _ _ v1 v1' v1h (ap (λ (z : Span). key_value_prop z key v0) (span_same w k k s v1 s' v1' sh v1h)))) (told_at w k left_paren_kind (refl, refl, refl, refl) r r' rh _ _ _ _ (λ j2. told_then w k _ _ _ _ (subst (λ (z : ℕ). Told m Live k (function_by lm il c (lo (input lm s')) false false r') (function_by m im c z false false r)) (ap (λ (z : ℕ). z) (lo_same w k s s' sh)) (function_by_told k c ce (lo (input lm s')) false false r r' rh)) (λ f0 f1 f1' f1h. told_ok w k _ _ f1 f1' f1h (ap (λ (z : Span). method_prop z key f0) (span_same w k k s f1 s' f1' sh f1h)))) (told_name_of w _ _ k c s s' sh _ _ (λ n0 j3. told_at w k assign_kind (refl, refl, refl, refl) (past m s) (past lm s') j3.after _ _ _ _ (λ j4. told_then w k _ _ _ _ (told.expr k (with_in c) ce assignment_level (past m (past m s)) (past lm (past lm s')) j4.after) (λ e0 e1 e1' e1h. told_ok w k _ _ e1 e1' e1h (ap (λ (z : Span). assign_prop z (ident (first lm il s') n0) e0) (span_same w k k s e1 s' e1' sh e1h) ∙ (ap (λ (z : Span). assign_prop (spanned m (lo (input m s)) e1) (ident z n0) e0) (first_same w k s s' j3))))) (told_ok w k _ _ (past m s) (past lm s') j3.after (ap (λ (z : Span). ident z n0) (first_same w k s s' j3))))))

  pub prop_by_told : (k : Ceiling) (c : Code) (ce : c.context.module_ ≡ modular) (s : State S) (s' : State Input) (sh : Beside m Live k s s') → Told m Live k (prop_by lm il c s') (prop_by m im c s)
  unfolding prop_by
  prop_by_told k c ce s s' sh = told_at w k dot_dot_dot_kind (refl, refl, refl, refl) s s' sh _ _ _ _ (λ j1. told_then w k _ _ _ _ (told.expr k (with_in c) ce assignment_level (past m s) (past lm s') j1.after) (λ e0 e1 e1' e1h. told_ok w k _ _ e1 e1' e1h (ap (λ (z : Span). spread_element z e0) (span_same w k k s e1 s' e1' sh e1h)))) (told_at w k mul_kind (refl, refl, refl, refl) s s' sh _ _ _ _ (λ j2. subst (λ (z : ℕ). Told m Live k (method_prop_by lm il c (lo (input lm s')) true false (past lm s')) (method_prop_by m im c z true false (past m s))) (ap (λ (z : ℕ). z) (lo_same w k s s' sh)) (method_prop_by_told k c ce (lo (input lm s')) true false (past m s) (past lm s') j2.after)) (told_if w k _ _ (agree2 w (λ z. is_async_head lm il (on [] 0 z)) (λ p q l v. refl) (λ p q l v. refl) (λ n p q l v. refl) (λ n p q l v. refl) (λ n p l v. refl) k s s' sh) _ _ _ _ (λ y3. told_then w k _ _ _ _ (star_told k (past m s) (past lm s') (joined_at w async_kind (refl, refl, refl, refl) k s s' sh (and_first _ _ y3)).after) (λ g0 g1 g1' g1h. subst (λ (z : ℕ). Told m Live k (method_prop_by lm il c (lo (input lm s')) g0 true g1') (method_prop_by m im c z g0 true g1)) (ap (λ (z : ℕ). z) (lo_same w k s s' sh)) (method_prop_by_told k c ce (lo (input lm s')) g0 true g1 g1' g1h))) (λ _. told_if w k _ _ (agree2 w (λ z. is_accessor lm il get_kind (on [] 0 z)) (λ p q l v. refl) (λ p q l v. refl) (λ n p q l v. refl) (λ n p q l v. refl) (λ n p l v. refl) k s s' sh) _ _ _ _ (λ y4. getter_by_told k c ce s s' (joined_at w get_kind (refl, refl, refl, refl) k s s' sh (and_first _ _ y4))) (λ _. told_if w k _ _ (agree2 w (λ z. is_accessor lm il set_kind (on [] 0 z)) (λ p q l v. refl) (λ p q l v. refl) (λ n p q l v. refl) (λ n p q l v. refl) (λ n p l v. refl) k s s' sh) _ _ _ _ (λ y5. setter_by_told k c ce s s' (joined_at w set_kind (refl, refl, refl, refl) k s s' sh (and_first _ _ y5))) (λ _. told_then w k _ _ _ _ (key_by_told k c ce s s' sh) (λ k0 k1 k1' k1h. prop_rest_told k c ce s s' sh k0 k1 k1' k1h))))))

  pub prop_step_told : (k : Ceiling) (c : Code) (ce : c.context.module_ ≡ modular) (xs : Elements) (s : State S) (s' : State Input) (sh : Beside m Live k s s') → Told m Live k (prop_step lm il c xs s') (prop_step m im c xs s)
  unfolding prop_step
  prop_step_told k c ce xs s s' sh = told_at w k right_brace_kind (refl, refl, refl, refl) s s' sh _ _ _ _ (λ j1. told_ok w k _ _ (past m s) (past lm s') j1.after refl) (told_then w k _ _ _ _ (prop_by_told k c ce s s' sh) (λ p0 p1 p1' p1h. after_element_told k right_brace_kind (refl, refl, refl, refl) (xs.items ++ p0 ∷ []) p1 p1' p1h))

  pub object_by_told : (k : Ceiling) (c : Code) (ce : c.context.module_ ≡ modular) (s : State S) (s' : State Input) (sj : Joined m Live k s s') → Told m Live k (object_by lm il c s') (object_by m im c s)
  unfolding object_by
  object_by_told k c ce s s' sj = told_then w k _ _ _ _ (told_iterate w _ _ (λ k2 x sx sx' sxh. prop_step_told k2 c ce x sx sx' sxh) k no_elements (past m s) (past lm s') sj.after) (λ xs0 xs1 xs1' xs1h. told_ok w k _ _ _ _ (noted_beside k (xs0.comma && last_rests xs0.items) (lo (input lm s')) (lo (input m s)) (lo_same w k s s' sj.base) xs1 xs1' xs1h) (ap (λ (z : Span). object_lit z (pack xs0.items)) (span_same w k k s xs1 s' xs1' sj.base xs1h)))

  quasi_told : (k : Ceiling) (tagged : Bool) (f : Tree → Step Spans) (t : Option Tree) (s : State S) (s' : State Input) → Beside m Live k s s'
      → Told m Live {A = Step Spans} k (elim t [ None ↦ unexpected lm s' | Some t ↦ if tagged || is_cooked t then Ok (f t, s') else unexpected lm s' ]) (elim t [ None ↦ unexpected m s | Some t ↦ if tagged || is_cooked t then Ok (f t, s) else unexpected m s ])
  quasi_told k tagged f None s s' h = never w k _ _
  quasi_told k tagged f (Some t) s s' h = told_if w k (tagged || is_cooked t) (tagged || is_cooked t) refl _ _ _ _ (λ _. told_ok w k _ _ s s' h refl) (λ _. never w k _ _)

  pub quasi_end_told : (k : Ceiling) (c : Code) (ce : c.context.module_ ≡ modular) (tagged : Bool) (x : Spans) (q : Bool → Option Tree) (s : State S) (s' : State Input) (sh : Beside m Live k s s') → Told m Live k (quasi_end lm il c tagged x q s') (quasi_end m im c tagged x q s)
  unfolding quasi_end
  quasi_end_told k c ce tagged x q s s' sh = told_at w k back_quote_kind (refl, refl, refl, refl) s s' sh _ _ _ _ (λ j. quasi_told k tagged (λ t. finished (record { exprs = x.exprs; quasis = x.quasis ++ t ∷ [] })) (q true) (past m s) (past lm s') j.after)
      (told_eat w k dollar_brace_kind (refl, refl, refl, refl) s s' sh _ _ (λ j. told_then w k _ _ _ _ (told.expr k (with_in c) ce expression_level (past m s) (past lm s') j.after) (λ e0 e1 e1' e1h.
      told_eat w k right_brace_kind (refl, refl, refl, refl) e1 e1' e1h _ _ (λ i. quasi_told k tagged (λ t. go_on (record { exprs = x.exprs ++ e0 ∷ []; quasis = x.quasis ++ t ∷ [] })) (q false) (past m e1) (past lm e1') i.after))))

  quasi_as : (k : Ceiling) (s : State S) (s' : State Input) → Joined m Live k s s' → ◌≡◌ {A = Bool → Option Tree} (quasi lm il (content (input lm s')) (first lm il s')) (quasi m im (content (input m s)) (first m im s))
  quasi_as k s s' sj = ap (λ (z : Content). quasi lm il z (first lm il s')) (content_as w k s s' sj) ∙ (ap (λ (z : Span). quasi lm il (content (input m s)) z) (first_same w k s s' sj) ∙ same_quasi m im il (content (input m s)) (first m im s))

  pub quasi_step_told : (k : Ceiling) (c : Code) (ce : c.context.module_ ≡ modular) (tagged : Bool) (x : Spans) (s : State S) (s' : State Input) (sh : Beside m Live k s s') → Told m Live k (quasi_step lm il c tagged x s') (quasi_step m im c tagged x s)
  unfolding quasi_step
  quasi_step_told k c ce tagged x s s' sh = told_eat w k template_kind (refl, refl, refl, refl) s s' sh _ _ (λ j. subst (λ (q : Bool → Option Tree). Told m Live k (quasi_end lm il c tagged x (quasi lm il (content (input lm s')) (first lm il s')) (past lm s')) (quasi_end m im c tagged x q (past m s)))
      (quasi_as k s s' j) (quasi_end_told k c ce tagged x (quasi lm il (content (input lm s')) (first lm il s')) (past m s) (past lm s') j.after))

  pub template_by_told : (k : Ceiling) (c : Code) (ce : c.context.module_ ≡ modular) (tagged : Bool) (s : State S) (s' : State Input) (sj : Joined m Live k s s') → Told m Live k (template_by lm il c tagged s') (template_by m im c tagged s)
  unfolding template_by
  template_by_told k c ce tagged s s' sj = told_then w k _ _ _ _ (told_iterate w _ _ (λ k2 x1 sx sx' sxh. quasi_step_told k2 c ce tagged x1 sx sx' sxh) k (record { exprs = []; quasis = [] }) (past m s) (past lm s') sj.after) (λ x0 x1 x1' x1h. told_ok w k _ _ x1 x1' x1h (ap (λ (z : Span). tpl z (pack x0.exprs) (pack x0.quasis)) (span_same w k k s x1 s' x1' sj.base x1h)))

  pub arrow_by_told : (k : Ceiling) (c : Code) (ce : c.context.module_ ≡ modular) (startc : Ceiling) (start : State S) (start' : State Input) (starth : Beside m Live startc start start') (async : Bool) (ps : List Tree) (s : State S) (s' : State Input) (sj : Joined m Live k s s') → Told m Live k (arrow_by lm il c (lo (input lm start')) async ps s') (arrow_by m im c (lo (input m start)) async ps s)
  unfolding arrow_by
  arrow_by_told k c ce startc start start' starth async ps s s' sj = told_at w k left_brace_kind (refl, refl, refl, refl) (past m s) (past lm s') sj.after _ _ _ _ (λ j1. told_then w k _ _ _ _ (told.body k (in_list (with_in (in_arrow async c))) ce (past m s) (past lm s') sj.after) (λ b0 b1 b1' b1h. told_ok w k _ _ b1 b1' b1h (ap (λ (z : Span). arrow_expr z (pack ps) b0 async) (span_same w startc k start b1 start' b1' starth b1h)))) (told_then w k _ _ _ _ (told.expr k (in_arrow async c) ce assignment_level (past m s) (past lm s') sj.after) (λ b0 b1 b1' b1h. told_ok w k _ _ b1 b1' b1h (ap (λ (z : Span). arrow_expr z (pack ps) b0 async) (span_same w startc k start b1 start' b1' starth b1h))))

  params_same : (o q : List ℕ) → o ≡ q → (xs : Elements) → params_of lm il o xs ≡ params_of m im q xs
  unfolding params_of
  params_same o q e xs = ap (λ (z : List ℕ). params_of lm il z xs) e

  heads_same : (k : Ceiling) (l : ℕ) (xs : Elements) (s : State S) (s' : State Input) → Beside m Live k s s' → heads_params lm il l xs s' ≡ heads_params m im l xs s
  heads_same k l xs s s' h = ap₂ (λ (a b : Bool). a && b) (agree1 w (λ z. arrows_at lm il l (on [] 0 z)) (λ p q l v. refl) (λ p q l v. refl) (λ p l v. refl) k s s' h) (ap (λ (z : Result (List Tree) Fault). is_read z) (params_same s'.commas s.commas (sym h.commas) xs))

  heads_joined : (k : Ceiling) (l : ℕ) (xs : Elements) (s : State S) (s' : State Input) → Beside m Live k s s' → heads_params lm il l xs s' ≡ true → Joined m Live k s s'
  heads_joined k l xs s s' h y = joined_at w arrow_kind (refl, refl, refl, refl) k s s' h (and_first (at lm arrow_kind s') (not (brk (input lm s'))) (and_first (arrows lm il s') (nat_le l assignment_level) (and_first (arrows_at lm il l s') (is_read (params_of lm il s'.commas xs)) y)))

  parens_told : (k : Ceiling) (oc : Ceiling) (open_ : State S) (open' : State Input) → Beside m Live oc open_ open' → (startc : Ceiling) (start : State S) (start' : State Input) → Beside m Live startc start start' → (n : ℕ) (t : Option (List Tree)) (s : State S) (s' : State Input) → Beside m Live k s s'
      → Told m Live {A = Tree} k (elim t [ None ↦ unexpected lm s' | Some [] ↦ unexpected lm s' | Some (e ∷ es) ↦ Ok (paren_expr (spanned lm (lo (input lm start')) s') (joined (e ∷ es) (span (lo (input lm open')) n)), s') ])
      (elim t [ None ↦ unexpected m s | Some [] ↦ unexpected m s | Some (e ∷ es) ↦ Ok (paren_expr (spanned m (lo (input m start)) s) (joined (e ∷ es) (span (lo (input m open_)) n)), s) ])
  parens_told k oc open_ open' oh startc start start' sth n None s s' h = never w k _ _
  parens_told k oc open_ open' oh startc start start' sth n (Some []) s s' h = never w k _ _
  parens_told k oc open_ open' oh startc start start' sth n (Some (e ∷ es)) s s' h = told_ok w k _ _ s s' h
      (ap (λ (z : Span). paren_expr z (joined (e ∷ es) (span (lo (input lm open')) n))) (span_same w startc k start s start' s' sth h) ∙ ap (λ (z : ℕ). paren_expr (spanned m (lo (input m start)) s) (joined (e ∷ es) (span z n))) (lo_same w oc open_ open' oh))

  pub group_end_told : (k : Ceiling) (c : Code) (ce : c.context.module_ ≡ modular) (l : ℕ) (startc : Ceiling) (start : State S) (start' : State Input) (starth : Beside m Live startc start start') (open_c : Ceiling) (open_ : State S) (open_' : State Input) (open_h : Beside m Live open_c open_ open_') (xs : Elements) (s : State S) (s' : State Input) (sh : Beside m Live k s s') → Told m Live k (group_end lm il c l (lo (input lm start')) (lo (input lm open_')) xs s') (group_end m im c l (lo (input m start)) (lo (input m open_)) xs s)
  unfolding group_end
  group_end_told k c ce l startc start start' starth open_c open_ open_' open_h xs s s' sh = told_if w k _ _ (heads_same k l xs s s' sh) _ _ _ _ (λ y. told_pure w _ _ k _ _ (params_same s'.commas s.commas (sym sh.commas) xs) _ _ (λ ps. arrow_by_told k c ce startc start start' starth false ps s s' (heads_joined k l xs s s' sh y)))
      (λ _. told_if w k xs.comma xs.comma refl _ _ _ _ (λ _. never w k _ _) (λ _. parens_told k open_c open_ open_' open_h startc start start' starth (last_end xs.items) (plain_elements xs.items) s s' sh))

  pub group_by_told : (k : Ceiling) (c : Code) (ce : c.context.module_ ≡ modular) (l : ℕ) (s : State S) (s' : State Input) (sj : Joined m Live k s s') → Told m Live k (group_by lm il c l s') (group_by m im c l s)
  unfolding group_by
  group_by_told k c ce l s s' sj = told_then w k _ _ _ _ (elements_by_told k (with_in c) ce false right_paren_kind (refl, refl, refl, refl) (past m s) (past lm s') sj.after) (λ xs0 xs1 xs1' xs1h. group_end_told k c ce l k s s' sj.base k (past m s) (past lm s') sj.after xs0 xs1 xs1' xs1h)

  pub ident_end_told : (k : Ceiling) (c : Code) (ce : c.context.module_ ≡ modular) (l : ℕ) (startc : Ceiling) (start : State S) (start' : State Input) (startj : Joined m Live startc start start') (n : List ℕ) (s : State S) (s' : State Input) (sh : Beside m Live k s s') → Told m Live k (ident_end lm il c l (first_span (input lm start')) n s') (ident_end m im c l (first_span (input m start)) n s)
  unfolding ident_end
  ident_end_told k c ce l startc start start' startj n s s' sh = told_if w k _ _ (agree1 w (λ z. arrows_at lm il l (on [] 0 z)) (λ p q l v. refl) (λ p q l v. refl) (λ p l v. refl) k s s' sh) _ _ _ _ (λ y1. subst (λ (z : List Tree). Told m Live k (arrow_by lm il c (lo (input lm start')) false (binding_ident (first lm il start') (ident (first lm il start') n) ∷ []) s') (arrow_by m im c (lo (input m start)) false z s)) (ap (λ (z : Span). (binding_ident z (ident z n) ∷ [])) (first_same w startc start start' startj)) (arrow_by_told k c ce startc start start' startj.base false (binding_ident (first lm il start') (ident (first lm il start') n) ∷ []) s s' (joined_at w arrow_kind (refl, refl, refl, refl) k s s' sh (and_first _ _ (and_first _ _ y1))))) (λ _. told_ok w k _ _ s s' sh (ap (λ (z : Span). ident z n) (first_same w startc start start' startj)))

  pub arguments_by_told : (k : Ceiling) (c : Code) (ce : c.context.module_ ≡ modular) (s : State S) (s' : State Input) (sh : Beside m Live k s s') → Told m Live k (arguments_by lm il c s') (arguments_by m im c s)
  unfolding arguments_by
  arguments_by_told k c ce s s' sh = told_then w k _ _ _ _ (elements_by_told k c ce false right_paren_kind (refl, refl, refl, refl) s s' sh) (λ xs0 xs1 xs1' xs1h. told_ok w k _ _ xs1 xs1' xs1h refl)

  pub async_group_told : (k : Ceiling) (c : Code) (ce : c.context.module_ ≡ modular) (l : ℕ) (startc : Ceiling) (start : State S) (start' : State Input) (startj : Joined m Live startc start start') (s : State S) (s' : State Input) (sj : Joined m Live k s s') → Told m Live k (async_group lm il c l (first_span (input lm start')) (text (input lm start')) s') (async_group m im c l (first_span (input m start)) (text (input m start)) s)
  unfolding async_group
  async_group_told k c ce l startc start start' startj s s' sj = told_then w k _ _ _ _ (elements_by_told k (with_in c) ce false right_paren_kind (refl, refl, refl, refl) (past m s) (past lm s') sj.after) (λ xs0 xs1 xs1' xs1h.
      told_if w k _ _ (ap₂ (λ (a b : Bool). a && not b) (heads_same k l xs0 xs1 xs1' xs1h) (has_same w break_of (λ p l v. refl) k s s' sj)) _ _ _ _
      (λ y. told_pure w _ _ k _ _ (params_same xs1'.commas xs1.commas (sym xs1h.commas) xs0) _ _ (λ ps. arrow_by_told k c ce startc start start' startj.base true ps xs1 xs1' (heads_joined k l xs0 xs1 xs1' xs1h (and_first (heads_params lm il l xs0 xs1') (not (brk (input lm s'))) y))))
      (λ _. told_ok w k _ _ xs1 xs1' xs1h (ap (λ (z : Span). call_expr z (ident (first lm il start') (text (input lm start'))) (pack xs0.items)) (span_same w startc k start xs1 start' xs1' startj.base xs1h)
      ∙ (ap (λ (z : Span). call_expr (spanned m (lo (input m start)) xs1) (ident z (text (input lm start'))) (pack xs0.items)) (first_same w startc start start' startj) ∙ ap (λ (z : List ℕ). call_expr (spanned m (lo (input m start)) xs1) (ident (first m im start) z) (pack xs0.items)) (text_as w startc start start' startj)))))

  pub function_expr_name_told : (k : Ceiling) (c : Code) (ce : c.context.module_ ≡ modular) (startc : Ceiling) (start : State S) (start' : State Input) (starth : Beside m Live startc start start') (generator : Bool) (async : Bool) (s : State S) (s' : State Input) (sh : Beside m Live k s s') → Told m Live k (function_expr_name lm il c (lo (input lm start')) generator async s') (function_expr_name m im c (lo (input m start)) generator async s)
  unfolding function_expr_name
  function_expr_name_told k c ce startc start start' starth generator async s s' sh = told_at w k left_paren_kind (refl, refl, refl, refl) s s' sh _ _ _ _ (λ j1. told_then w k _ _ _ _ (subst (λ (z : ℕ). Told m Live k (function_by lm il c (lo (input lm start')) generator async s') (function_by m im c z generator async s)) (ap (λ (z : ℕ). z) (lo_same w startc start start' starth)) (function_by_told k c ce (lo (input lm start')) generator async s s' sh)) (λ f0 f1 f1' f1h. told_ok w k _ _ f1 f1' f1h (ap (λ (z : Span). fn_expr z absent f0) (span_same w startc k start f1 start' f1' starth f1h)))) (told_name w k (by generator async c) s s' sh _ _ (λ n0 j2. told_then w k _ _ _ _ (subst (λ (z : ℕ). Told m Live k (function_by lm il c (lo (input lm start')) generator async (past lm s')) (function_by m im c z generator async (past m s))) (ap (λ (z : ℕ). z) (lo_same w startc start start' starth)) (function_by_told k c ce (lo (input lm start')) generator async (past m s) (past lm s') j2.after)) (λ f0 f1 f1' f1h. told_ok w k _ _ f1 f1' f1h (ap (λ (z : Span). fn_expr z (ident (first lm il s') n0) f0) (span_same w startc k start f1 start' f1' starth f1h) ∙ (ap (λ (z : Span). fn_expr (spanned m (lo (input m start)) f1) (ident z n0) f0) (first_same w k s s' j2))))))

  pub function_expr_by_told : (k : Ceiling) (c : Code) (ce : c.context.module_ ≡ modular) (startc : Ceiling) (start : State S) (start' : State Input) (starth : Beside m Live startc start start') (async : Bool) (s : State S) (s' : State Input) (sh : Beside m Live k s s') → Told m Live k (function_expr_by lm il c (lo (input lm start')) async s') (function_expr_by m im c (lo (input m start)) async s)
  unfolding function_expr_by
  function_expr_by_told k c ce startc start start' starth async s s' sh = told_word w k c function_kind (refl, refl, refl, refl) s s' sh _ _ (λ j1. told_then w k _ _ _ _ (star_told k (past m s) (past lm s') j1.after) (λ g0 g1 g1' g1h. function_expr_name_told k c ce startc start start' starth g0 async g1 g1' g1h))

  async_name : (k : Ceiling) (c : Code) (ce : c.context.module_ ≡ modular) (l : ℕ) (s : State S) (s' : State Input) → Beside m Live k s s' → (r : State S) (r' : State Input) → Beside m Live k r r' → is_async_param lm il c l r' ≡ true
      → Told m Live k (name lm c r' >>= λ n. arrow_by lm il c (lo (input lm s')) true (binding_ident (first lm il r') (ident (first lm il r') n.0) ∷ []) n.1) (name m c r >>= λ n. arrow_by m im c (lo (input m s)) true (binding_ident (first m im r) (ident (first m im r) n.0) ∷ []) n.1)
  async_name k c ce l s s' sh r r' rh y = told_name w k c r r' rh _ _ (λ n j. subst (λ (z : Span). Told m Live k (arrow_by lm il c (lo (input lm s')) true (binding_ident (first lm il r') (ident (first lm il r') n) ∷ []) (past lm r')) (arrow_by m im c (lo (input m s)) true (binding_ident z (ident z n) ∷ []) (past m r)))
      (first_same w k r r' j) (arrow_by_told k c ce k s s' sh true (binding_ident (first lm il r') (ident (first lm il r') n) ∷ []) (past m r) (past lm r') (joined_at w arrow_kind (refl, refl, refl, refl) k (past m r) (past lm r') j.after (arrow_next c l r' y))))
    where
      arrow_next : (c : Code) (l : ℕ) (r' : State Input) → is_async_param lm il c l r' ≡ true → at lm arrow_kind (past lm r') ≡ true
      arrow_next c l r' y = third (is_name lm c r') (not (brk (input lm r'))) (kind2 (input lm r') == arrow_kind) (not (brk2 (input lm r'))) (nat_le l assignment_level) y
        where
          third : (a b d e f : Bool) → (a && ((b && d && e) && f)) ≡ true → d ≡ true
          third true true true true f y = refl
          third true true true false f y = refl
          third true true false e f y = y
          third true false d e f y = absurd (true≢false (sym y))
          third false b d e f y = absurd (true≢false (sym y))

  pub async_by_told : (k : Ceiling) (c : Code) (ce : c.context.module_ ≡ modular) (l : ℕ) (s : State S) (s' : State Input) (sj : Joined m Live k s s') → Told m Live k (async_by lm il c l s') (async_by m im c l s)
  unfolding async_by
  async_by_told k c ce l s s' sj = told_if w k _ _ (agree1 w (λ z. (at lm function_kind (on [] 0 z) && not (brk (input lm (on [] 0 z)))) && not (barred c.context (input lm (on [] 0 z)))) (λ p q l v. refl) (λ p q l v. refl) (λ p l v. refl) k (past m s) (past lm s') sj.after) _ _ _ _ (λ _. function_expr_by_told k c ce k s s' sj.base true (past m s) (past lm s') sj.after)
      (λ _. told_if w k _ _ (agree2 w (λ z. is_async_param lm il c l (on [] 0 z)) (λ p q l v. refl) (λ p q l v. refl) (λ n p q l v. refl) (λ n p q l v. refl) (λ n p l v. refl) k (past m s) (past lm s') sj.after) _ _ _ _ (λ y. async_name k c ce l s s' sj.base (past m s) (past lm s') sj.after y)
      (λ _. told_if w k _ _ (agree1 w (λ z. at lm left_paren_kind (on [] 0 z) && not (brk (input lm (on [] 0 z)))) (λ p q l v. refl) (λ p q l v. refl) (λ p l v. refl) k (past m s) (past lm s') sj.after) _ _ _ _
      (λ y. async_group_told k c ce l k s s' sj (past m s) (past lm s') (joined_at w left_paren_kind (refl, refl, refl, refl) k (past m s) (past lm s') sj.after (and_first (at lm left_paren_kind (past lm s')) (not (brk (input lm (past lm s')))) y)))
      (λ _. subst (λ (z : List ℕ). Told m Live k (ident_end lm il c l (first_span (input lm s')) (text (input lm s')) (past lm s')) (ident_end m im c l (first_span (input m s)) z (past m s))) (text_as w k s s' sj) (ident_end_told k c ce l k s s' sj (text (input lm s')) (past m s) (past lm s') sj.after))))

  pub class_expr_by_told : (k : Ceiling) (c : Code) (ce : c.context.module_ ≡ modular) (s : State S) (s' : State Input) (sh : Beside m Live k s s') → Told m Live k (class_expr_by lm il c s') (class_expr_by m im c s)
  unfolding class_expr_by
  class_expr_by_told k c ce s s' sh = told_word w k c class_kind (refl, refl, refl, refl) s s' sh _ _ (λ j1. told_if w k _ _ (agree1 w (λ z. is_name lm (turned_strict c) (on [] 0 z) && not (at lm left_brace_kind (on [] 0 z))) (λ p q l v. refl) (λ p q l v. refl) (λ p l v. refl) k (past m s) (past lm s') j1.after) _ _ _ _ (λ y2. told_name w k (turned_strict c) (past m s) (past lm s') j1.after _ _ (λ n0 j3. told_then w k _ _ _ _ (subst (λ (z : ℕ). Told m Live k (il.class_tail (turned_strict (with_in c)) (lo (input lm s')) (past lm (past lm s'))) (im.class_tail (turned_strict (with_in c)) z (past m (past m s)))) (ap (λ (z : ℕ). z) (lo_same w k s s' sh)) (told.class_tail k (turned_strict (with_in c)) ce (lo (input lm s')) (past m (past m s)) (past lm (past lm s')) j3.after)) (λ k0 k1 k1' k1h. told_ok w k _ _ k1 k1' k1h (ap (λ (z : Span). class_expr z (ident (first lm il (past lm s')) n0) k0) (span_same w k k s k1 s' k1' sh k1h) ∙ (ap (λ (z : Span). class_expr (spanned m (lo (input m s)) k1) (ident z n0) k0) (first_same w k (past m s) (past lm s') j3)))))) (λ _. told_then w k _ _ _ _ (subst (λ (z : ℕ). Told m Live k (il.class_tail (turned_strict (with_in c)) (lo (input lm s')) (past lm s')) (im.class_tail (turned_strict (with_in c)) z (past m s))) (ap (λ (z : ℕ). z) (lo_same w k s s' sh)) (told.class_tail k (turned_strict (with_in c)) ce (lo (input lm s')) (past m s) (past lm s') j1.after)) (λ k0 k1 k1' k1h. told_ok w k _ _ k1 k1' k1h (ap (λ (z : Span). class_expr z absent k0) (span_same w k k s k1 s' k1' sh k1h)))))

  pub new_end_told : (k : Ceiling) (c : Code) (ce : c.context.module_ ≡ modular) (startc : Ceiling) (start : State S) (start' : State Input) (starth : Beside m Live startc start start') (f : Tree) (s : State S) (s' : State Input) (sh : Beside m Live k s s') → Told m Live k (new_end lm il c (lo (input lm start')) f s') (new_end m im c (lo (input m start)) f s)
  unfolding new_end
  new_end_told k c ce startc start start' starth f s s' sh = told_if w k _ _ (agree1 w (λ z. at lm left_paren_kind (on [] 0 z) && nat_le member_level (level f)) (λ p q l v. refl) (λ p q l v. refl) (λ p l v. refl) k s s' sh) _ _ _ _ (λ y1. told_then w k _ _ _ _ (arguments_by_told k c ce (past m s) (past lm s') (joined_at w left_paren_kind (refl, refl, refl, refl) k s s' sh (and_first (at lm left_paren_kind s') (nat_le member_level (level f)) y1)).after) (λ xs0 xs1 xs1' xs1h. told_ok w k _ _ xs1 xs1' xs1h (ap (λ (z : Span). new_expr z f (list (pack xs0))) (span_same w startc k start xs1 start' xs1' starth xs1h)))) (λ _. told_if w k _ _ (agree2 w (λ z. (nat_le member_level (level f) || (level f == new_level)) && nat_lt (goes_expr c other_end (input lm (on [] 0 z))) call_level) (λ p q l v. refl) (λ p q l v. refl) (λ n p q l v. refl) (λ n p q l v. refl) (λ n p l v. refl) k s s' sh) _ _ _ _ (λ y2. told_ok w k _ _ s s' sh (ap (λ (z : Span). new_expr z f absent) (span_same w startc k start s start' s' starth sh))) (λ _. never w k _ _))

  pub callee_by_told : (k : Ceiling) (c : Code) (ce : c.context.module_ ≡ modular) (s : State S) (s' : State Input) (sh : Beside m Live k s s') → Told m Live k (callee_by lm il c s') (callee_by m im c s)
  unfolding callee_by
  callee_by_told k c ce s s' sh = told_if w k _ _ (agree2 w (λ z. at lm async_kind (on [] 0 z) && (kind2 (input lm (on [] 0 z)) == left_paren_kind)) (λ p q l v. refl) (λ p q l v. refl) (λ n p q l v. refl) (λ n p q l v. refl) (λ n p l v. refl) k s s' sh) _ _ _ _ (λ y1. told_name w k c s s' sh _ _ (λ n0 j2. told_ok w k _ _ (past m s) (past lm s') j2.after (ap (λ (z : Span). ident z n0) (first_same w k s s' j2)))) (λ _. told.expr k c ce member_level s s' sh)

  pub new_by_told : (k : Ceiling) (c : Code) (ce : c.context.module_ ≡ modular) (s : State S) (s' : State Input) (sh : Beside m Live k s s') → Told m Live k (new_by lm il c s') (new_by m im c s)
  unfolding new_by
  new_by_told k c ce s s' sh = told_word w k c new_kind (refl, refl, refl, refl) s s' sh _ _ (λ j1. told_at w k dot_kind (refl, refl, refl, refl) (past m s) (past lm s') j1.after _ _ _ _ (λ j2. told_word w k c target_kind (refl, refl, refl, refl) (past m (past m s)) (past lm (past lm s')) j2.after _ _ (λ j3. told_ok w k _ _ (past m (past m (past m s))) (past lm (past lm (past lm s'))) j3.after (ap (λ (z : Span). meta_prop_expr z new_kind) (span_same w k k s (past m (past m (past m s))) s' (past lm (past lm (past lm s'))) sh j3.after)))) (told_then w k _ _ _ _ (callee_by_told k c ce (past m s) (past lm s') j1.after) (λ f0 f1 f1' f1h. new_end_told k c ce k s s' sh f0 f1 f1' f1h)))

  pub super_end_told : (k : Ceiling) (c : Code) (ce : c.context.module_ ≡ modular) (startc : Ceiling) (start : State S) (start' : State Input) (startj : Joined m Live startc start start') (s : State S) (s' : State Input) (sh : Beside m Live k s s') → Told m Live k (super_end lm il c (first_span (input lm start')) s') (super_end m im c (first_span (input m start)) s)
  unfolding super_end
  super_end_told k c ce startc start start' startj s s' sh = told_at w k left_paren_kind (refl, refl, refl, refl) s s' sh _ _ _ _ (λ j1. told_then w k _ _ _ _ (arguments_by_told k c ce (past m s) (past lm s') j1.after) (λ xs0 xs1 xs1' xs1h. told_ok w k _ _ xs1 xs1' xs1h (ap (λ (z : Span). call_expr z (super (first lm il start')) (pack xs0)) (span_same w startc k start xs1 start' xs1' startj.base xs1h) ∙ (ap (λ (z : Span). call_expr (spanned m (lo (input m start)) xs1) (super z) (pack xs0)) (first_same w startc start start' startj))))) (told_at w k left_bracket_kind (refl, refl, refl, refl) s s' sh _ _ _ _ (λ j2. told_then w k _ _ _ _ (computed_by_told k c ce expression_level s s' j2) (λ k0 k1 k1' k1h. told_ok w k _ _ k1 k1' k1h (ap (λ (z : Span). super_prop_expr z (super (first lm il start')) k0) (span_same w startc k start k1 start' k1' startj.base k1h) ∙ (ap (λ (z : Span). super_prop_expr (spanned m (lo (input m start)) k1) (super z) k0) (first_same w startc start start' startj))))) (told_eat w k dot_kind (refl, refl, refl, refl) s s' sh _ _ (λ j3. told_any w k (past m s) (past lm s') j3.after _ _ (λ n0 j4. told_ok w k _ _ (past m (past m s)) (past lm (past lm s')) j4.after (ap (λ (z : Span). super_prop_expr z (super (first lm il start')) (ident_name (first lm il (past lm s')) n0)) (span_same w startc k start (past m (past m s)) start' (past lm (past lm s')) startj.base j4.after) ∙ (ap (λ (z : Span). super_prop_expr (spanned m (lo (input m start)) (past m (past m s))) (super z) (ident_name (first lm il (past lm s')) n0)) (first_same w startc start start' startj) ∙ (ap (λ (z : Span). super_prop_expr (spanned m (lo (input m start)) (past m (past m s))) (super (first m im start)) (ident_name z n0)) (first_same w k (past m s) (past lm s') j4))))))))

  pub import_by_told : (k : Ceiling) (c : Code) (ce : c.context.module_ ≡ modular) (s : State S) (s' : State Input) (sh : Beside m Live k s s') → Told m Live k (import_by lm il c s') (import_by m im c s)
  unfolding import_by
  import_by_told k c ce s s' sh = told_word w k c import_kind (refl, refl, refl, refl) s s' sh _ _ (λ j1. told_at w k dot_kind (refl, refl, refl, refl) (past m s) (past lm s') j1.after _ _ _ _ (λ j2. told_word w k c meta_kind (refl, refl, refl, refl) (past m (past m s)) (past lm (past lm s')) j2.after _ _ (λ j3. told_ok w k _ _ (past m (past m (past m s))) (past lm (past lm (past lm s'))) j3.after (ap (λ (z : Span). meta_prop_expr z import_kind) (span_same w k k s (past m (past m (past m s))) s' (past lm (past lm (past lm s'))) sh j3.after)))) (told_eat w k left_paren_kind (refl, refl, refl, refl) (past m s) (past lm s') j1.after _ _ (λ j4. told_then w k _ _ _ _ (elements_by_told k c ce false right_paren_kind (refl, refl, refl, refl) (past m (past m s)) (past lm (past lm s')) j4.after) (λ xs0 xs1 xs1' xs1h. told_if w k (fits_import lm il c xs0) (fits_import m im c xs0) refl _ _ _ _ (λ _. told_ok w k _ _ xs1 xs1' xs1h (ap (λ (z : Span). call_expr z (import (first lm il s')) (pack xs0.items)) (span_same w k k s xs1 s' xs1' sh xs1h) ∙ (ap (λ (z : Span). call_expr (spanned m (lo (input m s)) xs1) (import z) (pack xs0.items)) (first_same w k s s' j1)))) (λ _. never w k _ _)))))

  pub unary_by_told : (k : Ceiling) (c : Code) (ce : c.context.module_ ≡ modular) (s : State S) (s' : State Input) (sj : Joined m Live k s s') → Told m Live k (unary_by lm il c s') (unary_by m im c s)
  unfolding unary_by
  unary_by_told k c ce s s' sj = told_own w k c s s' sj _ _ (told_then w k _ _ _ _ (told.expr k c ce unary_level (past m s) (past lm s') sj.after) (λ e0 e1 e1' e1h. told_ok w k _ _ e1 e1' e1h (ap (λ (z : Span). unary_expr z (kind (input lm s')) e0) (span_same w k k s e1 s' e1' sj.base e1h) ∙ (ap (λ (z : ℕ). unary_expr (spanned m (lo (input m s)) e1) z e0) (kind_as w k s s' sj)))))

  pub update_by_told : (k : Ceiling) (c : Code) (ce : c.context.module_ ≡ modular) (s : State S) (s' : State Input) (sj : Joined m Live k s s') → Told m Live k (update_by lm il c s') (update_by m im c s)
  unfolding update_by
  update_by_told k c ce s s' sj = told_then w k _ _ _ _ (told.expr k c ce unary_level (past m s) (past lm s') sj.after) (λ e0 e1 e1' e1h. told_ok w k _ _ e1 e1' e1h (ap (λ (z : Span). update_expr z (kind (input lm s')) true e0) (span_same w k k s e1 s' e1' sj.base e1h) ∙ (ap (λ (z : ℕ). update_expr (spanned m (lo (input m s)) e1) z true e0) (kind_as w k s s' sj))))

  pub await_by_told : (k : Ceiling) (c : Code) (ce : c.context.module_ ≡ modular) (s : State S) (s' : State Input) (sh : Beside m Live k s s') → Told m Live k (await_by lm il c s') (await_by m im c s)
  unfolding await_by
  await_by_told k c ce s s' sh = told_word w k c await_kind (refl, refl, refl, refl) s s' sh _ _ (λ j1. told_then w k _ _ _ _ (told.expr k c ce unary_level (past m s) (past lm s') j1.after) (λ e0 e1 e1' e1h. told_ok w k _ _ e1 e1' e1h (ap (λ (z : Span). await_expr z e0) (span_same w k k s e1 s' e1' sh e1h))))

  pub yield_end_told : (k : Ceiling) (c : Code) (ce : c.context.module_ ≡ modular) (s : State S) (s' : State Input) (sh : Beside m Live k s s') (r : State S) (r' : State Input) (rh : Beside m Live k r r') → Told m Live k (yield_end lm il c (lo (input lm s')) r') (yield_end m im c (lo (input m s)) r)
  unfolding yield_end
  yield_end_told k c ce s s' sh r r' rh = told_if w k _ _ (agree1 w (λ z. brk (input lm (on [] 0 z)) || ends_yield lm il (kind (input lm (on [] 0 z)))) (λ p q l v. refl) (λ p q l v. refl) (λ p l v. refl) k r r' rh) _ _ _ _ (λ y1. told_ok w k _ _ r r' rh (ap (λ (z : Span). yield_expr z absent false) (span_same w k k s r s' r' sh rh))) (λ _. told_at w k mul_kind (refl, refl, refl, refl) r r' rh _ _ _ _ (λ j2. told_then w k _ _ _ _ (told.expr k c ce assignment_level (past m r) (past lm r') j2.after) (λ e0 e1 e1' e1h. told_ok w k _ _ e1 e1' e1h (ap (λ (z : Span). yield_expr z e0 true) (span_same w k k s e1 s' e1' sh e1h)))) (told_then w k _ _ _ _ (told.expr k c ce assignment_level r r' rh) (λ e0 e1 e1' e1h. told_ok w k _ _ e1 e1' e1h (ap (λ (z : Span). yield_expr z e0 false) (span_same w k k s e1 s' e1' sh e1h)))))

  pub yield_by_told : (k : Ceiling) (c : Code) (ce : c.context.module_ ≡ modular) (s : State S) (s' : State Input) (sh : Beside m Live k s s') → Told m Live k (yield_by lm il c s') (yield_by m im c s)
  unfolding yield_by
  yield_by_told k c ce s s' sh = told_word w k c yield_kind (refl, refl, refl, refl) s s' sh _ _ (λ j1. yield_end_told k c ce s s' sh (past m s) (past lm s') j1.after)

  pub word_by_told : (k : Ceiling) (c : Code) (ce : c.context.module_ ≡ modular) (l : ℕ) (s : State S) (s' : State Input) (sh : Beside m Live k s s') → Told m Live k (word_by lm il c l s') (word_by m im c l s)
  unfolding word_by
  word_by_told k c ce l s s' sh = told_at w k async_kind (refl, refl, refl, refl) s s' sh _ _ _ _ (λ j1. async_by_told k c ce l s s' j1) (told_name w k c s s' sh _ _ (λ n0 j2. ident_end_told k c ce l k s s' j2 n0 (past m s) (past lm s') j2.after))

  pub fixed_told : (k : Ceiling) (c : Code) (ce : c.context.module_ ≡ modular) (f : (Span → Tree)) (s : State S) (s' : State Input) (sj : Joined m Live k s s') → Told m Live k (fixed lm il c f s') (fixed m im c f s)
  fixed_told k c ce f s s' sj = told_own w k c s s' sj _ _ (told_ok w k _ _ (past m s) (past lm s') sj.after (ap (λ (z : Span). f z) (span_same w k k s (past m s) s' (past lm s') sj.base sj.after)))

  pub keyword_by_told : (k : Ceiling) (c : Code) (ce : c.context.module_ ≡ modular) (l : ℕ) (s : State S) (s' : State Input) (sh : Beside m Live k s s') → Told m Live k (keyword_by lm il c l s') (keyword_by m im c l s)
  unfolding keyword_by
  keyword_by_told k c ce l s s' sh = told_at w k this_kind (refl, refl, refl, refl) s s' sh _ _ _ _ (λ j1. fixed_told k c ce this_expr s s' j1) (told_at w k null_kind (refl, refl, refl, refl) s s' sh _ _ _ _ (λ j2. fixed_told k c ce null_lit s s' j2) (told_at w k true_kind (refl, refl, refl, refl) s s' sh _ _ _ _ (λ j3. fixed_told k c ce (λ p. bool_lit p true) s s' j3) (told_at w k false_kind (refl, refl, refl, refl) s s' sh _ _ _ _ (λ j4. fixed_told k c ce (λ p. bool_lit p false) s s' j4) (told_at w k function_kind (refl, refl, refl, refl) s s' sh _ _ _ _ (λ j5. function_expr_by_told k c ce k s s' sh false s s' sh) (told_at w k class_kind (refl, refl, refl, refl) s s' sh _ _ _ _ (λ j6. class_expr_by_told k c ce s s' sh) (told_at w k new_kind (refl, refl, refl, refl) s s' sh _ _ _ _ (λ j7. new_by_told k c ce s s' sh) (told_at w k super_kind (refl, refl, refl, refl) s s' sh _ _ _ _ (λ j8. told_word w k c super_kind (refl, refl, refl, refl) s s' sh _ _ (λ j9. super_end_told k c ce k s s' j9 (past m s) (past lm s') j9.after)) (told_at w k import_kind (refl, refl, refl, refl) s s' sh _ _ _ _ (λ j10. import_by_told k c ce s s' sh) (told_if w k _ _ (agree1 w (λ z. is_unary (kind (input lm (on [] 0 z)))) (λ p q l v. refl) (λ p q l v. refl) (λ p l v. refl) k s s' sh) _ _ _ _ (λ y11. unary_by_told k c ce s s' (joined_by w (is_unary) refl refl k s s' sh y11)) (λ _. told_if w k _ _ (agree1 w (λ z. at lm await_kind (on [] 0 z) && c.context.in_async) (λ p q l v. refl) (λ p q l v. refl) (λ p l v. refl) k s s' sh) _ _ _ _ (λ y12. await_by_told k c ce s s' sh) (λ _. told_if w k _ _ (agree1 w (λ z. at lm yield_kind (on [] 0 z) && c.context.in_generator) (λ p q l v. refl) (λ p q l v. refl) (λ p l v. refl) k s s' sh) _ _ _ _ (λ y13. yield_by_told k c ce s s' sh) (λ _. word_by_told k c ce l s s' sh))))))))))))

  pub prefix_by_told : (k : Ceiling) (c : Code) (ce : c.context.module_ ≡ modular) (l : ℕ) (s : State S) (s' : State Input) (sh : Beside m Live k s s') (fresh : at lm regex_kind s' ≡ true → Joined m Live k s s') → Told m Live k (prefix_by lm il c l s') (prefix_by m im c l s)
  unfolding prefix_by
  prefix_by_told k c ce l s s' sh fresh = told_if w k _ _ (agree1 w (λ z. is_word (kind (input lm (on [] 0 z)))) (λ p q l v. refl) (λ p q l v. refl) (λ p l v. refl) k s s' sh) _ _ _ _ (λ y1. keyword_by_told k c ce l s s' sh) (λ _. told_at w k left_paren_kind (refl, refl, refl, refl) s s' sh _ _ _ _ (λ j2. group_by_told k c ce l s s' j2) (told_at w k left_bracket_kind (refl, refl, refl, refl) s s' sh _ _ _ _ (λ j3. array_by_told k c ce s s' j3) (told_at w k left_brace_kind (refl, refl, refl, refl) s s' sh _ _ _ _ (λ j4. object_by_told k c ce s s' j4) (told_at w k back_quote_kind (refl, refl, refl, refl) s s' sh _ _ _ _ (λ j5. template_by_told k c ce false s s' j5) (told_if w k _ _ (agree1 w (λ z. is_unary (kind (input lm (on [] 0 z)))) (λ p q l v. refl) (λ p q l v. refl) (λ p l v. refl) k s s' sh) _ _ _ _ (λ y6. unary_by_told k c ce s s' (joined_by w (is_unary) refl refl k s s' sh y6)) (λ _. told_if w k _ _ (agree1 w (λ z. between plus_plus_kind minus_minus_kind (kind (input lm (on [] 0 z)))) (λ p q l v. refl) (λ p q l v. refl) (λ p l v. refl) k s s' sh) _ _ _ _ (λ y7. update_by_told k c ce s s' (joined_by w (between plus_plus_kind minus_minus_kind) refl refl k s s' sh y7)) (λ _. literal_or k s s' sh fresh)))))))

  pub member_name_told : (k : Ceiling) (may_private : Bool) (s : State S) (s' : State Input) (sh : Beside m Live k s s') → Told m Live k (member_name lm il may_private s') (member_name m im may_private s)
  unfolding member_name
  member_name_told k may_private s s' sh = told_at w k hash_kind (refl, refl, refl, refl) s s' sh _ _ _ _ (λ j1. told_if w k (may_private) (may_private) refl _ _ _ _ (λ _. private_by_told k s s' sh) (λ _. never w k _ _)) (told_any w k s s' sh _ _ (λ n0 j2. told_ok w k _ _ (past m s) (past lm s') j2.after (ap (λ (z : Span). ident_name z n0) (first_same w k s s' j2))))

  pub member_by_told : (k : Ceiling) (c : Code) (ce : c.context.module_ ≡ modular) (startc : Ceiling) (start : State S) (start' : State Input) (starth : Beside m Live startc start start') (t : Tree) (s : State S) (s' : State Input) (sj : Joined m Live k s s') → Told m Live k (member_by lm il c (lo (input lm start')) t s') (member_by m im c (lo (input m start)) t s)
  unfolding member_by
  member_by_told k c ce startc start start' starth t s s' sj = told_then w k _ _ _ _ (member_name_told k true (past m s) (past lm s') sj.after) (λ k0 k1 k1' k1h. told_ok w k _ _ k1 k1' k1h (ap (λ (z : Span). on_chain m im (is_chain t) z (member_expr z t k0)) (span_same w startc k start k1 start' k1' starth k1h)))

  pub index_by_told : (k : Ceiling) (c : Code) (ce : c.context.module_ ≡ modular) (startc : Ceiling) (start : State S) (start' : State Input) (starth : Beside m Live startc start start') (t : Tree) (s : State S) (s' : State Input) (sj : Joined m Live k s s') → Told m Live k (index_by lm il c (lo (input lm start')) t s') (index_by m im c (lo (input m start)) t s)
  unfolding index_by
  index_by_told k c ce startc start start' starth t s s' sj = told_then w k _ _ _ _ (computed_by_told k c ce expression_level s s' sj) (λ k0 k1 k1' k1h. told_ok w k _ _ k1 k1' k1h (ap (λ (z : Span). on_chain m im (is_chain t) z (member_expr z t k0)) (span_same w startc k start k1 start' k1' starth k1h)))

  pub call_by_told : (k : Ceiling) (c : Code) (ce : c.context.module_ ≡ modular) (startc : Ceiling) (start : State S) (start' : State Input) (starth : Beside m Live startc start start') (t : Tree) (s : State S) (s' : State Input) (sj : Joined m Live k s s') → Told m Live k (call_by lm il c (lo (input lm start')) t s') (call_by m im c (lo (input m start)) t s)
  unfolding call_by
  call_by_told k c ce startc start start' starth t s s' sj = told_then w k _ _ _ _ (arguments_by_told k c ce (past m s) (past lm s') sj.after) (λ xs0 xs1 xs1' xs1h. told_ok w k _ _ xs1 xs1' xs1h (ap (λ (z : Span). call_tree m im z t xs0) (span_same w startc k start xs1 start' xs1' starth xs1h)))

  pub chain_by_told : (k : Ceiling) (c : Code) (ce : c.context.module_ ≡ modular) (startc : Ceiling) (start : State S) (start' : State Input) (starth : Beside m Live startc start start') (t : Tree) (s : State S) (s' : State Input) (sh : Beside m Live k s s') → Told m Live k (chain_by lm il c (lo (input lm start')) t s') (chain_by m im c (lo (input m start)) t s)
  unfolding chain_by
  chain_by_told k c ce startc start start' starth t s s' sh = told_at w k left_paren_kind (refl, refl, refl, refl) s s' sh _ _ _ _ (λ j1. told_then w k _ _ _ _ (arguments_by_told k c ce (past m s) (past lm s') j1.after) (λ xs0 xs1 xs1' xs1h. told_ok w k _ _ xs1 xs1' xs1h (ap (λ (z : Span). opt_chain_expr z true (opt_call z t (pack xs0))) (span_same w startc k start xs1 start' xs1' starth xs1h)))) (told_at w k left_bracket_kind (refl, refl, refl, refl) s s' sh _ _ _ _ (λ j2. told_then w k _ _ _ _ (computed_by_told k c ce expression_level s s' j2) (λ k0 k1 k1' k1h. told_ok w k _ _ k1 k1' k1h (ap (λ (z : Span). opt_chain_expr z true (member_expr z t k0)) (span_same w startc k start k1 start' k1' starth k1h)))) (told_then w k _ _ _ _ (member_name_told k true s s' sh) (λ k0 k1 k1' k1h. told_ok w k _ _ k1 k1' k1h (ap (λ (z : Span). opt_chain_expr z true (member_expr z t k0)) (span_same w startc k start k1 start' k1' starth k1h)))))

  pub cond_by_told : (k : Ceiling) (c : Code) (ce : c.context.module_ ≡ modular) (startc : Ceiling) (start : State S) (start' : State Input) (starth : Beside m Live startc start start') (t : Tree) (s : State S) (s' : State Input) (sj : Joined m Live k s s') → Told m Live k (cond_by lm il c (lo (input lm start')) t s') (cond_by m im c (lo (input m start)) t s)
  unfolding cond_by
  cond_by_told k c ce startc start start' starth t s s' sj = told_then w k _ _ _ _ (told.expr k (with_in c) ce assignment_level (past m s) (past lm s') sj.after) (λ a0 a1 a1' a1h. told_eat w k colon_kind (refl, refl, refl, refl) a1 a1' a1h _ _ (λ j1. told_then w k _ _ _ _ (told.expr k c ce assignment_level (past m a1) (past lm a1') j1.after) (λ b0 b1 b1' b1h. told_ok w k _ _ b1 b1' b1h (ap (λ (z : Span). cond_expr z t a0 b0) (span_same w startc k start b1 start' b1' starth b1h)))))

  pub assign_by_told : (k : Ceiling) (c : Code) (ce : c.context.module_ ≡ modular) (startc : Ceiling) (start : State S) (start' : State Input) (starth : Beside m Live startc start start') (t : Tree) (s : State S) (s' : State Input) (sj : Joined m Live k s s') → Told m Live k (assign_by lm il c (lo (input lm start')) t s') (assign_by m im c (lo (input m start)) t s)
  unfolding assign_by
  assign_by_told k c ce startc start start' starth t s s' sj = told_pure w _ _ k _ _ (ap₂ (λ (a : ℕ) (o : List ℕ). to_target a o t) (kind_as w k s s' sj) (sym sj.base.commas)) _ _ (λ p. told_then w k _ _ _ _ (told.expr k c ce assignment_level (past m s) (past lm s') sj.after) (λ e0 e1 e1' e1h.
      told_ok w k _ _ e1 e1' e1h (ap (λ (z : Span). assign_expr z (kind (input lm s')) p e0) (span_same w startc k start e1 start' e1' starth e1h) ∙ ap (λ (z : ℕ). assign_expr (spanned m (lo (input m start)) e1) z p e0) (kind_as w k s s' sj))))

  pub binary_by_told : (k : Ceiling) (c : Code) (ce : c.context.module_ ≡ modular) (startc : Ceiling) (start : State S) (start' : State Input) (starth : Beside m Live startc start start') (t : Tree) (s : State S) (s' : State Input) (sj : Joined m Live k s s') → Told m Live k (binary_by lm il c (lo (input lm start')) t s') (binary_by m im c (lo (input m start)) t s)
  unfolding binary_by
  binary_by_told k c ce startc start start' starth t s s' sj = told_own w k c s s' sj _ _ (told_then w k _ _ _ _ (subst (λ (z : ℕ). Told m Live k (il.expr c (right_level (kind (input lm s'))) (past lm s')) (im.expr c z (past m s))) (ap (λ (z : ℕ). (right_level z)) (kind_as w k s s' sj)) (told.expr k c ce (right_level (kind (input lm s'))) (past m s) (past lm s') sj.after)) (λ e0 e1 e1' e1h. told_ok w k _ _ e1 e1' e1h (ap (λ (z : Span). bin_expr z (kind (input lm s')) t e0) (span_same w startc k start e1 start' e1' starth e1h) ∙ (ap (λ (z : ℕ). bin_expr (spanned m (lo (input m start)) e1) z t e0) (kind_as w k s s' sj)))))

  pub step_by_told : (k : Ceiling) (c : Code) (ce : c.context.module_ ≡ modular) (startc : Ceiling) (start : State S) (start' : State Input) (starth : Beside m Live startc start start') (t : Tree) (s : State S) (s' : State Input) (sj : Joined m Live k s s') → Told m Live k (step_by lm il c (lo (input lm start')) t s') (step_by m im c (lo (input m start)) t s)
  unfolding step_by
  step_by_told k c ce startc start start' starth t s s' sj = told_at w k comma_kind (refl, refl, refl, refl) s s' sj.base _ _ _ _ (λ j1. told_then w k _ _ _ _ (told.expr k c ce assignment_level (past m s) (past lm s') j1.after) (λ e0 e1 e1' e1h. told_ok w k _ _ e1 e1' e1h (ap (λ (z : Span). extended t e0 z) (span_same w startc k start e1 start' e1' starth e1h)))) (told_if w k _ _ (has_same w (λ z. is_assign_op (kind (input lm (on [] 0 z)))) (λ p l v. refl) k s s' sj) _ _ _ _ (λ y2. assign_by_told k c ce startc start start' starth t s s' (joined_by w (is_assign_op) refl refl k s s' sj.base y2)) (λ _. told_if w k _ _ (agree2 w (λ z. at lm question_mark_kind (on [] 0 z) && (kind2 (input lm (on [] 0 z)) == dot_kind)) (λ p q l v. refl) (λ p q l v. refl) (λ n p q l v. refl) (λ n p q l v. refl) (λ n p l v. refl) k s s' sj.base) _ _ _ _ (λ y3. told_if w k (nat_le call_level (level t)) (nat_le call_level (level t)) refl _ _ _ _ (λ _. chain_by_told k c ce startc start start' starth t (past m (past m s)) (past lm (past lm s')) (joined_at w dot_kind (refl, refl, refl, refl) k (past m s) (past lm s') sj.after (and_second (at lm question_mark_kind s') (kind2 (input lm s') == dot_kind) y3)).after) (λ _. never w k _ _)) (λ _. told_at w k question_mark_kind (refl, refl, refl, refl) s s' sj.base _ _ _ _ (λ j4. told_if w k (nat_le coalesce_level (level t)) (nat_le coalesce_level (level t)) refl _ _ _ _ (λ _. cond_by_told k c ce startc start start' starth t s s' j4) (λ _. never w k _ _)) (told_if w k _ _ (has_same w (λ z. operates c (kind (input lm (on [] 0 z)))) (λ p l v. refl) k s s' sj) _ _ _ _ (λ y5. told_if w k _ _ (has_same w (λ z. fits_left (kind (input lm (on [] 0 z))) t) (λ p l v. refl) k s s' (joined_by w (operates c) refl refl k s s' sj.base y5)) _ _ _ _ (λ y6. binary_by_told k c ce startc start start' starth t s s' (joined_by w (operates c) refl refl k s s' sj.base y5)) (λ _. never w k _ _)) (λ _. told_if w k _ _ (has_same w (λ z. between plus_plus_kind minus_minus_kind (kind (input lm (on [] 0 z)))) (λ p l v. refl) k s s' sj) _ _ _ _ (λ y7. told_if w k _ _ (has_same w (λ z. nat_le new_level (level t) && not (brk (input lm (on [] 0 z)))) (λ p l v. refl) k s s' (joined_by w (between plus_plus_kind minus_minus_kind) refl refl k s s' sj.base y7)) _ _ _ _ (λ y8. told_ok w k _ _ (past m s) (past lm s') (joined_by w (between plus_plus_kind minus_minus_kind) refl refl k s s' sj.base y7).after (ap (λ (z : Span). update_expr z (kind (input lm s')) false t) (span_same w startc k start (past m s) start' (past lm s') starth (joined_by w (between plus_plus_kind minus_minus_kind) refl refl k s s' sj.base y7).after) ∙ (ap (λ (z : ℕ). update_expr (spanned m (lo (input m start)) (past m s)) z false t) (kind_as w k s s' (joined_by w (between plus_plus_kind minus_minus_kind) refl refl k s s' sj.base y7))))) (λ _. never w k _ _)) (λ _. told_if w k (not (nat_le call_level (level t))) (not (nat_le call_level (level t))) refl _ _ _ _ (λ _. never w k _ _) (λ _. told_at w k left_paren_kind (refl, refl, refl, refl) s s' sj.base _ _ _ _ (λ j9. call_by_told k c ce startc start start' starth t s s' j9) (told_at w k left_bracket_kind (refl, refl, refl, refl) s s' sj.base _ _ _ _ (λ j10. index_by_told k c ce startc start start' starth t s s' j10) (told_at w k dot_kind (refl, refl, refl, refl) s s' sj.base _ _ _ _ (λ j11. member_by_told k c ce startc start start' starth t s s' j11) (told_if w k _ _ (has_same w (λ z. at lm back_quote_kind (on [] 0 z) && not (is_chain t)) (λ p l v. refl) k s s' sj) _ _ _ _ (λ y12. told_then w k _ _ _ _ (template_by_told k c ce true s s' (joined_at w back_quote_kind (refl, refl, refl, refl) k s s' sj.base (and_first (at lm back_quote_kind s') (not (is_chain t)) y12))) (λ q0 q1 q1' q1h. told_ok w k _ _ q1 q1' q1h (ap (λ (z : Span). tagged_tpl z t q0) (span_same w startc k start q1 start' q1' starth q1h)))) (λ _. never w k _ _)))))))))))

  -- Nothing goes on with a regular expression, or at the end.
  step_none : (c : Code) (start : State Input) (t : Tree) (o : List ℕ) (n : ℕ) (p : PlacedToken) (l : List PlacedToken) → Refused (step_by lm il c (lo (input lm start)) t (on o n (regexp p ∷ l)))
  unfolding step_by
  step_none c start t o n p l = by_level (nat_le call_level (level t))
    where
      by_level : (b : Bool) → Refused {A = Tree × State Input} (cond (not b) (unexpected lm (on o n (regexp p ∷ l))) (unexpected lm (on o n (regexp p ∷ l))))
      by_level true = (Unexpected _, refl)
      by_level false = (Unexpected _, refl)

  step_end : (c : Code) (start : State Input) (t : Tree) (o : List ℕ) (n : ℕ) → Refused (step_by lm il c (lo (input lm start)) t (on o n []))
  unfolding step_by
  step_end c start t o n = by_level (nat_le call_level (level t))
    where
      by_level : (b : Bool) → Refused {A = Tree × State Input} (cond (not b) (unexpected lm (on o n [])) (unexpected lm (on o n [])))
      by_level true = (Unexpected _, refl)
      by_level false = (Unexpected _, refl)

  goes_at : Bool → Bool → ℕ
  goes_at z true = cond z 0 assignment_level
  goes_at z false = cond z 0 (binary_level div_kind)

  -- Where the loop stops before a regular expression, it stops before a slash.
  goes_lower : (c : Code) (e : ℕ) (n i : ℕ) (l v : List PlacedToken) (q p : PlacedToken) → Rereads q p → goes_expr c e (record { last = i; places = q ∷ v }) ≤ goes_expr c e (record { last = n; places = p ∷ l })
  goes_lower c e n i l v q p h = reread (λ p q. goes_expr c e (record { last = i; places = q ∷ v }) ≤ goes_expr c e (record { last = n; places = p ∷ l })) (λ p q. assigns (nat_le closed_end e)) (λ p q. divides (nat_le closed_end e)) q p h
    where
      assigns : (z : Bool) → cond z 0 assignment_level ≤ cond z 0 (binary_level div_kind)
      assigns true = omega arith
      assigns false = omega arith

      divides : (z : Bool) → cond z 0 (binary_level div_kind) ≤ cond z 0 (binary_level div_kind)
      divides true = omega arith
      divides false = omega arith

  stops : (k : Ceiling) (t : Tree) (i j l : ℕ) → j ≤ i → (s : State S) (s' : State Input) → Beside m Live k s s' → (y : Result (Step Tree × State Input) Fault) (x : Result (Step Tree × State S) Fault) → Refused y
      → Told m Live k (cond (nat_lt i l) (Ok (finished t, s')) y) (cond (nat_lt j l) (Ok (finished t, s)) x)
  stops k t i j l e s s' h y x f = by_test (nat_lt i l) (nat_lt j l) (λ g. lt-ltb j l (omega (arith, e, ltb-true i l g)))
    where
      by_test : (b d : Bool) → (b ≡ true → d ≡ true) → Told m Live k (cond b (Ok (finished t, s')) y) (cond d (Ok (finished t, s)) x)
      by_test false d g = told_refused m Live k _ _ f
      by_test true true g = told_ok w k _ _ s s' h refl
      by_test true false g = absurd (true≢false (sym (g refl)))

  loop_on : (k : Ceiling) (c : Code) (ce : c.context.module_ ≡ modular) (l : ℕ) (startc : Ceiling) (start : State S) (start' : State Input) → Beside m Live startc start start' → (t : Tree) (s : State S) (o : List ℕ) (n : ℕ) (ps : List PlacedToken) → Beside m Live k s (on o n ps)
      → Told m Live k (loop_step lm il c l (lo (input lm start')) t (on o n ps)) (loop_step m im c l (lo (input m start)) t s)
  unfolding loop_step
  loop_on k c ce l startc start start' sth t s o n [] h = stops k t (goes_expr c (ends t) (input lm (on o n []))) (goes_expr c (ends t) (input m s)) l
      (subst (λ (z : List PlacedToken). goes_expr c (ends t) (record { last = m.last s.source; places = z }) ≤ goes_expr c (ends t) (input lm (on o n []))) (sym h.hands) (le_refl _)) s (on o n []) h _ _ (refused_then _ _ (step_end c start' t o n))
  loop_on k c ce l startc start start' sth t s o n (p ∷ ps) h = by_hands h.hands
    where
      reread_told : (q : PlacedToken) (v : List PlacedToken) → m.seen s.source ≡ q ∷ v → Rereads q p → Told m Live k (cond (nat_lt (goes_expr c (ends t) (input lm (on o n (p ∷ ps)))) l) (Ok (finished t, on o n (p ∷ ps))) (step_by lm il c (lo (input lm start')) t (on o n (p ∷ ps)) >>= λ x. Ok (go_on x.0, x.1)))
          (cond (nat_lt (goes_expr c (ends t) (input m s)) l) (Ok (finished t, s)) (step_by m im c (lo (input m start)) t s >>= λ x. Ok (go_on x.0, x.1)))
      reread_told q v e g = stops k t (goes_expr c (ends t) (input lm (on o n (p ∷ ps)))) (goes_expr c (ends t) (input m s)) l
          (subst (λ (z : List PlacedToken). goes_expr c (ends t) (record { last = m.last s.source; places = z }) ≤ goes_expr c (ends t) (input lm (on o n (p ∷ ps)))) (sym e) (goes_lower c (ends t) n (m.last s.source) ps v q p g)) s (on o n (p ∷ ps)) h _ _
          (refused_then _ _ (subst (λ (z : ℕ). Refused (step_by lm il c (lo (input lm start')) t (on o n (kinded z p ∷ ps)))) (sym g.1) (step_none c start' t o n p ps)))

      same_told : Joined m Live k s (on o n (p ∷ ps)) → Told m Live k (cond (nat_lt (goes_expr c (ends t) (input lm (on o n (p ∷ ps)))) l) (Ok (finished t, on o n (p ∷ ps))) (step_by lm il c (lo (input lm start')) t (on o n (p ∷ ps)) >>= λ x. Ok (go_on x.0, x.1)))
          (cond (nat_lt (goes_expr c (ends t) (input m s)) l) (Ok (finished t, s)) (step_by m im c (lo (input m start)) t s >>= λ x. Ok (go_on x.0, x.1)))
      same_told j = told_if w k _ _ (joined2 w (λ z. nat_lt (goes_expr c (ends t) (record { last = 0; places = z })) l) (λ n p q l v. refl) (λ n p q l v. refl) (λ n p l v. refl) k s (on o n (p ∷ ps)) j) _ _ _ _ (λ _. told_ok w k _ _ s (on o n (p ∷ ps)) h refl)
          (λ _. told_then w k _ _ _ _ (step_by_told k c ce startc start start' sth t s (on o n (p ∷ ps)) j) (λ x0 x1 x1' x1h. told_ok w k _ _ x1 x1' x1h refl))

      by_hands : HandsOut m (p ∷ ps) s.source → Told m Live k (cond (nat_lt (goes_expr c (ends t) (input lm (on o n (p ∷ ps)))) l) (Ok (finished t, on o n (p ∷ ps))) (step_by lm il c (lo (input lm start')) t (on o n (p ∷ ps)) >>= λ x. Ok (go_on x.0, x.1)))
          (cond (nat_lt (goes_expr c (ends t) (input m s)) l) (Ok (finished t, s)) (step_by m im c (lo (input m start)) t s >>= λ x. Ok (go_on x.0, x.1)))
      by_hands (inl g) = same_told (joined_to w k s o n p ps h g.0 g.1 g.2)
      by_hands (inr g) = reread_told g.0 g.1 g.3 g.4

  pub loop_step_told : (k : Ceiling) (c : Code) (ce : c.context.module_ ≡ modular) (l : ℕ) (startc : Ceiling) (start : State S) (start' : State Input) (starth : Beside m Live startc start start') (t : Tree) (s : State S) (s' : State Input) (sh : Beside m Live k s s') → Told m Live k (loop_step lm il c l (lo (input lm start')) t s') (loop_step m im c l (lo (input m start)) t s)
  loop_step_told k c ce l startc start start' starth t s s' sh = loop_on k c ce l startc start start' starth t s s'.commas s'.source.last s'.source.places sh

  pub loop_by_told : (k : Ceiling) (c : Code) (ce : c.context.module_ ≡ modular) (l : ℕ) (startc : Ceiling) (start : State S) (start' : State Input) (starth : Beside m Live startc start start') (t : Tree) (s : State S) (s' : State Input) (sh : Beside m Live k s s') → Told m Live k (loop_by lm il c l (lo (input lm start')) t s') (loop_by m im c l (lo (input m start)) t s)
  unfolding loop_by
  loop_by_told k c ce l startc start start' starth t s s' sh = told_if w k (nat_le l (level t)) (nat_le l (level t)) refl _ _ _ _ (λ _. told_iterate w _ _ (λ k2 x sx sx' sxh. loop_step_told k2 c ce l startc start start' starth x sx sx' sxh) k t s s' sh)
      (λ _. told_if w k ((level t == new_level) && (l == member_level)) ((level t == new_level) && (l == member_level)) refl _ _ _ _ (λ _. told_ok w k _ _ s s' sh refl) (λ _. never w k _ _))

  pub private_in_told : (k : Ceiling) (c : Code) (ce : c.context.module_ ≡ modular) (l : ℕ) (s : State S) (s' : State Input) (sh : Beside m Live k s s') → Told m Live k (private_in lm il c l s') (private_in m im c l s)
  unfolding private_in
  private_in_told k c ce l s s' sh = told_then w k _ _ _ _ (private_by_told k s s' sh) (λ p0 p1 p1' p1h. told_if w k _ _ (agree1 w (λ z. at lm in_kind (on [] 0 z) && (has_in c && nat_le l (binary_level in_kind))) (λ p q l v. refl) (λ p q l v. refl) (λ p l v. refl) k p1 p1' p1h) _ _ _ _ (λ y1. told_then w k _ _ _ _ (binary_by_told k c ce k s s' sh p0 p1 p1' (joined_at w in_kind (refl, refl, refl, refl) k p1 p1' p1h (and_first (at lm in_kind p1') ((has_in c && nat_le l (binary_level in_kind))) y1))) (λ t0 t1 t1' t1h. loop_by_told k c ce l k s s' sh t0 t1 t1' t1h)) (λ _. never w k _ _))

  pub expr_from_told : (k : Ceiling) (c : Code) (ce : c.context.module_ ≡ modular) (l : ℕ) (s : State S) (s' : State Input) (sh : Beside m Live k s s') (fresh : at lm regex_kind s' ≡ true → Joined m Live k s s') → Told m Live k (expr_from lm il c l s') (expr_from m im c l s)
  unfolding expr_from
  expr_from_told k c ce l s s' sh fresh = told_at w k hash_kind (refl, refl, refl, refl) s s' sh _ _ _ _ (λ j1. private_in_told k c ce l s s' sh) (told_then w k _ _ _ _ (prefix_by_told k c ce l s s' sh fresh) (λ t0 t1 t1' t1h. loop_by_told k c ce l k s s' sh t0 t1 t1' t1h))

  -- No expression starts with a slash.
  literal_none : (k : ℕ) → (eqb k str_kind ≡ false) × (eqb k num_kind ≡ false) × (eqb k big_int_kind ≡ false) × (eqb k regex_kind ≡ false) → (t : Content) (s : Span) → literal k t s ≡ None
  literal_none k e (Quoted units raw) s = ap (λ (b : Bool). only_kind b (str_lit s units (Some raw))) e.0
  literal_none k e (Numeral value raw) s = ap (λ (b : Bool). only_kind b (number_lit s value (Some raw))) e.1
  literal_none k e (BigNumeral radix digits raw) s = ap (λ (b : Bool). only_kind b (big_int_lit s radix digits (Some raw))) e.2
  literal_none k e (Pattern body flags) s = ap (λ (b : Bool). only_kind b (regex_lit s body flags)) e.3
  literal_none k e _ s = refl

  literal_refused : (k : ℕ) (e : (eqb k str_kind ≡ false) × (eqb k num_kind ≡ false) × (eqb k big_int_kind ≡ false) × (eqb k regex_kind ≡ false)) (o : List ℕ) (n : ℕ) (p : PlacedToken) (l : List PlacedToken) → Refused (literal_by lm il (on o n (kinded k p ∷ l)))
  unfolding literal_by
  literal_refused k e o n p l = (Unexpected _, ap (λ (z : Option Tree). elim z [ None ↦ unexpected lm (on o n (kinded k p ∷ l)) | Some t ↦ Ok (t, past lm (on o n (kinded k p ∷ l))) ]) (literal_none k e p.spot.token.content (first lm il (on o n (kinded k p ∷ l)))))

  expr_refused : (c : Code) (l : ℕ) (r : State Input) → is_slash (kind (input lm r)) ≡ true → Refused (expr_from lm il c l r)
  unfolding expr_from prefix_by
  expr_refused c l r e = at_slash (λ z. Refused (expr_from lm il c l z)) (λ o n p ps. refused_then _ _ (literal_refused div_assign_kind (refl, refl, refl, refl) o n p ps)) (λ o n p ps. refused_then _ _ (literal_refused div_kind (refl, refl, refl, refl) o n p ps)) r e

  pub expr_by_refused : (c : Code) (l : ℕ) (r : State Input) → is_slash (kind (input lm r)) ≡ true → Refused (expr_by lm il c l r)
  unfolding expr_by
  expr_by_refused c l r e = expr_refused c l r e

  pub expr_by_told : (k : Ceiling) (c : Code) (ce : c.context.module_ ≡ modular) (l : ℕ) (s : State S) (s' : State Input) (sh : Beside m Live k s s') → Told m Live k (expr_by lm il c l s') (expr_by m im c l s)
  unfolding expr_by
  expr_by_told k c ce l s s' sh = told_operand w k s s' sh (λ e. told_refused m Live k _ _ (expr_refused c l s' e)) (λ oh fresh. expr_from_told k c ce l (operand m s) s' oh fresh)
