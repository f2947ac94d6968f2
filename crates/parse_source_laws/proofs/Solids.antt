-- What is read as an expression is no block, and not absent.
use Rattle.std.proofs.Common.{◌≡◌, ℕ, zero, suc, Bool, true, false, not, ◌&&◌, ◌||◌, ◌==◌, cond, nat_le, nat_lt, if◌then◌else◌, List, [], ◌∷◌, Option, Some, None, Result, Ok, Err, refl, sym, ap, subst, true≢false}
use Rattle.base_token.specs.declared.place.Span.{Span}
use Rattle.base_token.specs.Kinds.{hash_kind, dot_kind, left_paren_kind, right_paren_kind, left_bracket_kind, right_bracket_kind, left_brace_kind, comma_kind, back_quote_kind, colon_kind, question_mark_kind, mul_kind, null_kind, true_kind, false_kind, await_kind, function_kind, class_kind, new_kind, this_kind, super_kind, import_kind, yield_kind, in_kind, plus_plus_kind, minus_minus_kind, async_kind, meta_kind, target_kind}
use Rattle.base_token.specs.Tokens.{Content, Quoted, Pattern, Numeral, BigNumeral}
use Rattle.tree_spec.specs.Tree.{Tree, pack, ident_name, this_expr, array_lit, object_lit, fn_expr, unary_expr, update_expr, bin_expr, assign_expr, member_expr, super_prop_expr, cond_expr, call_expr, new_expr, ident, tpl, tagged_tpl, arrow_expr, class_expr, yield_expr, meta_prop_expr, await_expr, paren_expr, opt_chain_expr, opt_call, super, import, bool_lit, null_lit, binding_ident, absent, list, seq_expr}
use Rattle.grammar_spec.specs.Tokens.Input.{Code, kind, content, lo, text, is_word, barred, span, kind2, brk, has_in, with_in, in_list, by, in_arrow, turned_strict, first_span}
use Rattle.grammar_spec.specs.Tokens.Shape.{level, ends, fits_left, is_chain, is_absent}
use Rattle.grammar_spec.specs.Tokens.Operators.{assignment_level, binary_level, goes_expr, other_end, expression_level, coalesce_level, unary_level, new_level, call_level, member_level, right_level, is_assign_op, operates, between}
use Rattle.grammar_spec.specs.Reader.Source.{Fault, ◌>>=◌, placed, unexpected, Stream, State, Read, input, past, operand, at, bound, spanned, eat, eat_word, is_name, name, any_word, Step, go_on, finished, next_by, iterate_n, iterate, Inner}
use Rattle.grammar_spec.specs.Reader.Expressions.{Elements, literal, only_kind, joined, extended, is_read, last_end, plain_elements, no_elements, is_unary, first, literal_by, elements_by, noted, array_by, computed_by, private_by, function_by, star, prop_step, object_by, quasi_step, template_by, arrows_at, arrow_by, params_of, heads_params, group_end, group_by, ident_end, arguments_by, async_group, function_expr_name, function_expr_by, is_async_param, async_by, class_expr_by, new_end, callee_by, new_by, super_end, fits_import, import_by, unary_by, update_by, await_by, ends_yield, yield_end, yield_by, word_by, keyword_by, prefix_by, member_name, on_chain, member_by, index_by, call_tree, call_by, chain_by, cond_by, assign_by, binary_by, step_by, loop_step, loop_by, private_in, expr_from, expr_by}
use Rattle.grammar_spec.specs.Reader.Cover.{last_rests, to_target}
use Rattle.grammar_spec.specs.Tokens.Shape.{is_block}
use Rattle.grammar_spec.specs.Reader.Reading.{readers}
use Rattle.grammar_spec.specs.Reader.Source.{Read, bound, next_by, iterate_n, iterate, go_on, finished, Step, Fault}
use Rattle.grammar_spec.specs.Tokens.Shape.{is_chain, level}

-- a tree that is no block, and not absent
abbrev pub Whole : Tree → Type 0
Whole t = (is_block t ≡ false) × (is_absent t ≡ false)

module _ {S : Type 0} (m : Stream S) where
  abbrev SolidBy : Result (Tree × State S) Fault → Type 0
  SolidBy (Ok x) = Whole x.0
  SolidBy (Err e) = Unit {0}

  record Solid (y : Result (Tree × State S) Fault) : Type 0 where
    so : SolidBy y

  abbrev SteadyBy : Result (Step Tree × State S) Fault → Type 0
  SteadyBy (Ok (go_on x, r)) = Whole x
  SteadyBy (Ok (finished x, r)) = Whole x
  SteadyBy (Err e) = Unit {0}

  record Steady (y : Result (Step Tree × State S) Fault) : Type 0 where
    so : SteadyBy y

module _ {S : Type 0} {m : Stream S} where
  solid_never : {e : Fault} → Solid m (Err e)
  solid_never = record { so = tt }

  solid_if : (b : Bool) (x y : Result (Tree × State S) Fault) → Solid m x → Solid m y → Solid m (cond b x y)
  solid_if true x y h n = h
  solid_if false x y h n = n

  solid_then : {B : Type 0} (x : Result B Fault) (f : B → Result (Tree × State S) Fault) → ((b : B) → Solid m (f b)) → Solid m (x >>= f)
  solid_then (Ok b) f h = h b
  solid_then (Err e) f h = record { so = tt }

  solid_pass : (x : Result (Tree × State S) Fault) (f : Tree × State S → Result (Tree × State S) Fault) → Solid m x → ((t : Tree) (s : State S) → Whole t → Solid m (f (t, s))) → Solid m (x >>= f)
  solid_pass (Ok x) f h n = n x.0 x.1 h.so
  solid_pass (Err e) f h n = record { so = tt }

  steady_if : (b : Bool) (x y : Result (Step Tree × State S) Fault) → Steady m x → Steady m y → Steady m (cond b x y)
  steady_if true x y h n = h
  steady_if false x y h n = n

  steady_of : (x : Result (Tree × State S) Fault) → Solid m x → Steady m (x >>= λ z. Ok (go_on z.0, z.1))
  steady_of (Ok x) h = record { so = h.so }
  steady_of (Err e) h = record { so = tt }

  module _ (g : Tree → Read S (Step Tree)) (h : (x : Tree) (s : State S) → Whole x → Steady m (g x s)) where
    solid_turns : (j : ℕ) (x : Tree) (s : State S) → Whole x → Solid m (iterate_n (bound m) j g x s)
    unfolding iterate_n
    solid_turns zero x s p = record { so = tt }
    solid_turns (suc j) x s p = by_step (λ z t o. solid_turns j z t o) (g x s) (h x s p)
      where
        by_step : ((z : Tree) (t : State S) → Whole z → Solid m (iterate_n (bound m) j g z t)) → (y : Result (Step Tree × State S) Fault) → Steady m y → Solid m (y >>= next_by (bound m) (iterate_n (bound m) j g) (bound m s))
        by_step n (Err e) k = record { so = tt }
        by_step n (Ok (finished z, t)) k = record { so = k.so }
        by_step n (Ok (go_on z, t)) k = solid_if (nat_lt (m.bound t.source) (m.bound s.source)) _ _ (n z t k.so) (record { so = tt })

    solid_iterate : (x : Tree) (s : State S) → Whole x → Solid m (iterate (bound m) g x s)
    unfolding iterate
    solid_iterate x s p = solid_turns _ x s p

extended_solid : (t e : Tree) (n : Span) → Whole (extended t e n)
extended_solid (seq_expr s xs) e n = (refl, refl)
extended_solid _ e n = (refl, refl)

module _ {S : Type 0} (m : Stream S) (im : Inner S) where
  called_solid : (s : Span) (t : Tree) (xs : List Tree) → Whole (call_tree m im s t xs)
  called_solid s t xs = by_chain (is_chain t)
    where
      by_chain : (b : Bool) → Whole (if b then opt_chain_expr s false (opt_call s t (pack xs)) else call_expr s t (pack xs))
      by_chain true = (refl, refl)
      by_chain false = (refl, refl)

  chained_solid : (b : Bool) (s : Span) (o k : Tree) → Whole (on_chain m im b s (member_expr s o k))
  chained_solid true s o k = (refl, refl)
  chained_solid false s o k = (refl, refl)

  literal_by_solid : (s : State S) → Solid m (literal_by m im s)
  unfolding literal_by
  literal_by_solid s = by_content (kind (input m s)) (content (input m s)) (first m im s)
    where
      by_only : (b : Bool) (t : Tree) → Whole t → Solid m (elim (only_kind b t) [ None ↦ unexpected m s | Some t ↦ Ok (t, past m s) ])
      by_only true t p = record { so = p }
      by_only false t p = solid_never

      by_content : (k : ℕ) (c : Content) (p : Span) → Solid m (elim (literal k c p) [ None ↦ unexpected m s | Some t ↦ Ok (t, past m s) ])
      by_content k (Quoted units raw) p = by_only _ _ (refl, refl)
      by_content k (Numeral value raw) p = by_only _ _ (refl, refl)
      by_content k (BigNumeral radix digits raw) p = by_only _ _ (refl, refl)
      by_content k (Pattern body flags) p = by_only _ _ (refl, refl)
      by_content k _ p = solid_never

  array_by_solid : (c : Code) (s : State S) → Solid m (array_by m im c s)
  unfolding array_by
  array_by_solid c s = (solid_then (elements_by m im c true right_bracket_kind (past m s)) (λ xs. Ok (array_lit (spanned m (lo (input m s)) xs.1) (pack xs.0.items), noted m im (xs.0.comma && last_rests xs.0.items) (lo (input m s)) xs.1)) (λ xs. (record { so = (refl, refl) })))

  object_by_solid : (c : Code) (s : State S) → Solid m (object_by m im c s)
  unfolding object_by
  object_by_solid c s = (solid_then (iterate (bound m) (prop_step m im c) no_elements (past m s)) (λ ps. Ok (object_lit (spanned m (lo (input m s)) ps.1) (pack ps.0.items), noted m im (ps.0.comma && last_rests ps.0.items) (lo (input m s)) ps.1)) (λ ps. (record { so = (refl, refl) })))

  template_by_solid : (c : Code) (tagged : Bool) (s : State S) → Solid m (template_by m im c tagged s)
  unfolding template_by
  template_by_solid c tagged s = (solid_then (iterate (bound m) (quasi_step m im c tagged) (record { exprs = []; quasis = [] }) (past m s)) (λ x. Ok (tpl (spanned m (lo (input m s)) x.1) (pack x.0.exprs) (pack x.0.quasis), x.1)) (λ x. (record { so = (refl, refl) })))

  arrow_by_solid : (c : Code) (start : ℕ) (async : Bool) (ps : List Tree) (s : State S) → Solid m (arrow_by m im c start async ps s)
  unfolding arrow_by
  arrow_by_solid c start async ps s = (solid_if (at m left_brace_kind (past m s)) _ _ (solid_then (im.body (in_list (with_in (in_arrow async c))) (past m s)) (λ b. Ok (arrow_expr (spanned m start b.1) (pack ps) b.0 async, b.1)) (λ b. (record { so = (refl, refl) }))) (solid_then (im.expr (in_arrow async c) assignment_level (past m s)) (λ b. Ok (arrow_expr (spanned m start b.1) (pack ps) b.0 async, b.1)) (λ b. (record { so = (refl, refl) }))))

  group_end_solid : (c : Code) (l : ℕ) (start open_ : ℕ) (xs : Elements) (s : State S) → Solid m (group_end m im c l start open_ xs s)
  unfolding group_end
  group_end_solid c l start open_ xs s = solid_if (heads_params m im l xs s) _ _ (solid_then _ _ (λ ps. arrow_by_solid c start false ps s)) (solid_if xs.comma _ _ solid_never (by_plain (plain_elements xs.items)))
    where
      by_plain : (t : Option (List Tree)) → Solid m (elim t [ None ↦ unexpected m s | Some [] ↦ unexpected m s | Some (e ∷ es) ↦ Ok (paren_expr (spanned m start s) (joined (e ∷ es) (span open_ (last_end xs.items))), s) ])
      by_plain None = solid_never
      by_plain (Some []) = solid_never
      by_plain (Some (e ∷ es)) = record { so = (refl, refl) }

  group_by_solid : (c : Code) (l : ℕ) (s : State S) → Solid m (group_by m im c l s)
  unfolding group_by
  group_by_solid c l s = (solid_then (elements_by m im (with_in c) false right_paren_kind (past m s)) (λ xs. group_end m im c l (lo (input m s)) (lo (input m (past m s))) xs.0 xs.1) (λ xs. (group_end_solid c l (lo (input m s)) (lo (input m (past m s))) (xs.0) (xs.1))))

  ident_end_solid : (c : Code) (l : ℕ) (place : Span) (n : List ℕ) (s : State S) → Solid m (ident_end m im c l place n s)
  unfolding ident_end
  ident_end_solid c l place n s = (solid_if (arrows_at m im l s) _ _ (arrow_by_solid c place.lo.0 false ((binding_ident place (ident place n) ∷ [])) s) (record { so = (refl, refl) }))

  async_group_solid : (c : Code) (l : ℕ) (place : Span) (n : List ℕ) (s : State S) → Solid m (async_group m im c l place n s)
  unfolding async_group
  async_group_solid c l place n s = (solid_then (elements_by m im (with_in c) false right_paren_kind (past m s)) (λ xs. if heads_params m im l xs.0 xs.1 && not (brk (input m s)) then (placed (bound m xs.1) (params_of m im xs.1.commas xs.0) >>= λ ps. arrow_by m im c place.lo.0 true ps xs.1) else (Ok (call_expr (spanned m place.lo.0 xs.1) (ident place n) (pack xs.0.items), xs.1))) (λ xs. (solid_if (heads_params m im l xs.0 xs.1 && not (brk (input m s))) _ _ (solid_then (placed (bound m xs.1) (params_of m im xs.1.commas xs.0)) (λ ps. arrow_by m im c place.lo.0 true ps xs.1) (λ ps. (arrow_by_solid c place.lo.0 true ps (xs.1)))) (record { so = (refl, refl) }))))

  function_expr_name_solid : (c : Code) (start : ℕ) (generator : Bool) (async : Bool) (s : State S) → Solid m (function_expr_name m im c start generator async s)
  unfolding function_expr_name
  function_expr_name_solid c start generator async s = (solid_if (at m left_paren_kind s) _ _ (solid_then (function_by m im c start generator async s) (λ f. Ok (fn_expr (spanned m start f.1) absent f.0, f.1)) (λ f. (record { so = (refl, refl) }))) (solid_then (name m (by generator async c) s) (λ n. (function_by m im c start generator async n.1 >>= λ f. Ok (fn_expr (spanned m start f.1) (ident (first m im s) n.0) f.0, f.1))) (λ n. (solid_then (function_by m im c start generator async n.1) (λ f. Ok (fn_expr (spanned m start f.1) (ident (first m im s) n.0) f.0, f.1)) (λ f. (record { so = (refl, refl) }))))))

  function_expr_by_solid : (c : Code) (start : ℕ) (async : Bool) (s : State S) → Solid m (function_expr_by m im c start async s)
  unfolding function_expr_by
  function_expr_by_solid c start async s = (solid_then (eat_word m c function_kind s) (λ r. (star m im r >>= λ g. function_expr_name m im c start g.0 async g.1)) (λ r. (solid_then (star m im r) (λ g. function_expr_name m im c start g.0 async g.1) (λ g. (function_expr_name_solid c start (g.0) async (g.1))))))

  async_by_solid : (c : Code) (l : ℕ) (s : State S) → Solid m (async_by m im c l s)
  unfolding async_by
  async_by_solid c l s = (solid_if ((at m function_kind (past m s) && not (brk (input m (past m s)))) && not (barred c.context (input m (past m s)))) _ _ (function_expr_by_solid c (lo (input m s)) true ((past m s))) (solid_if (is_async_param m im c l (past m s)) _ _ (solid_then (name m c (past m s)) (λ n. arrow_by m im c (lo (input m s)) true (binding_ident (first m im (past m s)) (ident (first m im (past m s)) n.0) ∷ []) n.1) (λ n. (arrow_by_solid c (lo (input m s)) true ((binding_ident (first m im (past m s)) (ident (first m im (past m s)) n.0) ∷ [])) (n.1)))) (solid_if (at m left_paren_kind (past m s) && not (brk (input m (past m s)))) _ _ (async_group_solid c l (first_span (input m s)) (text (input m s)) ((past m s))) (ident_end_solid c l (first_span (input m s)) ((text (input m s))) ((past m s))))))

  class_expr_by_solid : (c : Code) (s : State S) → Solid m (class_expr_by m im c s)
  unfolding class_expr_by
  class_expr_by_solid c s = (solid_then (eat_word m c class_kind s) (λ r. if is_name m (turned_strict c) r && not (at m left_brace_kind r) then (name m (turned_strict c) r >>= λ n. (im.class_tail (turned_strict (with_in c)) (lo (input m s)) n.1 >>= λ k. Ok (class_expr (spanned m (lo (input m s)) k.1) (ident (first m im r) n.0) k.0, k.1))) else ((im.class_tail (turned_strict (with_in c)) (lo (input m s)) r >>= λ k. Ok (class_expr (spanned m (lo (input m s)) k.1) absent k.0, k.1)))) (λ r. (solid_if (is_name m (turned_strict c) r && not (at m left_brace_kind r)) _ _ (solid_then (name m (turned_strict c) r) (λ n. (im.class_tail (turned_strict (with_in c)) (lo (input m s)) n.1 >>= λ k. Ok (class_expr (spanned m (lo (input m s)) k.1) (ident (first m im r) n.0) k.0, k.1))) (λ n. (solid_then (im.class_tail (turned_strict (with_in c)) (lo (input m s)) n.1) (λ k. Ok (class_expr (spanned m (lo (input m s)) k.1) (ident (first m im r) n.0) k.0, k.1)) (λ k. (record { so = (refl, refl) }))))) (solid_then (im.class_tail (turned_strict (with_in c)) (lo (input m s)) r) (λ k. Ok (class_expr (spanned m (lo (input m s)) k.1) absent k.0, k.1)) (λ k. (record { so = (refl, refl) }))))))

  new_end_solid : (c : Code) (start : ℕ) (f : Tree) (s : State S) → Solid m (new_end m im c start f s)
  unfolding new_end
  new_end_solid c start f s = (solid_if (at m left_paren_kind s && nat_le member_level (level f)) _ _ (solid_then (arguments_by m im c (past m s)) (λ xs. Ok (new_expr (spanned m start xs.1) f (list (pack xs.0)), xs.1)) (λ xs. (record { so = (refl, refl) }))) (solid_if ((nat_le member_level (level f) || (level f == new_level)) && nat_lt (goes_expr c other_end (input m s)) call_level) _ _ (record { so = (refl, refl) }) solid_never))

  new_by_solid : (c : Code) (s : State S) → Solid m (new_by m im c s)
  unfolding new_by
  new_by_solid c s = (solid_then (eat_word m c new_kind s) (λ r. if at m dot_kind r then (eat_word m c target_kind (past m r) >>= λ t. Ok (meta_prop_expr (spanned m (lo (input m s)) t) new_kind, t)) else ((callee_by m im c r >>= λ f. new_end m im c (lo (input m s)) f.0 f.1))) (λ r. (solid_if (at m dot_kind r) _ _ (solid_then (eat_word m c target_kind (past m r)) (λ t. Ok (meta_prop_expr (spanned m (lo (input m s)) t) new_kind, t)) (λ t. (record { so = (refl, refl) }))) (solid_then (callee_by m im c r) (λ f. new_end m im c (lo (input m s)) f.0 f.1) (λ f. (new_end_solid c (lo (input m s)) (f.0) (f.1)))))))

  super_end_solid : (c : Code) (place : Span) (s : State S) → Solid m (super_end m im c place s)
  unfolding super_end
  super_end_solid c place s = (solid_if (at m left_paren_kind s) _ _ (solid_then (arguments_by m im c (past m s)) (λ xs. Ok (call_expr (spanned m place.lo.0 xs.1) (super place) (pack xs.0), xs.1)) (λ xs. (record { so = (refl, refl) }))) (solid_if (at m left_bracket_kind s) _ _ (solid_then (computed_by m im c expression_level s) (λ k. Ok (super_prop_expr (spanned m place.lo.0 k.1) (super place) k.0, k.1)) (λ k. (record { so = (refl, refl) }))) (solid_then (eat m dot_kind s) (λ d. (any_word m d >>= λ n. Ok (super_prop_expr (spanned m place.lo.0 n.1) (super place) (ident_name (first m im d) n.0), n.1))) (λ d. (solid_then (any_word m d) (λ n. Ok (super_prop_expr (spanned m place.lo.0 n.1) (super place) (ident_name (first m im d) n.0), n.1)) (λ n. (record { so = (refl, refl) })))))))

  import_by_solid : (c : Code) (s : State S) → Solid m (import_by m im c s)
  unfolding import_by
  import_by_solid c s = (solid_then (eat_word m c import_kind s) (λ r. if at m dot_kind r then (eat_word m c meta_kind (past m r) >>= λ t. Ok (meta_prop_expr (spanned m (lo (input m s)) t) import_kind, t)) else ((eat m left_paren_kind r >>= λ o. (elements_by m im c false right_paren_kind o >>= λ xs. if fits_import m im c xs.0 then Ok (call_expr (spanned m (lo (input m s)) xs.1) (import (first m im s)) (pack xs.0.items), xs.1) else (unexpected m xs.1))))) (λ r. (solid_if (at m dot_kind r) _ _ (solid_then (eat_word m c meta_kind (past m r)) (λ t. Ok (meta_prop_expr (spanned m (lo (input m s)) t) import_kind, t)) (λ t. (record { so = (refl, refl) }))) (solid_then (eat m left_paren_kind r) (λ o. (elements_by m im c false right_paren_kind o >>= λ xs. if fits_import m im c xs.0 then Ok (call_expr (spanned m (lo (input m s)) xs.1) (import (first m im s)) (pack xs.0.items), xs.1) else (unexpected m xs.1))) (λ o. (solid_then (elements_by m im c false right_paren_kind o) (λ xs. if fits_import m im c xs.0 then Ok (call_expr (spanned m (lo (input m s)) xs.1) (import (first m im s)) (pack xs.0.items), xs.1) else (unexpected m xs.1)) (λ xs. (solid_if (fits_import m im c xs.0) _ _ (record { so = (refl, refl) }) solid_never))))))))

  unary_by_solid : (c : Code) (s : State S) → Solid m (unary_by m im c s)
  unfolding unary_by
  unary_by_solid c s = (solid_then (eat_word m c (kind (input m s)) s) (λ r. (im.expr c unary_level r >>= λ e. Ok (unary_expr (spanned m (lo (input m s)) e.1) (kind (input m s)) e.0, e.1))) (λ r. (solid_then (im.expr c unary_level r) (λ e. Ok (unary_expr (spanned m (lo (input m s)) e.1) (kind (input m s)) e.0, e.1)) (λ e. (record { so = (refl, refl) })))))

  update_by_solid : (c : Code) (s : State S) → Solid m (update_by m im c s)
  unfolding update_by
  update_by_solid c s = (solid_then (im.expr c unary_level (past m s)) (λ e. Ok (update_expr (spanned m (lo (input m s)) e.1) (kind (input m s)) true e.0, e.1)) (λ e. (record { so = (refl, refl) })))

  await_by_solid : (c : Code) (s : State S) → Solid m (await_by m im c s)
  unfolding await_by
  await_by_solid c s = (solid_then (eat_word m c await_kind s) (λ r. (im.expr c unary_level r >>= λ e. Ok (await_expr (spanned m (lo (input m s)) e.1) e.0, e.1))) (λ r. (solid_then (im.expr c unary_level r) (λ e. Ok (await_expr (spanned m (lo (input m s)) e.1) e.0, e.1)) (λ e. (record { so = (refl, refl) })))))

  yield_end_solid : (c : Code) (start : ℕ) (r : State S) → Solid m (yield_end m im c start r)
  unfolding yield_end
  yield_end_solid c start r = (solid_if (brk (input m r) || ends_yield m im (kind (input m r))) _ _ (record { so = (refl, refl) }) (solid_if (at m mul_kind r) _ _ (solid_then (im.expr c assignment_level (past m r)) (λ e. Ok (yield_expr (spanned m start e.1) e.0 true, e.1)) (λ e. (record { so = (refl, refl) }))) (solid_then (im.expr c assignment_level r) (λ e. Ok (yield_expr (spanned m start e.1) e.0 false, e.1)) (λ e. (record { so = (refl, refl) })))))

  yield_by_solid : (c : Code) (s : State S) → Solid m (yield_by m im c s)
  unfolding yield_by
  yield_by_solid c s = (solid_then (eat_word m c yield_kind s) (λ r. yield_end m im c (lo (input m s)) r) (λ r. (yield_end_solid c (lo (input m s)) r)))

  word_by_solid : (c : Code) (l : ℕ) (s : State S) → Solid m (word_by m im c l s)
  unfolding word_by
  word_by_solid c l s = (solid_if (at m async_kind s) _ _ (async_by_solid c l s) (solid_then (name m c s) (λ n. ident_end m im c l (first_span (input m s)) n.0 n.1) (λ n. (ident_end_solid c l (first_span (input m s)) (n.0) (n.1)))))

  keyword_by_solid : (c : Code) (l : ℕ) (s : State S) → Solid m (keyword_by m im c l s)
  unfolding keyword_by
  keyword_by_solid c l s = (solid_if (at m this_kind s) _ _ (solid_then (eat_word m c (kind (input m s)) s) (λ r. Ok (this_expr (spanned m (lo (input m s)) r), r)) (λ x. record { so = (refl, refl) })) (solid_if (at m null_kind s) _ _ (solid_then (eat_word m c (kind (input m s)) s) (λ r. Ok (null_lit (spanned m (lo (input m s)) r), r)) (λ x. record { so = (refl, refl) })) (solid_if (at m true_kind s) _ _ (solid_then (eat_word m c (kind (input m s)) s) (λ r. Ok (bool_lit (spanned m (lo (input m s)) r) true, r)) (λ x. record { so = (refl, refl) })) (solid_if (at m false_kind s) _ _ (solid_then (eat_word m c (kind (input m s)) s) (λ r. Ok (bool_lit (spanned m (lo (input m s)) r) false, r)) (λ x. record { so = (refl, refl) })) (solid_if (at m function_kind s) _ _ (function_expr_by_solid c (lo (input m s)) false s) (solid_if (at m class_kind s) _ _ (class_expr_by_solid c s) (solid_if (at m new_kind s) _ _ (new_by_solid c s) (solid_if (at m super_kind s) _ _ (solid_then (eat_word m c super_kind s) (λ r. super_end m im c (first_span (input m s)) r) (λ r. (super_end_solid c (first_span (input m s)) r))) (solid_if (at m import_kind s) _ _ (import_by_solid c s) (solid_if (is_unary (kind (input m s))) _ _ (unary_by_solid c s) (solid_if (at m await_kind s && c.context.in_async) _ _ (await_by_solid c s) (solid_if (at m yield_kind s && c.context.in_generator) _ _ (yield_by_solid c s) (word_by_solid c l s)))))))))))))

  prefix_by_solid : (c : Code) (l : ℕ) (s : State S) → Solid m (prefix_by m im c l s)
  unfolding prefix_by
  prefix_by_solid c l s = (solid_if (is_word (kind (input m s))) _ _ (keyword_by_solid c l s) (solid_if (at m left_paren_kind s) _ _ (group_by_solid c l s) (solid_if (at m left_bracket_kind s) _ _ (array_by_solid c s) (solid_if (at m left_brace_kind s) _ _ (object_by_solid c s) (solid_if (at m back_quote_kind s) _ _ (template_by_solid c false s) (solid_if (is_unary (kind (input m s))) _ _ (unary_by_solid c s) (solid_if (between plus_plus_kind minus_minus_kind (kind (input m s))) _ _ (update_by_solid c s) (literal_by_solid s))))))))

  member_by_solid : (c : Code) (start : ℕ) (t : Tree) (s : State S) → Solid m (member_by m im c start t s)
  unfolding member_by
  member_by_solid c start t s = (solid_then (member_name m im true (past m s)) (λ k. Ok (on_chain m im (is_chain t) (spanned m start k.1) (member_expr (spanned m start k.1) t k.0), k.1)) (λ k. (record { so = chained_solid _ _ _ _ })))

  index_by_solid : (c : Code) (start : ℕ) (t : Tree) (s : State S) → Solid m (index_by m im c start t s)
  unfolding index_by
  index_by_solid c start t s = (solid_then (computed_by m im c expression_level s) (λ k. Ok (on_chain m im (is_chain t) (spanned m start k.1) (member_expr (spanned m start k.1) t k.0), k.1)) (λ k. (record { so = chained_solid _ _ _ _ })))

  call_by_solid : (c : Code) (start : ℕ) (t : Tree) (s : State S) → Solid m (call_by m im c start t s)
  unfolding call_by
  call_by_solid c start t s = (solid_then (arguments_by m im c (past m s)) (λ xs. Ok (call_tree m im (spanned m start xs.1) t xs.0, xs.1)) (λ xs. (record { so = called_solid _ _ _ })))

  chain_by_solid : (c : Code) (start : ℕ) (t : Tree) (s : State S) → Solid m (chain_by m im c start t s)
  unfolding chain_by
  chain_by_solid c start t s = (solid_if (at m left_paren_kind s) _ _ (solid_then (arguments_by m im c (past m s)) (λ xs. Ok (opt_chain_expr (spanned m start xs.1) true (opt_call (spanned m start xs.1) t (pack xs.0)), xs.1)) (λ xs. (record { so = (refl, refl) }))) (solid_if (at m left_bracket_kind s) _ _ (solid_then (computed_by m im c expression_level s) (λ k. Ok (opt_chain_expr (spanned m start k.1) true (member_expr (spanned m start k.1) t k.0), k.1)) (λ k. (record { so = (refl, refl) }))) (solid_then (member_name m im true s) (λ k. Ok (opt_chain_expr (spanned m start k.1) true (member_expr (spanned m start k.1) t k.0), k.1)) (λ k. (record { so = (refl, refl) })))))

  cond_by_solid : (c : Code) (start : ℕ) (t : Tree) (s : State S) → Solid m (cond_by m im c start t s)
  unfolding cond_by
  cond_by_solid c start t s = (solid_then (im.expr (with_in c) assignment_level (past m s)) (λ a. (eat m colon_kind a.1 >>= λ r. (im.expr c assignment_level r >>= λ b. Ok (cond_expr (spanned m start b.1) t a.0 b.0, b.1)))) (λ a. (solid_then (eat m colon_kind a.1) (λ r. (im.expr c assignment_level r >>= λ b. Ok (cond_expr (spanned m start b.1) t a.0 b.0, b.1))) (λ r. (solid_then (im.expr c assignment_level r) (λ b. Ok (cond_expr (spanned m start b.1) t a.0 b.0, b.1)) (λ b. (record { so = (refl, refl) })))))))

  assign_by_solid : (c : Code) (start : ℕ) (t : Tree) (s : State S) → Solid m (assign_by m im c start t s)
  unfolding assign_by
  assign_by_solid c start t s = (solid_then (placed (bound m s) (to_target (kind (input m s)) s.commas t)) (λ p. (im.expr c assignment_level (past m s) >>= λ e. Ok (assign_expr (spanned m start e.1) (kind (input m s)) p e.0, e.1))) (λ p. (solid_then (im.expr c assignment_level (past m s)) (λ e. Ok (assign_expr (spanned m start e.1) (kind (input m s)) p e.0, e.1)) (λ e. (record { so = (refl, refl) })))))

  binary_by_solid : (c : Code) (start : ℕ) (t : Tree) (s : State S) → Solid m (binary_by m im c start t s)
  unfolding binary_by
  binary_by_solid c start t s = (solid_then (eat_word m c (kind (input m s)) s) (λ r. (im.expr c (right_level (kind (input m s))) r >>= λ e. Ok (bin_expr (spanned m start e.1) (kind (input m s)) t e.0, e.1))) (λ r. (solid_then (im.expr c (right_level (kind (input m s))) r) (λ e. Ok (bin_expr (spanned m start e.1) (kind (input m s)) t e.0, e.1)) (λ e. (record { so = (refl, refl) })))))

  step_by_solid : (c : Code) (start : ℕ) (t : Tree) (s : State S) → Solid m (step_by m im c start t s)
  unfolding step_by
  step_by_solid c start t s = (solid_if (at m comma_kind s) _ _ (solid_then (im.expr c assignment_level (past m s)) (λ e. Ok (extended t e.0 (spanned m start e.1), e.1)) (λ e. (record { so = extended_solid _ _ _ }))) (solid_if (is_assign_op (kind (input m s))) _ _ (assign_by_solid c start t s) (solid_if (at m question_mark_kind s && (kind2 (input m s) == dot_kind)) _ _ (solid_if (nat_le call_level (level t)) _ _ (chain_by_solid c start t ((past m (past m s)))) solid_never) (solid_if (at m question_mark_kind s) _ _ (solid_if (nat_le coalesce_level (level t)) _ _ (cond_by_solid c start t s) solid_never) (solid_if (operates c (kind (input m s))) _ _ (solid_if (fits_left (kind (input m s)) t) _ _ (binary_by_solid c start t s) solid_never) (solid_if (between plus_plus_kind minus_minus_kind (kind (input m s))) _ _ (solid_if (nat_le new_level (level t) && not (brk (input m s))) _ _ (record { so = (refl, refl) }) solid_never) (solid_if (not (nat_le call_level (level t))) _ _ solid_never (solid_if (at m left_paren_kind s) _ _ (call_by_solid c start t s) (solid_if (at m left_bracket_kind s) _ _ (index_by_solid c start t s) (solid_if (at m dot_kind s) _ _ (member_by_solid c start t s) (solid_if (at m back_quote_kind s && not (is_chain t)) _ _ (solid_then (template_by m im c true s) (λ q. Ok (tagged_tpl (spanned m start q.1) t q.0, q.1)) (λ q. (record { so = (refl, refl) }))) solid_never)))))))))))

  loop_step_solid : (c : Code) (l : ℕ) (start : ℕ) (t : Tree) (s : State S) → Whole t → Steady m (loop_step m im c l start t s)
  unfolding loop_step
  loop_step_solid c l start t s p = steady_if (nat_lt (goes_expr c (ends t) (input m s)) l) _ _ (record { so = p }) (steady_of _ (step_by_solid c start t s))

  loop_by_solid : (c : Code) (l : ℕ) (start : ℕ) (t : Tree) (s : State S) → Whole t → Solid m (loop_by m im c l start t s)
  unfolding loop_by
  loop_by_solid c l start t s p = solid_if (nat_le l (level t)) _ _ (solid_iterate (loop_step m im c l start) (λ x s p. loop_step_solid c l start x s p) t s p) (solid_if ((level t == new_level) && (l == member_level)) _ _ (record { so = p }) solid_never)

  private_in_solid : (c : Code) (l : ℕ) (s : State S) → Solid m (private_in m im c l s)
  unfolding private_in
  private_in_solid c l s = (solid_then (private_by m im s) (λ p. if at m in_kind p.1 && (has_in c && nat_le l (binary_level in_kind)) then (binary_by m im c (lo (input m s)) p.0 p.1 >>= λ t. loop_by m im c l (lo (input m s)) t.0 t.1) else (unexpected m p.1)) (λ p. (solid_if (at m in_kind p.1 && (has_in c && nat_le l (binary_level in_kind))) _ _ (solid_pass (binary_by m im c (lo (input m s)) p.0 p.1) (λ t. loop_by m im c l (lo (input m s)) t.0 t.1) (binary_by_solid c (lo (input m s)) (p.0) (p.1)) (λ x y p. loop_by_solid c l (lo (input m s)) x y p)) solid_never)))

  expr_from_solid : (c : Code) (l : ℕ) (s : State S) → Solid m (expr_from m im c l s)
  unfolding expr_from
  expr_from_solid c l s = (solid_if (at m hash_kind s) _ _ (private_in_solid c l s) (solid_pass (prefix_by m im c l s) (λ t. loop_by m im c l (lo (input m s)) t.0 t.1) (prefix_by_solid c l s) (λ x y p. loop_by_solid c l (lo (input m s)) x y p)))

  expr_by_solid : (c : Code) (l : ℕ) (s : State S) → Solid m (expr_by m im c l s)
  unfolding expr_by
  expr_by_solid c l s = expr_from_solid c l (operand m s)

pub solids : {S : Type 0} (m : Stream S) (d : ℕ) (c : Code) (l : ℕ) (s t : State S) (x : Tree) → (readers m d).expr c l s ≡ Ok (x, t) → Whole x
unfolding readers
solids {S} m zero c l s t x e = absurd (true≢false (sym (ap (λ z. is_read z) e)))
solids {S} m (suc d) c l s t x e = by_answer (expr_by m (readers m d) c l s) (expr_by_solid m (readers m d) c l s) e
  where
    by_answer : (y : Result (Tree × State S) Fault) → Solid m y → y ≡ Ok (x, t) → Whole x
    by_answer y h e = (subst (λ y. Solid m y) e h).so
