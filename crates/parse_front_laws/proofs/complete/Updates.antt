-- Before `++` and `--` on its line an expression doesn't end whose last part is none: that part is updated in a longer one.
use Rattle.std.proofs.Common.{◌≡◌, ◌<◌, ◌≤◌, inl, ℕ, Bool, true, false, eqb, leb, List, [], ◌∷◌, refl, sym, ap, ◌∙◌, subst, arith}
use Rattle.std.proofs.lemmas.Bool.{leb-true, leb-false}
use Rattle.base_token.specs.declared.place.Span.{Span}
use Rattle.base_token.specs.Kinds.{question_mark_kind}
use Rattle.tree_spec.specs.Tree.{Tree, Trees, none, more, this_expr, null_lit, bool_lit, ident, str_lit, number_lit, big_int_lit, regex_lit, paren_expr, array_lit, object_lit, unary_expr, update_expr, await_expr, bin_expr, cond_expr, seq_expr, member_expr, call_expr, new_expr, computed_prop_name, absent, tpl, tagged_tpl, opt_chain_expr, super_prop_expr, meta_prop_expr, yield_expr, assign_expr, arrow_expr, fn_expr, class_expr, block_stmt}
use Rattle.grammar_spec.specs.Tokens.Input.{PlacedToken, Input, Code, kind, brk, break_of, lo, span, in_arrow}
use Rattle.grammar_spec.specs.Tokens.Operators.{right_level, other_end}
use Rattle.grammar_spec.specs.Tokens.Shape.{level, ends, last_ends}
use Rattle.grammar_spec.specs.Children.{CommaThen, Expr}
use Rattle.grammar_spec.specs.Expressions.{is_update_op}
use Rattle.grammar_spec.specs.Grammar.{Produces, children}
use Rattle.grammar_laws.proofs.context.Placed.{move}
use Rattle.grammar_laws.specs.CompleteBase.Laws.{coded}
use Rattle.grammar_laws.proofs.complete_base.Levels.{right_most, right_five, operated}
use Rattle.grammar_laws.proofs.complete_base.Trees.{by_update}
use Rattle.grammar_laws.specs.Laws.{OfLevel}
use Rattle.parse_front_laws.specs.Complete.Laws.{input_at}
use Rattle.parse_front_laws.proofs.complete.Longer.{onward, onward_of, K, Before, stands, kind_there, NoLonger, NoMore, longer_update, longer_unary, longer_await, longer_binary, longer_conditional, longer_assign, longer_arrow, longer_yield, longer_yield_all, longer_sequence, longer_next, longer_last}

module _ (q : PlacedToken) (beyond : List PlacedToken) (plain : eqb q.spot.token.kind question_mark_kind ≡ false) (p : Bool) (r : Input) (there : Before q beyond plain r) (up : is_update_op (kind r) ≡ true) (line : brk r ≡ false) where
  none_on : onward q ≡ []
  none_on = by_update (kind r) (λ k. kind r ≡ k → onward q ≡ []) up (λ e. onward_of q 20 (sym (kind_there q beyond plain r there) ∙ e)) (λ e. onward_of q 21 (sym (kind_there q beyond plain r there) ∙ e)) refl

  -- what is no operator is updated
  updated : (t : Tree) (c : Code) (l : ℕ) (ts : Input) → NoLonger q beyond plain l c ts → l ≤ 17 → 18 ≤ level t → Produces t (coded p c) ts r → ⊥
  updated t c l ts w le hi h =
      let o = input_at r.last (q ∷ onward q) in let e = input_at q.spot.hi (onward q) in
      let z = move false (K q beyond plain) t (coded p c) ts r o h (stands q beyond plain r there) in
      w z.0 z.1 (update_expr (span (lo z.0) e.last) (kind r) false t) e none_on (inl (omega (arith, le))) (o, up, (hi, z.2), sym (ap break_of there) ∙ line, (sym (kind_there q beyond plain r there), tt, refl), refl)

  -- one or the other
  either : (t : Tree) (c : Code) (l : ℕ) (ts : Input) → NoLonger q beyond plain l c ts → l ≤ 17 → Produces t (coded p c) ts r → (level t < 18 → ⊥) → ⊥
  either t c l ts w le h k = by_level (leb 18 (level t)) refl
    where
      by_level : (b : Bool) → leb 18 (level t) ≡ b → ⊥
      by_level true i = updated t c l ts w le (leb-true 18 (level t) i) h
      by_level false i = k (leb-false 18 (level t) i)

  abbrev Some : Trees → Type 0
  Some none = ⊥
  Some (more x xs) = Unit {0}

  last_step : (x : Tree) (xs : Trees) (c : Code) (ts : Input) → NoMore q beyond plain c ts → last_ends (more x xs) ≡ other_end → CommaThen (Expr 2 (coded p c)) (coded p c) (children (more x xs)) ts r
      → ((d : Code) (l : ℕ) (o : Input) → NoLonger q beyond plain l d o → l ≤ 17 → OfLevel l x → 1 ≤ level x → level x < 18 → ends x ≡ other_end → Produces x (coded p d) o r → ⊥)
      → (Some xs → (d : Code) (o : Input) → NoMore q beyond plain d o → last_ends xs ≡ other_end → CommaThen (Expr 2 (coded p d)) (coded p d) (children xs) o r → ⊥) → ⊥
  last_step x none c ts w e h f g = let v = longer_last q beyond plain p c 2 x ts r w h in let k = subst (λ (m : Input). Produces x (coded p c) h.0 m) h.4 h.3.1 in
      either x c 2 h.0 v (omega arith) k (λ low. f c 2 h.0 v (omega arith) (inl h.3.0) (omega (arith, h.3.0)) low e k)
  last_step x (more y ys) c ts w e h f g = g tt c h.1 (longer_next q beyond plain p c 2 x y ys ts r w h) e h.4

  first_step : (s : Span) (x : Tree) (xs : Trees) (c : Code) (l : ℕ) (ts : Input) → NoLonger q beyond plain l c ts → OfLevel l (seq_expr s (more x xs)) → last_ends (more x xs) ≡ other_end → Produces (seq_expr s (more x xs)) (coded p c) ts r
      → (Some xs → (d : Code) (o : Input) → NoMore q beyond plain d o → last_ends xs ≡ other_end → CommaThen (Expr 2 (coded p d)) (coded p d) (children xs) o r → ⊥) → ⊥
  first_step s x none c l ts w f e h g = absurd h
  first_step s x (more y ys) c l ts w f e h g = g tt c h.0 (longer_sequence q beyond plain p c l s x y ys ts r f w h) e h.2

  mutual
    -- and so is the last operand of one
    operand : (t : Tree) (c : Code) (l : ℕ) (ts : Input) → NoLonger q beyond plain l c ts → l ≤ 17 → OfLevel l t → 1 ≤ level t → level t < 18 → ends t ≡ other_end → Produces t (coded p c) ts r → ⊥
    operand (update_expr s op true a) c l ts w le f one low e h = either a c 16 h.0 (longer_update q beyond plain p c l s op a ts r f w h) (omega arith) h.3.1 (λ low. operand a c 16 h.0 (longer_update q beyond plain p c l s op a ts r f w h) (omega arith) (inl h.3.0) (omega (arith, h.3.0)) low e h.3.1)
    operand (update_expr s op false a) c l ts w le f one low e h = absurd (omega (arith, e))
    operand (unary_expr s op a) c l ts w le f one low e h = either a c 16 h.0 (longer_unary q beyond plain p c l s op a ts r f w h) (omega arith) h.3.1 (λ low. operand a c 16 h.0 (longer_unary q beyond plain p c l s op a ts r f w h) (omega arith) (inl h.3.0) (omega (arith, h.3.0)) low e h.3.1)
    operand (await_expr s a) c l ts w le f one low e h = either a c 16 h.0 (longer_await q beyond plain p c l s a ts r f w h) (omega arith) h.3.1 (λ low. operand a c 16 h.0 (longer_await q beyond plain p c l s a ts r f w h) (omega arith) (inl h.3.0) (omega (arith, h.3.0)) low e h.3.1)
    operand (bin_expr s op a b) c l ts w le f one low e h = either b c (right_level op) h.1 (longer_binary q beyond plain p c l s op a b ts r f w h) (omega (arith, right_most op)) h.6.1 (λ low. operand b c (right_level op) h.1 (longer_binary q beyond plain p c l s op a b ts r f w h) (omega (arith, right_most op)) (inl h.6.0) (omega (arith, h.6.0, right_five op (operated c op h.2))) low e h.6.1)
    operand (cond_expr s a b t) c l ts w le f one low e h = either t c 2 h.3 (longer_conditional q beyond plain p c l s a b t ts r f w h) (omega arith) h.8.1 (λ low. operand t c 2 h.3 (longer_conditional q beyond plain p c l s a b t ts r f w h) (omega arith) (inl h.8.0) (omega (arith, h.8.0)) low e h.8.1)
    operand (assign_expr s op a b) c l ts w le f one low e h = either b c 2 h.1 (longer_assign q beyond plain p c l s op a b ts r f w h) (omega arith) h.6.1 (λ low. operand b c 2 h.1 (longer_assign q beyond plain p c l s op a b ts r f w h) (omega arith) (inl h.6.0) (omega (arith, h.6.0)) low e h.6.1)
    operand (arrow_expr s ps (block_stmt t ss) i) c l ts w le f one low e h = absurd (omega (arith, e))
    operand (arrow_expr s ps b i) c l ts w le f one low e h = either b (in_arrow i c) 2 h.0 (longer_arrow q beyond plain p c l s ps b i ts r f w h) (omega arith) h.3.1 (λ low. operand b (in_arrow i c) 2 h.0 (longer_arrow q beyond plain p c l s ps b i ts r f w h) (omega arith) (inl h.3.0) (omega (arith, h.3.0)) low e h.3.1)
    operand (yield_expr s absent g) c l ts w le f one low e h = absurd (omega (arith, e))
    operand (yield_expr s a false) c l ts w le f one low e h = either a c 2 h.0 (longer_yield q beyond plain p c l s a ts r f w h) (omega arith) h.4.1 (λ low. operand a c 2 h.0 (longer_yield q beyond plain p c l s a ts r f w h) (omega arith) (inl h.4.0) (omega (arith, h.4.0)) low e h.4.1)
    operand (yield_expr s a true) c l ts w le f one low e h = either a c 2 h.1 (longer_yield_all q beyond plain p c l s a ts r f w h) (omega arith) h.6.1 (λ low. operand a c 2 h.1 (longer_yield_all q beyond plain p c l s a ts r f w h) (omega arith) (inl h.6.0) (omega (arith, h.6.0)) low e h.6.1)
    operand (seq_expr s none) c l ts w le f one low e h = absurd h
    operand (seq_expr s (more x xs)) c l ts w le f one low e h = first_step s x xs c l ts w f e h (λ i d o v k g. last_operand xs i d o v k g)
    operand (member_expr s o (computed_prop_name t x)) c l ts w le f one low e h = absurd (omega (arith, low, h.2.0))
    operand (member_expr s o k) c l ts w le f one low e h = absurd (omega (arith, low, h.2.0))
    operand (tagged_tpl s t (tpl u es qs)) c l ts w le f one low e h = absurd (omega (arith, low, h.2.0))
    operand (tagged_tpl s t u) c l ts w le f one low e h = absurd h
    operand (new_expr s g absent) c l ts w le f one low e h = absurd (omega (arith, low))
    operand (new_expr s g xs) c l ts w le f one low e h = absurd (omega (arith, low))
    operand (this_expr s) c l ts w le f one low e h = absurd (omega (arith, low))
    operand (null_lit s) c l ts w le f one low e h = absurd (omega (arith, low))
    operand (bool_lit s v) c l ts w le f one low e h = absurd (omega (arith, low))
    operand (ident s n) c l ts w le f one low e h = absurd (omega (arith, low))
    operand (str_lit s u x) c l ts w le f one low e h = absurd (omega (arith, low))
    operand (number_lit s v x) c l ts w le f one low e h = absurd (omega (arith, low))
    operand (big_int_lit s x y z) c l ts w le f one low e h = absurd (omega (arith, low))
    operand (regex_lit s x y) c l ts w le f one low e h = absurd (omega (arith, low))
    operand (paren_expr s x) c l ts w le f one low e h = absurd (omega (arith, low))
    operand (array_lit s xs) c l ts w le f one low e h = absurd (omega (arith, low))
    operand (object_lit s xs) c l ts w le f one low e h = absurd (omega (arith, low))
    operand (fn_expr s x y) c l ts w le f one low e h = absurd (omega (arith, low))
    operand (class_expr s x y) c l ts w le f one low e h = absurd (omega (arith, low))
    operand (tpl s es qs) c l ts w le f one low e h = absurd (omega (arith, low))
    operand (call_expr s x xs) c l ts w le f one low e h = absurd (omega (arith, low))
    operand (opt_chain_expr s x y) c l ts w le f one low e h = absurd (omega (arith, low))
    operand (super_prop_expr s x y) c l ts w le f one low e h = absurd (omega (arith, low))
    operand (meta_prop_expr s x) c l ts w le f one low e h = absurd (omega (arith, low))
    operand _ c l ts w le f one low e h = absurd (omega (arith, one))

    last_operand : (xs : Trees) → Some xs → (c : Code) (ts : Input) → NoMore q beyond plain c ts → last_ends xs ≡ other_end → CommaThen (Expr 2 (coded p c)) (coded p c) (children xs) ts r → ⊥
    last_operand none n c ts w e h = absurd n
    last_operand (more x xs) n c ts w e h = last_step x xs c ts w e h (λ d l o v i f one low k g. operand x d l o v i f one low k g) (λ i d o v k g. last_operand xs i d o v k g)

  pub no_update : (t : Tree) (c : Code) (l : ℕ) (ts : Input) → NoLonger q beyond plain l c ts → l ≤ 17 → OfLevel l t → 1 ≤ level t → ends t ≡ other_end → Produces t (coded p c) ts r → ⊥
  no_update t c l ts w le f one e h = either t c l ts w le h (λ low. operand t c l ts w le f one low e h)
