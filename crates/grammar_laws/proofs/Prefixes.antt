-- What starts an expression: names, words, groups, `new`, `super`, `import`, functions and classes, prefix operators.
use Rattle.std.proofs.Common.{◌≡◌, ℕ, ◌≤◌, ◌⊎◌, inl, inr, Bool, true, false, not, ◌&&◌, ◌||◌, cond, eqb, leb, ltb, List, [], ◌∷◌, Option, Some, None, Ok, refl, sym, ap, ◌∙◌, subst, ⊎_elim, true≢false, arith}
use Rattle.std.proofs.lemmas.Bool.{eqb-true, and_parts, not-true, cases_Bool, leb-true, ltb-true}
use Rattle.base_proofs.proofs.Bools.{and_false}
use Rattle.base_token.specs.declared.place.Span.{Span}
use Rattle.base_token.specs.Kinds.{comma_kind, arrow_kind, dot_kind, left_paren_kind, right_paren_kind, left_bracket_kind, left_brace_kind, back_quote_kind, plus_plus_kind, minus_minus_kind, mul_kind, null_kind, true_kind, false_kind, await_kind, function_kind, class_kind, new_kind, this_kind, super_kind, import_kind, yield_kind, async_kind, meta_kind, target_kind}
use Rattle.tree_spec.specs.Tree.{Tree, Trees, pack, this_expr, null_lit, bool_lit, ident, ident_name, fn_expr, class_expr, unary_expr, update_expr, await_expr, yield_expr, new_expr, call_expr, super_prop_expr, meta_prop_expr, super, import, tpl, list, absent, binding_ident, computed_prop_name, expr_or_spread, expr_pat}
use Rattle.grammar_spec.specs.Tokens.Input.{Input, Code, kind, kind2, brk, brk2, text, Takes, TakesWord, lo, hi, span, first_span, is_word, no_name, barred, with_in, by, turned_strict}
use Rattle.grammar_spec.specs.Tokens.Operators.{expression_level, assignment_level, unary_level, new_level, call_level, member_level, goes_expr, other_end, between}
use Rattle.grammar_spec.specs.Tokens.Shape.{level, is_element, is_spread, is_default_decl, FunctionParts, function_parts, class_span}
use Rattle.grammar_spec.specs.Children.{child, IsEmpty, Sorted}
use Rattle.grammar_spec.specs.Expressions.{ArgumentList, ImportArguments, Yield, TemplateLiteral}
use Rattle.grammar_spec.specs.Functions.{Async, FunctionExpression, FunctionHead, ClassExpression}
use Rattle.grammar_spec.specs.Grammar.{Produces, children}
use Rattle.grammar_spec.specs.Reader.Source.{unfit, State, Inner, operand, is_name}
use Rattle.grammar_spec.specs.Reader.Expressions.{is_unary, literal_by, elements_by, computed_by, function_by, template_by, heads_params, arrows_at, is_async_param, params_of, group_by, ident_end, arguments_by, async_group, function_expr_name, function_expr_by, async_by, class_expr_by, new_end, callee_by, new_by, super_end, fits_import, import_by, unary_by, update_by, await_by, ends_yield, yield_end, yield_by, word_by, fixed, keyword_by, prefix_by}
use Rattle.grammar_laws.proofs.Sure.{lm, seen, next, same, Sure, done, then_sure, sure_map, if_sure, test_sure, only_sure, eat_sure, word_sure, IsName, name_sure, any_sure}
use Rattle.grammar_laws.proofs.Covers.{plain, by_yes, by_no, Holds, IsItem, Elems, IsNil, Element, first_item, listed}
use Rattle.grammar_laws.proofs.Nested.{Sound, Made, named, elements_sure, literal_sure, dull, bracketed_is, computed_sure}
use Rattle.grammar_laws.proofs.Functions.{function_sure, star_sure}
use Rattle.grammar_laws.proofs.Primaries.{element_sorted, soft, array_sure, object_sure}
use Rattle.grammar_laws.proofs.Groups.{IsTemplate, template_sure, then_placed, IsParams, params_hold, arrow_sure, at_arrow, heads_arrow, paren_sure}
use Rattle.grammar_laws.proofs.Shapes.{update_op}

-- ---- names

pub made_name : (c : Code) (s : State Input) → IsName c s → Made c s (ident (first_span (seen s)) (text (seen s)), next s)
made_name c s i = record { produced = named c s i; refines = λ k g. record { so = λ b f. record { so = (refl, (refl, named c s i)) } } }

soft_name : (c : Code) (s : State Input) → kind (seen s) ≡ async_kind → IsName c s
soft_name c s e = (subst (λ (k : ℕ). is_word k ≡ true) (sym e) refl, subst (λ (k : ℕ). no_name c.context k ≡ false) (sym e) refl, soft c async_kind s e and_false)

pub template_is : (tagged : Bool) (c : Code) (ts r : Input) (P : Tree → Type 0) → ((s : Span) (es qs : Trees) → TemplateLiteral tagged c s (children es) (children qs) ts r → P (tpl s es qs)) → (q : Tree) → IsTemplate tagged c ts r q → P q
template_is tagged c ts r P f (tpl s es qs) h = f s es qs h
template_is tagged c ts r P f _ h = absurd h

-- ---- arguments

argument_list : (k : List ℕ) (c : Code) (b : Bool) (xs : List Tree) (ts r : Input) → Elems (Element k c) false (plain c) right_paren_kind b false xs ts r → ArgumentList (plain c) (children (pack xs)) ts r
argument_list k c b xs ts r h = listed (Element k c) (Sorted is_element (plain c)) false (plain c) (plain c) (λ j a z t. t) right_paren_kind b (λ x a z q. element_sorted k c x a z q) false xs ts r h

element_out : (k : List ℕ) (c : Code) (x : Tree) (ts r : Input) → is_element x ≡ true → Produces x (plain (with_in c)) ts r → Produces x (plain c) ts r
element_out k c (expr_or_spread s None e) ts r q h = h
element_out k c (expr_or_spread s (Some d) e) ts r q h = h
element_out k c _ ts r q h = absurd (true≢false (sym q))

argument_list_in : (k : List ℕ) (c : Code) (b : Bool) (xs : List Tree) (ts r : Input) → Elems (Element k (with_in c)) false (plain (with_in c)) right_paren_kind b false xs ts r → ArgumentList (plain c) (children (pack xs)) ts r
argument_list_in k c b xs ts r h = listed (Element k (with_in c)) (Sorted is_element (plain c)) false (plain (with_in c)) (plain c) (λ j a z t. t) right_paren_kind b
    (λ x a z q. let w = element_sorted k (with_in c) x a z q in ((q.sort, element_out k c x a z q.sort q.produced), w.1)) false xs ts r h

abbrev AtOne : List ℕ → Code → Bool → Tree → List Tree → Input → Input → Type 0
AtOne k c b x xs ts r = (m : Input) × Element k c x ts m × (((n : Input) × Takes (plain c) comma_kind m n × Elems (Element k c) false (plain c) right_paren_kind b true xs n r) ⊎ (IsNil xs × (b ≡ false) × Takes (plain c) right_paren_kind m r))

import_arguments : (inner : Inner Input) (k : List ℕ) (c : Code) (b : Bool) (xs : List Tree) (ts r : Input) → Elems (Element k c) false (plain c) right_paren_kind b false xs ts r → fits_import lm inner c (record { items = xs; comma = b }) ≡ true
    → ImportArguments (plain c) (children (pack xs)) ts r
import_arguments inner k c b [] ts r h e = absurd (true≢false (sym e))
import_arguments inner k c b (x ∷ []) ts r h e =
    let p = and_parts (not (is_spread x)) (c.syntax.import_attributes || not b) e in (
      ap (λ z. z && true) p.0,
      ⊎_elim
          (λ (a : c.syntax.import_attributes ≡ true). by_yes c.syntax.import_attributes _ Bare a (refl, argument_list k c b (x ∷ []) ts r h))
          (λ (a : c.syntax.import_attributes ≡ false). by_no c.syntax.import_attributes With _ a (alone (not-true b (subst (λ z. (z || not b) ≡ true) a p.1)) (first_item (Element k c) (plain c) right_paren_kind b false x [] ts r h)))
          (cases_Bool c.syntax.import_attributes),
    )
  where
    With : Type 0
    With = (true ≡ true) × ArgumentList (plain c) (children (pack (x ∷ []))) ts r

    Bare : Type 0
    Bare = IsEmpty [] × (m : Input) × Sorted is_element (plain c) (child x (λ y. Produces x y)) ts m × Takes (plain c) right_paren_kind m r

    alone : b ≡ false → AtOne k c b x [] ts r → IsEmpty [] × (m : Input) × Sorted is_element (plain c) (child x (λ y. Produces x y)) ts m × Takes (plain c) right_paren_kind m r
    alone z q = (tt, q.0, (q.1.sort, q.1.produced), ⊎_elim (λ o. absurd (true≢false (sym o.2.0 ∙ z))) (λ o. o.2) q.2)
import_arguments inner k c b (x ∷ (y ∷ [])) ts r h e =
    let p = and_parts c.syntax.import_attributes (not (is_spread x) && not (is_spread y)) e in let q = and_parts (not (is_spread x)) (not (is_spread y)) p.1 in
    (subst (λ z. (z && (not (is_spread y) && true)) ≡ true) (sym q.0) (ap (λ z. z && true) q.1), by_yes c.syntax.import_attributes _ _ p.0 (refl, argument_list k c b (x ∷ y ∷ []) ts r h))
import_arguments inner k c b (x ∷ (y ∷ (z ∷ zs))) ts r h e = absurd (true≢false (sym e))

-- ---- functions and classes

function_spelled : (c : Code) (s : Span) (name f : Tree) (p : FunctionParts) (ts r : Input) → function_parts f ≡ Some p → FunctionExpression (plain c) s (child name (λ y. Produces name y)) (child f (λ y. Produces f y)) (Some p) ts r → Produces (fn_expr s name f) (plain c) ts r
function_spelled c s name f p ts r e h = subst (λ (o : Option FunctionParts). FunctionExpression (plain c) s (child name (λ y. Produces name y)) (child f (λ y. Produces f y)) o ts r) (sym e) h

module _ (inner : Inner Input) (good : Sound inner) where
  pub arguments_sure : (c : Code) (s : State Input) → Sure s.commas (arguments_by lm inner c s) (λ x. ArgumentList (plain c) (children (pack x.0)) (seen s) (seen x.1))
  unfolding arguments_by
  arguments_sure c s = then_sure s.commas (elements_by lm inner c false right_paren_kind s) _ _ _ (elements_sure inner good c false right_paren_kind s) (λ xs w. done (xs.0.items, xs.1) _ (argument_list xs.1.commas c xs.0.comma xs.0.items (seen s) (seen xs.1) (w.so xs.1.commas (same xs.1.commas))))

  group_sure : (c : Code) (l : ℕ) (s : State Input) → kind (seen s) ≡ left_paren_kind → Sure s.commas (group_by lm inner c l s) (Made c s)
  unfolding group_by
  group_sure c l s e = then_sure s.commas (elements_by lm inner (with_in c) false right_paren_kind (next s)) _ _ _ (elements_sure inner good (with_in c) false right_paren_kind (next s)) (λ xs w.
      paren_sure inner good c l s xs.0 xs.1 e (w.so xs.1.commas (same xs.1.commas)) (λ ps q. (seen s, refl, inr (seen (next s), (e, tt, refl), q))))

  ident_sure : (c : Code) (l : ℕ) (s : State Input) → IsName c s → Sure s.commas (ident_end lm inner c l (first_span (seen s)) (text (seen s)) (next s)) (Made c s)
  unfolding ident_end
  ident_sure c l s i = if_sure s.commas (arrows_at lm inner l (next s)) _ _ _
      (λ a. arrow_sure inner good c s false (binding_ident (first_span (seen s)) (ident (first_span (seen s)) (text (seen s))) ∷ []) (next s) (seen s, refl, inl (tt, (refl, (refl, named c s i)))) (at_arrow inner good l (next s) a))
      (λ _. done (ident (first_span (seen s)) (text (seen s)), next s) (Made c s) (made_name c s i))

  async_group_sure : (c : Code) (l : ℕ) (s : State Input) → kind (seen s) ≡ async_kind → kind (seen (next s)) ≡ left_paren_kind → Sure s.commas (async_group lm inner c l (first_span (seen s)) (text (seen s)) (next s)) (Made c s)
  unfolding async_group
  async_group_sure c l s e o = then_sure s.commas (elements_by lm inner (with_in c) false right_paren_kind (next (next s))) _ _ _ (elements_sure inner good (with_in c) false right_paren_kind (next (next s))) (λ xs w.
      let h = w.so xs.1.commas (same xs.1.commas) in
      if_sure xs.1.commas (heads_params lm inner l xs.0 xs.1 && not (brk (seen (next s)))) _ _ _
      (λ a. let b = and_parts (heads_params lm inner l xs.0 xs.1) (not (brk (seen (next s)))) a in
      then_placed _ xs.1.commas (params_of lm inner xs.1.commas xs.0) _ (IsParams c (seen (next (next s))) (seen xs.1)) _ (params_hold inner c xs.1.commas xs.0 (seen (next (next s))) (seen xs.1) h) (λ ps q.
      arrow_sure inner good c s true ps xs.1 (seen (next s), ((e, soft c async_kind s e and_false, tt, refl), not-true (brk (seen (next s))) b.1), inr (seen (next (next s)), (o, tt, refl), q)) (heads_arrow inner good l xs.0 xs.1 b.0)))
      (λ _. let t = call_expr (span (lo (seen s)) xs.1.source.last) (ident (first_span (seen s)) (text (seen s))) (pack xs.0.items) in
      done (t, xs.1) (Made c s) (dull c s t xs.1 (seen (next s), refl, (omega arith, named c s (soft_name c s e)), (seen (next (next s)), (o, tt, refl), argument_list_in xs.1.commas c xs.0.comma xs.0.items (seen (next (next s))) (seen xs.1) h), refl) (λ b k. refl))))

  pub function_name_sure : (c : Code) (start : State Input) (g a : Bool) (s : State Input) → FunctionHead g a (plain c) (seen start) (seen s) → Sure s.commas (function_expr_name lm inner c (lo (seen start)) g a s) (λ x. Made c start x × (is_default_decl x.0 ≡ true))
  unfolding function_expr_name
  function_name_sure c start g a s h = test_sure s.commas (kind (seen s)) left_paren_kind _ _ _
      (λ _. then_sure s.commas (function_by lm inner c (lo (seen start)) g a s) _ _ _ (function_sure inner good c (lo (seen start)) g a s) (λ f w. let p = span (lo (seen start)) f.1.source.last in
      done (fn_expr p absent f.0, f.1) _ (dull c start (fn_expr p absent f.0) f.1 (function_spelled c p absent f.0 (record { span = p; generator = g; async = a; count = w.0 }) (seen start) (seen f.1) w.1 (seen s, seen s, h, refl, w.2, refl, refl)) (λ b k. refl), refl)))
      (λ _. name_sure (by g a c) s _ _ (λ i. then_sure s.commas (function_by lm inner c (lo (seen start)) g a (next s)) _ _ _ (function_sure inner good c (lo (seen start)) g a (next s)) (λ f w. let p = span (lo (seen start)) f.1.source.last in
      done (fn_expr p (ident (first_span (seen s)) (text (seen s))) f.0, f.1) _ (
        dull c start (fn_expr p (ident (first_span (seen s)) (text (seen s))) f.0) f.1
            (function_spelled c p (ident (first_span (seen s)) (text (seen s))) f.0 (record { span = p; generator = g; async = a; count = w.0 }) (seen start) (seen f.1) w.1 (seen s, seen (next s), h, (refl, named (by g a c) s i), w.2, refl, refl)) (λ b k. refl),
        refl,
      ))))

  pub function_expr_sure : (c : Code) (start : State Input) (a : Bool) (s : State Input) → Async a (plain c) (seen start) (seen s) → Sure s.commas (function_expr_by lm inner c (lo (seen start)) a s) (λ x. Made c start x × (is_default_decl x.0 ≡ true))
  unfolding function_expr_by
  function_expr_sure c start a s h = word_sure c function_kind s _ _ (λ e b. star_sure inner c (next s) _ _ (λ g r q t.
      subst (λ j. Sure j (function_expr_name lm inner c (lo (seen start)) g a r) (λ x. Made c start x × (is_default_decl x.0 ≡ true))) q (function_name_sure c start g a r (seen s, seen (next s), h, (e, b, tt, refl), t))))

  class_spelled : (c : Code) (s : Span) (name k : Tree) (ts r : Input) → class_span k ≡ Some s → ClassExpression (plain c) s (child name (λ y. Produces name y)) (child k (λ y. Produces k y)) (Some s) ts r → Produces (class_expr s name k) (plain c) ts r
  class_spelled c s name k ts r e h = subst (λ (o : Option Span). ClassExpression (plain c) s (child name (λ y. Produces name y)) (child k (λ y. Produces k y)) o ts r) (sym e) h

  pub class_expr_sure : (c : Code) (s : State Input) → Sure s.commas (class_expr_by lm inner c s) (λ x. Made c s x × (is_default_decl x.0 ≡ true))
  unfolding class_expr_by
  class_expr_sure c s = word_sure c class_kind s _ _ (λ e b. if_sure s.commas (is_name lm (turned_strict c) (next s) && not (eqb (kind (seen (next s))) left_brace_kind)) _ _ _
      (λ _. name_sure (turned_strict c) (next s) _ _ (λ i. then_sure s.commas (inner.class_tail (turned_strict (with_in c)) (lo (seen s)) (next (next s))) _ _ _ (good.class_tail (turned_strict (with_in c)) (lo (seen s)) (next (next s))) (λ k h.
      let p = span (lo (seen s)) k.1.source.last in let n = ident (first_span (seen (next s))) (text (seen (next s))) in
      done (class_expr p n k.0, k.1) _ (dull c s (class_expr p n k.0) k.1 (class_spelled c p n k.0 (seen s) (seen k.1) h.0 (seen (next s), seen (next (next s)), (e, b, tt, refl), (refl, named (turned_strict c) (next s) i), h.1, refl, refl)) (λ z l. refl), refl))))
      (λ _. then_sure s.commas (inner.class_tail (turned_strict (with_in c)) (lo (seen s)) (next s)) _ _ _ (good.class_tail (turned_strict (with_in c)) (lo (seen s)) (next s)) (λ k h.
      let p = span (lo (seen s)) k.1.source.last in
      done (class_expr p absent k.0, k.1) _ (dull c s (class_expr p absent k.0) k.1 (class_spelled c p absent k.0 (seen s) (seen k.1) h.0 (seen (next s), seen (next s), (e, b, tt, refl), refl, h.1, refl, refl)) (λ z l. refl), refl))))

  async_sure : (c : Code) (l : ℕ) (s : State Input) → kind (seen s) ≡ async_kind → Sure s.commas (async_by lm inner c l s) (Made c s)
  unfolding async_by
  async_sure c l s e = let t = soft c async_kind s e and_false in
      if_sure s.commas ((eqb (kind (seen (next s))) function_kind && not (brk (seen (next s)))) && not (barred c.context (seen (next s)))) _ _ _
      (λ z. let b = and_parts (eqb (kind (seen (next s))) function_kind) (not (brk (seen (next s)))) (and_parts (eqb (kind (seen (next s))) function_kind && not (brk (seen (next s)))) _ z).0 in
      sure_map s.commas (function_expr_by lm inner c (lo (seen s)) true (next s)) _ _ (function_expr_sure c s true (next s) ((e, t, tt, refl), not-true (brk (seen (next s))) b.1)) (λ x h. h.0))
      (λ _. if_sure s.commas (is_async_param lm inner c l (next s)) _ _ _
      (λ z. let b = and_parts (is_name lm c (next s)) _ z in let y = and_parts (not (brk (seen (next s))) && eqb (kind2 (seen (next s))) arrow_kind && not (brk2 (seen (next s)))) (leb l assignment_level) b.1 in
      let d = and3 (not (brk (seen (next s)))) (eqb (kind2 (seen (next s))) arrow_kind) (not (brk2 (seen (next s)))) y.0 in
      name_sure c (next s) _ _ (λ i. arrow_sure inner good c s true (binding_ident (first_span (seen (next s))) (ident (first_span (seen (next s))) (text (seen (next s)))) ∷ []) (next (next s))
      (seen (next s), ((e, t, tt, refl), not-true (brk (seen (next s))) d.0), inl (tt, (refl, (refl, named c (next s) i)))) d.1))
      (λ _. if_sure s.commas (eqb (kind (seen (next s))) left_paren_kind && not (brk (seen (next s)))) _ _ _
      (λ z. async_group_sure c l s e (eqb-true (kind (seen (next s))) left_paren_kind (and_parts (eqb (kind (seen (next s))) left_paren_kind) _ z).0))
      (λ _. ident_sure c l s (soft_name c s e))))
    where
      and3 : (x y z : Bool) → (x && y && z) ≡ true → (x ≡ true) × ((y && z) ≡ true)
      and3 true y z e = (refl, e)
      and3 false y z e = absurd (true≢false (sym e))

-- ---- prefix operators, `new`, `super`, `import`, `await`, `yield`

yield_with : (c : Code) (s : Span) (e : Tree) (g : Bool) (ts r : Input) → 2 ≤ level e → Yield c s (child e (λ y. Produces e y)) g ts r → Produces (yield_expr s e g) c ts r
yield_with c s absent g ts r l h = absurd (omega (arith, l))
yield_with c s _ g ts r l h = h

new_level_of : (l : ℕ) → (leb member_level l || eqb l new_level) ≡ true → (l ≡ new_level) ⊎ (member_level ≤ l)
new_level_of l e = ⊎_elim (λ (q : leb member_level l ≡ true). inr (leb-true member_level l q)) (λ (q : leb member_level l ≡ false). inl (eqb-true l new_level (subst (λ b. (b || eqb l new_level) ≡ true) q e))) (cases_Bool (leb member_level l))

module _ (inner : Inner Input) (good : Sound inner) where
  new_end_sure : (c : Code) (s : State Input) (f : Tree) (r : State Input) → TakesWord (plain c) new_kind (seen s) (seen (next s)) → Produces f (plain c) (seen (next s)) (seen r) → Sure r.commas (new_end lm inner c (lo (seen s)) f r) (Made c s)
  unfolding new_end
  new_end_sure c s f r t h = if_sure r.commas (eqb (kind (seen r)) left_paren_kind && leb member_level (level f)) _ _ _
      (λ z. let b = and_parts (eqb (kind (seen r)) left_paren_kind) (leb member_level (level f)) z in
      then_sure r.commas (arguments_by lm inner c (next r)) _ _ _ (arguments_sure inner good c (next r)) (λ xs w. let p = span (lo (seen s)) xs.1.source.last in
      done (new_expr p f (list (pack xs.0)), xs.1) (Made c s) (dull c s (new_expr p f (list (pack xs.0))) xs.1
      (seen (next s), seen r, t, (leb-true member_level (level f) b.1, h), (seen (next r), (eqb-true (kind (seen r)) left_paren_kind b.0, tt, refl), w), refl) (λ b k. refl))))
      (λ _. if_sure r.commas ((leb member_level (level f) || eqb (level f) new_level) && ltb (goes_expr c other_end (seen r)) call_level) _ _ _
      (λ z. let b = and_parts (leb member_level (level f) || eqb (level f) new_level) (ltb (goes_expr c other_end (seen r)) call_level) z in let p = span (lo (seen s)) r.source.last in
      done (new_expr p f absent, r) (Made c s) (dull c s (new_expr p f absent) r (seen (next s), t, new_level_of (level f) b.0, h, ltb-true (goes_expr c other_end (seen r)) call_level b.1, refl) (λ b k. refl)))
      (λ _. record { so = tt }))

  callee_sure : (c : Code) (s : State Input) → Sure s.commas (callee_by lm inner c s) (λ f. Produces f.0 (plain c) (seen s) (seen f.1))
  unfolding callee_by
  callee_sure c s = if_sure s.commas (eqb (kind (seen s)) async_kind && eqb (kind2 (seen s)) left_paren_kind) _ _ _
      (λ _. name_sure c s _ _ (λ i. done (ident (first_span (seen s)) (text (seen s)), next s) _ (named c s i)))
      (λ _. sure_map s.commas (inner.expr c member_level s) _ _ (good.expr c member_level s (omega arith)) (λ f h. h.1.produced))

  new_sure : (c : Code) (s : State Input) → Sure s.commas (new_by lm inner c s) (Made c s)
  unfolding new_by
  new_sure c s = word_sure c new_kind s _ _ (λ e b. test_sure s.commas (kind (seen (next s))) dot_kind _ _ _
      (λ z. word_sure c target_kind (next (next s)) _ _ (λ k w. let p = span (lo (seen s)) (hi (seen (next (next s)))) in
      done (meta_prop_expr p new_kind, next (next (next s))) (Made c s) (dull c s (meta_prop_expr p new_kind) (next (next (next s))) (seen (next s), seen (next (next s)), (e, b, tt, refl), (z, tt, refl), inl (refl, (k, w, tt, refl)), refl) (λ b k. refl))))
      (λ _. then_sure s.commas (callee_by lm inner c (next s)) _ _ _ (callee_sure c (next s)) (λ f h. new_end_sure c s f.0 f.1 (e, b, tt, refl) h)))

  super_sure : (c : Code) (s : State Input) → TakesWord (plain c) super_kind (seen s) (seen (next s)) → Sure s.commas (super_end lm inner c (first_span (seen s)) (next s)) (Made c s)
  unfolding super_end
  super_sure c s t = test_sure s.commas (kind (seen (next s))) left_paren_kind _ _ _
      (λ z. then_sure s.commas (arguments_by lm inner c (next (next s))) _ _ _ (arguments_sure inner good c (next (next s))) (λ xs w. let p = call_expr (span (lo (seen s)) xs.1.source.last) (super (first_span (seen s))) (pack xs.0) in
      done (p, xs.1) (Made c s) (dull c s p xs.1 (seen (next s), t, refl, (seen (next (next s)), (z, tt, refl), w), refl) (λ b k. refl))))
      (λ _. test_sure s.commas (kind (seen (next s))) left_bracket_kind _ _ _
      (λ z. then_sure s.commas (computed_by lm inner c expression_level (next s)) _ _ _ (computed_sure inner good c expression_level (next s) (omega arith) (λ t h. h) z) (λ k w.
      done (super_prop_expr (span (lo (seen s)) k.1.source.last) (super (first_span (seen s))) k.0, k.1) (Made c s)
      (bracketed_is expression_level (plain c) (seen (next s)) (seen k.1) (λ y. Made c s (super_prop_expr (span (lo (seen s)) k.1.source.last) (super (first_span (seen s))) y, k.1))
      (λ q v a. made_super c s k.1 (super (first_span (seen s))) (computed_prop_name q v) (seen (next s), t, refl, a, refl)) k.0 w)))
      (λ _. eat_sure dot_kind (next s) _ _ (λ z. any_sure (next (next s)) _ _ (λ w.
      done (super_prop_expr (span (lo (seen s)) (hi (seen (next (next s))))) (super (first_span (seen s))) (ident_name (first_span (seen (next (next s)))) (text (seen (next (next s))))), next (next (next s))) (Made c s)
      (made_super c s (next (next (next s))) (super (first_span (seen s))) (ident_name (first_span (seen (next (next s)))) (text (seen (next (next s)))))
      (seen (next s), t, refl, (seen (next (next s)), (z, tt, refl), (refl, ((w, refl, tt, refl), refl))), refl))))))
    where
      made_super : (c : Code) (s r : State Input) (o k : Tree) → Produces (super_prop_expr (span (lo (seen s)) r.source.last) o k) (plain c) (seen s) (seen r) → Made c s (super_prop_expr (span (lo (seen s)) r.source.last) o k, r)
      made_super c s r o k h = record { produced = h; refines = λ l g. record { so = λ b f. super_item b h } }
        where
          super_item : (b : Bool) → Produces (super_prop_expr (span (lo (seen s)) r.source.last) o k) (plain c) (seen s) (seen r)
              → Holds (cond b unfit (Ok (expr_pat (super_prop_expr (span (lo (seen s)) r.source.last) o k)))) (IsItem b c (seen s) (seen r))
          super_item true h = record { so = tt }
          super_item false h = record { so = (refl, (refl, h)) }

  import_sure : (c : Code) (s : State Input) → Sure s.commas (import_by lm inner c s) (Made c s)
  unfolding import_by
  import_sure c s = word_sure c import_kind s _ _ (λ e b. test_sure s.commas (kind (seen (next s))) dot_kind _ _ _
      (λ z. word_sure c meta_kind (next (next s)) _ _ (λ k w. let p = span (lo (seen s)) (hi (seen (next (next s)))) in
      done (meta_prop_expr p import_kind, next (next (next s))) (Made c s) (dull c s (meta_prop_expr p import_kind) (next (next (next s))) (seen (next s), seen (next (next s)), (e, b, tt, refl), (z, tt, refl), inr (refl, (k, w, tt, refl)), refl) (λ b k. refl))))
      (λ _. eat_sure left_paren_kind (next s) _ _ (λ z. then_sure s.commas (elements_by lm inner c false right_paren_kind (next (next s))) _ _ _ (elements_sure inner good c false right_paren_kind (next (next s))) (λ xs w.
      only_sure _ xs.1.commas (fits_import lm inner c xs.0) _ _ (λ q. let p = call_expr (span (lo (seen s)) xs.1.source.last) (import (first_span (seen s))) (pack xs.0.items) in
      done (p, xs.1) (Made c s) (dull c s p xs.1 (seen (next s), seen (next (next s)), (e, b, tt, refl), refl, (z, tt, refl), import_arguments inner xs.1.commas c xs.0.comma xs.0.items (seen (next (next s))) (seen xs.1) (w.so xs.1.commas (same xs.1.commas)) q, refl) (λ b k. refl)))))))

  unary_sure : (c : Code) (s : State Input) → is_unary (kind (seen s)) ≡ true → Sure s.commas (unary_by lm inner c s) (Made c s)
  unfolding unary_by
  unary_sure c s u = word_sure c (kind (seen s)) s _ _ (λ e b. then_sure s.commas (inner.expr c unary_level (next s)) _ _ _ (good.expr c unary_level (next s) (omega arith)) (λ x h. let p = unary_expr (span (lo (seen s)) x.1.source.last) (kind (seen s)) x.0 in
      done (p, x.1) (Made c s) (dull c s p x.1 (seen (next s), u, (e, b, tt, refl), (h.0, h.1.produced), refl) (λ b k. refl))))

  update_sure : (c : Code) (s : State Input) → between plus_plus_kind minus_minus_kind (kind (seen s)) ≡ true → Sure s.commas (update_by lm inner c s) (Made c s)
  unfolding update_by
  update_sure c s u = then_sure s.commas (inner.expr c unary_level (next s)) _ _ _ (good.expr c unary_level (next s) (omega arith)) (λ x h. let p = update_expr (span (lo (seen s)) x.1.source.last) (kind (seen s)) true x.0 in
      done (p, x.1) (Made c s) (dull c s p x.1 (seen (next s), update_op (kind (seen s)) u, (refl, tt, refl), (h.0, h.1.produced), refl) (λ b k. refl)))

  await_sure : (c : Code) (s : State Input) → c.context.in_async ≡ true → Sure s.commas (await_by lm inner c s) (Made c s)
  unfolding await_by
  await_sure c s a = word_sure c await_kind s _ _ (λ e b. then_sure s.commas (inner.expr c unary_level (next s)) _ _ _ (good.expr c unary_level (next s) (omega arith)) (λ x h. let p = await_expr (span (lo (seen s)) x.1.source.last) x.0 in
      done (p, x.1) (Made c s) (dull c s p x.1 (seen (next s), a, (e, b, tt, refl), (h.0, h.1.produced), refl) (λ b k. refl))))

  yield_sure : (c : Code) (s : State Input) → c.context.in_generator ≡ true → Sure s.commas (yield_by lm inner c s) (Made c s)
  unfolding yield_by yield_end
  yield_sure c s a = word_sure c yield_kind s _ _ (λ e b. if_sure s.commas (brk (seen (next s)) || ends_yield lm inner (kind (seen (next s)))) _ _ _
      (λ _. let p = yield_expr (span (lo (seen s)) (hi (seen s))) absent false in done (p, operand lm (next s)) (Made c s) (dull c s p (operand lm (next s)) (refl, (a, (e, b, tt, refl), refl)) (λ b k. refl)))
      (λ n. let q = no_break (brk (seen (next s))) _ n in test_sure s.commas (kind (seen (next s))) mul_kind _ _ _
      (λ z. then_sure s.commas (inner.expr c assignment_level (next (next s))) _ _ _ (good.expr c assignment_level (next (next s)) (omega arith)) (λ x h. let p = span (lo (seen s)) x.1.source.last in
      done (yield_expr p x.0 true, x.1) (Made c s) (dull c s (yield_expr p x.0 true) x.1 (yield_with (plain c) p x.0 true (seen s) (seen x.1) h.0 (seen (next s), seen (next (next s)), a, (e, b, tt, refl), q, (z, tt, refl), (h.0, h.1.produced), refl)) (λ b k. refl))))
      (λ _. then_sure s.commas (inner.expr c assignment_level (operand lm (next s))) _ _ _ (good.expr c assignment_level (operand lm (next s)) (omega arith)) (λ x h. let p = span (lo (seen s)) x.1.source.last in
      done (yield_expr p x.0 false, x.1) (Made c s) (dull c s (yield_expr p x.0 false) x.1 (yield_with (plain c) p x.0 false (seen s) (seen x.1) h.0 (seen (next s), a, (e, b, tt, refl), q, (h.0, h.1.produced), refl)) (λ b k. refl))))))
    where
      no_break : (x y : Bool) → (x || y) ≡ false → x ≡ false
      no_break true y e = absurd (true≢false e)
      no_break false y e = refl

  word_by_sure : (c : Code) (l : ℕ) (s : State Input) → Sure s.commas (word_by lm inner c l s) (Made c s)
  unfolding word_by
  word_by_sure c l s = test_sure s.commas (kind (seen s)) async_kind _ _ _ (λ e. async_sure inner good c l s e) (λ _. name_sure c s _ _ (λ i. ident_sure inner good c l s i))

  fixed_sure : (c : Code) (s : State Input) (f : Span → Tree) → (barred c.context (seen s) ≡ false → Made c s (f (span (lo (seen s)) (hi (seen s))), next s)) → Sure s.commas (fixed lm inner c f s) (Made c s)
  fixed_sure c s f h = word_sure c (kind (seen s)) s _ _ (λ e b. done (f (span (lo (seen s)) (hi (seen s))), next s) (Made c s) (h b))

  keyword_sure : (c : Code) (l : ℕ) (s : State Input) → Sure s.commas (keyword_by lm inner c l s) (Made c s)
  unfolding keyword_by
  keyword_sure c l s =
      test_sure s.commas (kind (seen s)) this_kind _ _ _ (λ e. fixed_sure c s this_expr (λ b. dull c s _ (next s) ((e, b, tt, refl), refl) (λ b k. refl))) (λ _.
      test_sure s.commas (kind (seen s)) null_kind _ _ _ (λ e. fixed_sure c s null_lit (λ b. dull c s _ (next s) ((e, b, tt, refl), refl) (λ b k. refl))) (λ _.
      test_sure s.commas (kind (seen s)) true_kind _ _ _ (λ e. fixed_sure c s (λ p. bool_lit p true) (λ b. dull c s _ (next s) ((e, b, tt, refl), refl) (λ b k. refl))) (λ _.
      test_sure s.commas (kind (seen s)) false_kind _ _ _ (λ e. fixed_sure c s (λ p. bool_lit p false) (λ b. dull c s _ (next s) ((e, b, tt, refl), refl) (λ b k. refl))) (λ _.
      test_sure s.commas (kind (seen s)) function_kind _ _ _ (λ e. sure_map s.commas (function_expr_by lm inner c (lo (seen s)) false s) _ _ (function_expr_sure inner good c s false s refl) (λ x h. h.0)) (λ _.
      test_sure s.commas (kind (seen s)) class_kind _ _ _ (λ e. sure_map s.commas (class_expr_by lm inner c s) _ _ (class_expr_sure inner good c s) (λ x h. h.0)) (λ _.
      test_sure s.commas (kind (seen s)) new_kind _ _ _ (λ e. new_sure c s) (λ _.
      test_sure s.commas (kind (seen s)) super_kind _ _ _ (λ _. word_sure c super_kind s _ _ (λ e b. super_sure c s (e, b, tt, refl))) (λ _.
      test_sure s.commas (kind (seen s)) import_kind _ _ _ (λ e. import_sure c s) (λ _.
      if_sure s.commas (is_unary (kind (seen s))) _ _ _ (λ u. unary_sure c s u) (λ _.
      if_sure s.commas (eqb (kind (seen s)) await_kind && c.context.in_async) _ _ _ (λ z. await_sure c s (and_parts (eqb (kind (seen s)) await_kind) c.context.in_async z).1) (λ _.
      if_sure s.commas (eqb (kind (seen s)) yield_kind && c.context.in_generator) _ _ _ (λ z. yield_sure c s (and_parts (eqb (kind (seen s)) yield_kind) c.context.in_generator z).1) (λ _.
      word_by_sure c l s))))))))))))

  pub prefix_sure : (c : Code) (l : ℕ) (s : State Input) → Sure s.commas (prefix_by lm inner c l s) (Made c s)
  unfolding prefix_by
  prefix_sure c l s =
      if_sure s.commas (is_word (kind (seen s))) _ _ _ (λ _. keyword_sure c l s) (λ _.
      test_sure s.commas (kind (seen s)) left_paren_kind _ _ _ (λ e. group_sure inner good c l s e) (λ _.
      test_sure s.commas (kind (seen s)) left_bracket_kind _ _ _ (λ e. array_sure inner good c s e) (λ _.
      test_sure s.commas (kind (seen s)) left_brace_kind _ _ _ (λ e. object_sure inner good c s e) (λ _.
      test_sure s.commas (kind (seen s)) back_quote_kind _ _ _ (λ e. sure_map s.commas (template_by lm inner c false s) _ _ (template_sure inner good c false s e)
      (λ x h. template_is false (plain c) (seen s) (seen x.1) (λ t. Made c s (t, x.1)) (λ p es qs q. dull c s (tpl p es qs) x.1 q (λ b k. refl)) x.0 h)) (λ _.
      if_sure s.commas (is_unary (kind (seen s))) _ _ _ (λ u. unary_sure c s u) (λ _.
      if_sure s.commas (between plus_plus_kind minus_minus_kind (kind (seen s))) _ _ _ (λ u. update_sure c s u) (λ _.
      sure_map s.commas (literal_by lm inner s) _ _ (literal_sure inner s) (λ x h. h.0 c))))))))
