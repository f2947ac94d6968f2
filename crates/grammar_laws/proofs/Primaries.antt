-- Arrays, objects, templates, groups and arrows produce what they are read of.
use Rattle.std.proofs.Common.{◌≡◌, ℕ, Bool, true, false, not, ◌&&◌, ◌||◌, cond, eqb, List, ◌∷◌, Option, Some, refl, sym, ◌∙◌, subst, true≢false, eq-eqb, arith}
use Rattle.std.proofs.lemmas.Bool.{eqb-true, and_parts, not-true, or_left}
use Rattle.base_proofs.proofs.Bools.{and_false}
use Rattle.base_token.specs.declared.place.Span.{Span}
use Rattle.base_token.specs.Kinds.{colon_kind, dot_dot_dot_kind, left_paren_kind, right_paren_kind, left_bracket_kind, right_bracket_kind, left_brace_kind, right_brace_kind, assign_kind, mul_kind, async_kind, get_kind, set_kind}
use Rattle.tree_spec.specs.Tree.{Tree, pack, array_lit, object_lit, ident, expr_or_spread, spread_element, key_value_prop, assign_prop, getter_prop, setter_prop, method_prop}
use Rattle.grammar_spec.specs.Tokens.Input.{Input, Code, kind, kind2, brk2, text, escaped, Spans, lo, span, first_span, no_name, barred, strict_reserved, with_in, in_body, setting}
use Rattle.grammar_spec.specs.Tokens.Operators.{assignment_level, starts_key}
use Rattle.grammar_spec.specs.Tokens.Shape.{is_hole, is_rest, is_element, is_prop, is_key, FunctionParts, function_parts}
use Rattle.grammar_spec.specs.Children.{child, Sorted, Listed}
use Rattle.grammar_spec.specs.Functions.{MethodHead, ObjectMethod}
use Rattle.grammar_spec.specs.Patterns.{Item, Property}
use Rattle.grammar_spec.specs.Grammar.{Produces, children}
use Rattle.grammar_spec.specs.Reader.Source.{State, Inner, finished, iterate}
use Rattle.grammar_spec.specs.Reader.Cover.{has, last_rests, to_items}
use Rattle.grammar_spec.specs.Reader.Expressions.{Elements, no_elements, elements_by, noted, array_by, key_by, function_by, setter_parameter, pattern_of, method_prop_by, getter_by, setter_by, prop_rest, prop_by, prop_step, object_by, is_accessor, is_async_head}
use Rattle.grammar_laws.proofs.Sure.{lm, seen, next, Grows, same, further, Sure, done, gives, then_sure, then_grown, then_any, weaken, if_sure, test_sure, eat_sure, name_placed, StepSure, loop_sure}
use Rattle.grammar_laws.proofs.Covers.{patterned, plain, then_holds, if_holds, Element, Prop, prop_value, prop_spread, prop_cover, prop_name, listed, items_refine}
use Rattle.grammar_laws.proofs.Nested.{Sound, Made, body_is, named, takes, Front, Whole, starts, closed, after_sure, elements_sure, key_sure}
use Rattle.grammar_laws.proofs.Functions.{function_sure, setter_sure, pattern_spelled, star_sure}

-- ---- arrays and objects

grow_noted : (b : Bool) (n : ℕ) (k : List ℕ) → Grows k (cond b (n ∷ k) k)
grow_noted true n k = record { all = λ x e. or_right_true (eqb n x) (has x k) e }
  where
    or_right_true : (a b : Bool) → b ≡ true → (a || b) ≡ true
    or_right_true true b e = refl
    or_right_true false b e = e
grow_noted false n k = same k

unnoted : (b : Bool) (n : ℕ) (k l : List ℕ) → Grows (cond b (n ∷ k) k) l → has n l ≡ false → b ≡ false
unnoted true n k l g e = absurd (true≢false (sym (g.all n (or_left (eqb n n) (has n k) (eq-eqb n n refl))) ∙ e))
unnoted false n k l g e = refl

pub element_sorted : (k : List ℕ) (c : Code) (x : Tree) (ts r : Input) → Element k c x ts r → Sorted is_element (plain c) (child x (λ y. Produces x y)) ts r × (is_rest x ≡ false)
element_sorted k c x ts r q = ((q.sort, q.produced), no_rest x q.sort)
  where
    no_rest : (x : Tree) → is_element x ≡ true → is_rest x ≡ false
    no_rest (expr_or_spread s d e) h = refl
    no_rest _ h = absurd (true≢false (sym h))

prop_sorted : (k : List ℕ) (c : Code) (x : Tree) (ts r : Input) → Prop k c x ts r → Sorted is_prop (plain c) (child x (λ y. Produces x y)) ts r × (is_rest x ≡ false)
prop_sorted k c x ts r q = ((q.sort, q.produced), no_rest x q.sort)
  where
    no_rest : (x : Tree) → is_prop x ≡ true → is_rest x ≡ false
    no_rest (ident s n) h = refl
    no_rest (spread_element s e) h = refl
    no_rest (key_value_prop s k v) h = refl
    no_rest (assign_prop s k v) h = refl
    no_rest (getter_prop s k b) h = refl
    no_rest (setter_prop s k p b) h = refl
    no_rest (method_prop s k f) h = refl
    no_rest _ h = absurd (true≢false (sym h))

-- a contextual word is never barred
pub soft : (c : Code) (k : ℕ) (s : State Input) → kind (seen s) ≡ k → ((z : Bool) → (z && (no_name c.context k || (strict_reserved k && c.context.strict))) ≡ false) → barred c.context (seen s) ≡ false
soft c k s e h = subst (λ (j : ℕ). (escaped (seen s) && (no_name c.context j || (strict_reserved j && c.context.strict))) ≡ false) (sym e) (h (escaped (seen s)))

module _ (inner : Inner Input) (good : Sound inner) where
  pub array_sure : (c : Code) (s : State Input) → kind (seen s) ≡ left_bracket_kind → Sure s.commas (array_by lm inner c s) (Made c s)
  unfolding array_by
  array_sure c s e = then_sure s.commas (elements_by lm inner c true right_bracket_kind (next s)) _ _ _ (elements_sure inner good c true right_bracket_kind (next s)) (λ xs w.
      let b = xs.0.comma && last_rests xs.0.items in let n = lo (seen s) in
      gives xs.1.commas (array_lit (span n xs.1.source.last) (pack xs.0.items), noted lm inner b n xs.1) (Made c s) (grow_noted b n xs.1.commas) (record {
        produced = (seen (next s), (e, tt, refl), listed (Element xs.1.commas c) (Sorted is_element (plain c)) true (plain c) (plain c) (λ j ts r t. t) right_bracket_kind xs.0.comma (λ x ts r q. element_sorted xs.1.commas c x ts r q) false xs.0.items (seen (next s)) (seen xs.1) (w.so xs.1.commas (same xs.1.commas)), refl);
        refines = λ k g. record {
          so = λ a f. if_holds (has n k) _ _ _ (λ _. record { so = tt }) (λ z.
              then_holds (to_items false a k (pack xs.0.items)) _ (λ ps. Listed true (Item (patterned a c)) (patterned a c) right_bracket_kind (children ps) (seen (next s)) (seen xs.1)) _
              (items_refine (Element k c) (Item (patterned a c)) true false (λ _. refl) (plain c) (patterned a c) (λ j ts r t. t) right_bracket_kind xs.0.comma a k (λ x ts r q. q.refines a) false xs.0.items (seen (next s)) (seen xs.1)
              (w.so k (further xs.1.commas (cond b (n ∷ xs.1.commas) xs.1.commas) k (grow_noted b n xs.1.commas) g)) (unnoted b n xs.1.commas k g z))
              (λ ps l. record { so = (refl, (seen (next s), (e, tt, refl), l, refl)) }));
        };
      }))

  -- ---- properties

  method_spelled : (c : Code) (s : Span) (k f : Tree) (p : FunctionParts) (ts m n r : Input) → is_key k ≡ true → function_parts f ≡ Some p → MethodHead p.generator p.async (plain c) ts m → Produces k (plain c) m n → Produces f (setting false (plain c)) n r
      → p.span ≡ s → Spans s ts r → Produces (method_prop s k f) (plain c) ts r
  method_spelled c s k f p ts m n r e q h key body w z =
      subst (λ (o : Option FunctionParts). ObjectMethod (plain c) s (child k (λ y. Produces k y)) (child f (λ y. Produces f y)) o ts r) (sym q) (e, (m, n, h, key, body), w, z)

  method_sure : (c : Code) (start : State Input) (g a : Bool) (s : State Input) → MethodHead g a (plain c) (seen start) (seen s)
      → Sure s.commas (method_prop_by lm inner c (lo (seen start)) g a s) (λ x. (is_hole x.0 ≡ false) × ((k : List ℕ) → Grows x.1.commas k → Prop k c x.0 (seen start) (seen x.1)))
  unfolding method_prop_by
  method_sure c start g a s h = then_sure s.commas (key_by lm inner c s) _ _ _ (key_sure inner good c s) (λ k q. then_sure k.1.commas (function_by lm inner c (lo (seen start)) g a k.1) _ _ _ (function_sure inner good c (lo (seen start)) g a k.1) (λ f w.
      done (method_prop (span (lo (seen start)) f.1.source.last) k.0 f.0, f.1) _ (
        refl,
        λ l o. record {
          sort = refl;
          produced = method_spelled c (span (lo (seen start)) f.1.source.last) k.0 f.0 (record { span = span (lo (seen start)) f.1.source.last; generator = g; async = a; count = w.0 }) (seen start) (seen s) (seen k.1) (seen f.1) q.0 w.1 h q.1 w.2 refl refl;
          refines = λ b. record { so = tt };
        },
      )))

  abbrev pub GotProp : Code → State Input → Tree × State Input → Type 0
  GotProp c s x = (is_hole x.0 ≡ false) × ((k : List ℕ) → Grows x.1.commas k → Prop k c x.0 (seen s) (seen x.1))

  getter_sure : (c : Code) (s : State Input) → kind (seen s) ≡ get_kind → Sure s.commas (getter_by lm inner c s) (GotProp c s)
  unfolding getter_by
  getter_sure c s e = then_sure s.commas (key_by lm inner c (next s)) _ _ _ (key_sure inner good c (next s)) (λ k q. eat_sure left_paren_kind k.1 _ _ (λ o. eat_sure right_paren_kind (next k.1) _ _ (λ p.
      then_sure k.1.commas (inner.body (in_body false false c) (next (next k.1))) _ _ _ (good.body (in_body false false c) (next (next k.1))) (λ b w.
      done (getter_prop (span (lo (seen s)) b.1.source.last) k.0 b.0, b.1) (GotProp c s) (body_is (plain (in_body false false c)) (seen (next (next k.1))) (seen b.1)
      (λ z. (is_hole (getter_prop (span (lo (seen s)) b.1.source.last) k.0 z) ≡ false) × ((l : List ℕ) → Grows b.1.commas l → Prop l c (getter_prop (span (lo (seen s)) b.1.source.last) k.0 z) (seen s) (seen b.1)))
      (λ t ss y. (refl, λ l u. record { sort = refl; produced = (seen (next s), seen k.1, seen (next k.1), seen (next (next k.1)), (e, soft c get_kind s e and_false, tt, refl), q, (o, tt, refl), (p, tt, refl), y, refl); refines = λ a. record { so = tt } })) b.0 w)))))

  setter_prop_sure : (c : Code) (s : State Input) → kind (seen s) ≡ set_kind → Sure s.commas (setter_by lm inner c s) (GotProp c s)
  unfolding setter_by
  setter_prop_sure c s e = then_sure s.commas (key_by lm inner c (next s)) _ _ _ (key_sure inner good c (next s)) (λ k q. then_sure k.1.commas (setter_parameter lm inner (in_body false false c) k.1) _ _ _ (setter_sure inner good (in_body false false c) k.1) (λ p h.
      then_sure p.1.commas (inner.body (in_body false false c) p.1) _ _ _ (good.body (in_body false false c) p.1) (λ b w. let d = pattern_spelled inner (in_body false false c) p.0 h.0 h.1 h.2 h.3 h.5 in
      done (setter_prop (span (lo (seen s)) b.1.source.last) k.0 (pattern_of lm inner p.0) b.0, b.1) (GotProp c s) (body_is (plain (in_body false false c)) (seen p.1) (seen b.1)
      (λ z. (is_hole (setter_prop (span (lo (seen s)) b.1.source.last) k.0 (pattern_of lm inner p.0) z) ≡ false) × ((l : List ℕ) → Grows b.1.commas l → Prop l c (setter_prop (span (lo (seen s)) b.1.source.last) k.0 (pattern_of lm inner p.0) z) (seen s) (seen b.1)))
      (λ t ss y. (refl, λ l u. record { sort = refl; produced = (seen (next s), seen k.1, h.0, h.1, seen p.1, (e, soft c set_kind s e and_false, tt, refl), q, h.4, d.0, d.1, d.2, h.6, y, refl); refines = λ a. record { so = tt } })) b.0 w))))

  prop_rest_sure : (c : Code) (s : State Input) (k : Tree) (r : State Input) → Grows s.commas r.commas → is_key k ≡ true → Produces k (plain c) (seen s) (seen r) → Sure s.commas (prop_rest lm inner c s k r) (GotProp c s)
  unfolding prop_rest
  prop_rest_sure c s k r gr e h = test_sure s.commas (kind (seen r)) colon_kind _ _ _
      (λ z. weaken s.commas r.commas _ _ gr (then_sure r.commas (inner.expr (with_in c) assignment_level (next r)) _ _ _ (good.expr (with_in c) assignment_level (next r) (omega arith)) (λ v w.
      done (key_value_prop (span (lo (seen s)) v.1.source.last) k v.0, v.1) (GotProp c s) (refl, λ l u. prop_value l c (span (lo (seen s)) v.1.source.last) k v.0 (seen s) (seen r) (seen (next r)) (seen v.1) e h (z, tt, refl) w.0 w.1.produced (w.1.refines l u) refl))))
      (λ _. test_sure s.commas (kind (seen r)) left_paren_kind _ _ _
      (λ z. weaken s.commas r.commas _ _ gr (then_sure r.commas (function_by lm inner c (lo (seen s)) false false r) _ _ _ (function_sure inner good c (lo (seen s)) false false r) (λ f w.
      done (method_prop (span (lo (seen s)) f.1.source.last) k f.0, f.1) (GotProp c s) (
        refl,
        λ l o. record {
          sort = refl;
          produced = method_spelled c (span (lo (seen s)) f.1.source.last) k f.0 (record { span = span (lo (seen s)) f.1.source.last; generator = false; async = false; count = w.0 }) (seen s) (seen s) (seen r) (seen f.1) e w.1 (seen s, refl, refl) h w.2 refl refl;
          refines = λ b. record { so = tt };
        },
      ))))
      (λ _. name_placed _ c s _ _ (λ i. test_sure s.commas (kind (seen (next s))) assign_kind _ _ _
      (λ z. then_sure s.commas (inner.expr (with_in c) assignment_level (next (next s))) _ _ _ (good.expr (with_in c) assignment_level (next (next s)) (omega arith)) (λ v w.
      done (assign_prop (span (lo (seen s)) v.1.source.last) (ident (first_span (seen s)) (text (seen s))) v.0, v.1) (GotProp c s) (refl, λ l u. prop_cover l c (span (lo (seen s)) v.1.source.last) (first_span (seen s)) (text (seen s)) v.0 (seen s) (seen (next s)) (seen (next (next s))) (seen v.1) (named c s i) (z, tt, refl) w.0 w.1.produced refl)))
      (λ _. done (ident (first_span (seen s)) (text (seen s)), next s) (GotProp c s) (refl, λ l u. prop_name l c (first_span (seen s)) (text (seen s)) (seen s) (seen (next s)) (named c s i))))))

  prop_sure : (c : Code) (s : State Input) → Sure s.commas (prop_by lm inner c s) (GotProp c s)
  unfolding prop_by
  prop_sure c s = test_sure s.commas (kind (seen s)) dot_dot_dot_kind _ _ _
      (λ z. then_sure s.commas (inner.expr (with_in c) assignment_level (next s)) _ _ _ (good.expr (with_in c) assignment_level (next s) (omega arith)) (λ e w.
      done (spread_element (span (lo (seen s)) e.1.source.last) e.0, e.1) (GotProp c s) (refl, λ l u. prop_spread l c (span (lo (seen s)) e.1.source.last) e.0 (seen s) (seen (next s)) (seen e.1) (z, tt, refl) w.0 w.1.produced (w.1.refines l u) refl)))
      (λ _. test_sure s.commas (kind (seen s)) mul_kind _ _ _ (λ z. method_sure c s true false (next s) (seen s, refl, (z, tt, refl)))
      (λ _. if_sure s.commas (is_async_head lm inner s) _ _ _
      (λ z. let b = and_parts (eqb (kind (seen s)) async_kind) ((starts_key (kind2 (seen s)) || eqb (kind2 (seen s)) mul_kind) && not (brk2 (seen s))) z in
      let e = eqb-true (kind (seen s)) async_kind b.0 in let d = and_parts (starts_key (kind2 (seen s)) || eqb (kind2 (seen s)) mul_kind) (not (brk2 (seen s))) b.1 in
      star_sure inner c (next s) _ _ (λ g r q t. subst (λ j. Sure j (method_prop_by lm inner c (lo (seen s)) g true r) (GotProp c s)) q (method_sure c s g true r (seen (next s), ((e, soft c async_kind s e and_false, tt, refl), not-true (brk2 (seen s)) d.1), t))))
      (λ _. if_sure s.commas (is_accessor lm inner get_kind s) _ _ _ (λ z. getter_sure c s (eqb-true (kind (seen s)) get_kind (and_parts (eqb (kind (seen s)) get_kind) _ z).0))
      (λ _. if_sure s.commas (is_accessor lm inner set_kind s) _ _ _ (λ z. setter_prop_sure c s (eqb-true (kind (seen s)) set_kind (and_parts (eqb (kind (seen s)) set_kind) _ z).0))
      (λ _. then_any s.commas (key_by lm inner c s) _ _ _ (key_sure inner good c s) (λ k g q. prop_rest_sure c s k.0 k.1 g q.0 q.1))))))

  prop_step_sure : (c : Code) (ts : Input) (xs : Elements) (s : State Input) → Front (λ k. Prop k c) false (plain c) right_brace_kind ts xs s
      → Sure s.commas (prop_step lm inner c xs s) (StepSure (Front (λ k. Prop k c) false (plain c) right_brace_kind ts) (Whole (λ k. Prop k c) false (plain c) right_brace_kind ts))
  unfolding prop_step
  prop_step_sure c ts xs s i =
      test_sure s.commas (kind (seen s)) right_brace_kind _ _ _ (λ z. done (finished xs, next s) (StepSure (Front (λ k. Prop k c) false (plain c) right_brace_kind ts) (Whole (λ k. Prop k c) false (plain c) right_brace_kind ts)) (closed (λ k. Prop k c) false (plain c) right_brace_kind ts xs s i (takes c right_brace_kind s z))) (λ _.
      then_grown s.commas (prop_by lm inner c s) _ _ _ (prop_sure c s) (λ e g h. after_sure (λ k. Prop k c) false (plain c) right_brace_kind ts (λ k r. takes c k r) inner xs s e i g h.0 h.1))

  pub object_sure : (c : Code) (s : State Input) → kind (seen s) ≡ left_brace_kind → Sure s.commas (object_by lm inner c s) (Made c s)
  unfolding object_by
  object_sure c s e = then_sure s.commas (iterate _ (prop_step lm inner c) no_elements (next s)) _ _ _
      (loop_sure (prop_step lm inner c) (Front (λ k. Prop k c) false (plain c) right_brace_kind (seen (next s))) (Whole (λ k. Prop k c) false (plain c) right_brace_kind (seen (next s))) (λ x r i. prop_step_sure c (seen (next s)) x r i)
      no_elements (next s) (starts (λ k. Prop k c) false (plain c) right_brace_kind (seen (next s)) (next s) refl)) (λ xs w.
      let b = xs.0.comma && last_rests xs.0.items in let n = lo (seen s) in
      gives xs.1.commas (object_lit (span n xs.1.source.last) (pack xs.0.items), noted lm inner b n xs.1) (Made c s) (grow_noted b n xs.1.commas) (record {
        produced = (seen (next s), (e, tt, refl), listed (Prop xs.1.commas c) (Sorted is_prop (plain c)) false (plain c) (plain c) (λ j ts r t. t) right_brace_kind xs.0.comma (λ x ts r q. prop_sorted xs.1.commas c x ts r q) false xs.0.items (seen (next s)) (seen xs.1) (w.so xs.1.commas (same xs.1.commas)), refl);
        refines = λ k g. record {
          so = λ a f. if_holds (has n k) _ _ _ (λ _. record { so = tt }) (λ z.
              then_holds (to_items true a k (pack xs.0.items)) _ (λ ps. Listed false (Property (patterned a c)) (patterned a c) right_brace_kind (children ps) (seen (next s)) (seen xs.1)) _
              (items_refine (Prop k c) (Property (patterned a c)) false true (λ q. absurd (true≢false (sym q))) (plain c) (patterned a c) (λ j ts r t. t) right_brace_kind xs.0.comma a k (λ x ts r q. q.refines a) false xs.0.items (seen (next s)) (seen xs.1)
              (w.so k (further xs.1.commas (cond b (n ∷ xs.1.commas) xs.1.commas) k (grow_noted b n xs.1.commas) g)) (unnoted b n xs.1.commas k g z))
              (λ ps l. record { so = (refl, (seen (next s), (e, tt, refl), l, refl)) }));
        };
      }))
