-- Patterns that bind produce what they are read of.
use Rattle.std.proofs.Common.{◌≡◌, ℕ, ◌⊎◌, inl, inr, Bool, true, false, not, ◌&&◌, ◌||◌, eqb, List, [], ◌∷◌, ◌++◌, refl, sym, ap, true≢false, arith}
use Rattle.std.proofs.lemmas.Bool.{eqb-true, and_parts, not-true}
use Rattle.base_token.specs.Kinds.{comma_kind, colon_kind, dot_dot_dot_kind, left_bracket_kind, right_bracket_kind, left_brace_kind, right_brace_kind, assign_kind}
use Rattle.tree_spec.specs.Tree.{Tree, pack, ident, hole, absent, binding_ident, array_pat, object_pat, rest_pat, assign_pat, key_value_pat_prop, assign_pat_prop}
use Rattle.grammar_spec.specs.Tokens.Input.{Input, Code, kind, text, Takes, lo, span, first_span, dots_at, with_in}
use Rattle.grammar_spec.specs.Tokens.Operators.{assignment_level}
use Rattle.grammar_spec.specs.Tokens.Shape.{is_binding, is_item_pat, is_pattern_prop, takes_rest, is_rest, is_hole, is_structured, is_absent, is_key}
use Rattle.grammar_spec.specs.Children.{child, IsEmpty, Expr}
use Rattle.grammar_spec.specs.Patterns.{Item, Property}
use Rattle.grammar_spec.specs.Grammar.{Produces, children}
use Rattle.grammar_spec.specs.Reader.Source.{State, Inner, Step, go_on, finished, iterate}
use Rattle.grammar_spec.specs.Reader.Expressions.{key_by}
use Rattle.grammar_spec.specs.Reader.Statements.{initial_pat, after_item, array_item, array_pat_by, keyed_item, named_item, pattern_prop, object_item, object_pat_by, pat_by}
use Rattle.grammar_laws.proofs.Sure.{lm, seen, next, Sure, done, then_sure, then_any, weaken, if_sure, test_sure, eat_sure, IsName, name_sure, name_placed, StepSure, loop_sure}
use Rattle.grammar_laws.proofs.Covers.{patterned, plain, by_no, key_in, not_absent}
use Rattle.grammar_laws.proofs.Nested.{Sound, GotPat, key_sure}
use Rattle.grammar_laws.proofs.Functions.{Before, All_read, at_start, one_more, at_end, with_last, ListedTrees, binding_item, binding_rest}

binding_hole : (p : Tree) → is_binding p ≡ true → is_hole p ≡ false
binding_hole (binding_ident s i) h = refl
binding_hole (array_pat s xs) h = refl
binding_hole (object_pat s ps) h = refl
binding_hole _ h = absurd (true≢false (sym h))

bound : (c : Code) (s : State Input) → IsName c s → Produces (binding_ident (first_span (seen s)) (ident (first_span (seen s)) (text (seen s)))) (patterned true c) (seen s) (seen (next s))
bound c s h = (refl, ((h.0, h.1, h.2, refl, tt, refl), refl))

takes_in : (c : Code) (k : ℕ) (s : State Input) → kind (seen s) ≡ k → Takes (patterned true c) k (seen s) (seen (next s))
takes_in c k s e = (e, tt, refl)

module _ (inner : Inner Input) (good : Sound inner) where
  abbrev GotItem : Code → State Input → Tree × State Input → Type 0
  GotItem c start x = (is_item_pat true x.0 ≡ true) × Produces x.0 (patterned true (with_in c)) (seen start) (seen x.1) × (is_rest x.0 ≡ false) × (is_hole x.0 ≡ false)

  initial_sure : (c : Code) (start : State Input) (p : Tree) (s : State Input) → is_binding p ≡ true → Produces p (patterned true (with_in c)) (seen start) (seen s) → Sure s.commas (initial_pat lm inner c (lo (seen start)) p s) (GotItem c start)
  unfolding initial_pat
  initial_sure c start p s b h = test_sure s.commas (kind (seen s)) assign_kind _ _ _
      (λ e. then_sure s.commas (inner.expr (with_in c) assignment_level (next s)) _ _ _ (good.expr (with_in c) assignment_level (next s) (omega arith)) (λ v k. let q = ap (λ z. z || false) b in
      done (assign_pat (span (lo (seen start)) v.1.source.last) p v.0, v.1) (GotItem c start) (q, (seen s, seen (next s), q, h, (e, tt, refl), (k.0, k.1.produced), refl), refl, refl)))
      (λ _. done (p, s) (GotItem c start) (binding_item p b, h, binding_rest p b, binding_hole p b))

  -- ---- lists of items

  module _ (R : List Tree → Input → Input → Type 0) (ts : Input) where
    abbrev Steps : Step (List Tree) × State Input → Type 0
    Steps = StepSure (Before R ts) (All_read R ts)

    after_sure : (close : ℕ) (last : Bool) (xs : List Tree) (s : State Input) (q : Tree) (u : State Input) → Before R ts xs s
        → (last ≡ false → kind (seen u) ≡ comma_kind → (ys : List Tree) (r : Input) → R ys (seen (next u)) r → R (q ∷ ys) (seen s) r)
        → (kind (seen u) ≡ close → R (q ∷ []) (seen s) (seen (next u))) → Sure u.commas (after_item lm inner close last (xs ++ q ∷ []) u) Steps
    unfolding after_item
    after_sure close last xs s q u b f g = if_sure u.commas (eqb (kind (seen u)) comma_kind && not last) _ _ _
        (λ e. let d = and_parts (eqb (kind (seen u)) comma_kind) (not last) e in done (go_on (xs ++ q ∷ []), next u) Steps (one_more R ts xs s q (next u) b (f (not-true last d.1) (eqb-true (kind (seen u)) comma_kind d.0))))
        (λ _. eat_sure close u _ _ (λ e. done (finished (xs ++ q ∷ []), next u) Steps (with_last R ts xs s q (next u) b (g e))))

  -- ---- arrays

  abbrev Items : Code → List Tree → Input → Input → Type 0
  Items c ys ts r = ListedTrees true (Item (patterned true c)) (patterned true c) right_bracket_kind ys ts r

  abbrev AtHole : Code → List Tree → Input → Input → Type 0
  AtHole c ys ts r = (m : Input) × Takes (patterned true c) comma_kind ts m × Items c ys m r

  abbrev AtItem : Code → Tree → List Tree → Input → Input → Type 0
  AtItem c q ys ts r = (m : Input) × Item (patterned true c) (child q (λ y. Produces q y)) ts m × (((is_rest q ≡ false) × (n : Input) × Takes (patterned true c) comma_kind m n × Items c ys n r) ⊎ (IsEmpty (children (pack ys)) × Takes (patterned true c) right_bracket_kind m r))

  item_sure : (c : Code) (ts : Input) (xs : List Tree) (s : State Input) → Before (Items c) ts xs s → Sure s.commas (array_item lm inner c xs s) (StepSure (Before (Items c) ts) (All_read (Items c) ts))
  unfolding array_item
  item_sure c ts xs s b = test_sure s.commas (kind (seen s)) right_bracket_kind _ _ _ (λ e. done (finished xs, next s) (StepSure (Before (Items c) ts) (All_read (Items c) ts)) (at_end (Items c) ts xs s (next s) b (takes_in c right_bracket_kind s e))) (λ _.
      test_sure s.commas (kind (seen s)) comma_kind _ _ _ (λ e. done (go_on (xs ++ hole ∷ []), next s) (StepSure (Before (Items c) ts) (All_read (Items c) ts)) (one_more (Items c) ts xs s hole (next s) b (λ ys r h. (seen (next s), takes_in c comma_kind s e, h)))) (λ _.
      test_sure s.commas (kind (seen s)) dot_dot_dot_kind _ _ _ (λ e. then_sure s.commas (inner.pat (with_in c) (next s)) _ _ _ (good.pat (with_in c) (next s)) (λ p h. let q = ap (λ z. z || false) h.0 in let d = rest_pat (span (lo (seen s)) p.1.source.last) (dots_at (lo (seen s))) p.0 in
      after_sure (Items c) ts right_bracket_kind true xs s d p.1 b (λ z. absurd (true≢false z)) (λ z. (seen p.1, (q, (seen (next s), (e, tt, refl), refl, q, h.1, refl)), inr (tt, takes_in c right_bracket_kind p.1 z))))) (λ _.
      then_sure s.commas (inner.pat (with_in c) s) _ _ _ (good.pat (with_in c) s) (λ p h. then_sure p.1.commas (initial_pat lm inner c (lo (seen s)) p.0 p.1) _ _ _ (initial_sure c s p.0 p.1 h.0 h.1) (λ q k.
      after_sure (Items c) ts right_bracket_kind false xs s q.0 q.1 b
      (λ _ z ys r l. by_no (is_hole q.0) (AtHole c ys (seen s) r) (AtItem c q.0 ys (seen s) r) k.3 (seen q.1, (k.0, k.1), inl (k.2, seen (next q.1), takes_in c comma_kind q.1 z, l)))
      (λ z. by_no (is_hole q.0) (AtHole c [] (seen s) (seen (next q.1))) (AtItem c q.0 [] (seen s) (seen (next q.1))) k.3 (seen q.1, (k.0, k.1), inr (tt, takes_in c right_bracket_kind q.1 z))))))))

  array_pat_sure : (c : Code) (s : State Input) → kind (seen s) ≡ left_bracket_kind → Sure s.commas (array_pat_by lm inner c s) (GotPat c s)
  unfolding array_pat_by
  array_pat_sure c s e = then_sure s.commas (iterate _ (array_item lm inner c) [] (next s)) _ _ _ (loop_sure (array_item lm inner c) (Before (Items c) (seen (next s))) (All_read (Items c) (seen (next s))) (λ x r b. item_sure c (seen (next s)) x r b) [] (next s) (at_start (Items c) (seen (next s)) (next s) refl))
      (λ xs h. done (array_pat (span (lo (seen s)) xs.1.source.last) (pack xs.0), xs.1) (GotPat c s) (refl, (seen (next s), (e, tt, refl), h.so, refl)))

  -- ---- objects

  abbrev Props : Code → List Tree → Input → Input → Type 0
  Props c ys ts r = ListedTrees false (Property (patterned true c)) (patterned true c) right_brace_kind ys ts r

  abbrev GotProp : Code → State Input → Tree × State Input → Type 0
  GotProp c s x = (is_pattern_prop x.0 ≡ true) × (takes_rest x.0 ≡ true) × Produces x.0 (patterned true (with_in c)) (seen s) (seen x.1) × (is_rest x.0 ≡ false)

  keyed_sure : (c : Code) (start : State Input) (k : Tree) (m s : State Input) → is_key k ≡ true → Produces k (plain c) (seen start) (seen m) → Takes (patterned true (with_in c)) colon_kind (seen m) (seen s) → Sure s.commas (keyed_item lm inner c (lo (seen start)) k s) (GotProp c start)
  unfolding keyed_item
  keyed_sure c start k m s e h t = then_sure s.commas (inner.pat (with_in c) s) _ _ _ (good.pat (with_in c) s) (λ p g. then_sure p.1.commas (initial_pat lm inner c (lo (seen s)) p.0 p.1) _ _ _ (initial_sure c s p.0 p.1 g.0 g.1) (λ q j.
      done (key_value_pat_prop (span (lo (seen start)) q.1.source.last) k q.0, q.1) (GotProp c start) (refl, refl, (seen m, seen s, (e, key_in k c (seen start) (seen m) e h), t, (j.0, j.1), j.2, refl), refl)))

  named_sure : (c : Code) (r s : State Input) → Sure s.commas (named_item lm inner c r s) (GotProp c s)
  unfolding named_item
  named_sure c r s = name_placed _ c s _ _ (λ i. test_sure s.commas (kind (seen (next s))) assign_kind _ _ _
      (λ e. then_sure s.commas (inner.expr (with_in c) assignment_level (next (next s))) _ _ _ (good.expr (with_in c) assignment_level (next (next s)) (omega arith)) (λ v k.
      done (assign_pat_prop (span (lo (seen s)) v.1.source.last) (binding_ident (first_span (seen s)) (ident (first_span (seen s)) (text (seen s)))) v.0, v.1) (GotProp c s)
      (refl, refl, (seen (next s), (refl, bound c s i), by_no (is_absent v.0) (seen (next s) ≡ seen v.1) ((n : Input) × Takes (patterned true (with_in c)) assign_kind (seen (next s)) n × Expr assignment_level (plain (with_in c)) (child v.0 (λ y. Produces v.0 y)) n (seen v.1)) (not_absent v.0 k.0) (seen (next (next s)), (e, tt, refl), (k.0, k.1.produced)), refl), refl)))
      (λ _. done (assign_pat_prop (first_span (seen s)) (binding_ident (first_span (seen s)) (ident (first_span (seen s)) (text (seen s)))) absent, next s) (GotProp c s) (refl, refl, (seen (next s), (refl, bound c s i), refl, refl), refl)))

  pattern_prop_sure : (c : Code) (s : State Input) → Sure s.commas (pattern_prop lm inner c s) (GotProp c s)
  unfolding pattern_prop
  pattern_prop_sure c s = then_any s.commas (key_by lm inner c s) _ _ _ (key_sure inner good c s) (λ k g h. test_sure s.commas (kind (seen k.1)) colon_kind _ _ _
      (λ e. weaken s.commas k.1.commas _ _ g (keyed_sure c s k.0 k.1 (next k.1) h.0 h.1 (e, tt, refl))) (λ _. named_sure c k.1 s))

  prop_item_sure : (c : Code) (ts : Input) (xs : List Tree) (s : State Input) → Before (Props c) ts xs s → Sure s.commas (object_item lm inner c xs s) (StepSure (Before (Props c) ts) (All_read (Props c) ts))
  unfolding object_item
  prop_item_sure c ts xs s b = test_sure s.commas (kind (seen s)) right_brace_kind _ _ _ (λ e. done (finished xs, next s) (StepSure (Before (Props c) ts) (All_read (Props c) ts)) (at_end (Props c) ts xs s (next s) b (takes_in c right_brace_kind s e))) (λ _.
      test_sure s.commas (kind (seen s)) dot_dot_dot_kind _ _ _ (λ e. then_sure s.commas (inner.pat (with_in c) (next s)) _ _ _ (good.pat (with_in c) (next s)) (λ p h. if_sure p.1.commas (is_structured p.0) _ _ _ (λ _. record { so = tt }) (λ w.
      let q = ap (λ z. z || false) h.0 in let d = rest_pat (span (lo (seen s)) p.1.source.last) (dots_at (lo (seen s))) p.0 in
      after_sure (Props c) ts right_brace_kind true xs s d p.1 b (λ z. absurd (true≢false z)) (λ z. (seen p.1, (refl, ap not w, (seen (next s), (e, tt, refl), refl, q, h.1, refl)), inr (tt, takes_in c right_brace_kind p.1 z)))))) (λ _.
      then_sure s.commas (pattern_prop lm inner c s) _ _ _ (pattern_prop_sure c s) (λ q k.
      after_sure (Props c) ts right_brace_kind false xs s q.0 q.1 b
      (λ _ z ys r l. (seen q.1, (k.0, k.1, k.2), inl (k.3, seen (next q.1), takes_in c comma_kind q.1 z, l)))
      (λ z. (seen q.1, (k.0, k.1, k.2), inr (tt, takes_in c right_brace_kind q.1 z))))))

  object_pat_sure : (c : Code) (s : State Input) → kind (seen s) ≡ left_brace_kind → Sure s.commas (object_pat_by lm inner c s) (GotPat c s)
  unfolding object_pat_by
  object_pat_sure c s e = then_sure s.commas (iterate _ (object_item lm inner c) [] (next s)) _ _ _ (loop_sure (object_item lm inner c) (Before (Props c) (seen (next s))) (All_read (Props c) (seen (next s))) (λ x r b. prop_item_sure c (seen (next s)) x r b) [] (next s) (at_start (Props c) (seen (next s)) (next s) refl))
      (λ xs h. done (object_pat (span (lo (seen s)) xs.1.source.last) (pack xs.0), xs.1) (GotPat c s) (refl, (seen (next s), (e, tt, refl), h.so, refl)))

  pub pat_sure : (c : Code) (s : State Input) → Sure s.commas (pat_by lm inner c s) (GotPat c s)
  unfolding pat_by
  pat_sure c s = test_sure s.commas (kind (seen s)) left_bracket_kind _ _ _ (λ e. array_pat_sure c s e) (λ _.
      test_sure s.commas (kind (seen s)) left_brace_kind _ _ _ (λ e. object_pat_sure c s e) (λ _.
      name_sure c s _ _ (λ i. done (binding_ident (first_span (seen s)) (ident (first_span (seen s)) (text (seen s))), next s) (GotPat c s) (refl, bound c s i))))
