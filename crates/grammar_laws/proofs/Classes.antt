-- Classes and their members produce what they are read of.
use Rattle.std.proofs.Common.{◌≡◌, ℕ, ◌⊎◌, inl, inr, Bool, true, false, not, ◌&&◌, ◌||◌, cond, eqb, List, [], ◌∷◌, ◌++◌, Option, Some, None, refl, sym, ap, ◌∙◌, subst, ⊎_elim, true≢false, arith}
use Rattle.std.proofs.lemmas.Bool.{eqb-true, and_parts, not-true}
use Rattle.base_proofs.proofs.Bools.{and_false}
use Rattle.base_token.specs.declared.place.Span.{Span}
use Rattle.base_token.specs.Kinds.{left_paren_kind, right_paren_kind, left_brace_kind, right_brace_kind, semicolon_kind, hash_kind, mul_kind, assign_kind, extends_kind, async_kind, static_kind, accessor_kind, get_kind, set_kind}
use Rattle.tree_spec.specs.Tree.{Tree, none, more, pack, plain_method, absent, block_stmt, empty_stmt, function, class, class_method, private_method, class_prop, private_prop, static_block, auto_accessor}
use Rattle.grammar_spec.specs.Tokens.Input.{Input, Code, kind, kind2, brk, brk2, Takes, Spans, lo, span, first_span, in_body, in_field, in_static, setting}
use Rattle.grammar_spec.specs.Tokens.Operators.{assignment_level, new_level, starts_key, key_end}
use Rattle.grammar_spec.specs.Tokens.Shape.{ends, is_absent, is_private, is_key, is_member, constructs, field_end, FunctionParts, function_parts, class_span}
use Rattle.grammar_spec.specs.Children.{child, By, Expr, Ends}
use Rattle.grammar_spec.specs.Functions.{Async, MethodHead, Method, Static, ClassMethod, Initial, Members, Heritage, Closes}
use Rattle.grammar_spec.specs.Grammar.{Produces, children}
use Rattle.grammar_spec.specs.Reader.Source.{State, Inner, go_on, finished, iterate}
use Rattle.grammar_spec.specs.Reader.Expressions.{key_by, private_by, function_by, setter_parameter, is_async_head}
use Rattle.grammar_spec.specs.Reader.Statements.{block_rest, field_value, class_key, method_tree, constructor_of, class_method_by, class_getter, class_setter, accessor_by, field_or_method, generator_member, member_rest, starts_static, static_by, member_step, members_by, class_tail_by}
use Rattle.grammar_laws.proofs.Sure.{lm, seen, next, Sure, done, then_sure, sure_map, at_commas, if_sure, test_sure, eat_sure, word_sure, StepSure, loop_sure}
use Rattle.grammar_laws.proofs.Covers.{plain, by_no, not_absent}
use Rattle.grammar_laws.proofs.Nested.{Sound, GotClass, body_is, key_sure, private_sure, end_sure}
use Rattle.grammar_laws.proofs.Functions.{Before, All_read, at_start, one_more, at_end, function_sure, setter_sure, star_sure}
use Rattle.grammar_laws.proofs.Primaries.{soft}
use Rattle.grammar_laws.proofs.Lists.{block_rest_sure, list_is}
use Rattle.grammar_laws.proofs.Simple.{ended}

-- ---- what a function is

abbrev generator_of : Option FunctionParts → Bool
generator_of None = false
generator_of (Some p) = p.generator

abbrev async_of : Option FunctionParts → Bool
async_of None = false
async_of (Some p) = p.async

abbrev is_function : Option FunctionParts → Bool
is_function None = false
is_function (Some p) = true

module _ (inner : Inner Input) (good : Sound inner) where
  constructor_spelled : (c : Code) (s p : Span) (n : ℕ) (k f : Tree) (ts m r : Input) → constructs k ≡ true → Produces k (plain c) ts m → function_parts f ≡ Some (record { span = p; generator = false; async = false; count = n }) → Produces f (setting false (plain c)) m r → Spans s ts r
      → (is_member (constructor_of lm inner s k f) ≡ true) × Produces (constructor_of lm inner s k f) (plain c) ts r
  constructor_spelled c s p n k (function t ps ds (block_stmt b ss) g a) ts m r e h q w z =
      let g0 : g ≡ false = ap generator_of q in let a0 : a ≡ false = ap async_of q in
      let w1 = subst (λ (x : Bool). Produces (function t ps ds (block_stmt b ss) x a) (setting false (plain c)) m r) g0 w in
      let w2 = subst (λ (x : Bool). Produces (function t ps ds (block_stmt b ss) false x) (setting false (plain c)) m r) a0 w1 in
      (refl, (m, w2.0, e, h, w2.2, w2.3, z))
  constructor_spelled c s p n k (function t ps ds _ g a) ts m r e h q w z = absurd w
  constructor_spelled c s p n k _ ts m r e h q w z = absurd (true≢false (sym (ap is_function q)))

  -- ---- keys and values

  abbrev GotKey : Code → State Input → Tree × State Input → Type 0
  GotKey c s x = ((is_private x.0 ≡ true) ⊎ (is_key x.0 ≡ true)) × Produces x.0 (plain c) (seen s) (seen x.1)

  class_key_sure : (c : Code) (s : State Input) → Sure s.commas (class_key lm inner c s) (GotKey c s)
  unfolding class_key
  class_key_sure c s = test_sure s.commas (kind (seen s)) hash_kind _ _ _ (λ _. sure_map s.commas (private_by lm inner s) _ _ (private_sure inner c s) (λ x h. (inl h.0, h.1)))
      (λ _. sure_map s.commas (key_by lm inner c s) _ _ (key_sure inner good c s) (λ x h. (inr h.0, h.1)))

  plain_key : (k : Tree) → (is_private k ≡ true) ⊎ (is_key k ≡ true) → is_private k ≡ false → is_key k ≡ true
  plain_key k h e = ⊎_elim (λ z. absurd (true≢false (sym z ∙ e))) (λ z. z) h

  any_key : (k : Tree) → (is_private k ≡ true) ⊎ (is_key k ≡ true) → (is_key k || is_private k) ≡ true
  any_key k h = ⊎_elim (λ z. right (is_key k) (is_private k) z) (λ z. left (is_key k) (is_private k) z) h
    where
      right : (a b : Bool) → b ≡ true → (a || b) ≡ true
      right true b e = refl
      right false b e = e

      left : (a b : Bool) → a ≡ true → (a || b) ≡ true
      left true b e = refl
      left false b e = absurd (true≢false (sym e))

  value_sure : (c : Code) (e : ℕ) (s : State Input) → Sure s.commas (field_value lm inner c e s) (λ x. Initial (plain c) e (child x.0 (λ y. Produces x.0 y)) (seen s) (seen x.1))
  unfolding field_value
  value_sure c e s = test_sure s.commas (kind (seen s)) assign_kind _ _ _
      (λ z. then_sure s.commas (inner.expr (in_field c) assignment_level (next s)) _ _ _ (good.expr (in_field c) assignment_level (next s) (omega arith)) (λ v h. end_sure c (ends v.0) v.1 _ _ (λ r q w. ended v.1 r v.0 _ q
      (by_no (is_absent v.0) (Ends (plain c) e (seen s) (seen r)) ((m : Input) × (n : Input) × Takes (plain c) assign_kind (seen s) m × Expr assignment_level (in_field (plain c)) (child v.0 (λ y. Produces v.0 y)) m n × Ends (plain c) (ends v.0) n (seen r)) (not_absent v.0 h.0) (seen (next s), seen v.1, (z, tt, refl), (h.0, h.1.produced), w)))))
      (λ _. end_sure c e s _ _ (λ r q w. ended s r absent _ q w))

  -- ---- members

  abbrev GotMember : Code → State Input → Tree × State Input → Type 0
  GotMember c s x = (is_member x.0 ≡ true) × Produces x.0 (plain c) (seen s) (seen x.1)

  method_made : (c : Code) (s : Span) (k f : Tree) (p : FunctionParts) (op : ℕ) (st : Bool) (ts m r : Input) → (is_private k ≡ true) ⊎ (is_key k ≡ true) → function_parts f ≡ Some p
      → (constructs k && (not st && (eqb op plain_method && (not p.generator && not p.async)))) ≡ false → Static st (plain c) ts m → Method (plain c) op (child k (λ y. Produces k y)) p (child f (λ y. Produces f y)) m r → p.span ≡ s → Spans s ts r
      → (is_member (method_tree lm inner s k f op st) ≡ true) × Produces (method_tree lm inner s k f op st) (plain c) ts r
  method_made c s k f p op st ts m r e q n t h w z = by_key (is_private k) refl
    where
      by_key : (b : Bool) → is_private k ≡ b → (is_member (cond b (private_method s k f op st) (class_method s k f op st)) ≡ true) × Produces (cond b (private_method s k f op st) (class_method s k f op st)) (plain c) ts r
      by_key true y = (refl, subst (λ (o : Option FunctionParts). ClassMethod is_private (plain c) s (child k (λ u. Produces k u)) (child f (λ u. Produces f u)) o op st ts r) (sym q) (m, y, n, t, h, w, z))
      by_key false y = (refl, subst (λ (o : Option FunctionParts). ClassMethod is_key (plain c) s (child k (λ u. Produces k u)) (child f (λ u. Produces f u)) o op st ts r) (sym q) (m, plain_key k e y, n, t, h, w, z))

  class_method_sure : (c : Code) (start : State Input) (st g a : Bool) (k : Tree) (ms mh : Input) (s : State Input) → Static st (plain c) (seen start) ms → MethodHead g a (plain c) ms mh → (is_private k ≡ true) ⊎ (is_key k ≡ true) → Produces k (plain c) mh (seen s)
      → Sure s.commas (class_method_by lm inner c (lo (seen start)) st g a k s) (GotMember c start)
  unfolding class_method_by
  class_method_sure c start st g a k ms mh s t h e key = then_sure s.commas (function_by lm inner c (lo (seen start)) g a s) _ _ _ (function_sure inner good c (lo (seen start)) g a s) (λ f w. let p = span (lo (seen start)) f.1.source.last in
      if_sure f.1.commas (constructs k && (not st && (not g && not a))) _ _ _
      (λ z. let b = and_parts (constructs k) (not st && (not g && not a)) z in let d = and_parts (not st) (not g && not a) b.1 in let i = and_parts (not g) (not a) d.1 in
      let t0 : seen start ≡ ms = subst (λ (x : Bool). Static x (plain c) (seen start) ms) (not-true st d.0) t in
      let h1 = subst (λ (x : Bool). MethodHead x a (plain c) ms mh) (not-true g i.0) h in let h2 = subst (λ (x : Bool). MethodHead false x (plain c) ms mh) (not-true a i.1) h1 in
      let q1 = subst (λ (x : Bool). function_parts f.0 ≡ Some (record { span = p; generator = x; async = a; count = w.0 })) (not-true g i.0) w.1 in let q2 = subst (λ (x : Bool). function_parts f.0 ≡ Some (record { span = p; generator = false; async = x; count = w.0 })) (not-true a i.1) q1 in
      done (constructor_of lm inner p k f.0, f.1) (GotMember c start)
      (constructor_spelled c p p w.0 k f.0 (seen start) (seen s) (seen f.1) b.0 (subst (λ x. Produces k (plain c) x (seen s)) (sym (t0 ∙ h2.1 ∙ h2.2)) key) q2 w.2 refl))
      (λ n. done (method_tree lm inner p k f.0 plain_method st, f.1) (GotMember c start)
      (method_made c p k f.0 (record { span = p; generator = g; async = a; count = w.0 }) plain_method st (seen start) ms (seen f.1) e w.1 n t (mh, seen s, h, key, w.2) refl refl)))

  getter_sure : (c : Code) (start : State Input) (st : Bool) (s : State Input) → Static st (plain c) (seen start) (seen s) → kind (seen s) ≡ get_kind → Sure s.commas (class_getter lm inner c (lo (seen start)) st s) (GotMember c start)
  unfolding class_getter
  getter_sure c start st s t e = then_sure s.commas (class_key lm inner c (next s)) _ _ _ (class_key_sure c (next s)) (λ k q. eat_sure left_paren_kind k.1 _ _ (λ o. eat_sure right_paren_kind (next k.1) _ _ (λ u.
      then_sure k.1.commas (inner.body (in_body false false c) (next (next k.1))) _ _ _ (good.body (in_body false false c) (next (next k.1))) (λ b w. let p = span (lo (seen start)) b.1.source.last in
      done (method_tree lm inner p k.0 (function p none none b.0 false false) get_kind st, b.1) (GotMember c start)
      (method_made c p k.0 (function p none none b.0 false false) (record { span = p; generator = false; async = false; count = 0 }) get_kind st (seen start) (seen s) (seen b.1) q.0 refl (not_plain k.0 st) t (
        seen (next s),
        seen k.1,
        inl (refl, refl),
        refl,
        refl,
        (e, soft c get_kind s e and_false, tt, refl),
        q.1,
        body_is (plain (in_body false false c)) (seen (next (next k.1))) (seen b.1) (λ z. Produces (function p none none z false false) (setting false (plain c)) (seen k.1) (seen b.1)) (λ y ss j. (seen (next (next k.1)), tt, (seen (next k.1), (o, tt, refl), (u, tt, refl)), j)) b.0 w,
      ) refl refl)))))
    where
      not_plain : (k : Tree) (st : Bool) → (constructs k && (not st && false)) ≡ false
      not_plain k st = ap (λ z. constructs k && z) (and_false (not st)) ∙ and_false (constructs k)

  setter_member_sure : (c : Code) (start : State Input) (st : Bool) (s : State Input) → Static st (plain c) (seen start) (seen s) → kind (seen s) ≡ set_kind → Sure s.commas (class_setter lm inner c (lo (seen start)) st s) (GotMember c start)
  unfolding class_setter
  setter_member_sure c start st s t e = then_sure s.commas (class_key lm inner c (next s)) _ _ _ (class_key_sure c (next s)) (λ k q. then_sure k.1.commas (setter_parameter lm inner (in_body false false c) k.1) _ _ _ (setter_sure inner good (in_body false false c) k.1) (λ x h.
      then_sure x.1.commas (inner.body (in_body false false c) x.1) _ _ _ (good.body (in_body false false c) x.1) (λ b w. let p = span (lo (seen start)) b.1.source.last in
      done (method_tree lm inner p k.0 (function p (more x.0 none) none b.0 false false) set_kind st, b.1) (GotMember c start)
      (method_made c p k.0 (function p (more x.0 none) none b.0 false false) (record { span = p; generator = false; async = false; count = 1 }) set_kind st (seen start) (seen s) (seen b.1) q.0 refl (not_plain k.0 st) t (
        seen (next s),
        seen k.1,
        inr refl,
        refl,
        refl,
        (e, soft c set_kind s e and_false, tt, refl),
        q.1,
        body_is (plain (in_body false false c)) (seen x.1) (seen b.1) (λ z. Produces (function p (more x.0 none) none z false false) (setting true (plain c)) (seen k.1) (seen b.1)) (λ y ss j. (seen x.1, tt, (h.0, h.1, tt, h.3, h.4, (h.2, h.5), h.6), j)) b.0 w,
      ) refl refl))))
    where
      not_plain : (k : Tree) (st : Bool) → (constructs k && (not st && false)) ≡ false
      not_plain k st = ap (λ z. constructs k && z) (and_false (not st)) ∙ and_false (constructs k)

  accessor_sure : (c : Code) (start : State Input) (st : Bool) (s : State Input) → Static st (plain c) (seen start) (seen s) → c.syntax.auto_accessors ≡ true → kind (seen s) ≡ accessor_kind → brk (seen (next s)) ≡ false → Sure s.commas (accessor_by lm inner c (lo (seen start)) st s) (GotMember c start)
  unfolding accessor_by
  accessor_sure c start st s t on e n = then_sure s.commas (class_key lm inner c (next s)) _ _ _ (class_key_sure c (next s)) (λ k q. then_sure k.1.commas (field_value lm inner c key_end k.1) _ _ _ (value_sure c key_end k.1) (λ v h.
      done (auto_accessor (span (lo (seen start)) v.1.source.last) k.0 v.0 st none, v.1) (GotMember c start) (refl, (seen s, seen (next s), seen k.1, on, tt, t, (e, soft c accessor_kind s e and_false, tt, refl), n, (any_key k.0 q.0, q.1), h, refl))))

  field_sure : (c : Code) (start : State Input) (st : Bool) (s : State Input) → Static st (plain c) (seen start) (seen s) → Sure s.commas (field_or_method lm inner c (lo (seen start)) st s) (GotMember c start)
  unfolding field_or_method
  field_sure c start st s t = then_sure s.commas (class_key lm inner c s) _ _ _ (class_key_sure c s) (λ k q. test_sure k.1.commas (kind (seen k.1)) left_paren_kind _ _ _
      (λ _. class_method_sure c start st false false k.0 (seen s) (seen s) k.1 t (seen s, refl, refl) q.0 q.1)
      (λ _. then_sure k.1.commas (field_value lm inner c (field_end st (kind (seen s))) k.1) _ _ _ (value_sure c (field_end st (kind (seen s))) k.1) (λ v h. if_sure v.1.commas (is_private k.0) _ _ _
      (λ z. done (private_prop (span (lo (seen start)) v.1.source.last) k.0 v.0 st none, v.1) (GotMember c start) (refl, (seen s, seen k.1, tt, z, t, q.1, h, refl)))
      (λ z. done (class_prop (span (lo (seen start)) v.1.source.last) k.0 v.0 st none, v.1) (GotMember c start) (refl, (seen s, seen k.1, tt, plain_key k.0 q.0 z, t, q.1, h, refl))))))

  generator_sure : (c : Code) (start : State Input) (st a : Bool) (ms : Input) (s : State Input) → Static st (plain c) (seen start) ms → Async a (plain c) ms (seen s) → Sure s.commas (generator_member lm inner c (lo (seen start)) st a s) (GotMember c start)
  unfolding generator_member
  generator_sure c start st a ms s t h = star_sure inner c s _ _ (λ g r q z. at_commas s.commas r.commas _ (GotMember c start) q
      (then_sure r.commas (class_key lm inner c r) _ _ _ (class_key_sure c r) (λ k w. class_method_sure c start st g a k.0 ms (seen r) k.1 t (seen s, h, z) w.0 w.1)))

  member_rest_sure : (c : Code) (start : State Input) (st : Bool) (s : State Input) → Static st (plain c) (seen start) (seen s) → Sure s.commas (member_rest lm inner c (lo (seen start)) st s) (GotMember c start)
  unfolding member_rest
  member_rest_sure c start st s t = test_sure s.commas (kind (seen s)) mul_kind _ _ _ (λ _. generator_sure c start st false (seen s) s t refl) (λ _.
      if_sure s.commas (is_async_head lm inner s) _ _ _ (λ z. let b = and_parts (eqb (kind (seen s)) async_kind) ((starts_key (kind2 (seen s)) || eqb (kind2 (seen s)) mul_kind) && not (brk2 (seen s))) z in
      let e = eqb-true (kind (seen s)) async_kind b.0 in let d = and_parts (starts_key (kind2 (seen s)) || eqb (kind2 (seen s)) mul_kind) (not (brk2 (seen s))) b.1 in
      generator_sure c start st true (seen s) (next s) t ((e, soft c async_kind s e and_false, tt, refl), not-true (brk2 (seen s)) d.1)) (λ _.
      if_sure s.commas (eqb (kind (seen s)) get_kind && starts_key (kind2 (seen s))) _ _ _ (λ z. getter_sure c start st s t (eqb-true (kind (seen s)) get_kind (and_parts (eqb (kind (seen s)) get_kind) _ z).0)) (λ _.
      if_sure s.commas (eqb (kind (seen s)) set_kind && starts_key (kind2 (seen s))) _ _ _ (λ z. setter_member_sure c start st s t (eqb-true (kind (seen s)) set_kind (and_parts (eqb (kind (seen s)) set_kind) _ z).0)) (λ _.
      if_sure s.commas (c.syntax.auto_accessors && (eqb (kind (seen s)) accessor_kind && (starts_key (kind2 (seen s)) && not (brk2 (seen s))))) _ _ _
      (λ z. let b = and_parts c.syntax.auto_accessors (eqb (kind (seen s)) accessor_kind && (starts_key (kind2 (seen s)) && not (brk2 (seen s)))) z in let d = and_parts (eqb (kind (seen s)) accessor_kind) (starts_key (kind2 (seen s)) && not (brk2 (seen s))) b.1 in
      accessor_sure c start st s t b.0 (eqb-true (kind (seen s)) accessor_kind d.0) (not-true (brk2 (seen s)) (and_parts (starts_key (kind2 (seen s))) (not (brk2 (seen s))) d.1).1)) (λ _.
      field_sure c start st s t)))))

  static_sure : (c : Code) (s : State Input) → Sure s.commas (static_by lm inner c s) (GotMember c s)
  unfolding static_by
  static_sure c s = word_sure c static_kind s _ _ (λ e b. test_sure s.commas (kind (seen (next s))) left_brace_kind _ _ _
      (λ z. then_sure s.commas (block_rest lm inner (in_static c) (lo (seen (next s))) (next (next s))) _ _ _ (block_rest_sure inner good Closes (in_static c) (λ ts r t. t) (next s) (next (next s))) (λ x h.
      done (static_block (span (lo (seen s)) x.1.source.last) x.0, x.1) (GotMember c s) (list_is Closes (in_static c) (span (lo (seen (next s))) (seen x.1).last) (seen (next (next s))) (seen x.1)
      (λ y. (is_member (static_block (span (lo (seen s)) x.1.source.last) y) ≡ true) × Produces (static_block (span (lo (seen s)) x.1.source.last) y) (plain c) (seen s) (seen x.1))
      (λ p ss q k. (refl, (seen (next s), seen (next (next s)), (e, b, tt, refl), (z, tt, refl), k, q, refl))) x.0 h)))
      (λ _. member_rest_sure c s true (next s) (e, b, tt, refl)))

  abbrev Parted : Code → List Tree → Input → Input → Type 0
  Parted c ys ts r = Members (plain c) (children (pack ys)) ts r

  member_step_sure : (c : Code) (ts : Input) (ms : List Tree) (s : State Input) → Before (Parted c) ts ms s → Sure s.commas (member_step lm inner c ms s) (StepSure (Before (Parted c) ts) (All_read (Parted c) ts))
  unfolding member_step
  member_step_sure c ts ms s b = test_sure s.commas (kind (seen s)) right_brace_kind _ _ _ (λ e. done (finished ms, next s) (StepSure (Before (Parted c) ts) (All_read (Parted c) ts)) (at_end (Parted c) ts ms s (next s) b (e, tt, refl))) (λ _.
      test_sure s.commas (kind (seen s)) semicolon_kind _ _ _ (λ e. done (go_on (ms ++ empty_stmt (first_span (seen s)) ∷ []), next s) (StepSure (Before (Parted c) ts) (All_read (Parted c) ts)) (one_more (Parted c) ts ms s (empty_stmt (first_span (seen s))) (next s) b (λ ys r k. (seen (next s), (refl, ((e, tt, refl), refl)), k)))) (λ _.
      if_sure s.commas (starts_static lm inner s) _ _ _
      (λ _. then_sure s.commas (static_by lm inner c s) _ _ _ (static_sure c s) (λ x h. done (go_on (ms ++ x.0 ∷ []), x.1) (StepSure (Before (Parted c) ts) (All_read (Parted c) ts)) (one_more (Parted c) ts ms s x.0 x.1 b (λ ys r k. (seen x.1, h, k)))))
      (λ _. then_sure s.commas (member_rest lm inner c (lo (seen s)) false s) _ _ _ (member_rest_sure c s false s refl) (λ x h. done (go_on (ms ++ x.0 ∷ []), x.1) (StepSure (Before (Parted c) ts) (All_read (Parted c) ts)) (one_more (Parted c) ts ms s x.0 x.1 b (λ ys r k. (seen x.1, h, k)))))))

  members_sure : (c : Code) (whole : ℕ) (h : Tree) (m : Input) (s : State Input) → By (is_absent h) (m ≡ seen s) (Heritage (plain c) (child h (λ y. Produces h y)) m (seen s)) → Sure s.commas (members_by lm inner c whole h s)
      (λ x. (class_span x.0 ≡ Some (span whole (seen x.1).last)) × Produces x.0 (plain c) m (seen x.1))
  unfolding members_by
  members_sure c whole h m s g = eat_sure left_brace_kind s _ _ (λ e. then_sure s.commas (iterate _ (member_step lm inner c) [] (next s)) _ _ _ (loop_sure (member_step lm inner c) (Before (Parted c) (seen (next s))) (All_read (Parted c) (seen (next s))) (λ x r b. member_step_sure c (seen (next s)) x r b) [] (next s) (at_start (Parted c) (seen (next s)) (next s) refl))
      (λ ms k. done (class (span whole ms.1.source.last) none (pack ms.0) h, ms.1) _ (refl, (seen s, seen (next s), tt, g, (e, tt, refl), k.so))))

  pub class_tail_sure : (c : Code) (whole : ℕ) (s : State Input) → Sure s.commas (class_tail_by lm inner c whole s) (GotClass c whole s)
  unfolding class_tail_by
  class_tail_sure c whole s = test_sure s.commas (kind (seen s)) extends_kind _ _ _
      (λ _. word_sure c extends_kind s _ _ (λ e b. then_sure s.commas (inner.expr c new_level (next s)) _ _ _ (good.expr c new_level (next s) (omega arith)) (λ x h.
      members_sure c whole x.0 (seen s) x.1 (by_no (is_absent x.0) (seen s ≡ seen x.1) (Heritage (plain c) (child x.0 (λ y. Produces x.0 y)) (seen s) (seen x.1)) (not_absent x.0 (omega (arith, h.0))) (seen (next s), (e, b, tt, refl), (h.0, h.1.produced))))))
      (λ _. members_sure c whole absent (seen s) s refl)
