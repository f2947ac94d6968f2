-- Classes and their members (15.7): what their rules answer.
use Rattle.std.proofs.Common.{◌≡◌, ℕ, ◌<◌, ◌≤◌, ◌⊎◌, inl, inr, max, Bool, true, false, not, ◌&&◌, ◌||◌, ◌==◌, cond, eqb, List, [], ◌∷◌, ◌++◌, Option, Some, None, Ok, refl, sym, ap, ◌∙◌, subst, ⊎_elim, true≢false, append_assoc, append-nil, if◌then◌else◌, arith}
use Rattle.std.proofs.lemmas.Bool.{eqb-true, ne_eqb, eq-eqb, cases_Bool, or_left, or_right, or_from, or_cases, or_parts, and_left, and_right, and_parts, and_from, not-true}
use Rattle.base_token.specs.declared.place.Span.{Span}
use Rattle.base_token.specs.Kinds.{end_kind, left_paren_kind, right_paren_kind, left_brace_kind, right_brace_kind, semicolon_kind, mul_kind, assign_kind, extends_kind, accessor_kind, async_kind, get_kind, set_kind, static_kind}
use Rattle.tree_spec.specs.Tree.{Tree, Trees, none, more, pack, unpack, plain_method, block_stmt, empty_stmt, function, class, constructor, class_method, private_method, class_prop, private_prop, static_block, auto_accessor, private_name, ident_name, str_lit, script, es_module, expr_pat, absent}
use Rattle.tree_spec.proofs.PackLemmas.{pack_unpack}
use Rattle.grammar_spec.specs.Tokens.Input.{Input, Code, kind, kind2, brk, brk2, lo, span, rest, is_word, has_in, setting, in_body, in_field, in_static, TakesWord}
use Rattle.grammar_spec.specs.Tokens.Operators.{assignment_level, new_level, starts_key, goes_expr, goes_on, key_end}
use Rattle.grammar_spec.specs.Tokens.Shape.{ends, is_absent, is_key, is_private, is_member, constructs, field_end, class_span, count_of}
use Rattle.grammar_spec.specs.Children.{IsEmpty, child, Ends}
use Rattle.grammar_spec.specs.Functions.{Members, Static, Async, Star, Body, Parameters, Initial, ClassMethod}
use Rattle.grammar_spec.specs.Grammar.{Produces, children}
use Rattle.grammar_spec.specs.Reader.Source.{State, go_on, finished}
use Rattle.grammar_spec.specs.Reader.Expressions.{function_by, star, is_async_head, setter_parameter}
use Rattle.grammar_spec.specs.Reader.Statements.{class_tail_by, members_by, member_step, member_rest, static_by, starts_static, field_value, class_key, method_tree, class_method_by, class_getter, class_setter, accessor_by, field_or_method, generator_member, block_rest}
use Rattle.grammar_laws.proofs.complete_base.Yields.{lm, from, len, coded, first_at, Reads, Is, then_is, then_eat, then_word, then_past, onto, here, past_here, if_no, if_yes, Loops, loop_on, loop_end, looped}
use Rattle.grammar_laws.proofs.complete_base.Levels.{Follow, Asked, sober, sober_by, ends_high}
use Rattle.grammar_laws.proofs.complete_base.Trees.{by_cases, no_kind}
use Rattle.grammar_laws.proofs.complete_rules.Lists.{two_asked}
use Rattle.grammar_laws.proofs.complete_rules.Objects.{key_starts, OneWord, key_opens}
use Rattle.grammar_laws.proofs.complete_rules.Nested.{Nested}
use Rattle.grammar_laws.proofs.complete_rules.Within.{Each, most, Within, Withins, within, withins}
use Rattle.grammar_laws.proofs.complete_rules.Follows.{halted, ends_two, end_follows, then_end, built, lifted}
use Rattle.grammar_laws.proofs.complete_base.Cuts.{cut, least}
use Rattle.grammar_laws.proofs.complete_rules.Functions.{any_key_found, setter_found, function_found, star_found, empty_none}
use Rattle.grammar_laws.proofs.complete_rules.StatementLists.{rest_found}
use Rattle.grammar_laws.proofs.Shapes.{absent_is}

-- ---- keys, and what follows them

-- a key of a class: how it starts, and that a word is the whole of it
any_key_starts : (x : Tree) (c : Code) (ts m : Input) → (is_key x || is_private x) ≡ true → Produces x c ts m → (starts_key (kind ts) ≡ true) × OneWord ts m
any_key_starts x c ts m i h = ⊎_elim (λ q. let y = key_starts x c ts m q h in (key_opens (kind ts) y.0, y.1)) (λ q. private_starts x q h) (or_cases (is_key x) _ i)
  where
    private_starts : (x : Tree) → is_private x ≡ true → Produces x c ts m → (starts_key (kind ts) ≡ true) × OneWord ts m
    private_starts (private_name s n) i h = (subst (λ (k : ℕ). starts_key k ≡ true) (sym h.1.0) refl, inr (subst (λ (k : ℕ). is_word k ≡ false) (sym h.1.0) refl))
    private_starts _ i h = absurd (true≢false (sym i))

-- What follows the key of a field or a method, so that a word before it is that key and nothing else.
pub record Plain (st : Bool) (m y : Input) : Type 0 where
  pub line : ((starts_key (kind y) || (kind y == mul_kind)) && not (brk y)) ≡ false
  pub accessor : ((kind m == get_kind) || (kind m == set_kind)) ≡ true → starts_key (kind y) ≡ false
  pub static_ : st ≡ false → kind m ≡ static_kind → (starts_key (kind y) || ((kind y == mul_kind) || (kind y == left_brace_kind))) ≡ false

plain_at : (st : Bool) (m y : Input) (k : ℕ) → kind y ≡ k → starts_key k ≡ false → eqb k mul_kind ≡ false → eqb k left_brace_kind ≡ false → Plain st m y
plain_at st m y k e a b d = let s = subst (λ (k : ℕ). starts_key k ≡ false) (sym e) a in let t = subst (λ (k : ℕ). eqb k mul_kind ≡ false) (sym e) b in
    record { line = and_left _ _ (or_from (starts_key (kind y)) _ s t); accessor = λ _. s; static_ = λ _ _. or_from (starts_key (kind y)) _ s (or_from (kind y == mul_kind) _ t (subst (λ (k : ℕ). eqb k left_brace_kind ≡ false) (sym e) d)) }

-- what doesn't go on after a field's key
pub record Stops (st : Bool) (k : ℕ) (y : Input) : Type 0 where
  pub value : eqb (kind y) assign_kind ≡ false
  pub paren : eqb (kind y) left_paren_kind ≡ false
  pub accessor : ((k == get_kind) || (k == set_kind)) ≡ true → starts_key (kind y) ≡ false
  pub static_ : st ≡ false → k ≡ static_kind → (starts_key (kind y) || ((kind y == mul_kind) || (kind y == left_brace_kind))) ≡ false

stops : (c : Code) (st : Bool) (k : ℕ) (y : Input) → goes_on c (field_end st k) y ≡ false → Stops st k y
stops c st k y h = by_class ((k == get_kind) || (k == set_kind)) ((k == static_kind) && not st) refl refl h
  where
    by_class : (a b : Bool) → ((k == get_kind) || (k == set_kind)) ≡ a → ((k == static_kind) && not st) ≡ b → goes_on c (cond a 6 (cond b 7 5)) y ≡ false → Stops st k y
    by_class true b e f h = let u = or_parts ((kind y == assign_kind) || (kind y == left_paren_kind)) _ h in let v = or_parts (kind y == assign_kind) _ u.0 in
        record { value = v.0; paren = v.1; accessor = λ _. u.1; static_ = λ _ w. absurd (true≢false (sym e ∙ ap (λ (k : ℕ). (k == get_kind) || (k == set_kind)) w)) }
    by_class false true e f h = let u = or_parts ((kind y == assign_kind) || (kind y == left_paren_kind)) _ h in let v = or_parts (kind y == assign_kind) _ u.0 in
        record { value = v.0; paren = v.1; accessor = λ w. absurd (true≢false (sym w ∙ e)); static_ = λ _ _. u.1 }
    by_class false false e f h = let v = or_parts (kind y == assign_kind) _ h in
        record { value = v.0; paren = v.1; accessor = λ w. absurd (true≢false (sym w ∙ e)); static_ = λ q w. absurd (true≢false (sym (and_from (k == static_kind) _ (eq-eqb k static_kind w) (ap not q)) ∙ f)) }

stops_at : (st : Bool) (k n : ℕ) (y : Input) → kind y ≡ n → eqb n assign_kind ≡ false → eqb n left_paren_kind ≡ false → starts_key n ≡ false → eqb n mul_kind ≡ false → eqb n left_brace_kind ≡ false → Stops st k y
stops_at st k n y e a b d f g = let to : (P : ℕ → Bool) → P n ≡ false → P (kind y) ≡ false = λ P h. subst (λ (n : ℕ). P n ≡ false) (sym e) h in
    record { value = to (λ n. n == assign_kind) a; paren = to (λ n. n == left_paren_kind) b; accessor = λ _. to starts_key d; static_ = λ _ _. or_from _ _ (to starts_key d) (or_from _ _ (to (λ n. n == mul_kind) f) (to (λ n. n == left_brace_kind) g)) }

-- the end of a field without value
ended_field : (p : Bool) (c : Code) (st : Bool) (m y r : Input) → Ends (coded p c) (field_end st (kind m)) y r → Plain st m y × Stops st (kind m) y
ended_field p c st m y r (inl h) = (plain_at st m y semicolon_kind h.0 refl refl refl, stops_at st (kind m) semicolon_kind y h.0 refl refl refl refl refl)
ended_field p c st m y r (inr h) = ⊎_elim (λ q. let e = eqb-true (kind y) right_brace_kind q in (plain_at st m y right_brace_kind e refl refl refl, stops_at st (kind m) right_brace_kind y e refl refl refl refl refl))
    (λ q. ⊎_elim (λ q. let e = eqb-true (kind y) end_kind q in (plain_at st m y end_kind e refl refl refl, stops_at st (kind m) end_kind y e refl refl refl refl refl))
    (λ q. let w = and_parts (brk y) _ q in let u = stops c st (kind m) y (not-true _ w.1) in (record { line = and_right _ (not (brk y)) (ap not w.0); accessor = u.accessor; static_ = u.static_ }, u)) (or_cases (kind y == end_kind) _ q)) (or_cases (kind y == right_brace_kind) _ h.1)

-- an auto accessor's key without a value
unset_key : (p : Bool) (c : Code) (y r : Input) → Ends (coded p c) key_end y r → eqb (kind y) assign_kind ≡ false
unset_key p c y r (inl h) = subst (λ (k : ℕ). eqb k assign_kind ≡ false) (sym h.0) refl
unset_key p c y r (inr h) = ⊎_elim (λ q. subst (λ (k : ℕ). eqb k assign_kind ≡ false) (sym (eqb-true (kind y) right_brace_kind q)) refl)
    (λ q. ⊎_elim (λ q. subst (λ (k : ℕ). eqb k assign_kind ≡ false) (sym (eqb-true (kind y) end_kind q)) refl)
    (λ q. let w = and_parts (brk y) _ q in let v = or_parts (kind y == assign_kind) _ (not-true _ w.1) in v.0) (or_cases (kind y == end_kind) _ q)) (or_cases (kind y == right_brace_kind) _ h.1)

plain_field : (p : Bool) (c : Code) (st : Bool) (v : Tree) (m y r : Input) → Initial (coded p c) (field_end st (kind m)) (child v (λ y. Produces v y)) y r → Plain st m y × (eqb (kind y) left_paren_kind ≡ false)
plain_field p c st v m y r h = by_cases (is_absent v) _ _ _ h (λ q x. let w = ended_field p c st m y r x in (w.0, w.1.paren)) (λ q x. (plain_at st m y assign_kind x.2.0 refl refl refl, subst (λ (k : ℕ). eqb k left_paren_kind ≡ false) (sym x.2.0) refl))

-- ---- the value of a field, which is read where `in` is an operator

goes_same : (c d : Code) (e : ℕ) (m : Input) → has_in c ≡ has_in d → goes_expr c e m ≡ goes_expr d e m
goes_same c d e m h = rw h refl

ends_sober : (p : Bool) (c d : Code) (e : ℕ) (m r : Input) → Ends (coded p c) e m r → sober d m ≡ true
ends_sober p c d e m r (inl h) = sober_by d semicolon_kind m h.0 refl
ends_sober p c d e m r (inr h) = ⊎_elim (λ q. sober_by d right_brace_kind m (eqb-true (kind m) right_brace_kind q) refl) (λ q. ⊎_elim (λ q. sober_by d end_kind m (eqb-true (kind m) end_kind q) refl) (λ q. or_left (brk m) _ (and_parts (brk m) _ q).0) (or_cases (kind m == end_kind) _ q)) (or_cases (kind m == right_brace_kind) _ h.1)

field_follows : (p : Bool) (c : Code) (e : ℕ) (m r : Input) → has_in c ≡ true → Ends (coded p c) e m r → e ≤ 2 → Follow (in_field c) e 2 m
field_follows p c e m r i h le = let f = end_follows p c e m r h le in let g = goes_same c (in_field c) e m i in record { stop = omega (arith, f.stop, g); calm = λ o _. f.calm o (omega arith); sober = ends_sober p c (in_field c) e m r h; quits = f.quits }

new_asked : Asked new_level
new_asked = record { conditional = λ e. omega (arith, e); update = λ e. omega (arith, e) }

abbrev IsSomeSpan : Option Span → Type 0
IsSomeSpan None = ⊥
IsSomeSpan (Some s) = Unit {0}

key_plain : (k : Tree) → is_key k ≡ true → is_private k ≡ false
key_plain (private_name s n) h = absurd (true≢false (sym h))
key_plain _ h = refl

module _ (z : Nested) (p : Bool) (c : Code) (i : has_in c ≡ true) where
  value_found : (e : ℕ) (v : Tree) (y r : Input) (j : List ℕ) → z.Covered v → ((x : Ends (coded p c) e y r) → eqb (kind y) assign_kind ≡ false) → Initial (coded p c) e (child v (λ y. Produces v y)) y r → Reads (from y j) (field_value lm z.inner c e (from y j)) (Is v r) (z.depth < z.reach v)
  unfolding field_value
  value_found e v y r j g n h = by_cases (is_absent v) _ _ _ h
      (λ q x. if_no (kind y == assign_kind) _ _ _ _ (n x) (then_end p c e y r j _ _ _ x (here (sym (absent_is v q)))))
      (λ q x. if_yes (kind y == assign_kind) _ _ _ _ (eq-eqb (kind y) assign_kind x.2.0) (then_past y x.0 j (z.inner.expr (in_field c) assignment_level) _ v x.1 (z.depth < z.reach v) _ _ x.2.2
      (z.expr v p (in_field c) 2 x.0 x.1 j g x.3.1 (omega arith) (omega arith) two_asked x.3.0 (field_follows p c (ends v) x.1 r i x.4 (ends_two v))) (λ u. u) (λ l. then_end p c (ends v) x.1 r l _ _ _ x.4 (here refl))))

  module _ (start : Input) (i0 : List ℕ) (st : Bool) (r : Input) (V : Tree × State Input → Type 0) (Q : Type 0) where
    -- a key that stands first
    keyed : (x : Tree) (m y : Input) (j : List ℕ) → (is_key x || is_private x) ≡ true → Produces x (coded p c) m y → Plain st m y → Reads (from m j) (field_or_method lm z.inner c (lo start) st (from m j)) V Q → Reads (from m j) (member_rest lm z.inner c (lo start) st (from m j)) V Q
    unfolding member_rest
    keyed x m y j k h pl w = let o = any_key_starts x (coded p c) m y k h in
        if_no (kind m == mul_kind) _ _ V Q (no_kind starts_key (kind m) mul_kind o.0 refl)
        (if_no (is_async_head lm z.inner (from m j)) _ _ V Q (head_off o.1 async_kind refl _ (λ q. subst (λ (d : Input). ((starts_key (kind d) || (kind d == mul_kind)) && not (brk d)) ≡ false) (sym q) pl.line))
        (if_no ((kind m == get_kind) && starts_key (kind2 m)) _ _ V Q (accessor_off o.1 get_kind refl (λ e. pl.accessor (or_left (kind m == get_kind) _ e)))
        (if_no ((kind m == set_kind) && starts_key (kind2 m)) _ _ V Q (accessor_off o.1 set_kind refl (λ e. pl.accessor (or_right (kind m == get_kind) _ e)))
        (if_no (c.syntax.auto_accessors && ((kind m == accessor_kind) && (starts_key (kind2 m) && not (brk2 m)))) _ _ V Q (and_right c.syntax.auto_accessors _ (head_off o.1 accessor_kind refl _ (λ q. subst (λ (d : Input). (starts_key (kind d) && not (brk d)) ≡ false) (sym q) (key_line pl.line)))) w))))
      where
        head_off : OneWord m y → (n : ℕ) → is_word n ≡ true → (b : Bool) → (rest m ≡ y → b ≡ false) → ((kind m == n) && b) ≡ false
        head_off (inl e) n w b f = and_right (kind m == n) b (f e.1)
        head_off (inr e) n w b f = and_left (kind m == n) b (ne_eqb (kind m) n (λ q. true≢false (sym w ∙ ap is_word (sym q) ∙ e)))

        accessor_off : OneWord m y → (n : ℕ) → is_word n ≡ true → ((kind m == n) ≡ true → starts_key (kind y) ≡ false) → ((kind m == n) && starts_key (kind2 m)) ≡ false
        accessor_off (inr e) n w f = and_left (kind m == n) _ (ne_eqb (kind m) n (λ q. true≢false (sym w ∙ ap is_word (sym q) ∙ e)))
        accessor_off (inl e) n w f = ⊎_elim (λ q. and_right (kind m == n) _ (subst (λ (d : Input). starts_key (kind d) ≡ false) (sym e.1) (f q))) (λ q. and_left (kind m == n) _ q) (cases_Bool (kind m == n))

        key_line : ((starts_key (kind y) || (kind y == mul_kind)) && not (brk y)) ≡ false → (starts_key (kind y) && not (brk y)) ≡ false
        key_line h = narrow (starts_key (kind y)) (kind y == mul_kind) (not (brk y)) h
          where
            narrow : (a b d : Bool) → ((a || b) && d) ≡ false → (a && d) ≡ false
            narrow true b d h = h
            narrow false b d h = refl

    -- a generator, from its star or its key on
    starred : (g a : Bool) (x : Tree) (m y : Input) (j : List ℕ) → Star g (coded p c) m y → (is_key x || is_private x) ≡ true → (n : Input) → Within z.Covered x → Produces x (coded p c) y n → (z.depth < within z.reach x → Q)
        → ((l : List ℕ) → Reads (from n l) (class_method_by lm z.inner c (lo start) st g a x (from n l)) V Q) → Reads (from m j) (generator_member lm z.inner c (lo start) st a (from m j)) V Q
    unfolding generator_member
    starred g a x m y j t k n w h f v = then_is (star lm z.inner (from m j)) _ g y ⊥ _ _ (star_found z p c g m y j ⊥ t (no_kind starts_key (kind y) mul_kind (any_key_starts x (coded p c) y n k h).0 refl)) (λ u. absurd u)
        (λ l. then_is (class_key lm z.inner c (from y l)) _ x n (z.depth < within z.reach x) _ _ (any_key_found z p c x y n l k w h) f v)

  -- a method that is no getter and no setter, and the constructor, from the parameters on
  module _ (start : Input) (i0 : List ℕ) (st : Bool) (s : Span) (x : Tree) where
    method_end : (t : Span) (ps ds : Trees) (b : Tree) (g a : Bool) (n r : Input) (j : List ℕ) → (constructs x && (not st && (not g && not a))) ≡ false → Within z.Covered (function t ps ds b g a) → Produces (function t ps ds b g a) (setting false (coded p c)) n r → t ≡ span (lo start) r.last → s ≡ span (lo start) r.last
        → Reads (from n j) (class_method_by lm z.inner c (lo start) st g a x (from n j)) (Is (method_tree lm z.inner s x (function t ps ds b g a) plain_method st) r) (z.depth < within z.reach (function t ps ds b g a))
    unfolding class_method_by
    method_end t ps ds b g a n r j k w h e v = then_is (function_by lm z.inner c (lo start) g a (from n j)) _ (function t ps ds b g a) r (z.depth < within z.reach (function t ps ds b g a)) _ _ (function_found z p c t ps ds b g a (lo start) n r j w h e) (λ u. u)
        (λ l. if_no (constructs x && (not st && (not g && not a))) _ _ _ _ k (here (ap (λ (d : Span). method_tree lm z.inner d x (function t ps ds b g a) plain_method st) (sym v))))

    constructor_end : (t : Span) (ps : Trees) (q : Span) (ss : Trees) (n y r : Input) (j : List ℕ) → (constructs x && (not st && true)) ≡ true → Withins z.Covered ps → z.Covered (block_stmt q ss) → Parameters (in_body false false (coded p c)) (children ps) n y → Body (in_body false false (coded p c)) q (children ss) y r → s ≡ span (lo start) r.last
        → Reads (from n j) (class_method_by lm z.inner c (lo start) st false false x (from n j)) (Is (constructor s x ps (block_stmt q ss)) r) (z.depth < max (withins z.reach ps) (z.reach (block_stmt q ss)))
    unfolding class_method_by function_by
    constructor_end t ps q ss n y r j k gp gb hp hb v =
        then_is (function_by lm z.inner c (lo start) false false (from n j)) _ (function (span (lo start) r.last) ps none (block_stmt q ss) false false) r (z.depth < max (withins z.reach ps) (z.reach (block_stmt q ss))) _ _
        (function_found z p c (span (lo start) r.last) ps none (block_stmt q ss) false false (lo start) n r j (gp, gb) (y, tt, hp, hb) refl) (λ u. u)
        (λ l. if_yes (constructs x && (not st && true)) _ _ _ _ k (here (ap (λ (d : Span). constructor d x ps (block_stmt q ss)) (sym v))))

  -- what stands after a key
  as_method : (start : Input) (i0 : List ℕ) (st : Bool) (x : Tree) (m y r : Input) (j : List ℕ) (V : Tree × State Input → Type 0) (Q : Type 0) → (is_key x || is_private x) ≡ true → Within z.Covered x → Produces x (coded p c) m y → kind y ≡ left_paren_kind → (z.depth < within z.reach x → Q)
      → ((l : List ℕ) → Reads (from y l) (class_method_by lm z.inner c (lo start) st false false x (from y l)) V Q) → Reads (from m j) (field_or_method lm z.inner c (lo start) st (from m j)) V Q
  unfolding field_or_method
  as_method start i0 st x m y r j V Q k w h e f v = then_is (class_key lm z.inner c (from m j)) _ x y (z.depth < within z.reach x) _ _ (any_key_found z p c x m y j k w h) f (λ l. if_yes (kind y == left_paren_kind) _ _ _ _ (eq-eqb (kind y) left_paren_kind e) (v l))

  as_field : (start : Input) (i0 : List ℕ) (st : Bool) (s : Span) (x v : Tree) (m y r : Input) (j : List ℕ) → (is_key x || is_private x) ≡ true → Within z.Covered x → z.Covered v → Produces x (coded p c) m y → Initial (coded p c) (field_end st (kind m)) (child v (λ y. Produces v y)) y r → s ≡ span (lo start) r.last
      → Reads (from m j) (field_or_method lm z.inner c (lo start) st (from m j)) (Is (if is_private x then private_prop s x v st none else class_prop s x v st none) r) (z.depth < max (within z.reach x) (z.reach v))
  unfolding field_or_method
  as_field start i0 st s x v m y r j k w g h t e = then_is (class_key lm z.inner c (from m j)) _ x y (z.depth < within z.reach x) _ _ (any_key_found z p c x m y j k w h) (λ u. omega arith)
      (λ l. if_no (kind y == left_paren_kind) _ _ _ _ (plain_field p c st v m y r t).1 (then_is (field_value lm z.inner c (field_end st (kind m)) (from y l)) _ v r (z.depth < z.reach v) _ _ (value_found (field_end st (kind m)) v y r l g (λ d. (ended_field p c st m y r d).1.value) t) (λ u. omega arith)
      (λ n. by_sort (is_private x) n)))
    where
      by_sort : (b : Bool) (n : List ℕ) → Reads (from r n) (cond b (Ok (private_prop (span (lo start) r.last) x v st none, from r n)) (Ok (class_prop (span (lo start) r.last) x v st none, from r n))) (Is (if b then private_prop s x v st none else class_prop s x v st none) r) (z.depth < max (within z.reach x) (z.reach v))
      by_sort true n = here (ap (λ (d : Span). private_prop d x v st none) (sym e))
      by_sort false n = here (ap (λ (d : Span). class_prop d x v st none) (sym e))

  opens_paren : (t : Span) (ps ds : Trees) (b : Tree) (g a : Bool) (n r : Input) → Produces (function t ps ds b g a) (setting false (coded p c)) n r → kind n ≡ left_paren_kind
  opens_paren t ps ds (block_stmt q ss) g a n r h = h.2.1.0
  opens_paren t ps ds _ g a n r h = absurd h

  -- a member, after `static` where it stands: how it starts, and that it is read
  record Rested (ts : Input) (k : List ℕ) (st : Bool) (x : Tree) (m r : Input) (P : Type 0) : Type 0 where
    first : (starts_key (kind m) || (kind m == mul_kind)) ≡ true
    apart : st ≡ false → (l : List ℕ) → starts_static lm z.inner (from m l) ≡ false
    read : (j : List ℕ) → Reads (from m j) (member_rest lm z.inner c (lo ts) st (from m j)) (Is x r) P

  no_static : (m : Input) (n : ℕ) (l : List ℕ) → kind m ≡ n → eqb n static_kind ≡ false → starts_static lm z.inner (from m l) ≡ false
  no_static m n l e q = and_left (kind m == static_kind) _ (subst (λ (n : ℕ). eqb n static_kind ≡ false) (sym e) q)

  plain_static : (st : Bool) (m y : Input) (l : List ℕ) → st ≡ false → OneWord m y → Plain st m y → starts_static lm z.inner (from m l) ≡ false
  plain_static st m y l s (inr e) w = and_left (kind m == static_kind) _ (ne_eqb (kind m) static_kind (λ q. true≢false (ap is_word (sym q) ∙ e)))
  plain_static st m y l s (inl e) w = ⊎_elim (λ q. and_right (kind m == static_kind) _ (subst (λ (d : Input). (starts_key (kind d) || ((kind d == mul_kind) || (kind d == left_brace_kind))) ≡ false) (sym e.1) (w.static_ s (eqb-true (kind m) static_kind q)))) (λ q. and_left (kind m == static_kind) _ q)
      (cases_Bool (kind m == static_kind))

  key_rested : (ts : Input) (k : List ℕ) (st : Bool) (t x : Tree) (m y r : Input) (P : Type 0) → (is_key x || is_private x) ≡ true → Produces x (coded p c) m y → Plain st m y → ((j : List ℕ) → Reads (from m j) (field_or_method lm z.inner c (lo ts) st (from m j)) (Is t r) P) → Rested ts k st t m r P
  key_rested ts k st t x m y r P i h w v = let o = any_key_starts x (coded p c) m y i h in
      record { first = or_left (starts_key (kind m)) _ o.0; apart = λ s l. plain_static st m y l s o.1 w; read = λ j. keyed ts k st r (Is t r) P x m y j i h w (v j) }

  generator_first : (g : Bool) (x : Tree) (w y n : Input) → Star g (coded p c) w y → (is_key x || is_private x) ≡ true → Produces x (coded p c) y n → (starts_key (kind w) || (kind w == mul_kind)) ≡ true
  generator_first true x w y n s i h = or_right (starts_key (kind w)) _ (eq-eqb (kind w) mul_kind s.0)
  generator_first false x w y n s i h = subst (λ (d : Input). (starts_key (kind d) || (kind d == mul_kind)) ≡ true) (sym s) (or_left (starts_key (kind y)) _ (any_key_starts x (coded p c) y n i h).0)

  async_rest : (ts : Input) (k : List ℕ) (st : Bool) (m w : Input) (j : List ℕ) (V : Tree × State Input → Type 0) (Q : Type 0) → kind m ≡ async_kind → rest m ≡ w → brk w ≡ false → (starts_key (kind w) || (kind w == mul_kind)) ≡ true
      → Reads (from w j) (generator_member lm z.inner c (lo ts) st true (from w j)) V Q → Reads (from m j) (member_rest lm z.inner c (lo ts) st (from m j)) V Q
  unfolding member_rest
  async_rest ts k st m w j V Q e q b f v = if_no (kind m == mul_kind) _ _ V Q (subst (λ (n : ℕ). eqb n mul_kind ≡ false) (sym e) refl)
      (if_yes (is_async_head lm z.inner (from m j)) _ _ V Q (and_from (kind m == async_kind) _ (eq-eqb (kind m) async_kind e) (subst (λ (d : Input). ((starts_key (kind d) || (kind d == mul_kind)) && not (brk d)) ≡ true) (sym q) (and_from _ _ f (ap not b))))
      (onto m w j (λ d. generator_member lm z.inner c (lo ts) st true d) V Q q v))

  star_rest : (ts : Input) (k : List ℕ) (st : Bool) (m : Input) (j : List ℕ) (V : Tree × State Input → Type 0) (Q : Type 0) → kind m ≡ mul_kind → Reads (from m j) (generator_member lm z.inner c (lo ts) st false (from m j)) V Q → Reads (from m j) (member_rest lm z.inner c (lo ts) st (from m j)) V Q
  unfolding member_rest
  star_rest ts k st m j V Q e v = if_yes (kind m == mul_kind) _ _ V Q (eq-eqb (kind m) mul_kind e) v

  module _ (ts : Input) (k : List ℕ) (st : Bool) (s : Span) (x : Tree) (i1 : (is_key x || is_private x) ≡ true) (gx : Within z.Covered x) where
    plain_rested : (t : Span) (ps ds : Trees) (b : Tree) (g a : Bool) (m w y n r : Input) → (constructs x && (not st && (not g && not a))) ≡ false → Within z.Covered (function t ps ds b g a) → Async a (coded p c) m w → Star g (coded p c) w y → Produces x (coded p c) y n
        → Produces (function t ps ds b g a) (setting false (coded p c)) n r → t ≡ span (lo ts) r.last → s ≡ span (lo ts) r.last → Rested ts k st (method_tree lm z.inner s x (function t ps ds b g a) plain_method st) m r (z.depth < max (within z.reach x) (within z.reach (function t ps ds b g a)))
    plain_rested t ps ds b g true m w y n r q f u v h o e d = record {
      first = or_left (starts_key (kind m)) _ (subst (λ (n : ℕ). starts_key n ≡ true) (sym u.0.0) refl);
      apart = λ _ l. no_static m async_kind l u.0.0 refl;
      read = λ j. async_rest ts k st m w j _ _ u.0.0 u.0.3 u.1 (generator_first g x w y n v i1 h) (starred ts k st r _ _ g true x w y j v i1 n gx h (λ le. omega arith) (λ l. lifted (method_end ts k st s x t ps ds b g true n r l q f o e d) (λ le. omega arith)));
    }
    plain_rested t ps ds b true false m w y n r q f u v h o e d = let v2 : Star true (coded p c) m y = subst (λ (d : Input). Star true (coded p c) d y) (sym u) v in
        record {
          first = or_right (starts_key (kind m)) _ (eq-eqb (kind m) mul_kind v2.0);
          apart = λ _ l. no_static m mul_kind l v2.0 refl;
          read = λ j. star_rest ts k st m j _ _ v2.0 (starred ts k st r _ _ true false x m y j v2 i1 n gx h (λ le. omega arith) (λ l. lifted (method_end ts k st s x t ps ds b true false n r l q f o e d) (λ le. omega arith)));
        }
    plain_rested t ps ds b false false m w y n r q f u v h o e d = let h2 : Produces x (coded p c) m n = subst (λ (d : Input). Produces x (coded p c) d n) (sym (u ∙ v)) h in let q2 = opens_paren t ps ds b false false n r o in
        key_rested ts k st (method_tree lm z.inner s x (function t ps ds b false false) plain_method st) x m n r _ i1 h2 (plain_at st m n left_paren_kind q2 refl refl refl)
        (λ j. as_method ts k st x m n r j _ _ i1 gx h2 q2 (λ le. omega arith) (λ l. lifted (method_end ts k st s x t ps ds b false false n r l q f o e d) (λ le. omega arith)))

    constructor_rested : (ps : Trees) (q : Span) (ss : Trees) (m y n r : Input) → (constructs x && (not st && true)) ≡ true → Withins z.Covered ps → z.Covered (block_stmt q ss) → Produces x (coded p c) m y → Parameters (in_body false false (coded p c)) (children ps) y n → Body (in_body false false (coded p c)) q (children ss) n r → s ≡ span (lo ts) r.last
        → Rested ts k st (constructor s x ps (block_stmt q ss)) m r (z.depth < max (within z.reach x) (max (withins z.reach ps) (z.reach (block_stmt q ss))))
    constructor_rested ps q ss m y n r w gp gb h hp hb e = key_rested ts k st (constructor s x ps (block_stmt q ss)) x m y r _ i1 h (plain_at st m y left_paren_kind hp.1.0 refl refl refl)
        (λ j. as_method ts k st x m y r j _ _ i1 gx h hp.1.0 (λ le. omega arith) (λ l. lifted (constructor_end ts k st s x s ps q ss y n r l w gp gb hp hb e) (λ le. omega arith)))

    field_rested : (v : Tree) (m y r : Input) → z.Covered v → Produces x (coded p c) m y → Initial (coded p c) (field_end st (kind m)) (child v (λ y. Produces v y)) y r → s ≡ span (lo ts) r.last → Rested ts k st (if is_private x then private_prop s x v st none else class_prop s x v st none) m r (z.depth < max (within z.reach x) (z.reach v))
    field_rested v m y r g h t e = key_rested ts k st (if is_private x then private_prop s x v st none else class_prop s x v st none) x m y r _ i1 h (plain_field p c st v m y r t).0 (λ j. as_field ts k st s x v m y r j i1 gx g h t e)

    -- ---- getters, setters and accessors

    getter_read : (t q : Span) (ds ss : Trees) (m y n r : Input) (j : List ℕ) → z.Covered (block_stmt q ss) → kind m ≡ get_kind → rest m ≡ y → Produces x (coded p c) y n → Produces (function t none ds (block_stmt q ss) false false) (setting false (coded p c)) n r → t ≡ span (lo ts) r.last → s ≡ span (lo ts) r.last
        → Reads (from m j) (member_rest lm z.inner c (lo ts) st (from m j)) (Is (method_tree lm z.inner s x (function t none ds (block_stmt q ss) false false) get_kind st) r) (z.depth < max (within z.reach x) (z.reach (block_stmt q ss)))
    unfolding member_rest class_getter
    getter_read t q ds ss m y n r j g e u h o d v = if_no (kind m == mul_kind) _ _ _ _ (is_no mul_kind refl) (if_no (is_async_head lm z.inner (from m j)) _ _ _ _ (and_left (kind m == async_kind) _ (is_no async_kind refl))
        (if_yes ((kind m == get_kind) && starts_key (kind2 m)) _ _ _ _ (and_from (kind m == get_kind) _ (eq-eqb (kind m) get_kind e) (subst (λ (d : Input). starts_key (kind d) ≡ true) (sym u) (any_key_starts x (coded p c) y n i1 h).0))
        (then_past m y j (class_key lm z.inner c) _ x n (z.depth < within z.reach x) _ _ u (any_key_found z p c x y n j i1 gx h) (λ le. omega arith) (λ l. then_eat left_paren_kind n o.2.0 l _ _ _ o.2.1.0 o.2.1.2 (then_eat right_paren_kind o.2.0 o.0 l _ _ _ o.2.2.0 o.2.2.2
        (then_is (z.inner.body (in_body false false c) (from o.0 l)) _ (block_stmt q ss) r (z.depth < z.reach (block_stmt q ss)) _ _ (z.body q ss p (in_body false false c) o.0 r l g o.3) (λ le. omega arith)
        (λ w. here (ap (λ (y : Span). method_tree lm z.inner y x (function (span (lo ts) r.last) none none (block_stmt q ss) false false) get_kind st) (sym v) ∙ ap (λ (y : Span). method_tree lm z.inner s x (function y none none (block_stmt q ss) false false) get_kind st) (sym d)
        ∙ ap (λ (y : Trees). method_tree lm z.inner s x (function t none y (block_stmt q ss) false false) get_kind st) (sym (empty_none ds o.1))))))))))
      where
        is_no : (n : ℕ) → eqb get_kind n ≡ false → eqb (kind m) n ≡ false
        is_no n w = subst (λ (d : ℕ). eqb d n ≡ false) (sym e) w

    setter_read : (t q : Span) (a : Tree) (ds ss : Trees) (m y n r : Input) (j : List ℕ) → Within z.Covered a → z.Covered (block_stmt q ss) → kind m ≡ set_kind → rest m ≡ y → Produces x (coded p c) y n → Produces (function t (more a none) ds (block_stmt q ss) false false) (setting true (coded p c)) n r → t ≡ span (lo ts) r.last → s ≡ span (lo ts) r.last
        → Reads (from m j) (member_rest lm z.inner c (lo ts) st (from m j)) (Is (method_tree lm z.inner s x (function t (more a none) ds (block_stmt q ss) false false) set_kind st) r) (z.depth < max (within z.reach x) (max (within z.reach a) (z.reach (block_stmt q ss))))
    unfolding member_rest class_setter
    setter_read t q a ds ss m y n r j ga g e u h o d v = if_no (kind m == mul_kind) _ _ _ _ (is_no mul_kind refl) (if_no (is_async_head lm z.inner (from m j)) _ _ _ _ (and_left (kind m == async_kind) _ (is_no async_kind refl))
        (if_no ((kind m == get_kind) && starts_key (kind2 m)) _ _ _ _ (and_left (kind m == get_kind) _ (is_no get_kind refl))
        (if_yes ((kind m == set_kind) && starts_key (kind2 m)) _ _ _ _ (and_from (kind m == set_kind) _ (eq-eqb (kind m) set_kind e) (subst (λ (d : Input). starts_key (kind d) ≡ true) (sym u) (any_key_starts x (coded p c) y n i1 h).0))
        (then_past m y j (class_key lm z.inner c) _ x n (z.depth < within z.reach x) _ _ u (any_key_found z p c x y n j i1 gx h) (λ le. omega arith)
        (λ l. then_is (setter_parameter lm z.inner (in_body false false c) (from n l)) _ a o.0 (z.depth < within z.reach a) _ _ (setter_found z p (in_body false false c) a n o.2.0 o.2.1 o.0 l o.2.5.0 o.2.3 ga o.2.4 o.2.5.1 o.2.6) (λ le. omega arith)
        (λ f. then_is (z.inner.body (in_body false false c) (from o.0 f)) _ (block_stmt q ss) r (z.depth < z.reach (block_stmt q ss)) _ _ (z.body q ss p (in_body false false c) o.0 r f g o.3) (λ le. omega arith)
        (λ w. here (ap (λ (y : Span). method_tree lm z.inner y x (function (span (lo ts) r.last) (more a none) none (block_stmt q ss) false false) set_kind st) (sym v) ∙ ap (λ (y : Span). method_tree lm z.inner s x (function y (more a none) none (block_stmt q ss) false false) set_kind st) (sym d)
        ∙ ap (λ (y : Trees). method_tree lm z.inner s x (function t (more a none) y (block_stmt q ss) false false) set_kind st) (sym (empty_none ds o.1))))))))))
      where
        is_no : (n : ℕ) → eqb set_kind n ≡ false → eqb (kind m) n ≡ false
        is_no n w = subst (λ (d : ℕ). eqb d n ≡ false) (sym e) w

    accessor_read : (v : Tree) (ds : Trees) (m y n r : Input) (j : List ℕ) → z.Covered v → c.syntax.auto_accessors ≡ true → IsEmpty (children ds) → kind m ≡ accessor_kind → rest m ≡ y → brk y ≡ false → Produces x (coded p c) y n → Initial (coded p c) key_end (child v (λ y. Produces v y)) n r → s ≡ span (lo ts) r.last
        → Reads (from m j) (member_rest lm z.inner c (lo ts) st (from m j)) (Is (auto_accessor s x v st ds) r) (z.depth < max (within z.reach x) (z.reach v))
    unfolding member_rest accessor_by
    accessor_read v ds m y n r j g on em e u b h t w = if_no (kind m == mul_kind) _ _ _ _ (is_no mul_kind refl) (if_no (is_async_head lm z.inner (from m j)) _ _ _ _ (and_left (kind m == async_kind) _ (is_no async_kind refl))
        (if_no ((kind m == get_kind) && starts_key (kind2 m)) _ _ _ _ (and_left (kind m == get_kind) _ (is_no get_kind refl)) (if_no ((kind m == set_kind) && starts_key (kind2 m)) _ _ _ _ (and_left (kind m == set_kind) _ (is_no set_kind refl))
        (if_yes (c.syntax.auto_accessors && ((kind m == accessor_kind) && (starts_key (kind2 m) && not (brk2 m)))) _ _ _ _ (and_from c.syntax.auto_accessors _ on (and_from (kind m == accessor_kind) _ (eq-eqb (kind m) accessor_kind e)
        (subst (λ (d : Input). (starts_key (kind d) && not (brk d)) ≡ true) (sym u) (and_from _ _ (any_key_starts x (coded p c) y n i1 h).0 (ap not b)))))
        (then_past m y j (class_key lm z.inner c) _ x n (z.depth < within z.reach x) _ _ u (any_key_found z p c x y n j i1 gx h) (λ le. omega arith)
        (λ l. then_is (field_value lm z.inner c key_end (from n l)) _ v r (z.depth < z.reach v) _ _ (value_found key_end v n r l g (λ d. unset_key p c n r d) t) (λ le. omega arith)
        (λ f. here (ap (λ (y : Span). auto_accessor y x v st none) (sym w) ∙ ap (λ (y : Trees). auto_accessor s x v st y) (sym (empty_none ds em))))))))))
      where
        is_no : (n : ℕ) → eqb accessor_kind n ≡ false → eqb (kind m) n ≡ false
        is_no n w = subst (λ (d : ℕ). eqb d n ≡ false) (sym e) w

  -- ---- members

  count_none : (ps : Trees) → count_of ps ≡ 0 → ps ≡ none
  count_none none h = refl
  count_none (more x xs) h = absurd (omega (arith, h))

  tree_plain : (s : Span) (x f : Tree) (k : ℕ) (st : Bool) → is_private x ≡ false → method_tree lm z.inner s x f k st ≡ class_method s x f k st
  tree_plain s x f k st h = rw h refl

  tree_private : (s : Span) (x f : Tree) (k : ℕ) (st : Bool) → is_private x ≡ true → method_tree lm z.inner s x f k st ≡ private_method s x f k st
  tree_private s x f k st h = rw h refl

  get_rested : (ts : Input) (k : List ℕ) (st : Bool) (s : Span) (x : Tree) (t : Span) (ps ds : Trees) (b : Tree) (m y n r : Input) → (is_key x || is_private x) ≡ true → Within z.Covered x → Within z.Covered (function t ps ds b false false) → count_of ps ≡ 0 → kind m ≡ get_kind → rest m ≡ y → Produces x (coded p c) y n
      → Produces (function t ps ds b false false) (setting false (coded p c)) n r → t ≡ span (lo ts) r.last → s ≡ span (lo ts) r.last → Rested ts k st (method_tree lm z.inner s x (function t ps ds b false false) get_kind st) m r (z.depth < max (within z.reach x) (within z.reach (function t ps ds b false false)))
  get_rested ts k st s x t none ds (block_stmt q ss) m y n r i gx g cz e u h o d v = record {
    first = or_left (starts_key (kind m)) _ (subst (λ (n : ℕ). starts_key n ≡ true) (sym e) refl);
    apart = λ _ l. no_static m get_kind l e refl;
    read = λ j. lifted (getter_read ts k st s x i gx t q ds ss m y n r j g.1 e u h o d v) (λ le. omega arith);
  }
  get_rested ts k st s x t none ds b m y n r i gx g cz e u h o d v = absurd o
  get_rested ts k st s x t (more a as_) ds b m y n r i gx g cz e u h o d v = absurd (omega (arith, cz))

  set_rested : (ts : Input) (k : List ℕ) (st : Bool) (s : Span) (x : Tree) (t : Span) (ps ds : Trees) (b : Tree) (m y n r : Input) → (is_key x || is_private x) ≡ true → Within z.Covered x → Within z.Covered (function t ps ds b false false) → kind m ≡ set_kind → rest m ≡ y → Produces x (coded p c) y n
      → Produces (function t ps ds b false false) (setting true (coded p c)) n r → t ≡ span (lo ts) r.last → s ≡ span (lo ts) r.last → Rested ts k st (method_tree lm z.inner s x (function t ps ds b false false) set_kind st) m r (z.depth < max (within z.reach x) (within z.reach (function t ps ds b false false)))
  set_rested ts k st s x t (more a none) ds (block_stmt q ss) m y n r i gx g e u h o d v = record {
    first = or_left (starts_key (kind m)) _ (subst (λ (n : ℕ). starts_key n ≡ true) (sym e) refl);
    apart = λ _ l. no_static m set_kind l e refl;
    read = λ j. lifted (setter_read ts k st s x i gx t q a ds ss m y n r j g.0.0 g.1 e u h o d v) (λ le. omega arith);
  }
  set_rested ts k st s x t none ds (block_stmt q ss) m y n r i gx g e u h o d v = absurd o.2
  set_rested ts k st s x t (more a (more a2 as_)) ds (block_stmt q ss) m y n r i gx g e u h o d v = absurd o.2.2
  set_rested ts k st s x t ps ds b m y n r i gx g e u h o d v = absurd o

  -- a method by its kind
  method_rested : (may : Tree → Bool) (ts : Input) (k : List ℕ) (st : Bool) (s : Span) (x : Tree) (t : Span) (ps ds : Trees) (b : Tree) (g a : Bool) (o : ℕ) (r : Input) → (is_key x || is_private x) ≡ true → Within z.Covered x → Within z.Covered (function t ps ds b g a)
      → (h : ClassMethod may (coded p c) s (child x (λ y. Produces x y)) (child (function t ps ds b g a) (λ y. Produces (function t ps ds b g a) y)) (Some (record { span = t; generator = g; async = a; count = count_of ps })) o st ts r)
      → Rested ts k st (method_tree lm z.inner s x (function t ps ds b g a) o st) h.0 r (z.depth < max (within z.reach x) (within z.reach (function t ps ds b g a)))
  method_rested may ts k st s x t ps ds b g a o r i gx gf h = by_cases (o == plain_method) _ _ _ h.4
      (λ e y. let q = eqb-true o plain_method e in subst (λ (o : ℕ). Rested ts k st (method_tree lm z.inner s x (function t ps ds b g a) o st) h.0 r (z.depth < max (within z.reach x) (within z.reach (function t ps ds b g a)))) (sym q)
      (plain_rested ts k st s x i gx t ps ds b g a h.0 y.2.0 y.0 y.1 r (subst (λ (o : ℕ). (constructs x && (not st && ((o == plain_method) && (not g && not a)))) ≡ false) q h.2) gf y.2.1 y.2.2 y.3 y.4 (h.5 ∙ h.6) h.6))
      (λ e y. accessed g a y.3 y.4 gf y.0 y.1 y.2 y.5 y.6 y.7)
    where
      accessed : (g a : Bool) → g ≡ false → a ≡ false → Within z.Covered (function t ps ds b g a) → (m n : Input) → ((o ≡ get_kind) × (count_of ps ≡ 0)) ⊎ (o ≡ set_kind) → TakesWord (coded p c) o h.0 m → Produces x (coded p c) m n → Produces (function t ps ds b g a) (setting (o == set_kind) (coded p c)) n r
          → Rested ts k st (method_tree lm z.inner s x (function t ps ds b g a) o st) h.0 r (z.depth < max (within z.reach x) (within z.reach (function t ps ds b g a)))
      accessed true a eg ea w m n v u d f = absurd (true≢false eg)
      accessed false true eg ea w m n v u d f = absurd (true≢false ea)
      accessed false false eg ea w m n (inl v) u d f = subst (λ (o : ℕ). Rested ts k st (method_tree lm z.inner s x (function t ps ds b false false) o st) h.0 r (z.depth < max (within z.reach x) (within z.reach (function t ps ds b false false)))) (sym v.0)
          (get_rested ts k st s x t ps ds b h.0 m n r i gx w v.1 (u.0 ∙ v.0) u.3 d (subst (λ (o : ℕ). Produces (function t ps ds b false false) (setting (o == set_kind) (coded p c)) n r) v.0 f) (h.5 ∙ h.6) h.6)
      accessed false false eg ea w m n (inr v) u d f = subst (λ (o : ℕ). Rested ts k st (method_tree lm z.inner s x (function t ps ds b false false) o st) h.0 r (z.depth < max (within z.reach x) (within z.reach (function t ps ds b false false)))) (sym v)
          (set_rested ts k st s x t ps ds b h.0 m n r i gx w (u.0 ∙ v) u.3 d (subst (λ (o : ℕ). Produces (function t ps ds b false false) (setting (o == set_kind) (coded p c)) n r) v f) (h.5 ∙ h.6) h.6)

  -- one step, with `static` or without
  unstatic_step : (x : Tree) (acc : List Tree) (ts m r : Input) (k : List ℕ) (P : Type 0) → ts ≡ m → Rested ts k false x m r P → Reads (from ts k) (member_step lm z.inner c acc (from ts k)) (Is (go_on (acc ++ x ∷ [])) r) P
  unfolding member_step
  unstatic_step x acc ts m r k P e w = if_no (kind ts == right_brace_kind) _ _ _ _ (no right_brace_kind refl refl) (if_no (kind ts == semicolon_kind) _ _ _ _ (no semicolon_kind refl refl)
      (if_no (starts_static lm z.inner (from ts k)) _ _ _ _ (subst (λ (d : Input). starts_static lm z.inner (from d k) ≡ false) (sym e) (w.apart refl k))
      (then_is (member_rest lm z.inner c (lo ts) false (from ts k)) _ x r P _ _ (subst (λ (d : Input). Reads (from d k) (member_rest lm z.inner c (lo ts) false (from d k)) (Is x r) P) (sym e) (w.read k)) (λ u. u) (λ l. here refl))))
    where
      no : (n : ℕ) → starts_key n ≡ false → eqb n mul_kind ≡ false → eqb (kind ts) n ≡ false
      no n a b = subst (λ (d : Input). eqb (kind d) n ≡ false) (sym e) (no_kind (λ k. starts_key k || (k == mul_kind)) (kind m) n w.first (or_from (starts_key n) _ a b))

  static_step : (x : Tree) (acc : List Tree) (ts m r : Input) (k : List ℕ) (P : Type 0) → TakesWord (coded p c) static_kind ts m → Rested ts k true x m r P → Reads (from ts k) (member_step lm z.inner c acc (from ts k)) (Is (go_on (acc ++ x ∷ [])) r) P
  unfolding member_step static_by
  static_step x acc ts m r k P t w = if_no (kind ts == right_brace_kind) _ _ _ _ (no right_brace_kind refl) (if_no (kind ts == semicolon_kind) _ _ _ _ (no semicolon_kind refl)
      (if_yes (starts_static lm z.inner (from ts k)) _ _ _ _ (and_from (kind ts == static_kind) _ (eq-eqb (kind ts) static_kind t.0) (subst (λ (d : Input). (starts_key (kind d) || ((kind d == mul_kind) || (kind d == left_brace_kind))) ≡ true) (sym t.3) (wider (starts_key (kind m)) (kind m == mul_kind) (kind m == left_brace_kind) w.first)))
      (then_is _ _ x r P _ _ (then_word c static_kind ts m k _ _ _ t.0 t.1 t.3 (if_no (kind m == left_brace_kind) _ _ _ _ (no_kind (λ k. starts_key k || (k == mul_kind)) (kind m) left_brace_kind w.first refl) (w.read k))) (λ u. u) (λ l. here refl))))
    where
      no : (n : ℕ) → eqb static_kind n ≡ false → eqb (kind ts) n ≡ false
      no n a = subst (λ (d : ℕ). eqb d n ≡ false) (sym t.0) a

      wider : (a b d : Bool) → (a || b) ≡ true → (a || (b || d)) ≡ true
      wider true b d h = refl
      wider false true d h = refl
      wider false false d h = absurd (true≢false (sym h))

  either_step : (st : Bool) (x : Tree) (acc : List Tree) (ts m r : Input) (k : List ℕ) (P : Type 0) → Static st (coded p c) ts m → Rested ts k st x m r P → Reads (from ts k) (member_step lm z.inner c acc (from ts k)) (Is (go_on (acc ++ x ∷ [])) r) P
  either_step true x acc ts m r k P t w = static_step x acc ts m r k P t w
  either_step false x acc ts m r k P t w = unstatic_step x acc ts m r k P t w

  block_step : (s q : Span) (ss : Trees) (acc : List Tree) (ts r : Input) (k : List ℕ) → Each z.Covered ss → Produces (static_block s (block_stmt q ss)) (coded p c) ts r → Reads (from ts k) (member_step lm z.inner c acc (from ts k)) (Is (go_on (acc ++ static_block s (block_stmt q ss) ∷ [])) r) (z.depth < most z.reach ss)
  unfolding member_step static_by
  block_step s q ss acc ts r k g h = if_no (kind ts == right_brace_kind) _ _ _ _ (no right_brace_kind refl) (if_no (kind ts == semicolon_kind) _ _ _ _ (no semicolon_kind refl)
      (if_yes (starts_static lm z.inner (from ts k)) _ _ _ _ (and_from (kind ts == static_kind) _ (eq-eqb (kind ts) static_kind h.2.0) (subst (λ (d : Input). (starts_key (kind d) || ((kind d == mul_kind) || (kind d == left_brace_kind))) ≡ true) (sym h.2.3) (subst (λ (n : ℕ). (starts_key n || ((n == mul_kind) || (n == left_brace_kind))) ≡ true) (sym h.3.0) refl)))
      (then_is _ _ (static_block s (block_stmt q ss)) r (z.depth < most z.reach ss) _ _ (then_word c static_kind ts h.0 k _ _ _ h.2.0 h.2.1 h.2.3 (if_yes (kind h.0 == left_brace_kind) _ _ _ _ (eq-eqb (kind h.0) left_brace_kind h.3.0)
      (then_past h.0 h.1 k (block_rest lm z.inner (in_static c) (lo h.0)) _ (block_stmt q ss) r (z.depth < most z.reach ss) _ _ h.3.2 (rest_found z p (in_static c) h.0 k q ss h.1 r k g h.4 h.5) (λ u. u) (λ j. built (λ y. static_block y (block_stmt q ss)) s ts r j _ h.6)))) (λ u. u) (λ l. here refl))))
    where
      no : (n : ℕ) → eqb static_kind n ≡ false → eqb (kind ts) n ≡ false
      no n a = subst (λ (d : ℕ). eqb d n ≡ false) (sym h.2.0) a

  empty_step : (s : Span) (acc : List Tree) (ts r : Input) (k : List ℕ) (P : Type 0) → Produces (empty_stmt s) (coded p c) ts r → Reads (from ts k) (member_step lm z.inner c acc (from ts k)) (Is (go_on (acc ++ empty_stmt s ∷ [])) r) P
  unfolding member_step
  empty_step s acc ts r k P h = if_no (kind ts == right_brace_kind) _ _ _ _ (subst (λ (n : ℕ). eqb n right_brace_kind ≡ false) (sym h.0.0) refl) (if_yes (kind ts == semicolon_kind) _ _ _ _ (eq-eqb (kind ts) semicolon_kind h.0.0)
      (past_here (ap (λ (y : Span). go_on (acc ++ empty_stmt y ∷ [])) (first_at ts r s h.0.2 h.1)) h.0.2))

  constructs_key : (x : Tree) → constructs x ≡ true → is_key x ≡ true
  constructs_key (ident_name s n) h = refl
  constructs_key (str_lit s u w) h = refl
  constructs_key _ h = absurd (true≢false (sym h))

  member_found : (x : Tree) (acc : List Tree) (ts r : Input) (k : List ℕ) → is_member x ≡ true → Within z.Covered x → Produces x (coded p c) ts r → Reads (from ts k) (member_step lm z.inner c acc (from ts k)) (Is (go_on (acc ++ x ∷ [])) r) (z.depth < within z.reach x)
  member_found (empty_stmt s) acc ts r k i g h = empty_step s acc ts r k _ h
  member_found (static_block s (block_stmt q ss)) acc ts r k i g h = block_step s q ss acc ts r k g h
  member_found (static_block s _) acc ts r k i g h = absurd h
  member_found (constructor s x ps (block_stmt q ss)) acc ts r k i g h = unstatic_step (constructor s x ps (block_stmt q ss)) acc ts ts r k _ refl
      (constructor_rested ts k false s x (or_left (is_key x) _ (constructs_key x h.2)) g.0 ps q ss ts h.0 h.1 r (and_from (constructs x) _ h.2 refl) g.1 g.2 h.3 h.4 h.5 h.6)
  member_found (constructor s x ps _) acc ts r k i g h = absurd h
  member_found (class_method s x (function t ps ds b y a) o st) acc ts r k i g h = either_step st (class_method s x (function t ps ds b y a) o st) acc ts h.0 r k _ h.3
      (subst (λ (d : Tree). Rested ts k st d h.0 r (z.depth < max (within z.reach x) (within z.reach (function t ps ds b y a)))) (tree_plain s x (function t ps ds b y a) o st (key_plain x h.1)) (method_rested is_key ts k st s x t ps ds b y a o r (or_left (is_key x) _ h.1) g.0 g.1 h))
  member_found (class_method s x _ o st) acc ts r k i g h = absurd h
  member_found (private_method s x (function t ps ds b y a) o st) acc ts r k i g h = either_step st (private_method s x (function t ps ds b y a) o st) acc ts h.0 r k _ h.3
      (subst (λ (d : Tree). Rested ts k st d h.0 r (z.depth < max (within z.reach x) (within z.reach (function t ps ds b y a)))) (tree_private s x (function t ps ds b y a) o st h.1) (method_rested is_private ts k st s x t ps ds b y a o r (or_right (is_key x) _ h.1) g.0 g.1 h))
  member_found (private_method s x _ o st) acc ts r k i g h = absurd h
  member_found (class_prop s x v st ds) acc ts r k i g h = either_step st (class_prop s x v st ds) acc ts h.0 r k _ h.4
      (subst (λ (d : Trees). Rested ts k st (class_prop s x v st d) h.0 r (z.depth < max (within z.reach x) (z.reach v))) (sym (empty_none ds h.2)) (subst (λ (b : Bool). Rested ts k st (if b then private_prop s x v st none else class_prop s x v st none) h.0 r (z.depth < max (within z.reach x) (z.reach v))) (key_plain x h.3)
      (field_rested ts k st s x (or_left (is_key x) _ h.3) g.0 v h.0 h.1 r g.1 h.5 h.6 h.7)))
  member_found (private_prop s x v st ds) acc ts r k i g h = either_step st (private_prop s x v st ds) acc ts h.0 r k _ h.4
      (subst (λ (d : Trees). Rested ts k st (private_prop s x v st d) h.0 r (z.depth < max (within z.reach x) (z.reach v))) (sym (empty_none ds h.2)) (subst (λ (b : Bool). Rested ts k st (if b then private_prop s x v st none else class_prop s x v st none) h.0 r (z.depth < max (within z.reach x) (z.reach v))) h.3
      (field_rested ts k st s x (or_right (is_key x) _ h.3) g.0 v h.0 h.1 r g.1 h.5 h.6 h.7)))
  member_found (auto_accessor s x v st ds) acc ts r k i g h = either_step st (auto_accessor s x v st ds) acc ts h.0 r k _ h.5
      (record {
        first = or_left (starts_key (kind h.0)) _ (subst (λ (n : ℕ). starts_key n ≡ true) (sym h.6.0) refl);
        apart = λ _ l. no_static h.0 accessor_kind l h.6.0 refl;
        read = λ j. accessor_read ts k st s x h.8.0 g.0 v ds h.0 h.1 h.2 r j g.1 h.3 h.4 h.6.0 h.6.3 h.7 h.8.1 h.9 h.10;
      })
  member_found _ acc ts r k i g h = absurd (true≢false (sym i))

  member_less : (x : Tree) (ts r : Input) → is_member x ≡ true → Produces x (coded p c) ts r → len r < len ts
  member_less x ts r i h = omega (arith, member_least x i, cut x (coded p c) ts r h)
    where
      member_least : (x : Tree) → is_member x ≡ true → least x ≡ 1
      member_least (script s ss l) h = absurd (true≢false (sym h))
      member_least (es_module s ss l) h = absurd (true≢false (sym h))
      member_least (expr_pat e) h = absurd (true≢false (sym h))
      member_least _ h = refl

  members_end : (acc : List Tree) (ts r : Input) (k : List ℕ) → kind ts ≡ right_brace_kind → rest ts ≡ r → Reads (from ts k) (member_step lm z.inner c acc (from ts k)) (Is (finished acc) r) ⊥
  unfolding member_step
  members_end acc ts r k e q = if_yes (kind ts == right_brace_kind) _ _ _ _ (eq-eqb (kind ts) right_brace_kind e) (past_here refl q)

  members_loop : (xs : Trees) (acc : List Tree) (ts r : Input) (k : List ℕ) (b : ℕ) → Withins z.Covered xs → Members (coded p c) (children xs) ts r → withins z.reach xs ≤ b → Loops (member_step lm z.inner c) acc ts k (Is (acc ++ unpack xs) r) (z.depth < b)
  members_loop none acc ts r k b g h le = loop_end _ _ acc ts r k ⊥ _ _ (members_end acc ts r k h.0 h.2) (λ u. absurd u) (λ l. (sym (append-nil acc), refl))
  members_loop (more x xs) acc ts r k b g h le = loop_on _ _ (acc ++ x ∷ []) ts h.0 k (z.depth < within z.reach x) _ _ (member_found x acc ts h.0 k h.1.0 g.0 h.1.1) (λ u. omega arith) (member_less x ts h.0 h.1.0 h.1.1)
      (λ l. subst (λ ys. Loops (member_step lm z.inner c) (acc ++ x ∷ []) h.0 l (Is ys r) (z.depth < b)) (append_assoc acc (x ∷ []) (unpack xs)) (members_loop xs (acc ++ x ∷ []) h.0 r l b g.1 h.2 (omega arith)))

  members_found : (s : Span) (w : ℕ) (ms : Trees) (x : Tree) (m n r : Input) (k : List ℕ) → Withins z.Covered ms → kind m ≡ left_brace_kind → rest m ≡ n → Members (coded p c) (children ms) n r → s ≡ span w r.last → Reads (from m k) (members_by lm z.inner c w x (from m k)) (Is (class s none ms x) r) (z.depth < withins z.reach ms)
  unfolding members_by
  members_found s w ms x m n r k g e q h v = then_eat left_brace_kind m n k _ _ _ e q (then_is _ _ (unpack ms) r (z.depth < withins z.reach ms) _ _ (looped (member_step lm z.inner c) [] n k (Is (unpack ms) r) _ (members_loop ms [] n r k (withins z.reach ms) g h (omega arith))) (λ u. u)
      (λ j. here (ap (λ (y : Span). class y none (pack (unpack ms)) x) (sym v) ∙ ap (λ (y : Trees). class s none y x) (pack_unpack ms))))

  -- What follows the name of a class is read.
  tail_found : (s : Span) (ms : Trees) (x : Tree) (w : ℕ) (ts r : Input) (k : List ℕ) → Within z.Covered (class s none ms x) → s ≡ span w r.last → Produces (class s none ms x) (coded p c) ts r → Reads (from ts k) (class_tail_by lm z.inner c w (from ts k)) (Is (class s none ms x) r) (z.depth < within z.reach (class s none ms x))
  unfolding class_tail_by
  tail_found s ms x w ts r k g v h = by_cases (is_absent x) _ _ _ h.3
      (λ q y. if_no (kind ts == extends_kind) _ _ _ _ (subst (λ (d : Input). eqb (kind d) extends_kind ≡ false) (sym y) (subst (λ (n : ℕ). eqb n extends_kind ≡ false) (sym h.4.0) refl))
      (subst (λ (d : Tree). Reads (from ts k) (members_by lm z.inner c w absent (from ts k)) (Is (class s none ms d) r) (z.depth < within z.reach (class s none ms x))) (sym (absent_is x q))
      (lifted (members_found s w ms absent ts h.1 r k g.1 (ap (λ (d : Input). kind d) y ∙ h.4.0) (ap (λ (d : Input). rest d) y ∙ h.4.2) h.5 v) (λ u. omega arith))))
      (λ q y. if_yes (kind ts == extends_kind) _ _ _ _ (eq-eqb (kind ts) extends_kind y.1.0) (then_word c extends_kind ts y.0 k _ _ _ y.1.0 y.1.1 y.1.3 (then_is (z.inner.expr c new_level (from y.0 k)) _ x h.0 (z.depth < z.reach x) _ _
      (z.expr x p c 18 y.0 h.0 k g.0 y.2.1 (omega arith) (omega arith) new_asked y.2.0 (halted c (ends x) 18 left_brace_kind h.0 h.4.0 refl refl (λ u. absurd (omega (arith, u, ends_high x y.2.0))) (omega arith))) (λ u. omega arith)
      (λ j. lifted (members_found s w ms x h.0 h.1 r j g.1 h.4.0 h.4.2 h.5 v) (λ u. omega arith)))))

  pub class_tail_found : (t : Tree) (w : ℕ) (ts r : Input) (k : List ℕ) → Within z.Covered t → class_span t ≡ Some (span w r.last) → Produces t (coded p c) ts r → Reads (from ts k) (class_tail_by lm z.inner c w (from ts k)) (Is t r) (z.depth < within z.reach t)
  class_tail_found (class s ds ms x) w ts r k g e h = subst (λ (d : Trees). Reads (from ts k) (class_tail_by lm z.inner c w (from ts k)) (Is (class s d ms x) r) (z.depth < within z.reach (class s d ms x))) (sym (empty_none ds h.2))
      (tail_found s ms x w ts r k g (some_same s (span w r.last) e) (subst (λ (d : Trees). Produces (class s d ms x) (coded p c) ts r) (empty_none ds h.2) h))
    where
      some_same : (a b : Span) → Some a ≡ Some b → a ≡ b
      some_same a b e = ap (λ (o : Option Span). elim o [ None ↦ a | Some y ↦ y ]) e
  class_tail_found _ w ts r k g e h = absurd (subst IsSomeSpan (sym e) tt)
