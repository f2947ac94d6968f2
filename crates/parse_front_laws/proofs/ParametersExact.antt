-- Each complete front of parameters without their parentheses is read: where the code would go on, a longer list does.
use Rattle.std.proofs.Common.{◌≡◌, ◌<◌, ◌≤◌, ◌+◌, inl, inr, ℕ, suc, Bool, true, false, not, ◌&&◌, ◌||◌, ◌==◌, cond, eqb, leb, codes, bytes_eq, List, [], ◌∷◌, ◌++◌, length, refl, sym, ap, ap₂, ◌∙◌, subst, ⊎_elim, true≢false, arith}
use Rattle.std.proofs.lemmas.Bool.{eqb-true, leb-false, and_parts, and_from, or_cases, or_left, or_from, or_parts, not-true, false_from_ne_true}
use Rattle.base_token.specs.Kinds.{comma_kind, assign_kind, question_mark_kind, null_kind, name_kind, dot_dot_dot_kind, left_bracket_kind, right_bracket_kind, left_brace_kind, right_brace_kind, plus_plus_kind, minus_minus_kind, yield_kind, await_kind}
use Rattle.tree_spec.specs.Tree.{Tree, Trees, none, more, list, param, rest_pat, assign_pat, binding_ident, array_pat, object_pat, ident, null_lit, assign_expr, cond_expr, arrow_expr, yield_expr}
use Rattle.tree_nesting.specs.Nesting.{nesting}
use Rattle.grammar_spec.specs.Tokens.Input.{PlacedToken, Input, Code, kind, kind_of, brk, lo, span, text, dots_at, escaped, is_word, always_reserved, strict_reserved, operator_word, no_name, barred, with_in, in_arrow, Takes, TakesName}
use Rattle.grammar_spec.specs.Tokens.Operators.{between, goes_expr}
use Rattle.grammar_spec.specs.Tokens.Shape.{level, ends, is_binding, is_place, is_item_pat, is_param, is_rest, last_tree}
use Rattle.grammar_spec.specs.Expressions.{is_update_op}
use Rattle.grammar_spec.specs.Grammar.{Produces, children}
use Rattle.grammar_laws.proofs.context.Placed.{move}
use Rattle.grammar_spec.specs.Reader.Reading.{readers}
use Rattle.grammar_laws.specs.CompleteBase.Laws.{coded, patterned, InOrder}
use Rattle.grammar_laws.proofs.complete_base.Yields.{lm}
use Rattle.grammar_laws.proofs.complete_base.Trees.{covered, size, sizes, no_kind}
use Rattle.grammar_laws.proofs.complete_rules.Finds.{lasts}
use Rattle.grammar_laws.proofs.complete_rules.Lists.{two_asked}
use Rattle.grammar_laws.proofs.complete.Tied.{known, complete}
use Rattle.grammar_laws.proofs.Shapes.{update_op}
use Rattle.parse_source_laws.specs.Ahead.{at_list}
use Rattle.parse_front_laws.specs.Complete.Laws.{input_at, EndsAt, EndsBefore, IsComplete, Expression}
use Rattle.parse_front_laws.specs.Complete.Exact.{goes_after, Stopped}
use Rattle.parse_front_laws.specs.Complete.Asyncs.{names_next, takes_name, Worded}
use Rattle.parse_front_laws.proofs.complete.Fronts.{halves}
use Rattle.parse_front_laws.proofs.complete.Cut.{cut, cut_here}
use Rattle.parse_front_laws.proofs.complete.Alone.{behind, cut_end, operand}
use Rattle.parse_front_laws.proofs.complete.Onto.{Mild, Onto, onto}
use Rattle.parse_front_laws.proofs.complete.Longer.{mark, onward, onward_mild, onward_order, level_of, NoLonger, bounded, bounded_leads}
use Rattle.parse_front_laws.proofs.complete.Updates.{no_update}
use Rattle.parse_front_laws.proofs.complete.Exact.{still, still_leads, update_goes}
use Rattle.parse_front_laws.proofs.complete.Asyncs.{order_with}
use Rattle.parse_alone.specs.Ends.{initial_of}
use Rattle.parse_alone.specs.Parts.{bare_by}
use Rattle.parse_front_laws.specs.Parameters.{ParameterList, Parameters, ParametersStop, ParametersExact, ParametersStandAlone}
use Rattle.parse_front_laws.proofs.Ahead.{Bare}
use Rattle.parse_front_laws.proofs.Found.{starts, FitsParam, Knows}
use Rattle.parse_front_laws.proofs.Parameters.{of_list, IsListed, listed_by, closed_knows, takes_in}

-- ---- the initialiser of the last one

abbrev Stops : Code → Input → Tree → Type 0
Stops c r x = (o : Input) → Expression false 2 (with_in c) (initial_of x) o r → Stopped 2 (with_in c) (initial_of x) r

abbrev LastStops : Code → Input → Trees → Type 0
LastStops c r none = Unit {0}
LastStops c r (more x none) = Stops c r x
LastStops c r (more x (more y ys)) = LastStops c r (more y ys)

stops_behind : (c : Code) (r : Input) (x : Tree) (xs : Trees) → LastStops c r (more x xs) → LastStops c r xs
stops_behind c r x none h = tt
stops_behind c r x (more y ys) h = h

all_stop : (c : Code) (r : Input) (xs : Trees) → Stops c r (last_tree xs) → LastStops c r xs
all_stop c r none h = tt
all_stop c r (more x none) h = h
all_stop c r (more x (more y ys)) h = all_stop c r (more y ys) h

-- ---- before `?`

no_start : (k : ℕ) (y : Bool) → k ≡ question_mark_kind → ((is_word k && y) || ((k == left_bracket_kind) || ((k == left_brace_kind) || (k == dot_dot_dot_kind)))) ≡ false
no_start k y e = subst (λ (m : ℕ). ((is_word m && y) || ((m == left_bracket_kind) || ((m == left_brace_kind) || (m == dot_dot_dot_kind)))) ≡ false) (sym e) refl

asked_stops : (c : Code) (e : ℕ) (r : Input) → kind r ≡ question_mark_kind → goes_after c e r < 2 → goes_expr c e r < 2
asked_stops c e r k h = subst (λ (b : Bool). cond b 0 (goes_expr c e r) < 2) (ap (λ (m : ℕ). between plus_plus_kind minus_minus_kind m) k) h

asked_fits : (z d : ℕ) (c : Code) (x : Tree) (ts r : Input) → c.context.in_generator ≡ false → kind r ≡ question_mark_kind → Stops c r x → FitsParam (complete z d) c x ts r
asked_fits z d c (param s ds (assign_pat t a e)) ts r calm k w = λ m o j b v le h.
    lasts (suc (size e)) d (λ i. (known (suc (size e))).comes i) still still_leads e false (with_in c) 2 o r j (omega arith) (covered e) h (omega arith) (omega arith) two_asked le (asked_stops (with_in c) (ends e) r k (w o (le, h))) (record { calm = calm; question = k })
asked_fits z d c (param s ds (rest_pat t u a)) ts r calm k w = tt
asked_fits z d c (param s ds a) ts r calm k w = λ b h. ap (λ (m : ℕ). eqb m assign_kind) k
asked_fits z d c _ ts r calm k w = tt

asked_knows : (z d : ℕ) (c : Code) (b : Bool) (r : Input) → c.context.in_generator ≡ false → kind r ≡ question_mark_kind → Knows (complete z d) c b r (λ xs ts. LastStops c r xs)
asked_knows z d c b r calm k = record {
  next = λ x xs ts m o t i e h v. stops_behind c r x xs t;
  final = λ x ts t i g h. asked_fits z d c x ts r calm k t;
  alone = λ x ts t i h. ap (λ (m : ℕ). (m == comma_kind) && not (is_rest x)) k;
  ended = λ e ts t h. no_start (kind r) _ k;
}

-- ---- before another token

module _ (q : PlacedToken) (beyond : List PlacedToken) (plain : eqb q.spot.token.kind question_mark_kind ≡ false) (c : Code) where
  -- no parameters are derived of a whole list that goes on with the token
  abbrev NoneLonger : Input → Type 0
  NoneLonger ts = (spec : List PlacedToken) (mi : Mild spec) → InOrder q.spot.hi spec → (o : Input) → Onto q beyond spec mi plain ts o → (us : Trees) (e : Input) → e.places ≡ [] → ParameterList (coded false c) (children us) o e → ⊥

  none_behind : (x : Tree) (ts m n : Input) → NoneLonger ts → is_param x ≡ true → is_rest x ≡ false → Produces x (coded false c) ts m → Takes (coded false c) comma_kind m n → NoneLonger n
  none_behind x ts m n w i e h t spec mi g o k us u empty v =
      let kin = onto q beyond spec mi plain in let z = kin.take (coded false c) comma_kind m n o t k in let y = move false kin x (coded false c) ts m z.0 h z.1 in
      w spec mi g y.0 y.1 (more x us) u empty (z.0, (i, y.2), inl (e, o, z.2, v))

  none_value : (a : Tree) (ts m n : Input) → NoneLonger ts → is_place true a ≡ true → Produces a (patterned false (with_in c)) ts m → Takes (patterned false (with_in c)) assign_kind m n → NoLonger q beyond plain 2 (with_in c) n
  none_value a ts m n w b v t o k u e empty lv x =
      let kin = onto q beyond (onward q) (onward_mild q) plain in let z = kin.take (patterned false (with_in c)) assign_kind m n o t k in let y = move false kin a (patterned false (with_in c)) ts m z.0 v z.1 in
      let g = span (lo y.0) e.last in
      w (onward q) (onward_mild q) (onward_order q) y.0 y.1 (more (param g none (assign_pat g a u)) none) e empty (e, (refl, (tt, b, (z.0, o, b, y.2, z.2, (level_of 2 u (omega arith) lv, x), refl), refl)), inr (tt, refl))

  module _ (r : Input) (there : r.places ≡ q ∷ beyond) where
    kind_is : kind r ≡ q.spot.token.kind
    kind_is = ap kind_of there

    at_rest : (spec : List PlacedToken) (mi : Mild spec) → Onto q beyond spec mi plain r (input_at r.last (q ∷ spec))
    at_rest spec mi = record { last = refl; front = []; left = there; right = refl }

    -- `++` and `--` go on
    value_stops : (e : Tree) (o : Input) → NoLonger q beyond plain 2 (with_in c) o → 2 ≤ level e → Produces e (coded false (with_in c)) o r → goes_after (with_in c) (ends e) r < 2 → goes_expr (with_in c) (ends e) r < 2
    value_stops e o w le h s = by_kind (between plus_plus_kind minus_minus_kind (kind r)) refl s
      where
        by_class : (x y z : Bool) → leb 2 (ends e) ≡ x → leb 1 (ends e) ≡ y → brk r ≡ z → is_update_op (kind r) ≡ true → cond x 0 (cond y 0 (cond z 0 17)) < 2
        by_class true y z i j k up = omega arith
        by_class false true z i j k up = omega arith
        by_class false false true i j k up = omega arith
        by_class false false false i j k up = absurd (no_update q beyond plain false r there up k e (with_in c) 2 o w (omega arith) (inl le) (omega (arith, le)) (omega (arith, leb-false 1 (ends e) j)) h)

        by_kind : (x : Bool) → between plus_plus_kind minus_minus_kind (kind r) ≡ x → cond x 0 (goes_expr (with_in c) (ends e) r) < 2 → goes_expr (with_in c) (ends e) r < 2
        by_kind false i s = s
        by_kind true i s = let up = update_op (kind r) i in subst (λ (m : ℕ). m < 2) (sym (update_goes (with_in c) (ends e) r up)) (by_class (leb 2 (ends e)) (leb 1 (ends e)) (brk r) refl refl refl up)

    -- an initialiser goes on
    no_value : (a : Tree) (ts : Input) → NoneLonger ts → is_binding a ≡ true → Produces a (patterned false (with_in c)) ts r → eqb (kind r) assign_kind ≡ true → ⊥
    no_value a ts w i v k =
        let spec = mark q null_kind q.spot.hi ∷ [] in let mi : Mild spec = (refl, refl) in let o = input_at r.last (q ∷ spec) in let e = input_at (q.spot.hi + 1) [] in
        let y = move false (onto q beyond spec mi plain) a (patterned false (with_in c)) ts r o v (at_rest spec mi) in let g = span (lo y.0) e.last in let b = ap (λ z. z || false) i in
        w spec mi (omega arith, omega arith, (λ _. omega arith), tt) y.0 y.1 (more (param g none (assign_pat g a (null_lit (span q.spot.hi e.last)))) none) e refl
        (e, (refl, (tt, b, (o, input_at q.spot.hi spec, b, y.2, (sym kind_is ∙ eqb-true (kind r) assign_kind k, tt, refl), (omega arith, ((refl, refl, tt, refl), refl)), refl), refl)), inr (tt, refl))

    -- a comma goes on
    no_comma : (x : Tree) (ts : Input) → NoneLonger ts → is_param x ≡ true → Produces x (coded false c) ts r → ((kind r == comma_kind) && not (is_rest x)) ≡ true → ⊥
    no_comma x ts w i h k =
        let t = and_parts (kind r == comma_kind) (not (is_rest x)) k in let mi : Mild [] = (refl, refl) in let o = input_at r.last (q ∷ []) in let e = input_at q.spot.hi [] in
        let y = move false (onto q beyond [] mi plain) x (coded false c) ts r o h (at_rest [] mi) in
        w [] mi tt y.0 y.1 (more x none) e refl (o, (i, y.2), inl (not-true (is_rest x) t.1, e, (sym kind_is ∙ eqb-true (kind r) comma_kind t.0, tt, refl), refl))

    -- one more goes on
    one_more : (spec : List PlacedToken) → Mild spec → InOrder q.spot.hi spec → NoneLonger r → (a : Tree) (e : Input) → e.places ≡ [] → is_binding a ≡ true → Produces a (patterned false (with_in c)) (input_at r.last (q ∷ spec)) e → ⊥
    one_more spec mi g w a e empty i v = let o = input_at r.last (q ∷ spec) in w spec mi g o (at_rest spec mi) (more (param (span (lo o) e.last) none a) none) e empty (e, (refl, (tt, item a i, v, refl)), inr (tt, refl))
      where
        item : (a : Tree) → is_binding a ≡ true → is_item_pat true a ≡ true
        item (binding_ident s x) h = refl
        item (array_pat s xs) h = refl
        item (object_pat s xs) h = refl
        item _ h = absurd (true≢false (sym h))

    no_name_there : NoneLonger r → (is_word (kind r) && (not (no_name c.context (kind r)) && not (barred c.context r))) ≡ true → ⊥
    no_name_there w y =
        let na = and_parts (is_word (kind r)) _ y in let nb = and_parts (not (no_name c.context (kind r))) _ na.1 in let o = input_at r.last (q ∷ []) in let e = input_at q.spot.hi [] in let g = span (lo o) e.last in
        let taken : TakesName (patterned false (with_in c)) (text o) o e = (
          subst (λ (k : ℕ). is_word k ≡ true) kind_is na.0,
          subst (λ (k : ℕ). no_name c.context k ≡ false) kind_is (not-true (no_name c.context (kind r)) nb.0),
          subst (λ (v : List PlacedToken). barred c.context (input_at r.last v) ≡ false) there (not-true (barred c.context r) nb.1),
          refl,
          tt,
          refl,
        ) in
        one_more [] (refl, refl) tt w (binding_ident g (ident g (text o))) e refl refl (refl, (taken, refl))

    no_bracket : NoneLonger r → (kind r == left_bracket_kind) ≡ true → ⊥
    no_bracket w k = let spec = mark q right_bracket_kind q.spot.hi ∷ [] in let e = input_at (q.spot.hi + 1) [] in
        one_more spec (refl, refl) (omega arith, omega arith, (λ _. omega arith), tt) w (array_pat (span (lo (input_at r.last (q ∷ spec))) e.last) none) e refl refl (input_at q.spot.hi spec, (sym kind_is ∙ eqb-true (kind r) left_bracket_kind k, tt, refl), (refl, tt, refl), refl)

    no_brace : NoneLonger r → (kind r == left_brace_kind) ≡ true → ⊥
    no_brace w k = let spec = mark q right_brace_kind q.spot.hi ∷ [] in let e = input_at (q.spot.hi + 1) [] in
        one_more spec (refl, refl) (omega arith, omega arith, (λ _. omega arith), tt) w (object_pat (span (lo (input_at r.last (q ∷ spec))) e.last) none) e refl refl (input_at q.spot.hi spec, (sym kind_is ∙ eqb-true (kind r) left_brace_kind k, tt, refl), (refl, tt, refl), refl)

    no_dots : NoneLonger r → (kind r == dot_dot_dot_kind) ≡ true → ⊥
    no_dots w k =
        let spec = mark q name_kind q.spot.hi ∷ [] in let mi : Mild spec = (refl, refl) in let o = input_at r.last (q ∷ spec) in let m = input_at q.spot.hi spec in let e = input_at (q.spot.hi + 1) [] in let g = span (lo o) e.last in let i = span q.spot.hi e.last in
        w spec mi (omega arith, omega arith, (λ _. omega arith), tt) o (at_rest spec mi) (more (param g none (rest_pat g (dots_at (lo o)) (binding_ident i (ident i [])))) none) e refl
        (e, (refl, (tt, refl, (m, (sym kind_is ∙ eqb-true (kind r) dot_dot_dot_kind k, tt, refl), refl, refl, (refl, ((refl, refl, refl, refl, tt, refl), refl)), refl), refl)), inr (tt, refl))

    none_starts : NoneLonger r → starts c r.places ≡ true → ⊥
    none_starts w y = ⊎_elim (λ v. no_name_there w v) (λ v. ⊎_elim (λ u. no_bracket w u) (λ u. ⊎_elim (λ t. no_brace w t) (λ t. no_dots w t) (or_cases (kind r == left_brace_kind) (kind r == dot_dot_dot_kind) u)) (or_cases (kind r == left_bracket_kind) ((kind r == left_brace_kind) || (kind r == dot_dot_dot_kind)) v))
        (or_cases (is_word (kind r) && (not (no_name c.context (kind r)) && not (barred c.context r))) ((kind r == left_bracket_kind) || ((kind r == left_brace_kind) || (kind r == dot_dot_dot_kind))) y)

    exact_fits : (z d : ℕ) (x : Tree) (ts : Input) → c.context.in_generator ≡ false → NoneLonger ts → Stops c r x → is_param x ≡ true → Produces x (coded false c) ts r → FitsParam (complete z d) c x ts r
    exact_fits z d (param s ds (assign_pat t a e)) ts calm w f i p = λ m o j b v le h.
        let none_so = none_value a ts m o w p.1 b v in let stop = f o (le, h) in
        lasts (suc (size e)) d (λ i. (known (suc (size e))).comes i) (bounded q beyond plain) (bounded_leads q beyond plain) e false (with_in c) 2 o r j (omega arith) (covered e) h (omega arith) (omega arith) two_asked le (value_stops e o none_so le h stop)
        (record { fits = inl le; final = none_so; calm = calm; there = there })
    exact_fits z d (param s ds (rest_pat t u a)) ts calm w f i p = tt
    exact_fits z d (param s ds a) ts calm w f i p = λ b h. false_from_ne_true (eqb (kind r) assign_kind) (λ k. no_value a ts w b h k)
    exact_fits z d _ ts calm w f i p = tt

    exact_knows : (z d : ℕ) (b : Bool) → c.context.in_generator ≡ false → Knows (complete z d) c b r (λ xs ts. NoneLonger ts × LastStops c r xs)
    exact_knows z d b calm = record {
      next = λ x xs ts m o t i e h v. (none_behind x ts m o t.0 i e h v, stops_behind c r x xs t.1);
      final = λ x ts t i g h. exact_fits z d x ts calm t.0 t.1 i h;
      alone = λ x ts t i h. false_from_ne_true ((kind r == comma_kind) && not (is_rest x)) (λ k. no_comma x ts t.0 i h k);
      ended = λ e ts t h. false_from_ne_true (starts c r.places) (λ k. none_starts (subst (λ (o : Input). NoneLonger o) h t.0) k);
    }

-- ---- the word `async` at the end

-- a code in whose functions at least the words are names that are here
pub record Wider (d c : Code) : Type 0 where
  pub modular : d.context.module_ ≡ c.context.module_
  pub strict : d.context.strict ≡ c.context.strict

less_await : (b x y m e : Bool) → (b && (x || (y || m))) ≡ false → m ≡ e → (b && (false || (false || e))) ≡ false
less_await true true y m e h i = absurd (true≢false h)
less_await true false true m e h i = absurd (true≢false h)
less_await true false false m e h i = sym i ∙ h
less_await false x y m e h i = refl

no_yield : (a b : Bool) → b ≡ false → ((a && false) || b) ≡ false
no_yield true b h = h
no_yield false b h = h

less_word : (a g b x y m e : Bool) → ((a && g) || (b && (x || (y || m)))) ≡ false → m ≡ e → ((a && false) || (b && (false || (false || e)))) ≡ false
less_word a g b x y m e h i = no_yield a (b && (false || (false || e))) (less_await b x y m e (or_parts (a && g) (b && (x || (y || m))) h).1 i)

module _ (c : Code) (generator : c.context.in_generator ≡ false) (async : c.context.in_async ≡ false) (block : c.context.in_static_block ≡ false) (r : Input) where
  no_word : (d : Code) → Wider d c → (k : ℕ) → no_name d.context k ≡ false → no_name c.context k ≡ false
  no_word d s k h =
      let z = or_parts (always_reserved k) (operator_word d.context k) h in
      or_from (always_reserved k) (operator_word c.context k) z.0
      (subst (λ (g : Bool). (((k == yield_kind) && g) || ((k == await_kind) && (c.context.in_async || (c.context.in_static_block || c.context.module_)))) ≡ false) (sym generator)
      (subst (λ (a : Bool). (((k == yield_kind) && false) || ((k == await_kind) && (a || (c.context.in_static_block || c.context.module_)))) ≡ false) (sym async)
      (subst (λ (b : Bool). (((k == yield_kind) && false) || ((k == await_kind) && (false || (b || c.context.module_)))) ≡ false) (sym block)
      (less_word (k == yield_kind) d.context.in_generator (k == await_kind) d.context.in_async d.context.in_static_block d.context.module_ c.context.module_ z.1 s.modular))))

  not_barred : (d : Code) → Wider d c → no_name d.context (kind r) ≡ false → barred d.context r ≡ false → barred c.context r ≡ false
  not_barred d s n h =
      subst (λ (x : Bool). (escaped r && (x || (strict_reserved (kind r) && c.context.strict))) ≡ false) (sym (no_word d s (kind r) n))
      (subst (λ (y : Bool). (escaped r && (false || (strict_reserved (kind r) && y))) ≡ false) s.strict
      (subst (λ (x : Bool). (escaped r && (x || (strict_reserved (kind r) && d.context.strict))) ≡ false) n h))

  name_there : (d : Code) → Wider d c → names_next d r ≡ true → (is_word (kind r) && (not (no_name c.context (kind r)) && not (barred c.context r))) ≡ true
  name_there d s h =
      let a = and_parts (not (brk r)) (is_word (kind r) && (not (no_name d.context (kind r)) && not (barred d.context r))) h in
      let b = and_parts (is_word (kind r)) (not (no_name d.context (kind r)) && not (barred d.context r)) a.1 in
      let e = and_parts (not (no_name d.context (kind r))) (not (barred d.context r)) b.1 in
      let n = not-true (no_name d.context (kind r)) e.0 in
      and_from (is_word (kind r)) _ b.0 (and_from (not (no_name c.context (kind r))) _ (ap not (no_word d s (kind r) n)) (ap not (not_barred d s n (not-true (barred d.context r) e.1))))

  takes_there : (u : Tree) (d : Code) → Wider d c → takes_name d u r ≡ true → (is_word (kind r) && (not (no_name c.context (kind r)) && not (barred c.context r))) ≡ true
  takes_there (ident s m) d w h = name_there d w (and_parts (bytes_eq m (codes "async")) (names_next d r) h).1
  takes_there (assign_expr s op x b) d w h = takes_there b d w h
  takes_there (cond_expr s x b y) d w h = takes_there y d w h
  takes_there (arrow_expr s xs b i) d w h = takes_there b (in_arrow i d) (record { modular = w.modular; strict = w.strict }) h
  takes_there (yield_expr s x b) d w h = takes_there x d w h
  takes_there _ d w h = absurd (true≢false (sym h))

  -- the last initialiser, whether or not a comma stands behind it
  abbrev LastIs : Tree → Trees → Type 0
  LastIs e none = Unit {0}
  LastIs e (more x none) = initial_of x ≡ e
  LastIs e (more x (more y ys)) = LastIs e (more y ys)

  is_behind : (e x : Tree) (xs : Trees) → LastIs e (more x xs) → LastIs e xs
  is_behind e x none h = tt
  is_behind e x (more y ys) h = h

  is_last : (xs : Trees) → LastIs (initial_of (last_tree xs)) xs
  is_last none = tt
  is_last (more x none) = refl
  is_last (more x (more y ys)) = is_last (more y ys)

  module _ (q : PlacedToken) (beyond : List PlacedToken) (plain : eqb q.spot.token.kind question_mark_kind ≡ false) (there : r.places ≡ q ∷ beyond) where
    last_alone : (x : Tree) (ts : Input) → NoneLonger q beyond plain c ts → Worded ts.places → is_param x ≡ true → Produces x (coded false c) ts r → takes_name c (initial_of x) r ≡ true → ⊥
    last_alone (param s ds (assign_pat t a e)) ts w words i p h =
        let v = p.2 in let k = cut v.1 in let y = k.take (patterned false (with_in c)) assign_kind v.0 v.1 (cut_end v.1) v.4 (cut_here v.1) in let z = move false k a (patterned false (with_in c)) ts v.0 y.0 v.3 y.1 in
        operand q beyond plain false r there e (with_in c) 2 v.1 (none_value q beyond plain c a ts v.0 v.1 w v.2 v.3 v.4) (omega arith) (inl v.5.0) (behind ts v.1 z.0 z.1 words) v.5.1 (takes_in e c r ∙ h)
    last_alone (param s ds _) ts w words i p h = absurd (true≢false (sym h))
    last_alone _ ts w words i p h = absurd (true≢false (sym h))

    all_alone : (e : Tree) → takes_name c e r ≡ true → (b : Bool) (xs : Trees) (ts : Input) → NoneLonger q beyond plain c ts → Worded ts.places → Bare (coded false c) b xs ts r → LastIs e xs → ⊥
    all_alone e h true none ts w words g l = none_starts q beyond plain c r there (subst (λ (o : Input). NoneLonger q beyond plain c o) g w) (or_left _ _ (takes_there e c (record { modular = refl; strict = refl }) h))
    all_alone e h false none ts w words g l = absurd g
    all_alone e h b (more x xs) ts w words g l = ⊎_elim
        (λ v. let k = cut v.1 in let y = k.take (coded false c) comma_kind g.0 v.1 (cut_end v.1) v.2 (cut_here v.1) in let z = move false k x (coded false c) ts g.0 y.0 g.2 y.1 in
        all_alone e h b xs v.1 (none_behind q beyond plain c x ts g.0 v.1 w g.1 v.0 g.2 v.2) (behind ts v.1 z.0 z.1 words) v.3 (is_behind e x xs l))
        (λ v. last_alone x ts w words g.1 (subst (λ (m : Input). Produces x (coded false c) ts m) v.2 g.2) (subst (λ (u : Tree). takes_name c u r ≡ true) (sym (subst (λ (ys : Trees). LastIs e (more x ys)) v.1 l)) h)) g.3

-- ---- the law

module _ (c : Code) (n : ℕ) (ps : List PlacedToken) (xs : Trees) (r : Input) (calm : c.context.in_generator ≡ false) (order : InOrder n ps) (g : Parameters false c (list xs) (input_at n ps) r) (z : IsComplete (Parameters false c) n ps r.places) where
  -- Behind a complete front none is longer.
  pub none_longer : (q : PlacedToken) (beyond : List PlacedToken) (plain : eqb q.spot.token.kind question_mark_kind ≡ false) → r.places ≡ q ∷ beyond → NoneLonger q beyond plain c (input_at n ps)
  none_longer q beyond plain i spec mi h o k us e empty v =
      let f = (halves k.front (q ∷ beyond) z.0 r.places (sym k.left ∙ z.1) (ap (λ w. length w) (sym i))).0 in
      let next : EndsBefore (Parameters false c) n z.0 q = subst (λ w. EndsAt (Parameters false c) n z.0 w) i z.2 in
      let same : o ≡ input_at n (z.0 ++ q ∷ spec) = ap₂ (λ (m : ℕ) (w : List PlacedToken). input_at m w) (sym k.last) (k.right ∙ ap (λ w. w ++ q ∷ spec) f) in
      let kept = subst (λ w. InOrder n w) (k.left ∙ ap (λ w. w ++ q ∷ beyond) f) order in
      omega (arith, next spec (list us) e (order_with q beyond spec n z.0 h kept) (subst (λ (w : Input). Parameters false c (list us) w e) same v), ap (λ w. length w) empty)

  module _ (async : c.context.in_async ≡ false) (block : c.context.in_static_block ≡ false) (words : Worded ps) where
    name_goes : (l : List PlacedToken) → r.places ≡ l → takes_name c (initial_of (last_tree xs)) r ≡ true → ⊥
    name_goes l i h = by_list l i (and_parts (is_word (kind r)) _ (takes_there c calm async block r (initial_of (last_tree xs)) c (record { modular = refl; strict = refl }) h)).0
      where
        by_list : (l : List PlacedToken) → r.places ≡ l → is_word (kind r) ≡ true → ⊥
        by_list [] i w = true≢false (sym w ∙ ap (λ v. is_word (kind_of v)) i)
        by_list (q ∷ beyond) i w =
            let word : is_word q.spot.token.kind ≡ true = sym (ap (λ v. is_word (kind_of v)) i) ∙ w in let j = no_kind is_word q.spot.token.kind question_mark_kind word refl in
            let b = of_list (coded false c) xs (input_at n ps) r g in
            all_alone c calm async block r q beyond j i (initial_of (last_tree xs)) h b.0 xs (input_at n ps) (none_longer q beyond j i) words b.1 (is_last c calm async block r xs)

    pub stands_alone : takes_name c (initial_of (last_tree xs)) r ≡ false
    stands_alone = false_from_ne_true (takes_name c (initial_of (last_tree xs)) r) (λ h. name_goes r.places refl h)

  module _ (d : ℕ) (deep : nesting (list xs) ≤ d) (stop : ParametersStop c xs r) where
    derived : (b : Bool) × Bare (coded false c) b xs (input_at n ps) r
    derived = of_list (coded false c) xs (input_at n ps) r g

    before : (q : PlacedToken) (beyond : List PlacedToken) → r.places ≡ q ∷ beyond → (b : Bool) → eqb q.spot.token.kind question_mark_kind ≡ b → IsListed (bare_by lm (readers lm d) c (at_list n ps [])) xs r
    before q beyond i true j = listed_by c d n ps derived.0 xs r (λ ys ts. LastStops c r ys) (asked_knows (suc (sizes xs)) d c derived.0 r calm (ap kind_of i ∙ eqb-true q.spot.token.kind question_mark_kind j)) deep order derived.1 (all_stop c r xs stop)
    before q beyond i false j = listed_by c d n ps derived.0 xs r (λ ys ts. NoneLonger q beyond j c ts × LastStops c r ys) (exact_knows q beyond j c r i (suc (sizes xs)) d derived.0 calm) deep order derived.1 (none_longer q beyond j i, all_stop c r xs stop)

    by_rest : (l : List PlacedToken) → r.places ≡ l → IsListed (bare_by lm (readers lm d) c (at_list n ps [])) xs r
    by_rest [] i = listed_by c d n ps derived.0 xs r (λ ys ts. Unit {0}) (subst (λ (v : List PlacedToken). Knows (complete (suc (sizes xs)) d) c derived.0 (input_at r.last v) (λ ys ts. Unit {0})) (sym i) (closed_knows (suc (sizes xs)) d c derived.0 r.last [])) deep order derived.1 tt
    by_rest (q ∷ beyond) i = before q beyond i (eqb q.spot.token.kind question_mark_kind) refl

pub parameters_exact : ParametersExact
parameters_exact c d n ps xs r calm deep order g z stop = by_rest c n ps xs r calm order g z d deep stop r.places refl

pub parameters_stand_alone : ParametersStandAlone
parameters_stand_alone c n ps xs r calm async block words order g z = stands_alone c n ps xs r calm order g z async block words
