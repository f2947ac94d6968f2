-- Where a statement takes the token that follows it, a `finally` behind a `try` or a colon behind a name, a longer list goes on with it: behind the statement
-- that ends there, and so behind each around it. So before a token with which no list goes on, each statement ends there.
use Rattle.std.proofs.Common.{◌≡◌, ◌+◌, ℕ, Bool, true, false, not, ◌&&◌, ◌==◌, eqb, List, [], ◌∷◌, ◌++◌, inl, inr, refl, sym, ap, ◌∙◌, subst, true≢false, arith}
use Rattle.std.proofs.lemmas.Bool.{eqb-true, and_parts, and_right, or_left, not-true}
use Rattle.base_proofs.proofs.Bools.{cond_second, cond_first}
use Rattle.base_token.specs.declared.context.Context.{Context}
use Rattle.base_token.specs.declared.place.Span.{Span}
use Rattle.base_token.specs.Kinds.{finally_kind, colon_kind, semicolon_kind, else_kind, if_kind, while_kind, with_kind, try_kind, in_kind, of_kind, right_paren_kind, right_brace_kind, question_mark_kind}
use Rattle.tree_spec.specs.Tree.{Tree, Trees, none, ident, absent, block_stmt, empty_stmt, try_stmt, expr_stmt, if_stmt, while_stmt, with_stmt, labeled_stmt, for_stmt, for_in_stmt, for_of_stmt, var_decl, using_decl, class_decl, fn_decl, export_decl}
use Rattle.grammar_spec.specs.Tokens.Input.{PlacedToken, Input, Code, kind, kind_of, lo, hi_of, others, span, alone, barred, without_in, TakesWord}
use Rattle.grammar_spec.specs.Tokens.Operators.{assignment_level, expression_level}
use Rattle.grammar_spec.specs.Tokens.Shape.{is_absent, is_statement, is_block, is_catch, is_exportable}
use Rattle.grammar_spec.specs.Children.{is_ident, Child, child, Sorted, By, Ends}
use Rattle.grammar_spec.specs.Statements.{Sub, SubOrFunction, While, With, Labelled, If, ForRest, ForExpression, ForVariables, ForUsing, ForIn, ForOf, Over, Block, statement_end}
use Rattle.grammar_spec.specs.Grammar.{Produces, children}
use Rattle.grammar_laws.specs.Context.Laws.{placing}
use Rattle.grammar_laws.proofs.context.Kin.{Kin, Moves, spans_like}
use Rattle.grammar_laws.proofs.context.Forms.{expr, sorted, maybe}
use Rattle.grammar_laws.proofs.context.Statements.{in_parens, sub_or, clause, for_open, await_open, init, bindings, using_bindings, head_variables, head_using, head_target, of_target}
use Rattle.grammar_laws.proofs.context.Placed.{move, moves}
use Rattle.grammar_laws.specs.CompleteBase.Laws.{coded, InOrder}
use Rattle.grammar_laws.proofs.complete_base.Yields.{starts_here}
use Rattle.grammar_laws.proofs.complete_base.Trees.{by_cases}
use Rattle.grammar_laws.proofs.complete_rules.Nested.{leaves}
use Rattle.parse_front_laws.specs.Complete.Laws.{input_at}
use Rattle.parse_front_laws.proofs.complete.Cut.{closing, cut, cut_here, cut_front}
use Rattle.parse_front_laws.proofs.complete.Longer.{mark, braces, onward, onward_of, K, Like, Before, stands, kind_there}

abbrev kid : Tree → Child
kid t = child t (λ y. Produces t y)

no_by : (P Q : Type 0) (b : Bool) → b ≡ false → Q → By b P Q
no_by P Q true e q = absurd (true≢false e)
no_by P Q false e q = q

-- ---- what stands before the last statement of one, beside what is like it; another statement may stand there

module _ (kin : Kin false) where
  -- from there, with any other
  abbrev Around : Code → (Tree → Input → Input → Type 0) → (Tree → Span → Input → Input → Type 0) → Input → Input → Type 0
  Around c Last Whole ts o = (w : Input) × kin.Like ts w × ((u : Tree) (v : Input) → Last u o v → Whole u (span (lo w) v.last) w v)

  abbrev SubOf : Code → Tree → Input → Input → Type 0
  SubOf c u a b = Sub (placing false c) (kid u) a b

  abbrev EitherOf : Code → Tree → Input → Input → Type 0
  EitherOf c u a b = SubOrFunction (placing false c) (kid u) a b

  with_before : (c : Code) (s : Span) (e b : Tree) (ts r : Input) (h : With c s (kid e) (kid b) ts r) (o : Input) → kin.Like h.1 o → Around c (SubOf c) (λ u d w v. With (placing false c) d (kid e) (kid u) w v) ts o
  with_before c s e b ts r h o k = let z = in_parens false kin c (kid e) (move false kin e) h.0 h.1 o h.3 k in let x = kin.take_word c with_kind ts h.0 z.0 h.2 z.1 in (x.0, x.1, λ u v y. (z.0, o, x.2, z.2, y, refl))

  while_before : (c : Code) (s : Span) (e b : Tree) (ts r : Input) (h : While c s (kid e) (kid b) ts r) (o : Input) → kin.Like h.1 o → Around c (SubOf c) (λ u d w v. While (placing false c) d (kid e) (kid u) w v) ts o
  while_before c s e b ts r h o k = let z = in_parens false kin c (kid e) (move false kin e) h.0 h.1 o h.3 k in let x = kin.take_word c while_kind ts h.0 z.0 h.2 z.1 in (x.0, x.1, λ u v y. (z.0, o, x.2, z.2, y, refl))

  label_before : (c : Code) (s : Span) (l b : Tree) (ts r : Input) (h : Labelled c s (kid l) (kid b) ts r) (o : Input) → kin.Like h.1 o → Around c (EitherOf c) (λ u d w v. Labelled (placing false c) d (kid l) (kid u) w v) ts o
  label_before c s l b ts r h o k = let z = kin.take c colon_kind h.0 h.1 o h.3 k in let x = sorted false kin is_ident c (kid l) (move false kin l) ts h.0 z.0 h.2 z.1 in (x.0, x.1, λ u v y. (z.0, o, x.2, z.2, y, refl))

  then_before : (c : Code) (s : Span) (e a b : Tree) (ts r : Input) (h : If c s (kid e) (kid a) (kid b) ts r) (o : Input) → kin.Like h.1 o
      → (w : Input) × kin.Like ts w × ((u : Tree) (v : Input) → EitherOf c u o v → (kind v ≡ else_kind → ⊥) → If (placing false c) (span (lo w) v.last) (kid e) (kid u) (kid absent) w v)
  then_before c s e a b ts r h o k = let z = in_parens false kin c (kid e) (move false kin e) h.0 h.1 o h.4 k in let x = kin.take_word c if_kind ts h.0 z.0 h.3 z.1 in (x.0, x.1, λ u v y n. (z.0, o, v, x.2, z.2, y, (n, refl), refl))

  else_before : (c : Code) (s : Span) (e a b : Tree) (ts r : Input) (h : If c s (kid e) (kid a) (kid b) ts r) (m o : Input) → TakesWord c else_kind h.2 m → kin.Like m o
      → (w : Input) × kin.Like ts w × ((u : Tree) (v : Input) → is_absent u ≡ false → EitherOf c u o v → If (placing false c) (span (lo w) v.last) (kid e) (kid a) (kid u) w v)
  else_before c s e a b ts r h m o t k =
      let y = kin.take_word c else_kind h.2 m o t k in let i = sub_or false kin c (kid a) (move false kin a) h.1 h.2 y.0 h.5 y.1 in
      let z = in_parens false kin c (kid e) (move false kin e) h.0 h.1 i.0 h.4 i.1 in let x = kin.take_word c if_kind ts h.0 z.0 h.3 z.1 in
      (x.0, x.1, λ u v n d. (z.0, i.0, y.0, x.2, z.2, i.2, no_by _ _ (is_absent u) n (o, y.2, d), refl))

  rest_before : (c : Code) (t u b : Tree) (ts r : Input) (h : ForRest c (kid t) (kid u) (kid b) ts r) (o : Input) → kin.Like h.1 o → (w : Input) × kin.Like ts w × ((g : Tree) (v : Input) → SubOf c g o v → ForRest (placing false c) (kid t) (kid u) (kid g) w v)
  rest_before c t u b ts r h o k = let z = clause false kin c right_paren_kind (kid u) (move false kin u) h.0 h.1 o h.3 k in let x = clause false kin c semicolon_kind (kid t) (move false kin t) ts h.0 z.0 h.2 z.1 in (x.0, x.1, λ g v y. (z.0, o, x.2, z.2, y))

  for_before : (c : Code) (s : Span) (i t u b : Tree) (ts r : Input) (h : ForExpression c s (kid i) (kid t) (kid u) (kid b) ts r) (o : Input) → kin.Like h.6.1 o → Around c (SubOf c) (λ g d w v. ForExpression (placing false c) d (kid i) (kid t) (kid u) (kid g) w v) ts o
  for_before c s i t u b ts r h o k =
      let z = rest_before c t u b h.2 r h.6 o k in let y = kin.take c semicolon_kind h.1 h.2 z.0 h.5 z.1 in
      let x = init false kin c (kid i) (move false kin i) h.0 h.1 y.0 h.4 y.1 in let w = for_open false kin c ts h.0 x.0 h.3 x.1 in
      (w.0, w.1, λ g v d. (x.0, y.0, z.0, w.2, x.2, y.2, z.2 g v d, refl))

  variables_before : (c : Code) (s own : Span) (n : ℕ) (ds : Trees) (t u b : Tree) (ts r : Input) (h : ForVariables c s own n (children ds) (kid t) (kid u) (kid b) ts r) (o : Input) → kin.Like h.7.1 o
      → Around c (SubOf c) (λ g d w v. ForVariables (placing false c) d own n (children ds) (kid t) (kid u) (kid g) w v) ts o
  variables_before c s own n ds t u b ts r h o k =
      let z = rest_before c t u b h.2 r h.7 o k in let y = kin.take c semicolon_kind h.1 h.2 z.0 h.6 z.1 in
      let x = bindings false kin (without_in c) n (children ds) (moves false kin ds) h.0 h.1 y.0 h.4 y.1 in let w = for_open false kin c ts h.0 x.0 h.3 x.1 in
      (w.0, w.1, λ g v d. (x.0, y.0, z.0, w.2, x.2, spans_like false kin own h.0 x.0 h.1 y.0 x.1 y.1 h.5, y.2, z.2 g v d, refl))

  using_before : (c : Code) (s own : Span) (a : Bool) (ds : Trees) (t u b : Tree) (ts r : Input) (h : ForUsing c s own a (children ds) (kid t) (kid u) (kid b) ts r) (o : Input) → kin.Like h.8.1 o
      → Around c (SubOf c) (λ g d w v. ForUsing (placing false c) d own a (children ds) (kid t) (kid u) (kid g) w v) ts o
  using_before c s own a ds t u b ts r h o k =
      let z = rest_before c t u b h.2 r h.8 o k in let y = kin.take c semicolon_kind h.1 h.2 z.0 h.7 z.1 in
      let x = using_bindings false kin (without_in c) a (children ds) (moves false kin ds) h.0 h.1 y.0 h.5 y.1 in let w = for_open false kin c ts h.0 x.0 h.3 x.1 in
      (w.0, w.1, λ g v d. (x.0, y.0, z.0, w.2, kin.usings a h.0 x.0 x.1 h.4, x.2, spans_like false kin own h.0 x.0 h.1 y.0 x.1 y.1 h.6, y.2, z.2 g v d, refl))

  over_before : (c : Code) (word l : ℕ) (e b : Tree) (ts r : Input) (h : Over c word l (kid e) (kid b) ts r) (o : Input) → kin.Like h.2 o → (w : Input) × kin.Like ts w × ((g : Tree) (v : Input) → SubOf c g o v → Over (placing false c) word l (kid e) (kid g) w v)
  over_before c word l e b ts r h o k =
      let z = kin.take c right_paren_kind h.1 h.2 o h.5 k in let y = expr false kin l c (kid e) (move false kin e) h.0 h.1 z.0 h.4 z.1 in let x = kin.take_word c word ts h.0 y.0 h.3 y.1 in
      (x.0, x.1, λ g v d. (y.0, z.0, o, x.2, y.2, z.2, d))

  in_before : (c : Code) (s : Span) (A B : Input → Input → Type 0) → Moves false kin A B → (e b : Tree) (ts r : Input) (h : ForIn c s A (kid e) (kid b) ts r) (o : Input) → kin.Like h.4.2 o → Around c (SubOf c) (λ g d w v. ForIn (placing false c) d B (kid e) (kid g) w v) ts o
  in_before c s A B f e b ts r h o k =
      let z = over_before c in_kind expression_level e b h.1 r h.4 o k in let y = f h.0 h.1 z.0 h.3 z.1 in let x = for_open false kin c ts h.0 y.0 h.2 y.1 in
      (x.0, x.1, λ g v d. (y.0, z.0, x.2, y.2, z.2 g v d, refl))

  of_before : (c : Code) (s : Span) (a : Bool) (A B : Input → Input → Type 0) → Moves false kin A B → (e b : Tree) (ts r : Input) (h : ForOf c s a A (kid e) (kid b) ts r) (o : Input) → kin.Like h.4.2 o → Around c (SubOf c) (λ g d w v. ForOf (placing false c) d a B (kid e) (kid g) w v) ts o
  of_before c s a A B f e b ts r h o k =
      let z = over_before c of_kind assignment_level e b h.1 r h.4 o k in let y = f h.0 h.1 z.0 h.3 z.1 in let x = await_open false kin a c ts h.0 y.0 h.2 y.1 in
      (x.0, x.1, λ g v d. (y.0, z.0, x.2, y.2, z.2 g v d, refl))

-- ---- the order of what is to come

abbrev Rising : Input → Type 0
Rising ts = (k : ℕ) × InOrder k ts.places

order_behind : (f l : List PlacedToken) (k : ℕ) → InOrder k (f ++ l) → (j : ℕ) × InOrder j l
order_behind [] l k h = (k, h)
order_behind (x ∷ f) l k h = order_behind f l x.spot.hi h.3

abbrev cut_end : Input → Input
cut_end m = input_at m.last (closing m.places)

rising_behind : (ts m w : Input) → (cut m).Like ts w → Rising ts → Rising m
rising_behind ts m w k h = let z = cut_front m ts w k in order_behind z.0 m.places h.0 (subst (λ v. InOrder h.0 v) z.1 h.1)

order_next : (n k : ℕ) (l : List PlacedToken) → InOrder k l → InOrder (hi_of n l) (others l)
order_next n k [] h = tt
order_next n k (x ∷ l) h = h.3

exportable_leaves : (c : Context) (d : Tree) (r : Input) → is_exportable d ≡ true → leaves c d r ≡ true
exportable_leaves c (class_decl s n x) r h = refl
exportable_leaves c (fn_decl s n x) r h = refl
exportable_leaves c (var_decl s o ds) r h = refl
exportable_leaves c _ r h = absurd (true≢false (sym h))

stands_there : (u : Tree) → is_statement u ≡ true → is_absent u ≡ false
stands_there absent h = absurd (true≢false (sym h))
stands_there _ h = refl

-- an empty block
block_on : (c : Code) (q : PlacedToken) (n : ℕ) → Block (record c { placed = false }) (span n (n + 1 + 1)) [] (input_at n (braces q n)) (input_at (n + 1 + 1) [])
block_on c q n = (input_at (n + 1) (mark q right_brace_kind (n + 1) ∷ []), (refl, tt, refl), (refl, tt, refl), refl)

module _ (q : PlacedToken) (beyond : List PlacedToken) (plain : eqb q.spot.token.kind question_mark_kind ≡ false) where
  abbrev Ahead : Kin false
  Ahead = K q beyond plain

  -- no statement is derived of a whole list that goes on with the token
  abbrev pub NoStatement : Code → Input → Type 0
  NoStatement c ts = (o : Input) → Like q beyond plain ts o → (u : Tree) (e : Input) → e.places ≡ [] → is_statement u ≡ true → Produces u (coded false c) o e → ⊥

  pub record Held (c : Code) (ts r : Input) : Type 0 where
    pub final : NoStatement c ts
    pub there : Before q beyond plain r
    pub rising : Rising ts

  -- a `finally` behind a `try`
  no_finally : (p : Bool) (c : Code) (s : Span) (b x f : Tree) (ts r : Input) → Held c ts r → Produces (try_stmt s b x f) (coded p c) ts r → is_absent f ≡ true → kind r ≡ finally_kind → barred c.context r ≡ false → ⊥
  no_finally p c s b x f ts r w h a fk un =
      let qk = sym (kind_there q beyond plain r w.there) ∙ fk in
      let on : onward q ≡ braces q q.spot.hi = onward_of q finally_kind qk in
      let o = input_at r.last (q ∷ onward q) in let e = input_at (q.spot.hi + 1 + 1) [] in
      let back : h.2 ≡ r = by_cases (is_absent f) _ _ (h.2 ≡ r) h.7 (λ _ y. y) (λ n _. absurd (true≢false (sym a ∙ n))) in
      let like : Like q beyond plain h.2 o = subst (λ (m : Input). Like q beyond plain m o) (sym back) (stands q beyond plain r w.there) in
      let z = maybe false Ahead (Sorted is_catch) (coded p c) (kid x) (sorted false Ahead is_catch (coded p c) (kid x) (move false Ahead x)) h.1 h.2 o h.6 like in
      let y = sorted false Ahead is_block (coded p c) (kid b) (move false Ahead b) h.0 h.1 z.0 h.5 z.1 in let v = Ahead.take_word (coded p c) try_kind ts h.0 y.0 h.4 y.1 in
      w.final v.0 v.1 (try_stmt (span (lo v.0) e.last) b x (block_stmt (span q.spot.hi e.last) none)) e refl refl (
        y.0,
        z.0,
        o,
        and_right (is_absent x) false refl,
        v.2,
        y.2,
        z.2,
        (
          input_at q.spot.hi (onward q),
          (qk, subst (λ (l : List PlacedToken). barred c.context (input_at r.last l) ≡ false) w.there un, tt, refl),
          (refl, subst (λ (l : List PlacedToken). Block (coded false c) (span q.spot.hi e.last) [] (input_at q.spot.hi l) e) (sym on) (block_on (coded false c) q q.spot.hi)),
        ),
        refl,
      )

  -- a colon behind a name
  no_colon : (p : Bool) (c : Code) (s v : Span) (n : List ℕ) (ts r : Input) → Held c ts r → Produces (expr_stmt s (ident v n)) (coded p c) ts r → kind r ≡ colon_kind → s.hi.0 ≡ v.hi.0 → ⊥
  no_colon p c s v n ts r w h ck i = by_end h.3
    where
      first : v.hi.0 ≡ h.0.last
      first = ap (λ (y : Span). y.hi.0) h.2.1.1

      whole : s.hi.0 ≡ r.last
      whole = ap (λ (y : Span). y.hi.0) h.4

      on : onward q ≡ mark q semicolon_kind q.spot.hi ∷ []
      on = onward_of q colon_kind (sym (kind_there q beyond plain r w.there) ∙ ck)

      by_end : Ends (coded p c) (statement_end (coded p c) ts (ident v n)) h.0 r → ⊥
      by_end (inl y) =
          let last_at = ap (λ (z : Input). z.last) h.2.1.0.5 in let places_at = ap (λ (z : Input). z.places) h.2.1.0.5 in
          let order : InOrder h.0.last h.0.places = subst (λ (z : List PlacedToken). InOrder h.0.last z) places_at (subst (λ (m : ℕ). InOrder m (others ts.places)) last_at (order_next ts.last w.rising.0 ts.places w.rising.1)) in
          let b = starts_here h.0.last h.0.places order (λ k. omega (arith, k, y.0)) (λ k. omega (arith, k, y.0)) in
          omega (arith, b.0, b.1, ap (λ (z : Input). z.last) y.2, first, whole, i)
      by_end (inr y) =
          let o = input_at r.last (q ∷ onward q) in let e = input_at (q.spot.hi + 1) [] in let c1 = coded false c in
          let like : Like q beyond plain h.0 o = subst (λ (m : Input). Like q beyond plain m o) (sym y.2) (stands q beyond plain r w.there) in
          let z = sorted false Ahead is_ident (coded p c) (kid (ident v n)) (move false Ahead (ident v n)) ts h.0 o (refl, h.2.1) like in
          let b = empty_stmt (span q.spot.hi e.last) in
          w.final z.0 z.1 (labeled_stmt (span (lo z.0) e.last) (ident v n) b) e refl refl
          (o, input_at q.spot.hi (onward q), z.2, (sym (kind_there q beyond plain r w.there) ∙ ck, tt, refl), (refl, subst (λ (l : List PlacedToken). Produces b (coded false (alone c)) (input_at q.spot.hi l) e) (sym on) ((refl, tt, refl), refl)), refl)

  by_test : (b : Bool) → (b ≡ true → ⊥) → not b ≡ true
  by_test true f = absurd (f refl)
  by_test false f = refl

  -- before such a token each statement ends there
  pub leaves_there : (t : Tree) (p : Bool) (c : Code) (ts r : Input) → Held c ts r → Produces t (coded p c) ts r → leaves c.context t r ≡ true
  leaves_there (try_stmt s b x f) p c ts r w h = by_test (is_absent f && ((kind r == finally_kind) && not (barred c.context r))) (λ y. let z = and_parts (is_absent f) _ y in let u = and_parts (kind r == finally_kind) _ z.1 in no_finally p c s b x f ts r w h z.0 (eqb-true (kind r) finally_kind u.0) (not-true (barred c.context r) u.1))
  leaves_there (expr_stmt s (ident v n)) p c ts r w h = by_test ((kind r == colon_kind) && (s.hi.0 == v.hi.0)) (λ y. let z = and_parts (kind r == colon_kind) _ y in no_colon p c s v n ts r w h (eqb-true (kind r) colon_kind z.0) (eqb-true s.hi.0 v.hi.0 z.1))
  leaves_there (with_stmt s e b) p c ts r w h = leaves_there b p (alone c) h.1 r (record {
    final = λ o k u v n i x. let z = with_before Ahead (coded p c) s e b ts r h o k in w.final z.0 z.1 (with_stmt (span (lo z.0) v.last) e u) v n refl (z.2 u v (i, x));
    there = w.there;
    rising = rising_behind ts h.1 _ (with_before (cut h.1) (coded p c) s e b ts r h (cut_end h.1) (cut_here h.1)).1 w.rising;
  }) h.4.1
  leaves_there (while_stmt s e b) p c ts r w h = leaves_there b p (alone c) h.1 r (record {
    final = λ o k u v n i x. let z = while_before Ahead (coded p c) s e b ts r h o k in w.final z.0 z.1 (while_stmt (span (lo z.0) v.last) e u) v n refl (z.2 u v (i, x));
    there = w.there;
    rising = rising_behind ts h.1 _ (while_before (cut h.1) (coded p c) s e b ts r h (cut_end h.1) (cut_here h.1)).1 w.rising;
  }) h.4.1
  leaves_there (labeled_stmt s l b) p c ts r w h = leaves_there b p (alone c) h.1 r (record {
    final = λ o k u v n i x. let z = label_before Ahead (coded p c) s l b ts r h o k in w.final z.0 z.1 (labeled_stmt (span (lo z.0) v.last) l u) v n refl (z.2 u v (or_left (is_statement u) _ i, x));
    there = w.there;
    rising = rising_behind ts h.1 _ (label_before (cut h.1) (coded p c) s l b ts r h (cut_end h.1) (cut_here h.1)).1 w.rising;
  }) h.4.1
  leaves_there (if_stmt s e a b) p c ts r w h = by_cases (is_absent b) ((kind h.2 ≡ else_kind → ⊥) × (h.2 ≡ r)) ((x : Input) × TakesWord (coded p c) else_kind h.2 x × SubOrFunction (coded p c) (kid b) x r) (leaves c.context (if_stmt s e a b) r ≡ true) h.6
      (λ y d. cond_first (is_absent b) (leaves c.context a r) (leaves c.context b r) true y (leaves_there a p (alone c) h.1 r (record {
        final = λ o k u v n i x. let z = then_before Ahead (coded p c) s e a b ts r h o k in
            w.final z.0 z.1 (if_stmt (span (lo z.0) v.last) e u absent) v n refl (z.2 u v (or_left (is_statement u) _ i, x) (λ j. omega (arith, j, ap kind_of n)));
        there = w.there;
        rising = rising_behind ts h.1 _ (then_before (cut h.1) (coded p c) s e a b ts r h (cut_end h.1) (cut_here h.1)).1 w.rising;
      }) (subst (λ (m : Input). Produces a (coded p (alone c)) h.1 m) d.1 h.5.1)))
      (λ y d. cond_second (is_absent b) (leaves c.context a r) (leaves c.context b r) true y (leaves_there b p (alone c) d.0 r (record {
        final = λ o k u v n i x. let z = else_before Ahead (coded p c) s e a b ts r h d.0 o d.1 k in
            w.final z.0 z.1 (if_stmt (span (lo z.0) v.last) e a u) v n refl (z.2 u v (stands_there u i) (or_left (is_statement u) _ i, x));
        there = w.there;
        rising = rising_behind ts d.0 _ (else_before (cut d.0) (coded p c) s e a b ts r h d.0 (cut_end d.0) d.1 (cut_here d.0)).1 w.rising;
      }) d.2.1))
  leaves_there (for_stmt s (var_decl y m ds) t u b) p c ts r w h = leaves_there b p (alone c) h.7.1 r (record {
    final = λ o k g v n i x. let z = variables_before Ahead (coded p c) s y m ds t u b ts r h o k in w.final z.0 z.1 (for_stmt (span (lo z.0) v.last) (var_decl y m ds) t u g) v n refl (z.2 g v (i, x));
    there = w.there;
    rising = rising_behind ts h.7.1 _ (variables_before (cut h.7.1) (coded p c) s y m ds t u b ts r h (cut_end h.7.1) (cut_here h.7.1)).1 w.rising;
  }) h.7.4.1
  leaves_there (for_stmt s (using_decl y a ds) t u b) p c ts r w h = leaves_there b p (alone c) h.8.1 r (record {
    final = λ o k g v n i x. let z = using_before Ahead (coded p c) s y a ds t u b ts r h o k in w.final z.0 z.1 (for_stmt (span (lo z.0) v.last) (using_decl y a ds) t u g) v n refl (z.2 g v (i, x));
    there = w.there;
    rising = rising_behind ts h.8.1 _ (using_before (cut h.8.1) (coded p c) s y a ds t u b ts r h (cut_end h.8.1) (cut_here h.8.1)).1 w.rising;
  }) h.8.4.1
  leaves_there (for_stmt s y t u b) p c ts r w h = leaves_there b p (alone c) h.6.1 r (record {
    final = λ o k g v n i x. let z = for_before Ahead (coded p c) s y t u b ts r h o k in w.final z.0 z.1 (for_stmt (span (lo z.0) v.last) y t u g) v n refl (z.2 g v (i, x));
    there = w.there;
    rising = rising_behind ts h.6.1 _ (for_before (cut h.6.1) (coded p c) s y t u b ts r h (cut_end h.6.1) (cut_here h.6.1)).1 w.rising;
  }) h.6.4.1
  leaves_there (for_in_stmt s (var_decl y m ds) e b) p c ts r w h = leaves_there b p (alone c) h.4.2 r (record {
    final = λ o k g v n i x. let z = in_before Ahead (coded p c) s _ _ (head_variables false Ahead (coded p c) y m (children ds) (moves false Ahead ds)) e b ts r h o k in w.final z.0 z.1 (for_in_stmt (span (lo z.0) v.last) (var_decl y m ds) e g) v n refl (z.2 g v (i, x));
    there = w.there;
    rising = rising_behind ts h.4.2 _ (in_before (cut h.4.2) (coded p c) s _ _ (head_variables false (cut h.4.2) (coded p c) y m (children ds) (moves false (cut h.4.2) ds)) e b ts r h (cut_end h.4.2) (cut_here h.4.2)).1 w.rising;
  }) h.4.6.1
  leaves_there (for_in_stmt s (using_decl y a ds) e b) p c ts r w h = leaves_there b p (alone c) h.4.2 r (record {
    final = λ o k g v n i x. let z = in_before Ahead (coded p c) s _ _ (head_using false Ahead (coded p c) y a (children ds) (moves false Ahead ds)) e b ts r h o k in w.final z.0 z.1 (for_in_stmt (span (lo z.0) v.last) (using_decl y a ds) e g) v n refl (z.2 g v (i, x));
    there = w.there;
    rising = rising_behind ts h.4.2 _ (in_before (cut h.4.2) (coded p c) s _ _ (head_using false (cut h.4.2) (coded p c) y a (children ds) (moves false (cut h.4.2) ds)) e b ts r h (cut_end h.4.2) (cut_here h.4.2)).1 w.rising;
  }) h.4.6.1
  leaves_there (for_in_stmt s y e b) p c ts r w h = leaves_there b p (alone c) h.4.2 r (record {
    final = λ o k g v n i x. let z = in_before Ahead (coded p c) s _ _ (head_target false Ahead (coded p c) (kid y) (move false Ahead y)) e b ts r h o k in w.final z.0 z.1 (for_in_stmt (span (lo z.0) v.last) y e g) v n refl (z.2 g v (i, x));
    there = w.there;
    rising = rising_behind ts h.4.2 _ (in_before (cut h.4.2) (coded p c) s _ _ (head_target false (cut h.4.2) (coded p c) (kid y) (move false (cut h.4.2) y)) e b ts r h (cut_end h.4.2) (cut_here h.4.2)).1 w.rising;
  }) h.4.6.1
  leaves_there (for_of_stmt s d (var_decl y m ds) e b) p c ts r w h = leaves_there b p (alone c) h.4.2 r (record {
    final = λ o k g v n i x. let z = of_before Ahead (coded p c) s d _ _ (head_variables false Ahead (coded p c) y m (children ds) (moves false Ahead ds)) e b ts r h o k in w.final z.0 z.1 (for_of_stmt (span (lo z.0) v.last) d (var_decl y m ds) e g) v n refl (z.2 g v (i, x));
    there = w.there;
    rising = rising_behind ts h.4.2 _ (of_before (cut h.4.2) (coded p c) s d _ _ (head_variables false (cut h.4.2) (coded p c) y m (children ds) (moves false (cut h.4.2) ds)) e b ts r h (cut_end h.4.2) (cut_here h.4.2)).1 w.rising;
  }) h.4.6.1
  leaves_there (for_of_stmt s d (using_decl y a ds) e b) p c ts r w h = leaves_there b p (alone c) h.4.2 r (record {
    final = λ o k g v n i x. let z = of_before Ahead (coded p c) s d _ _ (head_using false Ahead (coded p c) y a (children ds) (moves false Ahead ds)) e b ts r h o k in w.final z.0 z.1 (for_of_stmt (span (lo z.0) v.last) d (using_decl y a ds) e g) v n refl (z.2 g v (i, x));
    there = w.there;
    rising = rising_behind ts h.4.2 _ (of_before (cut h.4.2) (coded p c) s d _ _ (head_using false (cut h.4.2) (coded p c) y a (children ds) (moves false (cut h.4.2) ds)) e b ts r h (cut_end h.4.2) (cut_here h.4.2)).1 w.rising;
  }) h.4.6.1
  leaves_there (for_of_stmt s d y e b) p c ts r w h = leaves_there b p (alone c) h.4.2 r (record {
    final = λ o k g v n i x. let z = of_before Ahead (coded p c) s d _ _ (of_target false Ahead (coded p c) d (kid y) (move false Ahead y)) e b ts r h o k in w.final z.0 z.1 (for_of_stmt (span (lo z.0) v.last) d y e g) v n refl (z.2 g v (i, x));
    there = w.there;
    rising = rising_behind ts h.4.2 _ (of_before (cut h.4.2) (coded p c) s d _ _ (of_target false (cut h.4.2) (coded p c) d (kid y) (move false (cut h.4.2) y)) e b ts r h (cut_end h.4.2) (cut_here h.4.2)).1 w.rising;
  }) h.4.6.1
  leaves_there (export_decl s d) p c ts r w h = exportable_leaves c.context d r h.2
  leaves_there _ p c ts r w h = refl
