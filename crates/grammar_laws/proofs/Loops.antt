-- Loops with a head produce what they are read of.
use Rattle.std.proofs.Common.{◌≡◌, ℕ, ◌≤◌, Bool, true, false, not, ◌&&◌, ◌||◌, cond, eqb, List, [], ◌∷◌, Result, Ok, Err, refl, sym, subst, true≢false, arith}
use Rattle.std.proofs.lemmas.Bool.{eqb-true, and_parts, not-true, not_from_false, ne_eqb, leb-true, or_from}
use Rattle.base_token.specs.declared.place.Span.{Span}
use Rattle.base_token.specs.Kinds.{left_paren_kind, right_paren_kind, left_bracket_kind, left_brace_kind, semicolon_kind, null_kind, await_kind, for_kind, var_kind, let_kind, const_kind, in_kind, async_kind, of_kind, using_kind}
use Rattle.tree_spec.specs.Tree.{Tree, pack, absent, hole, for_stmt, for_in_stmt, for_of_stmt, var_decl, using_decl, ident, array_lit, object_lit, member_expr, super_prop_expr, paren_expr, assign_expr, expr_or_spread, spread_element, key_value_prop, assign_prop, array_pat, object_pat, expr_pat}
use Rattle.grammar_spec.specs.Tokens.Input.{Input, Code, kind, kind2, brk2, rest, Takes, TakesWord, lo, span, without_in, is_word, barred}
use Rattle.grammar_spec.specs.Tokens.Operators.{expression_level, assignment_level, may_name}
use Rattle.grammar_spec.specs.Tokens.Shape.{level, is_absent, is_simple, is_place, is_structured}
use Rattle.grammar_spec.specs.Children.{child, Expr}
use Rattle.grammar_spec.specs.Statements.{ForOpen, ForAwaitOpen, ForRest, Clause, Over, ForExpression, ForIn, ForOf, HeadTarget, OfTarget, OneBare, Bindings, UsingBindings, is_var_word, starts_pattern, starts_using as names_using, starts_head}
use Rattle.grammar_spec.specs.Grammar.{Produces, children}
use Rattle.grammar_spec.specs.Reader.Source.{Fault, unfit, State, Inner}
use Rattle.grammar_spec.specs.Reader.Cover.{to_item, to_head}
use Rattle.grammar_spec.specs.Reader.Statements.{declarators_by, starts_let, starts_using, starts_await_using, sub_by, clause_by, for_rest, over_rest, in_rest, of_rest, one_bare, head_rest, for_variables, for_using, for_expression_rest, for_expression, for_head, for_by}
use Rattle.grammar_laws.proofs.Sure.{lm, seen, next, same, Sure, done, then_sure, if_sure, test_sure, only_sure, eat_sure, word_sure}
use Rattle.grammar_laws.proofs.Covers.{plain, by_no, Holds, Refines, IsItem}
use Rattle.grammar_laws.proofs.Nested.{Sound, GotStmt, Made}
use Rattle.grammar_laws.proofs.Groups.{then_placed}
use Rattle.grammar_laws.proofs.Operators.{both_hold, array_stays, object_stays}
use Rattle.grammar_laws.proofs.Lists.{Declarators, declarators_sure}
use Rattle.grammar_laws.proofs.Simple.{sub_sure}
use Rattle.grammar_laws.proofs.Shapes.{present}

-- ---- what a head makes of an expression

structured_place : (p : Tree) → is_structured p ≡ true → is_place false p ≡ true
structured_place (array_pat s xs) e = refl
structured_place (object_pat s xs) e = refl
structured_place _ e = absurd (true≢false (sym e))

abbrev IsHead : Code → Input → Input → Tree → Type 0
IsHead c ts r p = (is_place false p ≡ true) × Produces p (plain c) ts r

placed : (c : Code) (ts r : Input) (z : Result Tree Fault) → Holds z (λ p. IsItem false c ts r p × (is_structured p ≡ true)) → Holds z (IsHead c ts r)
placed c ts r (Ok p) h = record { so = (structured_place p h.so.1, h.so.0.1) }
placed c ts r (Err e) h = record { so = tt }

head_holds : (k : List ℕ) (c : Code) (t : Tree) (ts r : Input) → 1 ≤ level t → Produces t (plain c) ts r → Refines k c t ts r → Holds (to_head k t) (IsHead c ts r)
head_holds k c (assign_expr s op p e) ts r l h f = record { so = tt }
head_holds k c (ident s n) ts r l h f = record { so = (refl, (refl, h)) }
head_holds k c (array_lit s xs) ts r l h f = placed c ts r (to_item false k (array_lit s xs)) (both_hold _ _ _ (f.so false tt) (array_stays k s xs))
head_holds k c (object_lit s xs) ts r l h f = placed c ts r (to_item false k (object_lit s xs)) (both_hold _ _ _ (f.so false tt) (object_stays k s xs))
head_holds k c (member_expr s o p) ts r l h f = record { so = (refl, (refl, h)) }
head_holds k c (super_prop_expr s o p) ts r l h f = record { so = (refl, (refl, h)) }
head_holds k c (paren_expr s e) ts r l h f = simple (is_simple e) refl
  where
    simple : (b : Bool) → is_simple e ≡ b → Holds (cond (true && b) (Ok (expr_pat (paren_expr s e))) unfit) (IsHead c ts r)
    simple true q = record { so = (q, (q, h)) }
    simple false q = record { so = tt }
head_holds k c (expr_or_spread s d e) ts r l h f = absurd (omega (arith, l))
head_holds k c (spread_element s e) ts r l h f = absurd (omega (arith, l))
head_holds k c (key_value_prop s p e) ts r l h f = absurd (omega (arith, l))
head_holds k c (assign_prop s p e) ts r l h f = absurd (omega (arith, l))
head_holds k c hole ts r l h f = absurd (omega (arith, l))
head_holds k c _ ts r l h f = record { so = tt }

in_with : (c : Code) (s : Span) (a e b : Tree) (ts r : Input) → is_place false a ≡ true → ForIn c s (λ m n. HeadTarget c (child a (λ y. Produces a y)) m n) (child e (λ y. Produces e y)) (child b (λ y. Produces b y)) ts r → Produces (for_in_stmt s a e b) c ts r
in_with c s (var_decl v k ds) e b ts r p h = absurd (true≢false (sym p))
in_with c s (using_decl v w ds) e b ts r p h = absurd (true≢false (sym p))
in_with c s _ e b ts r p h = h

of_with : (c : Code) (s : Span) (w : Bool) (a e b : Tree) (ts r : Input) → is_place false a ≡ true → ForOf c s w (λ m n. OfTarget c w (child a (λ y. Produces a y)) m n) (child e (λ y. Produces e y)) (child b (λ y. Produces b y)) ts r → Produces (for_of_stmt s w a e b) c ts r
of_with c s w (var_decl v k ds) e b ts r p h = absurd (true≢false (sym p))
of_with c s w (using_decl v i ds) e b ts r p h = absurd (true≢false (sym p))
of_with c s w _ e b ts r p h = h

for_with : (c : Code) (s : Span) (i t u b : Tree) (ts r : Input) → 1 ≤ level i → ForExpression c s (child i (λ y. Produces i y)) (child t (λ y. Produces t y)) (child u (λ y. Produces u y)) (child b (λ y. Produces b y)) ts r → Produces (for_stmt s i t u b) c ts r
for_with c s (var_decl v k ds) t u b ts r l h = absurd (omega (arith, l))
for_with c s (using_decl v w ds) t u b ts r l h = absurd (omega (arith, l))
for_with c s _ t u b ts r l h = h

one_bare_is : (inner : Inner Input) (ds : List Tree) → one_bare lm inner ds ≡ true → OneBare (children (pack ds))
one_bare_is inner [] e = absurd (true≢false (sym e))
one_bare_is inner (d ∷ []) e = (tt, e)
one_bare_is inner (d ∷ (x ∷ xs)) e = absurd (true≢false (sym e))

pub no_pattern : (k : ℕ) → may_name k ≡ true → starts_pattern k ≡ false
no_pattern k e = let w = leb-true null_kind k (and_parts (is_word k) _ e).0 in or_from _ _ (ne_eqb k left_bracket_kind (λ q. absurd (omega (arith, w, q)))) (ne_eqb k left_brace_kind (λ q. absurd (omega (arith, w, q))))

pub var_word : (v l d z : Bool) → (v || (d || (l && z))) ≡ true → (v || (l || d)) ≡ true
var_word true l d z e = refl
var_word false true d z e = refl
var_word false false true z e = refl
var_word false false false z e = absurd (true≢false (sym e))

module _ (inner : Inner Input) (good : Sound inner) where
  clause_sure : (c : Code) (close : ℕ) (s : State Input) → Sure s.commas (clause_by lm inner c close s) (λ x. Clause (plain c) close (child x.0 (λ y. Produces x.0 y)) (seen s) (seen x.1))
  unfolding clause_by
  clause_sure c close s = test_sure s.commas (kind (seen s)) close _ _ _ (λ e. done (absent, next s) _ (seen s, refl, (e, tt, refl)))
      (λ _. then_sure s.commas (inner.expr c expression_level s) _ _ _ (good.expr c expression_level s (omega arith)) (λ x h. eat_sure close x.1 _ _ (λ e.
      done (x.0, next x.1) _ (seen x.1, by_no (is_absent x.0) (seen s ≡ seen x.1) (Expr expression_level (plain c) (child x.0 (λ y. Produces x.0 y)) (seen s) (seen x.1)) (present x.0 h.0) (h.0, h.1.produced), (e, tt, refl)))))

  -- what the three sorts of heads make of what stands before `;`, `in` or `of`
  abbrev MadeFor : Code → State Input → Tree → State Input → Type 0
  MadeFor c start i s = (p : Span) (t u b : Tree) (o r : Input) → p ≡ span (lo (seen start)) r.last → Takes (plain c) semicolon_kind (seen s) o → ForRest (plain c) (child t (λ y. Produces t y)) (child u (λ y. Produces u y)) (child b (λ y. Produces b y)) o r → Produces (for_stmt p i t u b) (plain c) (seen start) r

  abbrev MadeIn : Code → State Input → Tree → State Input → Type 0
  MadeIn c start l s = (p : Span) (e b : Tree) (r : Input) → p ≡ span (lo (seen start)) r.last → Over (plain c) in_kind expression_level (child e (λ y. Produces e y)) (child b (λ y. Produces b y)) (seen s) r → Produces (for_in_stmt p l e b) (plain c) (seen start) r

  abbrev MadeOf : Code → State Input → Bool → Tree → State Input → Type 0
  MadeOf c start w l s = (p : Span) (e b : Tree) (r : Input) → p ≡ span (lo (seen start)) r.last → Over (plain c) of_kind assignment_level (child e (λ y. Produces e y)) (child b (λ y. Produces b y)) (seen s) r → Produces (for_of_stmt p w l e b) (plain c) (seen start) r

  for_rest_sure : (c : Code) (start : State Input) (i : Tree) (s : State Input) → MadeFor c start i s → Sure s.commas (for_rest lm inner c (lo (seen start)) i s) (GotStmt c start)
  unfolding for_rest
  for_rest_sure c start i s f = eat_sure semicolon_kind s _ _ (λ e. then_sure s.commas (clause_by lm inner c semicolon_kind (next s)) _ _ _ (clause_sure c semicolon_kind (next s)) (λ t h. then_sure t.1.commas (clause_by lm inner c right_paren_kind t.1) _ _ _ (clause_sure c right_paren_kind t.1) (λ u k.
      then_sure u.1.commas (sub_by lm inner c false u.1) _ _ _ (sub_sure inner good c u.1) (λ b j. done (for_stmt (span (lo (seen start)) b.1.source.last) i t.0 u.0 b.0, b.1) (GotStmt c start)
      (refl, f (span (lo (seen start)) b.1.source.last) t.0 u.0 b.0 (seen (next s)) (seen b.1) refl (e, tt, refl) (seen t.1, seen u.1, h, k, j))))))

  in_rest_sure : (c : Code) (start : State Input) (l : Tree) (s : State Input) → MadeIn c start l s → Sure s.commas (in_rest lm inner c (lo (seen start)) l s) (GotStmt c start)
  unfolding in_rest over_rest
  in_rest_sure c start l s f = word_sure c in_kind s _ _ (λ e w. then_sure s.commas (inner.expr c expression_level (next s)) _ _ _ (good.expr c expression_level (next s) (omega arith)) (λ x h. eat_sure right_paren_kind x.1 _ _ (λ z. then_sure x.1.commas (sub_by lm inner c false (next x.1)) _ _ _ (sub_sure inner good c (next x.1)) (λ b j.
      done (for_in_stmt (span (lo (seen start)) b.1.source.last) l x.0 b.0, b.1) (GotStmt c start) (refl, f (span (lo (seen start)) b.1.source.last) x.0 b.0 (seen b.1) refl (seen (next s), seen x.1, seen (next x.1), (e, w, tt, refl), (h.0, h.1.produced), (z, tt, refl), j))))))

  of_rest_sure : (c : Code) (start : State Input) (w : Bool) (l : Tree) (s : State Input) → MadeOf c start w l s → Sure s.commas (of_rest lm inner c (lo (seen start)) w l s) (GotStmt c start)
  unfolding of_rest over_rest
  of_rest_sure c start a l s f = word_sure c of_kind s _ _ (λ e w. then_sure s.commas (inner.expr c assignment_level (next s)) _ _ _ (good.expr c assignment_level (next s) (omega arith)) (λ x h. eat_sure right_paren_kind x.1 _ _ (λ z. then_sure x.1.commas (sub_by lm inner c false (next x.1)) _ _ _ (sub_sure inner good c (next x.1)) (λ b j.
      done (for_of_stmt (span (lo (seen start)) b.1.source.last) a l x.0 b.0, b.1) (GotStmt c start) (refl, f (span (lo (seen start)) b.1.source.last) x.0 b.0 (seen b.1) refl (seen (next s), seen x.1, seen (next x.1), (e, w, tt, refl), (h.0, h.1.produced), (z, tt, refl), j))))))

  head_rest_sure : (c : Code) (start : State Input) (awaits : Bool) (ds : List Tree) (l : Tree) (s : State Input) → (OneBare (children (pack ds)) → MadeOf c start awaits l s) → (awaits ≡ false → OneBare (children (pack ds)) → MadeIn c start l s) → (awaits ≡ false → MadeFor c start l s)
      → Sure s.commas (head_rest lm inner c (lo (seen start)) awaits ds l s) (GotStmt c start)
  unfolding head_rest
  head_rest_sure c start awaits ds l s f g h = test_sure s.commas (kind (seen s)) of_kind _ _ _ (λ _. only_sure _ s.commas (one_bare lm inner ds) _ _ (λ e. of_rest_sure c start awaits l s (f (one_bare_is inner ds e)))) (λ _.
      if_sure s.commas awaits _ _ _ (λ _. record { so = tt }) (λ a. test_sure s.commas (kind (seen s)) in_kind _ _ _ (λ _. only_sure _ s.commas (one_bare lm inner ds) _ _ (λ e. in_rest_sure c start l s (g a (one_bare_is inner ds e)))) (λ _. for_rest_sure c start l s (h a))))

  -- `for (`, or `for await (`
  opened : (c : Code) (start : State Input) (awaits : Bool) (s : Input) → awaits ≡ false → ForAwaitOpen awaits (plain c) (seen start) s → ForOpen (plain c) (seen start) s
  opened c start awaits s e h = subst (λ a. ForAwaitOpen a (plain c) (seen start) s) e h

  variables_sure : (c : Code) (start : State Input) (awaits : Bool) (s : State Input) → ForAwaitOpen awaits (plain c) (seen start) (seen s) → is_var_word (kind (seen s)) ≡ true → Sure s.commas (for_variables lm inner c (lo (seen start)) awaits s) (GotStmt c start)
  unfolding for_variables
  variables_sure c start awaits s o v = word_sure c (kind (seen s)) s _ _ (λ e b. then_sure s.commas (declarators_by lm inner (without_in c) (next s)) _ _ _ (declarators_sure inner good (without_in c) (next s)) (λ ds h.
      let k : Bindings (without_in (plain c)) (kind (seen s)) (children (pack ds.0)) (seen s) (seen ds.1) = (seen (next s), v, (refl, b, tt, refl), h) in
      head_rest_sure c start awaits ds.0 (var_decl (span (lo (seen s)) ds.1.source.last) (kind (seen s)) (pack ds.0)) ds.1
      (λ one p x y r q w. (seen s, seen ds.1, o, (one, k, refl), w, q))
      (λ a one p x y r q w. (seen s, seen ds.1, opened c start awaits (seen s) a o, (one, k, refl), w, q))
      (λ a p x y z m r q t w. (seen s, seen ds.1, m, opened c start awaits (seen s) a o, k, refl, t, w, q))))

  using_sure : (c : Code) (start : State Input) (awaits : Bool) (own : State Input) (waits : Bool) (s : State Input) → ForAwaitOpen awaits (plain c) (seen start) (seen own) → names_using waits (seen own) ≡ true
      → ((ds : List Tree) (r : Input) → TakesWord (without_in (plain c)) using_kind (seen s) (seen (next s)) → Declarators inner good (without_in c) ds (seen (next s)) r → UsingBindings (without_in (plain c)) waits (children (pack ds)) (seen own) r)
      → own.commas ≡ s.commas → Sure s.commas (for_using lm inner c (lo (seen start)) awaits (lo (seen own)) waits s) (GotStmt c start)
  unfolding for_using
  using_sure c start awaits own waits s o v f _ = word_sure c using_kind s _ _ (λ e b. then_sure s.commas (declarators_by lm inner (without_in c) (next s)) _ _ _ (declarators_sure inner good (without_in c) (next s)) (λ ds h.
      let k = f ds.0 (seen ds.1) (e, b, tt, refl) h in
      head_rest_sure c start awaits ds.0 (using_decl (span (lo (seen own)) ds.1.source.last) waits (pack ds.0)) ds.1
      (λ one p x y r q w. (seen own, seen ds.1, o, (one, v, k, refl), w, q))
      (λ a one p x y r q w. (seen own, seen ds.1, opened c start awaits (seen own) a o, (one, v, k, refl), w, q))
      (λ a p x y z m r q t w. (seen own, seen ds.1, m, opened c start awaits (seen own) a o, v, k, refl, t, w, q))))

  expression_rest_sure : (c : Code) (start : State Input) (awaits : Bool) (own : State Input) (e : Tree) (s : State Input) → ForAwaitOpen awaits (plain c) (seen start) (seen own) → starts_head (seen own) ≡ true → 1 ≤ level e → Made (without_in c) own (e, s)
      → Sure s.commas (for_expression_rest lm inner c (lo (seen start)) awaits own e s) (GotStmt c start)
  unfolding for_expression_rest
  expression_rest_sure c start awaits own e s o v l m = test_sure s.commas (kind (seen s)) of_kind _ _ _
      (λ _. if_sure s.commas (eqb (kind (seen own)) let_kind || (not awaits && (eqb (kind (seen own)) async_kind && eqb (kind2 (seen own)) of_kind))) _ _ _ (λ _. record { so = tt })
      (λ n. then_placed _ s.commas (to_head s.commas e) _ (IsHead (without_in c) (seen own) (seen s)) _ (head_holds s.commas (without_in c) e (seen own) (seen s) l m.produced (m.refines s.commas (same s.commas))) (λ t h.
      of_rest_sure c start awaits t s (λ p x y r q w. of_with (plain c) p awaits t x y (seen start) r h.0 (seen own, seen s, o, (not_from_false _ n, (v, h.0, h.1)), w, q)))))
      (λ _. if_sure s.commas awaits _ _ _ (λ _. record { so = tt }) (λ a. test_sure s.commas (kind (seen s)) in_kind _ _ _
      (λ _. then_placed _ s.commas (to_head s.commas e) _ (IsHead (without_in c) (seen own) (seen s)) _ (head_holds s.commas (without_in c) e (seen own) (seen s) l m.produced (m.refines s.commas (same s.commas))) (λ t h.
      in_rest_sure c start t s (λ p x y r q w. in_with (plain c) p t x y (seen start) r h.0 (seen own, seen s, opened c start awaits (seen own) a o, (v, h.0, h.1), w, q))))
      (λ _. for_rest_sure c start e s (λ p x y z i r q t w. for_with (plain c) p e x y z (seen start) r l (
        seen own,
        seen s,
        i,
        opened c start awaits (seen own) a o,
        by_no (is_absent e) (seen own ≡ seen s) ((starts_head (seen own) ≡ true) × Expr expression_level (without_in (plain c)) (child e (λ y. Produces e y)) (seen own) (seen s)) (present e l) (v, (l, m.produced)),
        t,
        w,
        q,
      )))))

  expression_sure : (c : Code) (start : State Input) (awaits : Bool) (s : State Input) → ForAwaitOpen awaits (plain c) (seen start) (seen s) → Sure s.commas (for_expression lm inner c (lo (seen start)) awaits s) (GotStmt c start)
  unfolding for_expression
  expression_sure c start awaits s o = if_sure s.commas (eqb (kind (seen s)) let_kind && eqb (kind2 (seen s)) left_bracket_kind) _ _ _ (λ _. record { so = tt })
      (λ n. then_sure s.commas (inner.expr (without_in c) expression_level s) _ _ _ (good.expr (without_in c) expression_level s (omega arith)) (λ e h. expression_rest_sure c start awaits s e.0 e.1 o (not_from_false _ n) h.0 h.1))

  for_head_sure : (c : Code) (start : State Input) (awaits : Bool) (s : State Input) → ForAwaitOpen awaits (plain c) (seen start) (seen s) → Sure s.commas (for_head lm inner c (lo (seen start)) awaits s) (GotStmt c start)
  unfolding for_head
  for_head_sure c start awaits s o = test_sure s.commas (kind (seen s)) semicolon_kind _ _ _
      (λ _. if_sure s.commas awaits _ _ _ (λ _. record { so = tt }) (λ a. for_rest_sure c start absent s (λ p x y z i r q t w. (seen s, seen s, i, opened c start awaits (seen s) a o, refl, t, w, q)))) (λ _.
      if_sure s.commas (eqb (kind (seen s)) var_kind || (eqb (kind (seen s)) const_kind || starts_let lm inner s)) _ _ _ (λ v. variables_sure c start awaits s o (var_word (eqb (kind (seen s)) var_kind) (eqb (kind (seen s)) let_kind) (eqb (kind (seen s)) const_kind) _ v)) (λ _.
      if_sure s.commas (starts_using lm inner c s && not (eqb (kind2 (seen s)) of_kind)) _ _ _ (λ z. let b = and_parts (starts_using lm inner c s) (not (eqb (kind2 (seen s)) of_kind)) z in
      let d = and_parts c.syntax.explicit_resource_management _ b.0 in let i = and_parts (eqb (kind (seen s)) using_kind) (may_name (kind2 (seen s)) && not (brk2 (seen s))) d.1 in let j = and_parts (may_name (kind2 (seen s))) (not (brk2 (seen s))) i.1 in
      using_sure c start awaits s false s o b.1 (λ ds r t k. (seen (next s), d.0, t, not-true (brk2 (seen s)) j.1, no_pattern (kind2 (seen s)) j.0, k)) refl) (λ _.
      if_sure s.commas (starts_await_using lm inner c s && not (eqb (kind2 (rest (seen s))) of_kind)) _ _ _ (λ z. let b = and_parts (starts_await_using lm inner c s) (not (eqb (kind2 (rest (seen s))) of_kind)) z in
      let x = and_parts c.context.in_async _ b.0 in let y = and_parts (eqb (kind (seen s)) await_kind) (not (barred c.context (seen s)) && (not (brk2 (seen s)) && starts_using lm inner c (next s))) x.1 in let u = and_parts (not (barred c.context (seen s))) (not (brk2 (seen s)) && starts_using lm inner c (next s)) y.1 in
      let w = and_parts (not (brk2 (seen s))) (starts_using lm inner c (next s)) u.1 in
      let d = and_parts c.syntax.explicit_resource_management _ w.1 in let i = and_parts (eqb (kind (seen (next s))) using_kind) (may_name (kind2 (seen (next s))) && not (brk2 (seen (next s)))) d.1 in let j = and_parts (may_name (kind2 (seen (next s)))) (not (brk2 (seen (next s)))) i.1 in
      using_sure c start awaits s true (next s) o b.1 (λ ds r t k. (seen (next s), seen (next (next s)), d.0, x.0, (eqb-true (kind (seen s)) await_kind y.0, not-true (barred c.context (seen s)) u.0, tt, refl), not-true (brk2 (seen s)) w.0, t, not-true (brk2 (seen (next s))) j.1, no_pattern (kind2 (seen (next s))) j.0, k)) refl) (λ _.
      expression_sure c start awaits s o))))

  pub for_sure : (c : Code) (s : State Input) → Sure s.commas (for_by lm inner c s) (GotStmt c s)
  unfolding for_by
  for_sure c s = word_sure c for_kind s _ _ (λ e b. test_sure s.commas (kind (seen (next s))) await_kind _ _ _
      (λ _. if_sure s.commas c.context.in_async _ _ _ (λ a. word_sure c await_kind (next s) _ _ (λ f d. eat_sure left_paren_kind (next (next s)) _ _ (λ o. for_head_sure c s true (next (next (next s))) (seen (next s), seen (next (next s)), a, (e, b, tt, refl), (f, d, tt, refl), (o, tt, refl))))) (λ _. record { so = tt }))
      (λ _. eat_sure left_paren_kind (next s) _ _ (λ o. for_head_sure c s false (next (next s)) (seen (next s), (e, b, tt, refl), (o, tt, refl)))))
