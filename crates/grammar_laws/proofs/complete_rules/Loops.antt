-- The `for` statements (14.7.4 and 14.7.5).
use Rattle.std.proofs.Common.{◌≡◌, ℕ, ◌<◌, ◌≤◌, inl, inr, max, Bool, true, false, not, ◌&&◌, ◌||◌, ◌==◌, eqb, List, refl, sym, ap, ◌∙◌, subst, true≢false, arith}
use Rattle.std.proofs.lemmas.Bool.{ne_eqb, eq-eqb, or_left, or_from, or_parts, and_left, and_right, and_from, not-true}
use Rattle.base_token.specs.declared.context.Context.{Context}
use Rattle.base_token.specs.declared.place.Span.{Span}
use Rattle.base_token.specs.Kinds.{arrow_kind, left_paren_kind, right_paren_kind, left_bracket_kind, left_brace_kind, semicolon_kind, function_kind, await_kind, for_kind, var_kind, let_kind, const_kind, async_kind, of_kind, in_kind, using_kind}
use Rattle.tree_spec.specs.Tree.{Tree, Trees, none, more, unpack, var_declarator, for_stmt, for_in_stmt, for_of_stmt, var_decl, using_decl, absent}
use Rattle.tree_spec.proofs.PackLemmas.{pack_unpack}
use Rattle.grammar_spec.specs.Tokens.Input.{Input, Code, kind, kind2, brk, brk2, lo, span, rest, is_word, always_reserved, without_in, Takes, TakesWord}
use Rattle.grammar_spec.specs.Tokens.Operators.{expression_level, assignment_level, may_name, binding_end, goes_expr}
use Rattle.grammar_spec.specs.Tokens.Shape.{level, ends, is_absent, is_declarator, is_bare_declarator, declarator_end, declarators_end}
use Rattle.grammar_spec.specs.Children.{child, Sorted, Commas}
use Rattle.grammar_spec.specs.Statements.{Clause, ForRest, ForOpen, ForAwaitOpen, ForExpression, ForIn, ForOf, Sub, Over, OneBare, HeadTarget, OfTarget, Bindings, UsingBindings, is_var_word, starts_head, starts_using as head_using}
use Rattle.grammar_spec.specs.Grammar.{Produces, children}
use Rattle.grammar_spec.specs.Reader.Source.{State, Inner}
use Rattle.grammar_spec.specs.Reader.Statements.{clause_by, for_rest, over_rest, in_rest, of_rest, one_bare, head_rest, for_variables, for_using, for_expression_rest, for_expression, for_head, for_by, sub_by, declarators_by, starts_let, starts_using, starts_await_using}
use Rattle.grammar_laws.proofs.complete_base.Yields.{lm, from, coded, Reads, Is, then_is, then_reads, then_eat, then_word, onto, here, past_here, if_no, if_yes}
use Rattle.grammar_laws.proofs.complete_base.Levels.{calm_by, Follow, Asked, quiet, ends_operand}
use Rattle.grammar_laws.proofs.complete_rules.Lists.{one_asked, two_asked}
use Rattle.grammar_laws.proofs.complete_base.Trees.{by_cases}
use Rattle.grammar_laws.proofs.complete_rules.Nested.{Nested, IsHead, leaves}
use Rattle.grammar_laws.proofs.complete_rules.Within.{Within, Withins, within, withins}
use Rattle.grammar_laws.proofs.complete_rules.Follows.{halts, halted, goes_nowhere, built, lifted}
use Rattle.grammar_laws.proofs.complete_rules.Starts.{opens, Opening, After, opening, level_opener, place_opener, no_open}
use Rattle.grammar_laws.proofs.complete_rules.Simple.{one_found, stmt_found}
use Rattle.grammar_laws.proofs.complete_rules.Variables.{Settled, settled_at, bare_settled, declarators_found, declarators_start, var_on, using_on, await_on, no_using, no_await_using, no_let}
use Rattle.grammar_laws.proofs.Shapes.{absent_is}

-- ---- what follows a head

-- a semicolon, `in`, `of`
pub record Closes (m : Input) : Type 0 where
  pub name : may_name (kind m) ≡ true → kind m ≡ of_kind
  pub brace : eqb (kind m) left_brace_kind ≡ false

closes_at : (m : Input) (k : ℕ) → kind m ≡ k → (may_name k ≡ true → k ≡ of_kind) → eqb k left_brace_kind ≡ false → Closes m
closes_at m k q n b = record { name = λ h. q ∙ n (subst (λ (k : ℕ). may_name k ≡ true) q h); brace = subst (λ (k : ℕ). eqb k left_brace_kind ≡ false) (sym q) b }

-- no `of` after a name that starts a declaration
abbrev no_of : Input → Bool
no_of x = not (kind x == of_kind)

of_follows : (c : Code) (e : ℕ) (m : Input) → e ≤ 1 → kind m ≡ of_kind → eqb (kind2 m) arrow_kind ≡ false → Follow c e 1 m
of_follows c e m le q a = let z : goes_expr c e m ≡ 0 = goes_nowhere c e m (subst (λ (k : ℕ). halts c k ≡ true) (sym q) refl) in
    record { stop = omega (arith, z); calm = λ _ _. calm_by of_kind m q refl; sober = by_line (brk m) (kind m == function_kind) (is_word (kind m) && not (always_reserved (kind m))) (kind2 m == arrow_kind) (not (brk2 m)) (subst (λ (k : ℕ). eqb k function_kind ≡ false) (sym q) refl) a; quits = λ u. absurd (omega (arith, u, le)) }
  where
    by_line : (b f x y v : Bool) → f ≡ false → y ≡ false → (b || not (f || (x && (not b && y && v)))) ≡ true
    by_line true f x y v e h = refl
    by_line false true x y v e h = absurd (true≢false e)
    by_line false false true true v e h = absurd (true≢false h)
    by_line false false true false v e h = refl
    by_line false false false y v e h = refl

bare_one : (d : Tree) → is_bare_declarator d ≡ true → declarator_end d ≡ binding_end
bare_one (var_declarator s n absent) h = refl
bare_one _ h = absurd (true≢false (sym h))

bare_end : (ds : Trees) → OneBare (children ds) → declarators_end ds ≡ binding_end
bare_end none h = absurd h
bare_end (more d none) h = bare_one d h.1
bare_end (more d (more x xs)) h = absurd h.0

bare_on : (inner : Inner Input) (ds : Trees) → OneBare (children ds) → one_bare lm inner (unpack ds) ≡ true
bare_on inner none h = absurd h
bare_on inner (more d none) h = h.1
bare_on inner (more d (more x xs)) h = absurd h.0

retyped : (x y : Context) {t : Tree} (m n : Input) → x.in_async ≡ y.in_async → Opening y t m n → Opening x t m n
retyped x y m n e o = record { first = o.first; second = o.second; third = λ a b u. o.third a (sym e ∙ b) u; imports = o.imports }

module _ (z : Nested) (p : Bool) (c : Code) where
  -- ---- the two clauses between semicolons, and the body

  clause_found : (close : ℕ) (e : Tree) (m n : Input) (k : List ℕ) → halts c close ≡ true → quiet close ≡ true → ends_operand close ≡ true → opens close ≡ false → z.Covered e → Clause (coded p c) close (child e (λ y. Produces e y)) m n → Reads (from m k) (clause_by lm z.inner c close (from m k)) (Is e n) (z.depth < z.reach e)
  unfolding clause_by
  clause_found close e m n k hs qs ds os g h = by_cases (is_absent e) _ _ _ h.1
      (λ q x. if_yes (kind m == close) _ _ _ _ (eq-eqb (kind m) close (ap (λ (y : Input). kind y) x ∙ h.2.0)) (past_here (sym (absent_is e q)) (ap (λ (y : Input). rest y) x ∙ h.2.2)))
      (λ q x. if_no (kind m == close) _ _ _ _ (no_open (kind m) close (opening e (coded p c) m h.0 (level_opener e x.0) x.1).first os) (then_is (z.inner.expr c expression_level (from m k)) _ e h.0 (z.depth < z.reach e) _ _
      (one_found z p c e m h.0 k g x.0 x.1 (halted c (ends e) 1 close h.0 h.2.0 hs qs (λ _. ds) (omega arith))) (λ u. u) (λ j. then_eat close h.0 n j _ _ _ h.2.0 h.2.2 (here refl))))

  rest_found : (start : Input) (i : List ℕ) (s : Span) (x t u b : Tree) (m n r : Input) (j : List ℕ) → z.Covered t → z.Covered u → z.Covered b → Takes (coded p c) semicolon_kind m n
      → ForRest (coded p c) (child t (λ y. Produces t y)) (child u (λ y. Produces u y)) (child b (λ y. Produces b y)) n r → leaves c.context b r ≡ true → s ≡ span (lo start) r.last
      → Reads (from m j) (for_rest lm z.inner c (lo start) x (from m j)) (Is (for_stmt s x t u b) r) (z.depth < max (z.reach t) (max (z.reach u) (z.reach b)))
  unfolding for_rest
  rest_found start i s x t u b m n r j gt gu gb e h q w = then_eat semicolon_kind m n j _ _ _ e.0 e.2
      (then_is (clause_by lm z.inner c semicolon_kind (from n j)) _ t h.0 (z.depth < z.reach t) _ _ (clause_found semicolon_kind t n h.0 j refl refl refl refl gt h.2) (λ v. omega arith)
      (λ y. then_is (clause_by lm z.inner c right_paren_kind (from h.0 y)) _ u h.1 (z.depth < z.reach u) _ _ (clause_found right_paren_kind u h.0 h.1 y refl refl refl refl gu h.3) (λ v. omega arith)
      (λ y. then_is (sub_by lm z.inner c false (from h.1 y)) _ b r (z.depth < z.reach b) _ _ (stmt_found z p c b h.1 r y gb h.4 q) (λ v. omega arith) (λ y. built (λ d. for_stmt d x t u b) s start r y _ w))))

  -- ---- `in` and `of`

  over_found : (l : ℕ) (make : Span → Tree → Tree → Tree) (start : Input) (i : List ℕ) (s : Span) (e b : Tree) (m n o r : Input) (j : List ℕ) → 1 ≤ l → l < 20 → Asked l → z.Covered e → z.Covered b → l ≤ level e → Produces e (coded p c) m n → Takes (coded p c) right_paren_kind n o
      → Sub (coded p c) (child b (λ y. Produces b y)) o r → leaves c.context b r ≡ true → s ≡ span (lo start) r.last → Reads (from m j) (over_rest lm z.inner c l make (lo start) (from m j)) (Is (make s e b) r) (z.depth < max (z.reach e) (z.reach b))
  unfolding over_rest
  over_found l make start i s e b m n o r j lo hi ask ge gb le h x y q w = then_is (z.inner.expr c l (from m j)) _ e n (z.depth < z.reach e) _ _ (z.expr e p c l m n j ge h lo hi ask le (halted c (ends e) l right_paren_kind n x.0 refl refl (λ _. refl) lo)) (λ v. omega arith)
      (λ k. then_eat right_paren_kind n o k _ _ _ x.0 x.2 (then_is (sub_by lm z.inner c false (from o k)) _ b r (z.depth < z.reach b) _ _ (stmt_found z p c b o r k gb y q) (λ v. omega arith) (λ k. built (λ d. make d e b) s start r k _ w)))

  in_found : (start : Input) (i : List ℕ) (s : Span) (x e b : Tree) (m r : Input) (j : List ℕ) → z.Covered e → z.Covered b → Over (coded p c) in_kind expression_level (child e (λ y. Produces e y)) (child b (λ y. Produces b y)) m r → leaves c.context b r ≡ true → s ≡ span (lo start) r.last
      → Reads (from m j) (in_rest lm z.inner c (lo start) x (from m j)) (Is (for_in_stmt s x e b) r) (z.depth < max (z.reach e) (z.reach b))
  unfolding in_rest
  in_found start i s x e b m r j ge gb h q w = then_word c in_kind m h.0 j _ _ _ h.3.0 h.3.1 h.3.3 (over_found 1 (λ d e b. for_in_stmt d x e b) start i s e b h.0 h.1 h.2 r j (omega arith) (omega arith) one_asked ge gb h.4.0 h.4.1 h.5 h.6 q w)

  of_found : (start : Input) (i : List ℕ) (s : Span) (a : Bool) (x e b : Tree) (m r : Input) (j : List ℕ) → z.Covered e → z.Covered b → Over (coded p c) of_kind assignment_level (child e (λ y. Produces e y)) (child b (λ y. Produces b y)) m r → leaves c.context b r ≡ true → s ≡ span (lo start) r.last
      → Reads (from m j) (of_rest lm z.inner c (lo start) a x (from m j)) (Is (for_of_stmt s a x e b) r) (z.depth < max (z.reach e) (z.reach b))
  unfolding of_rest
  of_found start i s a x e b m r j ge gb h q w = then_word c of_kind m h.0 j _ _ _ h.3.0 h.3.1 h.3.3 (over_found 2 (λ d e b. for_of_stmt d a x e b) start i s e b h.0 h.1 h.2 r j (omega arith) (omega arith) two_asked ge gb h.4.0 h.4.1 h.5 h.6 q w)

  -- what starts an expression doesn't stand after `of` as an arrow
  of_arrow : (e b : Tree) (m r : Input) → Over (coded p c) of_kind assignment_level (child e (λ y. Produces e y)) (child b (λ y. Produces b y)) m r → eqb (kind2 m) arrow_kind ≡ false
  of_arrow e b m r h = subst (λ (y : Input). eqb (kind y) arrow_kind ≡ false) (sym h.3.3) (no_open (kind h.0) arrow_kind (opening e (coded p c) h.0 h.1 (level_opener e (omega (arith, h.4.0))) h.4.1).first refl)

  -- ---- after a head that declares

  module _ (start : Input) (i : List ℕ) where
    declared_of : (s : Span) (a : Bool) (ds : Trees) (x e b : Tree) (m r : Input) (j : List ℕ) → OneBare (children ds) → z.Covered e → z.Covered b → Over (coded p c) of_kind assignment_level (child e (λ y. Produces e y)) (child b (λ y. Produces b y)) m r → leaves c.context b r ≡ true → s ≡ span (lo start) r.last
        → Reads (from m j) (head_rest lm z.inner c (lo start) a (unpack ds) x (from m j)) (Is (for_of_stmt s a x e b) r) (z.depth < max (z.reach e) (z.reach b))
    unfolding head_rest
    declared_of s a ds x e b m r j o ge gb h q w = if_yes (kind m == of_kind) _ _ _ _ (eq-eqb (kind m) of_kind h.3.0) (if_yes (one_bare lm z.inner (unpack ds)) _ _ _ _ (bare_on z.inner ds o) (of_found start i s a x e b m r j ge gb h q w))

    declared_in : (s : Span) (ds : Trees) (x e b : Tree) (m r : Input) (j : List ℕ) → OneBare (children ds) → z.Covered e → z.Covered b → Over (coded p c) in_kind expression_level (child e (λ y. Produces e y)) (child b (λ y. Produces b y)) m r → leaves c.context b r ≡ true → s ≡ span (lo start) r.last
        → Reads (from m j) (head_rest lm z.inner c (lo start) false (unpack ds) x (from m j)) (Is (for_in_stmt s x e b) r) (z.depth < max (z.reach e) (z.reach b))
    unfolding head_rest
    declared_in s ds x e b m r j o ge gb h q w = if_no (kind m == of_kind) _ _ _ _ (subst (λ (k : ℕ). eqb k of_kind ≡ false) (sym h.3.0) refl)
        (if_yes (kind m == in_kind) _ _ _ _ (eq-eqb (kind m) in_kind h.3.0) (if_yes (one_bare lm z.inner (unpack ds)) _ _ _ _ (bare_on z.inner ds o) (in_found start i s x e b m r j ge gb h q w)))

    declared_rest : (s : Span) (ds : List Tree) (x t u b : Tree) (m n r : Input) (j : List ℕ) → z.Covered t → z.Covered u → z.Covered b → Takes (coded p c) semicolon_kind m n
        → ForRest (coded p c) (child t (λ y. Produces t y)) (child u (λ y. Produces u y)) (child b (λ y. Produces b y)) n r → leaves c.context b r ≡ true → s ≡ span (lo start) r.last
        → Reads (from m j) (head_rest lm z.inner c (lo start) false ds x (from m j)) (Is (for_stmt s x t u b) r) (z.depth < max (z.reach t) (max (z.reach u) (z.reach b)))
    unfolding head_rest
    declared_rest s ds x t u b m n r j gt gu gb e h q w = if_no (kind m == of_kind) _ _ _ _ (subst (λ (k : ℕ). eqb k of_kind ≡ false) (sym e.0) refl)
        (if_no (kind m == in_kind) _ _ _ _ (subst (λ (k : ℕ). eqb k in_kind ≡ false) (sym e.0) refl) (rest_found start i s x t u b m n r j gt gu gb e h q w))

    -- ---- heads

    module _ (a : Bool) (V : Tree × State Input → Type 0) (Q : Type 0) where
      variables_head : (own : Span) (o : ℕ) (ds : Trees) (m n : Input) (j : List ℕ) → Withins z.Covered ds → Bindings (without_in (coded p c)) o (children ds) m n → own ≡ span (lo m) n.last → Settled (without_in c) (declarators_end ds) n → (z.depth < withins z.reach ds → Q)
          → ((k : List ℕ) → Reads (from n k) (head_rest lm z.inner c (lo start) a (unpack ds) (var_decl own o ds) (from n k)) V Q) → Reads (from m j) (for_head lm z.inner c (lo start) a (from m j)) V Q
      unfolding for_head for_variables
      variables_head own o ds m n j g h w t f y =
          if_no (kind m == semicolon_kind) _ _ _ _ (no_semicolon h.1) (if_yes ((kind m == var_kind) || ((kind m == const_kind) || starts_let lm z.inner (from m j))) _ _ _ _ (var_on z.inner o m h.0 j h.1 h.2.0 h.2.3 (declarators_start ds _ h.0 n h.3))
          (then_word c (kind m) m h.0 j _ _ _ refl h.2.1 h.2.3 (then_is (declarators_by lm z.inner (without_in c) (from h.0 j)) _ (unpack ds) n (z.depth < withins z.reach ds) _ _ (declarators_found z p (without_in c) ds h.0 n j g h.3 t) f
          (λ k. subst (λ (x : Tree). Reads (from n k) (head_rest lm z.inner c (lo start) a (unpack ds) x (from n k)) V Q)
          (ap (λ (x : Span). var_decl x o ds) w ∙ ap (λ (x : ℕ). var_decl (span (lo m) n.last) x ds) (sym h.2.0) ∙ ap (λ (x : Trees). var_decl (span (lo m) n.last) (kind m) x) (sym (pack_unpack ds))) (y k)))))
        where
          no_semicolon : is_var_word o ≡ true → eqb (kind m) semicolon_kind ≡ false
          no_semicolon v = ne_eqb (kind m) semicolon_kind (λ q. true≢false (sym v ∙ ap is_var_word (sym h.2.0 ∙ q)))

      using_rest : (own : Span) (v : Bool) (ds : Trees) (l m n o : Input) (k j : List ℕ) → Withins z.Covered ds → TakesWord (without_in (coded p c)) using_kind m n → Commas (Sorted is_declarator (without_in (coded p c))) (without_in (coded p c)) (children ds) n o → own ≡ span (lo l) o.last
          → Settled (without_in c) (declarators_end ds) o → (z.depth < withins z.reach ds → Q) → ((k : List ℕ) → Reads (from o k) (head_rest lm z.inner c (lo start) a (unpack ds) (using_decl own v ds) (from o k)) V Q)
          → Reads (from m j) (for_using lm z.inner c (lo start) a (lo l) v (from m j)) V Q
      unfolding for_using
      using_rest own v ds l m n o k j g e h w t f y = then_word c using_kind m n j _ _ _ e.0 e.1 e.3 (then_is (declarators_by lm z.inner (without_in c) (from n j)) _ (unpack ds) o (z.depth < withins z.reach ds) _ _ (declarators_found z p (without_in c) ds n o j g h t) f
          (λ k. subst (λ (x : Tree). Reads (from o k) (head_rest lm z.inner c (lo start) a (unpack ds) x (from o k)) V Q) (ap (λ (x : Span). using_decl x v ds) w ∙ ap (λ (x : Trees). using_decl (span (lo l) o.last) v x) (sym (pack_unpack ds))) (y k)))

      using_head : (own : Span) (v : Bool) (ds : Trees) (m n : Input) (j : List ℕ) → Withins z.Covered ds → head_using v m ≡ true → UsingBindings (without_in (coded p c)) v (children ds) m n → own ≡ span (lo m) n.last → Settled (without_in c) (declarators_end ds) n
          → (z.depth < withins z.reach ds → Q) → ((k : List ℕ) → Reads (from n k) (head_rest lm z.inner c (lo start) a (unpack ds) (using_decl own v ds) (from n k)) V Q) → Reads (from m j) (for_head lm z.inner c (lo start) a (from m j)) V Q
      unfolding for_head
      using_head own false ds m n j g nf h w t f y =
          if_no (kind m == semicolon_kind) _ _ _ _ (is_no semicolon_kind h.2.0 refl) (if_no ((kind m == var_kind) || ((kind m == const_kind) || starts_let lm z.inner (from m j))) _ _ _ _
          (or_from (kind m == var_kind) _ (is_no var_kind h.2.0 refl) (or_from (kind m == const_kind) _ (is_no const_kind h.2.0 refl) (and_left (kind m == let_kind) _ (is_no let_kind h.2.0 refl))))
          (if_yes (starts_using lm z.inner c (from m j) && not (kind2 m == of_kind)) _ _ _ _ (and_from (starts_using lm z.inner c (from m j)) _ (using_on z.inner c m h.0 j h.1 h.2.0 h.2.3 h.3 h.4 (declarators_start ds _ h.0 n h.5)) nf)
          (using_rest own false ds m m h.0 n j j g h.2 h.5 w t f y)))
        where
          is_no : (k : ℕ) → kind m ≡ using_kind → eqb using_kind k ≡ false → eqb (kind m) k ≡ false
          is_no k q e = subst (λ (x : ℕ). eqb x k ≡ false) (sym q) e
      using_head own true ds m n j g nf h w t f y =
          if_no (kind m == semicolon_kind) _ _ _ _ (is_no semicolon_kind h.4.0 refl) (if_no ((kind m == var_kind) || ((kind m == const_kind) || starts_let lm z.inner (from m j))) _ _ _ _
          (or_from (kind m == var_kind) _ (is_no var_kind h.4.0 refl) (or_from (kind m == const_kind) _ (is_no const_kind h.4.0 refl) (and_left (kind m == let_kind) _ (is_no let_kind h.4.0 refl))))
          (if_no (starts_using lm z.inner c (from m j) && not (kind2 m == of_kind)) _ _ _ _ (and_left (starts_using lm z.inner c (from m j)) _ (and_right c.syntax.explicit_resource_management _ (and_left (kind m == using_kind) _ (is_no using_kind h.4.0 refl))))
          (if_yes (starts_await_using lm z.inner c (from m j) && not (kind2 (rest m) == of_kind)) _ _ _ _
          (and_from (starts_await_using lm z.inner c (from m j)) _ (await_on z.inner c m h.0 j h.3 h.4.0 h.4.1 h.4.3 h.5 (using_on z.inner c h.0 h.1 j h.2 h.6.0 h.6.3 h.7 h.8 (declarators_start ds _ h.1 n h.9))) nf)
          (onto m h.0 j (λ x. for_using lm z.inner c (lo start) a (lo m) true x) V Q h.4.3 (using_rest own true ds m h.0 h.1 n j j g h.6 h.9 w t f y)))))
        where
          is_no : (k : ℕ) → kind m ≡ await_kind → eqb await_kind k ≡ false → eqb (kind m) k ≡ false
          is_no k q e = subst (λ (x : ℕ). eqb x k ≡ false) (sym q) e

      -- an expression or a target, which starts no declaration
      expression_head : {t : Tree} (m n : Input) (j : List ℕ) → Opening c.context t m n → starts_head m ≡ true → Closes n → (kind m ≡ let_kind → may_name (kind n) ≡ false) → Reads (from m j) (for_expression lm z.inner c (lo start) a (from m j)) V Q → Reads (from m j) (for_head lm z.inner c (lo start) a (from m j)) V Q
      unfolding for_head
      expression_head m n j o s e l y =
          if_no (kind m == semicolon_kind) _ _ _ _ (no_open (kind m) semicolon_kind o.first refl) (if_no ((kind m == var_kind) || ((kind m == const_kind) || starts_let lm z.inner (from m j))) _ _ _ _
          (or_from (kind m == var_kind) _ (no_open (kind m) var_kind o.first refl) (or_from (kind m == const_kind) _ (no_open (kind m) const_kind o.first refl) (no_let z.inner c.context m n j o (not-true _ s) (λ q _. ap not (or_from (may_name (kind n)) _ (l q) e.brace)))))
          (if_no (starts_using lm z.inner c (from m j) && not (kind2 m == of_kind)) _ _ _ _ (no_using z.inner c no_of m n j o lead_off)
          (if_no (starts_await_using lm z.inner c (from m j) && not (kind2 (rest m) == of_kind)) _ _ _ _ (no_await_using z.inner c no_of m n j o lead_off) y)))
        where
          of_last : (v b w : Bool) → (v ≡ true → w ≡ false) → (v && b && w) ≡ false
          of_last true true w f = f refl
          of_last true false w f = refl
          of_last false b w f = refl

          lead_off : (x : Input) → After x n → (may_name (kind x) && not (brk x) && no_of x) ≡ false
          lead_off x (inl q) = of_last (may_name (kind x)) (not (brk x)) (no_of x) (λ v. ap not (eq-eqb (kind x) of_kind (ap (λ (d : Input). kind d) q ∙ e.name (subst (λ (d : Input). may_name (kind d) ≡ true) q v))))
          lead_off x (inr q) = of_last (may_name (kind x)) (not (brk x)) (no_of x) (λ v. absurd (true≢false (sym v ∙ (or_parts (may_name (kind x)) _ (not-true _ q)).0)))

    -- ---- expressions and targets

    expressed : (s : Span) (x t u b : Tree) (m n o r : Input) (j : List ℕ) → z.Covered x → z.Covered t → z.Covered u → z.Covered b → starts_head m ≡ true → 1 ≤ level x → Produces x (coded p (without_in c)) m n → Takes (coded p c) semicolon_kind n o
        → ForRest (coded p c) (child t (λ y. Produces t y)) (child u (λ y. Produces u y)) (child b (λ y. Produces b y)) o r → leaves c.context b r ≡ true → s ≡ span (lo start) r.last
        → Reads (from m j) (for_expression lm z.inner c (lo start) false (from m j)) (Is (for_stmt s x t u b) r) (z.depth < max (z.reach x) (max (z.reach t) (max (z.reach u) (z.reach b))))
    unfolding for_expression for_expression_rest
    expressed s x t u b m n o r j gx gt gu gb sh le v e h q w = if_no ((kind m == let_kind) && (kind2 m == left_bracket_kind)) _ _ _ _ (not-true _ sh)
        (then_is (z.inner.expr (without_in c) expression_level (from m j)) _ x n (z.depth < z.reach x) _ _ (one_found z p (without_in c) x m n j gx le v (halted (without_in c) (ends x) 1 semicolon_kind n e.0 refl refl (λ _. refl) (omega arith))) (λ d. omega arith)
        (λ k. if_no (kind n == of_kind) _ _ _ _ (subst (λ (y : ℕ). eqb y of_kind ≡ false) (sym e.0) refl) (if_no (kind n == in_kind) _ _ _ _ (subst (λ (y : ℕ). eqb y in_kind ≡ false) (sym e.0) refl)
        (lifted (rest_found start i s x t u b n o r k gt gu gb e h q w) (λ d. omega arith)))))

    targeted_in : (s : Span) (x e b : Tree) (m n r : Input) (j : List ℕ) → z.Covered x → z.Covered e → z.Covered b → HeadTarget (coded p c) (child x (λ y. Produces x y)) m n → Over (coded p c) in_kind expression_level (child e (λ y. Produces e y)) (child b (λ y. Produces b y)) n r
        → leaves c.context b r ≡ true → s ≡ span (lo start) r.last → Reads (from m j) (for_expression lm z.inner c (lo start) false (from m j)) (Is (for_in_stmt s x e b) r) (z.depth < max (z.reach x) (max (z.reach e) (z.reach b)))
    unfolding for_expression for_expression_rest
    targeted_in s x e b m n r j gx ge gb h v q w = if_no ((kind m == let_kind) && (kind2 m == left_bracket_kind)) _ _ _ _ (not-true _ h.0)
        (then_reads (z.inner.expr (without_in c) expression_level (from m j)) _ (IsHead x n) (z.depth < z.reach x) _ _ (z.head x p (without_in c) m n j gx h.1 h.2 (λ d u. halted (without_in c) d 1 in_kind n v.3.0 refl refl (λ _. refl) (omega arith))) (λ d. omega arith)
        (λ y u. subst (λ (k : Input). Reads (from k y.1.commas) (for_expression_rest lm z.inner c (lo start) false (from m j) y.0 (from k y.1.commas)) (Is (for_in_stmt s x e b) r) (z.depth < max (z.reach x) (max (z.reach e) (z.reach b)))) (sym u.1)
        (if_no (kind n == of_kind) _ _ _ _ (subst (λ (k : ℕ). eqb k of_kind ≡ false) (sym v.3.0) refl) (if_yes (kind n == in_kind) _ _ _ _ (eq-eqb (kind n) in_kind v.3.0)
        (rw u.0 (lifted (in_found start i s x e b n r y.1.commas ge gb v q w) (λ d. omega arith)))))))

    targeted_of : (s : Span) (a : Bool) (x e b : Tree) (m n r : Input) (j : List ℕ) → z.Covered x → z.Covered e → z.Covered b → OfTarget (coded p c) a (child x (λ y. Produces x y)) m n → Over (coded p c) of_kind assignment_level (child e (λ y. Produces e y)) (child b (λ y. Produces b y)) n r
        → leaves c.context b r ≡ true → s ≡ span (lo start) r.last → Reads (from m j) (for_expression lm z.inner c (lo start) a (from m j)) (Is (for_of_stmt s a x e b) r) (z.depth < max (z.reach x) (max (z.reach e) (z.reach b)))
    unfolding for_expression for_expression_rest
    targeted_of s a x e b m n r j gx ge gb h v q w = if_no ((kind m == let_kind) && (kind2 m == left_bracket_kind)) _ _ _ _ (not-true _ h.1.0)
        (then_reads (z.inner.expr (without_in c) expression_level (from m j)) _ (IsHead x n) (z.depth < z.reach x) _ _ (z.head x p (without_in c) m n j gx h.1.1 h.1.2 (λ d u. of_follows (without_in c) d n u v.3.0 (of_arrow e b n r v))) (λ d. omega arith)
        (λ y u. subst (λ (k : Input). Reads (from k y.1.commas) (for_expression_rest lm z.inner c (lo start) a (from m j) y.0 (from k y.1.commas)) (Is (for_of_stmt s a x e b) r) (z.depth < max (z.reach x) (max (z.reach e) (z.reach b)))) (sym u.1)
        (if_yes (kind n == of_kind) _ _ _ _ (eq-eqb (kind n) of_kind v.3.0) (if_no ((kind m == let_kind) || (not a && ((kind m == async_kind) && (kind2 m == of_kind)))) _ _ _ _ (not-true _ h.0)
        (rw u.0 (lifted (of_found start i s a x e b n r y.1.commas ge gb v q w) (λ d. omega arith)))))))

  -- ---- the statements

  module _ (ts : Input) (k : List ℕ) (V : Tree × State Input → Type 0) (Q : Type 0) where
    opened : (m : Input) → ForOpen (coded p c) ts m → ((j : List ℕ) → Reads (from m j) (for_head lm z.inner c (lo ts) false (from m j)) V Q) → Reads (from ts k) (for_by lm z.inner c (from ts k)) V Q
    unfolding for_by
    opened m h y = then_word c for_kind ts h.0 k _ _ _ h.1.0 h.1.1 h.1.3 (if_no (kind h.0 == await_kind) _ _ _ _ (subst (λ (x : ℕ). eqb x await_kind ≡ false) (sym h.2.0) refl) (then_eat left_paren_kind h.0 m k _ _ _ h.2.0 h.2.2 (y k)))

    await_opened : (a : Bool) (m : Input) → ForAwaitOpen a (coded p c) ts m → ((j : List ℕ) → Reads (from m j) (for_head lm z.inner c (lo ts) a (from m j)) V Q) → Reads (from ts k) (for_by lm z.inner c (from ts k)) V Q
    unfolding for_by
    await_opened false m h y = opened m h y
    await_opened true m h y = then_word c for_kind ts h.0 k _ _ _ h.3.0 h.3.1 h.3.3 (if_yes (kind h.0 == await_kind) _ _ _ _ (eq-eqb (kind h.0) await_kind h.4.0) (if_yes c.context.in_async _ _ _ _ h.2
        (then_word c await_kind h.0 h.1 k _ _ _ h.4.0 h.4.1 h.4.3 (then_eat left_paren_kind h.1 m k _ _ _ h.5.0 h.5.2 (y k)))))

  module _ (ts : Input) (k : List ℕ) (r : Input) where
    semicolon_head : (m : Input) (j : List ℕ) (V : Tree × State Input → Type 0) (Q : Type 0) → kind m ≡ semicolon_kind → Reads (from m j) (for_rest lm z.inner c (lo ts) absent (from m j)) V Q → Reads (from m j) (for_head lm z.inner c (lo ts) false (from m j)) V Q
    unfolding for_head
    semicolon_head m j V Q e y = if_yes (kind m == semicolon_kind) _ _ _ _ (eq-eqb (kind m) semicolon_kind e) y

    empty_found : (s : Span) (t u b : Tree) (m n o : Input) → z.Covered t → z.Covered u → z.Covered b → ForOpen (coded p c) ts m → m ≡ n → Takes (coded p c) semicolon_kind n o → ForRest (coded p c) (child t (λ y. Produces t y)) (child u (λ y. Produces u y)) (child b (λ y. Produces b y)) o r
        → leaves c.context b r ≡ true → s ≡ span (lo ts) r.last → Reads (from ts k) (for_by lm z.inner c (from ts k)) (Is (for_stmt s absent t u b) r) (z.depth < max (z.reach t) (max (z.reach u) (z.reach b)))
    empty_found s t u b m n o gt gu gb h e v f q w = opened ts k _ _ m h (λ j. subst (λ (y : Input). Reads (from y j) (for_head lm z.inner c (lo ts) false (from y j)) (Is (for_stmt s absent t u b) r) (z.depth < max (z.reach t) (max (z.reach u) (z.reach b)))) (sym e)
        (semicolon_head n j _ _ v.0 (rest_found ts k s absent t u b n o r j gt gu gb v f q w)))

    pub plain_found : (s : Span) (x t u b : Tree) → z.Covered x × z.Covered t × z.Covered u × z.Covered b → ForExpression (coded p c) s (child x (λ y. Produces x y)) (child t (λ y. Produces t y)) (child u (λ y. Produces u y)) (child b (λ y. Produces b y)) ts r → leaves c.context b r ≡ true
        → Reads (from ts k) (for_by lm z.inner c (from ts k)) (Is (for_stmt s x t u b) r) (z.depth < max (z.reach x) (max (z.reach t) (max (z.reach u) (z.reach b))))
    plain_found s x t u b g h q = by_cases (is_absent x) _ _ _ h.4
        (λ e y. subst (λ (x : Tree). Reads (from ts k) (for_by lm z.inner c (from ts k)) (Is (for_stmt s x t u b) r) (z.depth < max (z.reach x) (max (z.reach t) (max (z.reach u) (z.reach b))))) (sym (absent_is x e))
        (lifted (empty_found s t u b h.0 h.1 h.2 g.1 g.2 g.3 h.3 y h.5 h.6 q h.7) (λ d. omega arith)))
        (λ e y. opened ts k _ _ h.0 h.3 (λ j. expression_head ts k false _ _ h.0 h.1 j (retyped c.context _ h.0 h.1 refl (opening x (coded p (without_in c)) h.0 h.1 (level_opener x y.1.0) y.1.1)) y.0
        (closes_at h.1 semicolon_kind h.5.0 (λ d. absurd (true≢false (sym d))) refl) (λ d. subst (λ (k : ℕ). may_name k ≡ false) (sym h.5.0) refl)
        (expressed ts k s x t u b h.0 h.1 h.2 r j g.0 g.1 g.2 g.3 y.0 y.1.0 y.1.1 h.5 h.6 q h.7)))

    pub variables_found : (s v : Span) (o : ℕ) (ds : Trees) (t u b : Tree) → Within z.Covered (for_stmt s (var_decl v o ds) t u b) → Produces (for_stmt s (var_decl v o ds) t u b) (coded p c) ts r → leaves c.context b r ≡ true
        → Reads (from ts k) (for_by lm z.inner c (from ts k)) (Is (for_stmt s (var_decl v o ds) t u b) r) (z.depth < within z.reach (for_stmt s (var_decl v o ds) t u b))
    variables_found s v o ds t u b g h q = opened ts k _ _ h.0 h.3 (λ j. variables_head ts k false _ _ v o ds h.0 h.1 j g.0 h.4 h.5 (settled_at (without_in c) (declarators_end ds) semicolon_kind h.1 h.6.0 refl refl refl refl refl) (λ d. omega arith)
        (λ i. lifted (declared_rest ts k s (unpack ds) (var_decl v o ds) t u b h.1 h.2 r i g.1 g.2 g.3 h.6 h.7 q h.8) (λ d. omega arith)))

    pub using_found : (s v : Span) (w : Bool) (ds : Trees) (t u b : Tree) → Within z.Covered (for_stmt s (using_decl v w ds) t u b) → Produces (for_stmt s (using_decl v w ds) t u b) (coded p c) ts r → leaves c.context b r ≡ true
        → Reads (from ts k) (for_by lm z.inner c (from ts k)) (Is (for_stmt s (using_decl v w ds) t u b) r) (z.depth < within z.reach (for_stmt s (using_decl v w ds) t u b))
    using_found s v w ds t u b g h q = opened ts k _ _ h.0 h.3 (λ j. using_head ts k false _ _ v w ds h.0 h.1 j g.0 h.4 h.5 h.6 (settled_at (without_in c) (declarators_end ds) semicolon_kind h.1 h.7.0 refl refl refl refl refl) (λ d. omega arith)
        (λ i. lifted (declared_rest ts k s (unpack ds) (using_decl v w ds) t u b h.1 h.2 r i g.1 g.2 g.3 h.7 h.8 q h.9) (λ d. omega arith)))

    -- `in`
    pub in_variables : (s v : Span) (o : ℕ) (ds : Trees) (e b : Tree) → Within z.Covered (for_in_stmt s (var_decl v o ds) e b) → Produces (for_in_stmt s (var_decl v o ds) e b) (coded p c) ts r → leaves c.context b r ≡ true
        → Reads (from ts k) (for_by lm z.inner c (from ts k)) (Is (for_in_stmt s (var_decl v o ds) e b) r) (z.depth < within z.reach (for_in_stmt s (var_decl v o ds) e b))
    in_variables s v o ds e b g h q = opened ts k _ _ h.0 h.2 (λ j. variables_head ts k false _ _ v o ds h.0 h.1 j g.0 h.3.1 h.3.2 (bare_settled (without_in c) (declarators_end ds) in_kind h.1 (bare_end ds h.3.0) h.4.3.0 refl refl) (λ d. omega arith)
        (λ i. lifted (declared_in ts k s ds (var_decl v o ds) e b h.1 r i h.3.0 g.1 g.2 h.4 q h.5) (λ d. omega arith)))

    pub in_using : (s v : Span) (w : Bool) (ds : Trees) (e b : Tree) → Within z.Covered (for_in_stmt s (using_decl v w ds) e b) → Produces (for_in_stmt s (using_decl v w ds) e b) (coded p c) ts r → leaves c.context b r ≡ true
        → Reads (from ts k) (for_by lm z.inner c (from ts k)) (Is (for_in_stmt s (using_decl v w ds) e b) r) (z.depth < within z.reach (for_in_stmt s (using_decl v w ds) e b))
    in_using s v w ds e b g h q = opened ts k _ _ h.0 h.2 (λ j. using_head ts k false _ _ v w ds h.0 h.1 j g.0 h.3.1 h.3.2 h.3.3 (bare_settled (without_in c) (declarators_end ds) in_kind h.1 (bare_end ds h.3.0) h.4.3.0 refl refl) (λ d. omega arith)
        (λ i. lifted (declared_in ts k s ds (using_decl v w ds) e b h.1 r i h.3.0 g.1 g.2 h.4 q h.5) (λ d. omega arith)))

    pub in_target : (s : Span) (x e b : Tree) → z.Covered x × z.Covered e × z.Covered b → ForIn (coded p c) s (λ m n. HeadTarget (coded p c) (child x (λ y. Produces x y)) m n) (child e (λ y. Produces e y)) (child b (λ y. Produces b y)) ts r → leaves c.context b r ≡ true
        → Reads (from ts k) (for_by lm z.inner c (from ts k)) (Is (for_in_stmt s x e b) r) (z.depth < max (z.reach x) (max (z.reach e) (z.reach b)))
    in_target s x e b g h q = opened ts k _ _ h.0 h.2 (λ j. expression_head ts k false _ _ h.0 h.1 j (retyped c.context _ h.0 h.1 refl (opening x (coded p (without_in c)) h.0 h.1 (place_opener x h.3.1) h.3.2)) h.3.0
        (closes_at h.1 in_kind h.4.3.0 (λ d. absurd (true≢false (sym d))) refl) (λ d. subst (λ (k : ℕ). may_name k ≡ false) (sym h.4.3.0) refl) (targeted_in ts k s x e b h.0 h.1 r j g.0 g.1 g.2 h.3 h.4 q h.5))

    -- `of`
    pub of_variables : (s : Span) (a : Bool) (v : Span) (o : ℕ) (ds : Trees) (e b : Tree) → Within z.Covered (for_of_stmt s a (var_decl v o ds) e b) → Produces (for_of_stmt s a (var_decl v o ds) e b) (coded p c) ts r → leaves c.context b r ≡ true
        → Reads (from ts k) (for_by lm z.inner c (from ts k)) (Is (for_of_stmt s a (var_decl v o ds) e b) r) (z.depth < within z.reach (for_of_stmt s a (var_decl v o ds) e b))
    of_variables s a v o ds e b g h q = await_opened ts k _ _ a h.0 h.2 (λ j. variables_head ts k a _ _ v o ds h.0 h.1 j g.0 h.3.1 h.3.2 (bare_settled (without_in c) (declarators_end ds) of_kind h.1 (bare_end ds h.3.0) h.4.3.0 refl refl) (λ d. omega arith)
        (λ i. lifted (declared_of ts k s a ds (var_decl v o ds) e b h.1 r i h.3.0 g.1 g.2 h.4 q h.5) (λ d. omega arith)))

    pub of_using : (s : Span) (a : Bool) (v : Span) (w : Bool) (ds : Trees) (e b : Tree) → Within z.Covered (for_of_stmt s a (using_decl v w ds) e b) → Produces (for_of_stmt s a (using_decl v w ds) e b) (coded p c) ts r → leaves c.context b r ≡ true
        → Reads (from ts k) (for_by lm z.inner c (from ts k)) (Is (for_of_stmt s a (using_decl v w ds) e b) r) (z.depth < within z.reach (for_of_stmt s a (using_decl v w ds) e b))
    of_using s a v w ds e b g h q = await_opened ts k _ _ a h.0 h.2 (λ j. using_head ts k a _ _ v w ds h.0 h.1 j g.0 h.3.1 h.3.2 h.3.3 (bare_settled (without_in c) (declarators_end ds) of_kind h.1 (bare_end ds h.3.0) h.4.3.0 refl refl) (λ d. omega arith)
        (λ i. lifted (declared_of ts k s a ds (using_decl v w ds) e b h.1 r i h.3.0 g.1 g.2 h.4 q h.5) (λ d. omega arith)))

    pub of_target : (s : Span) (a : Bool) (x e b : Tree) → z.Covered x × z.Covered e × z.Covered b → ForOf (coded p c) s a (λ m n. OfTarget (coded p c) a (child x (λ y. Produces x y)) m n) (child e (λ y. Produces e y)) (child b (λ y. Produces b y)) ts r → leaves c.context b r ≡ true
        → Reads (from ts k) (for_by lm z.inner c (from ts k)) (Is (for_of_stmt s a x e b) r) (z.depth < max (z.reach x) (max (z.reach e) (z.reach b)))
    of_target s a x e b g h q = await_opened ts k _ _ a h.0 h.2 (λ j. expression_head ts k a _ _ h.0 h.1 j (retyped c.context _ h.0 h.1 refl (opening x (coded p (without_in c)) h.0 h.1 (place_opener x h.3.1.1) h.3.1.2)) h.3.1.0
        (closes_at h.1 of_kind h.4.3.0 (λ d. refl) refl) (λ d. absurd (true≢false (sym (or_left (kind h.0 == let_kind) _ (eq-eqb (kind h.0) let_kind d)) ∙ not-true _ h.3.0))) (targeted_of ts k s a x e b h.0 h.1 r j g.0 g.1 g.2 h.3 h.4 q h.5))
