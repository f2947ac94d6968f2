-- What the readers of elements answer, within the readers that a number of calls ties.
use Rattle.std.proofs.Common.{◌≡◌, ℕ, suc, ◌<◌, ◌≤◌, ◌⊎◌, inl, inr, Bool, true, false, ◌&&◌, ◌==◌, eqb, List, [], ◌∷◌, ◌++◌, Some, None, refl, sym, ap, ◌∙◌, subst, ⊎_elim, true≢false, append_assoc, append-nil, arith}
use Rattle.std.proofs.lemmas.Bool.{ne_eqb, eq-eqb, and_parts, and_from, and_right}
use Rattle.base_token.specs.declared.place.Span.{Span}
use Rattle.base_token.specs.Kinds.{comma_kind, dot_dot_dot_kind}
use Rattle.tree_spec.specs.Tree.{Tree, Trees, none, more, unpack, expr_or_spread, hole, fn_expr, class_expr, block_stmt, method_prop, getter_prop, setter_prop}
use Rattle.grammar_spec.specs.Tokens.Input.{Input, Code, kind, rest, first_span, with_in}
use Rattle.grammar_spec.specs.Tokens.Operators.{assignment_level}
use Rattle.grammar_spec.specs.Tokens.Shape.{level, ends, is_element, is_hole}
use Rattle.grammar_spec.specs.Children.{IsEmpty, Sorted, Listed}
use Rattle.grammar_spec.specs.Functions.{Body}
use Rattle.grammar_spec.specs.Grammar.{Produces, children}
use Rattle.grammar_spec.specs.Reader.Source.{State, go_on, finished}
use Rattle.grammar_spec.specs.Reader.Expressions.{Elements, no_elements, element_by, after_element, element_step, elements_by, prefix_by, prop_by}
use Rattle.grammar_spec.specs.Reader.Reading.{readers}
use Rattle.grammar_laws.proofs.complete_base.Yields.{lm, from, len, coded, Is, then_is, then_eat, Loops, loop_on, loop_end, looped, Reads, here, past_here, if_no, if_yes, then_past}
use Rattle.grammar_laws.proofs.complete_base.Levels.{closes, quiet, Follow, closed_by, comma_after, Asked}
use Rattle.grammar_laws.proofs.complete_rules.Lengths.{element_taken}
use Rattle.grammar_laws.proofs.complete_base.Trees.{Covered, CoveredAll, size, sizes, reach, reaches, begins, starts, no_kind, by_cases, takes}
use Rattle.grammar_laws.proofs.Shapes.{hole_is}

-- a method, a getter or a setter of an object
abbrev pub is_method : Tree → Bool
is_method (method_prop s k f) = true
is_method (getter_prop s k b) = true
is_method (setter_prop s k a b) = true
is_method _ = false

-- What is produced so, and doesn't go on, is read by calls so deep, or they are not deep enough.
abbrev pub Finds : ℕ → ℕ → Type 0
Finds z d = (t : Tree) (p : Bool) (c : Code) (l : ℕ) (ts r : Input) (k : List ℕ) → size t < z → Covered t → Produces t (coded p c) ts r → 1 ≤ l → l < 20 → Asked l → l ≤ level t → Follow c (ends t) l r → Reads (from ts k) ((readers lm d).expr c l (from ts k)) (Is t r) (d < reach t)

-- What is nested in functions, classes and methods is read so too: what the readers of such nodes find, by calls so deep.
pub record Deep (z d : ℕ) : Type 0 where
  pub functions : (s : Span) (n f : Tree) (p : Bool) (c : Code) (l : ℕ) (ts r : Input) (k : List ℕ) → size (fn_expr s n f) < suc z → Produces (fn_expr s n f) (coded p c) ts r → Reads (from ts k) (prefix_by lm (readers lm d) c l (from ts k)) (Is (fn_expr s n f) r) (suc d < reach (fn_expr s n f))
  pub classes : (s : Span) (n t : Tree) (p : Bool) (c : Code) (l : ℕ) (ts r : Input) (k : List ℕ) → size (class_expr s n t) < suc z → Produces (class_expr s n t) (coded p c) ts r → Reads (from ts k) (prefix_by lm (readers lm d) c l (from ts k)) (Is (class_expr s n t) r) (suc d < reach (class_expr s n t))
  pub bodies : (s : Span) (ss : Trees) (p : Bool) (c : Code) (ts r : Input) (k : List ℕ) → size (block_stmt s ss) < z → Body (coded p c) s (children ss) ts r → Reads (from ts k) ((readers lm d).body c (from ts k)) (Is (block_stmt s ss) r) (d < reach (block_stmt s ss))
  pub methods : (t : Tree) (p : Bool) (c : Code) (ts r : Input) (k : List ℕ) → is_method t ≡ true → size t < z → Produces t (coded p c) ts r → Reads (from ts k) (prop_by lm (readers lm d) c (from ts k)) (Is t r) (d < reach t)

pub two_asked : Asked 2
two_asked = record { conditional = λ e. omega (arith, e); update = λ e. omega (arith, e) }

pub one_asked : Asked 1
one_asked = record { conditional = λ e. omega (arith, e); update = λ e. omega (arith, e) }

-- these elements, whatever comma follows them, and these tokens as the rest
abbrev pub Has : List Tree → Input → Elements × State Input → Type 0
Has xs r x = (x.0.items ≡ xs) × (x.1.source ≡ r)

element_starts : (x : Tree) (c : Code) (ts r : Input) → Covered x → is_element x ≡ true → Produces x c ts r → (begins (kind ts) ≡ true) ⊎ (kind ts ≡ dot_dot_dot_kind)
element_starts (expr_or_spread s None e) c ts r g q h = inl (starts e _ ts r g (omega (arith, h.0.0)) h.0.1)
element_starts (expr_or_spread s (Some d) e) c ts r g q h = inr h.1.0
element_starts _ c ts r g q h = absurd (true≢false (sym q))

module _ (z d : ℕ) (f : Finds z d) (p : Bool) (c : Code) where
  element_found : (x : Tree) (ts m : Input) (k : List ℕ) → size x < z → Covered x → is_element x ≡ true → Produces x (coded p c) ts m → ((e : ℕ) → Follow (with_in c) e 2 m) → Reads (from ts k) (element_by lm (readers lm d) c (from ts k)) (Is x m) (d < reach x)
  unfolding element_by
  element_found (expr_or_spread s None e) ts m k sz g q h w =
      if_no (eqb (kind ts) dot_dot_dot_kind) _ _ _ _ (no_kind begins (kind ts) dot_dot_dot_kind (starts e (coded p (with_in c)) ts m g (omega (arith, h.0.0)) h.0.1) refl)
      (then_is ((readers lm d).expr (with_in c) assignment_level (from ts k)) _ e m (d < reach e) _ _ (f e p (with_in c) 2 ts m k sz g h.0.1 (omega arith) (omega arith) two_asked h.0.0 (w (ends e))) (λ u. u)
      (λ j. here (ap (λ (y : Span). expr_or_spread y None e) (sym h.1))))
  element_found (expr_or_spread s (Some dots) e) ts m k sz g q h w =
      if_yes (eqb (kind ts) dot_dot_dot_kind) _ _ _ _ (eq-eqb (kind ts) dot_dot_dot_kind h.1.0)
      (then_past ts h.0 k ((readers lm d).expr (with_in c) assignment_level) _ e m (d < reach e) _ _ h.1.2 (f e p (with_in c) 2 h.0 m k sz g h.3.1 (omega arith) (omega arith) two_asked h.3.0 (w (ends e))) (λ u. u)
      (λ j. here (ap (λ (y : Span). expr_or_spread y (Some (first_span ts)) e) (sym h.4) ∙ ap (λ (y : Span). expr_or_spread s (Some y) e) (sym h.2))))
  element_found _ ts m k sz g q h w = absurd (true≢false (sym q))

  module _ (holes : Bool) (close : ℕ) (cl : closes close ≡ true) (qu : quiet close ≡ true) (nb : begins close ≡ false) where
    not_close : (x : Tree) (ts m : Input) → Covered x → is_element x ≡ true → Produces x (coded p c) ts m → eqb (kind ts) close ≡ false
    not_close x ts m g q h = ⊎_elim (λ (b : begins (kind ts) ≡ true). no_kind begins (kind ts) close b nb) (λ (e : kind ts ≡ dot_dot_dot_kind). no_kind (λ k. k == dot_dot_dot_kind) (kind ts) close (eq-eqb (kind ts) dot_dot_dot_kind e) (no_dots close cl)) (element_starts x _ ts m g q h)
      where
        no_dots : (n : ℕ) → closes n ≡ true → eqb n dot_dot_dot_kind ≡ false
        no_dots n h = no_kind closes n dot_dot_dot_kind h refl

    not_comma : (x : Tree) (ts m : Input) → Covered x → is_element x ≡ true → Produces x (coded p c) ts m → eqb (kind ts) comma_kind ≡ false
    not_comma x ts m g q h = ⊎_elim (λ (b : begins (kind ts) ≡ true). no_kind begins (kind ts) comma_kind b refl) (λ (e : kind ts ≡ dot_dot_dot_kind). no_kind (λ k. k == dot_dot_dot_kind) (kind ts) comma_kind (eq-eqb (kind ts) dot_dot_dot_kind e) refl) (element_starts x _ ts m g q h)

    pub step_comma : (x : Tree) (acc : List Tree) (b : Bool) (ts m r : Input) (k : List ℕ) → size x < z → Covered x → is_element x ≡ true → Produces x (coded p c) ts m → kind m ≡ comma_kind → rest m ≡ r
        → Reads (from ts k) (element_step lm (readers lm d) c holes close (record { items = acc; comma = b }) (from ts k)) (Is (go_on (record { items = acc ++ x ∷ []; comma = true })) r) (d < reach x)
    unfolding element_step after_element
    step_comma x acc b ts m r k sz g q h e t =
        if_no (eqb (kind ts) close) _ _ _ _ (not_close x ts m g q h) (if_no (holes && (kind ts == comma_kind)) _ _ _ _ (and_right holes _ (not_comma x ts m g q h))
        (then_is (element_by lm (readers lm d) c (from ts k)) _ x m (d < reach x) _ _ (element_found x ts m k sz g q h (λ n. comma_after (with_in c) n 2 m e (omega arith))) (λ u. u)
        (λ j. if_yes (eqb (kind m) comma_kind) _ _ _ _ (eq-eqb (kind m) comma_kind e) (past_here refl t))))

    pub step_close : (x : Tree) (acc : List Tree) (b : Bool) (ts m r : Input) (k : List ℕ) → size x < z → Covered x → is_element x ≡ true → Produces x (coded p c) ts m → kind m ≡ close → rest m ≡ r
        → Reads (from ts k) (element_step lm (readers lm d) c holes close (record { items = acc; comma = b }) (from ts k)) (Is (finished (record { items = acc ++ x ∷ []; comma = false })) r) (d < reach x)
    unfolding element_step after_element
    step_close x acc b ts m r k sz g q h e t =
        if_no (eqb (kind ts) close) _ _ _ _ (not_close x ts m g q h) (if_no (holes && (kind ts == comma_kind)) _ _ _ _ (and_right holes _ (not_comma x ts m g q h))
        (then_is (element_by lm (readers lm d) c (from ts k)) _ x m (d < reach x) _ _ (element_found x ts m k sz g q h (λ n. closed_by (with_in c) n 2 close m e cl qu (omega arith))) (λ u. u)
        (λ j. if_no (eqb (kind m) comma_kind) _ _ _ _ (no_kind closes (kind m) comma_kind (subst (λ (n : ℕ). closes n ≡ true) (sym e) cl) refl) (then_eat close m r j _ _ _ e t (here refl)))))

    step_hole : (acc : List Tree) (b : Bool) (ts r : Input) (k : List ℕ) (P : Type 0) → holes ≡ true → kind ts ≡ comma_kind → rest ts ≡ r
        → Reads (from ts k) (element_step lm (readers lm d) c holes close (record { items = acc; comma = b }) (from ts k)) (Is (go_on (record { items = acc ++ hole ∷ []; comma = false })) r) P
    unfolding element_step
    step_hole acc b ts r k P o e t =
        if_no (eqb (kind ts) close) _ _ _ _ (ne_eqb (kind ts) close (λ q. true≢false (sym cl ∙ ap closes (sym q ∙ e)))) (if_yes (holes && (kind ts == comma_kind)) _ _ _ _ (and_from holes _ o (eq-eqb (kind ts) comma_kind e)) (past_here refl t))

    step_end : (acc : List Tree) (b : Bool) (ts r : Input) (k : List ℕ) (P : Type 0) → kind ts ≡ close → rest ts ≡ r
        → Reads (from ts k) (element_step lm (readers lm d) c holes close (record { items = acc; comma = b }) (from ts k)) (Is (finished (record { items = acc; comma = b })) r) P
    unfolding element_step
    step_end acc b ts r k P e t = if_yes (eqb (kind ts) close) _ _ _ _ (eq-eqb (kind ts) close e) (past_here refl t)

    pub elements_loop : (xs : Trees) (acc : List Tree) (b : Bool) (ts r : Input) (k : List ℕ) (n : ℕ) → sizes xs < z → CoveredAll xs → Listed holes (Sorted is_element (coded p c)) (coded p c) close (children xs) ts r → reaches xs ≤ n
        → Loops (element_step lm (readers lm d) c holes close) (record { items = acc; comma = b }) ts k (Has (acc ++ unpack xs) r) (d < n)
    elements_loop none acc b ts r k n sz g h le = loop_end _ _ (record { items = acc; comma = b }) ts r k ⊥ _ _ (step_end acc b ts r k ⊥ h.0 h.2) (λ u. absurd u) (λ l. (sym (append-nil acc), refl))
    elements_loop (more x xs) acc b ts r k n sz g h le = by_cases (holes && is_hole x) _ _ _ h
        (λ e y. let w = and_parts holes (is_hole x) e in
        loop_on _ _ (record { items = acc ++ hole ∷ []; comma = false }) ts y.0 k ⊥ _ _ (step_hole acc b ts y.0 k ⊥ w.0 y.1.0 y.1.2) (λ u. absurd u) (takes comma_kind ts y.0 y.1.0 (omega arith) y.1.2)
        (λ l. subst (λ ys. Loops (element_step lm (readers lm d) c holes close) (record { items = acc ++ hole ∷ []; comma = false }) y.0 l (Has ys r) (d < n)) (append_assoc acc (hole ∷ []) (unpack xs) ∙ ap (λ (v : Tree). acc ++ (v ∷ unpack xs)) (sym (hole_is x w.1)))
        (elements_loop xs (acc ++ hole ∷ []) false y.0 r l n (omega arith) g.1 y.2 (omega arith))))
        (λ e y. let shrinks : len y.0 < len ts = element_taken x _ ts y.0 y.1 in ⊎_elim
        (λ v. loop_on _ _ (record { items = acc ++ x ∷ []; comma = true }) ts v.1 k (d < reach x) _ _ (step_comma x acc b ts y.0 v.1 k (omega arith) g.0 y.1.0 y.1.1 v.2.0 v.2.2) (λ u. omega arith) (omega (arith, takes comma_kind y.0 v.1 v.2.0 (omega arith) v.2.2))
        (λ l. subst (λ ys. Loops (element_step lm (readers lm d) c holes close) (record { items = acc ++ x ∷ []; comma = true }) v.1 l (Has ys r) (d < n)) (append_assoc acc (x ∷ []) (unpack xs))
        (elements_loop xs (acc ++ x ∷ []) true v.1 r l n (omega arith) g.1 v.3 (omega arith))))
        (λ v. loop_end _ _ (record { items = acc ++ x ∷ []; comma = false }) ts r k (d < reach x) _ _ (step_close x acc b ts y.0 r k (omega arith) g.0 y.1.0 y.1.1 v.1.0 v.1.2) (λ u. omega arith) (λ l. (ap (λ ys. acc ++ (x ∷ ys)) (sym (empty_none xs v.0)), refl)))
        y.2)
      where
        empty_none : (xs : Trees) → IsEmpty (children xs) → unpack xs ≡ []
        empty_none none h = refl
        empty_none (more x xs) h = absurd h

    pub elements_found : (xs : Trees) (ts r : Input) (k : List ℕ) (n : ℕ) → sizes xs < z → CoveredAll xs → Listed holes (Sorted is_element (coded p c)) (coded p c) close (children xs) ts r → reaches xs ≤ n
        → Reads (from ts k) (elements_by lm (readers lm d) c holes close (from ts k)) (Has (unpack xs) r) (d < n)
    unfolding elements_by
    elements_found xs ts r k n sz g h le = looped _ no_elements ts k _ _ (elements_loop xs [] false ts r k n sz g h le)
