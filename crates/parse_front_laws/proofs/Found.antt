-- Parameters that are produced without their parentheses are read, where the initialiser of the last one is read and nothing goes on there.
use Rattle.std.proofs.Common.{◌≡◌, ℕ, ◌<◌, ◌≤◌, max, Bool, true, false, not, ◌&&◌, ◌==◌, eqb, List, [], ◌∷◌, ◌++◌, refl, sym, ap, ◌∙◌, subst, ⊎_elim, true≢false, append_assoc, append-nil, arith}
use Rattle.std.proofs.lemmas.Bool.{eq-eqb, or_left, or_right, and_from}
use Rattle.base_token.specs.declared.place.Span.{Span}
use Rattle.base_token.specs.Kinds.{dot_dot_dot_kind, left_bracket_kind, left_brace_kind, comma_kind, assign_kind}
use Rattle.tree_spec.specs.Tree.{Tree, Trees, none, more, unpack, param, binding_ident, array_pat, object_pat, ident, assign_pat, rest_pat}
use Rattle.grammar_spec.specs.Tokens.Input.{PlacedToken, Input, Code, kind, lo, span, rest, dots_at, with_in, Takes}
use Rattle.grammar_spec.specs.Tokens.Operators.{assignment_level}
use Rattle.grammar_spec.specs.Tokens.Shape.{level, ends, is_binding, is_item_pat, is_param, is_rest}
use Rattle.grammar_spec.specs.Grammar.{Produces}
use Rattle.grammar_spec.specs.Reader.Source.{is_name, go_on, finished}
use Rattle.grammar_spec.specs.Reader.Expressions.{parameter_by, is_rest_param}
use Rattle.grammar_laws.proofs.complete_base.Yields.{lm, from, len, coded, Reads, Is, then_is, then_past, here, past_here, if_no, if_yes, Loops, loop_on, loop_end, looped, named}
use Rattle.grammar_laws.proofs.complete_base.Levels.{comma_after}
use Rattle.grammar_laws.proofs.complete_base.Trees.{takes}
use Rattle.grammar_laws.proofs.complete_base.Cuts.{cut}
use Rattle.grammar_laws.proofs.complete_rules.Lists.{two_asked}
use Rattle.grammar_laws.proofs.complete_rules.Nested.{Nested, patterned}
use Rattle.grammar_laws.proofs.complete_rules.Within.{ItemIn, item_in, Within, Withins, within, withins}
use Rattle.grammar_laws.proofs.complete_rules.Functions.{empty_none, no_dots, rest_same}
use Rattle.grammar_laws.proofs.complete_rules.Starts.{binding_starts}
use Rattle.grammar_laws.proofs.Shapes.{place_binds}
use Rattle.parse_source_laws.specs.Ahead.{at_list}
use Rattle.parse_alone.specs.Parts.{starts_param, bare_step, bare_by}
use Rattle.parse_front_laws.proofs.Ahead.{Bare}

abbrev pub starts : Code → List PlacedToken → Bool
starts c l = starts_param lm c (at_list 0 l [])

module _ (z : Nested) (c : Code) where
  -- ---- one parameter, up to a rest

  -- what is asked of the rest: an initialiser is read up to it, and none begins there
  abbrev pub Fits : Tree → Input → Input → Type 0
  Fits (assign_pat t q e) ts m = (n o : Input) (k : List ℕ) → Produces q (patterned false (with_in c)) ts n → Takes (patterned false (with_in c)) assign_kind n o → 2 ≤ level e → Produces e (coded false (with_in c)) o m
      → Reads (from o k) (z.inner.expr (with_in c) assignment_level (from o k)) (Is e m) (z.depth < z.reach e)
  Fits (rest_pat t d q) ts m = Unit {0}
  Fits a ts m = is_binding a ≡ true → Produces a (patterned false (with_in c)) ts m → eqb (kind m) assign_kind ≡ false

  abbrev pub FitsParam : Tree → Input → Input → Type 0
  FitsParam (param s ds a) ts m = Fits a ts m
  FitsParam _ ts m = Unit {0}

  comma_fits : (x : Tree) (ts m : Input) → is_param x ≡ true → Within z.Covered x → kind m ≡ comma_kind → FitsParam x ts m
  comma_fits (param s ds a) ts m i g q = by_item a g
    where
      by_item : (a : Tree) → ItemIn z.Covered a → Fits a ts m
      by_item (assign_pat t p e) g = λ n o k b v le h. z.expr e false (with_in c) 2 o m k g.1 h (omega arith) (omega arith) two_asked le (comma_after (with_in c) (ends e) 2 m q (omega arith))
      by_item (rest_pat t d p) g = tt
      by_item a g = λ b h. ap (λ (j : ℕ). eqb j assign_kind) q
  comma_fits _ ts m i g q = absurd (true≢false (sym i))

  plain_read : (s : Span) (a : Tree) (ts m : Input) (k : List ℕ) → z.Covered a → is_binding a ≡ true → Produces a (patterned false (with_in c)) ts m → s ≡ span (lo ts) m.last → eqb (kind m) assign_kind ≡ false → Reads (from ts k) (parameter_by lm z.inner c (from ts k)) (Is (param s none a) m) (z.depth < z.reach a)
  unfolding parameter_by
  plain_read s a ts m k g b h w d = if_no (kind ts == dot_dot_dot_kind) _ _ _ _ (no_dots ts (binding_starts a (patterned false (with_in c)) ts m b h)) (then_is (z.inner.pat (with_in c) (from ts k)) _ a m (z.depth < z.reach a) _ _ (z.pat a false (with_in c) ts m k g b h) (λ u. u)
      (λ j. if_no (kind m == assign_kind) _ _ _ _ d (here (ap (λ (y : Span). param y none a) (sym w)))))

  rest_read : (s t e : Span) (a : Tree) (ts n m : Input) (k : List ℕ) → z.Covered a → kind ts ≡ dot_dot_dot_kind → rest ts ≡ n → e ≡ dots_at (lo ts) → is_binding a ≡ true → Produces a (patterned false (with_in c)) n m → t ≡ span (lo ts) m.last → s ≡ span (lo ts) m.last
      → Reads (from ts k) (parameter_by lm z.inner c (from ts k)) (Is (param s none (rest_pat t e a)) m) (z.depth < z.reach a)
  unfolding parameter_by
  rest_read s t e a ts n m k g q v x b h u w = if_yes (kind ts == dot_dot_dot_kind) _ _ _ _ (eq-eqb (kind ts) dot_dot_dot_kind q) (then_past ts n k (z.inner.pat (with_in c)) _ a m (z.depth < z.reach a) _ _ v (z.pat a false (with_in c) n m k g b h) (λ y. y)
      (λ j. here (ap (λ (y : Span). param y none (rest_pat (span (lo ts) m.last) (dots_at (lo ts)) a)) (sym w) ∙ ap (λ (y : Span). param s none (rest_pat y (dots_at (lo ts)) a)) (sym u) ∙ ap (λ (y : Span). param s none (rest_pat t y a)) (sym x))))

  valued_read : (s t : Span) (a e : Tree) (ts n o m : Input) (k : List ℕ) → z.Covered a → is_binding a ≡ true → Produces a (patterned false (with_in c)) ts n → kind n ≡ assign_kind → rest n ≡ o → t ≡ span (lo ts) m.last → s ≡ span (lo ts) m.last
      → ((j : List ℕ) → Reads (from o j) (z.inner.expr (with_in c) assignment_level (from o j)) (Is e m) (z.depth < z.reach e)) → Reads (from ts k) (parameter_by lm z.inner c (from ts k)) (Is (param s none (assign_pat t a e)) m) (z.depth < max (z.reach a) (z.reach e))
  unfolding parameter_by
  valued_read s t a e ts n o m k ga b h q v u w f = if_no (kind ts == dot_dot_dot_kind) _ _ _ _ (no_dots ts (binding_starts a (patterned false (with_in c)) ts n b h)) (then_is (z.inner.pat (with_in c) (from ts k)) _ a n (z.depth < z.reach a) _ _ (z.pat a false (with_in c) ts n k ga b h) (λ y. omega arith)
      (λ j. if_yes (kind n == assign_kind) _ _ _ _ (eq-eqb (kind n) assign_kind q) (then_past n o j (z.inner.expr (with_in c) assignment_level) _ e m (z.depth < z.reach e) _ _ v (f j) (λ y. omega arith)
      (λ i. here (ap (λ (y : Span). param y none (assign_pat (span (lo ts) m.last) a e)) (sym w) ∙ ap (λ (y : Span). param s none (assign_pat y a e)) (sym u))))))

  param_read : (x : Tree) (ts m : Input) (k : List ℕ) → is_param x ≡ true → Within z.Covered x → Produces x (coded false c) ts m → FitsParam x ts m → Reads (from ts k) (parameter_by lm z.inner c (from ts k)) (Is x m) (z.depth < within z.reach x)
  param_read (param s ds a) ts m k i g h f = subst (λ (y : Trees). Reads (from ts k) (parameter_by lm z.inner c (from ts k)) (Is (param s y a) m) (z.depth < item_in z.reach a)) (sym (empty_none ds h.0)) (by_item a g h.1 h.2 f)
    where
      by_item : (a : Tree) → ItemIn z.Covered a → is_item_pat true a ≡ true → Produces a (patterned false (with_in c)) ts m → Fits a ts m → Reads (from ts k) (parameter_by lm z.inner c (from ts k)) (Is (param s none a) m) (z.depth < item_in z.reach a)
      by_item (assign_pat t q e) g i v f = valued_read s t q e ts v.0 v.1 m k g.0 (place_binds q v.2) v.3 v.4.0 v.4.2 v.6 h.3 (λ j. f v.0 v.1 j v.3 v.4 v.5.0 v.5.1)
      by_item (rest_pat t e q) g i v f = rest_read s t e q ts v.0 m k g v.1.0 v.1.2 v.2 (place_binds q v.3) v.4 v.5 h.3
      by_item a g i v f = plain_read s a ts m k g (place_binds a i) v h.3 (f (place_binds a i) v)
  param_read _ ts m k i g h f = absurd (true≢false (sym i))

  -- ---- what starts one

  binding_there : (a : Tree) (ts m : Input) (k : List ℕ) → is_binding a ≡ true → Produces a (patterned false (with_in c)) ts m → starts_param lm c (from ts k) ≡ true
  binding_there (binding_ident s (ident q x)) ts m k i h = or_left _ _ (named c ts k (h.1.0.0, h.1.0.1, h.1.0.2))
  binding_there (binding_ident s _) ts m k i h = absurd h
  binding_there (array_pat s xs) ts m k i h = or_right _ _ (or_left _ _ (eq-eqb (kind ts) left_bracket_kind h.1.0))
  binding_there (object_pat s xs) ts m k i h = or_right _ _ (or_right _ _ (or_left _ _ (eq-eqb (kind ts) left_brace_kind h.1.0)))
  binding_there _ ts m k i h = absurd (true≢false (sym i))

  dots_there : (ts : Input) (k : List ℕ) → kind ts ≡ dot_dot_dot_kind → starts_param lm c (from ts k) ≡ true
  dots_there ts k e = or_right (is_name lm c (from ts k)) _ (or_right (kind ts == left_bracket_kind) _ (or_right (kind ts == left_brace_kind) _ (eq-eqb (kind ts) dot_dot_dot_kind e)))

  pub param_there : (x : Tree) (ts m : Input) (k : List ℕ) → is_param x ≡ true → Produces x (coded false c) ts m → starts_param lm c (from ts k) ≡ true
  param_there (param s ds a) ts m k i h = by_item a h.1 h.2
    where
      by_item : (a : Tree) → is_item_pat true a ≡ true → Produces a (patterned false (with_in c)) ts m → starts_param lm c (from ts k) ≡ true
      by_item (assign_pat t q e) i v = binding_there q ts v.0 k (place_binds q v.2) v.3
      by_item (rest_pat t e q) i v = dots_there ts k v.1.0
      by_item a i v = binding_there a ts m k (place_binds a i) v
  param_there _ ts m k i h = absurd (true≢false (sym i))

  param_less : (x : Tree) (ts m : Input) → is_param x ≡ true → Produces x (coded false c) ts m → len m < len ts
  param_less (param s ds a) ts m i h = omega (arith, cut (param s ds a) (coded false c) ts m h)
  param_less _ ts m i h = absurd (true≢false (sym i))

  -- ---- all of them, up to a rest

  -- What is known of parameters that are to come up to the rest: enough that they are read and end there.
  pub record Knows (b : Bool) (r : Input) (T : Trees → Input → Type 0) : Type 0 where
    pub next : (x : Tree) (xs : Trees) (ts m n : Input) → T (more x xs) ts → is_param x ≡ true → is_rest x ≡ false → Produces x (coded false c) ts m → Takes (coded false c) comma_kind m n → T xs n
    pub final : (x : Tree) (ts : Input) → T (more x none) ts → is_param x ≡ true → Within z.Covered x → Produces x (coded false c) ts r → FitsParam x ts r
    pub alone : (x : Tree) (ts : Input) → T (more x none) ts → is_param x ≡ true → Produces x (coded false c) ts r → ((kind r == comma_kind) && not (is_rest x)) ≡ false
    pub ended : b ≡ true → (ts : Input) → T none ts → ts ≡ r → starts c r.places ≡ false

  more_step : (x : Tree) (acc : List Tree) (ts m r : Input) (k : List ℕ) → is_param x ≡ true → Within z.Covered x → Produces x (coded false c) ts m → is_rest x ≡ false → kind m ≡ comma_kind → rest m ≡ r
      → Reads (from ts k) (bare_step lm z.inner c acc (from ts k)) (Is (go_on (acc ++ x ∷ [])) r) (z.depth < within z.reach x)
  unfolding bare_step
  more_step x acc ts m r k i g h n e q = if_yes (starts_param lm c (from ts k)) _ _ _ _ (param_there x ts m k i h) (then_is (parameter_by lm z.inner c (from ts k)) _ x m (z.depth < within z.reach x) _ _ (param_read x ts m k i g h (comma_fits x ts m i g e)) (λ u. u)
      (λ j. if_yes ((kind m == comma_kind) && not (is_rest_param lm z.inner x)) _ _ _ _ (and_from (kind m == comma_kind) _ (eq-eqb (kind m) comma_kind e) (ap not (rest_same z.inner x i ∙ n))) (past_here refl q)))

  last_step : (x : Tree) (acc : List Tree) (ts r : Input) (k : List ℕ) → is_param x ≡ true → Within z.Covered x → Produces x (coded false c) ts r → FitsParam x ts r → ((kind r == comma_kind) && not (is_rest x)) ≡ false
      → Reads (from ts k) (bare_step lm z.inner c acc (from ts k)) (Is (finished (acc ++ x ∷ [])) r) (z.depth < within z.reach x)
  unfolding bare_step
  last_step x acc ts r k i g h f e = if_yes (starts_param lm c (from ts k)) _ _ _ _ (param_there x ts r k i h) (then_is (parameter_by lm z.inner c (from ts k)) _ x r (z.depth < within z.reach x) _ _ (param_read x ts r k i g h f) (λ u. u)
      (λ j. if_no ((kind r == comma_kind) && not (is_rest_param lm z.inner x)) _ _ _ _ (ap (λ (b : Bool). (kind r == comma_kind) && not b) (rest_same z.inner x i) ∙ e) (here refl)))

  none_step : (acc : List Tree) (r : Input) (k : List ℕ) → starts c r.places ≡ false → Reads (from r k) (bare_step lm z.inner c acc (from r k)) (Is (finished acc) r) ⊥
  unfolding bare_step
  none_step acc r k e = if_no (starts_param lm c (from r k)) _ _ _ _ e (here refl)

  bare_loop : (b : Bool) (r : Input) (T : Trees → Input → Type 0) → Knows b r T → (xs : Trees) (acc : List Tree) (ts : Input) (k : List ℕ) (d : ℕ) → Withins z.Covered xs → Bare (coded false c) b xs ts r → withins z.reach xs ≤ d → T xs ts
      → Loops (bare_step lm z.inner c) acc ts k (Is (acc ++ unpack xs) r) (z.depth < d)
  bare_loop true r T kn none acc ts k d g h le t = subst (λ (y : Input). Loops (bare_step lm z.inner c) acc y k (Is (acc ++ []) r) (z.depth < d)) (sym h) (loop_end _ _ acc r r k ⊥ _ _ (none_step acc r k (kn.ended refl ts t h)) (λ u. absurd u) (λ l. (sym (append-nil acc), refl)))
  bare_loop false r T kn none acc ts k d g h le t = absurd h
  bare_loop b r T kn (more x xs) acc ts k d g h le t = ⊎_elim
      (λ v. loop_on _ _ (acc ++ x ∷ []) ts v.1 k (z.depth < within z.reach x) _ _ (more_step x acc ts h.0 v.1 k h.1 g.0 h.2 v.0 v.2.0 v.2.2) (λ u. omega arith) (omega (arith, param_less x ts h.0 h.1 h.2, takes comma_kind h.0 v.1 v.2.0 (omega arith) v.2.2))
      (λ l. subst (λ ys. Loops (bare_step lm z.inner c) (acc ++ x ∷ []) v.1 l (Is ys r) (z.depth < d)) (append_assoc acc (x ∷ []) (unpack xs)) (bare_loop b r T kn xs (acc ++ x ∷ []) v.1 l d g.1 v.3 (omega arith) (kn.next x xs ts h.0 v.1 t h.1 v.0 h.2 v.2))))
      (λ v. let there = subst (λ (m : Input). Produces x (coded false c) ts m) v.2 h.2 in let only = subst (λ (ys : Trees). T (more x ys) ts) v.1 t in
      loop_end _ _ (acc ++ x ∷ []) ts r k (z.depth < within z.reach x) _ _ (last_step x acc ts r k h.1 g.0 there (kn.final x ts only h.1 g.0 there) (kn.alone x ts only h.1 there)) (λ u. omega arith) (λ l. (ap (λ (y : Trees). acc ++ (x ∷ unpack y)) (sym v.1), refl)))
      h.3

  pub bare_found : (b : Bool) (r : Input) (T : Trees → Input → Type 0) → Knows b r T → (xs : Trees) (ts : Input) (k : List ℕ) → Withins z.Covered xs → Bare (coded false c) b xs ts r → T xs ts → Reads (from ts k) (bare_by lm z.inner c (from ts k)) (Is (unpack xs) r) (z.depth < withins z.reach xs)
  unfolding bare_by
  bare_found b r T kn xs ts k g h t = looped (bare_step lm z.inner c) [] ts k (Is (unpack xs) r) _ (bare_loop b r T kn xs [] ts k (withins z.reach xs) g h (omega arith) t)
