-- Functions and classes as expressions, and the methods of objects (ECMA-262, 15.2 to 15.7, 13.2.5): what their rules answer.
use Rattle.std.proofs.Common.{◌≡◌, ℕ, ◌<◌, ◌⊎◌, inl, inr, max, Bool, true, false, not, ◌&&◌, ◌||◌, ◌==◌, eqb, List, Option, Some, None, refl, sym, ap, ◌∙◌, subst, ⊎_elim, true≢false, arith}
use Rattle.std.proofs.lemmas.Bool.{ne_eqb, eq-eqb, and_left, and_right, and_from, or_left, or_from}
use Rattle.base_token.specs.declared.place.Span.{Span}
use Rattle.base_token.specs.Kinds.{dot_dot_dot_kind, left_paren_kind, right_paren_kind, left_brace_kind, colon_kind, hash_kind, mul_kind, function_kind, class_kind, extends_kind, async_kind, get_kind, set_kind}
use Rattle.tree_spec.specs.Tree.{Tree, Trees, none, block_stmt, function, param, class, ident, absent, fn_expr, class_expr, method_prop, getter_prop, setter_prop, rest_pat}
use Rattle.grammar_spec.specs.Tokens.Input.{Input, Code, TakesWord, kind, kind2, brk, lo, span, first_span, rest, is_word, no_name, barred, setting, in_body, turned_strict, with_in}
use Rattle.grammar_spec.specs.Tokens.Operators.{starts_key}
use Rattle.grammar_spec.specs.Tokens.Shape.{is_absent, is_key, is_rest, class_span}
use Rattle.grammar_spec.specs.Children.{is_ident}
use Rattle.grammar_spec.specs.Functions.{Star}
use Rattle.grammar_spec.specs.Grammar.{Produces}
use Rattle.grammar_spec.specs.Reader.Source.{State, Inner, is_name}
use Rattle.grammar_spec.specs.Reader.Expressions.{prefix_by, keyword_by, word_by, async_by, function_expr_by, class_expr_by, prop_by, prop_rest, key_by, method_prop_by, getter_by, setter_by, setter_parameter, star, function_by, is_async_head, is_accessor}
use Rattle.grammar_laws.proofs.complete_base.Yields.{lm, from, coded, Reads, Is, named, then_is, then_eat, then_word, then_name, then_past, onto, here, if_no, if_yes, async_name}
use Rattle.grammar_laws.proofs.complete_base.Trees.{by_cases, no_kind}
use Rattle.grammar_laws.proofs.complete_rules.Prefixes.{named_word}
use Rattle.grammar_laws.proofs.complete_rules.Lists.{is_method}
use Rattle.grammar_laws.proofs.complete_rules.Objects.{begins_key, key_starts, OneWord, key_opens}
use Rattle.grammar_laws.proofs.complete_rules.Nested.{Nested}
use Rattle.grammar_laws.proofs.complete_rules.Within.{item_in, Within, within}
use Rattle.grammar_laws.proofs.complete_rules.Starts.{ident_is}
use Rattle.grammar_laws.proofs.complete_rules.Functions.{key_found, function_found, function_expressed, star_found, setter_found}
use Rattle.grammar_laws.proofs.Shapes.{absent_is}

module _ (inner : Inner Input) (c : Code) (lev : ℕ) (ts : Input) (k : List ℕ) (V : Tree × State Input → Type 0) (Q : Type 0) where
  at_function : kind ts ≡ function_kind → Reads (from ts k) (function_expr_by lm inner c (lo ts) false (from ts k)) V Q → Reads (from ts k) (prefix_by lm inner c lev (from ts k)) V Q
  unfolding prefix_by keyword_by
  at_function e y = rw e y

  at_class : kind ts ≡ class_kind → Reads (from ts k) (class_expr_by lm inner c (from ts k)) V Q → Reads (from ts k) (prefix_by lm inner c lev (from ts k)) V Q
  unfolding prefix_by keyword_by
  at_class e y = rw e y

  at_async : kind ts ≡ async_kind → barred c.context ts ≡ false → kind (rest ts) ≡ function_kind → brk (rest ts) ≡ false → barred c.context (rest ts) ≡ false → Reads (from ts k) (function_expr_by lm inner c (lo ts) true (from (rest ts) k)) V Q → Reads (from ts k) (prefix_by lm inner c lev (from ts k)) V Q
  unfolding word_by async_by
  at_async e b f n d y = named_word inner c lev ts k V Q (async_name c ts e b) (if_yes (eqb (kind ts) async_kind) _ _ V Q (eq-eqb (kind ts) async_kind e)
      (if_yes (((kind (rest ts) == function_kind) && not (brk (rest ts))) && not (barred c.context (rest ts))) _ _ V Q (and_from ((kind (rest ts) == function_kind) && not (brk (rest ts))) _ (and_from (kind (rest ts) == function_kind) _ (eq-eqb (kind (rest ts)) function_kind f) (ap not n)) (ap not d)) y))

param_rest : (s : Span) (a : Tree) → is_rest a ≡ false → is_rest (param s none a) ≡ false
param_rest s (rest_pat t d a) h = h
param_rest s _ h = refl

-- the part of a class's rule that follows no name starts with no name
tail_first : (t : Tree) (c : Code) (ts r : Input) (s : Option Span) → class_span t ≡ s → (s ≡ None → ⊥) → Produces t c ts r → (kind ts ≡ extends_kind) ⊎ (kind ts ≡ left_brace_kind)
tail_first (class s ds ms x) c ts r o e n h = by_cases (is_absent x) _ _ ((kind ts ≡ extends_kind) ⊎ (kind ts ≡ left_brace_kind)) h.3 (λ q y. inr (ap (λ (d : Input). kind d) y ∙ h.4.0)) (λ q y. inl y.1.0)
tail_first _ c ts r o e n h = absurd (n (sym e))

abbrev IsSome : {A : Type 0} → Option A → Type 0
IsSome (Some y) = Unit {0}
IsSome None = ⊥

some_none : {A : Type 0} (x : A) → ◌≡◌ {A = Option A} (Some x) None → ⊥
some_none x e = subst IsSome e tt

module _ (z : Nested) (p : Bool) (c : Code) (ts : Input) (k : List ℕ) (r : Input) where
  -- ---- functions

  pub function_read : (lev : ℕ) (s : Span) (x f : Tree) → Within z.Covered (fn_expr s x f) → Produces (fn_expr s x f) (coded p c) ts r → Reads (from ts k) (prefix_by lm z.inner c lev (from ts k)) (Is (fn_expr s x f) r) (z.depth < within z.reach (fn_expr s x f))
  function_read lev s x (function t ps ds b g false) w h = let y = function_expressed z p c s x t ps ds b g false ts r k w h in
      at_function z.inner c lev ts k _ _ (ap (λ (d : Input). kind d) y.1 ∙ y.2) (subst (λ (d : Input). Reads (from d k) (function_expr_by lm z.inner c (lo ts) false (from d k)) (Is (fn_expr s x (function t ps ds b g false)) r) (z.depth < within z.reach (function t ps ds b g false))) (sym y.1) (y.4 k))
  function_read lev s x (function t ps ds b g true) w h = let y = function_expressed z p c s x t ps ds b g true ts r k w h in
      at_async z.inner c lev ts k _ _ y.1.0.0 y.1.0.1 (ap (λ (d : Input). kind d) y.1.0.3 ∙ y.2) (ap (λ (d : Input). brk d) y.1.0.3 ∙ y.1.1) (ap (λ (d : Input). barred c.context d) y.1.0.3 ∙ y.3) (onto ts y.0 k (λ d. function_expr_by lm z.inner c (lo ts) true d) _ _ y.1.0.3 (y.4 k))
  function_read lev s x _ w h = absurd h

  -- ---- classes

  no_word : (m : Input) → (kind m ≡ extends_kind) ⊎ (kind m ≡ left_brace_kind) → (is_word (kind m) && (not (no_name (turned_strict c).context (kind m)) && not (barred (turned_strict c).context m))) ≡ false
  no_word m (inl e) = and_right (is_word (kind m)) _ (and_left (not (no_name (turned_strict c).context (kind m))) _ (subst (λ (n : ℕ). not (no_name (turned_strict c).context n) ≡ false) (sym e) refl))
  no_word m (inr e) = and_left (is_word (kind m)) _ (subst (λ (n : ℕ). is_word n ≡ false) (sym e) refl)

  unnamed_class : (s : Span) (t : Tree) (m : Input) → z.Covered t → TakesWord (coded p c) class_kind ts m → Produces t (coded p (turned_strict (with_in c))) m r → class_span t ≡ Some s → s ≡ span (lo ts) r.last
      → Reads (from ts k) (class_expr_by lm z.inner c (from ts k)) (Is (class_expr s absent t) r) (z.depth < z.reach t)
  unfolding class_expr_by
  unnamed_class s t m g w h o e = then_word c class_kind ts m k _ _ _ w.0 w.1 w.3 (if_no (is_name lm (turned_strict c) (from m k) && not (kind m == left_brace_kind)) _ _ _ _ (and_left _ _ (no_word m (tail_first t (coded p (turned_strict (with_in c))) m r (Some s) o (some_none s) h)))
      (then_is (z.inner.class_tail (turned_strict (with_in c)) (lo ts) (from m k)) _ t r (z.depth < z.reach t) _ _ (z.class_tail t (lo ts) p (turned_strict (with_in c)) m r k g refl (o ∙ ap Some e) h) (λ u. u)
      (λ j. here (ap (λ (d : Span). class_expr d absent t) (sym e)))))

  named_class : (s : Span) (x t : Tree) (m n : Input) → z.Covered t → TakesWord (coded p c) class_kind ts m → is_ident x ≡ true → Produces x (coded p (turned_strict c)) m n → Produces t (coded p (turned_strict (with_in c))) n r → class_span t ≡ Some s → s ≡ span (lo ts) r.last
      → Reads (from ts k) (class_expr_by lm z.inner c (from ts k)) (Is (class_expr s x t) r) (z.depth < z.reach t)
  unfolding class_expr_by
  named_class s x t m n g w i v h o e = let q = ident_is x (coded p (turned_strict c)) m n i v in then_word c class_kind ts m k _ _ _ w.0 w.1 w.3
      (if_yes (is_name lm (turned_strict c) (from m k) && not (kind m == left_brace_kind)) _ _ _ _ (and_from _ _ (named (turned_strict c) m k q.2) (ap not (no_kind is_word (kind m) left_brace_kind q.2.0 refl)))
      (then_name (turned_strict c) m n q.0 k _ _ _ q.2 q.3 q.4 (then_is (z.inner.class_tail (turned_strict (with_in c)) (lo ts) (from n k)) _ t r (z.depth < z.reach t) _ _ (z.class_tail t (lo ts) p (turned_strict (with_in c)) n r k g refl (o ∙ ap Some e) h) (λ u. u)
      (λ j. here (ap (λ (d : Span). class_expr d (ident (first_span m) q.0) t) (sym e) ∙ ap (λ (d : Tree). class_expr s d t) (sym q.1))))))

  pub class_read : (lev : ℕ) (s : Span) (x t : Tree) → z.Covered t → Produces (class_expr s x t) (coded p c) ts r → Reads (from ts k) (prefix_by lm z.inner c lev (from ts k)) (Is (class_expr s x t) r) (z.depth < z.reach t)
  class_read lev s x t g h = at_class z.inner c lev ts k _ _ h.2.0 (by_cases (is_absent x) _ _ _ h.3
      (λ q y. subst (λ (d : Tree). Reads (from ts k) (class_expr_by lm z.inner c (from ts k)) (Is (class_expr s d t) r) (z.depth < z.reach t)) (sym (absent_is x q))
      (unnamed_class s t h.0 g h.2 (subst (λ (d : Input). Produces t (coded p (turned_strict (with_in c))) d r) (sym y) h.4) h.5 h.6))
      (λ q y. named_class s x t h.0 h.1 g h.2 y.0 y.1 h.4 h.5 h.6))

  -- ---- methods

  -- from the key on
  keyed_method : (s t : Span) (x : Tree) (ps ds : Trees) (b : Tree) (g a : Bool) (m n : Input) (j : List ℕ) → Within z.Covered x → Within z.Covered (function t ps ds b g a) → is_key x ≡ true → Produces x (coded p c) m n → Produces (function t ps ds b g a) (setting false (coded p c)) n r → t ≡ s → s ≡ span (lo ts) r.last
      → Reads (from m j) (method_prop_by lm z.inner c (lo ts) g a (from m j)) (Is (method_prop s x (function t ps ds b g a)) r) (z.depth < max (within z.reach x) (within z.reach (function t ps ds b g a)))
  unfolding method_prop_by
  keyed_method s t x ps ds b g a m n j gx gf i h v e q = then_is (key_by lm z.inner c (from m j)) _ x n (z.depth < within z.reach x) _ _ (key_found z p c x m n j i gx h) (λ u. omega arith)
      (λ l. then_is (function_by lm z.inner c (lo ts) g a (from n l)) _ (function t ps ds b g a) r (z.depth < within z.reach (function t ps ds b g a)) _ _ (function_found z p c t ps ds b g a (lo ts) n r l gf v (e ∙ q)) (λ u. omega arith)
      (λ o. here (ap (λ (d : Span). method_prop d x (function t ps ds b g a)) (sym q))))

  is_no : (n y : ℕ) → kind ts ≡ y → eqb y n ≡ false → eqb (kind ts) n ≡ false
  is_no n y e w = subst (λ (d : ℕ). eqb d n ≡ false) (sym e) w

  generator : (s t : Span) (x : Tree) (ps ds : Trees) (b : Tree) (m n : Input) → Within z.Covered x → Within z.Covered (function t ps ds b true false) → is_key x ≡ true → kind ts ≡ mul_kind → rest ts ≡ m → Produces x (coded p c) m n → Produces (function t ps ds b true false) (setting false (coded p c)) n r → t ≡ s → s ≡ span (lo ts) r.last
      → Reads (from ts k) (prop_by lm z.inner c (from ts k)) (Is (method_prop s x (function t ps ds b true false)) r) (z.depth < max (within z.reach x) (within z.reach (function t ps ds b true false)))
  unfolding prop_by
  generator s t x ps ds b m n gx gf i f u h v e q = if_no (kind ts == dot_dot_dot_kind) _ _ _ _ (is_no dot_dot_dot_kind mul_kind f refl) (if_yes (kind ts == mul_kind) _ _ _ _ (eq-eqb (kind ts) mul_kind f)
      (onto ts m k (λ d. method_prop_by lm z.inner c (lo ts) true false d) _ _ u (keyed_method s t x ps ds b true false m n k gx gf i h v e q)))

  -- after `async`: the star, or the key
  async_line : (g : Bool) (x : Tree) (y m n : Input) → Star g (coded p c) y m → is_key x ≡ true → Produces x (coded p c) m n → (starts_key (kind y) || (kind y == mul_kind)) ≡ true
  async_line true x y m n h i v = or_right_of (starts_key (kind y)) (kind y == mul_kind) (eq-eqb (kind y) mul_kind h.0)
    where
      or_right_of : (a b : Bool) → b ≡ true → (a || b) ≡ true
      or_right_of true b e = refl
      or_right_of false b e = e
  async_line false x y m n h i v = or_left (starts_key (kind y)) _ (subst (λ (d : Input). starts_key (kind d) ≡ true) (sym h) (key_opens (kind m) (key_starts x (coded p c) m n i v).0))

  async_method : (s t : Span) (x : Tree) (ps ds : Trees) (b : Tree) (g : Bool) (y m n : Input) → Within z.Covered x → Within z.Covered (function t ps ds b g true) → is_key x ≡ true → kind ts ≡ async_kind → rest ts ≡ y → brk y ≡ false → Star g (coded p c) y m → Produces x (coded p c) m n
      → Produces (function t ps ds b g true) (setting false (coded p c)) n r → t ≡ s → s ≡ span (lo ts) r.last
      → Reads (from ts k) (prop_by lm z.inner c (from ts k)) (Is (method_prop s x (function t ps ds b g true)) r) (z.depth < max (within z.reach x) (within z.reach (function t ps ds b g true)))
  unfolding prop_by
  async_method s t x ps ds b g y m n gx gf i f u w st h v e q = if_no (kind ts == dot_dot_dot_kind) _ _ _ _ (is_no dot_dot_dot_kind async_kind f refl) (if_no (kind ts == mul_kind) _ _ _ _ (is_no mul_kind async_kind f refl)
      (if_yes (is_async_head lm z.inner (from ts k)) _ _ _ _ (and_from (kind ts == async_kind) _ (eq-eqb (kind ts) async_kind f) (subst (λ (d : Input). ((starts_key (kind d) || (kind d == mul_kind)) && not (brk d)) ≡ true) (sym u) (and_from _ _ (async_line g x y m n st i h) (ap not w))))
      (then_past ts y k (star lm z.inner) _ g m ⊥ _ _ u (star_found z p c g y m k ⊥ st (no_kind begins_key (kind m) mul_kind (key_starts x (coded p c) m n i h).0 refl)) (λ o. absurd o)
      (λ j. keyed_method s t x ps ds b g true m n j gx gf i h v e q))))

  -- no word before a parenthesis is anything but a key
  key_alone : (x : Tree) (n : Input) (w : ℕ) → is_word w ≡ true → is_key x ≡ true → Produces x (coded p c) ts n → kind n ≡ left_paren_kind → (eqb (kind ts) w ≡ false) ⊎ ((starts_key (kind2 ts) ≡ false) × ((kind2 ts == mul_kind) ≡ false))
  key_alone x n w a i h e = one (key_starts x (coded p c) ts n i h).1
    where
      one : OneWord ts n → (eqb (kind ts) w ≡ false) ⊎ ((starts_key (kind2 ts) ≡ false) × ((kind2 ts == mul_kind) ≡ false))
      one (inl y) = let q : kind2 ts ≡ left_paren_kind = ap (λ (d : Input). kind d) y.1 ∙ e in inr (subst (λ (d : ℕ). starts_key d ≡ false) (sym q) refl, subst (λ (d : ℕ). (d == mul_kind) ≡ false) (sym q) refl)
      one (inr y) = inl (ne_eqb (kind ts) w (λ q. true≢false (sym a ∙ ap is_word (sym q) ∙ y)))

  plain_method : (s t : Span) (x : Tree) (ps ds : Trees) (b : Tree) (n : Input) → Within z.Covered x → Within z.Covered (function t ps ds b false false) → is_key x ≡ true → Produces x (coded p c) ts n → kind n ≡ left_paren_kind → Produces (function t ps ds b false false) (setting false (coded p c)) n r → t ≡ s → s ≡ span (lo ts) r.last
      → Reads (from ts k) (prop_by lm z.inner c (from ts k)) (Is (method_prop s x (function t ps ds b false false)) r) (z.depth < max (within z.reach x) (within z.reach (function t ps ds b false false)))
  unfolding prop_by prop_rest
  plain_method s t x ps ds b n gx gf i h f v e q = let w = (key_starts x (coded p c) ts n i h).0 in
      if_no (kind ts == dot_dot_dot_kind) _ _ _ _ (no_kind begins_key (kind ts) dot_dot_dot_kind w refl) (if_no (kind ts == mul_kind) _ _ _ _ (no_kind begins_key (kind ts) mul_kind w refl)
      (if_no (is_async_head lm z.inner (from ts k)) _ _ _ _ (⊎_elim (λ y. and_left (kind ts == async_kind) _ y) (λ y. and_right (kind ts == async_kind) _ (and_left (starts_key (kind2 ts) || (kind2 ts == mul_kind)) _ (or_from (starts_key (kind2 ts)) _ y.0 y.1))) (key_alone x n async_kind refl i h f))
      (if_no (is_accessor lm z.inner get_kind (from ts k)) _ _ _ _ (no_accessor get_kind refl) (if_no (is_accessor lm z.inner set_kind (from ts k)) _ _ _ _ (no_accessor set_kind refl)
      (then_is (key_by lm z.inner c (from ts k)) _ x n (z.depth < within z.reach x) _ _ (key_found z p c x ts n k i gx h) (λ u. omega arith)
      (λ j. if_no (kind n == colon_kind) _ _ _ _ (subst (λ (d : ℕ). eqb d colon_kind ≡ false) (sym f) refl) (if_yes (kind n == left_paren_kind) _ _ _ _ (eq-eqb (kind n) left_paren_kind f)
      (then_is (function_by lm z.inner c (lo ts) false false (from n j)) _ (function t ps ds b false false) r (z.depth < within z.reach (function t ps ds b false false)) _ _ (function_found z p c t ps ds b false false (lo ts) n r j gf v (e ∙ q)) (λ u. omega arith)
      (λ o. here (ap (λ (d : Span). method_prop d x (function t ps ds b false false)) (sym q)))))))))))
    where
      no_accessor : (o : ℕ) → is_word o ≡ true → (eqb (kind ts) o && (starts_key (kind2 ts) && not (kind2 ts == hash_kind))) ≡ false
      no_accessor o a = ⊎_elim (λ y. and_left (eqb (kind ts) o) _ y) (λ y. and_right (eqb (kind ts) o) _ (and_left (starts_key (kind2 ts)) _ y.0)) (key_alone x n o a i h f)

  accessor_on : (o : ℕ) (x : Tree) (m n : Input) → kind ts ≡ o → rest ts ≡ m → is_key x ≡ true → Produces x (coded p c) m n → (eqb (kind ts) o && (starts_key (kind2 ts) && not (kind2 ts == hash_kind))) ≡ true
  accessor_on o x m n e u i h = let w = (key_starts x (coded p c) m n i h).0 in
      and_from (eqb (kind ts) o) _ (eq-eqb (kind ts) o e) (subst (λ (d : Input). (starts_key (kind d) && not (kind d == hash_kind)) ≡ true) (sym u) (and_from (starts_key (kind m)) _ (key_opens (kind m) w) (ap not (no_kind begins_key (kind m) hash_kind w refl))))

  getter_read : (s q : Span) (x : Tree) (ss : Trees) → Within z.Covered (getter_prop s x (block_stmt q ss)) → Produces (getter_prop s x (block_stmt q ss)) (coded p c) ts r
      → Reads (from ts k) (prop_by lm z.inner c (from ts k)) (Is (getter_prop s x (block_stmt q ss)) r) (z.depth < within z.reach (getter_prop s x (block_stmt q ss)))
  unfolding prop_by getter_by
  getter_read s q x ss g h = if_no (kind ts == dot_dot_dot_kind) _ _ _ _ (is_no dot_dot_dot_kind get_kind h.4.0 refl) (if_no (kind ts == mul_kind) _ _ _ _ (is_no mul_kind get_kind h.4.0 refl)
      (if_no (is_async_head lm z.inner (from ts k)) _ _ _ _ (and_left (kind ts == async_kind) _ (is_no async_kind get_kind h.4.0 refl)) (if_yes (is_accessor lm z.inner get_kind (from ts k)) _ _ _ _ (accessor_on get_kind x h.0 h.1 h.4.0 h.4.3 h.5.0 h.5.1)
      (then_past ts h.0 k (key_by lm z.inner c) _ x h.1 (z.depth < within z.reach x) _ _ h.4.3 (key_found z p c x h.0 h.1 k h.5.0 g.0 h.5.1) (λ u. omega arith)
      (λ j. then_eat left_paren_kind h.1 h.2 j _ _ _ h.6.0 h.6.2 (then_eat right_paren_kind h.2 h.3 j _ _ _ h.7.0 h.7.2
      (then_is (z.inner.body (in_body false false c) (from h.3 j)) _ (block_stmt q ss) r (z.depth < z.reach (block_stmt q ss)) _ _ (z.body q ss p (in_body false false c) h.3 r j g.1 h.8) (λ u. omega arith)
      (λ l. here (ap (λ (d : Span). getter_prop d x (block_stmt q ss)) (sym h.9))))))))))

  setter_read : (s q : Span) (x a : Tree) (ss : Trees) → Within z.Covered (setter_prop s x a (block_stmt q ss)) → Produces (setter_prop s x a (block_stmt q ss)) (coded p c) ts r
      → Reads (from ts k) (prop_by lm z.inner c (from ts k)) (Is (setter_prop s x a (block_stmt q ss)) r) (z.depth < within z.reach (setter_prop s x a (block_stmt q ss)))
  unfolding prop_by setter_by
  setter_read s q x a ss g h = let o = span (lo h.2) h.3.last in
      if_no (kind ts == dot_dot_dot_kind) _ _ _ _ (is_no dot_dot_dot_kind set_kind h.5.0 refl) (if_no (kind ts == mul_kind) _ _ _ _ (is_no mul_kind set_kind h.5.0 refl)
      (if_no (is_async_head lm z.inner (from ts k)) _ _ _ _ (and_left (kind ts == async_kind) _ (is_no async_kind set_kind h.5.0 refl)) (if_no (is_accessor lm z.inner get_kind (from ts k)) _ _ _ _ (and_left (kind ts == get_kind) _ (is_no get_kind set_kind h.5.0 refl))
      (if_yes (is_accessor lm z.inner set_kind (from ts k)) _ _ _ _ (accessor_on set_kind x h.0 h.1 h.5.0 h.5.3 h.6.0 h.6.1)
      (then_past ts h.0 k (key_by lm z.inner c) _ x h.1 (z.depth < within z.reach x) _ _ h.5.3 (key_found z p c x h.0 h.1 k h.6.0 g.0 h.6.1) (λ u. omega arith)
      (λ j. then_is (setter_parameter lm z.inner (in_body false false c) (from h.1 j)) _ (param o none a) h.4 (z.depth < item_in z.reach a) _ _ (setter_found z p (in_body false false c) (param o none a) h.1 h.2 h.3 h.4 j refl (param_rest o a h.9) g.1 h.7 (tt, h.8, h.10, refl) h.11) (λ u. omega arith)
      (λ l. then_is (z.inner.body (in_body false false c) (from h.4 l)) _ (block_stmt q ss) r (z.depth < z.reach (block_stmt q ss)) _ _ (z.body q ss p (in_body false false c) h.4 r l g.2 h.12) (λ u. omega arith)
      (λ f. here (ap (λ (d : Span). setter_prop d x a (block_stmt q ss)) (sym h.13))))))))))

  pub method_read : (t : Tree) → is_method t ≡ true → Within z.Covered t → Produces t (coded p c) ts r → Reads (from ts k) (prop_by lm z.inner c (from ts k)) (Is t r) (z.depth < within z.reach t)
  method_read (method_prop s x (function t ps ds b true false)) e g h = let y = h.1.2 in generator s t x ps ds b h.1.0 h.1.1 g.0 g.1 h.0 (ap (λ (d : Input). kind d) y.1 ∙ y.2.0) (ap (λ (d : Input). rest d) y.1 ∙ y.2.2) h.1.3 h.1.4 h.2 h.3
  method_read (method_prop s x (function t ps ds b d true)) e g h = let y = h.1.2 in async_method s t x ps ds b d y.0 h.1.0 h.1.1 g.0 g.1 h.0 y.1.0.0 y.1.0.3 y.1.1 y.2 h.1.3 h.1.4 h.2 h.3
  method_read (method_prop s x (function t ps ds (block_stmt q ss) false false)) e g h = let y = h.1.2 in
      plain_method s t x ps ds (block_stmt q ss) h.1.1 g.0 g.1 h.0 (subst (λ (d : Input). Produces x (coded p c) d h.1.1) (sym (y.1 ∙ y.2)) h.1.3) h.1.4.2.1.0 h.1.4 h.2 h.3
  method_read (method_prop s x (function t ps ds b false false)) e g h = absurd h.1.4
  method_read (method_prop s x f) e g h = absurd h
  method_read (getter_prop s x (block_stmt q ss)) e g h = getter_read s q x ss g h
  method_read (getter_prop s x b) e g h = absurd h
  method_read (setter_prop s x a (block_stmt q ss)) e g h = setter_read s q x a ss g h
  method_read (setter_prop s x a b) e g h = absurd h
  method_read _ e g h = absurd (true≢false (sym e))
