-- What the readers of keys, properties and objects answer.
use Rattle.std.proofs.Common.{◌≡◌, ℕ, ◌<◌, ◌≤◌, ◌⊎◌, inl, inr, max, Bool, true, false, not, ◌&&◌, ◌||◌, ◌==◌, eqb, List, [], ◌∷◌, ◌++◌, Option, Some, refl, sym, ap, ◌∙◌, subst, ⊎_elim, true≢false, append_assoc, append-nil, arith}
use Rattle.std.proofs.lemmas.Bool.{ne_eqb, eq-eqb, and_left, and_right, or_from, or_left}
use Rattle.base_number.specs.Numbers.{SpecNumber}
use Rattle.base_token.specs.declared.place.Span.{Span}
use Rattle.base_token.specs.Kinds.{comma_kind, colon_kind, assign_kind, dot_dot_dot_kind, mul_kind, left_paren_kind, left_bracket_kind, left_brace_kind, right_brace_kind, str_kind, num_kind, big_int_kind, async_kind, get_kind, set_kind, hash_kind}
use Rattle.tree_spec.specs.Tree.{Tree, Trees, none, more, pack, unpack, ident, ident_name, computed_prop_name, str_lit, number_lit, big_int_lit, object_lit, key_value_prop, assign_prop, spread_element, getter_prop, setter_prop, method_prop, function, block_stmt}
use Rattle.tree_spec.proofs.PackLemmas.{pack_unpack}
use Rattle.grammar_spec.specs.Tokens.Input.{Input, Code, kind, kind2, lo, text, content, rest, span, first_span, is_word, with_in, assigning}
use Rattle.grammar_spec.specs.Tokens.Operators.{assignment_level, starts_key}
use Rattle.grammar_spec.specs.Tokens.Shape.{level, ends, is_prop, is_key}
use Rattle.grammar_spec.specs.Children.{Sorted, Listed}
use Rattle.grammar_spec.specs.Expressions.{StringLiteral, NumericLiteral, BigIntLiteral}
use Rattle.grammar_spec.specs.Functions.{MethodHead}
use Rattle.grammar_spec.specs.Grammar.{Produces, children}
use Rattle.grammar_spec.specs.Reader.Source.{◌>>=◌, State, bound, Inner, iterate}
use Rattle.grammar_spec.specs.Reader.Expressions.{no_elements, literal, key_by, prop_by, prop_rest, prop_step, after_element, object_by, prefix_by, is_async_head, is_accessor}
use Rattle.grammar_spec.specs.Reader.Reading.{readers}
use Rattle.grammar_laws.proofs.complete_base.Yields.{lm, from, coded, first_at, IsName, Reads, Is, then_is, then_past, then_eat, then_name_placed, then_noted, here, past_here, if_no, if_yes, Loops, loop_on, loop_end, looped}
use Rattle.grammar_laws.proofs.complete_base.Levels.{Follow, closed_by, comma_after}
use Rattle.grammar_laws.proofs.complete_rules.Lengths.{prop_taken}
use Rattle.grammar_laws.proofs.complete_base.Trees.{Covered, CoveredAll, size, sizes, reach, reaches, takes, no_kind}
use Rattle.grammar_laws.proofs.complete_rules.Prefixes.{literal_found}
use Rattle.grammar_laws.proofs.complete_rules.Lists.{Finds, Deep, Has, two_asked}
use Rattle.grammar_laws.proofs.complete_rules.Steps.{computed_found}
use Rattle.grammar_laws.proofs.complete_rules.Members.{no_more}

-- ---- literals

pub str_read : (c : Code) (s : Span) (u : List ℕ) (w : Option (List ℕ)) (ts r : Input) → StringLiteral c s u w ts r → literal (kind ts) (content ts) (first_span ts) ≡ Some (str_lit s u w)
str_read c s u w ts r h = rw (h.3.0, h.2) (ap Some (ap (λ (y : Span). str_lit y u (Some h.0)) (first_at ts r s h.3.2 h.4) ∙ ap (λ (y : Option (List ℕ)). str_lit s u y) (sym h.1)))

pub number_read : (c : Code) (s : Span) (v : SpecNumber) (w : Option (List ℕ)) (ts r : Input) → NumericLiteral c s v w ts r → literal (kind ts) (content ts) (first_span ts) ≡ Some (number_lit s v w)
number_read c s v w ts r h = rw (h.3.0, h.2) (ap Some (ap (λ (y : Span). number_lit y v (Some h.0)) (first_at ts r s h.3.2 h.4) ∙ ap (λ (y : Option (List ℕ)). number_lit s v y) (sym h.1)))

pub big_int_read : (c : Code) (s : Span) (b : ℕ) (e : List ℕ) (w : Option (List ℕ)) (ts r : Input) → BigIntLiteral c s b e w ts r → literal (kind ts) (content ts) (first_span ts) ≡ Some (big_int_lit s b e w)
big_int_read c s b e w ts r h = rw (h.3.0, h.2) (ap Some (ap (λ (y : Span). big_int_lit y b e (Some h.0)) (first_at ts r s h.3.2 h.4) ∙ ap (λ (y : Option (List ℕ)). big_int_lit s b e y) (sym h.1)))

-- ---- keys

-- the kinds that start a key
abbrev pub begins_key : ℕ → Bool
begins_key k = is_word k || ((k == str_kind) || ((k == num_kind) || ((k == big_int_kind) || (k == left_bracket_kind))))

-- A key of a word is that word alone; another starts with no word.
abbrev pub OneWord : Input → Input → Type 0
OneWord ts m = ((is_word (kind ts) ≡ true) × (rest ts ≡ m)) ⊎ (is_word (kind ts) ≡ false)

pub key_starts : (k : Tree) (c : Code) (ts m : Input) → is_key k ≡ true → Produces k c ts m → (begins_key (kind ts) ≡ true) × OneWord ts m
key_starts (ident_name s n) c ts m e h = (or_left (is_word (kind ts)) _ h.0.0, inl (h.0.0, h.0.3))
key_starts (str_lit s u w) c ts m e h = (subst (λ (n : ℕ). begins_key n ≡ true) (sym h.3.0) refl, inr (subst (λ (n : ℕ). is_word n ≡ false) (sym h.3.0) refl))
key_starts (number_lit s v w) c ts m e h = (subst (λ (n : ℕ). begins_key n ≡ true) (sym h.3.0) refl, inr (subst (λ (n : ℕ). is_word n ≡ false) (sym h.3.0) refl))
key_starts (big_int_lit s b d w) c ts m e h = (subst (λ (n : ℕ). begins_key n ≡ true) (sym h.3.0) refl, inr (subst (λ (n : ℕ). is_word n ≡ false) (sym h.3.0) refl))
key_starts (computed_prop_name s x) c ts m e h = (subst (λ (n : ℕ). begins_key n ≡ true) (sym h.2.0) refl, inr (subst (λ (n : ℕ). is_word n ≡ false) (sym h.2.0) refl))
key_starts _ c ts m e h = absurd (true≢false (sym e))

-- how a method starts: with no brace
method_head : (g a : Bool) (k : Tree) (c : Code) (ts m n : Input) → MethodHead g a c ts m → is_key k ≡ true → Produces k c m n → eqb (kind ts) right_brace_kind ≡ false
method_head g true k c ts m n h i y = ne_eqb (kind ts) right_brace_kind (λ q. omega (arith, q, h.1.0.0))
method_head true false k c ts m n h i y = ne_eqb (kind ts) right_brace_kind (λ q. omega (arith, q, h.2.0, ap (λ (x : Input). kind x) h.1))
method_head false false k c ts m n h i y = subst (λ (x : Input). eqb (kind x) right_brace_kind ≡ false) (sym (h.1 ∙ h.2)) (no_kind begins_key (kind m) right_brace_kind (key_starts k c m n i y).0 refl)

method_begins : (s : Span) (k f : Tree) (c : Code) (ts r : Input) → Produces (method_prop s k f) c ts r → eqb (kind ts) right_brace_kind ≡ false
method_begins s k (function t ps ds b g a) c ts r h = method_head g a k c ts h.1.0 h.1.1 h.1.2 h.0 h.1.3
method_begins s k _ c ts r h = absurd h

module _ (z d : ℕ) (f : Finds z d) (p : Bool) (c : Code) where
  abbrev inner : Inner Input
  inner = readers lm d

  pub key_found : (x : Tree) (ts m : Input) (k : List ℕ) → size x < z → Covered x → is_key x ≡ true → (y : Code) → assigning (with_in y) ≡ coded p (with_in c) → Produces x y ts m → Reads (from ts k) (key_by lm inner c (from ts k)) (Is x m) (d < reach x)
  unfolding key_by
  key_found (ident_name s n) ts m k sz g e y eq h = if_no (eqb (kind ts) left_bracket_kind) _ _ _ _ (no_kind is_word (kind ts) left_bracket_kind h.0.0 refl) (if_yes (is_word (kind ts)) _ _ _ _ h.0.0
      (past_here (ap (λ (o : Span). ident_name o (text ts)) (first_at ts m s h.0.3 h.1) ∙ ap (λ o. ident_name s o) h.0.1) h.0.3))
  key_found (str_lit s u w) ts m k sz g e y eq h = rw h.3.0 (literal_found inner c ts k (λ x. Unit {0}) _ (str_lit s u w) m (str_read y s u w ts m h) h.3.2)
  key_found (number_lit s v w) ts m k sz g e y eq h = rw h.3.0 (literal_found inner c ts k (λ x. Unit {0}) _ (number_lit s v w) m (number_read y s v w ts m h) h.3.2)
  key_found (big_int_lit s b x w) ts m k sz g e y eq h = rw h.3.0 (literal_found inner c ts k (λ x. Unit {0}) _ (big_int_lit s b x w) m (big_int_read y s b x w ts m h) h.3.2)
  key_found (computed_prop_name s x) ts m k sz g e y eq h = if_yes (eqb (kind ts) left_bracket_kind) _ _ _ _ (eq-eqb (kind ts) left_bracket_kind h.2.0)
      (computed_found inner c ts k x ts k (d < reach x) assignment_level s x h.0 h.1 m (d < reach x) h.2.2 (λ j. f x p (with_in c) 2 h.0 h.1 j (omega (arith, sz)) g (subst (λ (o : Code). Produces x o h.0 h.1) eq h.3.1) (omega arith) (omega arith) two_asked h.3.0 (closed_by (with_in c) (ends x) 2 10 h.1 h.4.0 refl refl (omega arith))) (λ u. u) h.4.0 h.4.2 h.5)
  key_found _ ts m k sz g e y eq h = absurd (true≢false (sym e))

  -- ---- properties

  -- what may follow a word that is a whole key or a name: nothing that starts a key, and no star
  abbrev pub plain_next : ℕ → Bool
  plain_next k = not (starts_key k) && not (k == mul_kind)

  -- no method, getter or setter starts here
  abbrev pub Plain : Input → Type 0
  Plain ts = (is_word (kind ts) ≡ false) ⊎ (plain_next (kind2 ts) ≡ true)

  pub plain_prop : (ts : Input) (k : List ℕ) (V : Tree × State Input → Type 0) (Q : Type 0) → begins_key (kind ts) ≡ true → Plain ts → Reads (from ts k) (key_by lm inner c (from ts k) >>= λ x. prop_rest lm inner c (from ts k) x.0 x.1) V Q → Reads (from ts k) (prop_by lm inner c (from ts k)) V Q
  unfolding prop_by
  plain_prop ts k V Q b a y = if_no (eqb (kind ts) dot_dot_dot_kind) _ _ V Q (no_kind begins_key (kind ts) dot_dot_dot_kind b refl) (if_no (eqb (kind ts) mul_kind) _ _ V Q (no_kind begins_key (kind ts) mul_kind b refl)
      (if_no (is_async_head lm inner (from ts k)) _ _ V Q (⊎_elim (λ w. and_left (kind ts == async_kind) _ (no_word async_kind w refl)) (λ w. and_right (kind ts == async_kind) _ (and_left (starts_key (kind2 ts) || (kind2 ts == mul_kind)) _ (or_from (starts_key (kind2 ts)) _ (no_key w) (no_star w)))) a)
      (if_no (is_accessor lm inner get_kind (from ts k)) _ _ V Q (no_accessor get_kind refl a) (if_no (is_accessor lm inner set_kind (from ts k)) _ _ V Q (no_accessor set_kind refl a) y))))
    where
      no_word : (n : ℕ) → is_word (kind ts) ≡ false → is_word n ≡ true → eqb (kind ts) n ≡ false
      no_word n w h = ne_eqb (kind ts) n (λ q. true≢false (sym h ∙ ap is_word (sym q) ∙ w))

      parts_of : (a b : Bool) → (not a && not b) ≡ true → (a ≡ false) × (b ≡ false)
      parts_of true b h = absurd (true≢false (sym h))
      parts_of false true h = absurd (true≢false (sym h))
      parts_of false false h = (refl, refl)

      no_key : plain_next (kind2 ts) ≡ true → starts_key (kind2 ts) ≡ false
      no_key w = (parts_of (starts_key (kind2 ts)) (kind2 ts == mul_kind) w).0

      no_star : plain_next (kind2 ts) ≡ true → (kind2 ts == mul_kind) ≡ false
      no_star w = (parts_of (starts_key (kind2 ts)) (kind2 ts == mul_kind) w).1

      no_accessor : (n : ℕ) → is_word n ≡ true → Plain ts → (eqb (kind ts) n && (starts_key (kind2 ts) && not (kind2 ts == hash_kind))) ≡ false
      no_accessor n h (inl w) = and_left (eqb (kind ts) n) _ (no_word n w h)
      no_accessor n h (inr w) = and_right (eqb (kind ts) n) _ (and_left (starts_key (kind2 ts)) _ (no_key w))

  -- a comma, or the brace that closes, stands after a property
  abbrev pub Divides : Input → Type 0
  Divides m = (kind m ≡ comma_kind) ⊎ (kind m ≡ right_brace_kind)

  pub divided : (m : Input) → Divides m → (e : ℕ) → Follow (with_in c) e 2 m
  divided m (inl q) e = comma_after (with_in c) e 2 m q (omega arith)
  divided m (inr q) e = closed_by (with_in c) e 2 12 m q refl refl (omega arith)

  divides_kind : (P : ℕ → Bool) (b : Bool) → P comma_kind ≡ b → P right_brace_kind ≡ b → (m : Input) → Divides m → P (kind m) ≡ b
  divides_kind P b h g m (inl q) = subst (λ (n : ℕ). P n ≡ b) (sym q) h
  divides_kind P b h g m (inr q) = subst (λ (n : ℕ). P n ≡ b) (sym q) g

  -- a word that is a key, with what follows it
  word_key : (ts : Input) (k : List ℕ) (V : Tree × State Input → Type 0) (Q : Type 0) → is_word (kind ts) ≡ true → Reads (from ts k) (prop_rest lm inner c (from ts k) (ident_name (first_span ts) (text ts)) (from (rest ts) k)) V Q → Reads (from ts k) (key_by lm inner c (from ts k) >>= λ x. prop_rest lm inner c (from ts k) x.0 x.1) V Q
  unfolding key_by
  word_key ts k V Q w y = rw (no_kind is_word (kind ts) left_bracket_kind w refl, w) y

  pub short_prop : (s : Span) (n : List ℕ) (ts m : Input) (k : List ℕ) (Q : Type 0) (y : Code) → IsName c ts → Produces (ident s n) y ts m → Divides m → Reads (from ts k) (prop_by lm inner c (from ts k)) (Is (ident s n) m) Q
  unfolding prop_rest
  short_prop s n ts m k Q y is h v = plain_prop ts k (Is (ident s n) m) Q (or_left (is_word (kind ts)) _ h.0.0) (inr (subst (λ (o : Input). plain_next (kind o) ≡ true) (sym h.0.5) (divides_kind plain_next true refl refl m v))) (word_key ts k (Is (ident s n) m) Q h.0.0
      (if_no (eqb (kind (rest ts)) colon_kind) _ _ _ _ (no colon_kind refl refl) (if_no (eqb (kind (rest ts)) left_paren_kind) _ _ _ _ (no left_paren_kind refl refl)
      (then_name_placed _ c ts m n k _ _ Q is h.0.3 h.0.5 (if_no (eqb (kind m) assign_kind) _ _ _ _ (divides_kind (λ x. x == assign_kind) false refl refl m v) (here (ap (λ (o : Span). ident o n) (first_at ts m s h.0.5 h.1))))))))
    where
      no : (x : ℕ) → eqb comma_kind x ≡ false → eqb right_brace_kind x ≡ false → eqb (kind (rest ts)) x ≡ false
      no x a b = subst (λ (y : Input). eqb (kind y) x ≡ false) (sym h.0.5) (divides_kind (λ y. eqb y x) false a b m v)

  pub cover_prop : (s t : Span) (n : List ℕ) (e : Tree) (ts a b m : Input) (k : List ℕ) → size e < z → Covered e → (y : Code) → IsName c ts → Produces (ident t n) y ts a → kind a ≡ assign_kind → rest a ≡ b → 2 ≤ level e → Produces e (coded p (with_in c)) b m → s ≡ span (lo ts) m.last → Divides m
      → Reads (from ts k) (prop_by lm inner c (from ts k)) (Is (assign_prop s (ident t n) e) m) (d < reach e)
  unfolding prop_rest
  cover_prop s t n e ts a b m k sz g y is h q r le w sp v = plain_prop ts k (Is (assign_prop s (ident t n) e) m) (d < reach e) (or_left (is_word (kind ts)) _ h.0.0) (inr (subst (λ (o : Input). plain_next (kind o) ≡ true) (sym h.0.5) (subst (λ (o : ℕ). plain_next o ≡ true) (sym q) refl)))
      (word_key ts k (Is (assign_prop s (ident t n) e) m) (d < reach e) h.0.0
      (if_no (eqb (kind (rest ts)) colon_kind) _ _ _ _ (no colon_kind refl) (if_no (eqb (kind (rest ts)) left_paren_kind) _ _ _ _ (no left_paren_kind refl)
      (then_name_placed _ c ts a n k _ _ (d < reach e) is h.0.3 h.0.5 (if_yes (eqb (kind a) assign_kind) _ _ _ _ (eq-eqb (kind a) assign_kind q)
      (then_past a b k (inner.expr (with_in c) assignment_level) _ e m (d < reach e) _ _ r (f e p (with_in c) 2 b m k sz g w (omega arith) (omega arith) two_asked le (divided m v (ends e))) (λ u. u)
      (λ j. here (ap (λ (o : Span). assign_prop o (ident (first_span ts) n) e) (sym sp) ∙ ap (λ (o : Span). assign_prop s (ident o n) e) (first_at ts a t h.0.5 h.1)))))))))
    where
      no : (x : ℕ) → eqb assign_kind x ≡ false → eqb (kind (rest ts)) x ≡ false
      no x y = subst (λ (i : Input). eqb (kind i) x ≡ false) (sym h.0.5) (subst (λ (i : ℕ). eqb i x ≡ false) (sym q) y)

  pub prop_found : Deep z d → (x : Tree) (ts m : Input) (k : List ℕ) → size x < z → Covered x → is_prop x ≡ true → Produces x (coded p c) ts m → Divides m → Reads (from ts k) (prop_by lm inner c (from ts k)) (Is x m) (d < reach x)
  unfolding prop_rest prop_by
  prop_found w (ident s n) ts m k sz g e h v = short_prop s n ts m k _ (coded p c) (h.0.0, h.0.1, h.0.2) h v
  prop_found w (assign_prop s (ident t n) e) ts m k sz g q h v = cover_prop s t n e ts h.0 h.1 m k (omega arith) g.1 (coded p c) (h.2.1.0.0, h.2.1.0.1, h.2.1.0.2) h.2.1 h.3.0 h.3.2 h.4.0 h.4.1 h.5 v
  prop_found w (assign_prop s x e) ts m k sz g q h v = absurd (true≢false (sym h.2.0))
  prop_found w (spread_element s e) ts m k sz g q h v = if_yes (eqb (kind ts) dot_dot_dot_kind) _ _ _ _ (eq-eqb (kind ts) dot_dot_dot_kind h.1.0)
      (then_past ts h.0 k (inner.expr (with_in c) assignment_level) _ e m (d < reach e) _ _ h.1.2 (f e p (with_in c) 2 h.0 m k (omega arith) g h.2.1 (omega arith) (omega arith) two_asked h.2.0 (divided m v (ends e))) (λ u. u) (λ j. here (ap (λ (y : Span). spread_element y e) (sym h.3))))
  prop_found dp (key_value_prop s x e) ts m k sz g q h v = let w = key_starts x (coded p c) ts h.0 h.2.0 h.2.1 in
      plain_prop ts k (Is (key_value_prop s x e) m) (d < max (reach x) (reach e)) w.0 (next w.1)
      (then_is (key_by lm inner c (from ts k)) _ x h.0 (d < reach x) _ _ (key_found x ts h.0 k (omega arith) g.0 h.2.0 (coded p c) refl h.2.1) (λ u. omega arith)
      (λ j. if_yes (eqb (kind h.0) colon_kind) _ _ _ _ (eq-eqb (kind h.0) colon_kind h.3.0)
      (then_past h.0 h.1 j (inner.expr (with_in c) assignment_level) _ e m (d < reach e) _ _ h.3.2 (f e p (with_in c) 2 h.1 m j (omega arith) g.1 h.4.1 (omega arith) (omega arith) two_asked h.4.0 (divided m v (ends e))) (λ u. omega arith)
      (λ i. here (ap (λ (y : Span). key_value_prop y x e) (sym h.5))))))
    where
      next : OneWord ts h.0 → Plain ts
      next (inl w) = inr (subst (λ (y : Input). plain_next (kind y) ≡ true) (sym w.1) (subst (λ (y : ℕ). plain_next y ≡ true) (sym h.3.0) refl))
      next (inr w) = inl w
  prop_found w (getter_prop s x b) ts m k sz g e h v = w.methods (getter_prop s x b) p c ts m k refl sz h
  prop_found w (setter_prop s x a b) ts m k sz g e h v = w.methods (setter_prop s x a b) p c ts m k refl sz h
  prop_found w (method_prop s x b) ts m k sz g e h v = w.methods (method_prop s x b) p c ts m k refl sz h
  prop_found w _ ts m k sz g e h v = absurd (true≢false (sym e))

  -- ---- objects

  begins_prop : (x : Tree) (ts m : Input) → Covered x → is_prop x ≡ true → Produces x (coded p c) ts m → eqb (kind ts) right_brace_kind ≡ false
  begins_prop (ident s n) ts m g e h = no_kind is_word (kind ts) right_brace_kind h.0.0 refl
  begins_prop (assign_prop s (ident t n) x) ts m g e h = no_kind is_word (kind ts) right_brace_kind h.2.1.0.0 refl
  begins_prop (assign_prop s k x) ts m g e h = absurd (true≢false (sym h.2.0))
  begins_prop (spread_element s x) ts m g e h = ne_eqb (kind ts) right_brace_kind (λ q. omega (arith, q, h.1.0))
  begins_prop (key_value_prop s k v) ts m g e h = no_kind begins_key (kind ts) right_brace_kind (key_starts k (coded p c) ts h.0 h.2.0 h.2.1).0 refl
  begins_prop (getter_prop s x (block_stmt q ss)) ts m g e h = ne_eqb (kind ts) right_brace_kind (λ q. omega (arith, q, h.4.0))
  begins_prop (getter_prop s x b) ts m g e h = absurd h
  begins_prop (setter_prop s x a (block_stmt q ss)) ts m g e h = ne_eqb (kind ts) right_brace_kind (λ q. omega (arith, q, h.5.0))
  begins_prop (setter_prop s x a b) ts m g e h = absurd h
  begins_prop (method_prop s x b) ts m g e h = method_begins s x b (coded p c) ts m h
  begins_prop _ ts m g e h = absurd (true≢false (sym e))

  object_loop : Deep z d → (xs : Trees) (acc : List Tree) (b : Bool) (ts r : Input) (k : List ℕ) (n : ℕ) → sizes xs < z → CoveredAll xs → Listed false (Sorted is_prop (coded p c)) (coded p c) right_brace_kind (children xs) ts r → reaches xs ≤ n
      → Loops (prop_step lm inner c) (record { items = acc; comma = b }) ts k (Has (acc ++ unpack xs) r) (d < n)
  unfolding prop_step after_element
  object_loop dp none acc b ts r k n sz g h le = loop_end _ _ (record { items = acc; comma = b }) ts r k ⊥ _ _ (if_yes (eqb (kind ts) right_brace_kind) _ _ _ _ (eq-eqb (kind ts) right_brace_kind h.0) (past_here refl h.2)) (λ u. absurd u) (λ l. (sym (append-nil acc), refl))
  object_loop dp (more x xs) acc b ts r k n sz g h le = ⊎_elim
      (λ v. loop_on _ _ (record { items = acc ++ x ∷ []; comma = true }) ts v.1 k (d < reach x) _ _
      (if_no (eqb (kind ts) right_brace_kind) _ _ _ _ (begins_prop x ts h.0 g.0 h.1.0 h.1.1) (then_is (prop_by lm inner c (from ts k)) _ x h.0 (d < reach x) _ _ (prop_found dp x ts h.0 k (omega arith) g.0 h.1.0 h.1.1 (inl v.2.0)) (λ u. u)
      (λ j. if_yes (eqb (kind h.0) comma_kind) _ _ _ _ (eq-eqb (kind h.0) comma_kind v.2.0) (past_here refl v.2.2)))) (λ u. omega arith)
      (omega (arith, prop_taken x _ ts h.0 h.1, takes comma_kind h.0 v.1 v.2.0 (omega arith) v.2.2))
      (λ l. subst (λ ys. Loops (prop_step lm inner c) (record { items = acc ++ x ∷ []; comma = true }) v.1 l (Has ys r) (d < n)) (append_assoc acc (x ∷ []) (unpack xs)) (object_loop dp xs (acc ++ x ∷ []) true v.1 r l n (omega arith) g.1 v.3 (omega arith))))
      (λ v. loop_end _ _ (record { items = acc ++ x ∷ []; comma = false }) ts r k (d < reach x) _ _
      (if_no (eqb (kind ts) right_brace_kind) _ _ _ _ (begins_prop x ts h.0 g.0 h.1.0 h.1.1) (then_is (prop_by lm inner c (from ts k)) _ x h.0 (d < reach x) _ _ (prop_found dp x ts h.0 k (omega arith) g.0 h.1.0 h.1.1 (inr v.1.0)) (λ u. u)
      (λ j. if_no (eqb (kind h.0) comma_kind) _ _ _ _ (ne_eqb (kind h.0) comma_kind (λ q. omega (arith, q, v.1.0))) (then_eat right_brace_kind h.0 r j _ _ _ v.1.0 v.1.2 (here refl))))) (λ u. omega arith)
      (λ l. (ap (λ ys. acc ++ (x ∷ ys)) (sym (no_more xs v.0)), refl)))
      h.2

  pub object_found : Deep z d → (lev : ℕ) (s : Span) (xs : Trees) (ts m r : Input) (k : List ℕ) {Q : Type 0} → sizes xs < z → CoveredAll xs → kind ts ≡ left_brace_kind → rest ts ≡ m → Listed false (Sorted is_prop (coded p c)) (coded p c) right_brace_kind (children xs) m r → s ≡ span (lo ts) r.last → (d < reaches xs → Q)
      → Reads (from ts k) (prefix_by lm inner c lev (from ts k)) (Is (object_lit s xs) r) Q
  unfolding prefix_by object_by
  object_found dp lev s xs ts m r k {Q = Q} sz g e q h sp i = rw e (then_noted ts m k (iterate (bound lm) (prop_step lm inner c) no_elements) _ _ (Has (unpack xs) r) (d < reaches xs) (Is (object_lit s xs) r) Q (λ u. omega (arith, e, u)) (λ u. omega (arith, e, u)) q
      (looped (prop_step lm inner c) no_elements m k (Has (unpack xs) r) (d < reaches xs) (object_loop dp xs [] false m r k (reaches xs) sz g h (omega arith))) i
      (λ x v. (ap (λ ys. object_lit (span (lo ts) x.1.source.last) (pack ys)) v.0 ∙ ap (λ ys. object_lit (span (lo ts) x.1.source.last) ys) (pack_unpack xs) ∙ ap (λ (z : Input). object_lit (span (lo ts) z.last) xs) v.1 ∙ ap (λ z. object_lit z xs) (sym sp), v.1)))

pub key_opens : (k : ℕ) → begins_key k ≡ true → starts_key k ≡ true
key_opens k h = widen (is_word k) (k == str_kind) (k == num_kind) (k == big_int_kind) (k == left_bracket_kind) (k == hash_kind) h
  where
    widen : (a b d e f g : Bool) → (a || (b || (d || (e || f)))) ≡ true → (a || (b || (d || (e || (f || g))))) ≡ true
    widen true b d e f g h = refl
    widen false true d e f g h = refl
    widen false false true e f g h = refl
    widen false false false true f g h = refl
    widen false false false false true g h = refl
    widen false false false false false g h = absurd (true≢false (sym h))
