-- What the readers of patterns that bind answer (ECMA-262, 14.3.3), over readers of what is nested that find it.
use Rattle.std.proofs.Common.{◌≡◌, ℕ, zero, suc, ◌<◌, ◌≤◌, Bool, true, false, not, ◌&&◌, ◌||◌, ◌==◌, eqb, List, [], ◌∷◌, ◌++◌, Result, Ok, refl, sym, ap, ◌∙◌, subst, ⊎_elim, true≢false, append_assoc, append-nil, arith}
use Rattle.std.proofs.lemmas.Bool.{ne_eqb, eq-eqb, and_from, and_left, or_left}
use Rattle.base_token.specs.declared.place.Span.{Span}
use Rattle.base_token.specs.Kinds.{comma_kind, colon_kind, assign_kind, dot_dot_dot_kind, left_bracket_kind, right_bracket_kind, left_brace_kind, right_brace_kind}
use Rattle.tree_spec.specs.Tree.{Tree, Trees, none, more, pack, unpack, ident, binding_ident, array_pat, object_pat, assign_pat, rest_pat, key_value_pat_prop, assign_pat_prop, hole, absent}
use Rattle.tree_spec.proofs.PackLemmas.{pack_unpack}
use Rattle.grammar_spec.specs.Tokens.Input.{Input, Code, kind, lo, rest, span, first_span, is_word, with_in}
use Rattle.grammar_spec.specs.Tokens.Operators.{assignment_level}
use Rattle.grammar_spec.specs.Tokens.Shape.{ends, is_binding, is_item_pat, is_structured, is_hole, is_rest, is_absent}
use Rattle.grammar_spec.specs.Children.{child, Listed}
use Rattle.grammar_spec.specs.Patterns.{Item, Property}
use Rattle.grammar_spec.specs.Grammar.{Produces, children}
use Rattle.grammar_spec.specs.Reader.Source.{Fault, ◌>>=◌, State, bound, Inner, Step, go_on, finished, iterate}
use Rattle.grammar_spec.specs.Reader.Expressions.{key_by}
use Rattle.grammar_spec.specs.Reader.Statements.{pat_by, array_pat_by, array_item, object_pat_by, object_item, pattern_prop, keyed_item, named_item, initial_pat, after_item}
use Rattle.grammar_spec.specs.Reader.Reading.{readers}
use Rattle.grammar_laws.specs.CompleteBase.Laws.{patterned}
use Rattle.grammar_laws.proofs.complete_base.Yields.{lm, from, coded, first_at, Reads, too_deep, Is, then_is, then_past, then_past_reads, then_eat, then_name, then_name_placed, onto, here, past_here, ended, if_no, if_yes, Loops, loop_on, loop_end, looped}
use Rattle.grammar_laws.proofs.complete_base.Levels.{Follow, closed_by, comma_after}
use Rattle.grammar_laws.proofs.complete_rules.Lengths.{item_taken, property_taken}
use Rattle.grammar_laws.proofs.complete_base.Trees.{Covered, CoveredAll, size, sizes, reach, reaches, takes, no_kind, by_cases}
use Rattle.grammar_laws.proofs.complete_rules.Lists.{Finds, two_asked}
use Rattle.grammar_laws.proofs.complete_rules.Members.{no_more}
use Rattle.grammar_laws.proofs.complete_rules.Objects.{begins_key, key_starts, key_found}
use Rattle.grammar_laws.proofs.Shapes.{place_binds, hole_is}

-- A pattern that binds is read by calls so deep, or they are not deep enough.
abbrev pub Binds : ℕ → ℕ → Type 0
Binds z d = (t : Tree) (p : Bool) (c : Code) (ts r : Input) (k : List ℕ) → size t < z → Covered t → is_binding t ≡ true → Produces t (patterned p c) ts r → Reads (from ts k) ((readers lm d).pat c (from ts k)) (Is t r) (d < reach t)

-- what was read, whatever follows
abbrev Got : List Tree → Input → List Tree × State Input → Type 0
Got xs r x = (x.0 ≡ xs) × (x.1.source ≡ r)

-- the kinds that start a pattern
abbrev pub begins_pattern : ℕ → Bool
begins_pattern k = is_word k || ((k == left_bracket_kind) || (k == left_brace_kind))

pattern_starts : (t : Tree) (c : Code) (ts r : Input) → is_binding t ≡ true → Produces t c ts r → begins_pattern (kind ts) ≡ true
pattern_starts (binding_ident s (ident t n)) c ts r e h = or_left (is_word (kind ts)) _ h.1.0.0
pattern_starts (binding_ident s i) c ts r e h = absurd h
pattern_starts (array_pat s xs) c ts r e h = subst (λ (n : ℕ). begins_pattern n ≡ true) (sym h.1.0) refl
pattern_starts (object_pat s ps) c ts r e h = subst (λ (n : ℕ). begins_pattern n ≡ true) (sym h.1.0) refl
pattern_starts _ c ts r e h = absurd (true≢false (sym e))

-- an item that is no rest starts as a pattern
item_starts : (x : Tree) (c : Code) (ts r : Input) → is_item_pat true x ≡ true → is_rest x ≡ false → Produces x (record c { binds = true }) ts r → begins_pattern (kind ts) ≡ true
item_starts (assign_pat s a e) c ts r i n h = pattern_starts a (record c { binds = true }) ts h.0 (place_binds a h.2) h.3
item_starts (rest_pat s d a) c ts r i n h = absurd (true≢false n)
item_starts (binding_ident s x) c ts r i n h = pattern_starts (binding_ident s x) (record c { binds = true }) ts r refl h
item_starts (array_pat s xs) c ts r i n h = pattern_starts (array_pat s xs) (record c { binds = true }) ts r refl h
item_starts (object_pat s xs) c ts r i n h = pattern_starts (object_pat s xs) (record c { binds = true }) ts r refl h
item_starts _ c ts r i n h = absurd (true≢false (sym i))

-- what follows an item is none of its initialiser
abbrev pub Closed : Code → Input → Type 0
Closed c m = ((e : ℕ) → Follow c e 2 m) × (kind m ≡ assign_kind → ⊥)

module _ (z d : ℕ) (f : Finds z d) (b : Binds z d) (p : Bool) (c : Code) where
  abbrev inner : Inner Input
  inner = readers lm d

  -- an item with what goes on after it
  item_then : {B : Type 0} (x : Tree) (ts m : Input) (k : List ℕ) (F : Tree × State Input → Result (B × State Input) Fault) (W : B × State Input → Type 0) (Q : Type 0) → size x < z → Covered x → Item (patterned p c) (child x (λ y. Produces x y)) ts m → is_rest x ≡ false → Closed (with_in c) m
      → (d < reach x → Q) → ((j : List ℕ) → Reads (from m j) (F (x, from m j)) W Q) → Reads (from ts k) (inner.pat (with_in c) (from ts k) >>= λ y. initial_pat lm inner c (lo ts) y.0 y.1 >>= F) W Q
  unfolding initial_pat
  item_then (assign_pat s a e) ts m k F W Q sz g h n cl i y =
      then_is (inner.pat (with_in c) (from ts k)) _ a h.1.0 (d < reach a) W Q (b a p (with_in c) ts h.1.0 k (omega arith) g.0 (place_binds a h.1.2) h.1.3) (λ u. i (omega arith))
      (λ j. rw (eq-eqb (kind h.1.0) assign_kind h.1.4.0) (then_is _ _ (assign_pat s a e) m (d < reach e) W Q
      (then_past h.1.0 h.1.1 j (inner.expr (with_in c) assignment_level) _ e m (d < reach e) _ _ h.1.4.2 (f e p (with_in c) 2 h.1.1 m j (omega arith) g.1 h.1.5.1 (omega arith) (omega arith) two_asked h.1.5.0 (cl.0 (ends e))) (λ u. u) (λ l. here (ap (λ (v : Span). assign_pat v a e) (sym h.1.6))))
      (λ u. i (omega arith)) y))
  item_then (rest_pat s q a) ts m k F W Q sz g h n cl i y = absurd (true≢false n)
  item_then (binding_ident s x) ts m k F W Q sz g h n cl i y = bare (binding_ident s x) refl sz g h.1 cl i y
    where
      bare : (x : Tree) → is_binding x ≡ true → size x < z → Covered x → Produces x (patterned p (with_in c)) ts m → Closed (with_in c) m → (d < reach x → Q) → ((j : List ℕ) → Reads (from m j) (F (x, from m j)) W Q)
          → Reads (from ts k) (inner.pat (with_in c) (from ts k) >>= λ y. initial_pat lm inner c (lo ts) y.0 y.1 >>= F) W Q
      bare x e sz g h cl i y = then_is (inner.pat (with_in c) (from ts k)) _ x m (d < reach x) W Q (b x p (with_in c) ts m k sz g e h) i (λ j. rw (ne_eqb (kind m) assign_kind cl.1) (y j))
  item_then (array_pat s x) ts m k F W Q sz g h n cl i y = then_is (inner.pat (with_in c) (from ts k)) _ (array_pat s x) m (d < reach (array_pat s x)) W Q (b (array_pat s x) p (with_in c) ts m k sz g refl h.1) i (λ j. rw (ne_eqb (kind m) assign_kind cl.1) (y j))
  item_then (object_pat s x) ts m k F W Q sz g h n cl i y = then_is (inner.pat (with_in c) (from ts k)) _ (object_pat s x) m (d < reach (object_pat s x)) W Q (b (object_pat s x) p (with_in c) ts m k sz g refl h.1) i (λ j. rw (ne_eqb (kind m) assign_kind cl.1) (y j))
  item_then _ ts m k F W Q sz g h n cl i y = absurd (true≢false (sym h.0))

  after_comma : (acc : List Tree) (m r : Input) (j : List ℕ) (close : ℕ) (Q : Type 0) → kind m ≡ comma_kind → rest m ≡ r → Reads (from m j) (after_item lm inner close false acc (from m j)) (Is (go_on acc) r) Q
  unfolding after_item
  after_comma acc m r j close Q e q = if_yes (eqb (kind m) comma_kind && true) _ _ _ _ (and_from _ _ (eq-eqb (kind m) comma_kind e) refl) (past_here refl q)

  after_close : (acc : List Tree) (m r : Input) (j : List ℕ) (close : ℕ) (last : Bool) (Q : Type 0) → kind m ≡ close → rest m ≡ r → eqb close comma_kind ≡ false → Reads (from m j) (after_item lm inner close last acc (from m j)) (Is (finished acc) r) Q
  unfolding after_item
  after_close acc m r j close last Q e q n = if_no (eqb (kind m) comma_kind && not last) _ _ _ _ (and_left (eqb (kind m) comma_kind) _ (subst (λ (x : ℕ). eqb x comma_kind ≡ false) (sym e) n)) (then_eat close m r j _ _ _ e q (here refl))

  by_bracket : (m : Input) → kind m ≡ right_bracket_kind → Closed (with_in c) m
  by_bracket m e = (λ x. closed_by (with_in c) x 2 10 m e refl refl (omega arith), λ q. omega (arith, e, q))

  by_brace : (m : Input) → kind m ≡ right_brace_kind → Closed (with_in c) m
  by_brace m e = (λ x. closed_by (with_in c) x 2 12 m e refl refl (omega arith), λ q. omega (arith, e, q))

  by_comma : (m : Input) → kind m ≡ comma_kind → Closed (with_in c) m
  by_comma m e = (λ x. comma_after (with_in c) x 2 m e (omega arith), λ q. omega (arith, e, q))

  -- ---- arrays

  array_start : (ts : Input) → begins_pattern (kind ts) ≡ true → (eqb (kind ts) right_bracket_kind ≡ false) × (eqb (kind ts) comma_kind ≡ false) × (eqb (kind ts) dot_dot_dot_kind ≡ false)
  array_start ts h = (no_kind begins_pattern (kind ts) right_bracket_kind h refl, no_kind begins_pattern (kind ts) comma_kind h refl, no_kind begins_pattern (kind ts) dot_dot_dot_kind h refl)

  array_one : (x : Tree) (acc : List Tree) (ts m : Input) (k : List ℕ) (V : Step (List Tree) × State Input → Type 0) → size x < z → Covered x → Item (patterned p c) (child x (λ y. Produces x y)) ts m → is_rest x ≡ false → Closed (with_in c) m
      → ((j : List ℕ) → Reads (from m j) (after_item lm inner right_bracket_kind false (acc ++ x ∷ []) (from m j)) V (d < reach x)) → Reads (from ts k) (array_item lm inner c acc (from ts k)) V (d < reach x)
  unfolding array_item
  array_one x acc ts m k V sz g h n cl y = let w = array_start ts (item_starts x (record (with_in c) { placed = p }) ts m h.0 n h.1) in
      if_no (eqb (kind ts) right_bracket_kind) _ _ V _ w.0 (if_no (eqb (kind ts) comma_kind) _ _ V _ w.1 (if_no (eqb (kind ts) dot_dot_dot_kind) _ _ V _ w.2
      (item_then x ts m k (λ q. after_item lm inner right_bracket_kind false (acc ++ q.0 ∷ []) q.1) V (d < reach x) sz g h n cl (λ u. u) y)))

  array_rest : (s q : Span) (a : Tree) (acc : List Tree) (ts m r : Input) (k : List ℕ) → size a < z → Covered a → Item (patterned p c) (child (rest_pat s q a) (λ y. Produces (rest_pat s q a) y)) ts m → kind m ≡ right_bracket_kind → rest m ≡ r
      → Reads (from ts k) (array_item lm inner c acc (from ts k)) (Is (finished (acc ++ rest_pat s q a ∷ [])) r) (d < reach a)
  unfolding array_item
  array_rest s q a acc ts m r k sz g h e v =
      if_no (eqb (kind ts) right_bracket_kind) _ _ _ _ (ne_eqb (kind ts) right_bracket_kind (λ x. omega (arith, x, h.1.1.0))) (if_no (eqb (kind ts) comma_kind) _ _ _ _ (ne_eqb (kind ts) comma_kind (λ x. omega (arith, x, h.1.1.0))) (if_yes (eqb (kind ts) dot_dot_dot_kind) _ _ _ _ (eq-eqb (kind ts) dot_dot_dot_kind h.1.1.0)
      (then_past ts h.1.0 k (inner.pat (with_in c)) _ a m (d < reach a) _ _ h.1.1.2 (b a p (with_in c) h.1.0 m k sz g (place_binds a h.1.3) h.1.4) (λ u. u)
      (λ j. subst (λ (t : Tree). Reads (from m j) (after_item lm inner right_bracket_kind true (acc ++ t ∷ []) (from m j)) (Is (finished (acc ++ rest_pat s q a ∷ [])) r) (d < reach a)) (ap (λ (y : Span). rest_pat y q a) h.1.5 ∙ ap (λ (y : Span). rest_pat (span (lo ts) m.last) y a) h.1.2)
      (after_close (acc ++ rest_pat s q a ∷ []) m r j right_bracket_kind true _ e v refl)))))

  array_loop : (xs : Trees) (acc : List Tree) (ts r : Input) (k : List ℕ) (n : ℕ) → sizes xs < z → CoveredAll xs → Listed true (Item (patterned p c)) (patterned p c) right_bracket_kind (children xs) ts r → reaches xs ≤ n → Loops (array_item lm inner c) acc ts k (Got (acc ++ unpack xs) r) (d < n)
  unfolding array_item
  array_loop none acc ts r k n sz g h le = loop_end _ _ acc ts r k ⊥ _ _ (if_yes (eqb (kind ts) right_bracket_kind) _ _ _ _ (eq-eqb (kind ts) right_bracket_kind h.0) (past_here refl h.2)) (λ u. absurd u) (λ l. (sym (append-nil acc), refl))
  array_loop (more x xs) acc ts r k n sz g h le = by_cases (is_hole x) _ _ _ h
      (λ e y. loop_on _ _ (acc ++ hole ∷ []) ts y.0 k ⊥ _ _ (if_no (eqb (kind ts) right_bracket_kind) _ _ _ _ (ne_eqb (kind ts) right_bracket_kind (λ q. omega (arith, q, y.1.0))) (if_yes (eqb (kind ts) comma_kind) _ _ _ _ (eq-eqb (kind ts) comma_kind y.1.0) (past_here refl y.1.2))) (λ u. absurd u)
      (takes comma_kind ts y.0 y.1.0 (omega arith) y.1.2)
      (λ l. subst (λ ys. Loops (array_item lm inner c) (acc ++ hole ∷ []) y.0 l (Got ys r) (d < n)) (append_assoc acc (hole ∷ []) (unpack xs) ∙ ap (λ (v : Tree). acc ++ (v ∷ unpack xs)) (sym (hole_is x e)))
      (array_loop xs (acc ++ hole ∷ []) y.0 r l n (omega arith) g.1 y.2 (omega arith))))
      (λ e y. ⊎_elim
      (λ v. loop_on _ _ (acc ++ x ∷ []) ts v.1 k (d < reach x) _ _ (array_one x acc ts y.0 k _ (omega arith) g.0 y.1 v.0 (by_comma y.0 v.2.0) (λ j. after_comma (acc ++ x ∷ []) y.0 v.1 j right_bracket_kind _ v.2.0 v.2.2)) (λ u. omega arith)
      (omega (arith, item_taken true x _ ts y.0 y.1.0 y.1.1, takes comma_kind y.0 v.1 v.2.0 (omega arith) v.2.2))
      (λ l. subst (λ ys. Loops (array_item lm inner c) (acc ++ x ∷ []) v.1 l (Got ys r) (d < n)) (append_assoc acc (x ∷ []) (unpack xs)) (array_loop xs (acc ++ x ∷ []) v.1 r l n (omega arith) g.1 v.3 (omega arith))))
      (λ v. loop_end _ _ (acc ++ x ∷ []) ts r k (d < reach x) _ _ (array_last x acc ts y.0 r k (omega arith) g.0 y.1 v.1.0 v.1.2) (λ u. omega arith) (λ l. (ap (λ ys. acc ++ (x ∷ ys)) (sym (no_more xs v.0)), refl)))
      y.2)
    where
      array_last : (x : Tree) (acc : List Tree) (ts m r : Input) (k : List ℕ) → size x < z → Covered x → Item (patterned p c) (child x (λ y. Produces x y)) ts m → kind m ≡ right_bracket_kind → rest m ≡ r → Reads (from ts k) (array_item lm inner c acc (from ts k)) (Is (finished (acc ++ x ∷ [])) r) (d < reach x)
      array_last (rest_pat s q a) acc ts m r k sz g h e v = array_rest s q a acc ts m r k (omega arith) g h e v
      array_last (binding_ident s i) acc ts m r k sz g h e v = array_one (binding_ident s i) acc ts m k _ sz g h refl (by_bracket m e) (λ j. after_close (acc ++ binding_ident s i ∷ []) m r j right_bracket_kind false _ e v refl)
      array_last (array_pat s i) acc ts m r k sz g h e v = array_one (array_pat s i) acc ts m k _ sz g h refl (by_bracket m e) (λ j. after_close (acc ++ array_pat s i ∷ []) m r j right_bracket_kind false _ e v refl)
      array_last (object_pat s i) acc ts m r k sz g h e v = array_one (object_pat s i) acc ts m k _ sz g h refl (by_bracket m e) (λ j. after_close (acc ++ object_pat s i ∷ []) m r j right_bracket_kind false _ e v refl)
      array_last (assign_pat s a i) acc ts m r k sz g h e v = array_one (assign_pat s a i) acc ts m k _ sz g h refl (by_bracket m e) (λ j. after_close (acc ++ assign_pat s a i ∷ []) m r j right_bracket_kind false _ e v refl)
      array_last _ acc ts m r k sz g h e v = absurd (true≢false (sym h.0))

  -- ---- objects

  -- a word that is a key, with what follows it
  word_key : (ts : Input) (k : List ℕ) (V : Tree × State Input → Type 0) (Q : Type 0) → is_word (kind ts) ≡ true → eqb (kind (rest ts)) colon_kind ≡ false → Reads (from ts k) (named_item lm inner c (from (rest ts) k) (from ts k)) V Q → Reads (from ts k) (pattern_prop lm inner c (from ts k)) V Q
  unfolding pattern_prop key_by
  word_key ts k V Q w n y = rw (no_kind is_word (kind ts) left_bracket_kind w refl, w) (if_no (eqb (kind (rest ts)) colon_kind) _ _ V Q n y)

  -- a property up to its end
  abbrev PropRead : Tree → Input → Input → List ℕ → Type 0
  PropRead x ts m k = Reads (from ts k) (pattern_prop lm inner c (from ts k)) (Is x m) (d < reach x)

  prop_keyed : (s : Span) (x a : Tree) (ts m : Input) (k : List ℕ) → size x < z → size a < z → Covered x → Covered a → Produces (key_value_pat_prop s x a) (patterned p (with_in c)) ts m → is_rest a ≡ false → Closed (with_in c) m → PropRead (key_value_pat_prop s x a) ts m k
  unfolding pattern_prop keyed_item
  prop_keyed s x a ts m k sx sa gx ga h n cl = then_is (key_by lm inner c (from ts k)) _ x h.0 (d < reach x) _ _ (key_found z d f p c x ts h.0 k sx gx h.2.0 (coded p (with_in c)) refl h.2.1) (λ u. omega arith)
      (λ j. if_yes (eqb (kind h.0) colon_kind) _ _ _ _ (eq-eqb (kind h.0) colon_kind h.3.0) (onto h.0 h.1 j (λ y. inner.pat (with_in c) y >>= λ q. initial_pat lm inner c (lo y.source) q.0 q.1 >>= λ q. Ok (key_value_pat_prop (span (lo ts) q.1.source.last) x q.0, q.1)) _ _ h.3.2
      (item_then a h.1 m j (λ q. Ok (key_value_pat_prop (span (lo ts) q.1.source.last) x q.0, q.1)) _ _ sa ga h.4 n cl (λ u. omega arith) (λ i. here (ap (λ (y : Span). key_value_pat_prop y x a) (sym h.6))))))

  named_span : (ts a : Input) (q t : Span) (x : List ℕ) → Produces (binding_ident q (ident t x)) (patterned p (with_in c)) ts a → binding_ident (first_span ts) (ident (first_span ts) x) ≡ binding_ident q (ident t x)
  named_span ts a q t x h = ap (λ (y : Span). binding_ident y (ident y x)) (first_at ts a q h.1.0.5 h.1.1) ∙ ap (λ (y : Span). binding_ident q (ident y x)) h.0

  prop_named : (s q t : Span) (x : List ℕ) (ts m : Input) (k : List ℕ) → Produces (assign_pat_prop s (binding_ident q (ident t x)) absent) (patterned p (with_in c)) ts m → Closed (with_in c) m → eqb (kind m) colon_kind ≡ false → PropRead (assign_pat_prop s (binding_ident q (ident t x)) absent) ts m k
  unfolding named_item
  prop_named s q t x ts m k h cl n = let v = h.1.1.1 in let to : rest ts ≡ m = v.0.5 ∙ h.2 in
      word_key ts k _ _ v.0.0 (subst (λ (y : Input). eqb (kind y) colon_kind ≡ false) (sym to) n)
      (then_name_placed _ c ts m x k _ _ _ (v.0.0, v.0.1, v.0.2) v.0.3 to (if_no (eqb (kind m) assign_kind) _ _ _ _ (ne_eqb (kind m) assign_kind cl.1)
      (here (ap (λ (y : Span). assign_pat_prop y (binding_ident (first_span ts) (ident (first_span ts) x)) absent) (first_at ts m s to h.3) ∙ ap (λ y. assign_pat_prop s y absent) (named_span ts h.0 q t x h.1.1)))))

  prop_valued : (s q t : Span) (x : List ℕ) (e : Tree) (ts m : Input) (k : List ℕ) → is_absent e ≡ false → size e < z → Covered e → Produces (assign_pat_prop s (binding_ident q (ident t x)) e) (patterned p (with_in c)) ts m → Closed (with_in c) m → PropRead (assign_pat_prop s (binding_ident q (ident t x)) e) ts m k
  unfolding named_item
  prop_valued s q t x e ts m k ne sz g h cl = by_cases (is_absent e) _ _ _ h.2 (λ w. absurd (true≢false (sym w ∙ ne))) (λ w u.
      let v = h.1.1.1 in
      word_key ts k _ _ v.0.0 (subst (λ (y : Input). eqb (kind y) colon_kind ≡ false) (sym v.0.5) (ne_eqb (kind h.0) colon_kind (λ q. omega (arith, q, u.1.0))))
      (then_name_placed _ c ts h.0 x k _ _ _ (v.0.0, v.0.1, v.0.2) v.0.3 v.0.5 (if_yes (eqb (kind h.0) assign_kind) _ _ _ _ (eq-eqb (kind h.0) assign_kind u.1.0)
      (then_past h.0 u.0 k (inner.expr (with_in c) assignment_level) _ e m (d < reach e) _ _ u.1.2 (f e p (with_in c) 2 u.0 m k sz g u.2.1 (omega arith) (omega arith) two_asked u.2.0 (cl.0 (ends e))) (λ u. u)
      (λ j. here (ap (λ (y : Span). assign_pat_prop y (binding_ident (first_span ts) (ident (first_span ts) x)) e) (sym h.3) ∙ ap (λ y. assign_pat_prop s y e) (named_span ts h.0 q t x h.1.1)))))))

  prop_found : (x : Tree) (ts m : Input) (k : List ℕ) → size x < z → Covered x → Property (patterned p c) (child x (λ y. Produces x y)) ts m → is_rest x ≡ false → Closed (with_in c) m → eqb (kind m) colon_kind ≡ false → PropRead x ts m k
  prop_found (key_value_pat_prop s x a) ts m k sz g h n cl nc = prop_keyed s x a ts m k (omega arith) (omega arith) g.0 g.1 h.2 h.2.5 cl
  prop_found (assign_pat_prop s (binding_ident q (ident t x)) absent) ts m k sz g h n cl nc = prop_named s q t x ts m k h.2 cl nc
  prop_found (assign_pat_prop s (binding_ident q (ident t x)) e) ts m k sz g h n cl nc = prop_valued s q t x e ts m k refl (omega arith) g.1 h.2 cl
  prop_found (assign_pat_prop s (binding_ident q i) e) ts m k sz g h n cl nc = absurd h.2.1.1
  prop_found (assign_pat_prop s x e) ts m k sz g h n cl nc = absurd (true≢false (sym h.2.1.0))
  prop_found (rest_pat s q a) ts m k sz g h n cl nc = absurd (true≢false n)
  prop_found _ ts m k sz g h n cl nc = absurd (true≢false (sym h.0))

  object_start : (x : Tree) (ts m : Input) → Property (patterned p c) (child x (λ y. Produces x y)) ts m → is_rest x ≡ false → (eqb (kind ts) right_brace_kind ≡ false) × (eqb (kind ts) dot_dot_dot_kind ≡ false)
  object_start (key_value_pat_prop s x a) ts m h n = let w = (key_starts x (coded p (with_in c)) ts h.2.0 h.2.2.0 h.2.2.1).0 in (no_kind begins_key (kind ts) right_brace_kind w refl, no_kind begins_key (kind ts) dot_dot_dot_kind w refl)
  object_start (assign_pat_prop s (binding_ident q (ident t x)) e) ts m h n = let w = h.2.1.1.1.0.0 in (no_kind is_word (kind ts) right_brace_kind w refl, no_kind is_word (kind ts) dot_dot_dot_kind w refl)
  object_start (assign_pat_prop s (binding_ident q i) e) ts m h n = absurd h.2.1.1
  object_start (assign_pat_prop s x e) ts m h n = absurd (true≢false (sym h.2.1.0))
  object_start (rest_pat s q a) ts m h n = absurd (true≢false n)
  object_start _ ts m h n = absurd (true≢false (sym h.0))

  object_one : (x : Tree) (acc : List Tree) (ts m : Input) (k : List ℕ) (V : Step (List Tree) × State Input → Type 0) → size x < z → Covered x → Property (patterned p c) (child x (λ y. Produces x y)) ts m → is_rest x ≡ false → Closed (with_in c) m → eqb (kind m) colon_kind ≡ false
      → ((j : List ℕ) → Reads (from m j) (after_item lm inner right_brace_kind false (acc ++ x ∷ []) (from m j)) V (d < reach x)) → Reads (from ts k) (object_item lm inner c acc (from ts k)) V (d < reach x)
  unfolding object_item
  object_one x acc ts m k V sz g h n cl nc y = let w = object_start x ts m h n in if_no (eqb (kind ts) right_brace_kind) _ _ V _ w.0 (if_no (eqb (kind ts) dot_dot_dot_kind) _ _ V _ w.1
      (then_is (pattern_prop lm inner c (from ts k)) _ x m (d < reach x) _ _ (prop_found x ts m k sz g h n cl nc) (λ u. u) y))

  object_rest : (s q : Span) (a : Tree) (acc : List Tree) (ts m r : Input) (k : List ℕ) → size a < z → Covered a → Property (patterned p c) (child (rest_pat s q a) (λ y. Produces (rest_pat s q a) y)) ts m → kind m ≡ right_brace_kind → rest m ≡ r
      → Reads (from ts k) (object_item lm inner c acc (from ts k)) (Is (finished (acc ++ rest_pat s q a ∷ [])) r) (d < reach a)
  unfolding object_item
  object_rest s q a acc ts m r k sz g h e v =
      if_no (eqb (kind ts) right_brace_kind) _ _ _ _ (ne_eqb (kind ts) right_brace_kind (λ x. omega (arith, x, h.2.1.0))) (if_yes (eqb (kind ts) dot_dot_dot_kind) _ _ _ _ (eq-eqb (kind ts) dot_dot_dot_kind h.2.1.0)
      (then_past ts h.2.0 k (inner.pat (with_in c)) _ a m (d < reach a) _ _ h.2.1.2 (b a p (with_in c) h.2.0 m k sz g (place_binds a h.2.3) h.2.4) (λ u. u)
      (λ j. if_no (is_structured a) _ _ _ _ (flat (is_structured a) h.1) (subst (λ (t : Tree). Reads (from m j) (after_item lm inner right_brace_kind true (acc ++ t ∷ []) (from m j)) (Is (finished (acc ++ rest_pat s q a ∷ [])) r) (d < reach a)) (ap (λ (y : Span). rest_pat y q a) h.2.5 ∙ ap (λ (y : Span). rest_pat (span (lo ts) m.last) y a) h.2.2)
      (after_close (acc ++ rest_pat s q a ∷ []) m r j right_brace_kind true _ e v refl)))))
    where
      flat : (b : Bool) → not b ≡ true → b ≡ false
      flat true h = absurd (true≢false (sym h))
      flat false h = refl

  object_last : (x : Tree) (acc : List Tree) (ts m r : Input) (k : List ℕ) → size x < z → Covered x → Property (patterned p c) (child x (λ y. Produces x y)) ts m → kind m ≡ right_brace_kind → rest m ≡ r → Reads (from ts k) (object_item lm inner c acc (from ts k)) (Is (finished (acc ++ x ∷ [])) r) (d < reach x)
  object_last (rest_pat s q a) acc ts m r k sz g h e v = object_rest s q a acc ts m r k (omega arith) g h e v
  object_last (key_value_pat_prop s x a) acc ts m r k sz g h e v = object_one (key_value_pat_prop s x a) acc ts m k _ sz g h refl (by_brace m e) (ne_eqb (kind m) colon_kind (λ q. omega (arith, q, e))) (λ j. after_close (acc ++ key_value_pat_prop s x a ∷ []) m r j right_brace_kind false _ e v refl)
  object_last (assign_pat_prop s x a) acc ts m r k sz g h e v = object_one (assign_pat_prop s x a) acc ts m k _ sz g h refl (by_brace m e) (ne_eqb (kind m) colon_kind (λ q. omega (arith, q, e))) (λ j. after_close (acc ++ assign_pat_prop s x a ∷ []) m r j right_brace_kind false _ e v refl)
  object_last _ acc ts m r k sz g h e v = absurd (true≢false (sym h.0))

  object_loop : (xs : Trees) (acc : List Tree) (ts r : Input) (k : List ℕ) (n : ℕ) → sizes xs < z → CoveredAll xs → Listed false (Property (patterned p c)) (patterned p c) right_brace_kind (children xs) ts r → reaches xs ≤ n → Loops (object_item lm inner c) acc ts k (Got (acc ++ unpack xs) r) (d < n)
  unfolding object_item
  object_loop none acc ts r k n sz g h le = loop_end _ _ acc ts r k ⊥ _ _ (if_yes (eqb (kind ts) right_brace_kind) _ _ _ _ (eq-eqb (kind ts) right_brace_kind h.0) (past_here refl h.2)) (λ u. absurd u) (λ l. (sym (append-nil acc), refl))
  object_loop (more x xs) acc ts r k n sz g h le = ⊎_elim
      (λ v. loop_on _ _ (acc ++ x ∷ []) ts v.1 k (d < reach x) _ _ (object_one x acc ts h.0 k _ (omega arith) g.0 h.1 v.0 (by_comma h.0 v.2.0) (ne_eqb (kind h.0) colon_kind (λ q. omega (arith, q, v.2.0))) (λ j. after_comma (acc ++ x ∷ []) h.0 v.1 j right_brace_kind _ v.2.0 v.2.2)) (λ u. omega arith)
      (omega (arith, property_taken x (patterned p c) ts h.0 h.1, takes comma_kind h.0 v.1 v.2.0 (omega arith) v.2.2))
      (λ l. subst (λ ys. Loops (object_item lm inner c) (acc ++ x ∷ []) v.1 l (Got ys r) (d < n)) (append_assoc acc (x ∷ []) (unpack xs)) (object_loop xs (acc ++ x ∷ []) v.1 r l n (omega arith) g.1 v.3 (omega arith))))
      (λ v. loop_end _ _ (acc ++ x ∷ []) ts r k (d < reach x) _ _ (object_last x acc ts h.0 r k (omega arith) g.0 h.1 v.1.0 v.1.2) (λ u. omega arith) (λ l. (ap (λ ys. acc ++ (x ∷ ys)) (sym (no_more xs v.0)), refl)))
      h.2

  -- ---- patterns, by the readers of one call more

  pub bound_found : (t : Tree) (ts r : Input) (k : List ℕ) (n : ℕ) → size t < suc z → Covered t → is_binding t ≡ true → Produces t (patterned p c) ts r → reach t ≤ n → Reads (from ts k) (pat_by lm inner c (from ts k)) (Is t r) (suc d < n)
  unfolding pat_by array_pat_by object_pat_by
  bound_found (binding_ident s (ident t x)) ts r k n sz g e h le = if_no (eqb (kind ts) left_bracket_kind) _ _ _ _ (no_kind is_word (kind ts) left_bracket_kind h.1.0.0 refl) (if_no (eqb (kind ts) left_brace_kind) _ _ _ _ (no_kind is_word (kind ts) left_brace_kind h.1.0.0 refl)
      (then_name c ts r x k _ _ _ (h.1.0.0, h.1.0.1, h.1.0.2) h.1.0.3 h.1.0.5 (here (ap (λ (y : Span). binding_ident y (ident y x)) (first_at ts r s h.1.0.5 h.1.1) ∙ ap (λ (y : Span). binding_ident s (ident y x)) h.0))))
  bound_found (binding_ident s i) ts r k n sz g e h le = absurd h
  bound_found (array_pat s xs) ts r k n sz g e h le = if_yes (eqb (kind ts) left_bracket_kind) _ _ _ _ (eq-eqb (kind ts) left_bracket_kind h.1.0)
      (then_past_reads ts h.0 k (iterate (bound lm) (array_item lm inner c) []) _ (Got (unpack xs) r) (d < reaches xs) _ _ h.1.2 (looped (array_item lm inner c) [] h.0 k (Got (unpack xs) r) (d < reaches xs) (array_loop xs [] h.0 r k (reaches xs) (omega arith) g h.2 (omega arith))) (λ u. omega arith)
      (λ y v. ended _ _ _ (ap (λ ys. array_pat (span (lo ts) y.1.source.last) (pack ys)) v.0 ∙ ap (λ ys. array_pat (span (lo ts) y.1.source.last) ys) (pack_unpack xs) ∙ ap (λ (w : Input). array_pat (span (lo ts) w.last) xs) v.1 ∙ ap (λ w. array_pat w xs) (sym h.3), v.1)))
  bound_found (object_pat s xs) ts r k n sz g e h le = if_no (eqb (kind ts) left_bracket_kind) _ _ _ _ (ne_eqb (kind ts) left_bracket_kind (λ q. omega (arith, q, h.1.0))) (if_yes (eqb (kind ts) left_brace_kind) _ _ _ _ (eq-eqb (kind ts) left_brace_kind h.1.0)
      (then_past_reads ts h.0 k (iterate (bound lm) (object_item lm inner c) []) _ (Got (unpack xs) r) (d < reaches xs) _ _ h.1.2 (looped (object_item lm inner c) [] h.0 k (Got (unpack xs) r) (d < reaches xs) (object_loop xs [] h.0 r k (reaches xs) (omega arith) g h.2 (omega arith))) (λ u. omega arith)
      (λ y v. ended _ _ _ (ap (λ ys. object_pat (span (lo ts) y.1.source.last) (pack ys)) v.0 ∙ ap (λ ys. object_pat (span (lo ts) y.1.source.last) ys) (pack_unpack xs) ∙ ap (λ (w : Input). object_pat (span (lo ts) w.last) xs) v.1 ∙ ap (λ w. object_pat w xs) (sym h.3), v.1))))
  bound_found _ ts r k n sz g e h le = absurd (true≢false (sym e))

bound_positive : (t : Tree) → is_binding t ≡ true → 0 < reach t
bound_positive (binding_ident s i) e = omega arith
bound_positive (array_pat s xs) e = omega arith
bound_positive (object_pat s xs) e = omega arith
bound_positive _ e = absurd (true≢false (sym e))

pub binds : (z d : ℕ) → ((e : ℕ) → Finds z e) → Binds z d
unfolding readers
binds zero d f t p c ts r k sz g e h = absurd (omega arith)
binds (suc z) zero f t p c ts r k sz g e h = too_deep _ _ (bound_positive t e)
binds (suc z) (suc d) f t p c ts r k sz g e h = bound_found z d (lesser d) (binds z d lesser) p c t ts r k (reach t) sz g e h (omega arith)
  where
    lesser : (e : ℕ) → Finds z e
    lesser e t p c l ts r k sz = f e t p c l ts r k (omega (arith, sz))
