-- The parts of a module's items that are handed on; names of exports, and a module's name with its attributes (16.2.2): what their rules answer.
use Rattle.std.proofs.Common.{◌≡◌, ℕ, ◌<◌, ◌≤◌, ◌⊎◌, inl, inr, max, Bool, true, false, not, ◌&&◌, ◌||◌, ◌==◌, eqb, List, [], ◌∷◌, ◌++◌, refl, sym, ap, ◌∙◌, subst, ⊎_elim, true≢false, append_assoc, append-nil, arith}
use Rattle.std.proofs.lemmas.Bool.{eqb-true, ne_eqb, eq-eqb, or_left, or_right, or_cases, and_left, and_right, and_parts, and_from, not-true}
use Rattle.base_token.specs.declared.place.Span.{Span}
use Rattle.base_token.specs.Kinds.{end_kind, dot_dot_dot_kind, comma_kind, semicolon_kind, colon_kind, mul_kind, left_brace_kind, right_brace_kind, str_kind, async_kind, get_kind, set_kind, hash_kind, with_kind, assert_kind}
use Rattle.tree_spec.specs.Tree.{Tree, Trees, none, more, pack, unpack, import_decl, named_export, export_all, export_decl, export_default_decl, export_default_expr, object_lit, key_value_prop, ident, ident_name, str_lit}
use Rattle.tree_spec.proofs.PackLemmas.{pack_unpack}
use Rattle.grammar_spec.specs.Tokens.Input.{Input, Code, kind, kind2, brk, brk2, lo, span, rest, is_word, barred, with_in, TakesWord}
use Rattle.grammar_spec.specs.Tokens.Operators.{assignment_level, starts_key, source_end, plain_end, goes_on}
use Rattle.grammar_spec.specs.Tokens.Shape.{ends, is_absent, is_string, is_prop, is_attribute_key, are_attributes, is_attributes, export_name}
use Rattle.grammar_spec.specs.Children.{is_ident, child, Sorted, Listed, Ends}
use Rattle.grammar_spec.specs.Modules.{ExportName, Source}
use Rattle.grammar_spec.specs.Grammar.{Produces, children}
use Rattle.grammar_spec.specs.Reader.Source.{◌>>=◌, State, iterate, bound}
use Rattle.grammar_spec.specs.Reader.Expressions.{no_elements, key_by, prop_by, prop_rest, prop_step, after_element, object_by, is_async_head, is_accessor}
use Rattle.grammar_spec.specs.Reader.Modules.{string_by, export_name_by, local_by, attributes_by, source_by}
use Rattle.grammar_laws.proofs.complete_base.Yields.{lm, from, coded, first_at, Reads, Is, then_is, then_past, then_eat, then_word, then_any, then_noted, here, past_here, if_no, if_yes, Loops, loop_on, loop_end, looped}
use Rattle.grammar_laws.proofs.complete_base.Levels.{Follow, closed_by, comma_after}
use Rattle.grammar_laws.proofs.complete_base.Trees.{by_cases, takes, no_kind}
use Rattle.grammar_laws.proofs.complete_rules.Prefixes.{literal_found}
use Rattle.grammar_laws.proofs.complete_rules.Lists.{Has, two_asked}
use Rattle.grammar_laws.proofs.complete_rules.Objects.{str_read, begins_key, key_starts, OneWord}
use Rattle.grammar_laws.proofs.complete_rules.Nested.{Nested}
use Rattle.grammar_laws.proofs.complete_rules.Within.{Within, within}
use Rattle.grammar_laws.proofs.complete_rules.Follows.{then_end}
use Rattle.grammar_laws.proofs.complete_base.Cuts.{cut}
use Rattle.grammar_laws.proofs.complete_rules.Functions.{key_found, empty_none}
use Rattle.grammar_laws.proofs.complete_rules.Simple.{then_ident}
use Rattle.grammar_laws.proofs.Shapes.{absent_is}

-- ---- what an item of a module hands on to the readers of nested parts

-- the values of import attributes
abbrev pub Valued : (Tree → Type 0) → Trees → Type 0
Valued G none = Unit {0}
Valued G (more (key_value_prop s k v) ps) = G v × Valued G ps
Valued G (more _ ps) = Unit {0}

abbrev pub valued : (Tree → ℕ) → Trees → ℕ
valued R none = 0
valued R (more (key_value_prop s k v) ps) = max (R v) (valued R ps)
valued R (more _ ps) = 0

abbrev pub Attributed : (Tree → Type 0) → Tree → Type 0
Attributed G (object_lit s ps) = Valued G ps
Attributed G _ = Unit {0}

abbrev pub attributed : (Tree → ℕ) → Tree → ℕ
attributed R (object_lit s ps) = valued R ps
attributed R _ = 0

-- that these are covered
abbrev pub InModule : (Tree → Type 0) → Tree → Type 0
InModule G (import_decl s xs f w) = Attributed G w
InModule G (named_export s xs f w) = Attributed G w
InModule G (export_all s f w) = Attributed G w
InModule G (export_decl s d) = G d
InModule G (export_default_decl s d) = Within G d
InModule G (export_default_expr s e) = G e
InModule G t = G t

-- how deep they reach
abbrev pub in_module : (Tree → ℕ) → Tree → ℕ
in_module R (import_decl s xs f w) = attributed R w
in_module R (named_export s xs f w) = attributed R w
in_module R (export_all s f w) = attributed R w
in_module R (export_decl s d) = R d
in_module R (export_default_decl s d) = within R d
in_module R (export_default_expr s e) = R e
in_module R t = R t

-- ---- what divides

-- a comma, or the brace that closes
abbrev pub Divides : Input → Type 0
Divides m = (kind m ≡ comma_kind) ⊎ (kind m ≡ right_brace_kind)

pub divides_kind : (P : ℕ → Bool) (b : Bool) → P comma_kind ≡ b → P right_brace_kind ≡ b → (m : Input) → Divides m → P (kind m) ≡ b
divides_kind P b h g m (inl q) = subst (λ (n : ℕ). P n ≡ b) (sym q) h
divides_kind P b h g m (inr q) = subst (λ (n : ℕ). P n ≡ b) (sym q) g

divided : (c : Code) (m : Input) → Divides m → (e : ℕ) → Follow (with_in c) e 2 m
divided c m (inl q) e = comma_after (with_in c) e 2 m q (omega arith)
divided c m (inr q) e = closed_by (with_in c) e 2 right_brace_kind m q refl refl (omega arith)

-- ---- attributes, or the end

-- what ends after a module's name starts no attributes
no_attributes : (p : Bool) (c : Code) (m r : Input) → Ends (coded p c) source_end m r → (c.syntax.import_attributes && ((kind m == with_kind) || ((kind m == assert_kind) && not (brk m)))) ≡ false
no_attributes p c m r h = ⊎_elim (λ q. at semicolon_kind q.0 refl) (λ q. ⊎_elim (λ q. at right_brace_kind (eqb-true (kind m) right_brace_kind q) refl) (λ q. ⊎_elim (λ q. at end_kind (eqb-true (kind m) end_kind q) refl)
    (λ q. let y = and_parts (brk m) _ q in neither c.syntax.import_attributes (kind m == with_kind) (kind m == assert_kind) (brk m) y.0 (not-true (goes_on c source_end m) y.1))
    (or_cases (kind m == end_kind) _ q)) (or_cases (kind m == right_brace_kind) _ q.1)) h
  where
    at : (k : ℕ) → kind m ≡ k → ((k == with_kind) || ((k == assert_kind) && not (brk m))) ≡ false → (c.syntax.import_attributes && ((kind m == with_kind) || ((kind m == assert_kind) && not (brk m)))) ≡ false
    at k e h = and_right c.syntax.import_attributes _ (subst (λ (k : ℕ). ((k == with_kind) || ((k == assert_kind) && not (brk m))) ≡ false) (sym e) h)

    neither : (a w s b : Bool) → b ≡ true → (w && a) ≡ false → (a && (w || (s && not b))) ≡ false
    neither false w s b e h = refl
    neither true true s b e h = absurd (true≢false h)
    neither true false true true e h = refl
    neither true false true false e h = absurd (true≢false (sym e))
    neither true false false b e h = refl

abbrev AttributeWord : Code → Input → Input → Type 0
AttributeWord c m n = TakesWord c with_kind m n ⊎ ((brk m ≡ false) × TakesWord c assert_kind m n)

module _ (z : Nested) (p : Bool) (c : Code) where
  -- ---- names

  pub string_found : (t : Tree) (ts r : Input) (k : List ℕ) (Q : Type 0) → is_string t ≡ true → Produces t (coded p c) ts r → Reads (from ts k) (string_by lm z.inner (from ts k)) (Is t r) Q
  unfolding string_by
  string_found (str_lit s u w) ts r k Q e h = if_yes (kind ts == str_kind) _ _ _ _ (eq-eqb (kind ts) str_kind h.3.0) (literal_found z.inner c ts k (λ x. Unit {0}) Q (str_lit s u w) r (str_read (coded p c) s u w ts r h) h.3.2)
  string_found _ ts r k Q e h = absurd (true≢false (sym e))

  -- a word or a string
  pub export_name_found : (t : Tree) (ts r : Input) (k : List ℕ) (Q : Type 0) → ExportName (coded p c) (export_name t) (child t (λ y. Produces t y)) ts r → Reads (from ts k) (export_name_by lm z.inner (from ts k)) (Is t r) Q
  unfolding export_name_by
  export_name_found (ident s n) ts r k Q h = if_no (kind ts == str_kind) _ _ _ _ (no_kind is_word (kind ts) str_kind h.0.0 refl) (then_any ts r n k _ _ Q h.0.0 h.0.1 h.0.3 (here (ap (λ (y : Span). ident y n) (first_at ts r s h.0.3 h.1))))
  export_name_found (str_lit s u w) ts r k Q h = if_yes (kind ts == str_kind) _ _ _ _ (eq-eqb (kind ts) str_kind h.1.3.0) (literal_found z.inner c ts k (λ x. Unit {0}) Q (str_lit s u w) r (str_read (coded p c) s u w ts r h.1) h.1.3.2)
  export_name_found _ ts r k Q h = absurd (true≢false (sym h.0))

  pub local_found : (t : Tree) (ts r : Input) (k : List ℕ) (Q : Type 0) → is_ident t ≡ true → Produces t (coded p c) ts r → Reads (from ts k) (local_by lm z.inner c (from ts k)) (Is t r) Q
  unfolding local_by
  local_found t ts r k Q i h = then_ident p c t ts r k _ _ Q i h (λ x e. here (sym e))

  -- ---- attributes

  -- no method, getter or setter starts with a word before a colon, nor with no word
  plain_prop : (ts : Input) (k : List ℕ) (V : Tree × State Input → Type 0) (Q : Type 0) → begins_key (kind ts) ≡ true → (is_word (kind ts) ≡ false) ⊎ (kind2 ts ≡ colon_kind) → Reads (from ts k) (key_by lm z.inner c (from ts k) >>= λ x. prop_rest lm z.inner c (from ts k) x.0 x.1) V Q → Reads (from ts k) (prop_by lm z.inner c (from ts k)) V Q
  unfolding prop_by
  plain_prop ts k V Q b a y = if_no (kind ts == dot_dot_dot_kind) _ _ V Q (no_kind begins_key (kind ts) dot_dot_dot_kind b refl) (if_no (kind ts == mul_kind) _ _ V Q (no_kind begins_key (kind ts) mul_kind b refl)
      (if_no (is_async_head lm z.inner (from ts k)) _ _ V Q (head async_kind refl _ (λ e. subst (λ (n : ℕ). ((starts_key n || (n == mul_kind)) && not (brk2 ts)) ≡ false) (sym e) refl) a)
      (if_no (is_accessor lm z.inner get_kind (from ts k)) _ _ V Q (head get_kind refl _ accessed a) (if_no (is_accessor lm z.inner set_kind (from ts k)) _ _ V Q (head set_kind refl _ accessed a) y))))
    where
      accessed : kind2 ts ≡ colon_kind → (starts_key (kind2 ts) && not (kind2 ts == hash_kind)) ≡ false
      accessed e = subst (λ (n : ℕ). (starts_key n && not (n == hash_kind)) ≡ false) (sym e) refl

      head : (n : ℕ) → is_word n ≡ true → (b : Bool) → (kind2 ts ≡ colon_kind → b ≡ false) → (is_word (kind ts) ≡ false) ⊎ (kind2 ts ≡ colon_kind) → (eqb (kind ts) n && b) ≡ false
      head n w b f (inl e) = and_left (eqb (kind ts) n) b (ne_eqb (kind ts) n (λ q. true≢false (sym w ∙ ap is_word (sym q) ∙ e)))
      head n w b f (inr e) = and_right (eqb (kind ts) n) b (f e)

  keyed : (s : Span) (x v : Tree) (ts m : Input) (k : List ℕ) → Within z.Covered x → within z.reach x ≡ 0 → z.Covered v → Produces (key_value_prop s x v) (coded p c) ts m → Divides m → Reads (from ts k) (prop_by lm z.inner c (from ts k)) (Is (key_value_prop s x v) m) (z.depth < z.reach v)
  unfolding prop_rest
  keyed s x v ts m k w e g h d = let y = key_starts x (coded p c) ts h.0 h.2.0 h.2.1 in
      plain_prop ts k (Is (key_value_prop s x v) m) (z.depth < z.reach v) y.0 (next y.1)
      (then_is (key_by lm z.inner c (from ts k)) _ x h.0 (z.depth < within z.reach x) _ _ (key_found z p c x ts h.0 k h.2.0 w h.2.1) (λ u. absurd (omega (arith, u, e)))
      (λ j. if_yes (kind h.0 == colon_kind) _ _ _ _ (eq-eqb (kind h.0) colon_kind h.3.0)
      (then_past h.0 h.1 j (z.inner.expr (with_in c) assignment_level) _ v m (z.depth < z.reach v) _ _ h.3.2 (z.expr v p (with_in c) 2 h.1 m j g h.4.1 (omega arith) (omega arith) two_asked h.4.0 (divided c m d (ends v))) (λ u. u)
      (λ i. here (ap (λ (y : Span). key_value_prop y x v) (sym h.5))))))
    where
      next : OneWord ts h.0 → (is_word (kind ts) ≡ false) ⊎ (kind2 ts ≡ colon_kind)
      next (inl w) = inr (ap (λ (y : Input). kind y) w.1 ∙ h.3.0)
      next (inr w) = inl w

  attribute_found : (s : Span) (x v : Tree) (ts m : Input) (k : List ℕ) → (is_attribute_key x && is_string v) ≡ true → z.Covered v → Produces (key_value_prop s x v) (coded p c) ts m → Divides m → Reads (from ts k) (prop_by lm z.inner c (from ts k)) (Is (key_value_prop s x v) m) (z.depth < z.reach v)
  attribute_found s (ident_name t n) v ts m k e g h d = keyed s (ident_name t n) v ts m k tt refl g h d
  attribute_found s (str_lit t u w) v ts m k e g h d = keyed s (str_lit t u w) v ts m k tt refl g h d
  attribute_found s _ v ts m k e g h d = absurd (true≢false (sym e))

  attribute_there : (s : Span) (x v : Tree) (ts m : Input) → Produces (key_value_prop s x v) (coded p c) ts m → eqb (kind ts) right_brace_kind ≡ false
  attribute_there s x v ts m h = no_kind begins_key (kind ts) right_brace_kind (key_starts x (coded p c) ts h.0 h.2.0 h.2.1).0 refl

  attributes_loop : (xs : Trees) (acc : List Tree) (b : Bool) (ts r : Input) (k : List ℕ) (n : ℕ) → are_attributes xs ≡ true → Valued z.Covered xs → Listed false (Sorted is_prop (coded p c)) (coded p c) right_brace_kind (children xs) ts r → valued z.reach xs ≤ n
      → Loops (prop_step lm z.inner c) (record { items = acc; comma = b }) ts k (Has (acc ++ unpack xs) r) (z.depth < n)
  unfolding prop_step after_element
  attributes_loop none acc b ts r k n a g h le = loop_end _ _ (record { items = acc; comma = b }) ts r k ⊥ _ _ (if_yes (eqb (kind ts) right_brace_kind) _ _ _ _ (eq-eqb (kind ts) right_brace_kind h.0) (past_here refl h.2)) (λ u. absurd u) (λ l. (sym (append-nil acc), refl))
  attributes_loop (more (key_value_prop s y w) xs) acc b ts r k n a g h le = let q = and_parts (is_attribute_key y && is_string w) (are_attributes xs) a in ⊎_elim
      (λ v. loop_on _ _ (record { items = acc ++ key_value_prop s y w ∷ []; comma = true }) ts v.1 k (z.depth < z.reach w) _ _
      (if_no (eqb (kind ts) right_brace_kind) _ _ _ _ (attribute_there s y w ts h.0 h.1.1) (then_is (prop_by lm z.inner c (from ts k)) _ (key_value_prop s y w) h.0 (z.depth < z.reach w) _ _ (attribute_found s y w ts h.0 k q.0 g.0 h.1.1 (inl v.2.0)) (λ u. u)
      (λ j. if_yes (eqb (kind h.0) comma_kind) _ _ _ _ (eq-eqb (kind h.0) comma_kind v.2.0) (past_here refl v.2.2)))) (λ u. omega arith)
      (omega (arith, cut (key_value_prop s y w) (coded p c) ts h.0 h.1.1, takes comma_kind h.0 v.1 v.2.0 (omega arith) v.2.2))
      (λ l. subst (λ ys. Loops (prop_step lm z.inner c) (record { items = acc ++ key_value_prop s y w ∷ []; comma = true }) v.1 l (Has ys r) (z.depth < n)) (append_assoc acc (key_value_prop s y w ∷ []) (unpack xs)) (attributes_loop xs (acc ++ key_value_prop s y w ∷ []) true v.1 r l n q.1 g.1 v.3 (omega arith))))
      (λ v. loop_end _ _ (record { items = acc ++ key_value_prop s y w ∷ []; comma = false }) ts r k (z.depth < z.reach w) _ _
      (if_no (eqb (kind ts) right_brace_kind) _ _ _ _ (attribute_there s y w ts h.0 h.1.1) (then_is (prop_by lm z.inner c (from ts k)) _ (key_value_prop s y w) h.0 (z.depth < z.reach w) _ _ (attribute_found s y w ts h.0 k q.0 g.0 h.1.1 (inr v.1.0)) (λ u. u)
      (λ j. if_no (eqb (kind h.0) comma_kind) _ _ _ _ (ne_eqb (kind h.0) comma_kind (λ q. omega (arith, q, v.1.0))) (then_eat right_brace_kind h.0 r j _ _ _ v.1.0 v.1.2 (here refl))))) (λ u. omega arith)
      (λ l. (ap (λ (o : Trees). acc ++ (key_value_prop s y w ∷ unpack o)) (sym (empty_none xs v.0)), refl)))
      h.2
  attributes_loop (more _ xs) acc b ts r k n a g h le = absurd (true≢false (sym a))

  object_found : (s : Span) (xs : Trees) (ts r : Input) (k : List ℕ) → are_attributes xs ≡ true → Valued z.Covered xs → Produces (object_lit s xs) (coded p c) ts r → Reads (from ts k) (object_by lm z.inner c (from ts k)) (Is (object_lit s xs) r) (z.depth < valued z.reach xs)
  unfolding object_by
  object_found s xs ts r k a g h = then_noted ts h.0 k (iterate (bound lm) (prop_step lm z.inner c) no_elements) _ _ (Has (unpack xs) r) (z.depth < valued z.reach xs) (Is (object_lit s xs) r) (z.depth < valued z.reach xs) (λ u. omega (arith, h.1.0, u)) (λ u. omega (arith, h.1.0, u)) h.1.2
      (looped (prop_step lm z.inner c) no_elements h.0 k (Has (unpack xs) r) (z.depth < valued z.reach xs) (attributes_loop xs [] false h.0 r k (valued z.reach xs) a g h.2 (omega arith))) (λ u. u)
      (λ x v. (ap (λ ys. object_lit (span (lo ts) x.1.source.last) (pack ys)) v.0 ∙ ap (λ ys. object_lit (span (lo ts) x.1.source.last) ys) (pack_unpack xs) ∙ ap (λ (z : Input). object_lit (span (lo ts) z.last) xs) v.1 ∙ ap (λ z. object_lit z xs) (sym h.3), v.1))

  attributes_found : (w : Tree) (ts r : Input) (k : List ℕ) → is_attributes w ≡ true → Attributed z.Covered w → Produces w (coded p c) ts r → Reads (from ts k) (attributes_by lm z.inner c (from ts k)) (Is w r) (z.depth < attributed z.reach w)
  unfolding attributes_by
  attributes_found (object_lit s xs) ts r k a g h = if_yes (kind ts == left_brace_kind) _ _ _ _ (eq-eqb (kind ts) left_brace_kind h.1.0)
      (then_is (object_by lm z.inner c (from ts k)) _ (object_lit s xs) r (z.depth < valued z.reach xs) _ _ (object_found s xs ts r k a g h) (λ u. u) (λ j. if_yes (are_attributes xs) _ _ _ _ a (here refl)))
  attributes_found _ ts r k a g h = absurd (true≢false (sym a))

  -- ---- a module's name, its attributes, and the end

  pub source_found : (f w : Tree) (ts r : Input) (k : List ℕ) → Attributed z.Covered w → Source (coded p c) (child f (λ y. Produces f y)) (child w (λ y. Produces w y)) ts r
      → Reads (from ts k) (source_by lm z.inner c (from ts k)) (Is (record { src = f; with_ = w }) r) (z.depth < attributed z.reach w)
  unfolding source_by
  source_found f w ts r k g h = then_is (string_by lm z.inner (from ts k)) _ f h.0 ⊥ _ _ (string_found f ts h.0 k ⊥ h.1.0 h.1.1) (λ u. absurd u) (λ j. by_cases (is_absent w) _ _ _ h.2
      (λ q e. if_no (c.syntax.import_attributes && ((kind h.0 == with_kind) || ((kind h.0 == assert_kind) && not (brk h.0)))) _ _ _ _ (no_attributes p c h.0 r e)
      (then_end p c source_end h.0 r j _ _ _ e (here (ap (λ (y : Tree). record { src = f; with_ = y }) (sym (absent_is w q))))))
      (λ q e. if_yes (c.syntax.import_attributes && ((kind h.0 == with_kind) || ((kind h.0 == assert_kind) && not (brk h.0)))) _ _ _ _ (opened h.0 e.1.0 e.1.1 e.1.2)
      (then_word c (kind h.0) h.0 e.1.0 j _ _ _ refl (unbarred h.0 e.1.0 e.1.2) (passed h.0 e.1.0 e.1.2)
      (then_is (attributes_by lm z.inner c (from e.1.0 j)) _ w e.0 (z.depth < attributed z.reach w) _ _ (attributes_found w e.1.0 e.0 j e.1.3 g e.1.4) (λ u. u) (λ i. then_end p c plain_end e.0 r i _ _ _ e.2 (here refl))))))
    where
      opened : (m n : Input) → c.syntax.import_attributes ≡ true → AttributeWord (coded p c) m n → (c.syntax.import_attributes && ((kind m == with_kind) || ((kind m == assert_kind) && not (brk m)))) ≡ true
      opened m n a (inl e) = and_from c.syntax.import_attributes _ a (or_left (kind m == with_kind) _ (eq-eqb (kind m) with_kind e.0))
      opened m n a (inr e) = and_from c.syntax.import_attributes _ a (or_right (kind m == with_kind) _ (and_from (kind m == assert_kind) _ (eq-eqb (kind m) assert_kind e.1.0) (ap not e.0)))

      unbarred : (m n : Input) → AttributeWord (coded p c) m n → barred c.context m ≡ false
      unbarred m n (inl e) = e.1
      unbarred m n (inr e) = e.1.1

      passed : (m n : Input) → AttributeWord (coded p c) m n → rest m ≡ n
      passed m n (inl e) = e.3
      passed m n (inr e) = e.1.3
