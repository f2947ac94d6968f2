-- What the readers of arrows answer: their parameters are read as a name, or as the elements of a parenthesis that are refined (ECMA-262, 15.3, 15.9).
use Rattle.std.proofs.Common.{◌≡◌, ℕ, ◌≤◌, inl, inr, Bool, true, false, not, ◌&&◌, ◌==◌, cond, eqb, leb, List, [], ◌∷◌, Result, Ok, refl, sym, ap, ◌∙◌, subst, ⊎_elim, true≢false}
use Rattle.std.proofs.lemmas.Bool.{ne_eqb, eq-eqb, cases_eq, eqb-true, le-leb, and_parts, or_parts, and_from, and_left, or_left}
use Rattle.base_proofs.proofs.Bools.{and_second}
use Rattle.base_token.specs.declared.place.Span.{Span}
use Rattle.base_token.specs.Kinds.{arrow_kind, async_kind, function_kind, left_paren_kind, right_paren_kind, left_brace_kind}
use Rattle.tree_spec.specs.Tree.{Tree, Trees, none, more, pack, unpack, ident, arrow_expr, binding_ident, array_pat, object_pat, assign_pat, rest_pat, key_value_pat_prop, assign_pat_prop}
use Rattle.tree_spec.proofs.PackLemmas.{unpack_pack, pack_unpack}
use Rattle.grammar_spec.specs.Tokens.Input.{Input, Code, kind, kind2, brk, brk2, lo, text, rest, span, first_span, is_word, no_name, barred, always_reserved, with_in, in_arrow, in_list}
use Rattle.grammar_spec.specs.Tokens.Operators.{assignment_level}
use Rattle.grammar_spec.specs.Tokens.Shape.{is_binding, is_place, is_item_pat, is_pattern_prop, is_hole}
use Rattle.grammar_spec.specs.Children.{By, IsEmpty, Listed}
use Rattle.grammar_spec.specs.Patterns.{Item, Property}
use Rattle.grammar_spec.specs.Functions.{ArrowPattern}
use Rattle.grammar_spec.specs.Grammar.{Produces, children}
use Rattle.grammar_spec.specs.Reader.Source.{Fault, ◌>>=◌, placed, bound, State, Inner, name}
use Rattle.grammar_spec.specs.Reader.Cover.{binds_names, all_bind}
use Rattle.grammar_spec.specs.Reader.Expressions.{Elements, elements_by, arrow_by, ident_end, word_by, async_by, async_group, group_by, group_end, params_of, prefix_by, arrows_at, heads_params, is_read, function_expr_by}
use Rattle.grammar_laws.proofs.complete_base.Yields.{lm, from, coded, first_at, IsName, named, Reads, Is, then_past, then_past_reads, then_name, after_one, onto, here, if_no, if_yes, reads_deep, reads_map, async_name}
use Rattle.grammar_laws.proofs.complete_base.Trees.{by_cases}
use Rattle.grammar_laws.proofs.complete_base.Levels.{arrowed}
use Rattle.grammar_laws.proofs.complete_rules.Prefixes.{named_word}
use Rattle.grammar_laws.proofs.complete_rules.Covers.{Covered_list}
use Rattle.grammar_laws.proofs.Shapes.{place_binds, hole_is}

-- ---- patterns that bind are patterns that assign, and have names alone

abbrev is_loose : Tree → Bool
is_loose (binding_ident s i) = true
is_loose (array_pat s xs) = true
is_loose (object_pat s xs) = true
is_loose (assign_pat s a e) = true
is_loose (rest_pat s q a) = true
is_loose (key_value_pat_prop s k a) = true
is_loose (assign_pat_prop s k e) = true
is_loose _ = false

binding_loose : (t : Tree) → is_binding t ≡ true → is_loose t ≡ true
binding_loose (binding_ident s i) h = refl
binding_loose (array_pat s i) h = refl
binding_loose (object_pat s i) h = refl
binding_loose _ h = absurd (true≢false (sym h))

place_loose : (t : Tree) → is_place true t ≡ true → is_loose t ≡ true
place_loose t h = binding_loose t (place_binds t h)

place_false : (t : Tree) → is_place true t ≡ true → is_place false t ≡ true
place_false t h = or_left (is_binding t) _ (place_binds t h)

item_loose : (t : Tree) → is_item_pat true t ≡ true → is_loose t ≡ true
item_loose (assign_pat s a e) h = refl
item_loose (rest_pat s q a) h = refl
item_loose t h = place_loose t h

item_false : (t : Tree) → is_item_pat true t ≡ true → is_item_pat false t ≡ true
item_false (assign_pat s a e) h = place_false a h
item_false (rest_pat s q a) h = place_false a h
item_false t h = place_false t h

prop_loose : (t : Tree) → is_pattern_prop t ≡ true → is_loose t ≡ true
prop_loose (key_value_pat_prop s k a) h = refl
prop_loose (assign_pat_prop s k e) h = refl
prop_loose (rest_pat s q a) h = refl
prop_loose _ h = absurd (true≢false (sym h))

by_map : (b : Bool) (P Q R S : Type 0) → By b P Q → (P → R) → (Q → S) → By b R S
by_map true P Q R S h f g = f h
by_map false P Q R S h f g = g h

abbrev binds_on : Code → Code
binds_on c = record c { binds = true }

abbrev binds_off : Code → Code
binds_off c = record c { binds = false }

mutual
  loosen : (x : Tree) (c : Code) (ts r : Input) → is_loose x ≡ true → Produces x (binds_on c) ts r → Produces x (binds_off c) ts r
  loosen (binding_ident s (ident t n)) c ts r e h = h
  loosen (binding_ident s i) c ts r e h = absurd h
  loosen (array_pat s xs) c ts r e h = (h.0, h.1, loosen_items true 10 xs c h.0 r h.2, h.3)
  loosen (object_pat s xs) c ts r e h = (h.0, h.1, loosen_props xs c h.0 r h.2, h.3)
  loosen (assign_pat s a x) c ts r e h = (h.0, h.1, place_false a h.2, loosen a c ts h.0 (place_loose a h.2) h.3, h.4, h.5, h.6)
  loosen (rest_pat s q a) c ts r e h = (h.0, h.1, h.2, place_false a h.3, loosen a c h.0 r (place_loose a h.3) h.4, h.5)
  loosen (key_value_pat_prop s k a) c ts r e h = (h.0, h.1, h.2, h.3, (item_false a h.4.0, loosen a (with_in c) h.1 r (item_loose a h.4.0) h.4.1), h.5, h.6)
  loosen (assign_pat_prop s (binding_ident q (ident t n)) x) c ts r e h = h
  loosen (assign_pat_prop s (binding_ident q i) x) c ts r e h = absurd h.1.1
  loosen (assign_pat_prop s k x) c ts r e h = absurd (true≢false (sym h.1.0))
  loosen _ c ts r e h = absurd (true≢false (sym e))

  loosen_items : (holes : Bool) (close : ℕ) (xs : Trees) (c : Code) (ts r : Input) → Listed holes (Item (binds_on c)) (binds_on c) close (children xs) ts r → Listed holes (Item (binds_off c)) (binds_off c) close (children xs) ts r
  loosen_items holes close none c ts r h = h
  loosen_items holes close (more x xs) c ts r h = by_map (holes && is_hole x) _ _ _ _ h (λ k. (k.0, k.1, loosen_items holes close xs c k.0 r k.2))
      (λ k. (k.0, (item_false x k.1.0, loosen x (with_in c) ts k.0 (item_loose x k.1.0) k.1.1), ⊎_elim (λ j. inl (j.0, j.1, j.2, loosen_items holes close xs c j.1 r j.3)) (λ j. inr j) k.2))

  loosen_props : (xs : Trees) (c : Code) (ts r : Input) → Listed false (Property (binds_on c)) (binds_on c) 12 (children xs) ts r → Listed false (Property (binds_off c)) (binds_off c) 12 (children xs) ts r
  loosen_props none c ts r h = h
  loosen_props (more x xs) c ts r k = (k.0, (k.1.0, k.1.1, loosen x (with_in c) ts k.0 (prop_loose x k.1.0) k.1.2), ⊎_elim (λ j. inl (j.0, j.1, j.2, loosen_props xs c j.1 r j.3)) (λ j. inr j) k.2)

hole_names : (x : Tree) → is_hole x ≡ true → binds_names x ≡ true
hole_names x e = ap binds_names (hole_is x e)

empty_names : (xs : Trees) → IsEmpty (children xs) → all_bind xs ≡ true
empty_names none h = refl
empty_names (more x xs) h = absurd h

mutual
  bound_names : (x : Tree) (c : Code) (ts r : Input) → is_loose x ≡ true → Produces x (binds_on c) ts r → binds_names x ≡ true
  bound_names (binding_ident s i) c ts r e h = refl
  bound_names (array_pat s xs) c ts r e h = item_names true 10 xs c h.0 r h.2
  bound_names (object_pat s xs) c ts r e h = prop_names xs c h.0 r h.2
  bound_names (assign_pat s a x) c ts r e h = bound_names a c ts h.0 (place_loose a h.2) h.3
  bound_names (rest_pat s q a) c ts r e h = bound_names a c h.0 r (place_loose a h.3) h.4
  bound_names (key_value_pat_prop s k a) c ts r e h = bound_names a (with_in c) h.1 r (item_loose a h.4.0) h.4.1
  bound_names (assign_pat_prop s k x) c ts r e h = refl
  bound_names _ c ts r e h = absurd (true≢false (sym e))

  item_names : (holes : Bool) (close : ℕ) (xs : Trees) (c : Code) (ts r : Input) → Listed holes (Item (binds_on c)) (binds_on c) close (children xs) ts r → all_bind xs ≡ true
  item_names holes close none c ts r h = refl
  item_names holes close (more x xs) c ts r h = by_cases (holes && is_hole x) _ _ _ h
      (λ e k. and_from (binds_names x) _ (hole_names x (and_second holes (is_hole x) e)) (item_names holes close xs c k.0 r k.2))
      (λ e k. and_from (binds_names x) _ (bound_names x (with_in c) ts k.0 (item_loose x k.1.0) k.1.1) (⊎_elim (λ j. item_names holes close xs c j.1 r j.3) (λ j. empty_names xs j.0) k.2))

  prop_names : (xs : Trees) (c : Code) (ts r : Input) → Listed false (Property (binds_on c)) (binds_on c) 12 (children xs) ts r → all_bind xs ≡ true
  prop_names none c ts r h = refl
  prop_names (more x xs) c ts r k = and_from (binds_names x) _ (bound_names x (with_in c) ts k.0 (prop_loose x k.1.0) k.1.2) (⊎_elim (λ j. prop_names xs c j.1 r j.3) (λ j. empty_names xs j.0) k.2)

-- the parameters of an arrow as items that assign
pub params_loosen : (p : Bool) (c : Code) (xs : Trees) (ts r : Input) → Listed false (ArrowPattern (coded p c)) (coded p c) 8 (children xs) ts r → Listed false (Item (coded p (with_in c))) (coded p c) 8 (children xs) ts r
params_loosen p c none ts r h = h
params_loosen p c (more x xs) ts r k = (k.0, (item_false x k.1.0, loosen x (coded p (with_in c)) ts k.0 (item_loose x k.1.0) k.1.1), ⊎_elim (λ j. inl (j.0, j.1, j.2, params_loosen p c xs j.1 r j.3)) (λ j. inr j) k.2)

pub params_names : (p : Bool) (c : Code) (xs : Trees) (ts r : Input) → Listed false (ArrowPattern (coded p c)) (coded p c) 8 (children xs) ts r → all_bind xs ≡ true
params_names p c none ts r h = refl
params_names p c (more x xs) ts r k = and_from (binds_names x) _ (bound_names x (coded p (with_in c)) ts k.0 (item_loose x k.1.0) k.1.1) (⊎_elim (λ j. params_names p c xs j.1 r j.3) (λ j. empty_names xs j.0) k.2)

-- ---- reading

-- an arrow's body, and what it is read as
pub record Body_read (inner : Inner Input) (c : Code) (i : Bool) (e : Tree) (m n r : Input) (P : Type 0) : Type 0 where
  pub arrow : arrowed m ≡ true
  pub found : (start : State Input) (ps : List Tree) (h : List ℕ) → Reads (from m h) (arrow_by lm inner c (lo start.source) i ps (from m h)) (Is (arrow_expr (span (lo start.source) r.last) (pack ps) e i) r) P

-- an expression, and statements in braces
pub expression_body : (inner : Inner Input) (c : Code) (i : Bool) (e : Tree) (m n r : Input) (P : Type 0) → arrowed m ≡ true → rest m ≡ n → (kind n ≡ left_brace_kind → ⊥) → ((h : List ℕ) → Reads (from n h) (inner.expr (in_arrow i c) 2 (from n h)) (Is e r) P) → Body_read inner c i e m n r P
unfolding arrow_by
expression_body inner c i e m n r P a q b y = record {
  arrow = a;
  found = λ start ps h. if_no (eqb (kind (rest m)) left_brace_kind) _ _ _ _ (subst (λ (x : Input). eqb (kind x) left_brace_kind ≡ false) (sym q) (ne_eqb (kind n) left_brace_kind b))
      (then_past m n h (inner.expr (in_arrow i c) 2) _ e r P _ _ q (y h) (λ u. u) (λ l. here refl));
}

pub block_body : (inner : Inner Input) (c : Code) (i : Bool) (e : Tree) (m n r : Input) (P : Type 0) → arrowed m ≡ true → rest m ≡ n → kind n ≡ left_brace_kind → ((h : List ℕ) → Reads (from n h) (inner.body (in_list (with_in (in_arrow i c))) (from n h)) (Is e r) P) → Body_read inner c i e m n r P
unfolding arrow_by
block_body inner c i e m n r P a q b y = record {
  arrow = a;
  found = λ start ps h. if_yes (eqb (kind (rest m)) left_brace_kind) _ _ _ _ (subst (λ (x : Input). eqb (kind x) left_brace_kind ≡ true) (sym q) (eq-eqb (kind n) left_brace_kind b))
      (then_past m n h (inner.body (in_list (with_in (in_arrow i c)))) _ e r P _ _ q (y h) (λ u. u) (λ l. here refl));
}

module _ (inner : Inner Input) (c : Code) (lev : ℕ) (low : lev ≤ assignment_level) (ts : Input) (k : List ℕ) where
  -- after the parameters
  arrow_body : (i : Bool) (ps : Trees) (s : Span) (e : Tree) (m n r : Input) (j : List ℕ) (P : Type 0) {Q : Type 0} → Body_read inner c i e m n r P → (P → Q) → s ≡ span (lo ts) r.last → Reads (from m j) (arrow_by lm inner c (lo ts) i (unpack ps) (from m j)) (Is (arrow_expr s ps e i) r) Q
  arrow_body i ps s e m n r j P y f p = reads_deep f (reads_map _ (λ z v. (v.0 ∙ (ap (λ (w : Span). arrow_expr w (pack (unpack ps)) e i) (sym p) ∙ ap (λ ys. arrow_expr s ys e i) (pack_unpack ps)), v.1)) (y.found (from ts k) (unpack ps) j))

  ident_arrow : (q : Span) (x : List ℕ) (s : Span) (e : Tree) (m n r : Input) (P : Type 0) {Q : Type 0} → rest ts ≡ m → q ≡ span (lo ts) m.last → Body_read inner c false e m n r P → (P → Q) → s ≡ span (lo ts) r.last
      → Reads (from m k) (ident_end lm inner c lev (first_span ts) x (from m k)) (Is (arrow_expr s (more (binding_ident q (ident q x)) none) e false) r) Q
  unfolding ident_end
  ident_arrow q x s e m n r P {Q = Q} o sp y f p = if_yes (arrows_at lm inner lev (from m k)) _ _ _ _ (and_from (arrowed m) _ y.arrow (le-leb lev assignment_level low))
      (subst (λ (w : Span). Reads (from m k) (arrow_by lm inner c (lo ts) false (binding_ident (first_span ts) (ident (first_span ts) x) ∷ []) (from m k)) (Is (arrow_expr s (more (binding_ident w (ident w x)) none) e false) r) Q) (first_at ts m q o sp)
      (arrow_body false (more (binding_ident (first_span ts) (ident (first_span ts) x)) none) s e m n r k P y f p))

  arrow_kind_at : (m : Input) → arrowed m ≡ true → kind m ≡ arrow_kind
  arrow_kind_at m h = eqb-true (kind m) arrow_kind (and_parts (kind m == arrow_kind) (not (brk m)) h).0

  -- one bare name
  pub arrow_bare : (q : Span) (x : List ℕ) (s : Span) (e : Tree) (m n r : Input) (P : Type 0) {Q : Type 0} → IsName c ts → text ts ≡ x → rest ts ≡ m → q ≡ span (lo ts) m.last → Body_read inner c false e m n r P → (P → Q) → s ≡ span (lo ts) r.last
      → Reads (from ts k) (prefix_by lm inner c lev (from ts k)) (Is (arrow_expr s (more (binding_ident q (ident q x)) none) e false) r) Q
  unfolding word_by async_by
  arrow_bare q x s e m n r P {Q = Q} is t o sp y f p = named_word inner c lev ts k (Is (arrow_expr s (more (binding_ident q (ident q x)) none) e false) r) Q is (⊎_elim
      (λ (w : kind ts ≡ async_kind). if_yes (eqb (kind ts) async_kind) _ _ _ _ (eq-eqb (kind ts) async_kind w)
      (if_no (((kind (rest ts) == function_kind) && not (brk (rest ts))) && not (barred c.context (rest ts))) _ _ _ _ (and_left _ _ (and_left (kind (rest ts) == function_kind) _ (no function_kind refl)))
      (if_no ((is_word (kind (rest ts)) && (not (no_name c.context (kind (rest ts))) && not (barred c.context (rest ts)))) && ((not (brk (rest ts)) && (kind2 (rest ts) == arrow_kind) && not (brk2 (rest ts))) && leb lev assignment_level)) _ _ _ _ (and_left _ _ (and_left (is_word (kind (rest ts))) _ no_word))
      (if_no ((kind (rest ts) == left_paren_kind) && not (brk (rest ts))) _ _ _ _ (and_left (kind (rest ts) == left_paren_kind) _ (no left_paren_kind refl))
      (onto ts m k (λ z. ident_end lm inner c lev (first_span ts) (text ts) z) _ _ o (subst (λ (u : List ℕ). Reads (from m k) (ident_end lm inner c lev (first_span ts) u (from m k)) (Is (arrow_expr s (more (binding_ident q (ident q x)) none) e false) r) Q) (sym t) (ident_arrow q x s e m n r P o sp y f p)))))))
      (λ (w : kind ts ≡ async_kind → ⊥). if_no (eqb (kind ts) async_kind) _ _ _ _ (ne_eqb (kind ts) async_kind w) (then_name c ts m x k _ _ Q is t o (ident_arrow q x s e m n r P o sp y f p)))
      (cases_eq (kind ts) async_kind))
    where
      at : kind (rest ts) ≡ arrow_kind
      at = ap (λ (i : Input). kind i) o ∙ arrow_kind_at m y.arrow

      no : (u : ℕ) → eqb arrow_kind u ≡ false → eqb (kind (rest ts)) u ≡ false
      no u h = subst (λ (i : ℕ). eqb i u ≡ false) (sym at) h

      no_word : is_word (kind (rest ts)) ≡ false
      no_word = subst (λ (i : ℕ). is_word i ≡ false) (sym at) refl

  -- parameters in parentheses
  params_read : (ps : Trees) (o : Input) (y : Elements × State Input) → Covered_list false (unpack ps) o y → all_bind ps ≡ true → params_of lm inner y.1.commas y.0 ≡ Ok (unpack ps)
  unfolding params_of
  params_read ps o y v b = rw (v.comma, v.rows.so true (subst (λ ys. all_bind ys ≡ true) (sym (pack_unpack ps)) b) y.1.commas (λ n q. refl)) (ap Ok (unpack_pack (unpack ps)))

  heads : (ps : Trees) (o : Input) (y : Elements × State Input) → Covered_list false (unpack ps) o y → all_bind ps ≡ true → arrowed o ≡ true → heads_params lm inner lev y.0 y.1 ≡ true
  heads ps o y v b a = and_from (arrows_at lm inner lev y.1) _ (and_from (arrowed y.1.source) _ (subst (λ (x : Input). arrowed x ≡ true) (sym v.source) a) (le-leb lev assignment_level low)) (ap (λ x. is_read x) (params_read ps o y v b))

  after_params : (i : Bool) (ps : Trees) (s : Span) (e : Tree) (o n r : Input) (P : Type 0) {Q : Type 0} (y : Elements × State Input) → Covered_list false (unpack ps) o y → all_bind ps ≡ true → Body_read inner c i e o n r P → (P → Q) → s ≡ span (lo ts) r.last
      → Reads y.1 (placed (bound lm y.1) (params_of lm inner y.1.commas y.0) >>= λ xs. arrow_by lm inner c (lo ts) i xs y.1) (Is (arrow_expr s ps e i) r) Q
  after_params i ps s e o n r P {Q = Q} y v b w f p = rw (params_read ps o y v b)
      (subst (λ (u : Input). Reads (from u y.1.commas) (arrow_by lm inner c (lo ts) i (unpack ps) (from u y.1.commas)) (Is (arrow_expr s ps e i) r) Q) (sym v.source) (arrow_body i ps s e o n r y.1.commas P w f p))

  pub arrow_paren : (ps : Trees) (s : Span) (e : Tree) (m o n r : Input) (P R : Type 0) {Q : Type 0} → kind ts ≡ left_paren_kind → rest ts ≡ m → Reads (from m k) (elements_by lm inner (with_in c) false right_paren_kind (from m k)) (Covered_list false (unpack ps) o) R → (R → Q) → all_bind ps ≡ true
      → Body_read inner c false e o n r P → (P → Q) → s ≡ span (lo ts) r.last → Reads (from ts k) (prefix_by lm inner c lev (from ts k)) (Is (arrow_expr s ps e false) r) Q
  unfolding prefix_by group_by group_end
  arrow_paren ps s e m o n r P R {Q = Q} g q y i b w f p = rw g (then_past_reads ts m k (elements_by lm inner (with_in c) false right_paren_kind) _ (Covered_list false (unpack ps) o) R _ Q q y i
      (λ u v. if_yes (heads_params lm inner lev u.0 u.1) _ _ _ _ (heads ps o u v b w.arrow) (after_params false ps s e o n r P u v b w f p)))

  pub async_paren : (ps : Trees) (s : Span) (e : Tree) (m l o n r : Input) (P R : Type 0) {Q : Type 0} → kind ts ≡ async_kind → barred c.context ts ≡ false → rest ts ≡ m → brk m ≡ false → kind m ≡ left_paren_kind → rest m ≡ l
      → Reads (from l k) (elements_by lm inner (with_in c) false right_paren_kind (from l k)) (Covered_list false (unpack ps) o) R → (R → Q) → all_bind ps ≡ true → Body_read inner c true e o n r P → (P → Q) → s ≡ span (lo ts) r.last
      → Reads (from ts k) (prefix_by lm inner c lev (from ts k)) (Is (arrow_expr s ps e true) r) Q
  unfolding word_by async_by async_group
  async_paren ps s e m l o n r P R {Q = Q} a ba q nb g t y i b w f p = named_word inner c lev ts k (Is (arrow_expr s ps e true) r) Q (async_name c ts a ba) (if_yes (eqb (kind ts) async_kind) _ _ _ _ (eq-eqb (kind ts) async_kind a)
      (if_no (((kind (rest ts) == function_kind) && not (brk (rest ts))) && not (barred c.context (rest ts))) _ _ _ _ (and_left _ _ (and_left (kind (rest ts) == function_kind) _ (no function_kind refl)))
      (if_no ((is_word (kind (rest ts)) && (not (no_name c.context (kind (rest ts))) && not (barred c.context (rest ts)))) && ((not (brk (rest ts)) && (kind2 (rest ts) == arrow_kind) && not (brk2 (rest ts))) && leb lev assignment_level)) _ _ _ _
      (and_left _ _ (and_left (is_word (kind (rest ts))) _ (subst (λ (u : ℕ). is_word u ≡ false) (sym at) refl)))
      (if_yes ((kind (rest ts) == left_paren_kind) && not (brk (rest ts))) _ _ _ _ (and_from _ _ (eq-eqb (kind (rest ts)) left_paren_kind at) (ap not line))
      (after_one (from ts k) _ _ Q (then_past_reads (rest ts) l k (elements_by lm inner (with_in c) false right_paren_kind) _ (Covered_list false (unpack ps) o) R _ Q (ap (λ (u : Input). rest u) q ∙ t) y i
      (λ u v. if_yes (heads_params lm inner lev u.0 u.1 && not (brk (rest ts))) _ _ _ _ (and_from (heads_params lm inner lev u.0 u.1) _ (heads ps o u v b w.arrow) (ap not line)) (after_params true ps s e o n r P u v b w f p))))))))
    where
      at : kind (rest ts) ≡ left_paren_kind
      at = ap (λ (u : Input). kind u) q ∙ g

      line : brk (rest ts) ≡ false
      line = ap (λ (u : Input). brk u) q ∙ nb

      no : (u : ℕ) → eqb left_paren_kind u ≡ false → eqb (kind (rest ts)) u ≡ false
      no u h = subst (λ (x : ℕ). eqb x u ≡ false) (sym at) h

  -- what follows the word `async`
  abbrev async_rest : Input → Result (Tree × State Input) Fault
  async_rest i =
      cond (((kind i == function_kind) && not (brk i)) && not (barred c.context i)) (function_expr_by lm inner c (lo ts) true (from i k))
      (cond ((is_word (kind i) && (not (no_name c.context (kind i)) && not (barred c.context i))) && ((not (brk i) && (kind2 i == arrow_kind) && not (brk2 i)) && leb lev assignment_level))
      (name lm c (from i k) >>= λ n. arrow_by lm inner c (lo ts) true (binding_ident (first_span i) (ident (first_span i) n.0) ∷ []) n.1)
      (cond ((kind i == left_paren_kind) && not (brk i)) (async_group lm inner c lev (first_span ts) (text ts) (from i k)) (ident_end lm inner c lev (first_span ts) (text ts) (from i k))))

  pub async_bare : (q : Span) (x : List ℕ) (s : Span) (e : Tree) (m o n r : Input) (P : Type 0) {Q : Type 0} → kind ts ≡ async_kind → barred c.context ts ≡ false → rest ts ≡ m → brk m ≡ false → IsName c m → text m ≡ x → rest m ≡ o → q ≡ span (lo m) o.last → Body_read inner c true e o n r P → (P → Q) → s ≡ span (lo ts) r.last
      → Reads (from ts k) (prefix_by lm inner c lev (from ts k)) (Is (arrow_expr s (more (binding_ident q (ident q x)) none) e true) r) Q
  unfolding word_by async_by
  async_bare q x s e m o n r P {Q = Q} a ba t nb is tx u sp w f p = named_word inner c lev ts k (Is (arrow_expr s (more (binding_ident q (ident q x)) none) e true) r) Q (async_name c ts a ba) (if_yes (eqb (kind ts) async_kind) _ _ _ _ (eq-eqb (kind ts) async_kind a)
      (onto_all (if_no (((kind m == function_kind) && not (brk m)) && not (barred c.context m)) _ _ _ _ (and_left _ _ (and_left (kind m == function_kind) _ (ne_eqb (kind m) function_kind (λ i. true≢false (sym (ap always_reserved i) ∙ (or_parts (always_reserved (kind m)) _ is.1).0)))))
      (if_yes ((is_word (kind m) && (not (no_name c.context (kind m)) && not (barred c.context m))) && ((not (brk m) && (kind2 m == arrow_kind) && not (brk2 m)) && leb lev assignment_level)) _ _ _ _
      (and_from _ _ (named c m k is) (and_from _ _ (all (not (brk m)) (kind2 m == arrow_kind) (not (brk2 m)) (ap not nb) two three) (le-leb lev assignment_level low)))
      (then_name c m o x k _ _ Q is tx u (subst (λ (i : Span). Reads (from o k) (arrow_by lm inner c (lo ts) true (binding_ident (first_span m) (ident (first_span m) x) ∷ []) (from o k)) (Is (arrow_expr s (more (binding_ident i (ident i x)) none) e true) r) Q) (first_at m o q u sp)
      (arrow_body true (more (binding_ident (first_span m) (ident (first_span m) x)) none) s e o n r k P w f p)))))))
    where
      all : (a b d : Bool) → a ≡ true → b ≡ true → d ≡ true → (a && b && d) ≡ true
      all true true d e g h = h
      all true false d e g h = g
      all false b d e g h = e

      two : (kind2 m == arrow_kind) ≡ true
      two = eq-eqb (kind2 m) arrow_kind (ap (λ (i : Input). kind i) u ∙ arrow_kind_at o w.arrow)

      three : not (brk2 m) ≡ true
      three = ap (λ (i : Input). not (brk i)) u ∙ (and_parts (kind o == arrow_kind) (not (brk o)) w.arrow).1

      onto_all : Reads (from m k) (async_rest m) (Is (arrow_expr s (more (binding_ident q (ident q x)) none) e true) r) Q → Reads (from ts k) (async_rest (rest ts)) (Is (arrow_expr s (more (binding_ident q (ident q x)) none) e true) r) Q
      onto_all h = after_one (from ts k) _ _ Q (subst (λ (i : Input). Reads (from i k) (async_rest i) (Is (arrow_expr s (more (binding_ident q (ident q x)) none) e true) r) Q) (sym t) h)
