-- What the readers of prefixes answer: words, literals, prefix operators.
use Rattle.std.proofs.Common.{◌≡◌, ℕ, ◌≤◌, Bool, true, false, not, ◌&&◌, ◌||◌, ◌==◌, eqb, leb, List, Some, refl, sym, ap, ◌∙◌, subst, ⊎_elim, true≢false}
use Rattle.std.proofs.lemmas.Bool.{ne_eqb, eq-eqb, cases_eq, or_parts, or_from, and_left, and_right, not-true}
use Rattle.base_token.specs.declared.place.Span.{Span}
use Rattle.base_token.specs.Kinds.{arrow_kind, left_paren_kind, str_kind, num_kind, big_int_kind, regex_kind, sub_kind, add_kind, bang_kind, tilde_kind, typeof_kind, void_kind, delete_kind, this_kind, null_kind, true_kind, false_kind, function_kind, class_kind, new_kind, super_kind, import_kind, await_kind, yield_kind, async_kind}
use Rattle.tree_spec.specs.Tree.{Tree, this_expr, null_lit, bool_lit, ident, unary_expr, update_expr, await_expr}
use Rattle.grammar_spec.specs.Tokens.Input.{Input, Code, kind, kind2, brk, brk2, lo, text, content, rest, span, first_span, is_word, no_name, barred, always_reserved, operator_word}
use Rattle.grammar_spec.specs.Tokens.Operators.{assignment_level, unary_level}
use Rattle.grammar_spec.specs.Expressions.{is_unary_op, is_update_op}
use Rattle.grammar_spec.specs.Reader.Source.{State, Inner}
use Rattle.grammar_spec.specs.Reader.Expressions.{literal, literal_by, is_unary, prefix_by, keyword_by, word_by, async_by, ident_end, fixed, unary_by, update_by, await_by, arrows_at}
use Rattle.grammar_laws.proofs.complete_base.Yields.{lm, from, Is, then_is, then_word, then_name, IsName, Reads, here, past_here, if_no, if_yes, then_past, after_one}
use Rattle.grammar_laws.proofs.complete_base.Levels.{sober, arrowed, calm_at}
use Rattle.grammar_laws.proofs.complete_base.Trees.{by_unary, by_update, no_kind}

-- ---- the word `async` as a name

-- a name that an arrow behind `async` takes as its one parameter, at a level
abbrev pub param_at : Code → ℕ → Input → Bool
param_at c l m = (is_word (kind m) && (not (no_name c.context (kind m)) && not (barred c.context m))) && ((not (brk m) && (kind2 m == arrow_kind) && not (brk2 m)) && leb l assignment_level)

-- A name stands alone: no `=>` follows where an assignment may stand; and behind the word `async` neither `function` without an escape nor such a parameter does.
pub record Lone (c : Code) (l : ℕ) (ts r : Input) : Type 0 where
  pub calm : l ≤ assignment_level → arrowed r ≡ false
  pub function : kind ts ≡ async_kind → (((kind r == function_kind) && not (brk r)) && not (barred c.context r)) ≡ false
  pub param : kind ts ≡ async_kind → param_at c l r ≡ false

sober_function : (c : Code) (m : Input) → sober c m ≡ true → ((kind m == function_kind) && not (brk m)) ≡ false
sober_function c m h = by_line (brk m) (kind m == function_kind) _ h
  where
    by_line : (b f x : Bool) → (b || not (f || x)) ≡ true → (f && not b) ≡ false
    by_line true f x h = and_right f false refl
    by_line false true x h = absurd (true≢false (sym h))
    by_line false false x h = refl

sober_param : (c : Code) (l : ℕ) (m : Input) → sober c m ≡ true → param_at c l m ≡ false
sober_param c l m h = any_level _ _ (leb l assignment_level) (by_line (brk m) (kind m == function_kind) (is_word (kind m)) (always_reserved (kind m)) (operator_word c.context (kind m)) (barred c.context m) (kind2 m == arrow_kind) (not (brk2 m)) h)
  where
    any_level : (x y z : Bool) → (x && y) ≡ false → (x && (y && z)) ≡ false
    any_level false y z h = refl
    any_level true false z h = refl
    any_level true true z h = absurd (true≢false h)

    by_line : (b f w a o x y z : Bool) → (b || not (f || ((w && not a) && (not b && y && z)))) ≡ true → ((w && (not (a || o) && not x)) && (not b && y && z)) ≡ false
    by_line true f w a o x y z h = and_right (w && (not (a || o) && not x)) (false && y && z) refl
    by_line false true w a o x y z h = absurd (true≢false (sym h))
    by_line false false false a o x y z h = refl
    by_line false false true true o x y z h = refl
    by_line false false true false o x y z h = and_right (not o && not x) (true && y && z) (not-true (true && y && z) h)

pub lone_by : (c : Code) (l : ℕ) (ts r : Input) → (l ≤ assignment_level → arrowed r ≡ false) → sober c r ≡ true → Lone c l ts r
lone_by c l ts r a h = record { calm = a; function = λ e. and_left _ _ (sober_function c r h); param = λ e. sober_param c l r h }

-- a name is read as a word
module _ (inner : Inner Input) (c : Code) (lev : ℕ) (ts : Input) (k : List ℕ) (V : Tree × State Input → Type 0) (Q : Type 0) where
  pub named_word : IsName c ts → Reads (from ts k) (word_by lm inner c lev (from ts k)) V Q → Reads (from ts k) (prefix_by lm inner c lev (from ts k)) V Q
  unfolding prefix_by keyword_by
  named_word n y =
      let o = or_parts (always_reserved (kind ts)) (operator_word c.context (kind ts)) n.1 in
      let w : (x : ℕ) → always_reserved x ≡ true → eqb (kind ts) x ≡ false = λ x h. ne_eqb (kind ts) x (λ q. true≢false (sym h ∙ ap always_reserved (sym q) ∙ o.0)) in
      let v : (x : ℕ) → is_word x ≡ false → eqb (kind ts) x ≡ false = λ x h. no_kind is_word (kind ts) x n.0 h in
      let u = or_parts ((kind ts == yield_kind) && c.context.in_generator) _ o.1 in
      let a : ((kind ts == await_kind) && c.context.in_async) ≡ false = await_off (kind ts == await_kind) c.context.in_async _ u.1 in
      if_yes (is_word (kind ts)) _ _ _ _ n.0 (if_no _ _ _ _ _ (w this_kind refl) (if_no _ _ _ _ _ (w null_kind refl) (if_no _ _ _ _ _ (w true_kind refl) (if_no _ _ _ _ _ (w false_kind refl) (if_no _ _ _ _ _ (w function_kind refl)
      (if_no _ _ _ _ _ (w class_kind refl) (if_no _ _ _ _ _ (w new_kind refl) (if_no _ _ _ _ _ (w super_kind refl) (if_no _ _ _ _ _ (w import_kind refl)
      (if_no (is_unary (kind ts)) _ _ _ _ (or_from _ _ (v sub_kind refl) (or_from _ _ (v add_kind refl) (or_from _ _ (v bang_kind refl) (or_from _ _ (v tilde_kind refl) (or_from _ _ (w typeof_kind refl) (or_from _ _ (w void_kind refl) (w delete_kind refl)))))))
      (if_no ((kind ts == await_kind) && c.context.in_async) _ _ _ _ a (if_no ((kind ts == yield_kind) && c.context.in_generator) _ _ _ _ u.0 y))))))))))))
    where
      await_off : (a b x : Bool) → (a && (b || x)) ≡ false → (a && b) ≡ false
      await_off true true x h = h
      await_off true false x h = refl
      await_off false b x h = refl

module _ (inner : Inner Input) (c : Code) (ts : Input) (k : List ℕ) (V : Tree × State Input → Type 0) (Q : Type 0) where
  -- ---- literals

  pub literal_found : (t : Tree) (r : Input) → literal (kind ts) (content ts) (first_span ts) ≡ Some t → rest ts ≡ r → Reads (from ts k) (literal_by lm inner (from ts k)) (Is t r) Q
  unfolding literal_by
  literal_found t r e q = rw e (past_here refl q)

module _ (inner : Inner Input) (c : Code) (lev : ℕ) (ts : Input) (k : List ℕ) (V : Tree × State Input → Type 0) (Q : Type 0) where
  pub prefix_str : kind ts ≡ str_kind → Reads (from ts k) (literal_by lm inner (from ts k)) V Q → Reads (from ts k) (prefix_by lm inner c lev (from ts k)) V Q
  unfolding prefix_by
  prefix_str e y = rw e y

  pub prefix_num : kind ts ≡ num_kind → Reads (from ts k) (literal_by lm inner (from ts k)) V Q → Reads (from ts k) (prefix_by lm inner c lev (from ts k)) V Q
  unfolding prefix_by
  prefix_num e y = rw e y

  pub prefix_big : kind ts ≡ big_int_kind → Reads (from ts k) (literal_by lm inner (from ts k)) V Q → Reads (from ts k) (prefix_by lm inner c lev (from ts k)) V Q
  unfolding prefix_by
  prefix_big e y = rw e y

  pub prefix_regex : kind ts ≡ regex_kind → Reads (from ts k) (literal_by lm inner (from ts k)) V Q → Reads (from ts k) (prefix_by lm inner c lev (from ts k)) V Q
  unfolding prefix_by
  prefix_regex e y = rw e y

  -- ---- words of the grammar

  fixed_found : (f : Span → Tree) (r : Input) (s : Span) (K : ℕ) → kind ts ≡ K → barred c.context ts ≡ false → rest ts ≡ r → s ≡ span (lo ts) r.last → Reads (from ts k) (fixed lm inner c f (from ts k)) (Is (f s) r) Q
  fixed_found f r s K e b q p = then_word c (kind ts) ts r k _ _ _ refl b q (here (ap f (sym p)))

  pub prefix_this : (r : Input) (s : Span) → kind ts ≡ this_kind → barred c.context ts ≡ false → rest ts ≡ r → s ≡ span (lo ts) r.last → Reads (from ts k) (prefix_by lm inner c lev (from ts k)) (Is (this_expr s) r) Q
  unfolding prefix_by keyword_by
  prefix_this r s e b q p = rw e (rw e at (fixed_found this_expr r s this_kind e b q p))

  pub prefix_null : (r : Input) (s : Span) → kind ts ≡ null_kind → barred c.context ts ≡ false → rest ts ≡ r → s ≡ span (lo ts) r.last → Reads (from ts k) (prefix_by lm inner c lev (from ts k)) (Is (null_lit s) r) Q
  unfolding prefix_by keyword_by
  prefix_null r s e b q p = rw e (rw e at (fixed_found null_lit r s null_kind e b q p))

  pub prefix_true : (r : Input) (s : Span) → kind ts ≡ true_kind → barred c.context ts ≡ false → rest ts ≡ r → s ≡ span (lo ts) r.last → Reads (from ts k) (prefix_by lm inner c lev (from ts k)) (Is (bool_lit s true) r) Q
  unfolding prefix_by keyword_by
  prefix_true r s e b q p = rw e (rw e at (fixed_found (λ p. bool_lit p true) r s true_kind e b q p))

  pub prefix_false : (r : Input) (s : Span) → kind ts ≡ false_kind → barred c.context ts ≡ false → rest ts ≡ r → s ≡ span (lo ts) r.last → Reads (from ts k) (prefix_by lm inner c lev (from ts k)) (Is (bool_lit s false) r) Q
  unfolding prefix_by keyword_by
  prefix_false r s e b q p = rw e (rw e at (fixed_found (λ p. bool_lit p false) r s false_kind e b q p))

  -- ---- prefix operators

  pub prefix_unary : (op : ℕ) → kind ts ≡ op → is_unary_op op ≡ true → Reads (from ts k) (unary_by lm inner c (from ts k)) V Q → Reads (from ts k) (prefix_by lm inner c lev (from ts k)) V Q
  unfolding prefix_by keyword_by
  prefix_unary op e u y = by_unary op (λ o. kind ts ≡ o → Reads (from ts k) (prefix_by lm inner c lev (from ts k)) V Q) u (λ e. rw e y) (λ e. rw e y) (λ e. rw e y) (λ e. rw e y) (λ e. rw e y) (λ e. rw e y) (λ e. rw e y) e

  pub prefix_update : (op : ℕ) → kind ts ≡ op → is_update_op op ≡ true → Reads (from ts k) (update_by lm inner c (from ts k)) V Q → Reads (from ts k) (prefix_by lm inner c lev (from ts k)) V Q
  unfolding prefix_by
  prefix_update op e u y = by_update op (λ o. kind ts ≡ o → Reads (from ts k) (prefix_by lm inner c lev (from ts k)) V Q) u (λ e. rw e y) (λ e. rw e y) e

  pub prefix_await : kind ts ≡ await_kind → c.context.in_async ≡ true → Reads (from ts k) (await_by lm inner c (from ts k)) V Q → Reads (from ts k) (prefix_by lm inner c lev (from ts k)) V Q
  unfolding prefix_by keyword_by
  prefix_await e u y = rw e (if_yes c.context.in_async _ _ V Q u y)

  pub unary_found : (op : ℕ) (s : Span) (a : Tree) (m r : Input) (P : Type 0) → kind ts ≡ op → barred c.context ts ≡ false → rest ts ≡ m → ((j : List ℕ) → Reads (from m j) (inner.expr c unary_level (from m j)) (Is a r) P) → (P → Q) → s ≡ span (lo ts) r.last
      → Reads (from ts k) (unary_by lm inner c (from ts k)) (Is (unary_expr s op a) r) Q
  unfolding unary_by
  unary_found op s a m r P e b q y i p = then_word c (kind ts) ts m k _ _ _ refl b q (then_is (inner.expr c unary_level (from m k)) _ a r P _ Q (y k) i (λ j. here (ap (λ (z : Span). unary_expr z (kind ts) a) (sym p) ∙ ap (λ (o : ℕ). unary_expr s o a) e)))

  pub update_found : (op : ℕ) (s : Span) (a : Tree) (m r : Input) (P : Type 0) → kind ts ≡ op → rest ts ≡ m → ((j : List ℕ) → Reads (from m j) (inner.expr c unary_level (from m j)) (Is a r) P) → (P → Q) → s ≡ span (lo ts) r.last
      → Reads (from ts k) (update_by lm inner c (from ts k)) (Is (update_expr s op true a) r) Q
  unfolding update_by
  update_found op s a m r P e q y i p = then_past ts m k (inner.expr c unary_level) _ a r P _ Q q (y k) i
      (λ j. here (ap (λ (z : Span). update_expr z (kind ts) true a) (sym p) ∙ ap (λ (o : ℕ). update_expr s o true a) e))

  pub await_found : (s : Span) (a : Tree) (m r : Input) (P : Type 0) → kind ts ≡ await_kind → barred c.context ts ≡ false → rest ts ≡ m → ((j : List ℕ) → Reads (from m j) (inner.expr c unary_level (from m j)) (Is a r) P) → (P → Q) → s ≡ span (lo ts) r.last
      → Reads (from ts k) (await_by lm inner c (from ts k)) (Is (await_expr s a) r) Q
  unfolding await_by
  await_found s a m r P e b q y i p = then_word c await_kind ts m k _ _ _ e b q (then_is (inner.expr c unary_level (from m k)) _ a r P _ Q (y k) i (λ j. here (ap (λ (z : Span). await_expr z a) (sym p))))

  -- ---- names

  ident_ends : (s : Span) (n : List ℕ) (r : Input) → rest ts ≡ r → text ts ≡ n → s ≡ span (lo ts) r.last → (lev ≤ assignment_level → arrowed r ≡ false) → Reads (from r k) (ident_end lm inner c lev (first_span ts) n (from r k)) (Is (ident s n) r) Q
  unfolding ident_end
  ident_ends s n r q t p a = if_no (arrows_at lm inner lev (from r k)) _ _ _ _ (calm_at lev r a) (here (ap (λ (z : Span). ident z n) (named_span q p)))
    where
      named_span : rest ts ≡ r → s ≡ span (lo ts) r.last → first_span ts ≡ s
      named_span q p = ap (λ (z : Input). span (lo ts) z.last) q ∙ sym p

  pub prefix_ident : (s : Span) (n : List ℕ) (r : Input) → IsName c ts → text ts ≡ n → rest ts ≡ r → s ≡ span (lo ts) r.last → Lone c lev ts r → (kind ts ≡ async_kind → kind r ≡ left_paren_kind → brk r ≡ true)
      → Reads (from ts k) (prefix_by lm inner c lev (from ts k)) (Is (ident s n) r) Q
  unfolding word_by async_by
  prefix_ident s n r i t q p o b = keyword_at (⊎_elim
      (λ (e : kind ts ≡ async_kind). if_yes (eqb (kind ts) async_kind) _ _ _ _ (eq-eqb (kind ts) async_kind e)
      (subst (λ (z : Input). Reads (from ts k) (async_by lm inner c lev (from ts k)) (Is (ident s n) z) Q) q
      (if_no _ _ _ _ _ (back (λ z. (((kind z == function_kind) && not (brk z)) && not (barred c.context z)) ≡ false) (o.function e))
      (if_no _ _ _ _ _ (back (λ z. param_at c lev z ≡ false) (o.param e))
      (if_no ((kind (rest ts) == left_paren_kind) && not (brk (rest ts))) _ _ _ _ (paren_off (back (λ z. kind z ≡ left_paren_kind → brk z ≡ true) (b e)))
      (subst (λ (n : List ℕ). Reads (from ts k) (ident_end lm inner c lev (first_span ts) (text ts) (from (rest ts) k)) (Is (ident s n) (rest ts)) Q) t (after_one (from ts k) _ _ Q (ident_ends s (text ts) (rest ts) refl refl (back (λ z. s ≡ span (lo ts) z.last) p) (back (λ z. lev ≤ assignment_level → arrowed z ≡ false) o.calm)))))))))
      (λ (x : kind ts ≡ async_kind → ⊥). if_no (eqb (kind ts) async_kind) _ _ _ _ (ne_eqb (kind ts) async_kind x) (then_name c ts r n k _ _ Q i t q (ident_ends s n r q t p o.calm)))
      (cases_eq (kind ts) async_kind))
    where
      back : (P : Input → Type 0) → P r → P (rest ts)
      back P h = subst P (sym q) h

      paren_off : (kind (rest ts) ≡ left_paren_kind → brk (rest ts) ≡ true) → ((kind (rest ts) == left_paren_kind) && not (brk (rest ts))) ≡ false
      paren_off h = ⊎_elim (λ (e : kind (rest ts) ≡ left_paren_kind). and_right (kind (rest ts) == left_paren_kind) (not (brk (rest ts))) (ap not (h e)))
          (λ (x : kind (rest ts) ≡ left_paren_kind → ⊥). and_left (kind (rest ts) == left_paren_kind) (not (brk (rest ts))) (ne_eqb (kind (rest ts)) left_paren_kind x)) (cases_eq (kind (rest ts)) left_paren_kind)

      keyword_at : Reads (from ts k) (word_by lm inner c lev (from ts k)) (Is (ident s n) r) Q → Reads (from ts k) (prefix_by lm inner c lev (from ts k)) (Is (ident s n) r) Q
      keyword_at y = named_word inner c lev ts k (Is (ident s n) r) Q i y
