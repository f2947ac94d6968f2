-- What the readers of `super`, `import`, meta properties and `yield` answer.
use Rattle.std.proofs.Common.{◌≡◌, ℕ, ◌<◌, ◌≤◌, Bool, true, false, not, ◌&&◌, eqb, List, [], ◌∷◌, Ok, refl, sym, ap, ◌∙◌, subst, ⊎_elim, true≢false, arith}
use Rattle.std.proofs.lemmas.Bool.{ne_eqb, eq-eqb, and_from, and_parts, or_from, or_left, or_right}
use Rattle.base_token.specs.declared.place.Span.{Span}
use Rattle.base_token.specs.Kinds.{dot_kind, left_paren_kind, left_bracket_kind, right_paren_kind, mul_kind, new_kind, super_kind, import_kind, yield_kind, meta_kind, target_kind}
use Rattle.tree_spec.specs.Tree.{Tree, Trees, none, more, pack, unpack, call_expr, super_prop_expr, computed_prop_name, ident_name, meta_prop_expr, yield_expr, super, import, absent}
use Rattle.tree_spec.proofs.PackLemmas.{pack_unpack}
use Rattle.grammar_spec.specs.Tokens.Input.{Input, Code, TakesWord, kind, brk, lo, rest, span, first_span, barred, with_in}
use Rattle.grammar_spec.specs.Tokens.Operators.{expression_level, assignment_level}
use Rattle.grammar_spec.specs.Tokens.Shape.{is_spread}
use Rattle.grammar_spec.specs.Children.{child}
use Rattle.grammar_spec.specs.Expressions.{Dotted, MetaProperty, ImportArguments, is_plain_element, is_at_most_one}
use Rattle.grammar_spec.specs.Grammar.{Produces, children}
use Rattle.grammar_spec.specs.Reader.Source.{◌>>=◌, State, Inner, eat_word}
use Rattle.grammar_spec.specs.Reader.Expressions.{Elements, no_elements, elements_by, computed_by, arguments_by, prefix_by, keyword_by, super_end, import_by, fits_import, new_by, yield_by, yield_end}
use Rattle.grammar_spec.specs.Reader.Reading.{readers}
use Rattle.grammar_laws.proofs.complete_base.Yields.{lm, from, coded, reads_map, first_at, Reads, then_reads, Is, then_is, then_past, onto, then_eat, then_word, then_any, here, ended, if_no, if_yes, loop_end, looped}
use Rattle.grammar_laws.proofs.complete_base.Levels.{quits, ends_operand}
use Rattle.grammar_laws.proofs.complete_base.Trees.{CoveredAll, sizes, reach, reaches, begins, no_kind, by_cases}
use Rattle.grammar_laws.proofs.complete_rules.Lists.{Finds, elements_found, step_close}
use Rattle.grammar_laws.proofs.complete_rules.Steps.{computed_found}
use Rattle.grammar_laws.proofs.complete_rules.Members.{Lists, listed, no_more}

-- these elements, which an import takes
abbrev pub Imported : Inner Input → Code → Trees → Input → Elements × State Input → Type 0
Imported inner c xs r x = (fits_import lm inner c x.0 ≡ true) × (x.0.items ≡ unpack xs) × (x.1.source ≡ r)

module _ (inner : Inner Input) (c : Code) (lev : ℕ) (ts : Input) (k : List ℕ) (m : Input) (Q : Type 0) where
  -- ---- `super`

  super_found : (V : Tree × State Input → Type 0) → kind ts ≡ super_kind → barred c.context ts ≡ false → rest ts ≡ m → Reads (from m k) (super_end lm inner c (first_span ts) (from m k)) V Q → Reads (from ts k) (prefix_by lm inner c lev (from ts k)) V Q
  unfolding prefix_by keyword_by
  super_found V e b q y = rw e (then_word c super_kind ts m k _ V Q e b q y)

  pub super_call : (s t : Span) (xs : Trees) (n r : Input) (P : Type 0) → kind ts ≡ super_kind → barred c.context ts ≡ false → rest ts ≡ m → t ≡ span (lo ts) m.last → kind m ≡ left_paren_kind → rest m ≡ n → Lists inner c xs n r P → (P → Q) → s ≡ span (lo ts) r.last
      → Reads (from ts k) (prefix_by lm inner c lev (from ts k)) (Is (call_expr s (super t) xs) r) Q
  unfolding super_end
  super_call s t xs n r P e b q o g v y i p = super_found _ e b q (if_yes (eqb (kind m) left_paren_kind) _ _ _ _ (eq-eqb (kind m) left_paren_kind g)
      (subst (λ (w : Tree). Reads (from m k) (arguments_by lm inner c (from (rest m) k) >>= λ x. Ok (call_expr (span (lo ts) x.1.source.last) (super (first_span ts)) (pack x.0), x.1)) (Is w r) Q) (ap (λ (w : Span). call_expr s (super w) (pack (unpack xs))) (first_at ts m t q o) ∙ ap (λ ys. call_expr s (super t) ys) (pack_unpack xs))
      (listed inner c ts k absent m k (λ z ys. call_expr z (super (first_span ts)) (pack ys)) s xs n r P v y i p)))

  pub super_index : (s t u : Span) (x : Tree) (n o r : Input) (P : Type 0) → kind ts ≡ super_kind → barred c.context ts ≡ false → rest ts ≡ m → t ≡ span (lo ts) m.last → kind m ≡ left_bracket_kind → rest m ≡ n
      → ((h : List ℕ) → Reads (from n h) (inner.expr (with_in c) expression_level (from n h)) (Is x o) P) → (P → Q) → kind o ≡ 10 → rest o ≡ r → u ≡ span (lo m) r.last → s ≡ span (lo ts) r.last
      → Reads (from ts k) (prefix_by lm inner c lev (from ts k)) (Is (super_prop_expr s (super t) (computed_prop_name u x)) r) Q
  unfolding super_end
  super_index s t u x n o r P e b q w g v y i f h l p = super_found _ e b q (if_no (eqb (kind m) left_paren_kind) _ _ _ _ (ne_eqb (kind m) left_paren_kind (λ z. omega (arith, z, g))) (if_yes (eqb (kind m) left_bracket_kind) _ _ _ _ (eq-eqb (kind m) left_bracket_kind g)
      (then_is (computed_by lm inner c expression_level (from m k)) _ (computed_prop_name u x) r Q _ Q (computed_found inner c ts k absent m k Q expression_level u x n o r P v y i f h l) (λ z. z)
      (λ j. here (ap (λ (z : Span). super_prop_expr z (super (first_span ts)) (computed_prop_name u x)) (sym p) ∙ ap (λ (z : Span). super_prop_expr s (super z) (computed_prop_name u x)) (first_at ts m t q w))))))

  pub super_name : (a : Code) (s t : Span) (x : Tree) (r : Input) → kind ts ≡ super_kind → barred c.context ts ≡ false → rest ts ≡ m → t ≡ span (lo ts) m.last → Dotted false a (child x (λ y. Produces x y)) m r → s ≡ span (lo ts) r.last
      → Reads (from ts k) (prefix_by lm inner c lev (from ts k)) (Is (super_prop_expr s (super t) x) r) Q
  unfolding super_end
  super_name a s t (ident_name u n) r e b q w h p = super_found _ e b q (if_no (eqb (kind m) left_paren_kind) _ _ _ _ (ne_eqb (kind m) left_paren_kind (λ z. omega (arith, z, h.1.0))) (if_no (eqb (kind m) left_bracket_kind) _ _ _ _ (ne_eqb (kind m) left_bracket_kind (λ z. omega (arith, z, h.1.0)))
      (then_eat dot_kind m h.0 k _ _ _ h.1.0 h.1.2 (then_any h.0 r n k _ _ _ h.2.1.0.0 h.2.1.0.1 h.2.1.0.3
      (here (ap (λ (z : Span). super_prop_expr z (super (first_span ts)) (ident_name (first_span h.0) n)) (sym p) ∙ ap (λ (z : Span). super_prop_expr s (super z) (ident_name (first_span h.0) n)) (first_at ts m t q w) ∙ ap (λ (z : Span). super_prop_expr s (super t) (ident_name z n)) (first_at h.0 r u h.2.1.0.3 h.2.1.1)))))))
  super_name a s t _ r e b q w h p = absurd (true≢false (sym h.2.0))

  -- ---- meta properties

  pub meta_found : (a : Code) (s : Span) (o : ℕ) (r : Input) → MetaProperty a s o ts r → (a.context ≡ c.context) → Reads (from ts k) (prefix_by lm inner c lev (from ts k)) (Is (meta_prop_expr s o) r) Q
  unfolding prefix_by keyword_by new_by import_by
  meta_found a s o r h x = ⊎_elim
      (λ (e : (o ≡ new_kind) × TakesWord a target_kind h.1 r). let g : kind ts ≡ new_kind = h.2.0 ∙ e.0 in rw g (then_word c new_kind ts h.0 k _ _ _ g (subst (λ y. barred y ts ≡ false) x h.2.1) h.2.3 (if_yes (eqb (kind h.0) dot_kind) _ _ _ _ (eq-eqb (kind h.0) dot_kind h.3.0)
      (onto h.0 h.1 k (λ z. eat_word lm c target_kind z >>= λ t. Ok (meta_prop_expr (span (lo ts) t.source.last) new_kind, t)) _ _ h.3.2
      (then_word c target_kind h.1 r k _ _ _ e.1.0 (subst (λ y. barred y h.1 ≡ false) x e.1.1) e.1.3 (here (ap (λ (z : Span). meta_prop_expr z new_kind) (sym h.5) ∙ ap (λ z. meta_prop_expr s z) (sym e.0))))))))
      (λ (e : (o ≡ import_kind) × TakesWord a meta_kind h.1 r). let g : kind ts ≡ import_kind = h.2.0 ∙ e.0 in rw g (then_word c import_kind ts h.0 k _ _ _ g (subst (λ y. barred y ts ≡ false) x h.2.1) h.2.3 (if_yes (eqb (kind h.0) dot_kind) _ _ _ _ (eq-eqb (kind h.0) dot_kind h.3.0)
      (onto h.0 h.1 k (λ z. eat_word lm c meta_kind z >>= λ t. Ok (meta_prop_expr (span (lo ts) t.source.last) import_kind, t)) _ _ h.3.2
      (then_word c meta_kind h.1 r k _ _ _ e.1.0 (subst (λ y. barred y h.1 ≡ false) x e.1.1) e.1.3 (here (ap (λ (z : Span). meta_prop_expr z import_kind) (sym h.5) ∙ ap (λ z. meta_prop_expr s z) (sym e.0)))))))) h.4

  -- ---- `yield`

  yields : (V : Tree × State Input → Type 0) → kind ts ≡ yield_kind → barred c.context ts ≡ false → rest ts ≡ m → c.context.in_generator ≡ true → Reads (from m k) (yield_end lm inner c (lo ts) (from m k)) V Q → Reads (from ts k) (prefix_by lm inner c lev (from ts k)) V Q
  unfolding prefix_by keyword_by yield_by
  yields V e b q g y = rw e (if_yes c.context.in_generator _ _ V Q g (then_word c yield_kind ts m k _ V Q e b q y))

  pub yield_bare : (s : Span) → kind ts ≡ yield_kind → barred c.context ts ≡ false → rest ts ≡ m → c.context.in_generator ≡ true → quits m ≡ true → s ≡ span (lo ts) m.last → Reads (from ts k) (prefix_by lm inner c lev (from ts k)) (Is (yield_expr s absent false) m) Q
  unfolding yield_end
  yield_bare s e b q g u p = yields _ e b q g (if_yes (quits m) _ _ _ _ u (here (ap (λ (z : Span). yield_expr z absent false) (sym p))))

  goes_with : (brk m ≡ false) → ends_operand (kind m) ≡ false → quits m ≡ false
  goes_with b e = or_from (brk m) _ b e

  pub yield_operand : (s : Span) (x : Tree) (r : Input) (P : Type 0) → kind ts ≡ yield_kind → barred c.context ts ≡ false → rest ts ≡ m → c.context.in_generator ≡ true → brk m ≡ false → begins (kind m) ≡ true → ((h : List ℕ) → Reads (from m h) (inner.expr c assignment_level (from m h)) (Is x r) P) → (P → Q)
      → s ≡ span (lo ts) r.last → Reads (from ts k) (prefix_by lm inner c lev (from ts k)) (Is (yield_expr s x false) r) Q
  unfolding yield_end
  yield_operand s x r P e b q g n u y i p = yields _ e b q g (if_no (quits m) _ _ _ _ (goes_with n no_end) (if_no (eqb (kind m) mul_kind) _ _ _ _ (no_kind begins (kind m) mul_kind u refl)
      (then_is (inner.expr c assignment_level (from m k)) _ x r P _ Q (y k) i (λ j. here (ap (λ (z : Span). yield_expr z x false) (sym p))))))
    where
      no : (n : ℕ) → begins n ≡ false → eqb (kind m) n ≡ false
      no n h = no_kind begins (kind m) n u h

      no_end : ends_operand (kind m) ≡ false
      no_end = or_from _ _ (no 0 refl) (or_from _ _ (no 8 refl) (or_from _ _ (no 10 refl) (or_from _ _ (no 12 refl) (or_from _ _ (no 14 refl) (or_from _ _ (no 13 refl) (or_from _ _ (no 17 refl) (no 130 refl)))))))

  pub yield_star : (s : Span) (x : Tree) (n r : Input) (P : Type 0) → kind ts ≡ yield_kind → barred c.context ts ≡ false → rest ts ≡ m → c.context.in_generator ≡ true → brk m ≡ false → kind m ≡ mul_kind → rest m ≡ n → ((h : List ℕ) → Reads (from n h) (inner.expr c assignment_level (from n h)) (Is x r) P) → (P → Q)
      → s ≡ span (lo ts) r.last → Reads (from ts k) (prefix_by lm inner c lev (from ts k)) (Is (yield_expr s x true) r) Q
  unfolding yield_end
  yield_star s x n r P e b q g l u v y i p = yields _ e b q g (if_no (quits m) _ _ _ _ (goes_with l (subst (λ (w : ℕ). ends_operand w ≡ false) (sym u) refl)) (if_yes (eqb (kind m) mul_kind) _ _ _ _ (eq-eqb (kind m) mul_kind u)
      (then_past m n k (inner.expr c assignment_level) _ x r P _ Q v (y k) i (λ j. here (ap (λ (z : Span). yield_expr z x true) (sym p))))))

  -- ---- `import(..)`

  pub import_found : (s t : Span) (xs : Trees) (n r : Input) (P : Type 0) → kind ts ≡ import_kind → barred c.context ts ≡ false → rest ts ≡ m → t ≡ span (lo ts) m.last → kind m ≡ left_paren_kind → rest m ≡ n
      → Reads (from n k) (elements_by lm inner c false right_paren_kind (from n k)) (Imported inner c xs r) P → (P → Q) → s ≡ span (lo ts) r.last → Reads (from ts k) (prefix_by lm inner c lev (from ts k)) (Is (call_expr s (import t) xs) r) Q
  unfolding prefix_by keyword_by import_by
  import_found s t xs n r P e b q o g v y i p = rw e (then_word c import_kind ts m k _ _ _ e b q (if_no (eqb (kind m) dot_kind) _ _ _ _ (ne_eqb (kind m) dot_kind (λ z. omega (arith, z, g)))
      (then_eat left_paren_kind m n k _ _ _ g v (then_reads (elements_by lm inner c false right_paren_kind (from n k)) _ (Imported inner c xs r) P _ Q y i
      (λ x h. if_yes (fits_import lm inner c x.0) _ _ _ _ h.0 (ended _ _ Q (
        ap (λ (w : Input). call_expr (span (lo ts) w.last) (import (first_span ts)) (pack x.0.items)) h.2 ∙ ap (λ (w : Span). call_expr w (import (first_span ts)) (pack x.0.items)) (sym p) ∙ ap (λ (w : Span). call_expr s (import w) (pack x.0.items)) (first_at ts m t q o)
            ∙ ap (λ ys. call_expr s (import t) (pack ys)) h.1 ∙ ap (λ ys. call_expr s (import t) ys) (pack_unpack xs),
        h.2,
      )))))))

module _ (inner : Inner Input) (c : Code) where
  fits_many : (x : Tree) (ys : Trees) (b : Bool) → c.syntax.import_attributes ≡ true → is_plain_element (children (more x ys)) ≡ true → is_at_most_one (children ys) ≡ true → fits_import lm inner c (record { items = x ∷ unpack ys; comma = b }) ≡ true
  fits_many x none b a q h = and_from (not (is_spread x)) _ (and_parts (not (is_spread x)) true q).0 (or_left c.syntax.import_attributes _ a)
  fits_many x (more u none) b a q h = let w = and_parts (not (is_spread x)) (not (is_spread u) && true) q in and_from c.syntax.import_attributes _ a (and_from (not (is_spread x)) _ w.0 (and_parts (not (is_spread u)) true w.1).0)
  fits_many x (more u (more v vs)) b a q h = absurd (true≢false (sym h))

  fits_one : (x : Tree) → not (is_spread x) ≡ true → fits_import lm inner c (record { items = x ∷ []; comma = false }) ≡ true
  fits_one x q = and_from (not (is_spread x)) _ q (or_right c.syntax.import_attributes _ refl)

pub import_elements : (z d : ℕ) (f : Finds z d) (p : Bool) (c : Code) (xs : Trees) (ts r : Input) (k : List ℕ) (n : ℕ) → sizes xs < z → CoveredAll xs → ImportArguments (coded p c) (children xs) ts r → reaches xs ≤ n
    → Reads (from ts k) (elements_by lm (readers lm d) c false right_paren_kind (from ts k)) (Imported (readers lm d) c xs r) (d < n)
unfolding elements_by
import_elements z d f p c none ts r k n sz g h le = absurd h
import_elements z d f p c (more x xs) ts r k n sz g h le = by_cases c.syntax.import_attributes _ _ _ h.1
    (λ a w. reads_map (elements_by lm (readers lm d) c false right_paren_kind (from ts k)) (λ y v. (subst (λ ys. fits_import lm (readers lm d) c (record { items = ys; comma = y.0.comma }) ≡ true) (sym v.0) (fits_many (readers lm d) c x xs y.0.comma a h.0 w.0), v.0, v.1))
    (elements_found z d f p c false 8 refl refl refl (more x xs) ts r k n sz g w.1 le))
    (λ a w. let q = (and_parts (not (is_spread x)) _ h.0).0 in
    looped _ no_elements ts k _ _ (loop_end _ _ (record { items = x ∷ []; comma = false }) ts r k (d < reach x) _ _ (step_close z d f p c false 8 refl refl refl x [] false ts w.1 r k (omega arith) g.0 w.2.0 w.2.1 w.3.0 w.3.2) (λ v. omega arith)
    (λ l. (fits_one (readers lm d) c x q, ap (λ ys. x ∷ ys) (sym (no_more xs w.0)), refl))))
