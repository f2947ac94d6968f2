-- What one operator after an expression is read as.
use Rattle.std.proofs.Common.{◌≡◌, ℕ, ◌≤◌, true, false, not, ◌&&◌, ◌==◌, eqb, leb, List, refl, sym, ap, ◌∙◌, subst, true≢false}
use Rattle.std.proofs.lemmas.Bool.{ne_eqb, le-leb, and_left, and_from}
use Rattle.base_proofs.proofs.Bools.{cond_second}
use Rattle.base_token.specs.declared.place.Span.{Span}
use Rattle.base_token.specs.Kinds.{comma_kind, dot_kind, question_mark_kind, colon_kind, left_paren_kind, left_bracket_kind, right_bracket_kind, right_paren_kind, hash_kind}
use Rattle.tree_spec.specs.Tree.{Tree, Trees, pack, unpack, bin_expr, cond_expr, update_expr, member_expr, call_expr, computed_prop_name, ident_name}
use Rattle.tree_spec.proofs.PackLemmas.{pack_unpack}
use Rattle.grammar_spec.specs.Tokens.Input.{Input, Code, kind, kind2, brk, lo, text, rest, span, is_word, barred, with_in}
use Rattle.grammar_spec.specs.Tokens.Operators.{right_level, operates, is_assign_op, assignment_level, expression_level}
use Rattle.grammar_spec.specs.Tokens.Shape.{level, fits_left, is_chain}
use Rattle.grammar_spec.specs.Expressions.{is_update_op}
use Rattle.grammar_spec.specs.Reader.Source.{State, Inner}
use Rattle.grammar_spec.specs.Reader.Expressions.{step_by, binary_by, cond_by, computed_by, index_by, member_by, member_name, call_by, arguments_by, elements_by}
use Rattle.grammar_laws.proofs.complete_base.Yields.{lm, from, then_reads, Is, then_is, then_eat, then_word, then_any, Reads, here, past_here, ended, if_no, if_yes, then_past}
use Rattle.grammar_laws.proofs.complete_base.Levels.{operated, not_binary, not_assign}
use Rattle.grammar_laws.proofs.complete_base.Trees.{by_update}
use Rattle.grammar_laws.proofs.complete_rules.Lists.{Has}

module _ (inner : Inner Input) (c : Code) (start : State Input) (a : Tree) (m : Input) (j : List ℕ) (V : Tree × State Input → Type 0) (Q : Type 0) where
  pub step_binary : operates c (kind m) ≡ true → fits_left (kind m) a ≡ true → Reads (from m j) (binary_by lm inner c (lo start.source) a (from m j)) V Q → Reads (from m j) (step_by lm inner c (lo start.source) a (from m j)) V Q
  unfolding step_by
  step_binary o f y = let b = operated c (kind m) o in
      if_no (eqb (kind m) comma_kind) _ _ V Q (not_binary (kind m) comma_kind b refl) (if_no (is_assign_op (kind m)) _ _ V Q (not_assign (kind m) b)
      (if_no ((kind m == question_mark_kind) && (kind2 m == dot_kind)) _ _ V Q (and_left (kind m == question_mark_kind) (kind2 m == dot_kind) (not_binary (kind m) question_mark_kind b refl)) (if_no (kind m == question_mark_kind) _ _ V Q (not_binary (kind m) question_mark_kind b refl)
      (if_yes (operates c (kind m)) _ _ V Q o (if_yes (fits_left (kind m) a) _ _ V Q f y)))))

  pub step_cond : kind m ≡ question_mark_kind → (kind2 m == dot_kind) ≡ false → 4 ≤ level a → Reads (from m j) (cond_by lm inner c (lo start.source) a (from m j)) V Q → Reads (from m j) (step_by lm inner c (lo start.source) a (from m j)) V Q
  unfolding step_by
  step_cond e n le y = rw e (if_no (kind2 m == dot_kind) _ _ V Q n (if_yes (leb 4 (level a)) _ _ V Q (le-leb 4 (level a) le) y))

  pub step_index : kind m ≡ left_bracket_kind → 19 ≤ level a → Reads (from m j) (index_by lm inner c (lo start.source) a (from m j)) V Q → Reads (from m j) (step_by lm inner c (lo start.source) a (from m j)) V Q
  unfolding step_by
  step_index e le y = rw e (if_no (not (leb 19 (level a))) _ _ V Q (ap not (le-leb 19 (level a) le)) y)

  pub step_member : kind m ≡ dot_kind → 19 ≤ level a → Reads (from m j) (member_by lm inner c (lo start.source) a (from m j)) V Q → Reads (from m j) (step_by lm inner c (lo start.source) a (from m j)) V Q
  unfolding step_by
  step_member e le y = rw e (if_no (not (leb 19 (level a))) _ _ V Q (ap not (le-leb 19 (level a) le)) y)

  pub step_call : kind m ≡ left_paren_kind → 19 ≤ level a → Reads (from m j) (call_by lm inner c (lo start.source) a (from m j)) V Q → Reads (from m j) (step_by lm inner c (lo start.source) a (from m j)) V Q
  unfolding step_by
  step_call e le y = rw e (if_no (not (leb 19 (level a))) _ _ V Q (ap not (le-leb 19 (level a) le)) y)

module _ (inner : Inner Input) (c : Code) (ts : Input) (k : List ℕ) (a : Tree) (m : Input) (j : List ℕ) (Q : Type 0) where
  pub step_update : (op : ℕ) (s : Span) (r : Input) → is_update_op op ≡ true → kind m ≡ op → 18 ≤ level a → brk m ≡ false → rest m ≡ r → s ≡ span (lo ts) r.last → Reads (from m j) (step_by lm inner c (lo ts) a (from m j)) (Is (update_expr s op false a) r) Q
  unfolding step_by
  step_update op s r u e le b q p = subst (λ (y : Input). Reads (from m j) (step_by lm inner c (lo ts) a (from m j)) (Is (update_expr s op false a) y) Q) q
      (subst (λ (y : Span). Reads (from m j) (step_by lm inner c (lo ts) a (from m j)) (Is (update_expr y op false a) (rest m)) Q) (sym (p ∙ ap (λ (y : Input). span (lo ts) y.last) (sym q)))
      (by_update op (λ o. kind m ≡ o → Reads (from m j) (step_by lm inner c (lo ts) a (from m j)) (Is (update_expr (span (lo ts) (rest m).last) o false a) (rest m)) Q) u
      (λ e. rw e (if_yes (leb 18 (level a) && not (brk m)) _ _ _ _ (and_from (leb 18 (level a)) _ (le-leb 18 (level a) le) (ap not b)) (past_here refl refl)))
      (λ e. rw e (if_yes (leb 18 (level a) && not (brk m)) _ _ _ _ (and_from (leb 18 (level a)) _ (le-leb 18 (level a) le) (ap not b)) (past_here refl refl))) e))

  pub binary_found : (op : ℕ) (s : Span) (b : Tree) (n r : Input) (P : Type 0) → kind m ≡ op → barred c.context m ≡ false → rest m ≡ n → ((l : List ℕ) → Reads (from n l) (inner.expr c (right_level op) (from n l)) (Is b r) P) → (P → Q) → s ≡ span (lo ts) r.last
      → Reads (from m j) (binary_by lm inner c (lo ts) a (from m j)) (Is (bin_expr s op a b) r) Q
  unfolding binary_by
  binary_found op s b n r P e w q y i p = then_word c (kind m) m n j _ _ _ refl w q
      (then_is (inner.expr c (right_level (kind m)) (from n j)) _ b r P _ Q (subst (λ (o : ℕ). Reads (from n j) (inner.expr c (right_level o) (from n j)) (Is b r) P) (sym e) (y j)) i
      (λ l. here (ap (λ (z : Span). bin_expr z (kind m) a b) (sym p) ∙ ap (λ (o : ℕ). bin_expr s o a b) e)))

  pub cond_found : (s : Span) (b t : Tree) (n o u r : Input) (P R : Type 0) → rest m ≡ n → ((l : List ℕ) → Reads (from n l) (inner.expr (with_in c) assignment_level (from n l)) (Is b o) P) → (P → Q) → kind o ≡ colon_kind → rest o ≡ u
      → ((l : List ℕ) → Reads (from u l) (inner.expr c assignment_level (from u l)) (Is t r) R) → (R → Q) → s ≡ span (lo ts) r.last → Reads (from m j) (cond_by lm inner c (lo ts) a (from m j)) (Is (cond_expr s a b t) r) Q
  unfolding cond_by
  cond_found s b t n o u r P R q y i e v w x p =
      then_past m n j (inner.expr (with_in c) assignment_level) _ b o P _ Q q (y j) i
      (λ l. then_eat colon_kind o u l _ _ _ e v (then_is (inner.expr c assignment_level (from u l)) _ t r R _ Q (w l) x (λ h. here (ap (λ (z : Span). cond_expr z a b t) (sym p)))))

  pub computed_found : (l : ℕ) (s : Span) (e : Tree) (n o r : Input) (P : Type 0) → rest m ≡ n → ((h : List ℕ) → Reads (from n h) (inner.expr (with_in c) l (from n h)) (Is e o) P) → (P → Q) → kind o ≡ right_bracket_kind → rest o ≡ r → s ≡ span (lo m) r.last
      → Reads (from m j) (computed_by lm inner c l (from m j)) (Is (computed_prop_name s e) r) Q
  unfolding computed_by
  computed_found l s e n o r P q y i x v p =
      then_past m n j (inner.expr (with_in c) l) _ e o P _ Q q (y j) i
      (λ h. then_eat right_bracket_kind o r h _ _ _ x v (here (ap (λ (z : Span). computed_prop_name z e) (sym p))))

  pub index_found : (s t : Span) (e : Tree) (n o r : Input) (P : Type 0) → is_chain a ≡ false → rest m ≡ n → ((h : List ℕ) → Reads (from n h) (inner.expr (with_in c) expression_level (from n h)) (Is e o) P) → (P → Q) → kind o ≡ right_bracket_kind → rest o ≡ r
      → t ≡ span (lo m) r.last → s ≡ span (lo ts) r.last → Reads (from m j) (index_by lm inner c (lo ts) a (from m j)) (Is (member_expr s a (computed_prop_name t e)) r) Q
  unfolding index_by
  index_found s t e n o r P w q y i x v u p = then_is (computed_by lm inner c expression_level (from m j)) _ (computed_prop_name t e) r Q _ Q (computed_found expression_level t e n o r P q y i x v u) (λ z. z)
      (λ l. here (cond_second (is_chain a) _ _ _ w (ap (λ (z : Span). member_expr z a (computed_prop_name t e)) (sym p))))

  pub named_found : (s t : Span) (x : List ℕ) (n r : Input) → is_chain a ≡ false → rest m ≡ n → is_word (kind n) ≡ true → text n ≡ x → rest n ≡ r → t ≡ span (lo n) r.last → s ≡ span (lo ts) r.last
      → Reads (from m j) (member_by lm inner c (lo ts) a (from m j)) (Is (member_expr s a (ident_name t x)) r) Q
  unfolding member_by member_name
  named_found s t x n r w q i e v u p = then_past m n j (member_name lm inner true) _ (ident_name t x) r Q _ Q q
      (if_no (eqb (kind n) hash_kind) _ _ _ _ (ne_eqb (kind n) hash_kind (λ z. true≢false (sym i ∙ ap is_word z))) (then_any n r x j _ _ _ i e v (here (ap (λ (z : Span). ident_name z x) (ap (λ (y : Input). span (lo n) y.last) v ∙ sym u))))) (λ z. z)
      (λ l. here (cond_second (is_chain a) _ _ _ w (ap (λ (z : Span). member_expr z a (ident_name t x)) (sym p))))

  pub call_found : (s : Span) (xs : Trees) (n r : Input) (P : Type 0) → is_chain a ≡ false → rest m ≡ n → ((h : List ℕ) → Reads (from n h) (elements_by lm inner c false right_paren_kind (from n h)) (Has (unpack xs) r) P) → (P → Q) → s ≡ span (lo ts) r.last
      → Reads (from m j) (call_by lm inner c (lo ts) a (from m j)) (Is (call_expr s a xs) r) Q
  unfolding call_by arguments_by
  call_found s xs n r P w q y i p = then_past m n j (arguments_by lm inner c) _ (unpack xs) r P _ Q q (then_reads _ _ _ P _ P (y j) (λ z. z) (λ x h. ended (x.0.items, x.1) _ P h)) i
      (λ l. here (cond_second (is_chain a) _ _ _ w (ap (λ (z : Span). call_expr z a (pack (unpack xs))) (sym p) ∙ ap (λ (ys : Trees). call_expr s a ys) (pack_unpack xs))))
