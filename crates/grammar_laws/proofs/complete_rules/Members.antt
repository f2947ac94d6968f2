-- What the readers of members, chains, templates and words of the grammar answer.
use Rattle.std.proofs.Common.{◌≡◌, ℕ, ◌<◌, ◌≤◌, Bool, true, false, not, ◌||◌, ◌==◌, eqb, leb, List, [], ◌∷◌, ◌++◌, Option, Ok, refl, sym, ap, ◌∙◌, subst, true≢false, append_assoc, append-nil, arith}
use Rattle.std.proofs.lemmas.Bool.{ne_eqb, eq-eqb, le-leb}
use Rattle.base_token.specs.declared.place.Span.{Span}
use Rattle.base_token.specs.Kinds.{hash_kind, dot_kind, back_quote_kind, template_kind, dollar_brace_kind, right_brace_kind, question_mark_kind, left_paren_kind, left_bracket_kind, right_paren_kind}
use Rattle.base_token.specs.Tokens.{Piece}
use Rattle.tree_spec.specs.Tree.{Tree, Trees, none, more, pack, unpack, member_expr, opt_chain_expr, opt_call, computed_prop_name, ident_name, private_name, tpl, tpl_element, tagged_tpl}
use Rattle.tree_spec.proofs.PackLemmas.{pack_unpack}
use Rattle.grammar_spec.specs.Tokens.Input.{Input, Code, kind, kind2, lo, hi, content, rest, span, is_word, with_in}
use Rattle.grammar_spec.specs.Tokens.Operators.{expression_level}
use Rattle.grammar_spec.specs.Tokens.Shape.{level, ends, is_chain, is_cooked}
use Rattle.grammar_spec.specs.Children.{child, IsEmpty}
use Rattle.grammar_spec.specs.Expressions.{PrivateIdentifier, AccessedName, Dotted, TemplateSpans, TemplateLiteral}
use Rattle.grammar_spec.specs.Grammar.{Produces, children}
use Rattle.grammar_spec.specs.Reader.Source.{◌>>=◌, State, bound, Inner, go_on, finished, iterate}
use Rattle.grammar_spec.specs.Reader.Expressions.{Spans, private_by, member_name, member_by, index_by, call_by, chain_by, arguments_by, elements_by, computed_by, on_chain, call_tree, quasi_step, quasi_end, template_by, step_by, prefix_by}
use Rattle.grammar_spec.specs.Reader.Reading.{readers}
use Rattle.grammar_laws.proofs.complete_base.Yields.{lm, from, coded, first_at, Reads, then_reads, Is, then_is, then_past, then_past_reads, then_eat, then_any, after_one, here, past_here, ended, if_no, if_yes, Loops, loop_on, loop_end, looped}
use Rattle.grammar_laws.proofs.complete_base.Levels.{closed_by}
use Rattle.grammar_laws.proofs.complete_rules.Lengths.{taken}
use Rattle.grammar_laws.proofs.complete_base.Trees.{CoveredAll, sizes, reach, reaches, takes}
use Rattle.grammar_laws.proofs.complete_rules.Lists.{Finds, Has, one_asked}
use Rattle.grammar_laws.proofs.complete_rules.Steps.{computed_found}

-- ---- names after a dot

module _ (inner : Inner Input) where
  pub private_found : (c : Code) (s : Span) (n : List ℕ) (ts r : Input) (k : List ℕ) {Q : Type 0} → PrivateIdentifier c s n ts r → Reads (from ts k) (private_by lm inner (from ts k)) (Is (private_name s n) r) Q
  unfolding private_by
  private_found c s n ts r k h = then_eat hash_kind ts h.0 k _ _ _ h.1.0 h.1.2 (if_yes (lo h.0 == hi ts) _ _ _ _ (eq-eqb (lo h.0) (hi ts) (h.2 ∙ ap (λ (z : Input). z.last) (sym h.1.2)))
      (then_any h.0 r n k _ _ _ h.3.0 h.3.1 h.3.3 (here (ap (λ (z : Span). private_name z n) (sym h.4)))))

  pub accessed : (may : Bool) (c : Code) (x : Tree) (m r : Input) (j : List ℕ) {Q : Type 0} → AccessedName may c (child x (λ y. Produces x y)) m r → Reads (from m j) (member_name lm inner may (from m j)) (Is x r) Q
  unfolding member_name
  accessed may c (ident_name s n) m r j h = if_no (eqb (kind m) hash_kind) _ _ _ _ (ne_eqb (kind m) hash_kind (λ z. true≢false (sym h.1.0.0 ∙ ap is_word z)))
      (then_any m r n j _ _ _ h.1.0.0 h.1.0.1 h.1.0.3 (here (ap (λ (z : Span). ident_name z n) (first_at m r s h.1.0.3 h.1.1))))
  accessed true c (private_name s n) m r j h = if_yes (eqb (kind m) hash_kind) _ _ _ _ (eq-eqb (kind m) hash_kind h.1.1.0) (private_found c s n m r j h.1)
  accessed false c (private_name s n) m r j h = absurd (true≢false (sym h.0))
  accessed true c _ m r j h = absurd (true≢false (sym h.0))
  accessed false c _ m r j h = absurd (true≢false (sym h.0))

-- ---- what goes on an object

-- these elements as a list, and these tokens as the rest
abbrev pub Lists : Inner Input → Code → Trees → Input → Input → Type 0 → Type 0
Lists inner c xs m r P = (h : List ℕ) → Reads (from m h) (elements_by lm inner c false right_paren_kind (from m h)) (Has (unpack xs) r) P

module _ (inner : Inner Input) (c : Code) (ts : Input) (k : List ℕ) (a : Tree) (m : Input) (j : List ℕ) {Q : Type 0} where
  pub dotted_member : (p : Code) (s : Span) (x : Tree) (r : Input) → Dotted true p (child x (λ y. Produces x y)) m r → s ≡ span (lo ts) r.last → Reads (from m j) (member_by lm inner c (lo ts) a (from m j)) (Is (on_chain lm inner (is_chain a) s (member_expr s a x)) r) Q
  unfolding member_by
  dotted_member p s x r h e = then_past m h.0 j (member_name lm inner true) _ x r Q _ Q h.1.2 (accessed inner true p x h.0 r j h.2) (λ z. z) (λ l. here (ap (λ (z : Span). on_chain lm inner (is_chain a) z (member_expr z a x)) (sym e)))

  pub indexed : (s t : Span) (e : Tree) (n o r : Input) (P : Type 0) → rest m ≡ n → ((h : List ℕ) → Reads (from n h) (inner.expr (with_in c) expression_level (from n h)) (Is e o) P) → (P → Q) → kind o ≡ 10 → rest o ≡ r
      → t ≡ span (lo m) r.last → s ≡ span (lo ts) r.last → Reads (from m j) (index_by lm inner c (lo ts) a (from m j)) (Is (on_chain lm inner (is_chain a) s (member_expr s a (computed_prop_name t e))) r) Q
  unfolding index_by
  indexed s t e n o r P q y i x v u p = then_is (computed_by lm inner c expression_level (from m j)) _ (computed_prop_name t e) r Q _ Q (computed_found inner c ts k a m j Q expression_level t e n o r P q y i x v u) (λ z. z)
      (λ l. here (ap (λ (z : Span). on_chain lm inner (is_chain a) z (member_expr z a (computed_prop_name t e))) (sym p)))

  pub listed : (f : Span → List Tree → Tree) (s : Span) (xs : Trees) (n r : Input) (P : Type 0) → rest m ≡ n → Lists inner c xs n r P → (P → Q) → s ≡ span (lo ts) r.last
      → Reads (from m j) (arguments_by lm inner c (from (rest m) j) >>= λ x. Ok (f (span (lo ts) x.1.source.last) x.0, x.1)) (Is (f s (unpack xs)) r) Q
  unfolding arguments_by
  listed f s xs n r P q y i p = then_past m n j (arguments_by lm inner c) _ (unpack xs) r P _ Q q (then_reads _ _ _ P _ P (y j) (λ z. z) (λ x h. ended (x.0.items, x.1) _ P h)) i (λ l. here (ap (λ (z : Span). f z (unpack xs)) (sym p)))

  pub called : (s : Span) (xs : Trees) (n r : Input) (P : Type 0) → rest m ≡ n → Lists inner c xs n r P → (P → Q) → s ≡ span (lo ts) r.last → Reads (from m j) (call_by lm inner c (lo ts) a (from m j)) (Is (call_tree lm inner s a (unpack xs)) r) Q
  unfolding call_by
  called s xs n r P q y i p = listed (λ z ys. call_tree lm inner z a ys) s xs n r P q y i p

  -- after `?.`
  pub chain_name : (p : Code) (s : Span) (x : Tree) (r : Input) → AccessedName true p (child x (λ y. Produces x y)) m r → s ≡ span (lo ts) r.last → (kind m ≡ left_paren_kind → ⊥) → (kind m ≡ left_bracket_kind → ⊥)
      → Reads (from m j) (chain_by lm inner c (lo ts) a (from m j)) (Is (opt_chain_expr s true (member_expr s a x)) r) Q
  unfolding chain_by
  chain_name p s x r h e u v = if_no (eqb (kind m) left_paren_kind) _ _ _ _ (ne_eqb (kind m) left_paren_kind u) (if_no (eqb (kind m) left_bracket_kind) _ _ _ _ (ne_eqb (kind m) left_bracket_kind v)
      (then_is (member_name lm inner true (from m j)) _ x r Q _ Q (accessed inner true p x m r j h) (λ z. z) (λ l. here (ap (λ (z : Span). opt_chain_expr z true (member_expr z a x)) (sym e)))))

  pub chain_index : (s t : Span) (e : Tree) (n o r : Input) (P : Type 0) → kind m ≡ left_bracket_kind → rest m ≡ n → ((h : List ℕ) → Reads (from n h) (inner.expr (with_in c) expression_level (from n h)) (Is e o) P) → (P → Q) → kind o ≡ 10 → rest o ≡ r
      → t ≡ span (lo m) r.last → s ≡ span (lo ts) r.last → Reads (from m j) (chain_by lm inner c (lo ts) a (from m j)) (Is (opt_chain_expr s true (member_expr s a (computed_prop_name t e))) r) Q
  unfolding chain_by
  chain_index s t e n o r P g q y i x v u p = rw g (then_is (computed_by lm inner c expression_level (from m j)) _ (computed_prop_name t e) r Q _ Q (computed_found inner c ts k a m j Q expression_level t e n o r P q y i x v u) (λ z. z)
      (λ l. here (ap (λ (z : Span). opt_chain_expr z true (member_expr z a (computed_prop_name t e))) (sym p))))

  pub chain_call : (s : Span) (xs : Trees) (n r : Input) (P : Type 0) → kind m ≡ left_paren_kind → rest m ≡ n → Lists inner c xs n r P → (P → Q) → s ≡ span (lo ts) r.last → Reads (from m j) (chain_by lm inner c (lo ts) a (from m j)) (Is (opt_chain_expr s true (opt_call s a xs)) r) Q
  unfolding chain_by
  chain_call s xs n r P g q y i p = rw g (subst (λ (ys : Trees). Reads (from m j) (arguments_by lm inner c (from (rest m) j) >>= λ x. Ok (opt_chain_expr (span (lo ts) x.1.source.last) true (opt_call (span (lo ts) x.1.source.last) a (pack x.0)), x.1)) (Is (opt_chain_expr s true (opt_call s a ys)) r) Q) (pack_unpack xs)
      (listed (λ z ys. opt_chain_expr z true (opt_call z a (pack ys))) s xs n r P q y i p))

module _ (inner : Inner Input) (c : Code) (start : State Input) (a : Tree) (m : Input) (j : List ℕ) (V : Tree × State Input → Type 0) (Q : Type 0) where
  pub step_chain : kind m ≡ question_mark_kind → kind2 m ≡ dot_kind → 19 ≤ level a → Reads (from (rest (rest m)) j) (chain_by lm inner c (lo start.source) a (from (rest (rest m)) j)) V Q → Reads (from m j) (step_by lm inner c (lo start.source) a (from m j)) V Q
  unfolding step_by
  step_chain e d le y = rw e (if_yes (kind2 m == dot_kind) _ _ V Q (eq-eqb (kind2 m) dot_kind d) (if_yes (leb 19 (level a)) _ _ V Q (le-leb 19 (level a) le) (after_one (from m j) _ V Q (after_one (from (rest m) j) _ V Q y))))

  pub step_template : kind m ≡ back_quote_kind → 19 ≤ level a → is_chain a ≡ false → Reads (from m j) (template_by lm inner c true (from m j) >>= λ q. Ok (tagged_tpl (span (lo start.source) q.1.source.last) a q.0, q.1)) V Q → Reads (from m j) (step_by lm inner c (lo start.source) a (from m j)) V Q
  unfolding step_by
  step_template e le n y = rw e (if_no (not (leb 19 (level a))) _ _ V Q (ap not (le-leb 19 (level a) le)) (if_yes (not (is_chain a)) _ _ V Q (ap not n) y))

-- ---- templates

-- these expressions and characters, and these tokens as the rest
abbrev pub HasSpans : List Tree → List Tree → Input → Spans × State Input → Type 0
HasSpans es qs r x = (x.0.exprs ≡ es) × (x.0.quasis ≡ qs) × (x.1.source ≡ r)

abbrev pub spans : List Tree → List Tree → Spans
spans es qs = record { exprs = es; quasis = qs }

module _ (inner : Inner Input) (c : Code) (tagged : Bool) (s : Span) (t : Bool) (w : List ℕ) (u : Option (List ℕ)) (es qs : List Tree) (ts m : Input) (k : List ℕ) (ct : content ts ≡ Piece w u) (e : kind ts ≡ template_kind) (q : rest ts ≡ m) (p : s ≡ span (lo ts) m.last)
    (ck : (tagged || is_cooked (tpl_element s t w u)) ≡ true) where
  same_quasi : (b : Bool) → t ≡ b → tpl_element s t w u ≡ tpl_element (span (lo ts) (hi ts)) b w u
  same_quasi b h = ap (λ (z : Span). tpl_element z t w u) (sym (first_at ts m s q p)) ∙ ap (λ (z : Bool). tpl_element (span (lo ts) (hi ts)) z w u) h

  pub quasi_last : (r : Input) {Q : Type 0} → t ≡ true → kind m ≡ back_quote_kind → rest m ≡ r → Reads (from ts k) (quasi_step lm inner c tagged (spans es qs) (from ts k)) (Is (finished (spans es (qs ++ tpl_element s t w u ∷ []))) r) Q
  unfolding quasi_step quasi_end
  quasi_last r h g v = then_eat template_kind ts m k _ _ _ e q (if_yes (eqb (kind m) back_quote_kind) _ _ _ _ (eq-eqb (kind m) back_quote_kind g)
      (rw ct (if_yes (tagged || is_cooked (tpl_element (span (lo ts) (hi ts)) true w u)) _ _ _ _ (subst (λ (y : Tree). (tagged || is_cooked y) ≡ true) (same_quasi true h) ck)
      (past_here (ap (λ (y : Tree). finished (spans es (qs ++ y ∷ []))) (sym (same_quasi true h))) v))))

  pub quasi_next : (x : Tree) (n o r : Input) (P : Type 0) {Q : Type 0} → t ≡ false → kind m ≡ dollar_brace_kind → rest m ≡ n → ((j : List ℕ) → Reads (from n j) (inner.expr (with_in c) expression_level (from n j)) (Is x o) P) → (P → Q) → kind o ≡ right_brace_kind → rest o ≡ r
      → Reads (from ts k) (quasi_step lm inner c tagged (spans es qs) (from ts k)) (Is (go_on (spans (es ++ x ∷ []) (qs ++ tpl_element s t w u ∷ []))) r) Q
  unfolding quasi_step quasi_end
  quasi_next x n o r P h g v y i b f = then_eat template_kind ts m k _ _ _ e q (if_no (eqb (kind m) back_quote_kind) _ _ _ _ (ne_eqb (kind m) back_quote_kind (λ z. omega (arith, z, g)))
      (then_eat dollar_brace_kind m n k _ _ _ g v (then_is (inner.expr (with_in c) expression_level (from n k)) _ x o P _ _ (y k) i (λ j. then_eat right_brace_kind o r j _ _ _ b f
      (rw ct (if_yes (tagged || is_cooked (tpl_element (span (lo ts) (hi ts)) false w u)) _ _ _ _ (subst (λ (y : Tree). (tagged || is_cooked y) ≡ true) (same_quasi false h) ck)
      (here (ap (λ (y : Tree). go_on (spans (es ++ x ∷ []) (qs ++ y ∷ []))) (sym (same_quasi false h))))))))))

-- what ends a list of no more parts
pub no_more : (ys : Trees) → IsEmpty (children ys) → unpack ys ≡ []
no_more none h = refl
no_more (more y ys) h = absurd h

module _ (z d : ℕ) (f : Finds z d) (p : Bool) (c : Code) (tagged : Bool) where
  abbrev inner : Inner Input
  inner = readers lm d

  template_loop : (xs ys : Trees) (es qs : List Tree) (ts r : Input) (k : List ℕ) (n : ℕ) → sizes xs < z → CoveredAll xs → TemplateSpans tagged (coded p c) (children xs) (children ys) ts r → reaches xs ≤ n
      → Loops (quasi_step lm inner c tagged) (spans es qs) ts k (HasSpans (es ++ unpack xs) (qs ++ unpack ys) r) (d < n)
  template_loop none none es qs ts r k n sz g h le = absurd h
  template_loop (more x xs) none es qs ts r k n sz g h le = absurd h
  template_loop none (more (tpl_element s t w u) ys) es qs ts r k n sz g h le =
      loop_end _ _ (spans es (qs ++ tpl_element s t w u ∷ [])) ts r k ⊥ _ _ (quasi_last inner c tagged s t w u es qs ts h.0 k h.4.1.0 h.4.1.1.0 h.4.1.1.2 h.4.1.2 h.3 r h.2 h.5.0 h.5.2) (λ v. absurd v)
      (λ l. (sym (append-nil es), ap (λ v. qs ++ (tpl_element s t w u ∷ v)) (sym (no_more ys h.1)), refl))
  template_loop none (more q ys) es qs ts r k n sz g h le = absurd (true≢false (sym h.4.0))
  template_loop (more x xs) (more (tpl_element s t w u) ys) es qs ts r k n sz g h le =
      loop_on _ _ (spans (es ++ x ∷ []) (qs ++ tpl_element s t w u ∷ [])) ts h.3 k (d < reach x) _ _
      (quasi_next inner c tagged s t w u es qs ts h.0 k h.6.1.0 h.6.1.1.0 h.6.1.1.2 h.6.1.2 h.5 x h.1 h.2 h.3 (d < reach x) h.4 h.7.0 h.7.2
      (λ j. f x p (with_in c) 1 h.1 h.2 j (omega arith) g.0 h.8.1 (omega arith) (omega arith) one_asked h.8.0 (closed_by (with_in c) (ends x) 1 12 h.2 h.9.0 refl refl (omega arith))) (λ v. v) h.9.0 h.9.2) (λ v. omega arith)
      (omega (arith, takes template_kind ts h.0 h.6.1.1.0 (omega arith) h.6.1.1.2, takes 18 h.0 h.1 h.7.0 (omega arith) h.7.2, taken x _ h.1 h.2 (omega (arith, h.8.0)) h.8.1, takes 12 h.2 h.3 h.9.0 (omega arith) h.9.2))
      (λ l. subst (λ vs. Loops (quasi_step lm inner c tagged) (spans (es ++ x ∷ []) (qs ++ tpl_element s t w u ∷ [])) h.3 l (HasSpans vs (qs ++ (tpl_element s t w u ∷ unpack ys)) r) (d < n)) (append_assoc es (x ∷ []) (unpack xs))
      (subst (λ vs. Loops (quasi_step lm inner c tagged) (spans (es ++ x ∷ []) (qs ++ tpl_element s t w u ∷ [])) h.3 l (HasSpans ((es ++ x ∷ []) ++ unpack xs) vs r) (d < n)) (append_assoc qs (tpl_element s t w u ∷ []) (unpack ys))
      (template_loop xs ys (es ++ x ∷ []) (qs ++ tpl_element s t w u ∷ []) h.3 r l n (omega arith) g.1 h.10 (omega arith))))
  template_loop (more x xs) (more q ys) es qs ts r k n sz g h le = absurd (true≢false (sym h.6.0))

  pub template_found : (s : Span) (xs ys : Trees) (ts r : Input) (k : List ℕ) (n : ℕ) → sizes xs < z → CoveredAll xs → TemplateLiteral tagged (coded p c) s (children xs) (children ys) ts r → reaches xs ≤ n
      → Reads (from ts k) (template_by lm inner c tagged (from ts k)) (Is (tpl s xs ys) r) (d < n)
  unfolding template_by
  template_found s xs ys ts r k n sz g h le = then_past_reads ts h.0 k (iterate (bound lm) (quasi_step lm inner c tagged) (spans [] [])) _ (HasSpans (unpack xs) (unpack ys) r) (d < n) _ _ h.1.2
      (looped (quasi_step lm inner c tagged) (spans [] []) h.0 k (HasSpans (unpack xs) (unpack ys) r) (d < n) (template_loop xs ys [] [] h.0 r k n sz g h.2 le)) (λ v. v)
      (λ y v. ended _ _ _ (
        ap (λ ws. tpl (span (lo ts) y.1.source.last) (pack ws) (pack y.0.quasis)) v.0 ∙ ap (λ ws. tpl (span (lo ts) y.1.source.last) (pack (unpack xs)) (pack ws)) v.1 ∙ ap (λ (w : Input). tpl (span (lo ts) w.last) (pack (unpack xs)) (pack (unpack ys))) v.2
            ∙ ap (λ w. tpl w (pack (unpack xs)) (pack (unpack ys))) (sym h.3) ∙ ap (λ ws. tpl s ws (pack (unpack ys))) (pack_unpack xs) ∙ ap (λ ws. tpl s xs ws) (pack_unpack ys),
        v.2,
      ))

pub prefix_template : (inner : Inner Input) (c : Code) (lev : ℕ) (ts : Input) (k : List ℕ) (V : Tree × State Input → Type 0) (Q : Type 0) → kind ts ≡ back_quote_kind → Reads (from ts k) (template_by lm inner c false (from ts k)) V Q → Reads (from ts k) (prefix_by lm inner c lev (from ts k)) V Q
unfolding prefix_by
prefix_template inner c lev ts k V Q e y = rw e y
