-- Simple statements, and those whose parts are statements: what their rules answer.
use Rattle.std.proofs.Common.{◌≡◌, ℕ, ◌<◌, ◌≤◌, ◌⊎◌, inl, inr, Bool, true, false, not, ◌&&◌, ◌||◌, ◌==◌, cond, List, Result, Ok, refl, sym, ap, ◌∙◌, subst, ⊎_elim, arith}
use Rattle.std.proofs.lemmas.Bool.{ne_eqb, eq-eqb, or_left, or_right, or_from, or_cases, and_parts}
use Rattle.base_token.specs.declared.place.Span.{Span}
use Rattle.base_token.specs.Kinds.{end_kind, left_paren_kind, right_paren_kind, right_brace_kind, semicolon_kind, colon_kind, debugger_kind, return_kind, throw_kind, with_kind, while_kind, do_kind}
use Rattle.tree_spec.specs.Tree.{Tree, debugger_stmt, return_stmt, throw_stmt, with_stmt, while_stmt, do_while_stmt, labeled_stmt, ident, absent}
use Rattle.grammar_spec.specs.Tokens.Input.{Input, Code, kind, brk, lo, span, rest, first_span, alone, barred, is_strict, Takes}
use Rattle.grammar_spec.specs.Tokens.Operators.{expression_level, plain_end}
use Rattle.grammar_spec.specs.Tokens.Shape.{level, ends, is_absent, is_statement, is_plain_function}
use Rattle.grammar_spec.specs.Children.{is_ident, By, child, Ends, Sorted}
use Rattle.grammar_spec.specs.Statements.{Sub, SubOrFunction, InParens, Jump}
use Rattle.grammar_spec.specs.Grammar.{Produces}
use Rattle.grammar_spec.specs.Reader.Source.{Fault, ◌>>=◌, State, name}
use Rattle.grammar_spec.specs.Reader.Statements.{sub_by, in_parens, debugger_by, return_by, throw_by, with_by, while_by, do_by, jump_by, label_by, ends_here, labelled_by}
use Rattle.grammar_laws.proofs.complete_base.Yields.{lm, from, coded, Reads, Is, then_is, then_eat, then_word, then_name, then_past, here, past_here, ended, if_no, if_yes}
use Rattle.grammar_laws.proofs.complete_base.Levels.{Follow}
use Rattle.grammar_laws.proofs.complete_rules.Lists.{one_asked}
use Rattle.grammar_laws.proofs.complete_base.Trees.{by_cases}
use Rattle.grammar_laws.proofs.complete_rules.Nested.{Nested, may_follow, leaves, follows}
use Rattle.grammar_laws.proofs.complete_rules.Within.{Within, within}
use Rattle.grammar_laws.proofs.complete_rules.Follows.{halted, ends_two, end_follows, then_end, built}
use Rattle.grammar_laws.proofs.complete_rules.Starts.{opens, opening, level_opener, no_open, ident_is, may_opens, name_may}
use Rattle.grammar_laws.proofs.Shapes.{absent_is}

pub follows_at : (ts : Input) (k : ℕ) → kind ts ≡ k → may_follow k ≡ true → may_follow (kind ts) ≡ true
follows_at ts k e h = subst (λ (k : ℕ). may_follow k ≡ true) (sym e) h

-- what follows `return`, `break` and `continue` on their line
pub ends_at : (p : Bool) (c : Code) (m r : Input) → Ends (coded p c) plain_end m r → ((kind m == semicolon_kind) || ((kind m == right_brace_kind) || ((kind m == end_kind) || brk m))) ≡ true
ends_at p c m r (inl h) = or_left (kind m == semicolon_kind) _ (eq-eqb (kind m) semicolon_kind h.0)
ends_at p c m r (inr h) = or_right (kind m == semicolon_kind) _ (⊎_elim (λ q. or_left (kind m == right_brace_kind) _ q) (λ q. or_right (kind m == right_brace_kind) _
    (⊎_elim (λ q. or_left (kind m == end_kind) _ q) (λ q. or_right (kind m == end_kind) _ (and_parts (brk m) _ q).0) (or_cases (kind m == end_kind) _ q))) (or_cases (kind m == right_brace_kind) _ h.1))

goes_at : (m : Input) → opens (kind m) ≡ true → brk m ≡ false → ((kind m == semicolon_kind) || ((kind m == right_brace_kind) || ((kind m == end_kind) || brk m))) ≡ false
goes_at m o b = or_from (kind m == semicolon_kind) _ (no_open (kind m) semicolon_kind o refl) (or_from (kind m == right_brace_kind) _ (no_open (kind m) right_brace_kind o refl) (or_from (kind m == end_kind) _ (no_open (kind m) end_kind o refl) b))

-- a statement as a part of another one
sub_allowed : (f : Bool) (c : Code) (t : Tree) → (is_statement t || (f && (not (is_strict c) && is_plain_function t))) ≡ true → (is_statement t || is_plain_function t) ≡ true
sub_allowed f c t h = ⊎_elim (λ q. or_left (is_statement t) _ q) (λ q. or_right (is_statement t) _ (and_parts (not (is_strict c)) _ (and_parts f _ q).1).1) (or_cases (is_statement t) _ h)

-- a name, after which reading goes on with it
pub then_ident : {A : Type 0} (p : Bool) (c : Code) (t : Tree) (m n : Input) (k : List ℕ) (f : List ℕ × State Input → Result (A × State Input) Fault) (W : A × State Input → Type 0) (Q : Type 0) → is_ident t ≡ true → Produces t (coded p c) m n
    → ((x : List ℕ) → t ≡ ident (first_span m) x → Reads (from n k) (f (x, from n k)) W Q) → Reads (from m k) (name lm c (from m k) >>= f) W Q
then_ident p c t m n k f W Q i h g = let y = ident_is t (coded p c) m n i h in then_name c m n y.0 k f W Q y.2 y.3 y.4 (g y.0 y.1)

module _ (z : Nested) (p : Bool) (c : Code) where
  -- ---- parts

  pub one_found : (e : Tree) (m n : Input) (k : List ℕ) → z.Covered e → 1 ≤ level e → Produces e (coded p c) m n → Follow c (ends e) 1 n → Reads (from m k) (z.inner.expr c expression_level (from m k)) (Is e n) (z.depth < z.reach e)
  one_found e m n k g le h f = z.expr e p c 1 m n k g h (omega arith) (omega arith) one_asked le f

  pub parens_found : (e : Tree) (m n : Input) (k : List ℕ) → z.Covered e → InParens (coded p c) (child e (λ y. Produces e y)) m n → Reads (from m k) (in_parens lm z.inner c (from m k)) (Is e n) (z.depth < z.reach e)
  unfolding in_parens
  parens_found e m n k g h = then_eat left_paren_kind m h.0 k _ _ _ h.2.0 h.2.2 (then_is (z.inner.expr c expression_level (from h.0 k)) _ e h.1 (z.depth < z.reach e) _ _
      (one_found e h.0 h.1 k g h.3.0 h.3.1 (halted c (ends e) 1 right_paren_kind h.1 h.4.0 refl refl (λ _. refl) (omega arith))) (λ u. u) (λ j. then_eat right_paren_kind h.1 n j _ _ _ h.4.0 h.4.2 (here refl)))

  sub_found : (f : Bool) (t : Tree) (m n : Input) (k : List ℕ) → z.Covered t → (is_statement t || (f && (not (is_strict c) && is_plain_function t))) ≡ true → Produces t (coded p (alone c)) m n → leaves c.context t n ≡ true
      → Reads (from m k) (sub_by lm z.inner c f (from m k)) (Is t n) (z.depth < z.reach t)
  unfolding sub_by
  sub_found f t m n k g a h q = then_is (z.inner.stmt (alone c) (from m k)) _ t n (z.depth < z.reach t) _ _ (z.stmt t p (alone c) m n k g (sub_allowed f c t a) h q) (λ u. u) (λ j. if_yes (is_statement t || (f && (not (is_strict c) && is_plain_function t))) _ _ _ _ a (here refl))

  pub stmt_found : (t : Tree) (m n : Input) (k : List ℕ) → z.Covered t → Sub (coded p c) (child t (λ y. Produces t y)) m n → leaves c.context t n ≡ true → Reads (from m k) (sub_by lm z.inner c false (from m k)) (Is t n) (z.depth < z.reach t)
  stmt_found t m n k g h q = sub_found false t m n k g (or_left (is_statement t) _ h.0) h.1 q

  pub either_found : (t : Tree) (m n : Input) (k : List ℕ) → z.Covered t → SubOrFunction (coded p c) (child t (λ y. Produces t y)) m n → leaves c.context t n ≡ true → Reads (from m k) (sub_by lm z.inner c true (from m k)) (Is t n) (z.depth < z.reach t)
  either_found t m n k g h q = sub_found true t m n k g h.0 h.1 q

  -- what stands on the line of `break` and `continue`
  label_found : (l : Tree) (m n r : Input) (k : List ℕ) (Q : Type 0) → By (is_absent l) (m ≡ n) ((brk m ≡ false) × Sorted is_ident (coded p c) (child l (λ y. Produces l y)) m n) → Ends (coded p c) plain_end n r → Reads (from m k) (label_by lm z.inner c (from m k)) (Is l n) Q
  unfolding label_by
  label_found l m n r k Q h e = by_cases (is_absent l) _ _ _ h
      (λ q x. if_yes (ends_here lm z.inner c (from m k)) _ _ _ _ (ends_at p c m r (subst (λ (y : Input). Ends (coded p c) plain_end y r) (sym x) e)) (ended (absent, from m k) (Is l n) Q (sym (absent_is l q), x)))
      (λ q x. let y = ident_is l (coded p c) m n x.1.0 x.1.1 in if_no (ends_here lm z.inner c (from m k)) _ _ _ _ (goes_at m (may_opens (kind m) (name_may c m y.2)) x.0)
      (then_ident p c l m n k _ _ _ x.1.0 x.1.1 (λ v w. here (sym w))))

  module _ (ts : Input) (k : List ℕ) (r : Input) where
    -- ---- `debugger`, `return`, `throw`, `break`, `continue`

    pub debugger_found : (s : Span) (Q : Type 0) → Produces (debugger_stmt s) (coded p c) ts r → Reads (from ts k) (debugger_by lm z.inner c (from ts k)) (Is (debugger_stmt s) r) Q
    unfolding debugger_by
    debugger_found s Q h = then_word c debugger_kind ts h.0 k _ _ _ h.1.0 h.1.1 h.1.3 (then_end p c plain_end h.0 r k _ _ _ h.2 (built (λ y. debugger_stmt y) s ts r k Q h.3))

    return_bare : (s : Span) (m : Input) (Q : Type 0) → kind ts ≡ return_kind → barred c.context ts ≡ false → rest ts ≡ m → Ends (coded p c) plain_end m r → s ≡ span (lo ts) r.last → Reads (from ts k) (return_by lm z.inner c (from ts k)) (Is (return_stmt s absent) r) Q
    unfolding return_by
    return_bare s m Q a b q e h = then_word c return_kind ts m k _ _ _ a b q (if_yes (ends_here lm z.inner c (from m k)) _ _ _ _ (ends_at p c m r e) (then_end p c plain_end m r k _ _ _ e (built (λ y. return_stmt y absent) s ts r k Q h)))

    return_value : (s : Span) (e : Tree) (m n : Input) → z.Covered e → kind ts ≡ return_kind → barred c.context ts ≡ false → rest ts ≡ m → brk m ≡ false → 1 ≤ level e → Produces e (coded p c) m n → Ends (coded p c) (ends e) n r → s ≡ span (lo ts) r.last
        → Reads (from ts k) (return_by lm z.inner c (from ts k)) (Is (return_stmt s e) r) (z.depth < z.reach e)
    unfolding return_by
    return_value s e m n g a b q l le x d h = then_word c return_kind ts m k _ _ _ a b q (if_no (ends_here lm z.inner c (from m k)) _ _ _ _ (goes_at m (opening e (coded p c) m n (level_opener e le) x).first l)
        (then_is (z.inner.expr c expression_level (from m k)) _ e n (z.depth < z.reach e) _ _ (one_found e m n k g le x (end_follows p c (ends e) n r d (ends_two e))) (λ u. u)
        (λ j. then_end p c (ends e) n r j _ _ _ d (built (λ y. return_stmt y e) s ts r j _ h))))

    pub return_found : (s : Span) (e : Tree) → Within z.Covered (return_stmt s e) → Produces (return_stmt s e) (coded p c) ts r → Reads (from ts k) (return_by lm z.inner c (from ts k)) (Is (return_stmt s e) r) (z.depth < within z.reach (return_stmt s e))
    return_found s e g h = by_cases (is_absent e) _ _ _ h.2
        (λ q x. subst (λ (e : Tree). Reads (from ts k) (return_by lm z.inner c (from ts k)) (Is (return_stmt s e) r) (z.depth < z.reach e)) (sym (absent_is e q)) (return_bare s h.0 (z.depth < z.reach absent) h.1.0 h.1.1 h.1.3 x h.3))
        (λ q x. return_value s e h.0 x.0 g h.1.0 h.1.1 h.1.3 x.1 x.2.0 x.2.1 x.3 h.3)

    pub throw_found : (s : Span) (e : Tree) → Within z.Covered (throw_stmt s e) → Produces (throw_stmt s e) (coded p c) ts r → Reads (from ts k) (throw_by lm z.inner c (from ts k)) (Is (throw_stmt s e) r) (z.depth < within z.reach (throw_stmt s e))
    unfolding throw_by
    throw_found s e g h = then_word c throw_kind ts h.0 k _ _ _ h.2.0 h.2.1 h.2.3 (if_no (brk h.0) _ _ _ _ h.3
        (then_is (z.inner.expr c expression_level (from h.0 k)) _ e h.1 (z.depth < z.reach e) _ _ (one_found e h.0 h.1 k g h.4.0 h.4.1 (end_follows p c (ends e) h.1 r h.5 (ends_two e))) (λ u. u)
        (λ j. then_end p c (ends e) h.1 r j _ _ _ h.5 (built (λ y. throw_stmt y e) s ts r j _ h.6))))

    pub jump_found : (word : ℕ) (make : Span → Tree → Tree) (s : Span) (l : Tree) (Q : Type 0) → Jump word (coded p c) s (child l (λ y. Produces l y)) ts r → Reads (from ts k) (jump_by lm z.inner word make c (from ts k)) (Is (make s l) r) Q
    unfolding jump_by
    jump_found word make s l Q h = then_word c word ts h.0 k _ _ _ h.2.0 h.2.1 h.2.3 (then_is (label_by lm z.inner c (from h.0 k)) _ l h.1 Q _ _ (label_found l h.0 h.1 r k Q h.3 h.4) (λ u. u)
        (λ j. then_end p c plain_end h.1 r j _ _ _ h.4 (built (λ y. make y l) s ts r j Q h.5)))

    -- ---- statements with parts that are statements

    pub with_found : (s : Span) (e b : Tree) → Within z.Covered (with_stmt s e b) → Produces (with_stmt s e b) (coded p c) ts r → leaves c.context b r ≡ true → Reads (from ts k) (with_by lm z.inner c (from ts k)) (Is (with_stmt s e b) r) (z.depth < within z.reach (with_stmt s e b))
    unfolding with_by
    with_found s e b g h q = then_word c with_kind ts h.0 k _ _ _ h.2.0 h.2.1 h.2.3 (then_is (in_parens lm z.inner c (from h.0 k)) _ e h.1 (z.depth < z.reach e) _ _ (parens_found e h.0 h.1 k g.0 h.3) (λ u. omega arith)
        (λ j. then_is (sub_by lm z.inner c false (from h.1 j)) _ b r (z.depth < z.reach b) _ _ (stmt_found b h.1 r j g.1 h.4 q) (λ u. omega arith) (λ i. built (λ y. with_stmt y e b) s ts r i _ h.5)))

    pub while_found : (s : Span) (e b : Tree) → Within z.Covered (while_stmt s e b) → Produces (while_stmt s e b) (coded p c) ts r → leaves c.context b r ≡ true → Reads (from ts k) (while_by lm z.inner c (from ts k)) (Is (while_stmt s e b) r) (z.depth < within z.reach (while_stmt s e b))
    unfolding while_by
    while_found s e b g h q = then_word c while_kind ts h.0 k _ _ _ h.2.0 h.2.1 h.2.3 (then_is (in_parens lm z.inner c (from h.0 k)) _ e h.1 (z.depth < z.reach e) _ _ (parens_found e h.0 h.1 k g.0 h.3) (λ u. omega arith)
        (λ j. then_is (sub_by lm z.inner c false (from h.1 j)) _ b r (z.depth < z.reach b) _ _ (stmt_found b h.1 r j g.1 h.4 q) (λ u. omega arith) (λ i. built (λ y. while_stmt y e b) s ts r i _ h.5)))

    pub do_found : (s : Span) (e b : Tree) → Within z.Covered (do_while_stmt s e b) → Produces (do_while_stmt s e b) (coded p c) ts r → Reads (from ts k) (do_by lm z.inner c (from ts k)) (Is (do_while_stmt s e b) r) (z.depth < within z.reach (do_while_stmt s e b))
    unfolding do_by
    do_found s e b g h = then_word c do_kind ts h.0 k _ _ _ h.4.0 h.4.1 h.4.3 (then_is (sub_by lm z.inner c false (from h.0 k)) _ b h.1 (z.depth < z.reach b) _ _ (stmt_found b h.0 h.1 k g.1 h.5 (follows c.context b h.1 (follows_at h.1 while_kind h.6.0 refl))) (λ u. omega arith)
        (λ j. then_word c while_kind h.1 h.2 j _ _ _ h.6.0 h.6.1 h.6.3 (then_is (in_parens lm z.inner c (from h.2 j)) _ e h.3 (z.depth < z.reach e) _ _ (parens_found e h.2 h.3 j g.0 h.7) (λ u. omega arith)
        (λ i. closing h.8 i))))
      where
        closing : Takes (coded p c) semicolon_kind h.3 r ⊎ ((kind h.3 ≡ semicolon_kind → ⊥) × (h.3 ≡ r)) → (i : List ℕ)
            → Reads (from h.3 i) (cond (kind h.3 == semicolon_kind) (Ok (do_while_stmt (span (lo ts) (rest h.3).last) e b, from (rest h.3) i)) (Ok (do_while_stmt (span (lo ts) h.3.last) e b, from h.3 i))) (Is (do_while_stmt s e b) r) (z.depth < within z.reach (do_while_stmt s e b))
        closing (inl x) i = if_yes (kind h.3 == semicolon_kind) _ _ _ _ (eq-eqb (kind h.3) semicolon_kind x.0) (past_here (ap (λ (y : Input). do_while_stmt (span (lo ts) y.last) e b) x.2 ∙ ap (λ (y : Span). do_while_stmt y e b) (sym h.9)) x.2)
        closing (inr x) i = if_no (kind h.3 == semicolon_kind) _ _ _ _ (ne_eqb (kind h.3) semicolon_kind x.0)
            (ended (do_while_stmt (span (lo ts) h.3.last) e b, from h.3 i) (Is (do_while_stmt s e b) r) _ (ap (λ (y : Input). do_while_stmt (span (lo ts) y.last) e b) x.1 ∙ ap (λ (y : Span). do_while_stmt y e b) (sym h.9), x.1))

    pub labelled_found : (s : Span) (l b : Tree) (m : Input) (j : List ℕ) → z.Covered b → (n : Input) → kind m ≡ colon_kind → rest m ≡ n → SubOrFunction (coded p c) (child b (λ y. Produces b y)) n r → s ≡ span (lo ts) r.last → leaves c.context b r ≡ true
        → Reads (from m j) (labelled_by lm z.inner c (lo ts) l (from m j)) (Is (labeled_stmt s l b) r) (z.depth < z.reach b)
    unfolding labelled_by
    labelled_found s l b m j g n e t h w q = then_past m n j (sub_by lm z.inner c true) _ b r (z.depth < z.reach b) _ _ t (either_found b n r j g h q) (λ u. u) (λ i. built (λ y. labeled_stmt y l b) s ts r i _ w)
