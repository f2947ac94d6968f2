-- What may follow an expression, and what ends a statement.
use Rattle.std.proofs.Common.{◌≡◌, ℕ, zero, suc, ◌≤◌, inl, inr, Bool, true, false, not, ◌&&◌, ◌||◌, ◌==◌, cond, eqb, leb, List, Result, Ok, Err, refl, sym, ap, ◌∙◌, subst, ⊎_elim, true≢false, arith}
use Rattle.std.proofs.lemmas.Bool.{eqb-true, ne_eqb, eq-eqb, le-leb, or_cases, or_left, or_parts, and_parts, and_right, not-true}
use Rattle.base_proofs.proofs.Bools.{cond_second}
use Rattle.base_token.specs.declared.place.Span.{Span}
use Rattle.base_token.specs.Kinds.{end_kind, comma_kind, semicolon_kind, right_brace_kind, let_kind, left_paren_kind, left_bracket_kind, dot_kind, back_quote_kind, question_mark_kind, regex_kind, arrow_kind}
use Rattle.tree_spec.specs.Tree.{Tree, Trees, none, more, ident, unary_expr, update_expr, await_expr, bin_expr, cond_expr, assign_expr, arrow_expr, yield_expr, seq_expr}
use Rattle.grammar_spec.specs.Tokens.Input.{Input, Code, kind, brk, lo, span}
use Rattle.grammar_spec.specs.Tokens.Operators.{goes_expr, goes_on, pauses, operates, is_assign_op, between, let_end}
use Rattle.grammar_spec.specs.Tokens.Shape.{ends, last_ends, is_name, is_block, is_absent}
use Rattle.grammar_spec.specs.Children.{Ends}
use Rattle.grammar_spec.specs.Statements.{statement_end}
use Rattle.grammar_spec.specs.Reader.Source.{Fault, Unexpected, TooDeep, ◌>>=◌, State, end_of}
use Rattle.grammar_laws.proofs.complete_base.Yields.{lm, from, coded, Yields, After, Reads, Is, onto, here}
use Rattle.grammar_laws.proofs.complete_base.Levels.{Follow, sober, quiet, sober_by, ends_operand, quits_by, arrowed, calm_by}

-- ---- expressions

-- a token with which nothing goes on, where `in` is barred too, and no `=>`
abbrev pub halts : Code → ℕ → Bool
halts c k = not (k == comma_kind) && (not (is_assign_op k) && (not (k == question_mark_kind) && (not (operates c k) && (not (k == regex_kind) && (not (between 20 21 k) && (not (k == left_paren_kind)
    && (not ((k == left_bracket_kind) || ((k == dot_kind) || (k == back_quote_kind))) && not (k == arrow_kind))))))))

cond_any : (b : Bool) (y : ℕ) → y ≡ 0 → cond b 0 y ≡ 0
cond_any true y h = refl
cond_any false y h = h

without : (x y : Bool) → (not x && y) ≡ true → (x ≡ false) × (y ≡ true)
without true y h = absurd (true≢false (sym h))
without false y h = (refl, h)

pub goes_nowhere : (c : Code) (e : ℕ) (m : Input) → halts c (kind m) ≡ true → goes_expr c e m ≡ 0
goes_nowhere c e m h =
    let k = kind m in
    let a = without (k == comma_kind) _ h in let b = without (is_assign_op k) _ a.1 in let d = without (k == question_mark_kind) _ b.1 in let f = without (operates c k) _ d.1 in let g = without (k == regex_kind) _ f.1 in
    let i = without (between 20 21 k) _ g.1 in let j = without (k == left_paren_kind) _ i.1 in let l = without ((k == left_bracket_kind) || ((k == dot_kind) || (k == back_quote_kind))) _ j.1 in
    cond_second (k == comma_kind) _ _ _ a.0 (cond_any (leb 2 e) _ (cond_second (is_assign_op k) _ _ _ b.0 (cond_second (k == question_mark_kind) _ _ _ d.0 (cond_second (operates c k) _ _ _ f.0 (cond_second (k == regex_kind) _ _ _ g.0
    (cond_any (leb 1 e) _ (cond_second (between 20 21 k) _ _ _ i.0 (cond_second (k == left_paren_kind) _ _ _ j.0 (cond_second ((k == left_bracket_kind) || ((k == dot_kind) || (k == back_quote_kind))) _ _ _ l.0 refl)))))))))

-- nor on the next line
pub calm_line : (m : Input) → brk m ≡ true → arrowed m ≡ false
calm_line m b = and_right (kind m == arrow_kind) _ (ap not b)

halts_calm : (c : Code) (k : ℕ) → halts c k ≡ true → eqb k arrow_kind ≡ false
halts_calm c k h = ne_eqb k arrow_kind (λ e. true≢false (sym h ∙ ap (halts c) e))

-- a token that goes on with nothing and is neither a name nor `function` ends any expression
pub halted : (c : Code) (e l k : ℕ) (m : Input) → kind m ≡ k → halts c k ≡ true → quiet k ≡ true → (2 ≤ e → ends_operand k ≡ true) → 1 ≤ l → Follow c e l m
halted c e l k m q h s d le = let z : goes_expr c e m ≡ 0 = goes_nowhere c e m (subst (λ (k : ℕ). halts c k ≡ true) (sym q) h) in record { stop = omega arith; calm = λ _ _. calm_by k m q (halts_calm c k h); sober = sober_by c k m q s; quits = λ u. quits_by k m q (d u) }

-- ---- ends of statements

mutual
  pub ends_two : (t : Tree) → ends t ≤ 2
  ends_two (update_expr s op true a) = ends_two a
  ends_two (update_expr s op false a) = omega arith
  ends_two (unary_expr s op a) = ends_two a
  ends_two (await_expr s a) = ends_two a
  ends_two (bin_expr s op a b) = ends_two b
  ends_two (cond_expr s a b d) = ends_two d
  ends_two (assign_expr s op a b) = ends_two b
  ends_two (arrow_expr s ps b i) = two_of (is_block b) 2 (ends b) (omega arith) (ends_two b)
    where
      two_of : (x : Bool) (m n : ℕ) → m ≤ 2 → n ≤ 2 → cond x m n ≤ 2
      two_of true m n f g = f
      two_of false m n f g = g
  ends_two (yield_expr s a g) = two_of (is_absent a) 2 (ends a) (omega arith) (ends_two a)
    where
      two_of : (x : Bool) (m n : ℕ) → m ≤ 2 → n ≤ 2 → cond x m n ≤ 2
      two_of true m n f g = f
      two_of false m n f g = g
  ends_two (seq_expr s xs) = last_two xs
  ends_two _ = omega arith

  last_two : (ts : Trees) → last_ends ts ≤ 2
  last_two none = omega arith
  last_two (more t none) = ends_two t
  last_two (more t (more u ts)) = last_two (more u ts)

-- what pauses after an expression may follow it
paused : (c : Code) (e : ℕ) (m : Input) → ((brk m && not (goes_on c e m)) ≡ true → goes_expr c e m ≡ 0) → pauses c e m ≡ true → Follow c e 1 m
paused c e m f h = ⊎_elim (λ (q : eqb (kind m) right_brace_kind ≡ true). halted c e 1 right_brace_kind m (eqb-true (kind m) right_brace_kind q) refl refl (λ _. refl) (omega arith))
    (λ h. ⊎_elim (λ (q : eqb (kind m) end_kind ≡ true). halted c e 1 end_kind m (eqb-true (kind m) end_kind q) refl refl (λ _. refl) (omega arith))
    (λ (q : (brk m && not (goes_on c e m)) ≡ true). let z : goes_expr c e m ≡ 0 = f q in let b = (and_parts (brk m) _ q).0 in record { stop = omega arith; calm = λ _ _. calm_line m b; sober = or_left (brk m) _ b; quits = λ _. or_left (brk m) _ b })
    (or_cases (eqb (kind m) end_kind) _ h)) (or_cases (eqb (kind m) right_brace_kind) _ h)

zero_of : (n : ℕ) → leb 1 n ≡ false → n ≡ 0
zero_of zero h = refl
zero_of (suc n) h = absurd (true≢false (sym (le-leb 1 (suc n) (omega arith)) ∙ h))

pub low_goes : (c : Code) (e : ℕ) (m : Input) → e ≤ 2 → goes_on c e m ≡ false → goes_expr c e m ≡ 0
low_goes c e m le h = zero_of (goes_expr c e m) (sym (cond_yes_of (leb e 2) _ _ (le-leb e 2 le)) ∙ h)
  where
    cond_yes_of : (b x y : Bool) → b ≡ true → cond b x y ≡ x
    cond_yes_of true x y h = refl
    cond_yes_of false x y h = absurd (true≢false (sym h))

pub end_follows : (p : Bool) (c : Code) (e : ℕ) (m r : Input) → Ends (coded p c) e m r → e ≤ 2 → Follow c e 1 m
end_follows p c e m r (inl h) le = halted c e 1 semicolon_kind m h.0 refl refl (λ _. refl) (omega arith)
end_follows p c e m r (inr h) le = paused c e m (λ q. low_goes c e m le (not-true (goes_on c e m) (and_parts (brk m) _ q).1)) h.1

-- the one word `let` where a declaration may stand
let_goes : (c : Code) (m : Input) → goes_on c let_end m ≡ false → goes_expr c 0 m ≡ 0
let_goes c m h = zero_of (goes_expr c 0 m) (or_parts _ _ h).1

name_ends : (e : Tree) → is_name e ≡ true → ends e ≡ 0
name_ends (ident s m) h = refl
name_ends _ h = absurd (true≢false (sym h))

pub statement_follows : (p : Bool) (c : Code) (ts : Input) (e : Tree) (m r : Input) → Ends (coded p c) (statement_end (coded p c) ts e) m r → Follow c (ends e) 1 m
statement_follows p c ts e m r h = by_word (c.listed && ((kind ts == let_kind) && is_name e)) refl (ends e) h refl
  where
    paused_let : (not (goes_on c let_end m) ≡ true → goes_on c let_end m ≡ false) → pauses c let_end m ≡ true → Follow c 0 1 m
    paused_let f h = ⊎_elim (λ (q : eqb (kind m) right_brace_kind ≡ true). halted c 0 1 right_brace_kind m (eqb-true (kind m) right_brace_kind q) refl refl (λ _. refl) (omega arith))
        (λ h. ⊎_elim (λ (q : eqb (kind m) end_kind ≡ true). halted c 0 1 end_kind m (eqb-true (kind m) end_kind q) refl refl (λ _. refl) (omega arith))
        (λ (q : (brk m && not (goes_on c let_end m)) ≡ true). let y = and_parts (brk m) _ q in let z : goes_expr c 0 m ≡ 0 = let_goes c m (f y.1) in record { stop = omega arith; calm = λ _ _. calm_line m y.0; sober = or_left (brk m) _ y.0; quits = λ _. or_left (brk m) _ y.0 })
        (or_cases (eqb (kind m) end_kind) _ h)) (or_cases (eqb (kind m) right_brace_kind) _ h)

    of_let : (c.listed && ((kind ts == let_kind) && is_name e)) ≡ true → Ends (coded p c) let_end m r → Follow c (ends e) 1 m
    of_let q (inl h) = halted c (ends e) 1 semicolon_kind m h.0 refl refl (λ _. refl) (omega arith)
    of_let q (inr h) = let z = name_ends e (and_parts (kind ts == let_kind) _ (and_parts c.listed _ q).1).1 in
        subst (λ (n : ℕ). Follow c n 1 m) (sym z) (paused_let (not-true (goes_on c let_end m)) h.1)

    by_word : (b : Bool) → (c.listed && ((kind ts == let_kind) && is_name e)) ≡ b → (n : ℕ) → Ends (coded p c) (cond b let_end n) m r → n ≡ ends e → Follow c (ends e) 1 m
    by_word true q n h z = of_let q h
    by_word false q n h z = end_follows p c (ends e) m r (subst (λ (n : ℕ). Ends (coded p c) n m r) z h) (ends_two e)

-- ---- what ends a statement

pub then_end : {A : Type 0} (p : Bool) (c : Code) (e : ℕ) (m r : Input) (k : List ℕ) (f : State Input → Result (A × State Input) Fault) (W : A × State Input → Type 0) (Q : Type 0) → Ends (coded p c) e m r → Reads (from r k) (f (from r k)) W Q → Reads (from m k) (end_of lm c e (from m k) >>= f) W Q
unfolding end_of
then_end p c e m r k f W Q (inl h) y = rw (eq-eqb (kind m) semicolon_kind h.0) (onto m r k f W Q h.2 y)
then_end p c e m r k f W Q (inr h) y = rw (ne_eqb (kind m) semicolon_kind h.0, h.1) (subst (λ (z : Input). Reads (from z k) (f (from z k)) W Q) (sym h.2) y)

-- a node goes from the start of its first token to the end of its last
pub built : (f : Span → Tree) (s : Span) (ts r : Input) (j : List ℕ) (Q : Type 0) → s ≡ span (lo ts) r.last → Reads (from r j) (Ok (f (span (lo ts) r.last), from r j)) (Is (f s) r) Q
built f s ts r j Q e = here (ap f (sym e))

-- the same where more may be too deep
pub lifted : {A : Type 0} {s : State Input} {x : Result (A × State Input) Fault} {V : A × State Input → Type 0} {P Q : Type 0} → Reads s x V P → (P → Q) → Reads s x V Q
lifted {A = A} {s = s} {x = x} {V = V} {P = P} {Q = Q} h f = record { so = λ fr. onward x (h.so fr) }
  where
    onward : (y : Result (A × State Input) Fault) → Yields y (λ z. V z × After s z.1) P → Yields y (λ z. V z × After s z.1) Q
    onward (Ok z) v = record { so = v.so }
    onward (Err (Unexpected n)) v = absurd v.so
    onward (Err (TooDeep n)) v = record { so = f v.so }
