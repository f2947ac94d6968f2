-- Where a block comment ends.
use Rattle.std.proofs.Common.{◌≡◌, ◌≢◌, ℕ, ⊎_elim, true, false, cond, ◌&&◌, List, [], ◌∷◌, ◌++◌, refl, sym, ap, subst, ◌∙◌, append_assoc, append-nil, arith}
use Rattle.std.specs.Prelude.{◌==◌, None, Some}
use Rattle.std.proofs.lemmas.Bool.{cases_Bool, false≢true, and_parts, eqb-true}
use Rattle.std.proofs.lemmas.Bool.Decides.{nat_tests}
use Rattle.std.proofs.lemmas.Option.{same_Some}
use Rattle.lex_pieces.specs.Runs.{Each, Passed}
use Rattle.lex_pieces.specs.Classes.{is_no_star}
use Rattle.lex_pieces.specs.Comments.{NoEnd, IsBlock, is_end, tail, before_end, past_end}

-- No `*/` begins in what stands before the rest.
pub record Unended (cs rest : List ℕ) : Type 0 where
  pub front : List ℕ
  pub whole : cs ≡ front ++ rest
  pub before : before_end cs ≡ front ++ before_end rest
  pub past : past_end cs ≡ past_end rest

pub unended_none : (cs : List ℕ) → Unended cs cs
unended_none cs = record { front = []; whole = refl; before = refl; past = refl }

pub unended_cons : (c : ℕ) (cs rest : List ℕ) → is_end c cs ≡ false → Unended cs rest → Unended (c ∷ cs) rest
unended_cons c cs rest e h = record {
  front = c ∷ h.front;
  whole = ap (λ (l : List ℕ). c ∷ l) h.whole;
  before = ap (λ t. cond t [] (c ∷ before_end cs)) e ∙ ap (λ (l : List ℕ). c ∷ l) h.before;
  past = ap (λ t. cond t (Some (tail cs)) (past_end cs)) e ∙ h.past;
}

pub unended_then : (cs mid rest : List ℕ) → Unended cs mid → Unended mid rest → Unended cs rest
unended_then cs mid rest h k = record {
  front = h.front ++ k.front;
  whole = h.whole ∙ ap (λ l. h.front ++ l) k.whole ∙ sym (append_assoc h.front k.front rest);
  before = h.before ∙ ap (λ l. h.front ++ l) k.before ∙ sym (append_assoc h.front k.front (before_end rest));
  past = h.past ∙ k.past;
}

no_end_unless_star : (c : ℕ) (cs : List ℕ) → (c == 42) ≡ false → is_end c cs ≡ false
no_end_unless_star c [] e = refl
no_end_unless_star c (d ∷ ds) e = ap (λ t. t && (d == 47)) e

no_star : (c : ℕ) → is_no_star c ≡ true → (c == 42) ≡ false
no_star c h = grind (arith, nat_tests)

each_unended : (front rest : List ℕ) → Each is_no_star front → Unended (front ++ rest) rest
each_unended [] rest h = unended_none rest
each_unended (c ∷ cs) rest h =
    unended_cons c (cs ++ rest) rest (no_end_unless_star c (cs ++ rest) (no_star c h.0)) (each_unended cs rest h.1)

pub passed_unended : (cs rest : List ℕ) → Passed is_no_star cs rest → Unended cs rest
passed_unended cs rest h = subst (λ l. Unended l rest) (sym h.whole) (each_unended h.front rest h.each)

-- a character that is no star, or a star before no slash
pub more_unended : (cs rest mid more : List ℕ) (c : ℕ) → Unended cs rest → rest ≡ c ∷ mid → is_end c mid ≡ false → Passed is_no_star mid more → Unended cs more
more_unended cs rest mid more c h e t k =
    unended_then cs rest more h (subst (λ l. Unended l more) (sym e) (unended_cons c mid more t (passed_unended mid more k)))

pub no_end_before : (c : ℕ) (cs : List ℕ) → ((rest : List ℕ) → cs ≢ 47 ∷ rest) → is_end c cs ≡ false
no_end_before c [] h = refl
no_end_before c (d ∷ ds) h = ⊎_elim
    (λ (e : (d == 47) ≡ true). absurd (h ds (ap (λ (x : ℕ). x ∷ ds) (eqb-true d 47 e))))
    (λ (e : (d == 47) ≡ false). grind (arith, nat_tests))
    (cases_Bool (d == 47))

pub no_end_other : (c : ℕ) (cs : List ℕ) → c ≢ 42 → is_end c cs ≡ false
no_end_other c cs e = no_end_unless_star c cs (grind (arith, nat_tests))

-- ---- the functions are the definitions

is_end_here : (cs rest : List ℕ) (c : ℕ) → is_end c cs ≡ true → (c ∷ cs ≡ 42 ∷ 47 ∷ tail cs)
is_end_here [] rest c e = absurd (false≢true e)
is_end_here (d ∷ ds) rest c e =
    let parts = and_parts (c == 42) (d == 47) e in
    rw (eqb-true c 42 parts.0) (rw (eqb-true d 47 parts.1) refl)

head_same : (c d : ℕ) (cs ds : List ℕ) → c ∷ cs ≡ d ∷ ds → (c ≡ d) × (cs ≡ ds)
head_same c d cs ds e = (cc, cc)

-- where the characters have no end, they have none after the first
pub no_end_tail : (c : ℕ) (cs : List ℕ) → is_end c cs ≡ false → NoEnd cs → NoEnd (c ∷ cs)
no_end_tail c cs e h [] rest s =
    let parts = head_same c 42 cs (47 ∷ rest) s in
    let there : is_end c cs ≡ true = rw parts.0 (rw parts.1 refl) in
    false≢true (sym e ∙ there)
no_end_tail c cs e h (x ∷ xs) rest s = h xs rest (head_same c x cs (xs ++ 42 ∷ 47 ∷ rest) s).1

pub no_end_nil : NoEnd []
no_end_nil [] rest s = cc
no_end_nil (x ∷ xs) rest s = cc

pub none_past : (cs : List ℕ) → past_end cs ≡ None → NoEnd cs
none_past [] e = no_end_nil
none_past (c ∷ cs) e = ⊎_elim
    (λ (t : is_end c cs ≡ true). absurd (let s = sym (ap (λ b. cond b (Some (tail cs)) (past_end cs)) t) ∙ e in cc))
    (λ (t : is_end c cs ≡ false). no_end_tail c cs t (none_past cs (sym (ap (λ b. cond b (Some (tail cs)) (past_end cs)) t) ∙ e)))
    (cases_Bool (is_end c cs))

here : (c : ℕ) (cs : List ℕ) → is_end c cs ≡ true → (before_end (c ∷ cs) ≡ []) × (past_end (c ∷ cs) ≡ Some (tail cs))
here c cs t = (ap (λ b. cond b [] (c ∷ before_end cs)) t, ap (λ b. cond b (Some (tail cs)) (past_end cs)) t)

later : (c : ℕ) (cs : List ℕ) → is_end c cs ≡ false → (before_end (c ∷ cs) ≡ c ∷ before_end cs) × (past_end (c ∷ cs) ≡ past_end cs)
later c cs t = (ap (λ b. cond b [] (c ∷ before_end cs)) t, ap (λ b. cond b (Some (tail cs)) (past_end cs)) t)

-- what is before an end has none
no_end_cons : (c : ℕ) (cs rest : List ℕ) → is_end c cs ≡ false → IsBlock cs (before_end cs) rest → NoEnd (c ∷ before_end cs)
no_end_cons c cs rest t k [] more s =
    let parts = head_same c 42 (before_end cs) (47 ∷ more) s in
    let whole : cs ≡ 47 ∷ (more ++ 42 ∷ 47 ∷ rest) = k.0 ∙ ap (λ (l : List ℕ). l ++ 42 ∷ 47 ∷ rest) parts.1 in
    let there : is_end c cs ≡ true = rw parts.0 (rw whole refl) in
    false≢true (sym t ∙ there)
no_end_cons c cs rest t k (x ∷ xs) more s = k.1 xs more (head_same c x (before_end cs) (xs ++ 42 ∷ 47 ∷ more) s).1

pub some_past : (cs rest : List ℕ) → past_end cs ≡ Some rest → IsBlock cs (before_end cs) rest
some_past [] rest e = cc
some_past (c ∷ cs) rest e = ⊎_elim
    (λ (t : is_end c cs ≡ true).
    let h = here c cs t in
    let r : tail cs ≡ rest = same_Some (tail cs) rest (sym h.1 ∙ e) in
    rw h.0 (is_end_here cs rest c t ∙ ap (λ (l : List ℕ). 42 ∷ 47 ∷ l) r, no_end_nil))
    (λ (t : is_end c cs ≡ false).
    let h = later c cs t in
    let k = some_past cs rest (sym h.1 ∙ e) in
    rw h.0 (ap (λ (l : List ℕ). c ∷ l) k.0, no_end_cons c cs rest t k))
    (cases_Bool (is_end c cs))

-- ---- and the other way

no_end_seam : (c : ℕ) (cs rest : List ℕ) → NoEnd (c ∷ cs) → is_end c (cs ++ 42 ∷ 47 ∷ rest) ≡ false
no_end_seam c [] rest h = grind (arith, nat_tests)
no_end_seam c (d ∷ ds) rest h = ⊎_elim
    (λ (t : is_end c (d ∷ ds) ≡ true). absurd (h [] ds (is_end_here (d ∷ ds) ds c t)))
    (λ (t : is_end c (d ∷ ds) ≡ false). t)
    (cases_Bool (is_end c (d ∷ ds)))

pub block_cut : (own rest : List ℕ) → NoEnd own → (before_end (own ++ 42 ∷ 47 ∷ rest) ≡ own) × (past_end (own ++ 42 ∷ 47 ∷ rest) ≡ Some rest)
block_cut [] rest h = (refl, refl)
block_cut (c ∷ cs) rest h =
    let k = block_cut cs rest (λ own more s. h (c ∷ own) more (ap (λ (l : List ℕ). c ∷ l) s)) in
    let t : is_end c (cs ++ 42 ∷ 47 ∷ rest) ≡ false = no_end_seam c cs rest h in
    let w = later c (cs ++ 42 ∷ 47 ∷ rest) t in
    (w.0 ∙ ap (λ (l : List ℕ). c ∷ l) k.0, w.1 ∙ k.1)

pub no_end_past : (cs : List ℕ) → NoEnd cs → past_end cs ≡ None
no_end_past [] h = refl
no_end_past (c ∷ cs) h = ⊎_elim
    (λ (t : is_end c cs ≡ true). absurd (h [] (tail cs) (is_end_here cs cs c t)))
    (λ (t : is_end c cs ≡ false). (later c cs t).1 ∙ no_end_past cs (λ own more s. h (c ∷ own) more (ap (λ (l : List ℕ). c ∷ l) s)))
    (cases_Bool (is_end c cs))

-- an end after what has none
pub closes : (cs rest more : List ℕ) (h : Unended cs rest) → rest ≡ 42 ∷ 47 ∷ more → IsBlock cs h.front more
closes cs rest more h e =
    let own : before_end cs ≡ h.front = h.before ∙ ap (λ l. h.front ++ before_end l) e ∙ append-nil h.front in
    let past : past_end cs ≡ Some more = h.past ∙ ap past_end e in
    subst (λ l. IsBlock cs l more) own (some_past cs more past)

pub never_closes : (cs rest : List ℕ) → Unended cs rest → rest ≡ [] → NoEnd cs
never_closes cs rest h e = none_past cs (h.past ∙ ap past_end e)
