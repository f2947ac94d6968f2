-- Runs of characters that stand for themselves in a template.
use Rattle.std.proofs.Common.{◌≡◌, ℕ, ⊎_elim, Bool, true, false, cond, List, [], ◌∷◌, ◌++◌, append-nil, append_assoc, refl, sym, ap, subst, ◌∙◌, arith}
use Rattle.std.specs.Prelude.{Some, None, is_some, not, ◌&&◌, ◌==◌}
use Rattle.std.proofs.lemmas.Bool.{cases_Bool, false≢true}
use Rattle.std.proofs.lemmas.Bool.Decides.{nat_tests}
use Rattle.lex_pieces.specs.Runs.{Each, run, after}
use Rattle.lex_pieces.proofs.Passing.{after_more}
use Rattle.lex_literal.specs.Escapes.{begins}
use Rattle.lex_literal.specs.Reading.{lone_dollar}
use Rattle.lex_literal.specs.Stops.{passes}
use Rattle.lex_literal.specs.Templates.{is_bare, is_brace, bare_run, after_bare}
use Rattle.lex_literal.proofs.RunLemmas.{run_after, run_each, after_none}

-- the test of a bare character before others
abbrev goes : ℕ → List ℕ → Bool
goes c cs = is_bare c && not (c == 36 && begins is_brace cs)

-- The text is some bare characters, and then the rest.
pub record Ran (text rest : List ℕ) : Type 0 where
  pub front : List ℕ
  pub whole : text ≡ front ++ rest
  pub ran : bare_run text ≡ front ++ bare_run rest
  pub left : after_bare text ≡ after_bare rest

pub ran_none : (text : List ℕ) → Ran text text
ran_none text = record { front = []; whole = refl; ran = refl; left = refl }

ran_more : (text : List ℕ) (c : ℕ) (cs : List ℕ) → Ran text (c ∷ cs) → goes c cs ≡ true → Ran text cs
ran_more text c cs h e = record {
  front = h.front ++ c ∷ [];
  whole = h.whole ∙ sym (append_assoc h.front (c ∷ []) cs);
  ran = h.ran ∙ ap (λ t. h.front ++ cond t (c ∷ bare_run cs) []) e ∙ sym (append_assoc h.front (c ∷ []) (bare_run cs));
  left = h.left ∙ ap (λ t. cond t (after_bare cs) (c ∷ cs)) e;
}

passing : (c : ℕ) (b : Bool) → passes 96 92 36 c ≡ true → (is_bare c && not (c == 36 && b)) ≡ true
passing c b e =
    let f : is_bare c ≡ true = grind (arith, nat_tests) in
    let g : (c == 36) ≡ false = grind (arith, nat_tests) in
    ap (λ t. t && not (c == 36 && b)) f ∙ ap (λ t. not (t && b)) g

ran_all : (text xs r : List ℕ) → Ran text (xs ++ r) → Each (passes 96 92 36) xs → Ran text r
ran_all text [] r h e = h
ran_all text (c ∷ xs) r h e = ran_all text xs r (ran_more text c (xs ++ r) h (passing c (begins is_brace (xs ++ r)) e.0)) e.1

pub ran_run : (text rest more : List ℕ) → Ran text rest → more ≡ after (passes 96 92 36) rest → Ran text more
ran_run text rest more h e =
    subst (Ran text) (sym e)
    (ran_all text (run (passes 96 92 36) rest) (after (passes 96 92 36) rest) (subst (Ran text) (run_after (passes 96 92 36) rest) h) (run_each (passes 96 92 36) rest))

lone : (c : ℕ) (b : Bool) → (c == 36 && not b) ≡ true → (is_bare c && not (c == 36 && b)) ≡ true
lone c b e =
    let f : (c == 36) ≡ true = grind (arith, nat_tests) in
    let at : c ≡ 36 = grind (arith, nat_tests) in
    let g : b ≡ false = second (c == 36) b f e in
    ap (λ x. is_bare x && not (x == 36 && b)) at ∙ ap (λ t. not t) g
  where
    second : (a b : Bool) → a ≡ true → (a && not b) ≡ true → b ≡ false
    second true true h e = absurd (false≢true e)
    second true false h e = refl
    second false b h e = absurd (false≢true h)

pub ran_dollar : (text rest more : List ℕ) → Ran text rest → Some more ≡ lone_dollar rest → Ran text more
ran_dollar text [] more h e = absurd (false≢true (sym (ap is_some e)))
ran_dollar text (c ∷ cs) more h e = ⊎_elim
    (λ (t : (c == 36 && not (begins is_brace cs)) ≡ true).
    let same : Some more ≡ Some cs = e ∙ ap (λ b. cond b (Some cs) None) t in
    subst (Ran text) (sym (some_same same)) (ran_more text c cs h (lone c (begins is_brace cs) t)))
    (λ (t : (c == 36 && not (begins is_brace cs)) ≡ false).
    let none : Some more ≡ None = e ∙ ap (λ b. cond b (Some cs) None) t in absurd (false≢true (sym (ap is_some none))))
    (cases_Bool (c == 36 && not (begins is_brace cs)))
  where
    some_same : {a b : List ℕ} → Some a ≡ Some b → a ≡ b
    some_same {a} {b} e = cc

stopped : (c : ℕ) (b : Bool) → passes 96 92 36 c ≡ false → (c == 36 && not b) ≡ false → (is_bare c && not (c == 36 && b)) ≡ false
stopped c true e f = grind (arith, nat_tests)
stopped c false e f = grind (arith, nat_tests)

-- no bare character comes next
pub record Done (rest : List ℕ) : Type 0 where
  pub none : bare_run rest ≡ []
  pub all : after_bare rest ≡ rest

pub done : (rest before : List ℕ) → rest ≡ after (passes 96 92 36) before → None ≡ lone_dollar rest → Done rest
done [] before e n = record { none = refl; all = refl }
done (c ∷ cs) before e n =
    let p = first_stops before c cs e in
    let d : (c == 36 && not (begins is_brace cs)) ≡ false = not_some (c == 36 && not (begins is_brace cs)) cs n in
    let g = stopped c (begins is_brace cs) p d in
    record { none = ap (λ t. cond t (c ∷ bare_run cs) []) g; all = ap (λ t. cond t (after_bare cs) (c ∷ cs)) g }
  where
    not_some : (b : Bool) (cs : List ℕ) → None ≡ (cond b (Some cs) None) → b ≡ false
    not_some true cs e = absurd (false≢true (ap is_some e))
    not_some false cs e = refl

    head : List ℕ → ℕ → ℕ
    head [] d = d
    head (c ∷ cs) d = c

    first_stops : (before : List ℕ) (c : ℕ) (cs : List ℕ) → c ∷ cs ≡ after (passes 96 92 36) before → passes 96 92 36 c ≡ false
    first_stops [] c cs e = absurd (false≢true (sym (ap (begins (λ _. true)) e)))
    first_stops (d ∷ ds) c cs e = ⊎_elim
        (λ (t : passes 96 92 36 d ≡ true). first_stops ds c cs (e ∙ after_more (passes 96 92 36) d ds t))
        (λ (t : passes 96 92 36 d ≡ false). ap (λ l. passes 96 92 36 (head l d)) (e ∙ after_none (passes 96 92 36) d ds t) ∙ t)
        (cases_Bool (passes 96 92 36 d))

-- what is known where the loop stands
pub record Stand (text rest : List ℕ) : Type 0 where
  pub ran : Ran text rest
  pub before : List ℕ
  pub at : rest ≡ after (passes 96 92 36) before

pub stand_first : (text rest : List ℕ) → rest ≡ after (passes 96 92 36) text → Stand text rest
stand_first text rest e = record { ran = ran_run text text rest (ran_none text) e; before = text; at = e }

pub stand_more : (text rest more next : List ℕ) → Stand text rest → Some more ≡ lone_dollar rest → next ≡ after (passes 96 92 36) more → Stand text next
stand_more text rest more next s e f =
    record { ran = ran_run text more next (ran_dollar text rest more s.ran e) f; before = more; at = f }

pub stand_run : (text rest : List ℕ) (s : Stand text rest) → None ≡ lone_dollar rest → bare_run text ≡ s.ran.front
stand_run text rest s e = s.ran.ran ∙ ap (λ x. s.ran.front ++ x) (done rest s.before s.at e).none ∙ append-nil s.ran.front

pub stand_after : (text rest : List ℕ) (s : Stand text rest) → None ≡ lone_dollar rest → after_bare text ≡ rest
stand_after text rest s e = s.ran.left ∙ (done rest s.before s.at e).all

-- what follows the bare characters begins with none
pub bare_none : (cs : List ℕ) → bare_run (after_bare cs) ≡ []
bare_none [] = refl
bare_none (c ∷ cs) = ⊎_elim
    (λ (e : goes c cs ≡ true). ap (λ t. bare_run (cond t (after_bare cs) (c ∷ cs))) e ∙ bare_none cs)
    (λ (e : goes c cs ≡ false). ap (λ t. bare_run (cond t (after_bare cs) (c ∷ cs))) e ∙ ap (λ t. cond t (c ∷ bare_run cs) []) e)
    (cases_Bool (goes c cs))

pub bare_whole : (cs : List ℕ) → cs ≡ bare_run cs ++ after_bare cs
bare_whole [] = refl
bare_whole (c ∷ cs) = ⊎_elim
    (λ (e : goes c cs ≡ true). ap (λ (l : List ℕ). c ∷ l) (bare_whole cs) ∙ sym (ap (λ t. cond t (c ∷ bare_run cs) [] ++ cond t (after_bare cs) (c ∷ cs)) e))
    (λ (e : goes c cs ≡ false). sym (ap (λ t. cond t (c ∷ bare_run cs) [] ++ cond t (after_bare cs) (c ∷ cs)) e))
    (cases_Bool (goes c cs))
