-- The run up to the first of four bytes, by two searches.
use Rattle.std.proofs.Common.{◌≡◌, ℕ, ◌<◌, ◌≤◌, ⊎_elim, Bool, true, false, List, length, length-take, take, get_or, sym, ap, ◌∙◌, arith, IsUtf8, subst}
use Rattle.std.specs.Prelude.{Option, Some, None, unwrap_or}
use Rattle.std.specs.List.{prefix_len}
use Rattle.std.proofs.lemmas.Bool.{cases_lt, false_from_ne_true}
use Rattle.std.proofs.lemmas.Bool.Decides.{nat_tests}
use Rattle.std.proofs.lemmas.List.{get_or-take}
use Rattle.std.proofs.lemmas.List.Sums.{prefix_len_is}
use Rattle.memchr.specs.Find.{IsFirstByte, is_byte, is_byte3}
use Rattle.lex_literal.specs.Stops.{passes}
use Rattle.lex_literal.proofs.RunLemmas.{Flat, Cut, cut_run}

-- n bytes fail the test, and the next passes it
record Len (test : ℕ → Bool) (hay : List ℕ) (n : ℕ) : Type 0 where
  within : n ≤ length hay
  before : (k : ℕ) → k < n → test (get_or hay k 0) ≡ false
  at : n < length hay → test (get_or hay n 0) ≡ true

len : (test : ℕ → Bool) (hay : List ℕ) (o : Option ℕ) → IsFirstByte test hay o → Len test hay (unwrap_or o (length hay))
len test hay None h = record {
  within = omega arith;
  before = λ k l. false_from_ne_true _ (h k (omega arith) l);
  at = λ l. absurd (omega arith);
}
len test hay (Some n) h = record {
  within = let x = h.0.high in omega arith;
  before = λ k l. false_from_ne_true _ (h.0.before k (omega arith) l);
  at = λ l. h.1;
}

neither : (a b c x : ℕ) → is_byte3 a b c x ≡ false → is_byte 13 x ≡ false → passes a b c x ≡ true
neither a b c x e f = grind (arith, nat_tests)

one_of : (a b c x : ℕ) → is_byte3 a b c x ≡ true → passes a b c x ≡ false
one_of a b c x e = grind (arith, nat_tests)

return : (a b c x : ℕ) → is_byte 13 x ≡ true → passes a b c x ≡ false
return a b c x e = grind (arith, nat_tests)

pub stops : (a b c : ℕ) (bs : List ℕ) (o p : Option ℕ) → IsFirstByte (is_byte3 a b c) bs o
    → IsFirstByte (is_byte 13) (take (unwrap_or o (length bs)) bs) p
    → unwrap_or p (unwrap_or o (length bs)) ≡ prefix_len (passes a b c) bs
stops a b c bs o p h i =
    let most = unwrap_or o (length bs) in
    let x = len (is_byte3 a b c) bs o h in
    let e : length (take most bs) ≡ most = let w = x.within in omega (arith, length-take most bs) in
    let y = len (is_byte 13) (take most bs) p i in
    let n = unwrap_or p (length (take most bs)) in
    let low : n ≤ most = let w = y.within in omega arith in
    let same : unwrap_or p most ≡ n = ap (unwrap_or p) (sym e) in
    same ∙ sym (prefix_len_is (passes a b c) bs n 0 (let w = x.within in omega arith)
    (λ k l. neither a b c _ (x.before k (omega arith)) (ap (is_byte 13) (sym (get_or-take most bs k 0 (omega arith))) ∙ y.before k l))
    (λ l. ⊎_elim
    (λ (less : n < most).
    return a b c _ (ap (is_byte 13) (sym (get_or-take most bs n 0 less)) ∙ y.at (omega arith)))
    (λ (more : most ≤ n). let same : n ≡ most = omega arith in ap (λ k. passes a b c (get_or bs k 0)) same ∙ one_of a b c _ (x.at (omega arith)))
    (cases_lt n most)))

high : (a b c x : ℕ) → a < 128 → b < 128 → c < 128 → 128 ≤ x → passes a b c x ≡ true
high a b c x h i j l = grind (arith, nat_tests)

pub flat : (a b c : ℕ) → a < 128 → b < 128 → c < 128 → Flat (passes a b c)
flat a b c h i j = record { same = λ x l. high a b c x h i j l ∙ sym (high a b c 128 h i j (omega arith)) }

pub cut_stops : (a b c : ℕ) → a < 128 → b < 128 → c < 128 → (text : List ℕ) (n : ℕ) → IsUtf8 text → n ≡ prefix_len (passes a b c) text → Cut (passes a b c) text n
cut_stops a b c h i j text n u e = subst (Cut (passes a b c) text) (sym e) (cut_run (passes a b c) (flat a b c h i j) text u)
