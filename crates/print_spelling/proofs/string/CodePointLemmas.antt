-- The code points of units have these units.
use Rattle.std.proofs.Common.{◌≡◌, ℕ, ◌<◌, ◌≤◌, ⊎_elim, true, false, cond, List, [], ◌∷◌, ◌++◌, refl, sym, ap, subst, ◌∙◌, arith}
use Rattle.std.specs.Prelude.{◌&&◌}
use Rattle.std.specs.Char.Escape.{encode_utf16}
use Rattle.std.specs.List.{flat_map}
use Rattle.std.proofs.lemmas.Bool.{cases_Bool}
use Rattle.std.proofs.lemmas.Bool.Decides.{nat_tests}
use Rattle.print_spelling.proofs.FormLemmas.{one_unit, two_units}
use Rattle.print_spelling.specs.Forms.{lead, trail}
use Rattle.print_spelling.specs.String.CodePoints.{is_high, is_low, of_pair, onto, code_points, AreUnits, AreCodes}

record Pairs (u c : ℕ) : Type 0 where
  low : 65536 ≤ of_pair u c
  high : of_pair u c < 0x110000
  first : lead (of_pair u c) ≡ u
  second : trail (of_pair u c) ≡ c

pairs : (u c : ℕ) → (is_high u && is_low c) ≡ true → Pairs u c
pairs u c e =
    let a : 0xD800 ≤ u = grind (arith, nat_tests) in
    let b : u < 0xDC00 = grind (arith, nat_tests) in
    let l : 0xDC00 ≤ c = grind (arith, nat_tests) in
    let h : c < 0xE000 = grind (arith, nat_tests) in
    record { low = omega arith; high = omega arith; first = omega arith; second = omega arith }

low_unit : (u c : ℕ) → (is_high u && is_low c) ≡ true → c < 65536
low_unit u c e = grind (arith, nat_tests)

onto_units : (u : ℕ) (cs : List ℕ) → u < 65536 → flat_map encode_utf16 (onto u cs) ≡ u ∷ flat_map encode_utf16 cs
onto_units u [] h = ap (λ (x : List ℕ). x ++ []) (one_unit u h)
onto_units u (c ∷ cs) h = ⊎_elim
    (λ (e : (is_high u && is_low c) ≡ true).
    let p = pairs u c e in
    ap (λ b. flat_map encode_utf16 (cond b (of_pair u c ∷ cs) (u ∷ c ∷ cs))) e
    ∙ ap (λ (x : List ℕ). x ++ flat_map encode_utf16 cs) (two_units (of_pair u c) p.low)
    ∙ ap (λ x. x ∷ trail (of_pair u c) ∷ flat_map encode_utf16 cs) p.first
    ∙ ap (λ x. u ∷ x ∷ flat_map encode_utf16 cs) p.second
    ∙ sym (ap (λ (x : List ℕ). u ∷ (x ++ flat_map encode_utf16 cs)) (one_unit c (low_unit u c e))))
    (λ (e : (is_high u && is_low c) ≡ false).
    ap (λ b. flat_map encode_utf16 (cond b (of_pair u c ∷ cs) (u ∷ c ∷ cs))) e
    ∙ ap (λ (x : List ℕ). x ++ flat_map encode_utf16 (c ∷ cs)) (one_unit u h))
    (cases_Bool (is_high u && is_low c))

pub units_again : (us : List ℕ) → AreUnits us → flat_map encode_utf16 (code_points us) ≡ us
units_again [] h = refl
units_again (u ∷ us) h = onto_units u (code_points us) h.0 ∙ ap (λ (x : List ℕ). u ∷ x) (units_again us h.1)

onto_codes : (u : ℕ) (cs : List ℕ) → u < 65536 → AreCodes cs → AreCodes (onto u cs)
onto_codes u [] h k = (omega arith, tt)
onto_codes u (c ∷ cs) h k = ⊎_elim
    (λ (e : (is_high u && is_low c) ≡ true).
    let p = pairs u c e in
    subst (λ b. AreCodes (cond b (of_pair u c ∷ cs) (u ∷ c ∷ cs))) (sym e) (p.high, k.1))
    (λ (e : (is_high u && is_low c) ≡ false).
    subst (λ b. AreCodes (cond b (of_pair u c ∷ cs) (u ∷ c ∷ cs))) (sym e) (omega arith, k))
    (cases_Bool (is_high u && is_low c))

pub codes_are : (us : List ℕ) → AreUnits us → AreCodes (code_points us)
codes_are [] h = tt
codes_are (u ∷ us) h = onto_codes u (code_points us) h.0 (codes_are us h.1)
