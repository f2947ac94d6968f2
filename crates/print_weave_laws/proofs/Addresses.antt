-- The gaps of a text are their own where it is laid out as it was.
use Rattle.std.proofs.Common.{◌≡◌, ◌≤◌, ℕ, zero, suc, ◌+◌, ◌-◌, ⊎_elim, Bool, true, false, ◌&&◌, not, List, [], ◌∷◌, length, refl, sym, ap, ◌∙◌, arith}
use Rattle.std.specs.Prelude.{◌==◌, nat_le, nat_lt, if◌then◌else◌}
use Rattle.std.proofs.lemmas.Bool.{cases_Bool}
use Rattle.std.proofs.lemmas.Bool.Decides.{nat_tests}
use Rattle.base_proofs.proofs.Bools.{and_false}
use Rattle.print_weave_laws.specs.Addresses.{Sort, kept_before, run_of, start_of, agreeing, in_run}
use Rattle.print_weave_laws.specs.Laws.{GapsAreTheirOwn}

agree_all : (ks : List Sort) → agreeing ks ks ≡ length ks
agree_all [] = refl
agree_all (k ∷ ks) = let e : (k.kind == k.kind) ≡ true = grind (arith, nat_tests) in rw e (let i = agree_all ks in omega (arith, i))

-- a gap of a run is itself
own_run : (j : ℕ) (ks : List Sort) → j ≤ length ks → in_run j ks ks ≡ j
own_run j ks h =
    let n : nat_lt (length ks) (length ks) ≡ false = grind (arith, nat_tests) in
    let m : nat_le j (length ks) ≡ true = grind (arith, nat_tests) in
    let le : nat_le j (agreeing ks ks) ≡ true = ap (nat_le j) (agree_all ks) ∙ m in
    let q : not ((j == length ks) && nat_lt (length ks) (length ks)) ≡ true = ap (λ (b : Bool). not ((j == length ks) && b)) n ∙ ap not (and_false (j == length ks)) in
    rw le (rw q refl)

module _ (k : Sort) (ks : List Sort) (g : ℕ) where
  kept_loose : (r : ℕ) → k.loose ≡ true → kept_before (k ∷ ks) (suc g) ≡ r → kept_before ks g ≡ r
  kept_loose r t e = sym (ap (λ (b : Bool). if b then kept_before ks g else kept_before ks g + 1) t) ∙ e

  kept_kept : (r : ℕ) → k.loose ≡ false → kept_before (k ∷ ks) (suc g) ≡ r → kept_before ks g + 1 ≡ r
  kept_kept r t e = sym (ap (λ (b : Bool). if b then kept_before ks g else kept_before ks g + 1) t) ∙ e

start_le : (ks : List Sort) (g r : ℕ) → kept_before ks g ≡ r → start_of r ks ≤ g
start_le [] g zero e = omega arith
start_le [] g (suc r) e = omega arith
start_le (k ∷ ks) zero zero e = omega arith
start_le (k ∷ ks) zero (suc r) e = absurd (omega (arith, e))
start_le (k ∷ ks) (suc g) zero e = omega arith
start_le (k ∷ ks) (suc g) (suc r) e = ⊎_elim
    (λ (t : k.loose ≡ true). rw t (let i = start_le ks g (suc r) (kept_loose k ks g (suc r) t e) in omega (arith, i)))
    (λ (t : k.loose ≡ false). rw t (let f = kept_kept k ks g (suc r) t e in let m : kept_before ks g ≡ r = omega (arith, f) in let i = start_le ks g r m in omega (arith, i)))
    (cases_Bool (k.loose))

run_le : (ks : List Sort) (g r : ℕ) → kept_before ks g ≡ r → g ≤ length ks → g - start_of r ks ≤ length (run_of r ks)
run_le [] g zero e h = omega (arith, h)
run_le [] g (suc r) e h = omega (arith, h)
run_le (k ∷ ks) zero zero e h = omega arith
run_le (k ∷ ks) zero (suc r) e h = absurd (omega (arith, e))
run_le (k ∷ ks) (suc g) zero e h = ⊎_elim
    (λ (t : k.loose ≡ true). rw t (let i = run_le ks g zero (kept_loose k ks g zero t e) (omega (arith, h)) in omega (arith, i)))
    (λ (t : k.loose ≡ false). absurd (let f = kept_kept k ks g zero t e in omega (arith, f)))
    (cases_Bool (k.loose))
run_le (k ∷ ks) (suc g) (suc r) e h = ⊎_elim
    (λ (t : k.loose ≡ true). rw t (let i = run_le ks g (suc r) (kept_loose k ks g (suc r) t e) (omega (arith, h)) in omega (arith, i)))
    (λ (t : k.loose ≡ false). rw t (let f = kept_kept k ks g (suc r) t e in let m : kept_before ks g ≡ r = omega (arith, f) in let i = run_le ks g r m (omega (arith, h)) in omega (arith, i)))
    (cases_Bool (k.loose))

pub gaps_are_their_own : GapsAreTheirOwn
gaps_are_their_own ks g h =
    let r : ℕ = kept_before ks g in
    let a = start_le ks g r refl in
    let b = own_run (g - start_of r ks) (run_of r ks) (run_le ks g r refl h) in
    ap (λ (n : ℕ). start_of r ks + n) b ∙ omega (arith, a)
