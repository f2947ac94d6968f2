-- Loops: going on until a step says that it is done. The fuel of a loop never shows.
use Rattle.std.proofs.Common.{◌≡◌, ℕ, zero, suc, ◌<◌, Result, Ok, Err, Bool, true, false, refl, ◌∙◌, arith, nat_lt}
use Rattle.std.proofs.lemmas.Bool.{ltb-true, lt-ltb}
use Rattle.grammar_spec.specs.Reader.Source.{Fault, Read, State, Step, go_on, finished, iterate_n, iterate, next_by, ◌>>=◌}

pub next_same : {S A : Type 0} (bound : State S → ℕ) (f g : A → Read S A) (below : ℕ) → ((x : A) (rest : State S) → bound rest < below → f x rest ≡ g x rest)
    → (r : Result (Step A × State S) Fault) → (r >>= next_by bound f below) ≡ (r >>= next_by bound g below)
next_same bound f g below same (Err e) = refl
next_same bound f g below same (Ok (finished x, rest)) = refl
next_same bound f g below same (Ok (go_on x, rest)) = go (nat_lt (bound rest) below) refl
  where
    go : (b : Bool) → nat_lt (bound rest) below ≡ b → next_by bound f below (go_on x, rest) ≡ next_by bound g below (go_on x, rest)
    go true e = rw e (same x rest (ltb-true (bound rest) below e))
    go false e = rw e refl

pub enough : {S A : Type 0} (bound : State S → ℕ) (step : A → Read S (Step A)) (n m : ℕ) (x : A) (ts : State S) → bound ts < n → bound ts < m → iterate_n bound n step x ts ≡ iterate_n bound m step x ts
unfolding iterate_n
enough bound step zero m x ts a b = absurd (omega arith)
enough bound step (suc n) zero x ts a b = absurd (omega arith)
enough bound step (suc n) (suc m) x ts a b =
    next_same bound (iterate_n bound n step) (iterate_n bound m step) (bound ts) (λ y rest lt. enough bound step n m y rest (omega arith) (omega arith)) (step x ts)

pub iterate_goes : {S A : Type 0} (bound : State S → ℕ) (step : A → Read S (Step A)) (x : A) (ts : State S) → iterate bound step x ts ≡ (step x ts >>= next_by bound (iterate bound step) (bound ts))
unfolding iterate iterate_n
iterate_goes bound step x ts =
    next_same bound (iterate_n bound (bound ts) step) (iterate bound step) (bound ts) (λ y rest lt. enough bound step (bound ts) (suc (bound rest)) y rest lt (omega arith)) (step x ts)

pub iterate_more : {S A : Type 0} (bound : State S → ℕ) (step : A → Read S (Step A)) (x y : A) (ts rest : State S) → step x ts ≡ Ok (go_on y, rest) → bound rest < bound ts → iterate bound step x ts ≡ iterate bound step y rest
iterate_more bound step x y ts rest e lt = iterate_goes bound step x ts ∙ rw (e, lt-ltb (bound rest) (bound ts) lt) refl

pub iterate_done : {S A : Type 0} (bound : State S → ℕ) (step : A → Read S (Step A)) (x y : A) (ts rest : State S) → step x ts ≡ Ok (finished y, rest) → iterate bound step x ts ≡ Ok (y, rest)
iterate_done bound step x y ts rest e = iterate_goes bound step x ts ∙ rw e refl

pub iterate_stops : {S A : Type 0} (bound : State S → ℕ) (step : A → Read S (Step A)) (x : A) (ts : State S) (f : Fault) → step x ts ≡ Err f → iterate bound step x ts ≡ Err f
iterate_stops bound step x ts f e = iterate_goes bound step x ts ∙ rw e refl

pub ruleset iterates = (iterate_more, iterate_done, iterate_stops)
