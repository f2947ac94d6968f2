-- What a list that matches tells of its tokens.
use Rattle.std.proofs.Common.{◌≡◌, ◌≤◌, arith, ℕ, ◌==◌, ◌||◌, Bool, true, false, not, cond, nat_le, List, [], ◌∷◌, refl, sym, ap, ◌∙◌, subst, true≢false}
use Rattle.std.proofs.lemmas.Bool.{le-leb, eqb-true, eq-eqb, and_parts}
use Rattle.base_token.specs.Kinds.{div_kind, div_assign_kind, regex_kind, error_kind}
use Rattle.grammar_spec.specs.Tokens.Input.{PlacedToken, usual, div_goal, regexp_goal}
use Rattle.grammar_laws.specs.Slash.TemplateLaws.{Region, Outside, Inside, Behind, Nowhere, after, fits, over}

abbrev IsSomewhere : Region → Type 0
IsSomewhere Nowhere = ⊥
IsSomewhere g = Unit {0}

lost : (ps : List PlacedToken) → over Nowhere ps ≡ Nowhere
lost [] = refl
lost (p ∷ ps) = lost ps

-- no list leads back from nowhere
pub not_lost : (ps : List PlacedToken) → over Nowhere ps ≡ Outside [] → ⊥
not_lost ps h = subst (λ (g : Region). IsSomewhere g) (sym (sym (lost ps) ∙ h)) tt

-- the first token stands under a goal of its region, and what comes behind it matches
pub fits_on : (g : Region) (p : PlacedToken) (ps : List PlacedToken) → over g (p ∷ ps) ≡ Outside [] → (fits g p.spot.token.kind p.goal ≡ true) × (over (after g p.spot.token.kind) ps ≡ Outside [])
fits_on g p ps h = by_test (fits g p.spot.token.kind p.goal) h
  where
    by_test : (b : Bool) → over (cond b (after g p.spot.token.kind) Nowhere) ps ≡ Outside [] → (b ≡ true) × (over (after g p.spot.token.kind) ps ≡ Outside [])
    by_test true e = (refl, e)
    by_test false e = absurd (not_lost ps e)

-- ---- outside of the characters of templates

low : (k g : ℕ) → usual k g ≡ true → nat_le g regexp_goal ≡ true
low k g h = by_tests (k == regex_kind) ((k == div_kind) || (k == div_assign_kind)) h
  where
    one : (n : ℕ) → n ≤ 1 → (g == n) ≡ true → nat_le g 1 ≡ true
    one n e f = le-leb g 1 (subst (λ (x : ℕ). x ≤ 1) (sym (eqb-true g n f)) e)

    by_tests : (a b : Bool) → cond a (g == regexp_goal) (cond b (g == div_goal) (nat_le g regexp_goal)) ≡ true → nat_le g regexp_goal ≡ true
    by_tests true b e = one 1 (omega arith) e
    by_tests false true e = one 0 (omega arith) e
    by_tests false false e = e

module _ (s : List Bool) (k g : ℕ) (h : fits (Outside s) k g ≡ true) where
  -- a token stands under a goal that is usual for it,
  pub usual_there : usual k g ≡ true
  usual_there = (and_parts (usual k g) (not (k == error_kind)) h).0

  -- which is one of the first two,
  pub low_there : nat_le g regexp_goal ≡ true
  low_there = low k g usual_there

  -- and it is no fault
  pub sound_there : k ≡ error_kind → ⊥
  sound_there e = true≢false (sym (and_parts (usual k g) (not (k == error_kind)) h).1 ∙ ap (λ (z : Bool). not z) (eq-eqb k error_kind e))

-- no fault stands in a list that matches
pub sound_on : (g : Region) (p : PlacedToken) (ps : List PlacedToken) → over g (p ∷ ps) ≡ Outside [] → p.spot.token.kind ≡ error_kind → ⊥
sound_on (Outside s) p ps h e = sound_there s p.spot.token.kind p.goal (fits_on (Outside s) p ps h).0 e
sound_on (Inside s) p ps h e = not_lost ps (subst (λ (k : ℕ). over (after (Inside s) k) ps ≡ Outside []) e (fits_on (Inside s) p ps h).1)
sound_on (Behind s) p ps h e = not_lost ps (subst (λ (k : ℕ). over (after (Behind s) k) ps ≡ Outside []) e (fits_on (Behind s) p ps h).1)
sound_on Nowhere p ps h e = not_lost (p ∷ ps) h
