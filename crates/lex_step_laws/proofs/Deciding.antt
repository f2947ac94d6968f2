-- Whether something stands at the front of a text, told by what it is or by why there is none.
use Rattle.std.proofs.Common.{◌≡◌, ℕ, ◌⊎◌, inl, inr, ⊎_elim, Bool, true, false, List, [], ◌∷◌, refl, sym, ap, ◌∙◌}
use Rattle.std.proofs.lemmas.Bool.{cases_Bool, false≢true, cases_eq}
use Rattle.lex_pieces.specs.Runs.{Ends}
use Rattle.lex_pieces.proofs.ListLemmas.{same_head, same_tail, nil_cons}

-- something of the kind stands at the front, with what follows it
abbrev pub Found : {X : Type 0} → (List ℕ → X → List ℕ → Type 0) → List ℕ → Type 0
Found {X = X} P text = (x : X) × (rest : List ℕ) × P text x rest

abbrev pub None : {X : Type 0} → (List ℕ → X → List ℕ → Type 0) → List ℕ → Type 0
None {X = X} P text = (x : X) (rest : List ℕ) → P text x rest → ⊥

abbrev pub Decided : {X : Type 0} → (List ℕ → X → List ℕ → Type 0) → List ℕ → Type 0
Decided P text = Found P text ⊎ None P text

pub same_list : (xs ys : List ℕ) → (xs ≡ ys) ⊎ (xs ≡ ys → ⊥)
same_list [] [] = inl refl
same_list [] (y ∷ ys) = inr (λ e. nil_cons y ys e)
same_list (x ∷ xs) [] = inr (λ e. nil_cons x xs (sym e))
same_list (x ∷ xs) (y ∷ ys) = ⊎_elim
    (λ (h : x ≡ y). ⊎_elim
    (λ (t : xs ≡ ys). inl (ap (λ (c : ℕ). c ∷ xs) h ∙ ap (λ (l : List ℕ). y ∷ l) t))
    (λ (t : xs ≡ ys → ⊥). inr (λ e. t (same_tail x y xs ys e)))
    (same_list xs ys))
    (λ (h : x ≡ y → ⊥). inr (λ e. h (same_head x y xs ys e)))
    (cases_eq x y)

pub ends_or_not : (p : ℕ → Bool) (text : List ℕ) → Ends p text ⊎ (Ends p text → ⊥)
ends_or_not p [] = inl tt
ends_or_not p (c ∷ cs) = ⊎_elim
    (λ (t : p c ≡ true). inr (λ e. false≢true (sym e ∙ t)))
    (λ (f : p c ≡ false). inl f)
    (cases_Bool (p c))
