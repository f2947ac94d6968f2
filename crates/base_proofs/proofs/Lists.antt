-- Lists: the parts of equal lists, and lists that are empty.
use Rattle.std.proofs.Common.{◌≡◌, List, [], ◌∷◌, ◌++◌, length, get_or, drop, refl, ap, arith}

-- ---- the parts of equal lists

pub cons_head : {A : Type 0} (x y : A) (xs ys : List A) → x ∷ xs ≡ y ∷ ys → x ≡ y
cons_head {A} x y xs ys e = ap (λ (l : List A). get_or l 0 x) e

pub cons_tail : {A : Type 0} (x y : A) (xs ys : List A) → x ∷ xs ≡ y ∷ ys → xs ≡ ys
cons_tail {A} x y xs ys e = ap (λ (l : List A). drop 1 l) e

pub cons_parts : {A : Type 0} (x y : A) (xs ys : List A) → x ∷ xs ≡ y ∷ ys → (x ≡ y) × (xs ≡ ys)
cons_parts x y xs ys e = (cons_head x y xs ys e, cons_tail x y xs ys e)

-- ---- empty lists

pub nil_not_cons : {A : Type 0} (x : A) (xs : List A) → [] ≡ x ∷ xs → ⊥
nil_not_cons x xs e = let n = ap length e in omega (arith, n)

pub cons_not_nil : {A : Type 0} (x : A) (xs : List A) → x ∷ xs ≡ [] → ⊥
cons_not_nil x xs e = let n = ap length e in omega (arith, n)

pub append_empty_first : {A : Type 0} (xs ys : List A) → xs ++ ys ≡ [] → xs ≡ []
append_empty_first [] ys e = refl
append_empty_first (x ∷ xs) ys e = absurd (cons_not_nil x (xs ++ ys) e)

pub append_empty_second : {A : Type 0} (xs ys : List A) → xs ++ ys ≡ [] → ys ≡ []
append_empty_second [] ys e = e
append_empty_second (x ∷ xs) ys e = absurd (cons_not_nil x (xs ++ ys) e)
