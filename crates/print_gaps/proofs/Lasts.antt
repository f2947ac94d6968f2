-- The last and the only one of a list.
use Rattle.std.proofs.Common.{◌≡◌, ℕ, suc, ◌-◌, ◌==◌, true, false, List, [], ◌∷◌, Option, Some, None, length, refl, sym, ap, subst, slice_index_or, arith}
use Rattle.std.specs.List.{slice_get}
use Rattle.tree_nodes.specs.Tree.{Tree, trees_by}
use Rattle.print_gaps.specs.Edges.{starts_with_word, alone_starts_with_word, ends_with_word, last_ends_with_word}

held : {A : Type 0} → A → Option A → A
held y None = y
held y (Some x) = x

pub last_is : {A : Type 0} (f : A → Tree) (xs : List A) (x : A) → slice_get xs (length xs - 1) ≡ Some x → last_ends_with_word (trees_by f xs) ≡ ends_with_word (f x)
unfolding held
last_is f [] x e = absurd (cc)
last_is f (y ∷ []) x e = ap (λ o. ends_with_word (f (held y o))) e
last_is f (y ∷ z ∷ zs) x e =
    let same : length (y ∷ z ∷ zs) - 1 ≡ suc (length (z ∷ zs) - 1) = omega arith in
    last_is f (z ∷ zs) x (subst (λ (i : ℕ). slice_get (y ∷ z ∷ zs) i ≡ Some x) same e)

pub no_last : {A : Type 0} (f : A → Tree) (xs : List A) → slice_get xs (length xs - 1) ≡ None → last_ends_with_word (trees_by f xs) ≡ true
no_last f [] e = refl
no_last f (y ∷ []) e = absurd (cc)
no_last f (y ∷ z ∷ zs) e =
    let same : length (y ∷ z ∷ zs) - 1 ≡ suc (length (z ∷ zs) - 1) = omega arith in
    no_last f (z ∷ zs) (subst (λ (i : ℕ). slice_get (y ∷ z ∷ zs) i ≡ None) same e)

pub alone_is : {A : Type 0} (f : A → Tree) (xs : List A) (x : A) → length xs ≡ 1 → x ≡ slice_index_or xs 0 x → alone_starts_with_word (trees_by f xs) ≡ starts_with_word (f x)
alone_is f [] x n e = absurd (cc)
alone_is f (y ∷ []) x n e = ap (λ o. starts_with_word (f o)) (sym e)
alone_is f (y ∷ z ∷ zs) x n e = absurd (omega (arith, n))

pub not_alone : {A : Type 0} (f : A → Tree) (xs : List A) → length xs == 1 ≡ false → alone_starts_with_word (trees_by f xs) ≡ false
not_alone f [] n = refl
not_alone f (y ∷ []) n = absurd (cc)
not_alone f (y ∷ z ∷ zs) n = refl

pub last_of : {A : Type 0} (f : A → Tree) (xs ys : List A) (x : A) → ys ≡ xs → Some x ≡ slice_get ys (length ys - 1) → last_ends_with_word (trees_by f xs) ≡ ends_with_word (f x)
last_of f xs ys x q e = last_is f xs x (subst (λ zs. slice_get zs (length zs - 1) ≡ Some x) q (sym e))
