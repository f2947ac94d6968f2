-- The last of a list.
use Rattle.std.proofs.Common.{◌≡◌, ◌-◌, List, [], ◌∷◌, length, Option, None, Some, map, refl, ap, sym, arith, ◌∙◌}
use Rattle.std.specs.List.{slice_get}
use Rattle.tree_spec.specs.Tree.{Tree, absent, trees_by}
use Rattle.grammar_spec.specs.Tokens.Shape.{last_tree}
use Rattle.parse_alone.specs.Ends.{initial_of, last_initial}

abbrev told : {A : Type 0} → (A → Tree) → Option A → Tree
told f None = absent
told f (Some x) = f x

before : {A : Type 0} (x : A) (xs : List A) → length xs ≡ length (x ∷ xs) - 1
before x xs = omega arith

tree_at : {A : Type 0} (f : A → Tree) (x : A) (xs : List A) → last_tree (trees_by f (x ∷ xs)) ≡ told f (slice_get (x ∷ xs) (length xs))
tree_at f x [] = refl
tree_at f x (y ∷ ys) = tree_at f y ys

initial_at : {A : Type 0} (f : A → Tree) (x : A) (xs : List A) → last_initial (map f (x ∷ xs)) ≡ told (λ y. initial_of (f y)) (slice_get (x ∷ xs) (length xs))
initial_at f x [] = refl
initial_at f x (y ∷ ys) = initial_at f y ys

tree_by : {A : Type 0} (f : A → Tree) (xs : List A) → last_tree (trees_by f xs) ≡ told f (slice_get xs (length xs - 1))
tree_by f [] = refl
tree_by f (x ∷ xs) = tree_at f x xs ∙ ap (λ n. told f (slice_get (x ∷ xs) n)) (before x xs)

initial_by : {A : Type 0} (f : A → Tree) (xs : List A) → last_initial (map f xs) ≡ told (λ y. initial_of (f y)) (slice_get xs (length xs - 1))
initial_by f [] = refl
initial_by f (x ∷ xs) = initial_at f x xs ∙ ap (λ n. told (λ y. initial_of (f y)) (slice_get (x ∷ xs) n)) (before x xs)

pub last_is : {A : Type 0} (f : A → Tree) (xs : List A) (x : A) → Some x ≡ slice_get xs (length xs - 1) → f x ≡ last_tree (trees_by f xs)
last_is f xs x e = ap (told f) e ∙ sym (tree_by f xs)

pub initial_is : {A : Type 0} (f : A → Tree) (xs : List A) (x : A) → Some x ≡ slice_get xs (length xs - 1) → initial_of (f x) ≡ last_initial (map f xs)
initial_is f xs x e = ap (told (λ y. initial_of (f y))) e ∙ sym (initial_by f xs)

pub last_in : {A : Type 0} (f : A → Tree) (xs ys : List A) (x : A) → ys ≡ xs → Some x ≡ slice_get ys (length ys - 1) → f x ≡ last_tree (trees_by f xs)
last_in f xs ys x q e = last_is f ys x e ∙ ap (λ zs. last_tree (trees_by f zs)) q
