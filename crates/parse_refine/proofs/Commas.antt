-- The starts that were noted, from the last or from the first.
use Rattle.std.proofs.Common.{◌≡◌, ℕ, ◌||◌, ◌==◌, List, [], ◌∷◌, reverse, refl, ap, sym, ◌∙◌}
use Rattle.std.specs.List.{list_any}
use Rattle.std.proofs.lemmas.List.Sorted.{IsPermutation-reverse, list_any-IsPermutation}
use Rattle.grammar_spec.specs.Reader.Cover.{has}

has_any : (n : ℕ) (xs : List ℕ) → has n xs ≡ list_any (λ x. x == n) xs
has_any n [] = refl
has_any n (x ∷ xs) = ap (λ b. (x == n) || b) (has_any n xs)

pub has_reversed : (n : ℕ) (xs : List ℕ) → has n (reverse xs) ≡ list_any (λ x. x == n) xs
has_reversed n xs = has_any n (reverse xs) ∙ sym (list_any-IsPermutation (λ x. x == n) xs (reverse xs) (IsPermutation-reverse xs))
