-- Two lists are gone along side by side.
use Rattle.std.proofs.Common.{◌≡◌, ◌∙◌, ◌==◌, ℕ, suc, ◌+◌, ◌<◌, ◌≤◌, Bool, true, false, ◌&&◌, List, [], ◌∷◌, length, get_or, drop, sym, ap, add-one, drop-cons}
use Rattle.std.proofs.Math.Dec.{eqb-suc-zero}
use Rattle.std.proofs.Math.ListN.{drop_of_length-le}
use Rattle.std.proofs.lemmas.List.{nil_from_length}

-- L tests two lists, head by head
pub record IsListTest {A : Type 0} (head : A → A → Bool) (L : List A → List A → Bool) : Type 0 where
  pub empty : L [] [] ≡ true
  pub fewer : (y : A) (ys : List A) → L [] (y ∷ ys) ≡ false
  pub further : (x : A) (xs : List A) → L (x ∷ xs) [] ≡ false
  pub both : (x y : A) (xs ys : List A) → L (x ∷ xs) (y ∷ ys) ≡ (head x y && L xs ys)

module _ {A : Type 0} {head : A → A → Bool} {L : List A → List A → Bool} (is : IsListTest head L) (xs os rest : List A) (i : ℕ) (inv : L (drop i xs) rest ≡ L xs os) where
  next : (x : A) → i < length xs → x ≡ get_or xs i x → drop i xs ≡ x ∷ drop (i + 1) xs
  next x h e = drop-cons xs i x h ∙ (ap (λ y. y ∷ drop (suc i) xs) (sym e) ∙ ap (λ n. x ∷ drop n xs) (sym (add-one i)))

  -- the second list ends first
  pub second_ends : (x : A) → i < length xs → x ≡ get_or xs i x → length rest ≡ 0 → false ≡ L xs os
  second_ends x h e n =
      sym (is.further x (drop (i + 1) xs)) ∙ (ap (λ ys. L ys []) (sym (next x h e)) ∙ (ap (λ ys. L (drop i xs) ys) (sym (nil_from_length rest n)) ∙ inv))

  heads : (x y : A) (after : List A) → i < length xs → x ≡ get_or xs i x → rest ≡ y ∷ after → (head x y && L (drop (i + 1) xs) after) ≡ L xs os
  heads x y after h e r =
      sym (is.both x y (drop (i + 1) xs) after) ∙ (ap (λ ys. L ys (y ∷ after)) (sym (next x h e)) ∙ (ap (λ ys. L (drop i xs) ys) (sym r) ∙ inv))

  -- two elements differ
  pub heads_differ : (x y : A) (after : List A) → i < length xs → x ≡ get_or xs i x → rest ≡ y ∷ after → head x y ≡ false → false ≡ L xs os
  heads_differ x y after h e r d = ap (λ b. b && L (drop (i + 1) xs) after) (sym d) ∙ heads x y after h e r

  -- two elements agree
  pub heads_agree : (x y : A) (after : List A) → i < length xs → x ≡ get_or xs i x → rest ≡ y ∷ after → head x y ≡ true → L (drop (i + 1) xs) after ≡ L xs os
  heads_agree x y after h e r d = ap (λ b. b && L (drop (i + 1) xs) after) (sym d) ∙ heads x y after h e r

  left_over : (ys : List A) → (length ys == 0) ≡ L [] ys
  left_over [] = sym is.empty
  left_over (y ∷ ys) = eqb-suc-zero (length ys) ∙ sym (is.fewer y ys)

  -- the first list ends
  pub first_ends : (r : Bool) → length xs ≤ i → r ≡ (length rest == 0) → r ≡ L xs os
  first_ends r h e = e ∙ (left_over rest ∙ (ap (λ ys. L ys rest) (sym (drop_of_length-le xs h)) ∙ inv))
