-- Lemmas on digits.
use Rattle.std.proofs.Common.{◌≡◌, ℕ, ◌<◌, ◌≤◌, Bool, true, false, List, [], ◌∷◌, ◌++◌, length, refl, sym, ap, subst, ◌∙◌, arith}
use Rattle.std.specs.Prelude.{◌==◌}
use Rattle.std.specs.Prelude.{pos, neg_ℤ, ◌&&◌}
use Rattle.std.specs.Char.{digit_value, is_digit}
use borrow.Author.Tests.{ltb-true}
use Rattle.std.specs.Str.Parse.{digits_value, AllDigits}
use Rattle.std.proofs.lemmas.Bool.Decides.{Decides-eqb}
use Rattle.std.proofs.lemmas.Bool.{and_parts}
use Rattle.std.proofs.lemmas.List.{nil_from_length}
use Rattle.base_number.specs.Numbers.{trim_back, onto_trimmed, trim_front, goes_on, plain, signed}

pub eqb_false : (m n : ℕ) → (m ≡ n → ⊥) → (m == n) ≡ false
eqb_false m n differs =
    let both : (b : Bool) → (m == n) ≡ b → b ≡ false =
    elim [ true ↦ λ equal. absurd (differs ((Decides-eqb m n).0 equal)) | false ↦ λ _. refl ]
    in both (m == n) refl

trim_back-zero : (xs : List ℕ) → trim_back (xs ++ (48 ∷ [])) ≡ trim_back xs
trim_back-zero [] = refl
trim_back-zero (x ∷ xs) = ap (onto_trimmed x) (trim_back-zero xs)

trim_back-other : (xs : List ℕ) (c : ℕ) → (c == 48) ≡ false → trim_back (xs ++ (c ∷ [])) ≡ xs ++ (c ∷ [])
trim_back-other [] c other = rw other refl
trim_back-other (x ∷ xs) c other =
    ap (onto_trimmed x) (trim_back-other xs c other) ∙ kept xs
  where
    kept : (ys : List ℕ) → onto_trimmed x (ys ++ (c ∷ [])) ≡ x ∷ (ys ++ (c ∷ []))
    kept [] = refl
    kept (y ∷ ys) = refl

-- a zero at the end goes
pub trim_back_at_zero : (xs front : List ℕ) (last : ℕ) → xs ≡ front ++ (last ∷ []) → last ≡ 48 → trim_back front ≡ trim_back xs
trim_back_at_zero xs front last is zero = rw (is, zero) (sym (trim_back-zero front))

-- any other digit at the end stays, and so does all before it
pub trim_back_at_other : (xs front : List ℕ) (last : ℕ) → xs ≡ front ++ (last ∷ []) → (last ≡ 48 → ⊥) → trim_back xs ≡ xs
trim_back_at_other xs front last is other = rw is (trim_back-other front last (eqb_false last 48 other))

pub by_test : (b : Bool) (P : Type 0) → (b ≡ true → P) → (b ≡ false → P) → P
by_test b P yes_case no_case =
    let both : (v : Bool) → b ≡ v → P = elim [ true ↦ yes_case | false ↦ no_case ] in
    both b refl

-- what is spelled as digits is digits without separators
pub spelled_digits : (radix : ℕ) (behind : Bool) (text : List ℕ) → radix ≤ 36 → goes_on radix behind text ≡ true → AllDigits radix (plain text)
spelled_digits radix behind [] most spelled = tt
spelled_digits radix behind (c ∷ cs) most spelled =
    by_test (is_digit c radix) (AllDigits radix (plain (c ∷ cs)))
    (λ digit.
    let small : digit_value c < radix = ltb-true _ _ digit in
    let other : (c == 95) ≡ false = eqb_false c 95 (λ same. absurd (let at : digit_value 95 < radix = (let P : ℕ → Type 0 = λ n. digit_value n < radix in subst P same small) in omega (arith, at))) in
    let rest : goes_on radix true cs ≡ true = rw digit at spelled in
    rw other (small, spelled_digits radix true cs most rest))
    (λ none.
    let parts : (behind ≡ true) × ((c == 95 && goes_on radix false cs) ≡ true) = and_parts _ _ (rw none at spelled) in
    let last : (c == 95 ≡ true) × (goes_on radix false cs ≡ true) = and_parts _ _ parts.1 in
    rw last.0 (spelled_digits radix false cs most last.1))

-- zeros in front count nothing
pub value_trimmed : (ds : List ℕ) → digits_value 10 (trim_front ds) ≡ digits_value 10 ds
value_trimmed [] = refl
value_trimmed (c ∷ cs) =
    by_test (c == 48) (digits_value 10 (trim_front (c ∷ cs)) ≡ digits_value 10 (c ∷ cs))
    (λ zero_digit. rw (zero_digit, (Decides-eqb c 48).0 zero_digit) (value_trimmed cs))
    (λ other. rw other refl)

pub signed_trimmed : (negative : Bool) (ds : List ℕ) → signed negative (trim_front ds) ≡ signed negative ds
signed_trimmed true ds = ap (λ n. neg_ℤ (pos n)) (value_trimmed ds)
signed_trimmed false ds = ap (λ n. pos n) (value_trimmed ds)

zero_of_none : (negative : Bool) (ds : List ℕ) → ds ≡ [] → pos 0 ≡ signed negative ds
zero_of_none true ds none = rw none refl
zero_of_none false ds none = rw none refl

-- digits that are zeros alone are 0, with any sign
pub signed_zero : (negative : Bool) (ds kept : List ℕ) → kept ≡ trim_front ds → length kept ≡ 0 → pos 0 ≡ signed negative ds
signed_zero negative ds kept is none =
    zero_of_none negative (trim_front ds) (sym is ∙ nil_from_length kept none) ∙ signed_trimmed negative ds

-- digits without zeros in front are the same number
pub signed_kept : (negative : Bool) (ds kept : List ℕ) → kept ≡ trim_front ds → signed negative kept ≡ signed negative ds
signed_kept negative ds kept is = ap (signed negative) is ∙ signed_trimmed negative ds
