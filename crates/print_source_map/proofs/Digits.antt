-- Digits of base 64 say the numbers that they are written for.
use Rattle.std.proofs.Common.{◌≡◌, ℕ, zero, suc, ◌+◌, ◌-◌, ◌*◌, ◌/◌, ◌%◌, ◌<◌, ◌≤◌, ⊎_elim, true, false, List, [], ◌∷◌, ◌++◌, Some, None, refl, sym, ap, ◌∙◌, arith}
use Rattle.std.specs.Prelude.{◌==◌, nat_le, nat_lt, option_map}
use Rattle.std.proofs.lemmas.Bool.{cases_Bool}
use Rattle.std.proofs.lemmas.Bool.Decides.{nat_tests}
use Rattle.print_source_map.specs.Numbers.{digit, with_digit, moved}
use Rattle.print_source_map.specs.Mappings.{with_character, lines_of}
use Rattle.print_source_map.specs.Writing.{digit_of, some_digits, digits, difference}

-- ---- a digit

upper : (c d : ℕ) → c ≡ d + 65 → d < 26 → digit c ≡ Some d
upper c d e h =
    let a : nat_le 65 c ≡ true = grind (arith, nat_tests) in
    let b : nat_le c 90 ≡ true = grind (arith, nat_tests) in
    let v : c - 65 ≡ d = omega arith in
    rw (a, b, v) refl

lower : (c d : ℕ) → c ≡ d + 71 → 26 ≤ d → d < 52 → digit c ≡ Some d
lower c d e l h =
    let a : nat_le 65 c ≡ true = grind (arith, nat_tests) in
    let b : nat_le c 90 ≡ false = grind (arith, nat_tests) in
    let f : nat_le 97 c ≡ true = grind (arith, nat_tests) in
    let g : nat_le c 122 ≡ true = grind (arith, nat_tests) in
    let v : c - 71 ≡ d = omega arith in
    rw (a, b, f, g, v) refl

decimal : (c d : ℕ) → c ≡ d - 4 → 52 ≤ d → d < 62 → digit c ≡ Some d
decimal c d e l h =
    let a : nat_le 65 c ≡ false = grind (arith, nat_tests) in
    let b : nat_le 97 c ≡ false = grind (arith, nat_tests) in
    let f : nat_le 48 c ≡ true = grind (arith, nat_tests) in
    let g : nat_le c 57 ≡ true = grind (arith, nat_tests) in
    let v : c + 4 ≡ d = omega arith in
    rw (a, b, f, g, v) refl

-- the value of the digit of a value
digit_said : (d : ℕ) → d < 64 → digit (digit_of d) ≡ Some d
digit_said d h = ⊎_elim
    (λ (t : nat_lt d 26 ≡ true).
    let less : d < 26 = grind (arith, nat_tests) in
    rw t (upper (d + 65) d refl less))
    (λ (f : nat_lt d 26 ≡ false). ⊎_elim
    (λ (t : nat_lt d 52 ≡ true).
    let less : d < 52 = grind (arith, nat_tests) in
    let least : 26 ≤ d = grind (arith, nat_tests) in
    rw (f, t) (lower (d + 71) d refl least less))
    (λ (g : nat_lt d 52 ≡ false). ⊎_elim
    (λ (t : nat_lt d 62 ≡ true).
    let less : d < 62 = grind (arith, nat_tests) in
    let least : 52 ≤ d = grind (arith, nat_tests) in
    rw (f, g, t) (decimal (d - 4) d refl least less))
    (λ (k : nat_lt d 62 ≡ false). ⊎_elim
    (λ (t : (d == 62) ≡ true).
    let e : 62 ≡ d = grind (arith, nat_tests) in
    rw (f, g, k, t) (ap (λ (n : ℕ). Some n) e))
    (λ (t : (d == 62) ≡ false).
    let e : 63 ≡ d = grind (arith, nat_tests) in
    rw (f, g, k, t) (ap (λ (n : ℕ). Some n) e))
    (cases_Bool (d == 62)))
    (cases_Bool (nat_lt d 62)))
    (cases_Bool (nat_lt d 52)))
    (cases_Bool (nat_lt d 26))

-- a digit is neither `;` nor `,`
no_digit : (c d : ℕ) → digit c ≡ Some d → ((c == 59) ≡ false) × ((c == 44) ≡ false)
no_digit c d e = (
  ⊎_elim (λ (t : (c == 59) ≡ true). let s : c ≡ 59 = grind (arith, nat_tests) in absurd (nothing (sym (ap digit s) ∙ e))) (λ (f : (c == 59) ≡ false). f) (cases_Bool (c == 59)),
  ⊎_elim (λ (t : (c == 44) ≡ true). let s : c ≡ 44 = grind (arith, nat_tests) in absurd (nothing (sym (ap digit s) ∙ e))) (λ (f : (c == 44) ≡ false). f) (cases_Bool (c == 44)),
)
  where
    nothing : None ≡ Some d → ⊥
    nothing e = cc

one_digit : (d : ℕ) (s : List ℕ) (ss : List (List ℕ)) (ls : List (List (List ℕ))) → d < 64
    → with_character (digit_of d) ((s ∷ ss) ∷ ls) ≡ option_map (λ ns. (ns ∷ ss) ∷ ls) (with_digit d s)
one_digit d s ss ls h = by (digit_of d) (digit_said d h)
  where
    by : (c : ℕ) → digit c ≡ Some d → with_character c ((s ∷ ss) ∷ ls) ≡ option_map (λ ns. (ns ∷ ss) ∷ ls) (with_digit d s)
    by c e = let n = no_digit c d e in rw (n.0, n.1, e) refl

-- ---- a number

-- the digits of a number before a text
some_read : (k n : ℕ) (rest : List ℕ) (s : List ℕ) (ss : List (List ℕ)) (ls : List (List (List ℕ))) → n < k
    → lines_of rest ≡ Some ((s ∷ ss) ∷ ls) → lines_of (some_digits k n ++ rest) ≡ Some (((n ∷ s) ∷ ss) ∷ ls)
unfolding some_digits
some_read zero n rest s ss ls h e = absurd (omega arith)
some_read (suc k) n rest s ss ls h e = ⊎_elim
    (λ (t : nat_lt n 32 ≡ true).
    let few : n < 64 = grind (arith, nat_tests) in
    rw (t, e) (one_digit n s ss ls few ∙ rw t refl))
    (λ (f : nat_lt n 32 ≡ false).
    let less : n / 32 < k = grind (arith, nat_tests) in
    let few : n % 32 + 32 < 64 = omega arith in
    let g : nat_lt (n % 32 + 32) 32 ≡ false = grind (arith, nat_tests) in
    let v : n % 32 + 32 - 32 + 32 * (n / 32) ≡ n = omega arith in
    rw (f, some_read k (n / 32) rest s ss ls less e) (one_digit (n % 32 + 32) (n / 32 ∷ s) ss ls few ∙ rw (g, v) refl))
    (cases_Bool (nat_lt n 32))

pub number_read : (n : ℕ) (rest : List ℕ) (s : List ℕ) (ss : List (List ℕ)) (ls : List (List (List ℕ)))
    → lines_of rest ≡ Some ((s ∷ ss) ∷ ls) → lines_of (digits n ++ rest) ≡ Some (((n ∷ s) ∷ ss) ∷ ls)
unfolding digits
number_read n rest s ss ls e = some_read (suc n) n rest s ss ls (omega arith) e

-- ---- how a number is written

some_same : (a b n : ℕ) → n < a → n < b → some_digits a n ≡ some_digits b n
unfolding some_digits
some_same zero b n h k = absurd (omega arith)
some_same (suc a) zero n h k = absurd (omega arith)
some_same (suc a) (suc b) n h k = ⊎_elim
    (λ (t : nat_lt n 32 ≡ true). rw t refl)
    (λ (f : nat_lt n 32 ≡ false).
    let l : n / 32 < a = grind (arith, nat_tests) in
    let m : n / 32 < b = grind (arith, nat_tests) in
    rw (f, some_same a b (n / 32) l m) refl)
    (cases_Bool (nat_lt n 32))

pub last_digit : (n : ℕ) → n < 32 → digits n ≡ digit_of n ∷ []
unfolding digits some_digits
last_digit n h = let t : nat_lt n 32 ≡ true = grind (arith, nat_tests) in rw t refl

pub more_digits : (n : ℕ) → 32 ≤ n → digits n ≡ digit_of (n % 32 + 32) ∷ digits (n / 32)
unfolding digits some_digits
more_digits n h =
    let f : nat_lt n 32 ≡ false = grind (arith, nat_tests) in
    let l : n / 32 < n = omega arith in
    rw f (ap (λ (ds : List ℕ). digit_of (n % 32 + 32) ∷ ds) (some_same n (suc (n / 32)) (n / 32) l (omega arith)))

-- ---- a difference

pub difference_said : (from to : ℕ) → from < 0x8000_0000 → to < 0x8000_0000 → moved from (difference from to) ≡ Some to
unfolding difference moved
difference_said from to h k = ⊎_elim
    (λ (t : nat_le from to ≡ true).
    let le : from ≤ to = grind (arith, nat_tests) in
    let n = 2 * (to - from) in
    let a : nat_le 0x1_0000_0000 (2 * (to - from)) ≡ false = grind (arith, nat_tests) in
    let r : 2 * (to - from) % 2 ≡ 0 = omega arith in
    let v : from + 2 * (to - from) / 2 ≡ to = omega arith in
    rw (t, a, r, v) refl)
    (λ (f : nat_le from to ≡ false).
    let lt : to < from = grind (arith, nat_tests) in
    let a : nat_le 0x1_0000_0000 (2 * (from - to) + 1) ≡ false = grind (arith, nat_tests) in
    let r : (2 * (from - to) + 1) % 2 ≡ 1 = omega arith in
    let o : (2 * (from - to) + 1 == 1) ≡ false = grind (arith, nat_tests) in
    let v : (2 * (from - to) + 1) / 2 ≡ from - to = omega arith in
    let b : nat_le (from - to) from ≡ true = grind (arith, nat_tests) in
    let w : from - (from - to) ≡ to = omega arith in
    rw (f, a, r, o, v, b, w) refl)
    (cases_Bool (nat_le from to))
