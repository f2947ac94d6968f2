-- Lemmas on sums of decimal digits.
use Rattle.std.proofs.Math.Nat.{pow-succ'}
use Rattle.std.proofs.Common.{add-one, zero-add, length-append, ◌≡◌, ℕ, zero, suc, ◌+◌, ◌-◌, ◌*◌, ◌/◌, ◌%◌, ◌^◌, ◌<◌, ◌≤◌, List, [], ◌∷◌, ◌++◌, length, reverse, sym, ap, subst, ◌∙◌, arith}
use Rattle.std.specs.Char.{digit_value}
use Rattle.std.specs.Str.Parse.{digits_value, digits_value_after, AllDigits}
use Rattle.std.proofs.lemmas.Int.Digits.{digits_value_push, digits_value-lt}
use Rattle.std.proofs.lemmas.List.{reverse-append, length-reverse}
use Rattle.std.proofs.lemmas.Bool.Decides.{nat_tests}

-- a decimal digit
pub digit_range : (c : ℕ) → digit_value c < 10 → (48 ≤ c) × (c < 58) × (digit_value c ≡ c - 48)
digit_range c small = (grind (arith, nat_tests), grind (arith, nat_tests), grind (arith, nat_tests))

-- the digit of a small number
pub value_of_digit : (w : ℕ) → w < 10 → digit_value (48 + w) ≡ w
value_of_digit w small = grind (arith, nat_tests)

ten_more : (n : ℕ) → 10 ^ (n + 1) ≡ 10 * 10 ^ n
ten_more n = rw add-one (pow-succ' 10 n)

carries : (F x c P R T : ℕ) → ((F * 10 + x) + c) * P + R ≡ T → (F + (c / 10 + (c % 10 + x) / 10)) * (10 * P) + (((c % 10 + x) % 10) * P + R) ≡ T
carries F x c P R T is =
    let whole : (F * 10 + x) + c ≡ 10 * (F + (c / 10 + (c % 10 + x) / 10)) + (c % 10 + x) % 10 = omega arith in
    let at_place : ((F * 10 + x) + c) * P ≡ (10 * (F + (c / 10 + (c % 10 + x) / 10)) + (c % 10 + x) % 10) * P = ap (λ z. z * P) whole in
    omega arith

borrows : (F x b w s P R n V : ℕ) → (F * 10 + x) * P + R + n ≡ V + b * P → w + b % 10 ≡ x + 10 * s → F * (10 * P) + (w * P + R) + n ≡ V + (b / 10 + s) * (10 * P)
borrows F x b w s P R n V is digit =
    let whole : w + b ≡ x + 10 * (b / 10 + s) = omega arith in
    let at_place : (w + b) * P ≡ (x + 10 * (b / 10 + s)) * P = ap (λ z. z * P) whole in
    omega arith

places : (n x P Q V : ℕ) → Q ≡ 10 * P → (n * 10 + x) * P + V ≡ n * Q + ((0 + x) * P + V)
places n x P Q V next =
    let at_place : n * Q ≡ n * (10 * P) = ap (λ z. n * z) next in
    omega arith

-- a value in front counts by the power of its place
pub value_after : (n : ℕ) (ds : List ℕ) → digits_value_after 10 n ds ≡ n * 10 ^ length ds + digits_value 10 ds
value_after n [] = omega arith
value_after n (d ∷ ds) =
    value_after (n * 10 + digit_value d) ds ∙ (places n (digit_value d) (10 ^ length ds) (10 ^ suc (length ds)) (digits_value 10 ds) (pow-succ' 10 (length ds)) ∙ ap (λ z. n * 10 ^ suc (length ds) + z) (sym (value_after (0 + digit_value d) ds)))

-- one digit more in front
pub value_cons : (d : ℕ) (ds : List ℕ) → digits_value 10 (d ∷ ds) ≡ digit_value d * 10 ^ length ds + digits_value 10 ds
value_cons d ds = value_after (0 + digit_value d) ds ∙ ap (λ z. z * 10 ^ length ds + digits_value 10 ds) (zero-add (digit_value d))

-- the digits before the last, and the last
pub all_but_last : (front : List ℕ) (d : ℕ) → AllDigits 10 (front ++ (d ∷ [])) → AllDigits 10 front × (digit_value d < 10)
all_but_last [] d all = (tt, all.0)
all_but_last (x ∷ front) d all = let rest : AllDigits 10 front × (digit_value d < 10) = all_but_last front d all.1 in ((all.0, rest.0), rest.1)

-- what one digit more at the end does, seen from the other end
pub pushed : (out : List ℕ) (w : ℕ) → w < 10 → (10 ^ length (out ++ ((48 + w) ∷ [])) ≡ 10 * 10 ^ length out) × (digits_value 10 (reverse (out ++ ((48 + w) ∷ []))) ≡ w * 10 ^ length out + digits_value 10 (reverse out))
pushed out w small = (
  ap (λ n. 10 ^ n) (length-append out ((48 + w) ∷ [])) ∙ ten_more (length out),
  ap (digits_value 10) (reverse-append out ((48 + w) ∷ [])) ∙ (value_cons (48 + w) (reverse out) ∙ (ap (λ z. z * 10 ^ length (reverse out) + digits_value 10 (reverse out)) (value_of_digit w small) ∙ ap (λ n. w * 10 ^ n + digits_value 10 (reverse out)) (length-reverse out))),
)

-- the digits stay digits
pub pushed_digits : (out : List ℕ) (w : ℕ) → w < 10 → AllDigits 10 (reverse out) → AllDigits 10 (reverse (out ++ ((48 + w) ∷ [])))
pushed_digits out w small all = rw reverse-append (rw (value_of_digit w small) small, all)

-- one step of a sum
pub sum_step : (left front out : List ℕ) (d c T : ℕ) → left ≡ front ++ (d ∷ []) → digit_value d < 10 → (digits_value 10 left + c) * 10 ^ length out + digits_value 10 (reverse out) ≡ T → (digits_value 10 front + (c / 10 + (c % 10 + (d - 48)) / 10)) * 10 ^ length (out ++ ((48 + (c % 10 + (d - 48)) % 10) ∷ [])) + digits_value 10 (reverse (out ++ ((48 + (c % 10 + (d - 48)) % 10) ∷ []))) ≡ T
sum_step left front out d c T is small so_far =
    let w : ℕ = (c % 10 + (d - 48)) % 10 in
    let next : (10 ^ length (out ++ ((48 + w) ∷ [])) ≡ 10 * 10 ^ length out) × (digits_value 10 (reverse (out ++ ((48 + w) ∷ []))) ≡ w * 10 ^ length out + digits_value 10 (reverse out)) = pushed out w (omega arith) in
    let split : digits_value 10 left ≡ digits_value 10 front * 10 + (d - 48) = ap (digits_value 10) is ∙ (digits_value_push 10 front d ∙ ap (λ z. digits_value 10 front * 10 + z) (digit_range d small).2) in
    rw (next.0, next.1) (carries (digits_value 10 front) (d - 48) c (10 ^ length out) (digits_value 10 (reverse out)) T (ap (λ z. (z + c) * 10 ^ length out + digits_value 10 (reverse out)) (sym split) ∙ so_far))

-- one step of writing out what is carried
pub carry_step : (out : List ℕ) (c T : ℕ) → c * 10 ^ length out + digits_value 10 (reverse out) ≡ T → c / 10 * 10 ^ length (out ++ ((48 + c % 10) ∷ [])) + digits_value 10 (reverse (out ++ ((48 + c % 10) ∷ []))) ≡ T
carry_step out c T so_far =
    let next : (10 ^ length (out ++ ((48 + c % 10) ∷ [])) ≡ 10 * 10 ^ length out) × (digits_value 10 (reverse (out ++ ((48 + c % 10) ∷ []))) ≡ c % 10 * 10 ^ length out + digits_value 10 (reverse out)) = pushed out (c % 10) (omega arith) in
    rw (next.0, next.1) (carried c (10 ^ length out) (digits_value 10 (reverse out)) T so_far)
  where
    carried : (c P R T : ℕ) → c * P + R ≡ T → c / 10 * (10 * P) + (c % 10 * P + R) ≡ T
    carried c P R T is =
        let whole : c ≡ 10 * (c / 10) + c % 10 = omega arith in
        let at_place : c * P ≡ (10 * (c / 10) + c % 10) * P = ap (λ z. z * P) whole in
        omega arith

-- one step of a difference
pub difference_step : (left front out : List ℕ) (d b w s n V : ℕ) → left ≡ front ++ (d ∷ []) → digit_value d < 10 → w < 10 → w + b % 10 ≡ (d - 48) + 10 * s → digits_value 10 left * 10 ^ length out + digits_value 10 (reverse out) + n ≡ V + b * 10 ^ length out → digits_value 10 front * 10 ^ length (out ++ ((48 + w) ∷ [])) + digits_value 10 (reverse (out ++ ((48 + w) ∷ []))) + n ≡ V + (b / 10 + s) * 10 ^ length (out ++ ((48 + w) ∷ []))
difference_step left front out d b w s n V is small below digit so_far =
    let next : (10 ^ length (out ++ ((48 + w) ∷ [])) ≡ 10 * 10 ^ length out) × (digits_value 10 (reverse (out ++ ((48 + w) ∷ []))) ≡ w * 10 ^ length out + digits_value 10 (reverse out)) = pushed out w below in
    let split : digits_value 10 left ≡ digits_value 10 front * 10 + (d - 48) = ap (digits_value 10) is ∙ (digits_value_push 10 front d ∙ ap (λ z. digits_value 10 front * 10 + z) (digit_range d small).2) in
    rw (next.0, next.1) (borrows (digits_value 10 front) (d - 48) b w s (10 ^ length out) (digits_value 10 (reverse out)) n V (ap (λ z. z * 10 ^ length out + digits_value 10 (reverse out) + n) (sym split) ∙ so_far) digit)

-- nothing is borrowed in the end
pub difference_done : (out : List ℕ) (b n V : ℕ) → AllDigits 10 (reverse out) → n ≤ V → 0 * 10 ^ length out + digits_value 10 (reverse out) + n ≡ V + b * 10 ^ length out → digits_value 10 (reverse out) + n ≡ V
difference_done out b n V all enough is =
    let below : digits_value 10 (reverse out) < 10 ^ length out = rw (length-reverse out) at (digits_value-lt 10 (reverse out) all) in
    settled b (digits_value 10 (reverse out)) (10 ^ length out) n V below enough is
  where
    settled : (b R P n V : ℕ) → R < P → n ≤ V → 0 * P + R + n ≡ V + b * P → R + n ≡ V
    settled zero R P n V below enough is = omega arith
    settled (suc b) R P n V below enough is = absurd (omega arith)

-- a sum while digits are left: they and what is carried count above the digits out, which stand low first
pub record IsSumSoFar (left : List ℕ) (carry : ℕ) (out : List ℕ) (total : ℕ) : Type 0 where
  pub left_digits : AllDigits 10 left
  pub out_digits : AllDigits 10 (reverse out)
  pub value : (digits_value 10 left + carry) * 10 ^ length out + digits_value 10 (reverse out) ≡ total

-- a sum once no digits are left
pub record IsCarried (carry : ℕ) (out : List ℕ) (total : ℕ) : Type 0 where
  pub out_digits : AllDigits 10 (reverse out)
  pub value : carry * 10 ^ length out + digits_value 10 (reverse out) ≡ total

-- a difference while digits are left
pub record IsDifferenceSoFar (left : List ℕ) (borrow : ℕ) (out : List ℕ) (subtrahend total : ℕ) : Type 0 where
  pub left_digits : AllDigits 10 left
  pub out_digits : AllDigits 10 (reverse out)
  pub value : digits_value 10 left * 10 ^ length out + digits_value 10 (reverse out) + subtrahend ≡ total + borrow * 10 ^ length out

-- the digits before the last, and the last, of a list that is split there
pub split_digits : (left front : List ℕ) (d : ℕ) → left ≡ front ++ (d ∷ []) → AllDigits 10 left → AllDigits 10 front × (digit_value d < 10)
split_digits left front d is all = all_but_last front d (let P : List ℕ → Type 0 = λ ds. AllDigits 10 ds in subst P is all)

-- one digit of a sum
pub sum_goes_on : (left front out new : List ℕ) (d x carry total : ℕ) → left ≡ front ++ (d ∷ []) → x ≡ d - 48 → new ≡ out ++ ((48 + (carry % 10 + x) % 10) ∷ []) → IsSumSoFar left carry out total → IsSumSoFar front (carry / 10 + (carry % 10 + x) / 10) new total
sum_goes_on left front out new d x carry total is digit grown so_far =
    let parts : AllDigits 10 front × (digit_value d < 10) = split_digits left front d is so_far.left_digits in
    rw (grown, digit) record {
      left_digits = parts.0;
      out_digits = pushed_digits out ((carry % 10 + (d - 48)) % 10) (omega arith) so_far.out_digits;
      value = sum_step left front out d carry total is parts.1 so_far.value;
    }

-- one digit of what is carried
pub carry_goes_on : (out new : List ℕ) (carry total : ℕ) → new ≡ out ++ ((48 + carry % 10) ∷ []) → IsCarried carry out total → IsCarried (carry / 10) new total
carry_goes_on out new carry total grown so_far =
    rw grown record {
      out_digits = pushed_digits out (carry % 10) (omega arith) so_far.out_digits;
      value = carry_step out carry total so_far.value;
    }

-- one digit of a difference
pub difference_goes_on : (left front out new : List ℕ) (d x borrow rest short subtrahend total : ℕ) → left ≡ front ++ (d ∷ []) → x ≡ d - 48 → rest < 10 → rest + borrow % 10 ≡ x + 10 * short → new ≡ out ++ ((48 + rest) ∷ []) → IsDifferenceSoFar left borrow out subtrahend total → IsDifferenceSoFar front (borrow / 10 + short) new subtrahend total
difference_goes_on left front out new d x borrow rest short subtrahend total is digit below taken grown so_far =
    let parts : AllDigits 10 front × (digit_value d < 10) = split_digits left front d is so_far.left_digits in
    rw grown record {
      left_digits = parts.0;
      out_digits = pushed_digits out rest below so_far.out_digits;
      value = difference_step left front out d borrow rest short subtrahend total is parts.1 below (taken ∙ ap (λ z. z + 10 * short) digit) so_far.value;
    }

-- a difference once no digits are left
pub difference_end : (left out new : List ℕ) (borrow subtrahend total : ℕ) → length left ≡ 0 → new ≡ reverse out → subtrahend ≤ total → IsDifferenceSoFar left borrow out subtrahend total → digits_value 10 new + subtrahend ≡ total
difference_end [] out new borrow subtrahend total none reversed enough so_far =
    rw reversed (difference_done out borrow subtrahend total so_far.out_digits enough so_far.value)
difference_end (d ∷ left) out new borrow subtrahend total none reversed enough so_far = absurd (omega arith)
