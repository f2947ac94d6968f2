-- A minified number has its value.
use Rattle.std.proofs.Common.{◌≡◌, ℕ, zero, suc, ◌+◌, ◌-◌, ◌*◌, ◌^◌, ◌<◌, ◌≤◌, ⊎_elim, true, false, cond, List, [], ◌∷◌, ◌++◌, append-nil, length, length-append, length-drop, map, take, drop, refl, sym, ap, subst, ◌∙◌, arith}
use Rattle.std.specs.Prelude.{◌&&◌, ◌||◌, ◌==◌, not, nat_lt, nat_le, if◌then◌else◌, Option, Some, None, unwrap_or, ℤ, pos, negsuc, neg_ℤ, ◌+ℤ◌, ◌-ℤ◌}
use Rattle.std.specs.Char.{digit_value, to_ascii_lowercase}
use Rattle.std.specs.Fmt.{decimal}
use Rattle.std.specs.Int.Digits.{digits_of, AllBelowBase, number_from_digits_after}
use Rattle.std.specs.Str.Parse.{digits_value, digits_value_after, AllDigits}
use Rattle.std.proofs.lemmas.Bool.{cases_Bool, lt-ltb, le-ltb, ltb-true, ltb-false, eqb-true, eqb-false, or_right}
use Rattle.std.proofs.lemmas.Bool.Decides.{nat_tests}
use Rattle.std.proofs.lemmas.Int.Digits.{all_below_base_digits_of, number_digits_of, length-digits_of_step}
use Rattle.std.proofs.lemmas.List.{take-append-drop}
use Rattle.base_number.specs.Numbers.{SpecNumber, Scaled, InRadix, number_of, number_by, prefix_radix, decimal_number, decimal_value, in_radix, spells_digits, goes_on, spells_integer, spells_mantissa, spells_exponent, exponent_value, signed, is_negative, unsigned, plain, before, after, is_mark, trim_front, trim_back, onto_trimmed, scaled, scaled_by, numeral, IsDecimal, IsLargeInRadix, radix_of_letter, none_left, spells_octal, spells_non_octal}
use Rattle.base_number.proofs.NumberLemmas.{no_separator, first_not_zero, all_appended}
use Rattle.print_spelling.specs.Number.Numbers.{zeros, large_text, small_text, scaled_text, letter, is_prefixed, MinifiedIsRead}

-- ---- digits

digit_no_e : (c : ℕ) → digit_value c < 10 → is_mark 101 c ≡ false
digit_no_e c h = grind (arith, nat_tests)

digit_no_point : (c : ℕ) → digit_value c < 10 → is_mark 46 c ≡ false
digit_no_point c h = grind (arith, nat_tests)

before_digits : (mark : ℕ) → ((c : ℕ) → digit_value c < 10 → is_mark mark c ≡ false) → (ds r : List ℕ) → AllDigits 10 ds
    → before mark (ds ++ r) ≡ ds ++ before mark r
before_digits mark free [] r h = refl
before_digits mark free (d ∷ ds) r h =
    ap (λ b. cond b [] (d ∷ before mark (ds ++ r))) (free d h.0) ∙ ap (λ (x : List ℕ). d ∷ x) (before_digits mark free ds r h.1)

after_digits : (mark : ℕ) → ((c : ℕ) → digit_value c < 10 → is_mark mark c ≡ false) → (ds r : List ℕ) → AllDigits 10 ds
    → after mark (ds ++ r) ≡ after mark r
after_digits mark free [] r h = refl
after_digits mark free (d ∷ ds) r h =
    ap (λ b. cond b (Some (ds ++ r)) (after mark (ds ++ r))) (free d h.0) ∙ after_digits mark free ds r h.1

pub plain_digits : (radix : ℕ) (ds : List ℕ) → radix ≤ 36 → AllDigits radix ds → plain ds ≡ ds
plain_digits radix [] l h = refl
plain_digits radix (d ∷ ds) l h =
    ap (λ b. cond (not b) (d ∷ plain ds) (plain ds)) (no_separator radix d l h.0) ∙ ap (λ (x : List ℕ). d ∷ x) (plain_digits radix ds l h.1)

pub digits_go : (radix : ℕ) (ds : List ℕ) → AllDigits radix ds → goes_on radix true ds ≡ true
digits_go radix [] h = refl
digits_go radix (d ∷ ds) h =
    ap (λ b. cond b (goes_on radix true ds) (true && (d == 95 && goes_on radix false ds))) (lt-ltb (digit_value d) radix h.0) ∙ digits_go radix ds h.1

pub digits_spelled : (radix d : ℕ) (ds : List ℕ) → AllDigits radix (d ∷ ds) → spells_digits radix (d ∷ ds) ≡ true
digits_spelled radix d ds h =
    ap (λ b. cond b (goes_on radix true ds) (false && (d == 95 && goes_on radix false ds))) (lt-ltb (digit_value d) radix h.0) ∙ digits_go radix ds h.1

pub all_zeros : (n : ℕ) (m : List ℕ) → AllDigits 10 m → AllDigits 10 (zeros n m)
all_zeros zero m h = h
all_zeros (suc n) m h = (omega arith, all_zeros n m h)

pub all_taken : (n : ℕ) (ds : List ℕ) → AllDigits 10 ds → AllDigits 10 (take n ds)
all_taken zero ds h = tt
all_taken (suc n) [] h = tt
all_taken (suc n) (d ∷ ds) h = (h.0, all_taken n ds h.1)

pub all_dropped : (n : ℕ) (ds : List ℕ) → AllDigits 10 ds → AllDigits 10 (drop n ds)
all_dropped zero ds h = h
all_dropped (suc n) [] h = tt
all_dropped (suc n) (d ∷ ds) h = all_dropped n ds h.1

zeros_length : (n : ℕ) (m : List ℕ) → length (zeros n m) ≡ n + length m
zeros_length zero m = omega arith
zeros_length (suc n) m = omega (arith, zeros_length n m)

-- ---- numerals

-- digits of a number, one or more
pub record IsNumeralOf (n : ℕ) (ds : List ℕ) : Type 0 where
  pub first : ℕ
  pub others : List ℕ
  pub parts : ds ≡ first ∷ others
  pub digits : AllDigits 10 ds
  pub value : digits_value 10 ds ≡ n

shifted : (ds : List ℕ) → AllBelowBase 10 ds → AllDigits 10 (map (λ d. 48 + d) ds)
shifted [] h = tt
shifted (d ∷ ds) h = (digit d h.0, shifted ds h.1)
  where
    digit : (x : ℕ) → x < 10 → digit_value (48 + x) < 10
    digit x l = grind (arith, nat_tests)

shifted_value : (n : ℕ) (ds : List ℕ) → AllBelowBase 10 ds → digits_value_after 10 n (map (λ d. 48 + d) ds) ≡ number_from_digits_after 10 n ds
shifted_value n [] h = refl
shifted_value n (d ∷ ds) h =
    ap (λ x. digits_value_after 10 (n * 10 + x) (map (λ d. 48 + d) ds)) (digit d h.0) ∙ shifted_value (n * 10 + d) ds h.1
  where
    digit : (x : ℕ) → x < 10 → digit_value (48 + x) ≡ x
    digit x l = grind (arith, nat_tests)

cons_of : (ds : List ℕ) → 0 < length ds → (d : ℕ) × (es : List ℕ) × (ds ≡ d ∷ es)
cons_of [] h = absurd (omega arith)
cons_of (d ∷ ds) h = (d, ds, refl)

length_shifted : (ds : List ℕ) → length (map (λ d. 48 + d) ds) ≡ length ds
length_shifted [] = refl
length_shifted (d ∷ ds) = ap suc (length_shifted ds)

pub numeral_is : (n : ℕ) → IsNumeralOf n (numeral n)
unfolding numeral
numeral_is n = ⊎_elim
    (λ (e : (n == 0) ≡ true).
    subst (λ b. IsNumeralOf n (cond b (48 ∷ []) (map (λ d. 48 + d) (digits_of 10 n)))) (sym e)
    (record { first = 48; others = []; parts = refl; digits = (omega arith, tt); value = sym (eqb-true n 0 e) }))
    (λ (e : (n == 0) ≡ false).
    let some : 0 < n = let x = eqb-false n 0 e in grind arith in
    let ds = digits_of 10 n in
    let below = all_below_base_digits_of 10 n (omega arith) in
    let long : 0 < length (map (λ d. 48 + d) ds) = omega (arith, length_shifted ds, length-digits_of_step 10 n (omega arith) some) in
    let parts = cons_of (map (λ d. 48 + d) ds) long in
    subst (λ b. IsNumeralOf n (cond b (48 ∷ []) (map (λ d. 48 + d) ds))) (sym e)
    (record {
      first = parts.0;
      others = parts.1;
      parts = parts.2;
      digits = shifted ds below;
      value = shifted_value 0 ds below ∙ number_digits_of 10 n (omega arith);
    }))
    (cases_Bool (n == 0))

-- ---- a decimal number, by its parts

by_parts : List ℕ → Option (List ℕ) → Option (List ℕ) → Option SpecNumber
by_parts i f x = if spells_mantissa i f && spells_exponent x then Some (decimal_value i (unwrap_or f []) x) else None

pub in_parts : (text integer : List ℕ) (fraction exponent : Option (List ℕ)) → before 46 (before 101 text) ≡ integer → after 46 (before 101 text) ≡ fraction
    → after 101 text ≡ exponent → spells_mantissa integer fraction ≡ true → spells_exponent exponent ≡ true
    → decimal_number text ≡ Some (decimal_value integer (unwrap_or fraction []) exponent)
unfolding by_parts
in_parts text integer fraction exponent i f x m e =
    ap (λ y. by_parts y (after 46 (before 101 text)) (after 101 text)) i
    ∙ ap (λ y. by_parts integer y (after 101 text)) f
    ∙ ap (λ y. by_parts integer fraction y) x
    ∙ ap (λ b. if b && spells_exponent exponent then Some (decimal_value integer (unwrap_or fraction []) exponent) else None) m
    ∙ ap (λ b. if b then Some (decimal_value integer (unwrap_or fraction []) exponent) else None) e

pub no_prefix : (c : ℕ) (cs : List ℕ) → (c == 48) ≡ false → prefix_radix (c ∷ cs) ≡ None
no_prefix c [] e = refl
no_prefix c (l ∷ ls) e = ap (λ b. cond b (radix_of_letter l) None) e

pub unprefixed : (c : ℕ) (cs : List ℕ) → (c == 48) ≡ false → number_of (c ∷ cs) ≡ decimal_number (c ∷ cs)
unfolding number_of
unprefixed c cs e =
    ap (λ o. number_by o (c ∷ cs)) (no_prefix c cs e)
    ∙ ap (λ b. cond (b && spells_octal cs) (Some (in_radix 8 cs)) (decimal_number (c ∷ cs))) e

-- ---- the value of digits

scaled_is : (digits kept trimmed : List ℕ) (d : ℕ) (ds : List ℕ) (x : ℤ) (k : ℕ) → trim_front digits ≡ kept → trim_back kept ≡ d ∷ ds
    → length kept ≡ length (d ∷ ds) + k → scaled digits x ≡ Scaled (d ∷ ds) (x +ℤ pos k)
scaled_is digits kept trimmed d ds x k f b l =
    ap (λ y. scaled_by (trim_back y) (x +ℤ pos (length y - length (trim_back y)))) f
    ∙ ap (λ y. scaled_by y (x +ℤ pos (length kept - length y))) b
    ∙ ap (λ n. Scaled (d ∷ ds) (x +ℤ pos n)) (omega arith)

back_zeros : (n : ℕ) → trim_back (zeros n []) ≡ []
back_zeros zero = refl
back_zeros (suc n) = ap (onto_trimmed 48) (back_zeros n)

back_behind : (xs : List ℕ) (n : ℕ) → trim_back (xs ++ zeros n []) ≡ trim_back xs
back_behind [] n = back_zeros n
back_behind (x ∷ xs) n = ap (onto_trimmed x) (back_behind xs n)

front_zeros : (n : ℕ) (m : List ℕ) → trim_front (zeros n m) ≡ trim_front m
front_zeros zero m = refl
front_zeros (suc n) m = front_zeros n m

front_first : (c : ℕ) (cs : List ℕ) → (c == 48) ≡ false → trim_front (c ∷ cs) ≡ c ∷ cs
front_first c cs e = ap (λ b. cond b (trim_front cs) (c ∷ cs)) e

below_zero : (n : ℕ) → pos 0 +ℤ negsuc n ≡ negsuc n
below_zero n =
    ap (λ b. cond b (negsuc (suc n - suc 0)) (pos (0 - suc n))) (lt-ltb 0 (suc n) (omega arith)) ∙ ap negsuc (omega arith)

minus_is : (n : ℕ) → (pos 0 -ℤ pos (suc n)) +ℤ pos 0 ≡ negsuc n
minus_is n = ap (λ x. x +ℤ pos 0) (below_zero n) ∙ below_zero n

large_is : (n : ℕ) → (pos n -ℤ pos 0) +ℤ pos 0 ≡ pos n
large_is n = ap pos (omega arith)

small_is : (n : ℕ) → (neg_ℤ (pos (suc n)) -ℤ pos 0) +ℤ pos 0 ≡ negsuc n
small_is n = ap (λ x. x +ℤ pos 0) (below_zero n) ∙ below_zero n

-- ---- exponents

before_all : (mark : ℕ) → ((c : ℕ) → digit_value c < 10 → is_mark mark c ≡ false) → (ds : List ℕ) → AllDigits 10 ds → before mark ds ≡ ds
before_all mark free ds h = ap (before mark) (sym (append-nil ds)) ∙ before_digits mark free ds [] h ∙ append-nil ds

after_all : (mark : ℕ) → ((c : ℕ) → digit_value c < 10 → is_mark mark c ≡ false) → (ds : List ℕ) → AllDigits 10 ds → after mark ds ≡ None
after_all mark free ds h = ap (after mark) (sym (append-nil ds)) ∙ after_digits mark free ds [] h

record IsExponent (n : ℕ) (ds : List ℕ) : Type 0 where
  spelled : spells_digits 10 (unsigned ds) ≡ true
  value : signed (is_negative ds) (plain (unsigned ds)) ≡ pos n
  own : spells_digits 10 ds ≡ true
  own_value : digits_value 10 (plain ds) ≡ n

exponent_cons : (n c : ℕ) (cs : List ℕ) → AllDigits 10 (c ∷ cs) → digits_value 10 (c ∷ cs) ≡ n → IsExponent n (c ∷ cs)
exponent_cons n c cs h v =
    let sign : (c == 43 || c == 45) ≡ false = let x : digit_value c < 10 = h.0 in grind (arith, nat_tests) in
    let minus : (c == 45) ≡ false = let x : digit_value c < 10 = h.0 in grind (arith, nat_tests) in
    let same : unsigned (c ∷ cs) ≡ c ∷ cs = ap (λ b. cond b cs (c ∷ cs)) sign in
    let own = plain_digits 10 (c ∷ cs) (omega arith) h in
    record {
      spelled = ap (spells_digits 10) same ∙ digits_spelled 10 c cs h;
      value = ap (λ b. signed b (plain (unsigned (c ∷ cs)))) minus ∙ ap (λ l. signed false (plain l)) same ∙ ap (signed false) own ∙ ap pos v;
      own = digits_spelled 10 c cs h;
      own_value = ap (digits_value 10) own ∙ v;
    }

exponent_is : (n : ℕ) → IsExponent n (numeral n)
exponent_is n =
    let i = numeral_is n in
    subst (IsExponent n) (sym i.parts)
    (exponent_cons n i.first i.others (subst (λ (l : List ℕ). AllDigits 10 l) i.parts i.digits) (ap (digits_value 10) (sym i.parts) ∙ i.value))

spelled_if : (ds : List ℕ) → AllDigits 10 ds → 0 < length ds → spells_digits 10 ds ≡ true
spelled_if [] h l = absurd (omega arith)
spelled_if (d ∷ ds) h l = digits_spelled 10 d ds h

-- ---- digits and a power of ten

module _ (d : ℕ) (ds : List ℕ) (x : ℤ) (dec : IsDecimal (d ∷ ds) x) where
  nonzero : (d == 48) ≡ false
  nonzero = first_not_zero d ds dec.front

  integer_spelled : (es : List ℕ) → AllDigits 10 (d ∷ es) → spells_integer (d ∷ es) ≡ true
  integer_spelled es h = ap (λ b. cond b (none_left es || spells_non_octal es) (spells_digits 10 (d ∷ es))) nonzero ∙ digits_spelled 10 d es h

  -- with zeros behind
  pub zeros_behind : (n : ℕ) → number_of (d ∷ (ds ++ zeros n [])) ≡ Some (Scaled (d ∷ ds) (pos n))
  zeros_behind n =
      let text : List ℕ = d ∷ (ds ++ zeros n []) in
      let all : AllDigits 10 (d ∷ (ds ++ zeros n [])) = (dec.decimal.0, all_appended 10 ds (zeros n []) dec.decimal.1 (all_zeros n [] tt)) in
      let e = before_all 101 digit_no_e text all in
      unprefixed d (ds ++ zeros n []) nonzero
      ∙ in_parts text text None None (ap (before 46) e ∙ before_all 46 digit_no_point text all) (ap (after 46) e ∙ after_all 46 digit_no_point text all)
      (after_all 101 digit_no_e text all) (integer_spelled (ds ++ zeros n []) all) refl
      ∙ ap (λ l. Some (scaled (l ++ []) (pos 0 -ℤ pos 0))) (plain_digits 10 text (omega arith) all)
      ∙ ap (λ l. Some (scaled l (pos 0 -ℤ pos 0))) (append-nil text)
      ∙ ap (λ v. Some v) (scaled_is text text (d ∷ ds) d ds (pos 0 -ℤ pos 0) n (front_first d (ds ++ zeros n []) nonzero) (back_behind (d ∷ ds) n ∙ dec.back)
      (omega (arith, length-append ds (zeros n []), zeros_length n [])))
      ∙ ap (λ m. Some (Scaled (d ∷ ds) (pos m))) (omega arith)

  -- before a power of ten
  with_power : (tail : List ℕ) (z : ℤ) → spells_exponent (Some tail) ≡ true → (exponent_value (Some tail) -ℤ pos 0) +ℤ pos 0 ≡ z
      → number_of (d ∷ (ds ++ 101 ∷ tail)) ≡ Some (Scaled (d ∷ ds) z)
  with_power tail z s v =
      let text : List ℕ = d ∷ (ds ++ 101 ∷ tail) in
      let e : before 101 text ≡ d ∷ ds = before_digits 101 digit_no_e (d ∷ ds) (101 ∷ tail) dec.decimal ∙ append-nil (d ∷ ds) in
      unprefixed d (ds ++ 101 ∷ tail) nonzero
      ∙ in_parts text (d ∷ ds) None (Some tail) (ap (before 46) e ∙ before_all 46 digit_no_point (d ∷ ds) dec.decimal)
      (ap (after 46) e ∙ after_all 46 digit_no_point (d ∷ ds) dec.decimal) (after_digits 101 digit_no_e (d ∷ ds) (101 ∷ tail) dec.decimal)
      (integer_spelled ds dec.decimal) s
      ∙ ap (λ l. Some (scaled (l ++ []) (exponent_value (Some tail) -ℤ pos 0))) (plain_digits 10 (d ∷ ds) (omega arith) dec.decimal)
      ∙ ap (λ l. Some (scaled l (exponent_value (Some tail) -ℤ pos 0))) (append-nil (d ∷ ds))
      ∙ ap (λ w. Some w) (scaled_is (d ∷ ds) (d ∷ ds) (d ∷ ds) d ds (exponent_value (Some tail) -ℤ pos 0) 0 dec.front dec.back (omega arith))
      ∙ ap (λ w. Some (Scaled (d ∷ ds) w)) v

  large : (n : ℕ) → number_of (large_text (d ∷ ds) n) ≡ Some (Scaled (d ∷ ds) (pos n))
  large n = ⊎_elim
      (λ (e : nat_lt n 3 ≡ true). ap (λ b. number_of (cond b ((d ∷ ds) ++ zeros n []) ((d ∷ ds) ++ 101 ∷ numeral n))) e ∙ zeros_behind n)
      (λ (e : nat_lt n 3 ≡ false).
      let i = exponent_is n in
      ap (λ b. number_of (cond b ((d ∷ ds) ++ zeros n []) ((d ∷ ds) ++ 101 ∷ numeral n))) e
      ∙ with_power (numeral n) (pos n) i.spelled (ap (λ y. (y -ℤ pos 0) +ℤ pos 0) i.value ∙ large_is n))
      (cases_Bool (nat_lt n 3))

  -- with a point among the digits
  point_within : (k m : ℕ) → length (drop k ds) ≡ suc m → number_of (d ∷ (take k ds ++ 46 ∷ drop k ds)) ≡ Some (Scaled (d ∷ ds) (negsuc m))
  point_within k m l =
      let i : List ℕ = d ∷ take k ds in
      let f : List ℕ = drop k ds in
      let text : List ℕ = i ++ 46 ∷ f in
      let all_i : AllDigits 10 (d ∷ take k ds) = (dec.decimal.0, all_taken k ds dec.decimal.1) in
      let all_f : AllDigits 10 (drop k ds) = all_dropped k ds dec.decimal.1 in
      let e : before 101 text ≡ text = before_digits 101 digit_no_e i (46 ∷ f) all_i ∙ ap (λ y. i ++ 46 ∷ y) (before_all 101 digit_no_e f all_f) in
      let whole : i ++ f ≡ d ∷ ds = ap (λ (y : List ℕ). d ∷ y) (take-append-drop k ds) in
      let some : 0 < length f = omega arith in
      unprefixed d (take k ds ++ 46 ∷ drop k ds) nonzero
      ∙ in_parts text i (Some f) None (ap (before 46) e ∙ before_digits 46 digit_no_point i (46 ∷ f) all_i ∙ append-nil i)
      (ap (after 46) e ∙ after_digits 46 digit_no_point i (46 ∷ f) all_i)
      (after_digits 101 digit_no_e i (46 ∷ f) all_i ∙ after_all 101 digit_no_e f all_f)
      (ap (λ b. b && (none_left f || spells_digits 10 f)) (integer_spelled (take k ds) all_i) ∙ ap (λ b. none_left f || b) (spelled_if f all_f some) ∙ or_right (none_left f) true refl) refl
      ∙ ap (λ y. Some (scaled (y ++ plain f) (pos 0 -ℤ pos (length (plain f))))) (plain_digits 10 i (omega arith) all_i)
      ∙ ap (λ y. Some (scaled (i ++ y) (pos 0 -ℤ pos (length y)))) (plain_digits 10 f (omega arith) all_f)
      ∙ ap (λ y. Some (scaled y (pos 0 -ℤ pos (length f)))) whole
      ∙ ap (λ y. Some (scaled (d ∷ ds) (pos 0 -ℤ pos y))) l
      ∙ ap (λ w. Some w) (scaled_is (d ∷ ds) (d ∷ ds) (d ∷ ds) d ds (pos 0 -ℤ pos (suc m)) 0 dec.front dec.back (omega arith))
      ∙ ap (λ w. Some (Scaled (d ∷ ds) w)) (minus_is m)

  -- with a point before them
  point_before : (z m : ℕ) → z + length (d ∷ ds) ≡ suc m → number_of (46 ∷ zeros z (d ∷ ds)) ≡ Some (Scaled (d ∷ ds) (negsuc m))
  point_before z m l =
      let f : List ℕ = zeros z (d ∷ ds) in
      let all : AllDigits 10 (zeros z (d ∷ ds)) = all_zeros z (d ∷ ds) dec.decimal in
      let long : length f ≡ suc m = zeros_length z (d ∷ ds) ∙ l in
      let e : before 101 (46 ∷ f) ≡ 46 ∷ f = ap (λ (y : List ℕ). 46 ∷ y) (before_all 101 digit_no_e f all) in
      let some : 0 < length f = omega arith in
      unprefixed 46 f refl
      ∙ in_parts (46 ∷ f) [] (Some f) None (ap (before 46) e) (ap (after 46) e) (after_all 101 digit_no_e f all) (spelled_if f all some) refl
      ∙ ap (λ y. Some (scaled y (pos 0 -ℤ pos (length y)))) (plain_digits 10 f (omega arith) all)
      ∙ ap (λ y. Some (scaled f (pos 0 -ℤ pos y))) long
      ∙ ap (λ w. Some w) (scaled_is f (d ∷ ds) (d ∷ ds) d ds (pos 0 -ℤ pos (suc m)) 0 (front_zeros z (d ∷ ds) ∙ dec.front) dec.back (omega arith))
      ∙ ap (λ w. Some (Scaled (d ∷ ds) w)) (minus_is m)

  within_text : (k m : ℕ) → length (d ∷ ds) - suc m ≡ suc k → take (length (d ∷ ds) - suc m) (d ∷ ds) ++ 46 ∷ drop (length (d ∷ ds) - suc m) (d ∷ ds)
      ≡ d ∷ (take k ds ++ 46 ∷ drop k ds)
  within_text k m e = ap (λ n. take n (d ∷ ds) ++ 46 ∷ drop n (d ∷ ds)) e

  small : (m : ℕ) → number_of (small_text (d ∷ ds) (suc m)) ≡ Some (Scaled (d ∷ ds) (negsuc m))
  small m =
      let n : ℕ = suc m in
      let within : List ℕ = take (length (d ∷ ds) - suc m) (d ∷ ds) ++ 46 ∷ drop (length (d ∷ ds) - suc m) (d ∷ ds) in
      let before_them : List ℕ = 46 ∷ zeros (suc m - length (d ∷ ds)) (d ∷ ds) in
      let power : List ℕ = (d ∷ ds) ++ 101 ∷ 45 ∷ numeral (suc m) in
      ⊎_elim
      (λ (e : nat_lt (suc m) (length (d ∷ ds)) ≡ true).
      let less : suc m < length (d ∷ ds) = ltb-true (suc m) (length (d ∷ ds)) e in
      let k : ℕ = length ds - suc m in
      let at : length (d ∷ ds) - suc m ≡ suc (length ds - suc m) = omega arith in
      ap (λ b. number_of (cond b within (cond (nat_le (suc m) (length (d ∷ ds) + 2)) before_them power))) e
      ∙ ap number_of (within_text (length ds - suc m) m at)
      ∙ point_within (length ds - suc m) m (length-drop (length ds - suc m) ds ∙ omega arith))
      (λ (e : nat_lt (suc m) (length (d ∷ ds)) ≡ false).
      let more : length (d ∷ ds) ≤ suc m = ltb-false (suc m) (length (d ∷ ds)) e in
      ap (λ b. number_of (cond b within (cond (nat_le (suc m) (length (d ∷ ds) + 2)) before_them power))) e
      ∙ ⊎_elim
      (λ (f : nat_le (suc m) (length (d ∷ ds) + 2) ≡ true).
      ap (λ b. number_of (cond b before_them power)) f ∙ point_before (suc m - length (d ∷ ds)) m (omega arith))
      (λ (f : nat_le (suc m) (length (d ∷ ds) + 2) ≡ false).
      let i = exponent_is (suc m) in
      ap (λ b. number_of (cond b before_them power)) f
      ∙ with_power (45 ∷ numeral (suc m)) (negsuc m) i.own
      (ap (λ y. (neg_ℤ (pos y) -ℤ pos 0) +ℤ pos 0) i.own_value ∙ small_is m))
      (cases_Bool (nat_le (suc m) (length (d ∷ ds) + 2))))
      (cases_Bool (nat_lt (suc m) (length (d ∷ ds))))

-- ---- other radixes

pub letter_is : (radix : ℕ) → is_prefixed radix ≡ true → radix_of_letter (letter radix) ≡ Some radix
letter_is radix h = ⊎_elim
    (λ (e : (radix == 2) ≡ true). subst (λ r. radix_of_letter (letter r) ≡ Some r) (sym (eqb-true radix 2 e)) refl)
    (λ (e : (radix == 2) ≡ false). ⊎_elim
    (λ (f : (radix == 8) ≡ true). subst (λ r. radix_of_letter (letter r) ≡ Some r) (sym (eqb-true radix 8 f)) refl)
    (λ (f : (radix == 8) ≡ false).
    let g : (radix == 16) ≡ true = sym (ap (λ b. b || (radix == 8 || radix == 16)) e ∙ ap (λ b. b || radix == 16) f) ∙ h in
    subst (λ r. radix_of_letter (letter r) ≡ Some r) (sym (eqb-true radix 16 g)) refl)
    (cases_Bool (radix == 8)))
    (cases_Bool (radix == 2))

unfoldable pub kept_radix : ℕ → List ℕ → SpecNumber
kept_radix radix digits =
    if nat_lt (digits_value radix digits) (2 ^ 64) then scaled (decimal (digits_value radix digits)) (pos 0) else InRadix radix digits

some_digits : (radix : ℕ) (ds : List ℕ) → 18446744073709551616 ≤ digits_value radix ds → AllDigits radix ds → spells_digits radix ds ≡ true
some_digits radix [] l h = absurd (omega arith)
some_digits radix (d ∷ ds) l h = digits_spelled radix d ds h

pub radix_read : (radix : ℕ) (ds : List ℕ) → IsLargeInRadix radix ds → is_prefixed radix ≡ true → number_of (48 ∷ letter radix ∷ ds) ≡ Some (InRadix radix ds)
unfolding number_of kept_radix
radix_read radix ds h p =
    let own : trim_front (map to_ascii_lowercase (plain ds)) ≡ ds =
    ap (λ l. trim_front (map to_ascii_lowercase l)) (plain_digits radix ds (let u = h.upper in omega arith) h.digits_in_radix) ∙ ap trim_front h.lower_case ∙ h.front in
    let large : nat_lt (digits_value radix ds) (2 ^ 64) ≡ false = le-ltb (digits_value radix ds) (2 ^ 64) h.large in
    ap (λ o. number_by o (48 ∷ letter radix ∷ ds)) (letter_is radix p)
    ∙ ap (λ b. if b then Some (in_radix radix ds) else None) (some_digits radix ds h.large h.digits_in_radix)
    ∙ ap (λ l. Some (kept_radix radix l)) own
    ∙ ap (λ b. Some (if b then scaled (decimal (digits_value radix ds)) (pos 0) else InRadix radix ds)) large

pub zero_read : number_of (48 ∷ []) ≡ Some (Scaled [] (pos 0))
unfolding number_of
zero_read = refl

pub minified_is_read : MinifiedIsRead
minified_is_read (Scaled [] x) c p = zero_read ∙ ap (λ y. Some (Scaled [] y)) (sym (c.zero_exponent refl))
minified_is_read (Scaled (d ∷ ds) (pos n)) c p = large d ds (pos n) c n
minified_is_read (Scaled (d ∷ ds) (negsuc n)) c p = small d ds (negsuc n) c n
minified_is_read (InRadix radix ds) c p =
    let other : (radix == 10) ≡ false = grind (arith, nat_tests) in
    ap (λ b. number_of (cond b (scaled_text ds (pos 0)) (48 ∷ letter radix ∷ ds))) other ∙ radix_read radix ds c p
