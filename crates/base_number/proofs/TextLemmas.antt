-- Lemmas on the digits of a text.
use Rattle.std.proofs.Common.{◌≡◌, ℕ, suc, ◌+◌, ◌*◌, ◌<◌, ◌≤◌, Bool, true, false, List, [], ◌∷◌, ◌++◌, length, get_or, drop, map, refl, sym, ap, subst, ◌∙◌, arith, drop-cons, length-append, lit≤}
use Rattle.std.proofs.Math.Nat.{mul-le-mul_left}
use Rattle.std.specs.Prelude.{not, ◌==◌, unwrap_or, nat_lt, ◌^◌, ℤ, ◌+ℤ◌, ◌-ℤ◌, pos, ◌-◌, Some}
use Rattle.std.specs.Char.{digit_value, to_ascii_lowercase}
use Rattle.std.specs.Str.Parse.{digits_value, digits_value_after, AllDigits}
use Rattle.std.proofs.lemmas.List.Elements.{filter-append}
use Rattle.std.proofs.lemmas.Bool.Decides.{Decides-ltb, nat_tests}
use Rattle.std.specs.Fmt.{decimal}
use Rattle.std.proofs.lemmas.Fmt.{decimal_is_IsNumeral}
use Rattle.base_number.specs.Numbers.{plain, before, after, trim_front, trim_back, is_mark, spells_digits, spells_mantissa, spells_exponent, signed, exponent_value, scaled, scaled_by, decimal_number, in_radix, SpecNumber, InRadix}
use Rattle.std.specs.Int.Digits.{digits_of}
use Rattle.base_number.specs.DigitText.{is_between, digits_in}
use Rattle.base_number.proofs.DigitLemmas.{by_test, trim_back_at_zero, trim_back_at_other, spelled_digits, signed_trimmed, value_trimmed}
use Rattle.base_number.proofs.NumberLemmas.{front_digits, front_again, digits_again, same_digit, mantissa_digits}

-- a digit stands between no two
pub not_between : (radix c : ℕ) → radix ≤ 36 → digit_value c < radix → is_between c ≡ false
not_between radix c most small = grind (arith, nat_tests)

-- what begins with a digit, and what begins with something between digits
pub digit_first : (c : ℕ) (cs : List ℕ) → is_between c ≡ false → digits_in (c ∷ cs) ≡ c ∷ digits_in cs
digit_first c cs digit = rw digit refl

pub between_first : (c : ℕ) (cs : List ℕ) → is_between c ≡ true → digits_in (c ∷ cs) ≡ digits_in cs
between_first c cs between = rw between refl

-- the digits from a place on, where a digit stands there
pub digit_at : (text : List ℕ) (i : ℕ) → i < length text → is_between (get_or text i 0) ≡ false → digits_in (drop i text) ≡ get_or text i 0 ∷ digits_in (drop (i + 1) text)
digit_at text i within digit =
    let next : suc i ≡ i + 1 = omega arith in
    ap digits_in (drop-cons text i 0 within) ∙ (digit_first (get_or text i 0) (drop (suc i) text) digit ∙ ap (λ n. get_or text i 0 ∷ digits_in (drop n text)) next)

-- digits alone are their own digits
pub own_digits : (radix : ℕ) (ds : List ℕ) → radix ≤ 36 → AllDigits radix ds → digits_in ds ≡ ds
own_digits radix [] most all = refl
own_digits radix (c ∷ cs) most all =
    digit_first c cs (not_between radix c most all.0) ∙ ap (λ ds. c ∷ ds) (own_digits radix cs most all.1)

-- digits with separators
pub separated_digits : (radix : ℕ) (text : List ℕ) → radix ≤ 36 → AllDigits radix (plain text) → digits_in text ≡ plain text
separated_digits radix [] most all = refl
separated_digits radix (c ∷ cs) most all =
    by_test (c == 95) (digits_in (c ∷ cs) ≡ plain (c ∷ cs))
    (λ separator. rw separator (separated_digits radix cs most (rw separator at all)))
    (λ other. let digits : AllDigits radix (c ∷ plain cs) = rw other at all in
    digit_first c cs (not_between radix c most digits.0) ∙ (ap (λ ds. c ∷ ds) (separated_digits radix cs most digits.1) ∙ rw other refl))

-- a value only grows by more digits
pub value_grows : (radix n : ℕ) (ds : List ℕ) → 1 ≤ radix → n ≤ digits_value_after radix n ds
value_grows radix n [] positive = omega arith
value_grows radix n (d ∷ ds) positive =
    let rest : n * radix + digit_value d ≤ digits_value_after radix (n * radix + digit_value d) ds = value_grows radix (n * radix + digit_value d) ds positive in
    omega (arith, mul-le-mul_left n positive)

-- digits whose beginning is too large are too large
pub too_large : (radix n value : ℕ) (text : List ℕ) (i : ℕ) → 1 ≤ radix → digits_value_after radix n (digits_in (drop i text)) ≡ value → i < length text → is_between (get_or text i 0) ≡ false → 18446744073709551616 ≤ n * radix + digit_value (get_or text i 0) → value < 18446744073709551616 → ⊥
too_large radix n value text i positive is within digit large small =
    let more : digits_value_after radix (n * radix + digit_value (get_or text i 0)) (digits_in (drop (i + 1) text)) ≡ value = ap (digits_value_after radix n) (sym (digit_at text i within digit)) ∙ is in
    let least : n * radix + digit_value (get_or text i 0) ≤ digits_value_after radix (n * radix + digit_value (get_or text i 0)) (digits_in (drop (i + 1) text)) = value_grows radix (n * radix + digit_value (get_or text i 0)) (digits_in (drop (i + 1) text)) positive in
    absurd (omega arith)

-- the digits before the last character, where that is a digit
pub digit_last : (left front : List ℕ) (last : ℕ) → left ≡ front ++ (last ∷ []) → is_between last ≡ false → digits_in left ≡ digits_in front ++ (last ∷ [])
digit_last left front last is digit =
    ap digits_in is ∙ (filter-append (λ c. not (is_between c)) front (last ∷ []) ∙ ap (λ ds. digits_in front ++ ds) (digit_first last [] digit))

-- zeros at the end that are passed, while some of the text is left
pub record IsTrimmedSoFar (left text : List ℕ) (zeros : ℕ) : Type 0 where
  pub value : trim_back (digits_in left) ≡ trim_back (digits_in text)
  pub count : length (digits_in left) + zeros ≡ length (digits_in text)

-- a text has no more digits than characters
few_digits : (text : List ℕ) → length (digits_in text) ≤ length text
few_digits [] = lit≤ tt
few_digits (c ∷ cs) =
    let rest : length (digits_in cs) ≤ length cs = few_digits cs in
    by_test (is_between c) (length (digits_in (c ∷ cs)) ≤ length (c ∷ cs)) (λ e. rw e (omega arith)) (λ e. rw e (omega arith))

-- the zeros that are passed are no more than its characters
pub zeros_within : (left front text : List ℕ) (last zeros : ℕ) → left ≡ front ++ (last ∷ []) → last ≡ 48 → IsTrimmedSoFar left text zeros → zeros + 1 ≤ length text
zeros_within left front text last passed is zero so_far =
    let digits : digits_in left ≡ digits_in front ++ (last ∷ []) = digit_last left front last is (rw zero refl) in
    let long : length (digits_in left) ≡ length (digits_in front) + 1 = ap length digits ∙ length-append (digits_in front) (last ∷ []) in
    let most : length (digits_in text) ≤ length text = few_digits text in
    omega (arith, so_far.count)

-- a zero goes
pub zero_goes : (left front text : List ℕ) (last zeros : ℕ) → left ≡ front ++ (last ∷ []) → last ≡ 48 → IsTrimmedSoFar left text zeros → IsTrimmedSoFar front text (zeros + 1)
zero_goes left front text last zeros is zero so_far =
    let digits : digits_in left ≡ digits_in front ++ (last ∷ []) = digit_last left front last is (rw zero refl) in
    let long : length (digits_in left) ≡ length (digits_in front) + 1 = ap length digits ∙ length-append (digits_in front) (last ∷ []) in
    let count : length (digits_in left) + zeros ≡ length (digits_in text) = so_far.count in
    record {
      value = trim_back_at_zero (digits_in left) (digits_in front) last digits zero ∙ so_far.value;
      count = omega arith;
    }

-- any other digit stays
pub digit_stays : (left front text : List ℕ) (last zeros : ℕ) → left ≡ front ++ (last ∷ []) → (last ≡ 48 → ⊥) → is_between last ≡ false → IsTrimmedSoFar left text zeros → digits_in left ≡ trim_back (digits_in text)
digit_stays left front text last passed is other digit so_far =
    sym (trim_back_at_other (digits_in left) (digits_in front) last (digit_last left front last is digit) other) ∙ so_far.value

-- digits alone have their own value
pub own_value : (ds : List ℕ) → AllDigits 10 ds → digits_value 10 (digits_in ds) ≡ digits_value 10 ds
own_value ds all = ap (digits_value 10) (own_digits 10 ds (lit≤ tt) all)

-- digits alone without zeros in front
pub own_trimmed : (ds kept : List ℕ) → AllDigits 10 ds → kept ≡ trim_front (digits_in ds) → kept ≡ trim_front ds
own_trimmed ds kept all is = is ∙ ap trim_front (own_digits 10 ds (lit≤ tt) all)

-- what is spelled as digits, without separators and zeros in front
pub spelled_trimmed : (text kept : List ℕ) → spells_digits 10 text ≡ true → kept ≡ trim_front (digits_in text) → kept ≡ trim_front (plain text)
spelled_trimmed text kept spelled is =
    is ∙ ap trim_front (separated_digits 10 text (lit≤ tt) (spelled_digits 10 false text (lit≤ tt) spelled))

-- they are digits
pub spelled_kept : (text kept : List ℕ) → spells_digits 10 text ≡ true → kept ≡ trim_front (digits_in text) → AllDigits 10 kept
spelled_kept text kept spelled is =
    let P : List ℕ → Type 0 = λ ds. AllDigits 10 ds in
    subst P (sym (spelled_trimmed text kept spelled is)) (front_digits 10 (plain text) (spelled_digits 10 false text (lit≤ tt) spelled))

-- and stand for the same number
pub spelled_signed : (negative : Bool) (text kept : List ℕ) → spells_digits 10 text ≡ true → kept ≡ trim_front (digits_in text) → signed negative kept ≡ signed negative (plain text)
spelled_signed negative text kept spelled is =
    ap (signed negative) (spelled_trimmed text kept spelled is) ∙ signed_trimmed negative (plain text)

-- the digits behind others
all_behind : (radix : ℕ) (xs ys : List ℕ) → AllDigits radix (xs ++ ys) → AllDigits radix ys
all_behind radix [] ys all = all
all_behind radix (x ∷ xs) ys all = all_behind radix xs ys all.1

-- the digits of a mantissa are those around its point
pub mantissa_in : (text : List ℕ) → AllDigits 10 (plain (before 46 text) ++ plain (unwrap_or (after 46 text) [])) → digits_in text ≡ plain (before 46 text) ++ plain (unwrap_or (after 46 text) [])
mantissa_in [] all = refl
mantissa_in (c ∷ cs) all =
    by_test (is_mark 46 c) (digits_in (c ∷ cs) ≡ plain (before 46 (c ∷ cs)) ++ plain (unwrap_or (after 46 (c ∷ cs)) []))
    (λ point. let between : is_between c ≡ true = grind (arith, nat_tests) in
    between_first c cs between ∙ (separated_digits 10 cs (lit≤ tt) (rw point at all) ∙ rw point refl))
    (λ other. let rest : AllDigits 10 (plain (c ∷ before 46 cs) ++ plain (unwrap_or (after 46 cs) [])) = rw other at all in
    by_test (c == 95) (digits_in (c ∷ cs) ≡ plain (before 46 (c ∷ cs)) ++ plain (unwrap_or (after 46 (c ∷ cs)) []))
    (λ separator. rw other (rw separator (mantissa_in cs (rw separator at rest))))
    (λ digit. let digits : AllDigits 10 (c ∷ (plain (before 46 cs) ++ plain (unwrap_or (after 46 cs) []))) = rw digit at rest in
    digit_first c cs (not_between 10 c (lit≤ tt) digits.0) ∙ (ap (λ ds. c ∷ ds) (mantissa_in cs digits.1) ∙ rw other (rw digit refl))))

-- so are those of a fraction
pub fraction_in : (text : List ℕ) → AllDigits 10 (plain (before 46 text) ++ plain (unwrap_or (after 46 text) [])) → digits_in (unwrap_or (after 46 text) []) ≡ plain (unwrap_or (after 46 text) [])
fraction_in text all =
    separated_digits 10 (unwrap_or (after 46 text) []) (lit≤ tt) (all_behind 10 (plain (before 46 text)) (plain (unwrap_or (after 46 text) [])) all)

-- zeros in front count nothing, so digits of one value are one scaled number
pub scaled_same : (xs ys : List ℕ) (exponent : ℤ) → AllDigits 10 xs → AllDigits 10 ys → digits_value 10 xs ≡ digits_value 10 ys → scaled xs exponent ≡ scaled ys exponent
scaled_same xs ys exponent all all' is =
    ap (λ kept. scaled_by (trim_back kept) (exponent +ℤ pos (length kept - length (trim_back kept)))) trimmed
  where
    again : (ds : List ℕ) → AllDigits 10 ds → map (λ d. 48 + d) (digits_of 10 (digits_value 10 ds)) ≡ trim_front ds
    again ds all = ap (λ v. map (λ d. 48 + d) (digits_of 10 v)) (sym (value_trimmed ds)) ∙ digits_again (trim_front ds) (front_digits 10 ds all) (front_again ds)

    trimmed : trim_front xs ≡ trim_front ys
    trimmed = sym (again xs all) ∙ (ap (λ v. map (λ d. 48 + d) (digits_of 10 v)) is ∙ again ys all')

-- case does not count for a value
pub value_lower : (radix n : ℕ) (ds : List ℕ) → digits_value_after radix n (map to_ascii_lowercase ds) ≡ digits_value_after radix n ds
value_lower radix n [] = refl
value_lower radix n (d ∷ ds) =
    ap (λ v. digits_value_after radix (n * radix + v) (map to_ascii_lowercase ds)) (same_digit d) ∙ value_lower radix (n * radix + digit_value d) ds

-- nor for zeros in front
pub lower_trimmed : (ds : List ℕ) → map to_ascii_lowercase (trim_front ds) ≡ trim_front (map to_ascii_lowercase ds)
lower_trimmed [] = refl
lower_trimmed (d ∷ ds) =
    by_test (d == 48) (map to_ascii_lowercase (trim_front (d ∷ ds)) ≡ trim_front (map to_ascii_lowercase (d ∷ ds)))
    (λ zero_digit. let lower : (to_ascii_lowercase d == 48) ≡ true = grind (arith, nat_tests) in rw (zero_digit, lower) (lower_trimmed ds))
    (λ other. let lower : (to_ascii_lowercase d == 48) ≡ false = grind (arith, nat_tests) in rw (other, lower) refl)

-- the digits of a mantissa are digits
pub mantissa_all : (text : List ℕ) → spells_mantissa (before 46 text) (after 46 text) ≡ true → AllDigits 10 (digits_in text)
mantissa_all text spelled =
    let all : AllDigits 10 (plain (before 46 text) ++ plain (unwrap_or (after 46 text) [])) = mantissa_digits (before 46 text) (after 46 text) spelled in
    let P : List ℕ → Type 0 = λ ds. AllDigits 10 ds in
    subst P (sym (mantissa_in text all)) all

-- a decimal number, by the digits of its parts
pub decimal_is : (text mantissa : List ℕ) (value : SpecNumber) → mantissa ≡ before 101 text → spells_mantissa (before 46 mantissa) (after 46 mantissa) ≡ true → spells_exponent (after 101 text) ≡ true → value ≡ scaled (digits_in mantissa) (exponent_value (after 101 text) -ℤ pos (length (digits_in (unwrap_or (after 46 mantissa) [])))) → Some value ≡ decimal_number text
decimal_is text mantissa value cut spelled spelled' is =
    let all : AllDigits 10 (plain (before 46 mantissa) ++ plain (unwrap_or (after 46 mantissa) [])) = mantissa_digits (before 46 mantissa) (after 46 mantissa) spelled in
    rw (← cut, spelled, spelled') (ap (λ x. Some x) (is ∙ parts (digits_in mantissa) (digits_in (unwrap_or (after 46 mantissa) [])) _ _ (mantissa_in mantissa all) (fraction_in mantissa all)))
  where
    parts : (xs ys xs' ys' : List ℕ) → xs ≡ xs' → ys ≡ ys' → scaled xs (exponent_value (after 101 text) -ℤ pos (length ys)) ≡ scaled xs' (exponent_value (after 101 text) -ℤ pos (length ys'))
    parts xs ys xs' ys' same same' = rw (same, same') refl

-- digits alone stay digits
pub own_all : (ds : List ℕ) → AllDigits 10 ds → AllDigits 10 (digits_in ds)
own_all ds all = let P : List ℕ → Type 0 = λ xs. AllDigits 10 xs in subst P (sym (own_digits 10 ds (lit≤ tt) all)) all

-- the digits of a text in a radix, in lower case and without zeros in front
pub radix_digits : (radix : ℕ) (text kept : List ℕ) → radix ≤ 16 → AllDigits radix (plain text) → digits_in kept ≡ trim_front (digits_in text) → map to_ascii_lowercase (digits_in kept) ≡ trim_front (map to_ascii_lowercase (plain text))
radix_digits radix text kept most all is =
    ap (map to_ascii_lowercase) (is ∙ ap trim_front (separated_digits radix text (omega arith) all)) ∙ lower_trimmed (plain text)

-- their value
pub radix_value : (radix : ℕ) (text kept : List ℕ) → radix ≤ 16 → AllDigits radix (plain text) → digits_in kept ≡ trim_front (digits_in text) → digits_value radix (trim_front (map to_ascii_lowercase (plain text))) ≡ digits_value radix (digits_in kept)
radix_value radix text kept most all is =
    ap (digits_value radix) (sym (radix_digits radix text kept most all is)) ∙ value_lower radix 0 (digits_in kept)

-- a number in a radix that fits 64 bits
pub small_in_radix : (radix value : ℕ) (text kept digits : List ℕ) → radix ≤ 16 → AllDigits radix (plain text) → digits_in kept ≡ trim_front (digits_in text) → value ≡ digits_value radix (digits_in kept) → value < 18446744073709551616 → AllDigits 10 digits → digits_value 10 digits ≡ value → scaled (digits_in digits) (pos 0) ≡ in_radix radix text
small_in_radix radix value text kept digits most all is is' small decimals same =
    let whole : digits_value radix (trim_front (map to_ascii_lowercase (plain text))) ≡ value = radix_value radix text kept most all is ∙ sym is' in
    let fits : digits_value radix (trim_front (map to_ascii_lowercase (plain text))) < 18446744073709551616 = omega arith in
    let told : nat_lt (digits_value radix (trim_front (map to_ascii_lowercase (plain text)))) (2 ^ 64) ≡ true = (Decides-ltb _ _).1 fits in
    let numeral = decimal_is_IsNumeral (digits_value radix (trim_front (map to_ascii_lowercase (plain text)))) fits in
    rw told (scaled_same (digits_in digits) (decimal (digits_value radix (trim_front (map to_ascii_lowercase (plain text))))) (pos 0) (own_all digits decimals) numeral.0.1 (own_value digits decimals ∙ (same ∙ (sym whole ∙ sym numeral.1))))

-- one that does not
pub large_in_radix : (radix : ℕ) (text kept digits : List ℕ) → radix ≤ 16 → AllDigits radix (plain text) → digits_in kept ≡ trim_front (digits_in text) → digits ≡ map to_ascii_lowercase (digits_in kept) → (digits_value radix (digits_in kept) < 18446744073709551616 → ⊥) → InRadix radix digits ≡ in_radix radix text
large_in_radix radix text kept digits most all is is' large =
    let whole : digits_value radix (trim_front (map to_ascii_lowercase (plain text))) ≡ digits_value radix (digits_in kept) = radix_value radix text kept most all is in
    by_test (nat_lt (digits_value radix (trim_front (map to_ascii_lowercase (plain text)))) (2 ^ 64)) (InRadix radix digits ≡ in_radix radix text)
    (λ told. absurd (let fits : digits_value radix (trim_front (map to_ascii_lowercase (plain text))) < 18446744073709551616 = (Decides-ltb _ _).0 told in large (omega arith)))
    (λ told. rw told (ap (InRadix radix) (is' ∙ radix_digits radix text kept most all is)))
