-- Lemmas on the form in which numbers are kept.
use Rattle.std.proofs.Common.{◌≡◌, ℕ, zero, suc, ◌+◌, ◌-◌, ◌*◌, ◌/◌, ◌%◌, ◌^◌, ◌<◌, ◌≤◌, Bool, true, false, List, [], ◌∷◌, ◌++◌, length, map, refl, sym, ap, subst, ◌∙◌, arith, Bor, lit<, lit≤, reverse, Option, Some, None}
use Rattle.std.proofs.Math.Nat.{pow-succ'}
use Rattle.std.specs.Prelude.{◌==◌, ◌||◌, unwrap_or}
use Rattle.std.specs.Str.{IsAscii}
use Rattle.std.specs.Prelude.{Result, Ok, Err, MatchResult, IsOk}
use Rattle.std.specs.Option.{option_copied}
use Rattle.std.specs.List.{list_all}
use Rattle.std.specs.Char.{digit_value, is_digit, to_ascii_lowercase}
use Rattle.std.specs.Str.Parse.{digits_value, AllDigits}
use Rattle.std.specs.Int.Digits.{digits_of}
use Rattle.std.proofs.lemmas.Int.Digits.{digits_value_push, digits_of_step}
use Rattle.std.proofs.lemmas.Bool.Decides.{Decides-eqb, nat_tests}
use Rattle.std.proofs.lemmas.Bool.{ltb-true, and_parts}
use Rattle.std.proofs.lemmas.List.{map-append, reverse-reverse}
use Rattle.std.proofs.lemmas.Grind.{reverse_onto}
use Rattle.std.specs.Prelude.{ℤ, pos}
use Rattle.base_number.specs.NumberForm.{IsSigned}
use Rattle.base_number.specs.Numbers.{IsDecimal, IsLargeInRadix, trim_front, trim_back, onto_trimmed, plain, numeral, none_left, spells_digits, spells_integer, spells_mantissa, spells_non_octal, spells_octal}
use Rattle.base_number.proofs.DigitLemmas.{by_test, eqb_false, spelled_digits}
use Rattle.base_number.proofs.DigitSums.{digit_range, all_but_last, value_cons}

-- a digit is no separator
pub no_separator : (radix c : ℕ) → radix ≤ 36 → digit_value c < radix → (c == 95) ≡ false
no_separator radix c most small = eqb_false c 95 (λ same. absurd (let at : digit_value 95 < radix = (let P : ℕ → Type 0 = λ n. digit_value n < radix in subst P same small) in omega (arith, at)))

-- digits alone are digits without separators
pub plain_digits : (radix : ℕ) (text : List ℕ) → radix ≤ 36 → list_all (λ c. is_digit c radix) text ≡ true → AllDigits radix (plain text)
plain_digits radix [] most all = tt
plain_digits radix (c ∷ cs) most all =
    let parts : (is_digit c radix ≡ true) × (list_all (λ c. is_digit c radix) cs ≡ true) = and_parts _ _ all in
    let small : digit_value c < radix = ltb-true _ _ parts.0 in
    rw (no_separator radix c most small) (small, plain_digits radix cs most parts.1)

after_zero : (cs : List ℕ) → (none_left cs || spells_non_octal cs) ≡ true → AllDigits 10 (plain cs)
after_zero [] spelled = tt
after_zero (c ∷ cs) spelled = plain_digits 10 (c ∷ cs) (lit≤ tt) (and_parts _ _ spelled).0

-- the digits of an integer
pub integer_digits : (text : List ℕ) → spells_integer text ≡ true → AllDigits 10 (plain text)
integer_digits [] spelled = tt
integer_digits (c ∷ cs) spelled =
    by_test (c == 48) (AllDigits 10 (plain (c ∷ cs)))
    (λ zero_digit.
    let rest : (none_left cs || spells_non_octal cs) ≡ true = rw zero_digit at spelled in
    let zero_small : digit_value c < 10 = (let P : ℕ → Type 0 = λ n. digit_value n < 10 in subst P (sym ((Decides-eqb c 48).0 zero_digit)) (lit< tt)) in
    rw (no_separator 10 c (lit≤ tt) zero_small) (zero_small, after_zero cs rest))
    (λ other. spelled_digits 10 false (c ∷ cs) (omega arith) (rw other at spelled))

-- the same of two lists
pub all_appended : (radix : ℕ) (xs ys : List ℕ) → AllDigits radix xs → AllDigits radix ys → AllDigits radix (xs ++ ys)
all_appended radix [] ys all all' = all'
all_appended radix (x ∷ xs) ys all all' = (all.0, all_appended radix xs ys all.1 all')

fraction_digits : (fraction : List ℕ) → (none_left fraction || spells_digits 10 fraction) ≡ true → AllDigits 10 (plain fraction)
fraction_digits [] spelled = tt
fraction_digits (c ∷ cs) spelled = spelled_digits 10 false (c ∷ cs) (lit≤ tt) spelled

-- the digits of a mantissa
pub mantissa_digits : (integer : List ℕ) (fraction : Option (List ℕ)) → spells_mantissa integer fraction ≡ true → AllDigits 10 (plain integer ++ plain (unwrap_or fraction []))
mantissa_digits integer None spelled = all_appended 10 _ _ (integer_digits integer spelled) tt
mantissa_digits [] (Some fraction) spelled = spelled_digits 10 false fraction (omega arith) spelled
mantissa_digits (c ∷ cs) (Some fraction) spelled =
    let parts : (spells_integer (c ∷ cs) ≡ true) × ((none_left fraction || spells_digits 10 fraction) ≡ true) = and_parts _ _ spelled in
    all_appended 10 (plain (c ∷ cs)) (plain fraction) (integer_digits (c ∷ cs) parts.0) (fraction_digits fraction parts.1)

-- a digit in lower case is the same digit
pub same_digit : (c : ℕ) → digit_value (to_ascii_lowercase c) ≡ digit_value c
same_digit c = grind (arith, nat_tests)

pub lower_digits : (radix : ℕ) (ds : List ℕ) → AllDigits radix ds → AllDigits radix (map to_ascii_lowercase ds)
lower_digits radix [] all = tt
lower_digits radix (c ∷ cs) all = (rw same_digit all.0, lower_digits radix cs all.1)

pub front_digits : (radix : ℕ) (ds : List ℕ) → AllDigits radix ds → AllDigits radix (trim_front ds)
front_digits radix [] all = tt
front_digits radix (c ∷ cs) all =
    by_test (c == 48) (AllDigits radix (trim_front (c ∷ cs))) (λ e. rw e (front_digits radix cs all.1)) (λ e. rw e all)

pub back_digits : (radix : ℕ) (ds : List ℕ) → AllDigits radix ds → AllDigits radix (trim_back ds)
back_digits radix [] all = tt
back_digits radix (c ∷ cs) all = onto (trim_back cs) (back_digits radix cs all.1)
  where
    onto : (xs : List ℕ) → AllDigits radix xs → AllDigits radix (onto_trimmed c xs)
    onto [] rest = by_test (c == 48) (AllDigits radix (onto_trimmed c [])) (λ e. rw e tt) (λ e. rw e (all.0, tt))
    onto (x ∷ xs) rest = (all.0, rest)

pub front_again : (ds : List ℕ) → trim_front (trim_front ds) ≡ trim_front ds
front_again [] = refl
front_again (c ∷ cs) = by_test (c == 48) (trim_front (trim_front (c ∷ cs)) ≡ trim_front (c ∷ cs)) (λ e. rw e (front_again cs)) (λ e. rw e (rw e refl))

pub back_again : (ds : List ℕ) → trim_back (trim_back ds) ≡ trim_back ds
back_again [] = refl
back_again (c ∷ cs) = onto (trim_back cs) (back_again cs)
  where
    onto : (xs : List ℕ) → trim_back xs ≡ xs → trim_back (onto_trimmed c xs) ≡ onto_trimmed c xs
    onto [] rest = by_test (c == 48) (trim_back (onto_trimmed c []) ≡ onto_trimmed c []) (λ e. rw e refl) (λ e. rw e (rw e refl))
    onto (x ∷ xs) rest = ap (onto_trimmed c) rest

shorter_front : (ds : List ℕ) → length (trim_front ds) ≤ length ds
shorter_front [] = lit≤ tt
shorter_front (c ∷ cs) =
    let rest : length (trim_front cs) ≤ length cs = shorter_front cs in
    by_test (c == 48) (length (trim_front (c ∷ cs)) ≤ length (c ∷ cs)) (λ e. rw e (omega arith)) (λ e. rw e (omega arith))

-- what stays as it is without zeros in front has none there
pub first_not_zero : (c : ℕ) (cs : List ℕ) → trim_front (c ∷ cs) ≡ c ∷ cs → (c == 48) ≡ false
first_not_zero c cs front =
    by_test (c == 48) ((c == 48) ≡ false)
    (λ e. let moved : trim_front cs ≡ c ∷ cs = rw e at front in
    let rest : length (trim_front cs) ≤ length cs = shorter_front cs in
    let long : length (trim_front cs) ≡ suc (length cs) = ap length moved in
    absurd (omega arith))
    (λ e. e)

-- zeros that go at the end bring none to the front
pub front_of_back : (ds : List ℕ) → trim_front ds ≡ ds → trim_front (trim_back ds) ≡ trim_back ds
front_of_back [] front = refl
front_of_back (c ∷ cs) front = onto (trim_back cs)
  where
    onto : (xs : List ℕ) → trim_front (onto_trimmed c xs) ≡ onto_trimmed c xs
    onto [] = by_test (c == 48) (trim_front (onto_trimmed c []) ≡ onto_trimmed c []) (λ e. rw e refl) (λ e. rw e (rw e refl))
    onto (x ∷ xs) = rw (first_not_zero c cs front) refl

-- a list of digits without zeros in front is 0 only where it has none
pub value_positive : (c : ℕ) (cs : List ℕ) → AllDigits 10 (c ∷ cs) → trim_front (c ∷ cs) ≡ c ∷ cs → 0 < digits_value 10 (c ∷ cs)
value_positive c cs all front =
    let range : (48 ≤ c) × (c < 58) × (digit_value c ≡ c - 48) = digit_range c all.0 in
    let other : c ≡ 48 → ⊥ = λ same. (let equal : (c == 48) ≡ true = (Decides-eqb c 48).1 same in let differs : (c == 48) ≡ false = first_not_zero c cs front in cc) in
    let first : 1 ≤ digit_value c = rw range.2 (omega arith) in
    rw (value_cons c cs) (large (digit_value c) (10 ^ length cs) (digits_value 10 cs) first (power_positive (length cs)))
  where
    power_positive : (n : ℕ) → 1 ≤ 10 ^ n
    power_positive zero = lit≤ tt
    power_positive (suc n) = let rest : 1 ≤ 10 ^ n = power_positive n in rw (pow-succ' 10 n) (omega arith)

    large : (d P V : ℕ) → 1 ≤ d → 1 ≤ P → 0 < d * P + V
    large (suc d) P V first second = omega arith
    large zero P V first second = absurd (omega arith)

-- the same before the last digit
front_before_last : (xs : List ℕ) (d : ℕ) → trim_front (xs ++ (d ∷ [])) ≡ xs ++ (d ∷ []) → trim_front xs ≡ xs
front_before_last [] d front = refl
front_before_last (c ∷ cs) d front = rw (first_not_zero c (cs ++ (d ∷ [])) front) refl

positive_at_last : (xs : List ℕ) (d : ℕ) → AllDigits 10 (xs ++ (d ∷ [])) → trim_front (xs ++ (d ∷ [])) ≡ xs ++ (d ∷ []) → 0 < digits_value 10 (xs ++ (d ∷ []))
positive_at_last [] d all front = value_positive d [] all front
positive_at_last (c ∷ cs) d all front = value_positive c (cs ++ (d ∷ [])) all front

-- one digit more at the end
digits_pushed : (xs : List ℕ) (d v : ℕ) → digits_value 10 xs * 10 + (d - 48) ≡ v → 48 ≤ d → d < 58 → 0 < v → map (λ d. 48 + d) (digits_of 10 (digits_value 10 xs)) ≡ xs → map (λ d. 48 + d) (digits_of 10 v) ≡ xs ++ (d ∷ [])
digits_pushed xs d v is least most positive before =
    let tens : v / 10 ≡ digits_value 10 xs = omega arith in
    let ones : v % 10 ≡ d - 48 = omega arith in
    let back : 48 + (d - 48) ≡ d = omega arith in
    ap (map (λ d. 48 + d)) (digits_of_step 10 v (lit≤ tt) positive) ∙ (map-append (λ d. 48 + d) (digits_of 10 (v / 10)) (v % 10 ∷ []) ∙ (ap (λ n. map (λ d. 48 + d) (digits_of 10 n) ++ ((48 + v % 10) ∷ [])) tens ∙ (ap (λ ds. ds ++ ((48 + v % 10) ∷ [])) before ∙ ap (λ x. xs ++ (x ∷ [])) (ap (λ n. 48 + n) ones ∙ back))))

digits_with_last : (xs : List ℕ) (d : ℕ) → AllDigits 10 (xs ++ (d ∷ [])) → trim_front (xs ++ (d ∷ [])) ≡ xs ++ (d ∷ []) → (AllDigits 10 xs → trim_front xs ≡ xs → map (λ d. 48 + d) (digits_of 10 (digits_value 10 xs)) ≡ xs) → map (λ d. 48 + d) (digits_of 10 (digits_value 10 (xs ++ (d ∷ [])))) ≡ xs ++ (d ∷ [])
digits_with_last xs d all front before =
    let parts : AllDigits 10 xs × (digit_value d < 10) = all_but_last xs d all in
    let range : (48 ≤ d) × (d < 58) × (digit_value d ≡ d - 48) = digit_range d parts.1 in
    digits_pushed xs d (digits_value 10 (xs ++ (d ∷ []))) (sym (digits_value_push 10 xs d ∙ ap (λ z. digits_value 10 xs * 10 + z) range.2)) range.0 range.1 (positive_at_last xs d all front) (before parts.0 (front_before_last xs d front))

digits_of_reversed : (rs : List ℕ) → AllDigits 10 (reverse rs) → trim_front (reverse rs) ≡ reverse rs → map (λ d. 48 + d) (digits_of 10 (digits_value 10 (reverse rs))) ≡ reverse rs
digits_of_reversed [] all front = refl
digits_of_reversed (r ∷ rs) all front =
    let last : reverse (r ∷ rs) ≡ reverse rs ++ (r ∷ []) = reverse_onto rs r [] in
    let P : List ℕ → Type 0 = λ ds. AllDigits 10 ds in
    let Q : List ℕ → Type 0 = λ ds. trim_front ds ≡ ds in
    let R : List ℕ → Type 0 = λ ds. map (λ d. 48 + d) (digits_of 10 (digits_value 10 ds)) ≡ ds in
    subst R (sym last) (digits_with_last (reverse rs) r (subst P last all) (subst Q last front) (digits_of_reversed rs))

-- digits without zeros in front are the digits of their value
pub digits_again : (ds : List ℕ) → AllDigits 10 ds → trim_front ds ≡ ds → map (λ d. 48 + d) (digits_of 10 (digits_value 10 ds)) ≡ ds
digits_again ds all front =
    let P : List ℕ → Type 0 = λ xs. AllDigits 10 xs → trim_front xs ≡ xs → map (λ d. 48 + d) (digits_of 10 (digits_value 10 xs)) ≡ xs in
    subst P (reverse-reverse ds) (digits_of_reversed (reverse ds)) all front

-- they are its numeral, where it is not 0
pub numeral_again : (ds : List ℕ) → AllDigits 10 ds → trim_front ds ≡ ds → (ds ≡ [] → ⊥) → ds ≡ numeral (digits_value 10 ds)
unfolding numeral
numeral_again [] all front some = absurd (some refl)
numeral_again (c ∷ cs) all front some =
    let positive : 0 < digits_value 10 (c ∷ cs) = value_positive c cs all front in
    let not_zero : (digits_value 10 (c ∷ cs) == 0) ≡ false = eqb_false _ 0 (λ e. absurd (omega arith)) in
    rw not_zero (sym (digits_again (c ∷ cs) all front))

pub zero_numeral : (48 ∷ []) ≡ numeral 0
unfolding numeral
zero_numeral = refl

-- a sign and digits without zeros in front, where some are left
pub kept_signed : (negative : Bool) (ds kept : List ℕ) → AllDigits 10 ds → kept ≡ trim_front ds → (length kept == 0) ≡ false → IsSigned negative kept
kept_signed negative ds kept all is some =
    let P : List ℕ → Type 0 = λ xs. AllDigits 10 xs in
    let digits : AllDigits 10 kept = subst P (sym is) (front_digits 10 ds all) in
    let front : trim_front kept ≡ kept = ap trim_front is ∙ (front_again ds ∙ sym is) in
    signed_of kept digits front some
  where
    signed_of : (kept : List ℕ) → AllDigits 10 kept → trim_front kept ≡ kept → (length kept == 0) ≡ false → IsSigned negative kept
    signed_of [] digits front some = absurd (cc)
    signed_of (c ∷ cs) digits front some = record {
      decimal = digits;
      digits_again = numeral_again (c ∷ cs) digits front (λ e. cc);
      sign = λ _. value_positive c cs digits front;
    }

-- 0 has no minus
pub zero_signed : IsSigned false (48 ∷ [])
zero_signed = record { decimal = (lit< tt, tt); digits_again = zero_numeral; sign = λ e. absurd (cc) }

-- digits without zeros at either end
pub kept_decimal : (digits kept trimmed : List ℕ) (exponent : ℤ) → AllDigits 10 digits → kept ≡ trim_front digits → trimmed ≡ trim_back kept → (trimmed ≡ [] → exponent ≡ pos 0) → IsDecimal trimmed exponent
kept_decimal digits kept trimmed exponent all is is' zero_exponent =
    let P : List ℕ → Type 0 = λ xs. AllDigits 10 xs in
    let kept_digits : AllDigits 10 kept = subst P (sym is) (front_digits 10 digits all) in
    let front : trim_front kept ≡ kept = ap trim_front is ∙ (front_again digits ∙ sym is) in
    record {
      decimal = subst P (sym is') (back_digits 10 kept kept_digits);
      front = ap trim_front is' ∙ (front_of_back kept front ∙ sym is');
      back = ap trim_back is' ∙ (back_again kept ∙ sym is');
      zero_exponent = zero_exponent;
    }

lower_twice : (xs : List ℕ) → map to_ascii_lowercase (map to_ascii_lowercase xs) ≡ map to_ascii_lowercase xs
lower_twice [] = refl
lower_twice (x ∷ xs) =
    let once : to_ascii_lowercase (to_ascii_lowercase x) ≡ to_ascii_lowercase x = grind (arith, nat_tests) in
    let rest : map to_ascii_lowercase (map to_ascii_lowercase xs) ≡ map to_ascii_lowercase xs = lower_twice xs in
    cons_same _ _ _ _ once rest
  where
    cons_same : (a b : ℕ) (xs ys : List ℕ) → a ≡ b → xs ≡ ys → a ∷ xs ≡ b ∷ ys
    cons_same a b xs ys e f = cc

lower_front : (xs : List ℕ) → map to_ascii_lowercase xs ≡ xs → map to_ascii_lowercase (trim_front xs) ≡ trim_front xs
lower_front [] lower = refl
lower_front (x ∷ xs) lower =
    by_test (x == 48) (map to_ascii_lowercase (trim_front (x ∷ xs)) ≡ trim_front (x ∷ xs))
    (λ e. rw e (lower_front xs (tail_same _ _ _ _ lower)))
    (λ e. rw e lower)
  where
    tail_same : (a b : ℕ) (xs ys : List ℕ) → a ∷ xs ≡ b ∷ ys → xs ≡ ys
    tail_same a b xs ys e = cc

-- digits in another radix past 64 bits
pub kept_in_radix : (radix : ℕ) (text digits : List ℕ) → 2 ≤ radix → radix ≤ 16 → AllDigits radix (plain text) → digits ≡ trim_front (map to_ascii_lowercase (plain text)) → (digits_value radix digits < 18446744073709551616 → ⊥) → IsLargeInRadix radix digits
kept_in_radix radix text digits least most all is large =
    let P : List ℕ → Type 0 = λ xs. AllDigits radix xs in
    record {
      lower = least;
      upper = most;
      digits_in_radix = subst P (sym is) (front_digits radix _ (lower_digits radix (plain text) all));
      lower_case = ap (map to_ascii_lowercase) is ∙ (lower_front _ (lower_twice (plain text)) ∙ sym is);
      front = ap trim_front is ∙ (front_again (map to_ascii_lowercase (plain text)) ∙ sym is);
      large = omega (arith, large);
    }

-- an octal number of the old form is digits
pub octal_digits : (text : List ℕ) → spells_octal text ≡ true → AllDigits 8 (plain text)
octal_digits text spelled = plain_digits 8 text (lit≤ tt) (and_parts _ _ spelled).1

-- what a slice behind a reference is, or nothing
pub copied_or : (o : Option (Bor (List ℕ))) (d : Bor (List ℕ)) → d.now ≡ [] → (unwrap_or o d).now ≡ unwrap_or (option_copied o) []
copied_or None d none = none
copied_or (Some x) d none = refl

-- digits are ASCII
pub ascii_digits : (radix : ℕ) (ds : List ℕ) → radix ≤ 36 → AllDigits radix ds → IsAscii ds
ascii_digits radix [] most all i = lit< tt
ascii_digits radix (c ∷ cs) most all zero = below c radix most all.0
  where
    below : (c radix : ℕ) → radix ≤ 36 → digit_value c < radix → c < 128
    below c radix most small = grind (arith, nat_tests)
ascii_digits radix (c ∷ cs) most all (suc i) = ascii_digits radix cs most all.1 i

-- what cannot fail has not failed
pub valid_text : {T E : Type 0} (P : T → Type 0) (Q : E → Type 0) (r : Result T E) → ((e : E) → Q e → ⊥) → MatchResult r P Q → IsOk r
valid_text P Q (Ok x) bad cases = refl
valid_text P Q (Err e) bad cases = absurd (bad e cases)
