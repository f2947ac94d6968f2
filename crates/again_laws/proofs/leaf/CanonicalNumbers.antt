-- A number that is read is in its one form, of a radix with a prefix.
use Rattle.std.proofs.Common.{◌≡◌, ℕ, ◌<◌, ◌≤◌, Bool, true, false, ◌&&◌, List, [], ◌∷◌, ◌++◌, length, Option, Some, None, refl, subst, arith}
use Rattle.std.specs.Prelude.{◌==◌, if◌then◌else◌, nat_lt, map, unwrap_or, ◌^◌, ℤ, pos, ◌+ℤ◌, ◌-ℤ◌, ◌-◌}
use Rattle.std.specs.Char.{to_ascii_lowercase}
use Rattle.std.specs.Str.Parse.{digits_value, AllDigits}
use Rattle.std.specs.Fmt.{decimal}
use Rattle.std.proofs.lemmas.Fmt.{decimal_is_IsNumeral}
use Rattle.std.proofs.lemmas.Bool.{and_parts, ltb-true, ltb-false}
use Rattle.base_number.specs.Numbers.{SpecNumber, InRadix, number_of, number_by, prefix_radix, radix_of_letter, unprefixed_number, decimal_number, decimal_value, scaled, scaled_by, in_radix, is_legacy_octal, spells_octal, spells_digits, spells_mantissa, spells_exponent, exponent_value, is_mark, plain, before, after, past_first, trim_front, trim_back, IsDecimal, IsCanonical}
use Rattle.base_number.proofs.NumberLemmas.{kept_decimal, kept_in_radix, mantissa_digits, octal_digits}
use Rattle.base_number.proofs.DigitLemmas.{spelled_digits}
use Rattle.print_spelling.specs.Number.Numbers.{HasPrefix, is_prefixed}
use Rattle.again_laws.specs.Leaf.Laws.{NumberIsCanonical}

record Kept (v : SpecNumber) : Type 0 where
  canonical : IsCanonical v
  prefixed : HasPrefix v

kept_by : (t : List ℕ) (x : ℤ) → ((y : ℤ) → (t ≡ [] → y ≡ pos 0) → IsDecimal t y) → Kept (scaled_by t x)
kept_by [] x f = record { canonical = f (pos 0) (λ _. refl); prefixed = tt }
kept_by (c ∷ cs) x f = record { canonical = f x (λ e. absurd (nil c cs e)); prefixed = tt }
  where
    nil : (c : ℕ) (cs : List ℕ) → c ∷ cs ≡ [] → ⊥
    nil c cs e = cc

kept_scaled : (digits : List ℕ) (e : ℤ) → AllDigits 10 digits → Kept (scaled digits e)
kept_scaled digits e all = kept_by (trim_back (trim_front digits)) (e +ℤ pos (length (trim_front digits) - length (trim_back (trim_front digits)))) (λ y z. kept_decimal digits (trim_front digits) (trim_back (trim_front digits)) y all refl refl z)

decimal_digits : (n : ℕ) → n < 2 ^ 64 → AllDigits 10 (decimal n)
decimal_digits n h = (decimal_is_IsNumeral n h).0.1

kept_radix : (radix : ℕ) (text : List ℕ) → 2 ≤ radix → radix ≤ 16 → is_prefixed radix ≡ true → AllDigits radix (plain text) → Kept (in_radix radix text)
kept_radix radix text least most p all = by (nat_lt value (2 ^ 64)) (λ t. kept_scaled (decimal value) (pos 0) (decimal_digits value (ltb-true value (2 ^ 64) t)))
    (λ f. record { canonical = kept_in_radix radix text digits least most all refl (λ (h : value < 18446744073709551616). let g : 2 ^ 64 ≤ value = ltb-false value (2 ^ 64) f in omega (arith, g, h)); prefixed = p })
  where
    digits : List ℕ
    digits = trim_front (map to_ascii_lowercase (plain text))

    value : ℕ
    value = digits_value radix digits

    by : (b : Bool) → (b ≡ true → Kept (scaled (decimal value) (pos 0))) → (b ≡ false → Kept (InRadix radix digits)) → Kept (if b then scaled (decimal value) (pos 0) else InRadix radix digits)
    by true f g = f refl
    by false f g = g refl

pub some_if : {A : Type 0} (b : Bool) (x v : A) → (if b then Some x else None) ≡ Some v → (b ≡ true) × (x ≡ v)
some_if true x v e = (refl, cc)
some_if false x v e = absurd cc

pub record Radix (n : ℕ) : Type 0 where
  least : 2 ≤ n
  pub most : n ≤ 16
  is : is_prefixed n ≡ true

radix_by : (a b c : Bool) (n : ℕ) → (if a then Some 16 else (if b then Some 8 else (if c then Some 2 else None))) ≡ Some n → Radix n
radix_by true b c n e = subst Radix (let k : 16 ≡ n = cc in k) (record { least = omega arith; most = omega arith; is = refl })
radix_by false true c n e = subst Radix (let k : 8 ≡ n = cc in k) (record { least = omega arith; most = omega arith; is = refl })
radix_by false false true n e = subst Radix (let k : 2 ≡ n = cc in k) (record { least = omega arith; most = omega arith; is = refl })
radix_by false false false n e = absurd cc

radix_if : (b : Bool) (o : Option ℕ) (n : ℕ) → (o ≡ Some n → Radix n) → (if b then o else None) ≡ Some n → Radix n
radix_if true o n f e = f e
radix_if false o n f e = absurd cc

pub prefix_ok : (text : List ℕ) (n : ℕ) → prefix_radix text ≡ Some n → Radix n
prefix_ok [] n e = absurd cc
prefix_ok (c ∷ []) n e = absurd cc
prefix_ok (c ∷ l ∷ cs) n e = radix_if (c == 48) (radix_of_letter l) n (λ g. radix_by (is_mark 120 l) (is_mark 111 l) (is_mark 98 l) n g) e

decimal_kept : (text : List ℕ) (v : SpecNumber) → decimal_number text ≡ Some v → Kept v
decimal_kept text v e =
    let integer = before 46 (before 101 text) in
    let fraction = after 46 (before 101 text) in
    let p = some_if (spells_mantissa integer fraction && spells_exponent (after 101 text)) (decimal_value integer (unwrap_or fraction []) (after 101 text)) v e in
    let q = and_parts (spells_mantissa integer fraction) (spells_exponent (after 101 text)) p.0 in
    subst Kept p.1 (kept_scaled (plain integer ++ plain (unwrap_or fraction [])) (exponent_value (after 101 text) -ℤ pos (length (plain (unwrap_or fraction [])))) (mantissa_digits integer fraction q.0))

octal_if : (text : List ℕ) (v : SpecNumber) → unprefixed_number text ≡ Some v → Kept v
octal_if [] v e = decimal_kept [] v e
octal_if (c ∷ cs) v e = by (is_legacy_octal (c ∷ cs)) (λ t. t) e
  where
    by : (b : Bool) → (b ≡ true → is_legacy_octal (c ∷ cs) ≡ true) → (if b then Some (in_radix 8 cs) else decimal_number (c ∷ cs)) ≡ Some v → Kept v
    by true f e = subst Kept (let k : in_radix 8 cs ≡ v = cc in k) (kept_radix 8 cs (omega arith) (omega arith) refl (octal_digits cs (and_parts (c == 48) (spells_octal cs) (f refl)).1))
    by false f e = decimal_kept (c ∷ cs) v e

kept_number : (o : Option ℕ) (text : List ℕ) (v : SpecNumber) → prefix_radix text ≡ o → number_by o text ≡ Some v → Kept v
kept_number None text v f e = octal_if text v e
kept_number (Some n) text v f e =
    let r = prefix_ok text n f in
    let ds = past_first (past_first text) in
    let p = some_if (spells_digits n ds) (in_radix n ds) v e in
    subst Kept p.1 (kept_radix n ds r.least r.most r.is (spelled_digits n false ds (let m = r.most in omega (arith, m)) p.0))

pub number_is_canonical : NumberIsCanonical
unfolding number_of
number_is_canonical text v e = let k = kept_number (prefix_radix text) text v refl e in (k.canonical, k.prefixed)
