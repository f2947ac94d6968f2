-- Which numbers take a point of their own.
use Rattle.std.proofs.Common.{◌≡◌, ℕ, zero, suc, ◌+◌, ◌-◌, ◌<◌, ◌≤◌, ⊎_elim, Bool, true, false, cond, List, [], ◌∷◌, ◌++◌, length, take, drop, refl, sym, ap, subst, ◌∙◌, arith}
use Rattle.std.specs.Prelude.{◌==◌, ◌&&◌, ◌||◌, not, nat_lt, nat_le, if◌then◌else◌, pos, negsuc, nat_abs, slice_index, option_map, unwrap_or, is_some, IfSome, Option, Some, None}
use Rattle.std.specs.Char.{is_digit, digit_value}
use Rattle.std.specs.List.{list_all, list_any}
use Rattle.std.specs.Str.Parse.{digits_value, AllDigits}
use Rattle.std.proofs.lemmas.Bool.{cases_Bool, cases_lt, eq-eqb, eqb-true, ne_eqb, false≢true, lt-ltb, le-ltb, and_parts, and_right}
use Rattle.std.proofs.lemmas.Option.{same_Some}
use Rattle.lex_literal.specs.Escapes.{begins}
use Rattle.lex_literal.specs.Standing.{is_digit_or_separator, takes_point}
use Rattle.base_number.specs.Numbers.{SpecNumber, Scaled, InRadix, numeral, plain, trim_front, none_left, is_legacy_octal, number_digits, number_exponent, number_radix, is_below_zero, IsCanonical}
use Rattle.base_number.proofs.NumberLemmas.{first_not_zero}
use Rattle.print_spelling.specs.Number.Numbers.{zeros, large_text, small_text, scaled_text, letter, minified, whole_digits, whole_text, whole_in_edition, separated, in_edition}
use Rattle.print_spelling.specs.declared.style.Style.{Style}
use Rattle.print_spelling.specs.declared.number.text.NumberText.{NumberText}
use Rattle.print_spelling.specs.Number.NumberTexts.{joined, is_separator, is_digit_byte}
use Rattle.print_spelling.proofs.number.TextLemmas.{numeral_value}

-- ---- texts with something else among them

no_digits : (xs ys : List ℕ) (c : ℕ) → is_digit_or_separator c ≡ false → list_all is_digit_or_separator (xs ++ c ∷ ys) ≡ false
no_digits [] ys c e = ap (λ b. b && list_all is_digit_or_separator ys) e
no_digits (x ∷ xs) ys c e = and_right (is_digit_or_separator x) (list_all is_digit_or_separator (xs ++ c ∷ ys)) (no_digits xs ys c e)

none_taken : (text : List ℕ) → list_all is_digit_or_separator text ≡ false → takes_point text ≡ false
none_taken text e = ap (λ b. b && not (is_legacy_octal text)) e

-- ---- digits that begin with no zero

all_both : (xs ys : List ℕ) → list_all is_digit_or_separator xs ≡ true → list_all is_digit_or_separator ys ≡ true → list_all is_digit_or_separator (xs ++ ys) ≡ true
all_both [] ys h i = i
all_both (x ∷ xs) ys h i =
    let p = and_parts (is_digit_or_separator x) (list_all is_digit_or_separator xs) h in
    ap (λ b. b && list_all is_digit_or_separator (xs ++ ys)) p.0 ∙ all_both xs ys p.1 i

all_digits : (ds : List ℕ) → AllDigits 10 ds → list_all is_digit_or_separator ds ≡ true
all_digits [] h = refl
all_digits (d ∷ ds) h = ap (λ b. (b || d == 95) && list_all is_digit_or_separator ds) (lt-ltb (digit_value d) 10 h.0) ∙ all_digits ds h.1

all_zeros : (n : ℕ) → list_all is_digit_or_separator (zeros n []) ≡ true
all_zeros zero = refl
all_zeros (suc n) = all_zeros n

pub digits_take : (d : ℕ) (ds : List ℕ) (n : ℕ) → AllDigits 10 (d ∷ ds) → trim_front (d ∷ ds) ≡ d ∷ ds → takes_point ((d ∷ ds) ++ zeros n []) ≡ true
digits_take d ds n h t =
    ap (λ b. b && not (is_legacy_octal ((d ∷ ds) ++ zeros n []))) (all_both (d ∷ ds) (zeros n []) (all_digits (d ∷ ds) h) (all_zeros n))
    ∙ ap (λ b. not (b && (not (none_left (ds ++ zeros n [])) && list_all (λ c. is_digit c 8) (ds ++ zeros n [])))) (first_not_zero d ds t)

-- ---- minified

large_takes : (d : ℕ) (ds : List ℕ) (n : ℕ) → AllDigits 10 (d ∷ ds) → trim_front (d ∷ ds) ≡ d ∷ ds → takes_point (large_text (d ∷ ds) n) ≡ nat_lt n 3
large_takes d ds n h t = ⊎_elim
    (λ (e : nat_lt n 3 ≡ true). ap (λ b. takes_point (if b then (d ∷ ds) ++ zeros n [] else (d ∷ ds) ++ 101 ∷ numeral n)) e ∙ digits_take d ds n h t ∙ sym e)
    (λ (e : nat_lt n 3 ≡ false).
    ap (λ b. takes_point (if b then (d ∷ ds) ++ zeros n [] else (d ∷ ds) ++ 101 ∷ numeral n)) e
    ∙ none_taken ((d ∷ ds) ++ 101 ∷ numeral n) (no_digits (d ∷ ds) (numeral n) 101 refl) ∙ sym e)
    (cases_Bool (nat_lt n 3))

small_takes : (ds : List ℕ) (n : ℕ) → takes_point (small_text ds n) ≡ false
small_takes ds n = ⊎_elim
    (λ (e : nat_lt n (length ds) ≡ true).
    ap (λ b. takes_point (if b then point else (if nat_le n (length ds + 2) then small else power))) e
    ∙ none_taken point (no_digits (take (length ds - n) ds) (drop (length ds - n) ds) 46 refl))
    (λ (e : nat_lt n (length ds) ≡ false). ⊎_elim
    (λ (f : nat_le n (length ds + 2) ≡ true).
    ap (λ b. takes_point (if b then point else (if nat_le n (length ds + 2) then small else power))) e
    ∙ ap (λ b. takes_point (if b then small else power)) f ∙ none_taken small (no_digits [] (zeros (n - length ds) ds) 46 refl))
    (λ (f : nat_le n (length ds + 2) ≡ false).
    ap (λ b. takes_point (if b then point else (if nat_le n (length ds + 2) then small else power))) e
    ∙ ap (λ b. takes_point (if b then small else power)) f ∙ none_taken power (no_digits ds (45 ∷ numeral n) 101 refl))
    (cases_Bool (nat_le n (length ds + 2))))
    (cases_Bool (nat_lt n (length ds)))
  where
    point : List ℕ
    point = take (length ds - n) ds ++ 46 ∷ drop (length ds - n) ds

    small : List ℕ
    small = 46 ∷ zeros (n - length ds) ds

    power : List ℕ
    power = ds ++ 101 ∷ 45 ∷ numeral n

letter_takes : (radix : ℕ) → is_digit_or_separator (letter radix) ≡ false
letter_takes radix = ⊎_elim
    (λ (e : (radix == 2) ≡ true). ap (λ b. is_digit_or_separator (if b then 98 else (if radix == 8 then 111 else 120))) e)
    (λ (e : (radix == 2) ≡ false). ⊎_elim
    (λ (f : (radix == 8) ≡ true). ap (λ b. is_digit_or_separator (if b then 98 else (if radix == 8 then 111 else 120))) e ∙ ap (λ b. is_digit_or_separator (if b then 111 else 120)) f)
    (λ (f : (radix == 8) ≡ false). ap (λ b. is_digit_or_separator (if b then 98 else (if radix == 8 then 111 else 120))) e ∙ ap (λ b. is_digit_or_separator (if b then 111 else 120)) f)
    (cases_Bool (radix == 8)))
    (cases_Bool (radix == 2))

-- in another radix, or below one
pub other_takes : (v : SpecNumber) → IsCanonical v → (number_radix v ≡ 10 → ⊥) → false ≡ takes_point (minified v)
other_takes (Scaled ds x) c r = absurd (r refl)
other_takes (InRadix radix ds) c r =
    sym (ap (λ b. takes_point (if b then scaled_text ds (pos 0) else 48 ∷ letter radix ∷ ds)) (ne_eqb radix 10 r)
    ∙ none_taken (48 ∷ letter radix ∷ ds) (no_digits (48 ∷ []) ds (letter radix) (letter_takes radix)))

pub below_takes : (v : SpecNumber) → IsCanonical v → is_below_zero (number_exponent v) ≡ true → false ≡ takes_point (minified v)
below_takes (Scaled ds (pos n)) c b = absurd (false≢true b)
below_takes (Scaled [] (negsuc n)) c b = absurd (false≢true (sym (ap is_below_zero (c.zero_exponent refl)) ∙ b))
below_takes (Scaled (d ∷ ds) (negsuc n)) c b = sym (small_takes (d ∷ ds) (suc n))
below_takes (InRadix radix ds) c b = absurd (false≢true b)

zero_length : (ds : List ℕ) → ds ≡ [] → length ds ≡ 0
zero_length ds e = ap length e

pub none_takes : (v : SpecNumber) → IsCanonical v → number_radix v ≡ 10 → is_below_zero (number_exponent v) ≡ false → length (number_digits v) ≡ 0 → true ≡ takes_point (minified v)
none_takes (Scaled [] (pos n)) c r b e = refl
none_takes (Scaled [] (negsuc n)) c r b e = absurd (false≢true (sym b))
none_takes (Scaled (d ∷ ds) x) c r b e = absurd (omega arith)
none_takes (InRadix radix []) c r b e = absurd (let l = c.large in omega arith)
none_takes (InRadix radix (d ∷ ds)) c r b e = absurd (omega arith)

pub some_takes : (v : SpecNumber) (power : List ℕ) → IsCanonical v → power ≡ numeral (nat_abs (number_exponent v)) → number_radix v ≡ 10
    → is_below_zero (number_exponent v) ≡ false → (length (number_digits v) ≡ 0 → ⊥) → takes_point (minified v) ≡ nat_lt (digits_value 10 power) 3
some_takes (Scaled [] x) power c e r b s = absurd (s refl)
some_takes (Scaled (d ∷ ds) (pos n)) power c e r b s = large_takes d ds n c.decimal c.front ∙ ap (λ m. nat_lt m 3) (sym (ap (digits_value 10) e ∙ numeral_value n))
some_takes (Scaled (d ∷ ds) (negsuc n)) power c e r b s = absurd (false≢true (sym b))
some_takes (InRadix radix []) power c e r b s = absurd (s refl)
some_takes (InRadix radix (d ∷ ds)) power c e r b s =
    ap (λ t. takes_point (if t then scaled_text (d ∷ ds) (pos 0) else 48 ∷ letter radix ∷ d ∷ ds)) (eq-eqb radix 10 r)
    ∙ large_takes d ds 0 (subst (λ x. AllDigits x (d ∷ ds)) r c.digits_in_radix) c.front
    ∙ ap (λ m. nat_lt m 3) (sym (ap (digits_value 10) e ∙ numeral_value 0))

-- ---- whole digits

whole_digits_take : (ds : List ℕ) (n : ℕ) (t : List ℕ) → AllDigits 10 ds → trim_front ds ≡ ds → whole_digits ds n ≡ Some t → takes_point t ≡ true
whole_digits_take [] n t h f e = ap takes_point (sym (same_Some (48 ∷ []) t e))
whole_digits_take (d ∷ ds) n t h f e = ⊎_elim
    (λ (b : nat_lt n 20 ≡ true).
    ap takes_point (sym (same_Some ((d ∷ ds) ++ zeros n []) t (sym (ap (λ x. if x then Some ((d ∷ ds) ++ zeros n []) else None) b) ∙ e))) ∙ digits_take d ds n h f)
    (λ (b : nat_lt n 20 ≡ false). none_some t (sym (ap (λ x. if x then Some ((d ∷ ds) ++ zeros n []) else None) b) ∙ e))
    (cases_Bool (nat_lt n 20))
  where
    none_some : (x : List ℕ) → None ≡ Some x → takes_point t ≡ true
    none_some x e = cc

pub whole_takes : (v : SpecNumber) (t : List ℕ) → IsCanonical v → whole_text v ≡ Some t → takes_point t ≡ true
whole_takes (Scaled ds (pos n)) t c e = whole_digits_take ds n t c.decimal c.front e
whole_takes (Scaled ds (negsuc n)) t c e = none_some e
  where
    none_some : None ≡ Some t → takes_point t ≡ true
    none_some e = cc
whole_takes (InRadix radix ds) t c e = ⊎_elim
    (λ (b : (radix == 10) ≡ true).
    whole_digits_take ds 0 t (subst (λ x. AllDigits x ds) (eqb-true radix 10 b) c.digits_in_radix) c.front (sym (ap (λ x. if x then whole_digits ds 0 else None) b) ∙ e))
    (λ (b : (radix == 10) ≡ false). none_some (sym (ap (λ x. if x then whole_digits ds 0 else None) b) ∙ e))
    (cases_Bool (radix == 10))
  where
    none_some : None ≡ Some t → takes_point t ≡ true
    none_some e = cc

-- ---- without separators

pub plain_all : (q : ℕ → Bool) (cs : List ℕ) → q 95 ≡ true → list_all q (plain cs) ≡ list_all q cs
plain_all q [] e = refl
plain_all q (c ∷ cs) e = ⊎_elim
    (λ (s : (c == 95) ≡ true).
    ap (λ b. list_all q (cond (not b) (c ∷ plain cs) (plain cs))) s ∙ plain_all q cs e
    ∙ sym (ap (λ x. q x && list_all q cs) (eqb-true c 95 s) ∙ ap (λ b. b && list_all q cs) e))
    (λ (s : (c == 95) ≡ false). ap (λ b. list_all q (cond (not b) (c ∷ plain cs) (plain cs))) s ∙ ap (λ b. q c && b) (plain_all q cs e))
    (cases_Bool (c == 95))

plain_octal : (cs : List ℕ) → list_all (λ c. is_digit c 8) (plain cs) ≡ list_all (λ c. is_digit c 8 || c == 95) cs
plain_octal [] = refl
plain_octal (c ∷ cs) = ⊎_elim
    (λ (s : (c == 95) ≡ true).
    ap (λ b. list_all (λ c. is_digit c 8) (cond (not b) (c ∷ plain cs) (plain cs))) s ∙ plain_octal cs
    ∙ sym (ap (λ x. (is_digit x 8 || x == 95) && list_all (λ c. is_digit c 8 || c == 95) cs) (eqb-true c 95 s)))
    (λ (s : (c == 95) ≡ false).
    ap (λ b. list_all (λ c. is_digit c 8) (cond (not b) (c ∷ plain cs) (plain cs))) s
    ∙ ap (λ b. is_digit c 8 && b) (plain_octal cs)
    ∙ sym (ap (λ b. (is_digit c 8 || b) && list_all (λ c. is_digit c 8 || c == 95) cs) s ∙ ap (λ b. b && list_all (λ c. is_digit c 8 || c == 95) cs) (or_false (is_digit c 8))))
    (cases_Bool (c == 95))
  where
    or_false : (b : Bool) → (b || false) ≡ b
    or_false true = refl
    or_false false = refl

plain_some : (cs : List ℕ) → not (none_left (plain cs)) ≡ list_any is_digit_byte cs
plain_some [] = refl
plain_some (c ∷ cs) = ⊎_elim
    (λ (s : (c == 95) ≡ true).
    ap (λ b. not (none_left (cond (not b) (c ∷ plain cs) (plain cs)))) s ∙ plain_some cs ∙ sym (ap (λ b. not b || list_any is_digit_byte cs) s))
    (λ (s : (c == 95) ≡ false).
    ap (λ b. not (none_left (cond (not b) (c ∷ plain cs) (plain cs)))) s ∙ sym (ap (λ b. not b || list_any is_digit_byte cs) s))
    (cases_Bool (c == 95))

pub octal_first : (text rest cs : List ℕ) (c : ℕ) → plain rest ≡ plain text → rest ≡ c ∷ cs → begins is_separator rest ≡ false
    → (c == 48 && (list_any is_digit_byte cs && list_all (λ c. is_digit c 8 || c == 95) cs)) ≡ is_legacy_octal (plain text)
octal_first text rest cs c e f s =
    let n : (c == 95) ≡ false = sym (ap (begins is_separator) f) ∙ s in
    ap (λ b. c == 48 && (b && list_all (λ c. is_digit c 8 || c == 95) cs)) (sym (plain_some cs))
    ∙ ap (λ b. c == 48 && (not (none_left (plain cs)) && b)) (sym (plain_octal cs))
    ∙ sym (ap (λ b. is_legacy_octal (cond (not b) (c ∷ plain cs) (plain cs))) n)
    ∙ ap is_legacy_octal (sym (ap plain f) ∙ e)

pub octal_none : (text rest : List ℕ) → plain rest ≡ plain text → rest ≡ [] → false ≡ is_legacy_octal (plain text)
octal_none text rest e f = ap is_legacy_octal (sym (ap plain f) ∙ e)

pub octal_at : (text rest : List ℕ) → plain rest ≡ plain text → begins is_separator rest ≡ false → 1 ≤ length rest → slice_index rest 0 ≡ 48
    → (list_any is_digit_byte (drop 1 rest) && list_all (λ c. is_digit c 8 || c == 95) (drop 1 rest)) ≡ is_legacy_octal (plain text)
octal_at text [] e s l i = absurd (omega arith)
octal_at text (c ∷ cs) e s l i =
    sym (ap (λ b. b && (list_any is_digit_byte cs && list_all (λ c. is_digit c 8 || c == 95) cs)) (eq-eqb c 48 i)) ∙ octal_first text (c ∷ cs) cs c e refl s

tail_whole : (rest : List ℕ) → take (length rest - 1) (drop 1 rest) ≡ drop 1 rest
tail_whole [] = refl
tail_whole (c ∷ cs) =
    let n : length (c ∷ cs) - 1 ≡ length cs = omega arith in
    ap (λ m. take m cs) n ∙ whole cs
  where
    whole : (xs : List ℕ) → take (length xs) xs ≡ xs
    whole [] = refl
    whole (x ∷ xs) = ap (λ (l : List ℕ). x ∷ l) (whole xs)

pub octal_then : (text rest : List ℕ) (a b : Bool) → plain rest ≡ plain text → begins is_separator rest ≡ false → 1 ≤ length rest → slice_index rest 0 ≡ 48
    → a ≡ list_any is_digit_byte (take (length rest - 1) (drop 1 rest)) → b ≡ list_all (λ c. is_digit c 8 || c == 95) (take (length rest - 1) (drop 1 rest)) → a ≡ true → b ≡ is_legacy_octal (plain text)
octal_then text rest a b e s l i f g t =
    g ∙ ap (list_all (λ c. is_digit c 8 || c == 95)) (tail_whole rest) ∙ sym (ap (λ x. x && list_all (λ c. is_digit c 8 || c == 95) (drop 1 rest)) (sym (f ∙ ap (list_any is_digit_byte) (tail_whole rest)) ∙ t)) ∙ octal_at text rest e s l i

pub octal_else : (text rest : List ℕ) (a : Bool) → plain rest ≡ plain text → begins is_separator rest ≡ false → 1 ≤ length rest → slice_index rest 0 ≡ 48
    → a ≡ list_any is_digit_byte (take (length rest - 1) (drop 1 rest)) → a ≡ false → a ≡ is_legacy_octal (plain text)
octal_else text rest a e s l i f t =
    t ∙ sym (ap (λ x. x && list_all (λ c. is_digit c 8 || c == 95) (drop 1 rest)) (sym (f ∙ ap (list_any is_digit_byte) (tail_whole rest)) ∙ t)) ∙ octal_at text rest e s l i

pub plain_then : (raw : List ℕ) (a b : Bool) → a ≡ list_all is_digit_or_separator raw → a ≡ true → b ≡ is_legacy_octal (plain raw) → not b ≡ takes_point (plain raw)
plain_then raw a b e t f =
    ap not f ∙ sym (ap (λ x. x && not (is_legacy_octal (plain raw))) (plain_all is_digit_or_separator raw refl ∙ sym e ∙ t))

pub plain_else : (raw : List ℕ) (a : Bool) → a ≡ list_all is_digit_or_separator raw → a ≡ false → a ≡ takes_point (plain raw)
plain_else raw a e t = t ∙ sym (ap (λ x. x && not (is_legacy_octal (plain raw))) (plain_all is_digit_or_separator raw refl ∙ sym e ∙ t))

-- ---- as the code meets it

pub whole_point : (o : Option NumberText) (v : SpecNumber) → option_map joined o ≡ whole_text v → IsCanonical v → IfSome o (λ t. takes_point (joined t) ≡ true)
whole_point None v e c = tt
whole_point (Some t) v e c = whole_takes v (joined t) c (sym e)

pub edition_takes : (style : Style) (raw : List ℕ) (v : SpecNumber) (o : Option NumberText) → option_map joined o ≡ whole_in_edition style raw (whole_text v)
    → IfSome o (λ t. takes_point (joined t) ≡ true) → is_some o ≡ true → true ≡ takes_point (in_edition style raw (whole_text v))
edition_takes style raw v None e i s = absurd (false≢true s)
edition_takes style raw v (Some t) e i s = sym (ap (λ o. takes_point (unwrap_or o (separated style raw))) (sym e) ∙ i)

pub count_takes : (v : SpecNumber) (ds power : List ℕ) (count : ℕ) → IsCanonical v → ds ≡ number_digits v → power ≡ numeral (nat_abs (number_exponent v)) → number_radix v ≡ 10
    → is_below_zero (number_exponent v) ≡ false → (length ds ≡ 0 → ⊥) → count ≡ digits_value 10 power → nat_lt count 3 ≡ takes_point (minified v)
count_takes v ds power count c d e r b s n = ap (λ m. nat_lt m 3) n ∙ sym (some_takes v power c e r b (λ z. s (ap length d ∙ z)))

pub power_takes : (v : SpecNumber) (ds power : List ℕ) → IsCanonical v → ds ≡ number_digits v → power ≡ numeral (nat_abs (number_exponent v)) → number_radix v ≡ 10
    → is_below_zero (number_exponent v) ≡ false → (length ds ≡ 0 → ⊥) → (digits_value 10 power < 18446744073709551616 → ⊥) → false ≡ takes_point (minified v)
power_takes v ds power c d e r b s n =
    sym (some_takes v power c e r b (λ z. s (ap length d ∙ z)) ∙ le-ltb (digits_value 10 power) 3 (far (digits_value 10 power) n))
  where
    far : (m : ℕ) → (m < 18446744073709551616 → ⊥) → 3 ≤ m
    far m h = ⊎_elim (λ (l : m < 18446744073709551616). absurd (h l)) (λ (l : 18446744073709551616 ≤ m). omega arith) (cases_lt m 18446744073709551616)
