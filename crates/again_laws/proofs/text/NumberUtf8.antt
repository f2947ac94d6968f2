-- The texts of numbers and big integers are UTF-8 (ECMA-262, 12.9.3).
use Rattle.std.proofs.Common.{◌≡◌, ℕ, zero, suc, ◌<◌, ◌≤◌, inl, inr, Bool, true, false, not, if◌then◌else◌, ◌==◌, nat_lt, nat_le, List, [], ◌∷◌, ◌++◌, length, get_or, take, drop, Option, Some, None, refl, sym, ap, subst, ◌∙◌, arith, append-nil}
use Rattle.std.specs.Prelude.{◌+◌, ◌-◌, ℤ, pos, negsuc, unwrap_or}
use Rattle.std.specs.Str.{IsUtf8, IsAscii}
use Rattle.std.proofs.lemmas.Bool.{and_parts, cases_lt}
use Rattle.std.proofs.lemmas.Bool.Decides.{nat_tests}
use Rattle.std.proofs.lemmas.List.Elements.{filter-append}
use Rattle.std.proofs.lemmas.Str.{IsUtf8-append, IsUtf8-nil, IsUtf8-encode, IsUtf8-from_ascii, IsAscii-append, IsAscii-take, IsAscii-drop, encode_ascii, inside_one}
use Rattle.std.proofs.lemmas.Str.Ascii.{IsAscii-cons}
use lib.Utf8.{scalar, scalars, encode, encodes}
use Rattle.base_number.specs.Numbers.{SpecNumber, Scaled, InRadix, number_digits, numeral, plain}
use Rattle.base_number.proofs.NumberLemmas.{ascii_digits}
use Rattle.lex_literal.specs.Standing.{takes_point}
use Rattle.print_spelling.specs.declared.style.Style.{Style}
use Rattle.print_spelling.specs.Styles.{is_below_es2021}
use Rattle.print_spelling.specs.Number.Numbers.{zeros, large_text, small_text, scaled_text, letter, minified, before_member, big_prefix, big_text, whole_digits, whole_text, separated, formatted}
use Rattle.print_spelling.proofs.number.MinifiedLemmas.{numeral_is}
use Rattle.print_layout_spec.specs.Literals.{number_bytes, big_bytes}
use Rattle.again_laws.specs.Text.Texts.{IsUtf8If}

-- ---- ASCII

no_ascii : IsAscii []
no_ascii i = omega arith

numeral_ascii : (n : ℕ) → IsAscii (numeral n)
numeral_ascii n = ascii_digits 10 (numeral n) (omega arith) (numeral_is n).digits

zeros_ascii : (n : ℕ) (m : List ℕ) → IsAscii m → IsAscii (zeros n m)
zeros_ascii zero m a = a
zeros_ascii (suc n) m a = IsAscii-cons 48 (zeros n m) (omega arith) (zeros_ascii n m a)

ascii_if : (b : Bool) (xs ys : List ℕ) → IsAscii xs → IsAscii ys → IsAscii (if b then xs else ys)
ascii_if true xs ys a c = a
ascii_if false xs ys a c = c

large_ascii : (ds : List ℕ) (n : ℕ) → IsAscii ds → IsAscii (large_text ds n)
large_ascii ds n a =
    ascii_if (nat_lt n 3) _ _ (IsAscii-append ds (zeros n []) a (zeros_ascii n [] no_ascii))
    (IsAscii-append ds (101 ∷ numeral n) a (IsAscii-cons 101 (numeral n) (omega arith) (numeral_ascii n)))

small_ascii : (ds : List ℕ) (n : ℕ) → IsAscii ds → IsAscii (small_text ds n)
small_ascii ds n a =
    let k = length ds - n in
    ascii_if (nat_lt n (length ds)) _ _ (IsAscii-append (take k ds) (46 ∷ drop k ds) (IsAscii-take ds k a) (IsAscii-cons 46 (drop k ds) (omega arith) (IsAscii-drop ds k a)))
    (ascii_if (nat_le n (length ds + 2)) _ _ (IsAscii-cons 46 (zeros (n - length ds) ds) (omega arith) (zeros_ascii (n - length ds) ds a))
    (IsAscii-append ds (101 ∷ 45 ∷ numeral n) a (IsAscii-cons 101 (45 ∷ numeral n) (omega arith) (IsAscii-cons 45 (numeral n) (omega arith) (numeral_ascii n)))))

scaled_ascii : (ds : List ℕ) (x : ℤ) → IsAscii ds → IsAscii (scaled_text ds x)
scaled_ascii [] x a = IsAscii-cons 48 [] (omega arith) no_ascii
scaled_ascii (d ∷ ds) (pos n) a = large_ascii (d ∷ ds) n a
scaled_ascii (d ∷ ds) (negsuc n) a = small_ascii (d ∷ ds) (suc n) a

letter_low : (radix : ℕ) → letter radix < 128
letter_low radix = by (radix == 2) (radix == 8)
  where
    by : (a b : Bool) → (if a then 98 else (if b then 111 else 120)) < 128
    by true b = omega arith
    by false true = omega arith
    by false false = omega arith

minified_ascii : (v : SpecNumber) → IsAscii (number_digits v) → IsAscii (minified v)
minified_ascii (Scaled ds x) a = scaled_ascii ds x a
minified_ascii (InRadix radix ds) a =
    ascii_if (radix == 10) _ _ (scaled_ascii ds (pos 0) a) (IsAscii-cons 48 (letter radix ∷ ds) (omega arith) (IsAscii-cons (letter radix) ds (letter_low radix) a))

prefix_ascii : (radix : ℕ) → IsAscii (big_prefix radix)
prefix_ascii radix = ascii_if (radix == 10) [] _ no_ascii (IsAscii-cons 48 (letter radix ∷ []) (omega arith) (IsAscii-cons (letter radix) [] (letter_low radix) no_ascii))

big_text_utf8 : (radix : ℕ) (digits : List ℕ) → IsUtf8 digits → IsUtf8 (big_text radix digits)
big_text_utf8 radix digits u =
    IsUtf8-append (big_prefix radix) (digits ++ 110 ∷ []) (IsUtf8-from_ascii _ (prefix_ascii radix))
    (IsUtf8-append digits (110 ∷ []) u (IsUtf8-from_ascii _ (IsAscii-cons 110 [] (omega arith) no_ascii)))

-- ---- a spelling without `_`

kept : (x : ℕ) (xs : List ℕ) → 128 ≤ x → plain (x ∷ xs) ≡ x ∷ plain xs
kept x xs h = let e : (x == 95) ≡ false = grind (arith, nat_tests) in ap (λ b. if not b then x ∷ plain xs else plain xs) e

all_kept : (xs : List ℕ) → ((k : ℕ) → k < length xs → 128 ≤ get_or xs k 0) → plain xs ≡ xs
all_kept [] h = refl
all_kept (x ∷ xs) h = kept x xs (h 0 (omega arith)) ∙ ap (λ l. x ∷ l) (all_kept xs (λ k below. h (suc k) (omega arith)))

one_plain : (c : ℕ) → scalar c ≡ true → IsUtf8 (plain (encode c))
one_plain c s = elim (cases_lt c 128) [
  | inl small ↦ subst (λ (l : List ℕ). IsUtf8 (plain l)) (sym (encode_ascii c small)) (IsUtf8-from_ascii _ (ascii_if (not (c == 95)) (c ∷ []) [] (IsAscii-cons c [] small no_ascii) no_ascii))
  | inr big ↦
      let high : (k : ℕ) → k < length (encode c) → 128 ≤ get_or (encode c) k 0 = λ k below. elim (cases_lt (get_or (encode c) k 0) 128) [
        | inl low ↦ absurd (omega (arith, inside_one c [] (encode c) k (sym (append-nil _)) below low))
        | inr h ↦ h
      ] in
      subst IsUtf8 (sym (all_kept (encode c) high)) (IsUtf8-encode c s)
]

chars_plain : (cs : List ℕ) → scalars cs ≡ true → IsUtf8 (plain (encodes cs))
chars_plain [] s = IsUtf8-nil
chars_plain (c ∷ cs) s =
    let p = and_parts (scalar c) (scalars cs) s in
    subst IsUtf8 (sym (filter-append (λ b. not (b == 95)) (encode c) (encodes cs))) (IsUtf8-append _ _ (one_plain c p.0) (chars_plain cs p.1))

plain_text : (raw : List ℕ) → IsUtf8 raw → IsUtf8 (plain raw)
plain_text raw u = subst (λ (l : List ℕ). IsUtf8 (plain l)) u.1.1 (chars_plain u.0 u.1.0)

utf8_if : (b : Bool) (xs ys : List ℕ) → IsUtf8 xs → IsUtf8 ys → IsUtf8 (if b then xs else ys)
utf8_if true xs ys a c = a
utf8_if false xs ys a c = c

separated_text : (style : Style) (raw : List ℕ) → IsUtf8 raw → IsUtf8 (separated style raw)
separated_text style raw u = utf8_if (is_below_es2021 style) (plain raw) raw (plain_text raw u) u

-- ---- what is written

whole_ascii : (ds : List ℕ) (n : ℕ) → IsAscii ds → IsUtf8If (whole_digits ds n)
whole_ascii [] n a = IsUtf8-from_ascii _ (IsAscii-cons 48 [] (omega arith) no_ascii)
whole_ascii (d ∷ ds) n a = by (nat_lt n 20)
  where
    by : (b : Bool) → IsUtf8If (if b then Some ((d ∷ ds) ++ zeros n []) else None)
    by true = IsUtf8-from_ascii _ (IsAscii-append (d ∷ ds) (zeros n []) a (zeros_ascii n [] no_ascii))
    by false = tt

whole_number : (v : SpecNumber) → IsAscii (number_digits v) → IsUtf8If (whole_text v)
whole_number (Scaled ds (pos n)) a = whole_ascii ds n a
whole_number (Scaled ds (negsuc n)) a = tt
whole_number (InRadix radix ds) a = by (radix == 10)
  where
    by : (b : Bool) → IsUtf8If (if b then whole_digits ds 0 else None)
    by true = whole_ascii ds 0 a
    by false = tt

edition_text : (b : Bool) (whole : Option (List ℕ)) (raw : List ℕ) → IsUtf8If whole → IsUtf8 raw → IsUtf8 (unwrap_or (if b then whole else None) raw)
edition_text true (Some own) raw w u = w
edition_text true None raw w u = u
edition_text false whole raw w u = u

formatted_text : (style : Style) (v : SpecNumber) (raw : Option (List ℕ)) → IsAscii (number_digits v) → IsUtf8If raw → IsUtf8 (formatted style v raw)
formatted_text style v None a u = IsUtf8-from_ascii _ (minified_ascii v a)
formatted_text style v (Some raw) a u = edition_text _ (whole_text v) (separated style raw) (whole_number v a) (separated_text style raw u)

pub number_utf8 : (style : Style) (v : SpecNumber) (raw : Option (List ℕ)) → IsAscii (number_digits v) → IsUtf8If raw → IsUtf8 (number_bytes style v raw)
number_utf8 style v raw a u = utf8_if style.minify (minified v) (formatted style v raw) (IsUtf8-from_ascii _ (minified_ascii v a)) (formatted_text style v raw a u)

pub member_utf8 : (text : List ℕ) → IsUtf8 text → IsUtf8 (before_member text)
member_utf8 text u = utf8_if (takes_point text) (text ++ 46 ∷ []) text (IsUtf8-append text (46 ∷ []) u (IsUtf8-from_ascii _ (IsAscii-cons 46 [] (omega arith) no_ascii))) u

pub big_utf8 : (style : Style) (radix : ℕ) (digits : List ℕ) (raw : Option (List ℕ)) → IsUtf8 digits → IsUtf8If raw → IsUtf8 (big_bytes style radix digits raw)
big_utf8 style radix digits None d u = big_text_utf8 radix digits d
big_utf8 style radix digits (Some raw) d u = utf8_if style.minify (big_text radix digits) (separated style raw) (big_text_utf8 radix digits d) (separated_text style raw u)
