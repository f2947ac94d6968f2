-- What is written of a number when formatting is written again where it was read.
use Rattle.std.proofs.Common.{◌≡◌, ℕ, zero, suc, ◌≤◌, ◌-◌, ◌+◌, ⊎_elim, Bool, true, false, List, [], ◌∷◌, ◌++◌, length, take, drop, refl, sym, ap, ◌∙◌, arith}
use Rattle.std.specs.Prelude.{◌&&◌, ◌==◌, not, nat_lt, nat_le, if◌then◌else◌, Option, Some, None, unwrap_or, ℤ, pos, negsuc}
use Rattle.std.specs.Str.Parse.{AllDigits}
use Rattle.std.proofs.lemmas.Bool.{cases_Bool, eqb-true}
use Rattle.std.proofs.lemmas.Bool.Decides.{nat_tests}
use Rattle.std.proofs.lemmas.List.Elements.{filter-append}
use Rattle.std.proofs.lemmas.Option.{same_Some}
use Rattle.base_number.specs.Numbers.{SpecNumber, Scaled, InRadix, number_of, numeral, prefix_radix, radix_of_letter, decimal_number, is_legacy_octal, plain, IsCanonical, IsDecimal}
use Rattle.base_number.proofs.NumberLemmas.{first_not_zero, all_appended}
use Rattle.print_spelling.specs.declared.style.Style.{Style}
use Rattle.print_spelling.specs.Styles.{is_below_es2021, is_up_to_es5}
use Rattle.print_spelling.specs.Number.Numbers.{zeros, large_text, small_text, scaled_text, letter, minified, HasPrefix, is_prefixed, is_new_prefix, whole_digits, whole_text, separated, in_edition, FormattedAgain}
use Rattle.print_spelling.proofs.number.MinifiedLemmas.{plain_digits, all_zeros, all_taken, all_dropped, no_prefix, numeral_is, letter_is}
use Rattle.print_spelling.proofs.number.PlainLemmas.{plain_here, plain_twice, second_here, separator_first, letter_here, legacy_plain, none_some, is_unprefixed}

-- ---- a prefix stays

same_unprefixed : (t : List ℕ) (v : SpecNumber) → prefix_radix t ≡ None → is_legacy_octal t ≡ false → number_of t ≡ Some v → prefix_radix (plain t) ≡ None
same_unprefixed [] v p o h = refl
same_unprefixed (c ∷ cs) v p o h = ⊎_elim
    (λ (z : (c == 48) ≡ true). zero_first cs (eqb-true c 48 z))
    (λ (z : (c == 48) ≡ false). ⊎_elim
    (λ (e : (c == 95) ≡ true). absurd (separator_first cs v (ap (λ x. decimal_number (x ∷ cs)) (sym (eqb-true c 95 e)) ∙ d)))
    (λ (e : (c == 95) ≡ false). ap prefix_radix (plain_here c cs e) ∙ no_prefix c (plain cs) z)
    (cases_Bool (c == 95)))
    (cases_Bool (c == 48))
  where
    d : decimal_number (c ∷ cs) ≡ Some v
    d = sym (is_unprefixed (c ∷ cs) p o) ∙ h

    at_zero : (ls : List ℕ) → decimal_number (48 ∷ ls) ≡ Some v → prefix_radix (48 ∷ ls) ≡ None → prefix_radix (48 ∷ plain ls) ≡ None
    at_zero [] i q = refl
    at_zero (l ∷ ls) i q = ap (λ x. prefix_radix (48 ∷ x)) (plain_here l ls (second_here l ls v i)) ∙ q

    zero_first : (ls : List ℕ) → c ≡ 48 → prefix_radix (plain (c ∷ cs)) ≡ None
    zero_first ls at =
        ap (λ x. prefix_radix (plain (x ∷ cs))) at
        ∙ at_zero cs (ap (λ x. decimal_number (x ∷ cs)) (sym at) ∙ d) (ap (λ x. prefix_radix (x ∷ cs)) (sym at) ∙ p)

pub same_prefixed : (t : List ℕ) (r : ℕ) → prefix_radix t ≡ Some r → prefix_radix (plain t) ≡ Some r
same_prefixed [] r p = none_some p
same_prefixed (c ∷ []) r p = none_some p
same_prefixed (c ∷ (l ∷ ls)) r p = ⊎_elim
    (λ (z : (c == 48) ≡ true).
    let letter_same : radix_of_letter l ≡ Some r = sym (ap (λ b. if b then radix_of_letter l else None) z) ∙ p in
    let other : (c == 95) ≡ false = grind (arith, nat_tests) in
    ap prefix_radix (plain_here c (l ∷ ls) other ∙ ap (λ (x : List ℕ). c ∷ x) (plain_here l ls (letter_here l r letter_same))) ∙ p)
    (λ (z : (c == 48) ≡ false). none_some (sym (ap (λ b. if b then radix_of_letter l else None) z) ∙ p))
    (cases_Bool (c == 48))

same_prefix : (t : List ℕ) (v : SpecNumber) → number_of t ≡ Some v → prefix_radix (plain t) ≡ prefix_radix t
same_prefix t v h = by_radix (prefix_radix t) refl
  where
    by_radix : (o : Option ℕ) → prefix_radix t ≡ o → prefix_radix (plain t) ≡ prefix_radix t
    by_radix (Some r) e = same_prefixed t r e ∙ sym e
    by_radix None e = ⊎_elim
        (λ (o : is_legacy_octal t ≡ true). ap prefix_radix (legacy_plain t o))
        (λ (o : is_legacy_octal t ≡ false). same_unprefixed t v e o h ∙ sym e)
        (cases_Bool (is_legacy_octal t))

-- ---- a text written again

module _ (style : Style) where
  pub settled : (t : List ℕ) → plain t ≡ t → separated style t ≡ t
  settled t e = by_edition (is_below_es2021 style)
    where
      by_edition : (b : Bool) → (if b then plain t else t) ≡ t
      by_edition true = e
      by_edition false = refl

  pub separated_twice : (t : List ℕ) → separated style (separated style t) ≡ separated style t
  separated_twice t = by_edition (is_below_es2021 style)
    where
      by_edition : (b : Bool) → (if b then plain (if b then plain t else t) else (if b then plain t else t)) ≡ (if b then plain t else t)
      by_edition true = plain_twice t
      by_edition false = refl

  kept_prefix : (t : List ℕ) (v : SpecNumber) → number_of t ≡ Some v → prefix_radix (separated style t) ≡ prefix_radix t
  kept_prefix t v h = by_edition (is_below_es2021 style)
    where
      by_edition : (b : Bool) → prefix_radix (if b then plain t else t) ≡ prefix_radix t
      by_edition true = same_prefix t v h
      by_edition false = refl

  again_whole : (t : List ℕ) → separated style t ≡ t → in_edition style t (Some t) ≡ t
  again_whole t e = by_prefix (is_up_to_es5 style && is_new_prefix (prefix_radix t))
    where
      by_prefix : (b : Bool) → unwrap_or (if b then Some t else None) (separated style t) ≡ t
      by_prefix true = refl
      by_prefix false = e

  no_whole : (t : List ℕ) → in_edition style t None ≡ separated style t
  no_whole t = by_prefix (is_up_to_es5 style && is_new_prefix (prefix_radix t))
    where
      by_prefix : (b : Bool) → unwrap_or (if b then None else None) (separated style t) ≡ separated style t
      by_prefix true = refl
      by_prefix false = refl

  unchanged : (t : List ℕ) (w : Option (List ℕ)) → (is_up_to_es5 style && is_new_prefix (prefix_radix t)) ≡ false → in_edition style t w ≡ separated style t
  unchanged t w e = ap (λ b. unwrap_or (if b then w else None) (separated style t)) e

  read_again : (raw : List ℕ) (v : SpecNumber) (w : Option (List ℕ)) → ((t : List ℕ) → w ≡ Some t → plain t ≡ t) → number_of raw ≡ Some v
      → in_edition style (in_edition style raw w) w ≡ in_edition style raw w
  read_again raw v w p h = ⊎_elim (new_prefix w p) old_prefix (cases_Bool (is_up_to_es5 style && is_new_prefix (prefix_radix raw)))
    where
      new_prefix : (x : Option (List ℕ)) → ((t : List ℕ) → x ≡ Some t → plain t ≡ t) → (is_up_to_es5 style && is_new_prefix (prefix_radix raw)) ≡ true
          → in_edition style (in_edition style raw x) x ≡ in_edition style raw x
      new_prefix None q e =
          let s = no_whole raw in
          ap (λ y. in_edition style y None) s ∙ no_whole (separated style raw) ∙ separated_twice raw ∙ sym s
      new_prefix (Some t) q e =
          let s : in_edition style raw (Some t) ≡ t = ap (λ b. unwrap_or (if b then Some t else None) (separated style raw)) e in
          ap (λ y. in_edition style y (Some t)) s ∙ again_whole t (settled t (q t refl)) ∙ sym s

      old_prefix : (is_up_to_es5 style && is_new_prefix (prefix_radix raw)) ≡ false → in_edition style (in_edition style raw w) w ≡ in_edition style raw w
      old_prefix e =
          let s = unchanged raw w e in
          ap (λ y. in_edition style y w) s
          ∙ unchanged (separated style raw) w (ap (λ o. is_up_to_es5 style && is_new_prefix o) (kept_prefix raw v h) ∙ e)
          ∙ separated_twice raw ∙ sym s

-- ---- whole digits and minified numbers have no separators

whole_digits_plain : (ds : List ℕ) (n : ℕ) → AllDigits 10 ds → (t : List ℕ) → whole_digits ds n ≡ Some t → plain t ≡ t
whole_digits_plain [] n a t e = ap plain (sym (same_Some (48 ∷ []) t e)) ∙ same_Some (48 ∷ []) t e
whole_digits_plain (d ∷ ds) n a t e = ⊎_elim
    (λ (b : nat_lt n 20 ≡ true).
    let same : (d ∷ ds) ++ zeros n [] ≡ t =
    same_Some ((d ∷ ds) ++ zeros n []) t (sym (ap (λ x. if x then Some ((d ∷ ds) ++ zeros n []) else None) b) ∙ e) in
    ap plain (sym same) ∙ plain_digits 10 ((d ∷ ds) ++ zeros n []) (omega arith) (all_appended 10 (d ∷ ds) (zeros n []) a (all_zeros n [] tt)) ∙ same)
    (λ (b : nat_lt n 20 ≡ false). none_some (sym (ap (λ x. if x then Some ((d ∷ ds) ++ zeros n []) else None) b) ∙ e))
    (cases_Bool (nat_lt n 20))

not_ten : (radix : ℕ) → is_prefixed radix ≡ true → (radix == 10) ≡ false
not_ten radix h = grind (arith, nat_tests)

whole_plain : (v : SpecNumber) → IsCanonical v → HasPrefix v → (t : List ℕ) → whole_text v ≡ Some t → plain t ≡ t
whole_plain (Scaled ds (pos n)) c p t e = whole_digits_plain ds n c.decimal t e
whole_plain (Scaled ds (negsuc n)) c p t e = none_some e
whole_plain (InRadix radix ds) c p t e = none_some (sym (ap (λ x. if x then whole_digits ds 0 else None) (not_ten radix p)) ∙ e)

pub plain_both : (xs ys : List ℕ) → plain xs ≡ xs → plain ys ≡ ys → plain (xs ++ ys) ≡ xs ++ ys
plain_both xs ys e f = filter-append (λ c. not (c == 95)) xs ys ∙ ap (λ (l : List ℕ). l ++ plain ys) e ∙ ap (λ (l : List ℕ). xs ++ l) f

numeral_plain : (n : ℕ) → plain (numeral n) ≡ numeral n
numeral_plain n = plain_digits 10 (numeral n) (omega arith) (numeral_is n).digits

by_test : (P : List ℕ → Type 0) (b : Bool) (x y : List ℕ) → P x → P y → P (if b then x else y)
by_test P true x y p q = p
by_test P false x y p q = q

-- no separator, and no prefix
record Free (t : List ℕ) : Type 0 where
  same : plain t ≡ t
  bare : prefix_radix t ≡ None

module _ (d : ℕ) (ds : List ℕ) (a : AllDigits 10 (d ∷ ds)) (z : (d == 48) ≡ false) where
  own : plain (d ∷ ds) ≡ d ∷ ds
  own = plain_digits 10 (d ∷ ds) (omega arith) a

  large_free : (n : ℕ) → Free (large_text (d ∷ ds) n)
  large_free n =
      by_test Free (nat_lt n 3) ((d ∷ ds) ++ zeros n []) ((d ∷ ds) ++ 101 ∷ numeral n)
      (record {
        same = plain_digits 10 ((d ∷ ds) ++ zeros n []) (omega arith) (all_appended 10 (d ∷ ds) (zeros n []) a (all_zeros n [] tt));
        bare = no_prefix d (ds ++ zeros n []) z;
      })
      (record {
        same = plain_both (d ∷ ds) (101 ∷ numeral n) own (ap (λ (l : List ℕ). 101 ∷ l) (numeral_plain n));
        bare = no_prefix d (ds ++ 101 ∷ numeral n) z;
      })

  pointed_bare : (k : ℕ) → prefix_radix (take k (d ∷ ds) ++ 46 ∷ drop k (d ∷ ds)) ≡ None
  pointed_bare zero = no_prefix 46 (d ∷ ds) refl
  pointed_bare (suc k) = no_prefix d (take k ds ++ 46 ∷ drop k ds) z

  pointed_free : (k : ℕ) → Free (take k (d ∷ ds) ++ 46 ∷ drop k (d ∷ ds))
  pointed_free k = record {
    same = plain_both (take k (d ∷ ds)) (46 ∷ drop k (d ∷ ds)) (plain_digits 10 (take k (d ∷ ds)) (omega arith) (all_taken k (d ∷ ds) a))
        (ap (λ (l : List ℕ). 46 ∷ l) (plain_digits 10 (drop k (d ∷ ds)) (omega arith) (all_dropped k (d ∷ ds) a)));
    bare = pointed_bare k;
  }

  small_free : (n : ℕ) → Free (small_text (d ∷ ds) n)
  small_free n =
      by_test Free (nat_lt n (length (d ∷ ds))) _ _
      (pointed_free (length (d ∷ ds) - n))
      (by_test Free (nat_le n (length (d ∷ ds) + 2)) (46 ∷ zeros (n - length (d ∷ ds)) (d ∷ ds)) ((d ∷ ds) ++ 101 ∷ 45 ∷ numeral n)
      (record {
        same = ap (λ (l : List ℕ). 46 ∷ l)
            (plain_digits 10 (zeros (n - length (d ∷ ds)) (d ∷ ds)) (omega arith) (all_zeros (n - length (d ∷ ds)) (d ∷ ds) a));
        bare = no_prefix 46 (zeros (n - length (d ∷ ds)) (d ∷ ds)) refl;
      })
      (record {
        same = plain_both (d ∷ ds) (101 ∷ 45 ∷ numeral n) own (ap (λ (l : List ℕ). 101 ∷ 45 ∷ l) (numeral_plain n));
        bare = no_prefix d (ds ++ 101 ∷ 45 ∷ numeral n) z;
      }))

scaled_free : (ds : List ℕ) (x : ℤ) → IsDecimal ds x → Free (scaled_text ds x)
scaled_free [] x c = record { same = refl; bare = refl }
scaled_free (d ∷ ds) (pos n) c = large_free d ds c.decimal (first_not_zero d ds c.front) n
scaled_free (d ∷ ds) (negsuc n) c = small_free d ds c.decimal (first_not_zero d ds c.front) (suc n)

radix_plain : (radix : ℕ) (ds : List ℕ) → is_prefixed radix ≡ true → radix ≤ 36 → AllDigits radix ds → plain (48 ∷ letter radix ∷ ds) ≡ 48 ∷ letter radix ∷ ds
radix_plain radix ds p l a =
    ap (λ (x : List ℕ). 48 ∷ x) (plain_here (letter radix) ds (letter_here (letter radix) radix (letter_is radix p)))
    ∙ ap (λ (x : List ℕ). 48 ∷ letter radix ∷ x) (plain_digits radix ds l a)

and_none : (b : Bool) (o : Option ℕ) → o ≡ None → (b && is_new_prefix o) ≡ false
and_none true o e = ap is_new_prefix e
and_none false o e = refl

minified_again : (style : Style) (v : SpecNumber) → IsCanonical v → HasPrefix v → in_edition style (minified v) (whole_text v) ≡ minified v
minified_again style (Scaled ds x) c p =
    let f = scaled_free ds x c in
    unchanged style (scaled_text ds x) (whole_text (Scaled ds x)) (and_none (is_up_to_es5 style) (prefix_radix (scaled_text ds x)) f.bare)
    ∙ settled style (scaled_text ds x) f.same
minified_again style (InRadix radix ds) c p =
    let t = not_ten radix p in
    let low : radix ≤ 36 = omega (arith, c.upper) in
    let text : minified (InRadix radix ds) ≡ 48 ∷ letter radix ∷ ds = ap (λ b. if b then scaled_text ds (pos 0) else 48 ∷ letter radix ∷ ds) t in
    ap (λ (w : Option (List ℕ)). in_edition style (minified (InRadix radix ds)) w) (ap (λ b. if b then whole_digits ds 0 else None) t)
    ∙ no_whole style (minified (InRadix radix ds))
    ∙ settled style (minified (InRadix radix ds)) (ap plain text ∙ radix_plain radix ds p low c.digits_in_radix ∙ sym text)

pub formatted_again : FormattedAgain
formatted_again style v None c p h = minified_again style v c p
formatted_again style v (Some raw) c p h = read_again style raw v (whole_text v) (whole_plain v c p) (h raw refl)
