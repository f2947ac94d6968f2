-- A number without its separators has the same value.
use Rattle.std.proofs.Common.{◌≡◌, ℕ, ◌<◌, ◌≤◌, ◌⊎◌, inl, inr, map, ⊎_elim, Bool, true, false, cond, List, [], ◌∷◌, ◌++◌, length, refl, sym, ap, subst, ◌∙◌, arith}
use Rattle.std.specs.Prelude.{◌&&◌, ◌||◌, ◌==◌, not, nat_lt, if◌then◌else◌, Option, Some, None, unwrap_or, pos, negsuc, ◌-ℤ◌}
use Rattle.std.specs.Char.{is_digit, digit_value, to_ascii_lowercase}
use Rattle.std.specs.List.{list_all, list_any}
use Rattle.std.specs.Str.Parse.{AllDigits}
use Rattle.std.proofs.lemmas.Bool.{cases_Bool, ltb-true, eqb-true, false≢true, and_parts, or_right}
use Rattle.std.proofs.lemmas.Bool.Decides.{nat_tests}
use Rattle.std.proofs.lemmas.Option.{same_Some}
use Rattle.base_number.specs.Numbers.{SpecNumber, Scaled, InRadix, number_of, number_by, prefix_radix, radix_of_letter, decimal_number, decimal_value, in_radix, is_legacy_octal, spells_octal, spells_non_octal, spells_digits, spells_integer, spells_mantissa, spells_exponent, exponent_value, signed, is_negative, unsigned, plain, before, after, is_mark, none_left, past_first, scaled, trim_front, IsCanonical}
use Rattle.base_number.proofs.DigitLemmas.{spelled_digits}
use Rattle.print_spelling.specs.declared.style.Style.{Style}
use Rattle.print_spelling.specs.Styles.{is_below_es2021, is_up_to_es5}
use Rattle.print_spelling.specs.Number.Numbers.{zeros, HasPrefix, is_prefixed, is_new_prefix, whole_digits, whole_text, separated, whole_in_edition, in_edition, FormattedIsRead}
use Rattle.print_spelling.proofs.number.BigLemmas.{first_digit, prefix_prefixed}
use Rattle.print_spelling.proofs.number.MinifiedLemmas.{plain_digits, digits_spelled, in_parts, kept_radix, unprefixed, zeros_behind, zero_read, minified_is_read}

-- ---- separators

pub plain_here : (c : ℕ) (cs : List ℕ) → (c == 95) ≡ false → plain (c ∷ cs) ≡ c ∷ plain cs
plain_here c cs e = ap (λ b. cond (not b) (c ∷ plain cs) (plain cs)) e

plain_gone : (c : ℕ) (cs : List ℕ) → (c == 95) ≡ true → plain (c ∷ cs) ≡ plain cs
plain_gone c cs e = ap (λ b. cond (not b) (c ∷ plain cs) (plain cs)) e

pub plain_twice : (t : List ℕ) → plain (plain t) ≡ plain t
plain_twice [] = refl
plain_twice (c ∷ cs) = ⊎_elim
    (λ (e : (c == 95) ≡ true). ap plain (plain_gone c cs e) ∙ plain_twice cs ∙ sym (plain_gone c cs e))
    (λ (e : (c == 95) ≡ false).
    ap plain (plain_here c cs e) ∙ plain_here c (plain cs) e ∙ ap (λ (x : List ℕ). c ∷ x) (plain_twice cs) ∙ sym (plain_here c cs e))
    (cases_Bool (c == 95))

omap : Option (List ℕ) → Option (List ℕ)
omap None = None
omap (Some t) = Some (plain t)

-- a separator is no mark
module _ (m : ℕ) (free : is_mark m 95 ≡ false) where
  no_mark : (c : ℕ) → (c == 95) ≡ true → is_mark m c ≡ false
  no_mark c e = ap (is_mark m) (eqb-true c 95 e) ∙ free

  before_plain : (t : List ℕ) → before m (plain t) ≡ plain (before m t)
  before_plain [] = refl
  before_plain (c ∷ cs) = ⊎_elim
      (λ (e : (c == 95) ≡ true).
      ap (before m) (plain_gone c cs e) ∙ before_plain cs
      ∙ sym (ap (λ b. plain (if b then [] else c ∷ before m cs)) (no_mark c e) ∙ plain_gone c (before m cs) e))
      (λ (e : (c == 95) ≡ false).
      ap (before m) (plain_here c cs e)
      ∙ ⊎_elim
      (λ (k : is_mark m c ≡ true).
      ap (λ b. if b then [] else c ∷ before m (plain cs)) k ∙ sym (ap (λ b. plain (if b then [] else c ∷ before m cs)) k))
      (λ (k : is_mark m c ≡ false).
      ap (λ b. if b then [] else c ∷ before m (plain cs)) k ∙ ap (λ (x : List ℕ). c ∷ x) (before_plain cs)
      ∙ sym (ap (λ b. plain (if b then [] else c ∷ before m cs)) k ∙ plain_here c (before m cs) e))
      (cases_Bool (is_mark m c)))
      (cases_Bool (c == 95))

  after_plain : (t : List ℕ) → after m (plain t) ≡ omap (after m t)
  unfolding omap
  after_plain [] = refl
  after_plain (c ∷ cs) = ⊎_elim
      (λ (e : (c == 95) ≡ true).
      ap (after m) (plain_gone c cs e) ∙ after_plain cs ∙ sym (ap (λ b. omap (if b then Some cs else after m cs)) (no_mark c e)))
      (λ (e : (c == 95) ≡ false).
      ap (after m) (plain_here c cs e)
      ∙ ⊎_elim
      (λ (k : is_mark m c ≡ true).
      ap (λ b. if b then Some (plain cs) else after m (plain cs)) k ∙ sym (ap (λ b. omap (if b then Some cs else after m cs)) k))
      (λ (k : is_mark m c ≡ false).
      ap (λ b. if b then Some (plain cs) else after m (plain cs)) k ∙ after_plain cs ∙ sym (ap (λ b. omap (if b then Some cs else after m cs)) k))
      (cases_Bool (is_mark m c)))
      (cases_Bool (c == 95))

-- ---- what is spelled is spelled without them

pub spelled_plain : (radix : ℕ) (t : List ℕ) → radix ≤ 36 → spells_digits radix t ≡ true → spells_digits radix (plain t) ≡ true
spelled_plain radix [] l h = absurd (false≢true h)
spelled_plain radix (c ∷ cs) l h =
    let first = first_digit radix c cs l h in
    let all = subst (λ (x : List ℕ). AllDigits radix x) first (spelled_digits radix false (c ∷ cs) l h) in
    ap (spells_digits radix) first ∙ digits_spelled radix c (plain cs) all

all_digits : (radix : ℕ) (t : List ℕ) → list_all (λ c. is_digit c radix) t ≡ true → AllDigits radix t
all_digits radix [] h = tt
all_digits radix (c ∷ cs) h =
    let p = and_parts (is_digit c radix) (list_all (λ c. is_digit c radix) cs) h in
    (ltb-true (digit_value c) radix p.0, all_digits radix cs p.1)

record PlainInteger (c : ℕ) (cs : List ℕ) : Type 0 where
  first : plain (c ∷ cs) ≡ c ∷ plain cs
  spelled : spells_integer (c ∷ plain cs) ≡ true

zero_rest : (cs : List ℕ) → (none_left cs || spells_non_octal cs) ≡ true → plain cs ≡ cs
zero_rest [] h = refl
zero_rest (c ∷ cs) h =
    plain_digits 10 (c ∷ cs) (omega arith) (all_digits 10 (c ∷ cs) (and_parts (list_all (λ x. is_digit x 10) (c ∷ cs)) (list_any (λ x. not (is_digit x 8)) (c ∷ cs)) h).0)

integer_plain : (c : ℕ) (cs : List ℕ) → spells_integer (c ∷ cs) ≡ true → PlainInteger c cs
integer_plain c cs h = ⊎_elim
    (λ (z : (c == 48) ≡ true).
    let other : (c == 95) ≡ false = grind (arith, nat_tests) in
    let rest : (none_left cs || spells_non_octal cs) ≡ true =
    sym (ap (λ b. if b then (none_left cs || spells_non_octal cs) else spells_digits 10 (c ∷ cs)) z) ∙ h in
    record { first = plain_here c cs other; spelled = ap (λ (x : List ℕ). spells_integer (c ∷ x)) (zero_rest cs rest) ∙ h })
    (λ (z : (c == 48) ≡ false).
    let spelled : spells_digits 10 (c ∷ cs) ≡ true =
    sym (ap (λ b. if b then (none_left cs || spells_non_octal cs) else spells_digits 10 (c ∷ cs)) z) ∙ h in
    let first = first_digit 10 c cs (omega arith) spelled in
    record {
      first = first;
      spelled = ap (λ b. if b then (none_left (plain cs) || spells_non_octal (plain cs)) else spells_digits 10 (c ∷ plain cs)) z
          ∙ ap (spells_digits 10) (sym first) ∙ spelled_plain 10 (c ∷ cs) (omega arith) spelled;
    })
    (cases_Bool (c == 48))

fraction_plain : (f : List ℕ) → (none_left f || spells_digits 10 f) ≡ true → (none_left (plain f) || spells_digits 10 (plain f)) ≡ true
fraction_plain [] h = refl
fraction_plain (c ∷ cs) h =
    ap (λ b. none_left (plain (c ∷ cs)) || b) (spelled_plain 10 (c ∷ cs) (omega arith) h) ∙ or_right (none_left (plain (c ∷ cs))) true refl

mantissa_plain : (i : List ℕ) (f : Option (List ℕ)) → spells_mantissa i f ≡ true → spells_mantissa (plain i) (omap f) ≡ true
unfolding omap
mantissa_plain [] None h = absurd (false≢true h)
mantissa_plain (c ∷ cs) None h = let p = integer_plain c cs h in ap spells_integer p.first ∙ p.spelled
mantissa_plain [] (Some f) h = spelled_plain 10 f (omega arith) h
mantissa_plain (c ∷ cs) (Some f) h =
    let parts = and_parts (spells_integer (c ∷ cs)) (none_left f || spells_digits 10 f) h in
    let p = integer_plain c cs parts.0 in
    ap (λ x. spells_mantissa x (Some (plain f))) p.first
    ∙ ap (λ b. b && (none_left (plain f) || spells_digits 10 (plain f))) p.spelled
    ∙ fraction_plain f parts.1

record PlainExponent (t : List ℕ) : Type 0 where
  rest : unsigned (plain t) ≡ plain (unsigned t)
  sign : is_negative (plain t) ≡ is_negative t

exponent_plain : (t : List ℕ) → spells_digits 10 (unsigned t) ≡ true → PlainExponent t
exponent_plain [] h = record { rest = refl; sign = refl }
exponent_plain (c ∷ cs) h = ⊎_elim
    (λ (s : (c == 43 || c == 45) ≡ true).
    let other : (c == 95) ≡ false = grind (arith, nat_tests) in
    let first = plain_here c cs other in
    record {
      rest = ap unsigned first ∙ ap (λ b. if b then plain cs else c ∷ plain cs) s ∙ sym (ap (λ b. plain (if b then cs else c ∷ cs)) s);
      sign = ap is_negative first;
    })
    (λ (s : (c == 43 || c == 45) ≡ false).
    let same : unsigned (c ∷ cs) ≡ c ∷ cs = ap (λ b. if b then cs else c ∷ cs) s in
    let first = first_digit 10 c cs (omega arith) (ap (spells_digits 10) (sym same) ∙ h) in
    record {
      rest = ap unsigned first ∙ ap (λ b. if b then plain cs else c ∷ plain cs) s ∙ sym first ∙ ap plain (sym same);
      sign = ap is_negative first;
    })
    (cases_Bool (c == 43 || c == 45))

exponent_spelled : (x : Option (List ℕ)) → spells_exponent x ≡ true → spells_exponent (omap x) ≡ true
unfolding omap
exponent_spelled None h = refl
exponent_spelled (Some t) h = ap (spells_digits 10) (exponent_plain t h).rest ∙ spelled_plain 10 (unsigned t) (omega arith) h

exponent_same : (x : Option (List ℕ)) → spells_exponent x ≡ true → exponent_value (omap x) ≡ exponent_value x
unfolding omap
exponent_same None h = refl
exponent_same (Some t) h =
    let p = exponent_plain t h in
    ap (λ b. signed b (plain (unsigned (plain t)))) p.sign ∙ ap (λ l. signed (is_negative t) (plain l)) p.rest ∙ ap (signed (is_negative t)) (plain_twice (unsigned t))

fraction_same : (f : Option (List ℕ)) → plain (unwrap_or (omap f) []) ≡ plain (unwrap_or f [])
unfolding omap
fraction_same None = refl
fraction_same (Some f) = plain_twice f

value_same : (i : List ℕ) (f x : Option (List ℕ)) → spells_exponent x ≡ true
    → decimal_value (plain i) (unwrap_or (omap f) []) (omap x) ≡ decimal_value i (unwrap_or f []) x
value_same i f x h =
    ap (λ l. scaled (l ++ plain (unwrap_or (omap f) [])) (exponent_value (omap x) -ℤ pos (length (plain (unwrap_or (omap f) []))))) (plain_twice i)
    ∙ ap (λ l. scaled (plain i ++ l) (exponent_value (omap x) -ℤ pos (length l))) (fraction_same f)
    ∙ ap (λ e. scaled (plain i ++ plain (unwrap_or f [])) (e -ℤ pos (length (plain (unwrap_or f []))))) (exponent_same x h)

pub none_some : {A B : Type 0} {x : A} → None ≡ Some x → B
none_some e = cc

pub if_some : (b : Bool) (x y : SpecNumber) → (if b then Some x else None) ≡ Some y → (b ≡ true) × (Some x ≡ Some y)
if_some true x y e = (refl, e)
if_some false x y e = none_some e

decimal_plain : (t : List ℕ) (v : SpecNumber) → decimal_number t ≡ Some v → decimal_number (plain t) ≡ Some v
decimal_plain t v h =
    let i = before 46 (before 101 t) in
    let f = after 46 (before 101 t) in
    let x = after 101 t in
    let parts = if_some (spells_mantissa (before 46 (before 101 t)) (after 46 (before 101 t)) && spells_exponent (after 101 t))
    (decimal_value (before 46 (before 101 t)) (unwrap_or (after 46 (before 101 t)) []) (after 101 t)) v h in
    let tests = and_parts (spells_mantissa (before 46 (before 101 t)) (after 46 (before 101 t))) (spells_exponent (after 101 t)) parts.0 in
    let m = before_plain 101 refl t in
    in_parts (plain t) (plain (before 46 (before 101 t))) (omap (after 46 (before 101 t))) (omap (after 101 t))
    (ap (before 46) m ∙ before_plain 46 refl (before 101 t)) (ap (after 46) m ∙ after_plain 46 refl (before 101 t)) (after_plain 101 refl t)
    (mantissa_plain (before 46 (before 101 t)) (after 46 (before 101 t)) tests.0) (exponent_spelled (after 101 t) tests.1)
    ∙ ap (λ w. Some w) (value_same (before 46 (before 101 t)) (after 46 (before 101 t)) (after 101 t) tests.1) ∙ parts.1

-- ---- the prefix and the legacy form

pub is_unprefixed : (t : List ℕ) → prefix_radix t ≡ None → is_legacy_octal t ≡ false → number_of t ≡ decimal_number t
unfolding number_of
is_unprefixed t p o = ap (λ x. number_by x t) p ∙ ap (λ b. if b then Some (in_radix 8 (past_first t)) else decimal_number t) o

-- no decimal number begins with a separator, nor with 0 and a separator
mantissa_of : (t : List ℕ) (v : SpecNumber) → decimal_number t ≡ Some v → spells_mantissa (before 46 (before 101 t)) (after 46 (before 101 t)) ≡ true
mantissa_of t v h =
    let parts = if_some (spells_mantissa (before 46 (before 101 t)) (after 46 (before 101 t)) && spells_exponent (after 101 t))
    (decimal_value (before 46 (before 101 t)) (unwrap_or (after 46 (before 101 t)) []) (after 101 t)) v h in
    (and_parts (spells_mantissa (before 46 (before 101 t)) (after 46 (before 101 t))) (spells_exponent (after 101 t)) parts.0).0

bad_first : (i : List ℕ) (f : Option (List ℕ)) → spells_mantissa (95 ∷ i) f ≡ false
bad_first i None = refl
bad_first i (Some f) = refl

pub separator_first : (cs : List ℕ) (v : SpecNumber) → decimal_number (95 ∷ cs) ≡ Some v → ⊥
separator_first cs v h = false≢true (sym (bad_first (before 46 (before 101 cs)) (after 46 (before 101 cs))) ∙ mantissa_of (95 ∷ cs) v h)

bad_second : (i : List ℕ) (f : Option (List ℕ)) → spells_mantissa (48 ∷ 95 ∷ i) f ≡ false
bad_second i None = refl
bad_second i (Some f) = refl

separator_second : (cs : List ℕ) (v : SpecNumber) → decimal_number (48 ∷ 95 ∷ cs) ≡ Some v → ⊥
separator_second cs v h = false≢true (sym (bad_second (before 46 (before 101 cs)) (after 46 (before 101 cs))) ∙ mantissa_of (48 ∷ 95 ∷ cs) v h)

-- octal digits and separators hold no mark
octal_no_mark : (m c : ℕ) → (m ≡ 101) ⊎ (m ≡ 46) → is_digit c 8 ≡ true → is_mark m c ≡ false
octal_no_mark m c h e = ⊎_elim
    (λ (i : m ≡ 101). subst (λ x. is_mark x c ≡ false) (sym i) (no_e c e))
    (λ (i : m ≡ 46). subst (λ x. is_mark x c ≡ false) (sym i) (no_point c e))
    h
  where
    no_e : (x : ℕ) → is_digit x 8 ≡ true → is_mark 101 x ≡ false
    no_e x k = grind (arith, nat_tests)

    no_point : (x : ℕ) → is_digit x 8 ≡ true → is_mark 46 x ≡ false
    no_point x k = grind (arith, nat_tests)

whole_before : (m : ℕ) → (m ≡ 101) ⊎ (m ≡ 46) → is_mark m 95 ≡ false → (t : List ℕ) → list_all (λ c. is_digit c 8) (plain t) ≡ true
    → (before m t ≡ t) × (after m t ≡ None)
whole_before m w free [] h = (refl, refl)
whole_before m w free (c ∷ cs) h = ⊎_elim
    (λ (e : (c == 95) ≡ true).
    let none = no_mark m free c e in
    let rest = whole_before m w free cs (ap (list_all (λ x. is_digit x 8)) (sym (plain_gone c cs e)) ∙ h) in
    (ap (λ b. if b then [] else c ∷ before m cs) none ∙ ap (λ (x : List ℕ). c ∷ x) rest.0, ap (λ b. if b then Some cs else after m cs) none ∙ rest.1))
    (λ (e : (c == 95) ≡ false).
    let all = and_parts (is_digit c 8) (list_all (λ x. is_digit x 8) (plain cs)) (ap (list_all (λ x. is_digit x 8)) (sym (plain_here c cs e)) ∙ h) in
    let none = octal_no_mark m c w all.0 in
    let rest = whole_before m w free cs all.1 in
    (ap (λ b. if b then [] else c ∷ before m cs) none ∙ ap (λ (x : List ℕ). c ∷ x) rest.0, ap (λ b. if b then Some cs else after m cs) none ∙ rest.1))
    (cases_Bool (c == 95))

-- a decimal number of 0, octal digits and separators has no separators
no_separators : (cs : List ℕ) (v : SpecNumber) → list_all (λ c. is_digit c 8) (plain cs) ≡ true → decimal_number (48 ∷ cs) ≡ Some v → plain cs ≡ cs
no_separators cs v all h =
    let e = whole_before 101 (inl refl) refl cs all in
    let f = whole_before 46 (inr refl) refl cs all in
    let i : before 46 (before 101 (48 ∷ cs)) ≡ 48 ∷ cs = ap (λ (x : List ℕ). 48 ∷ before 46 x) e.0 ∙ ap (λ (x : List ℕ). 48 ∷ x) f.0 in
    let j : after 46 (before 101 (48 ∷ cs)) ≡ None = ap (after 46) e.0 ∙ f.1 in
    let m = mantissa_of (48 ∷ cs) v h in
    zero_rest cs (sym (ap (λ x. spells_mantissa x (after 46 (before 101 (48 ∷ cs)))) i ∙ ap (spells_mantissa (48 ∷ cs)) j) ∙ m)

plain_legacy : (cs : List ℕ) (v : SpecNumber) → decimal_number (48 ∷ cs) ≡ Some v → is_legacy_octal (48 ∷ cs) ≡ false → is_legacy_octal (48 ∷ plain cs) ≡ false
plain_legacy cs v h o = ⊎_elim
    (λ (t : is_legacy_octal (48 ∷ plain cs) ≡ true).
    let all = (and_parts (not (none_left (plain cs))) (list_all (λ c. is_digit c 8) (plain cs)) t).1 in
    absurd (false≢true (sym o ∙ ap (λ x. is_legacy_octal (48 ∷ x)) (sym (no_separators cs v all h)) ∙ t)))
    (λ (t : is_legacy_octal (48 ∷ plain cs) ≡ false). t)
    (cases_Bool (is_legacy_octal (48 ∷ plain cs)))

pub second_here : (l : ℕ) (ls : List ℕ) (v : SpecNumber) → decimal_number (48 ∷ l ∷ ls) ≡ Some v → (l == 95) ≡ false
second_here l ls v h = ⊎_elim
    (λ (e : (l == 95) ≡ true). absurd (separator_second ls v (ap (λ x. decimal_number (48 ∷ x ∷ ls)) (sym (eqb-true l 95 e)) ∙ h)))
    (λ (e : (l == 95) ≡ false). e)
    (cases_Bool (l == 95))

zero_plain : (cs : List ℕ) (v : SpecNumber) → prefix_radix (48 ∷ cs) ≡ None → is_legacy_octal (48 ∷ cs) ≡ false → decimal_number (48 ∷ cs) ≡ Some v
    → number_of (48 ∷ plain cs) ≡ Some v
zero_plain [] v p o h = is_unprefixed (48 ∷ []) refl refl ∙ h
zero_plain (l ∷ ls) v p o h =
    let here = plain_here l ls (second_here l ls v h) in
    is_unprefixed (48 ∷ plain (l ∷ ls)) (ap (λ x. prefix_radix (48 ∷ x)) here ∙ p) (plain_legacy (l ∷ ls) v h o) ∙ decimal_plain (48 ∷ l ∷ ls) v h

other_plain : (c : ℕ) (cs : List ℕ) (v : SpecNumber) → (c == 48) ≡ false → decimal_number (c ∷ cs) ≡ Some v → number_of (plain (c ∷ cs)) ≡ Some v
other_plain c cs v z h = ⊎_elim
    (λ (e : (c == 95) ≡ true). absurd (separator_first cs v (ap (λ x. decimal_number (x ∷ cs)) (sym (eqb-true c 95 e)) ∙ h)))
    (λ (e : (c == 95) ≡ false). ap number_of (plain_here c cs e) ∙ unprefixed c (plain cs) z ∙ ap decimal_number (sym (plain_here c cs e)) ∙ decimal_plain (c ∷ cs) v h)
    (cases_Bool (c == 95))

unprefixed_plain : (t : List ℕ) (v : SpecNumber) → prefix_radix t ≡ None → is_legacy_octal t ≡ false → number_of t ≡ Some v → number_of (plain t) ≡ Some v
unprefixed_plain [] v p o h = h
unprefixed_plain (c ∷ cs) v p o h =
    let d : decimal_number (c ∷ cs) ≡ Some v = sym (is_unprefixed (c ∷ cs) p o) ∙ h in
    ⊎_elim
    (λ (z : (c == 48) ≡ true).
    let at : c ≡ 48 = eqb-true c 48 z in
    ap (λ x. number_of (plain (x ∷ cs))) at
    ∙ zero_plain cs v (ap (λ x. prefix_radix (x ∷ cs)) (sym at) ∙ p) (ap (λ x. is_legacy_octal (x ∷ cs)) (sym at) ∙ o) (ap (λ x. decimal_number (x ∷ cs)) (sym at) ∙ d))
    (λ (z : (c == 48) ≡ false). other_plain c cs v z d)
    (cases_Bool (c == 48))

pub legacy_plain : (t : List ℕ) → is_legacy_octal t ≡ true → plain t ≡ t
legacy_plain [] h = refl
legacy_plain (c ∷ cs) h =
    let parts = and_parts (c == 48) (spells_octal cs) h in
    let all = (and_parts (not (none_left cs)) (list_all (λ x. is_digit x 8) cs) parts.1).1 in
    let first : digit_value c < 8 = let x = eqb-true c 48 parts.0 in grind (arith, nat_tests) in
    plain_digits 8 (c ∷ cs) (omega arith) (first, all_digits 8 cs all)

pub letter_here : (l r : ℕ) → radix_of_letter l ≡ Some r → (l == 95) ≡ false
letter_here l r h = ⊎_elim
    (λ (e : (l == 95) ≡ true). none_some (ap radix_of_letter (sym (eqb-true l 95 e)) ∙ h))
    (λ (e : (l == 95) ≡ false). e)
    (cases_Bool (l == 95))

radix_same : (r : ℕ) (ls : List ℕ) → in_radix r (plain ls) ≡ in_radix r ls
unfolding kept_radix
radix_same r ls = ap (λ l. kept_radix r (trim_front (map to_ascii_lowercase l))) (plain_twice ls)

prefixed_plain : (t : List ℕ) (r : ℕ) (v : SpecNumber) → prefix_radix t ≡ Some r → number_of t ≡ Some v → number_of (plain t) ≡ Some v
unfolding number_of
prefixed_plain [] r v p h = none_some p
prefixed_plain (c ∷ []) r v p h = none_some p
prefixed_plain (c ∷ (l ∷ ls)) r v p h = ⊎_elim
    (λ (z : (c == 48) ≡ true).
    let letter_is : radix_of_letter l ≡ Some r = sym (ap (λ b. if b then radix_of_letter l else None) z) ∙ p in
    let low : r ≤ 36 = let x = prefix_prefixed (c ∷ l ∷ ls) r p in grind (arith, nat_tests) in
    let other : (c == 95) ≡ false = grind (arith, nat_tests) in
    let text : plain (c ∷ l ∷ ls) ≡ c ∷ l ∷ plain ls = plain_here c (l ∷ ls) other ∙ ap (λ (x : List ℕ). c ∷ x) (plain_here l ls (letter_here l r letter_is)) in
    let parts = if_some (spells_digits r ls) (in_radix r ls) v (sym (ap (λ o. number_by o (c ∷ l ∷ ls)) p) ∙ h) in
    ap (λ x. number_by (prefix_radix x) x) text
    ∙ ap (λ o. number_by o (c ∷ l ∷ plain ls)) p
    ∙ ap (λ b. if b then Some (in_radix r (plain ls)) else None) (spelled_plain r ls low parts.0)
    ∙ ap (λ w. Some w) (radix_same r ls) ∙ parts.1)
    (λ (z : (c == 48) ≡ false). none_some (sym (ap (λ b. if b then radix_of_letter l else None) z) ∙ p))
    (cases_Bool (c == 48))

pub number_plain : (t : List ℕ) (v : SpecNumber) → number_of t ≡ Some v → number_of (plain t) ≡ Some v
number_plain t v h = by_radix (prefix_radix t) refl
  where
    by_radix : (o : Option ℕ) → prefix_radix t ≡ o → number_of (plain t) ≡ Some v
    by_radix (Some r) e = prefixed_plain t r v e h
    by_radix None e = ⊎_elim
        (λ (o : is_legacy_octal t ≡ true). ap number_of (legacy_plain t o) ∙ h)
        (λ (o : is_legacy_octal t ≡ false). unprefixed_plain t v e o h)
        (cases_Bool (is_legacy_octal t))

-- ---- formatted

separated_read : (style : Style) (raw : List ℕ) (v : SpecNumber) → number_of raw ≡ Some v → number_of (separated style raw) ≡ Some v
separated_read style raw v h = ⊎_elim
    (λ (e : is_below_es2021 style ≡ true). ap (λ b. number_of (if b then plain raw else raw)) e ∙ number_plain raw v h)
    (λ (e : is_below_es2021 style ≡ false). ap (λ b. number_of (if b then plain raw else raw)) e ∙ h)
    (cases_Bool (is_below_es2021 style))

pub or_else : (o : Option (List ℕ)) (x : List ℕ) (v : SpecNumber) → ((t : List ℕ) → o ≡ Some t → number_of t ≡ Some v) → number_of x ≡ Some v
    → number_of (unwrap_or o x) ≡ Some v
or_else None x v w h = h
or_else (Some t) x v w h = w t refl

edition_read : (style : Style) (raw : List ℕ) (v : SpecNumber) (text : Option (List ℕ)) → ((t : List ℕ) → text ≡ Some t → number_of t ≡ Some v)
    → number_of raw ≡ Some v → number_of (in_edition style raw text) ≡ Some v
edition_read style raw v text w h = or_else (whole_in_edition style raw text) (separated style raw) v some (separated_read style raw v h)
  where
    some : (t : List ℕ) → whole_in_edition style raw text ≡ Some t → number_of t ≡ Some v
    some t e = ⊎_elim
        (λ (b : (is_up_to_es5 style && is_new_prefix (prefix_radix raw)) ≡ true). w t (sym (ap (λ x. if x then text else None) b) ∙ e))
        (λ (b : (is_up_to_es5 style && is_new_prefix (prefix_radix raw)) ≡ false). none_some (sym (ap (λ x. if x then text else None) b) ∙ e))
        (cases_Bool (is_up_to_es5 style && is_new_prefix (prefix_radix raw)))

whole_digits_read : (ds : List ℕ) (n : ℕ) → IsCanonical (Scaled ds (pos n)) → (t : List ℕ) → whole_digits ds n ≡ Some t → number_of t ≡ Some (Scaled ds (pos n))
whole_digits_read [] n c t e = ap number_of (sym (same_Some (48 ∷ []) t e)) ∙ zero_read ∙ ap (λ y. Some (Scaled [] y)) (sym (c.zero_exponent refl))
whole_digits_read (d ∷ ds) n c t e = ⊎_elim
    (λ (b : nat_lt n 20 ≡ true).
    let same : Some ((d ∷ ds) ++ zeros n []) ≡ Some t = sym (ap (λ x. if x then Some ((d ∷ ds) ++ zeros n []) else None) b) ∙ e in
    ap number_of (sym (same_Some ((d ∷ ds) ++ zeros n []) t same)) ∙ zeros_behind d ds (pos n) c n)
    (λ (b : nat_lt n 20 ≡ false). none_some (sym (ap (λ x. if x then Some ((d ∷ ds) ++ zeros n []) else None) b) ∙ e))
    (cases_Bool (nat_lt n 20))

whole_read : (v : SpecNumber) → IsCanonical v → HasPrefix v → (t : List ℕ) → whole_text v ≡ Some t → number_of t ≡ Some v
whole_read (Scaled ds (pos n)) c p t e = whole_digits_read ds n c t e
whole_read (Scaled ds (negsuc n)) c p t e = none_some e
whole_read (InRadix radix ds) c p t e = ⊎_elim
    (λ (b : (radix == 10) ≡ true). absurd (false≢true (sym (ap is_prefixed (eqb-true radix 10 b)) ∙ p)))
    (λ (b : (radix == 10) ≡ false). none_some (sym (ap (λ x. if x then whole_digits ds 0 else None) b) ∙ e))
    (cases_Bool (radix == 10))

pub formatted_is_read : FormattedIsRead
formatted_is_read style v None c p h = minified_is_read v c p
formatted_is_read style v (Some raw) c p h = edition_read style raw v (whole_text v) (whole_read v c p) (h raw refl)
