-- A number that is no legacy form (B.1.1) is written as none.
use Rattle.std.proofs.Common.{◌≡◌, ℕ, zero, suc, ◌+◌, ◌-◌, ⊎_elim, Bool, true, false, ◌&&◌, ◌||◌, ◌==◌, if◌then◌else◌, List, [], ◌∷◌, ◌++◌, length, Option, Some, None, refl, sym, ap, subst, ◌∙◌, true≢false, take, drop}
use Rattle.std.specs.Prelude.{nat_lt, nat_le, unwrap_or, ℤ, pos, negsuc}
use Rattle.std.proofs.lemmas.Bool.{cases_Bool, eqb-true}
use Rattle.base_number.specs.Numbers.{SpecNumber, Scaled, InRadix, number_of, prefix_radix, spells_mantissa, spells_exponent, plain, before, after, trim_front, numeral, IsCanonical}
use Rattle.grammar_spec.specs.Judge.Early.{is_legacy, begins_digit}
use Rattle.print_spelling.specs.declared.style.Style.{Style}
use Rattle.print_spelling.specs.Styles.{is_below_es2021, is_up_to_es5}
use Rattle.lex_literal.specs.Standing.{takes_point}
use Rattle.print_spelling.specs.Number.Numbers.{minified, scaled_text, large_text, small_text, zeros, letter, is_prefixed, whole_digits, whole_text, separated, formatted, is_new_prefix, before_member, HasPrefix}
use Rattle.print_spelling.proofs.number.PlainLemmas.{plain_here}
use Rattle.print_layout_spec.specs.Literals.{number_bytes}
use Rattle.again_laws.proofs.leaf.CanonicalNumbers.{number_is_canonical}

-- ---- numbers whose first digit is not 0, and whose radix has a prefix

abbrev Leads : SpecNumber → Type 0
Leads (Scaled [] x) = Unit {0}
Leads (Scaled (d ∷ ds) x) = (d == 48) ≡ false
Leads (InRadix radix ds) = is_prefixed radix ≡ true

-- (a record, so that the number is told from the type)
record Led (v : SpecNumber) : Type 0 where
  is : Leads v

abbrev First : List ℕ → Type 0
First [] = Unit {0}
First (d ∷ ds) = (d == 48) ≡ false

record Fronted (ds : List ℕ) : Type 0 where
  is : First ds

front : (ds : List ℕ) → Fronted (trim_front ds)
front [] = record { is = tt }
front (c ∷ cs) = by (c == 48) refl (front cs)
  where
    by : (b : Bool) → (c == 48) ≡ b → Fronted (trim_front cs) → Fronted (if b then trim_front cs else c ∷ cs)
    by true e f = f
    by false e f = record { is = e }

led_by : (v : SpecNumber) → IsCanonical v → HasPrefix v → Led v
led_by (Scaled [] x) k p = record { is = tt }
led_by (Scaled (d ∷ ds) x) k p = record { is = (subst (λ (l : List ℕ). Fronted l) k.front (front (d ∷ ds))).is }
led_by (InRadix radix ds) k p = record { is = p }

led : (text : List ℕ) (v : SpecNumber) → number_of text ≡ Some v → Led v
led text v e = let k = number_is_canonical text v e in led_by v k.0 k.1

-- ---- their texts

behind_lead : (d : ℕ) (ds : List ℕ) → (d == 48) ≡ false → is_legacy (d ∷ ds) ≡ false
behind_lead d ds e = ap (λ (b : Bool). b && begins_digit ds) e

if_both : (b : Bool) (x y : List ℕ) → is_legacy x ≡ false → is_legacy y ≡ false → is_legacy (if b then x else y) ≡ false
if_both true x y e f = e
if_both false x y e f = f

large : (d : ℕ) (ds : List ℕ) (n : ℕ) → (d == 48) ≡ false → is_legacy (large_text (d ∷ ds) n) ≡ false
large d ds n e = if_both (nat_lt n 3) _ _ (behind_lead d (ds ++ zeros n []) e) (behind_lead d (ds ++ 101 ∷ numeral n) e)

pointed : (m d : ℕ) (ds r : List ℕ) → (d == 48) ≡ false → is_legacy (take m (d ∷ ds) ++ 46 ∷ r) ≡ false
pointed zero d ds r e = refl
pointed (suc m) d ds r e = behind_lead d (take m ds ++ 46 ∷ r) e

small : (d : ℕ) (ds : List ℕ) (n : ℕ) → (d == 48) ≡ false → is_legacy (small_text (d ∷ ds) n) ≡ false
small d ds n e = if_both (nat_lt n (length (d ∷ ds))) _ _ (pointed (length (d ∷ ds) - n) d ds (drop (length (d ∷ ds) - n) (d ∷ ds)) e)
    (if_both (nat_le n (length (d ∷ ds) + 2)) _ _ refl (behind_lead d (ds ++ 101 ∷ 45 ∷ numeral n) e))

scaled_plain : (ds : List ℕ) (x : ℤ) → First ds → is_legacy (scaled_text ds x) ≡ false
scaled_plain [] x e = refl
scaled_plain (d ∷ ds) (pos n) e = large d ds n e
scaled_plain (d ∷ ds) (negsuc n) e = small d ds (suc n) e

-- the three radixes
prefixed : (P : ℕ → Type 0) (radix : ℕ) → is_prefixed radix ≡ true → P 2 → P 8 → P 16 → P radix
prefixed P radix e a b c = by (radix == 2) (radix == 8) (radix == 16) refl refl refl e
  where
    by : (x y z : Bool) → (radix == 2) ≡ x → (radix == 8) ≡ y → (radix == 16) ≡ z → (x || (y || z)) ≡ true → P radix
    by true y z f g h e = subst P (sym (eqb-true radix 2 f)) a
    by false true z f g h e = subst P (sym (eqb-true radix 8 g)) b
    by false false true f g h e = subst P (sym (eqb-true radix 16 h)) c
    by false false false f g h e = absurd (true≢false (sym e))

minified_plain : (v : SpecNumber) → Led v → is_legacy (minified v) ≡ false
minified_plain (Scaled [] x) l = refl
minified_plain (Scaled (d ∷ ds) x) l = scaled_plain (d ∷ ds) x l.is
minified_plain (InRadix radix ds) l = prefixed (λ n. is_legacy (if n == 10 then scaled_text ds (pos 0) else 48 ∷ letter n ∷ ds) ≡ false) radix l.is refl refl refl

abbrev Plain : Option (List ℕ) → Type 0
Plain None = Unit {0}
Plain (Some text) = is_legacy text ≡ false

record Whole (o : Option (List ℕ)) : Type 0 where
  is : Plain o

whole_if : (b : Bool) (x : List ℕ) → is_legacy x ≡ false → Whole (if b then Some x else None)
whole_if true x e = record { is = e }
whole_if false x e = record { is = tt }

digits_plain : (ds : List ℕ) (n : ℕ) → First ds → Whole (whole_digits ds n)
digits_plain [] n e = record { is = refl }
digits_plain (d ∷ ds) n e = whole_if (nat_lt n 20) ((d ∷ ds) ++ zeros n []) (behind_lead d (ds ++ zeros n []) e)

whole_plain : (v : SpecNumber) → Led v → Whole (whole_text v)
whole_plain (Scaled [] (pos n)) l = record { is = refl }
whole_plain (Scaled (d ∷ ds) (pos n)) l = digits_plain (d ∷ ds) n l.is
whole_plain (Scaled [] (negsuc n)) l = record { is = tt }
whole_plain (Scaled (d ∷ ds) (negsuc n)) l = record { is = tt }
whole_plain (InRadix radix ds) l = prefixed (λ n. Whole (if n == 10 then whole_digits ds 0 else None)) radix l.is (record { is = tt }) (record { is = tt }) (record { is = tt })

-- ---- the text as it was read, without `_`

none_of : (v : SpecNumber) → None ≡ Some v → ⊥
none_of v e = cc

nothing_if : {A : Type 0} (b : Bool) (x v : A) → b ≡ false → (if b then Some x else None) ≡ Some v → ⊥
nothing_if true x v e f = true≢false e
nothing_if false x v e f = cc

-- no number starts with `_`, nor with `0_`
bar_first : (cs : List ℕ) (v : SpecNumber) → number_of (95 ∷ cs) ≡ Some v → ⊥
unfolding number_of
bar_first [] v e = none_of v e
bar_first (c ∷ cs) v e = nothing_if _ _ v (bad (after 46 (before 101 (c ∷ cs)))) e
  where
    bad : (o : Option (List ℕ)) → (spells_mantissa (95 ∷ before 46 (before 101 (c ∷ cs))) o && spells_exponent (after 101 (c ∷ cs))) ≡ false
    bad None = refl
    bad (Some f) = refl

bar_second : (cs : List ℕ) (v : SpecNumber) → number_of (48 ∷ 95 ∷ cs) ≡ Some v → ⊥
unfolding number_of
bar_second cs v e = nothing_if _ _ v (bad (after 46 (before 101 cs))) e
  where
    bad : (o : Option (List ℕ)) → (spells_mantissa (48 ∷ 95 ∷ before 46 (before 101 cs)) o && spells_exponent (after 101 cs)) ≡ false
    bad None = refl
    bad (Some f) = refl

second_digit : (ds : List ℕ) (v : SpecNumber) → number_of (48 ∷ ds) ≡ Some v → begins_digit ds ≡ false → begins_digit (plain ds) ≡ false
second_digit [] v n e = refl
second_digit (d ∷ ds) v n e = ⊎_elim
    (λ (t : (d == 95) ≡ true). absurd (bar_second ds v (subst (λ (k : ℕ). number_of (48 ∷ k ∷ ds) ≡ Some v) (eqb-true d 95 t) n)))
    (λ (f : (d == 95) ≡ false). ap begins_digit (plain_here d ds f) ∙ e)
    (cases_Bool (d == 95))

plain_is_plain : (own : List ℕ) (v : SpecNumber) → number_of own ≡ Some v → is_legacy own ≡ false → is_legacy (plain own) ≡ false
plain_is_plain [] v n e = refl
plain_is_plain (c ∷ cs) v n e = ⊎_elim
    (λ (t : (c == 95) ≡ true). absurd (bar_first cs v (subst (λ (k : ℕ). number_of (k ∷ cs) ≡ Some v) (eqb-true c 95 t) n)))
    (λ (f : (c == 95) ≡ false). ap is_legacy (plain_here c cs f) ∙ by)
    (cases_Bool (c == 95))
  where
    by : is_legacy (c ∷ plain cs) ≡ false
    by = ⊎_elim
        (λ (t : (c == 48) ≡ true).
        ap (λ (b : Bool). b && begins_digit (plain cs)) t ∙ second_digit cs v (subst (λ (k : ℕ). number_of (k ∷ cs) ≡ Some v) (eqb-true c 48 t) n) (sym (ap (λ (b : Bool). b && begins_digit cs) t) ∙ e))
        (λ (t : (c == 48) ≡ false). behind_lead c (plain cs) t)
        (cases_Bool (c == 48))

-- ---- what is written of a number

unwrapped : (b : Bool) (o : Option (List ℕ)) (x : List ℕ) → Whole o → is_legacy x ≡ false → is_legacy (unwrap_or (if b then o else None) x) ≡ false
unwrapped true None x w e = e
unwrapped true (Some t) x w e = w.is
unwrapped false o x w e = e

written_plain : (style : Style) (v : SpecNumber) (own : List ℕ) → number_of own ≡ Some v → is_legacy own ≡ false → is_legacy (number_bytes style v (Some own)) ≡ false
written_plain style v own n e = by style.minify
  where
    old : (b : Bool) → is_legacy (if b then plain own else own) ≡ false
    old true = plain_is_plain own v n e
    old false = e

    by : (b : Bool) → is_legacy (if b then minified v else formatted style v (Some own)) ≡ false
    by true = minified_plain v (led own v n)
    by false = unwrapped (is_up_to_es5 style && is_new_prefix (prefix_radix own)) (whole_text v) (separated style own) (whole_plain v (led own v n)) (old (is_below_es2021 style))

-- a point behind it changes nothing
pointed_legacy : (text : List ℕ) → is_legacy (text ++ 46 ∷ []) ≡ is_legacy text
pointed_legacy [] = refl
pointed_legacy (c ∷ []) = refl
pointed_legacy (c ∷ (d ∷ ds)) = refl

pub number_plain : (style : Style) (before : Bool) (v : SpecNumber) (own : List ℕ) → number_of own ≡ Some v → is_legacy own ≡ false
    → is_legacy (if before then before_member (number_bytes style v (Some own)) else number_bytes style v (Some own)) ≡ false
number_plain style before v own n e = by before
  where
    text : List ℕ
    text = number_bytes style v (Some own)

    point : (b : Bool) → is_legacy (if b then text ++ 46 ∷ [] else text) ≡ false
    point true = pointed_legacy text ∙ written_plain style v own n e
    point false = written_plain style v own n e

    by : (b : Bool) → is_legacy (if b then before_member text else text) ≡ false
    by true = point (takes_point text)
    by false = written_plain style v own n e
