-- What the parts of a number's text are.
use Rattle.std.proofs.Common.{◌≡◌, ℕ, suc, ◌<◌, true, false, cond, List, [], ◌∷◌, length, drop, sym, ap, subst, ◌∙◌, arith}
use Rattle.std.specs.Prelude.{◌==◌, if◌then◌else◌, pos, negsuc, nat_abs}
use Rattle.std.specs.Char.{digit_value}
use Rattle.std.specs.Str.{IsAscii}
use Rattle.std.specs.Str.Parse.{digits_value, AllDigits, IsNumeral, without_leading_plus}
use Rattle.std.proofs.lemmas.Bool.{eq-eqb, false≢true}
use Rattle.std.proofs.lemmas.Bool.Decides.{nat_tests}
use Rattle.base_number.specs.Numbers.{SpecNumber, Scaled, InRadix, numeral, number_exponent, number_digits, number_radix, is_below_zero, IsCanonical}
use Rattle.base_number.proofs.NumberLemmas.{ascii_digits}
use Rattle.print_spelling.specs.Number.Numbers.{large_text, small_text, scaled_text, minified, letter}
use Rattle.print_spelling.proofs.number.MinifiedLemmas.{numeral_is}

pub numeral_value : (n : ℕ) → digits_value 10 (numeral n) ≡ n
numeral_value n = (numeral_is n).value

-- a numeral is one as `parse` reads it
pub record Parsed (bs : List ℕ) : Type 0 where
  pub same : without_leading_plus bs ≡ bs
  pub numeral : IsNumeral 10 bs

parsed_cons : (c : ℕ) (cs : List ℕ) → AllDigits 10 (c ∷ cs) → Parsed (c ∷ cs)
parsed_cons c cs h =
    let plus : (c == 43) ≡ false = let x : digit_value c < 10 = h.0 in grind (arith, nat_tests) in
    record { same = ap (λ b. drop (cond b 1 0) (c ∷ cs)) plus; numeral = (omega arith, h) }

pub parsed : (bs : List ℕ) (n : ℕ) → bs ≡ numeral n → Parsed bs
parsed bs n e =
    let i = numeral_is n in
    let all : AllDigits 10 bs = subst (λ (l : List ℕ). AllDigits 10 l) (sym e) i.digits in
    let parts : bs ≡ i.first ∷ i.others = e ∙ i.parts in
    subst Parsed (sym parts) (parsed_cons i.first i.others (subst (λ (l : List ℕ). AllDigits 10 l) parts all))

-- a number by its parts, as the code sees them
pub power_is : (v : SpecNumber) (power : List ℕ) → power ≡ numeral (nat_abs (number_exponent v)) → power ≡ numeral (digits_value 10 power)
power_is v power e = e ∙ ap numeral (sym (ap (digits_value 10) e ∙ numeral_value (nat_abs (number_exponent v))))

pub canonical_ascii : (v : SpecNumber) (ds : List ℕ) → ds ≡ number_digits v → IsCanonical v → number_radix v ≡ 10 → IsAscii ds
canonical_ascii (Scaled ds x) es e c r = subst IsAscii (sym e) (ascii_digits 10 ds (omega arith) c.decimal)
canonical_ascii (InRadix radix ds) es e c r = subst IsAscii (sym e) (ascii_digits radix ds (let u = c.upper in omega arith) c.digits_in_radix)

-- what `parse` answers at a numeral
pub ok_is : (bs : List ℕ) (v : ℕ) → bs ≡ numeral (digits_value 10 bs)
    → (IsNumeral 10 (without_leading_plus bs) × (digits_value 10 (without_leading_plus bs) < 18446744073709551616)) × (v ≡ digits_value 10 (without_leading_plus bs))
    → (digits_value 10 bs < 18446744073709551616) × (v ≡ digits_value 10 bs)
ok_is bs v e h =
    let same = (parsed bs (digits_value 10 bs) e).same in
    (subst (λ l. digits_value 10 l < 18446744073709551616) same h.0.1, h.1 ∙ ap (digits_value 10) same)

pub err_is : (bs : List ℕ) → bs ≡ numeral (digits_value 10 bs)
    → (IsNumeral 10 (without_leading_plus bs) × (digits_value 10 (without_leading_plus bs) < 18446744073709551616) → ⊥)
    → digits_value 10 bs < 18446744073709551616 → ⊥
err_is bs e h l =
    let p = parsed bs (digits_value 10 bs) e in
    h (subst (IsNumeral 10) (sym p.same) p.numeral, subst (λ x. digits_value 10 x < 18446744073709551616) (sym p.same) l)

-- which text a number has
pub small_is : (v : SpecNumber) (ds power : List ℕ) → ds ≡ number_digits v → power ≡ numeral (nat_abs (number_exponent v)) → number_radix v ≡ 10
    → is_below_zero (number_exponent v) ≡ true → (length ds ≡ 0 → ⊥) → small_text ds (digits_value 10 power) ≡ minified v
small_is (Scaled [] x) ds power e f r n some = absurd (some (ap length e))
small_is (Scaled (d ∷ es) (pos k)) ds power e f r n some = absurd (false≢true n)
small_is (Scaled (d ∷ es) (negsuc k)) ds power e f r n some =
    ap (λ l. small_text l (digits_value 10 power)) e ∙ ap (small_text (d ∷ es)) (ap (digits_value 10) f ∙ numeral_value (suc k))
small_is (InRadix radix es) ds power e f r n some = absurd (false≢true n)

pub large_is : (v : SpecNumber) (ds power : List ℕ) → ds ≡ number_digits v → power ≡ numeral (nat_abs (number_exponent v)) → number_radix v ≡ 10
    → is_below_zero (number_exponent v) ≡ false → (length ds ≡ 0 → ⊥) → large_text ds (digits_value 10 power) ≡ minified v
large_is (Scaled [] x) ds power e f r n some = absurd (some (ap length e))
large_is (Scaled (d ∷ es) (pos k)) ds power e f r n some =
    ap (λ l. large_text l (digits_value 10 power)) e ∙ ap (large_text (d ∷ es)) (ap (digits_value 10) f ∙ numeral_value k)
large_is (Scaled (d ∷ es) (negsuc k)) ds power e f r n some = absurd (false≢true (sym n))
large_is (InRadix radix []) ds power e f r n some = absurd (some (ap length e))
large_is (InRadix radix (d ∷ es)) ds power e f r n some =
    ap (λ l. large_text l (digits_value 10 power)) e ∙ ap (large_text (d ∷ es)) (ap (digits_value 10) f ∙ numeral_value 0)
    ∙ sym (ap (λ b. if b then scaled_text (d ∷ es) (pos 0) else 48 ∷ letter radix ∷ d ∷ es) (eq-eqb radix 10 r))
