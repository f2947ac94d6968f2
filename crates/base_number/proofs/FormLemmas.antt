-- Lemmas on a scaled number as it is kept: its digits, and those of its exponent behind them, in one text.
use Rattle.std.proofs.Common.{◌≡◌, ℕ, zero, suc, ◌+◌, ◌-◌, ◌<◌, Bool, true, false, List, ◌++◌, length, take, drop, refl, sym, ap, ◌∙◌, arith, length-append}
use Rattle.std.proofs.Math.Seq.{take-append_seam, drop-append_seam}
use Rattle.std.proofs.lemmas.List.{take-append-drop, take_all, length-take-le, length-drop}
use Rattle.std.specs.Prelude.{pos, neg_ℤ, nat_abs, if◌then◌else◌}
use Rattle.std.specs.Str.Parse.{digits_value}
use Rattle.base_number.specs.Numbers.{SpecNumber, Scaled, IsDecimal, signed, numeral, number_digits, number_exponent, is_below_zero}
use Rattle.base_number.specs.NumberForm.{IsSigned, IsKeptScaled}
use Rattle.std.specs.Cmp.Lexicographic.{pointwise, same_text, other_text}
use Rattle.std.specs.Prelude.{nat_eq}
use Rattle.base_number.proofs.DigitLemmas.{by_test}

-- the two parts of the text
pub front_part : (digits exponent text : List ℕ) (count : ℕ) → count ≡ length digits → text ≡ digits ++ exponent → take count text ≡ digits
front_part digits exponent text count is is' = rw (is, is') (take-append_seam digits exponent)

pub back_part : (digits exponent text : List ℕ) (count : ℕ) → count ≡ length digits → text ≡ digits ++ exponent → drop count text ≡ exponent
back_part digits exponent text count is is' = rw (is, is') (drop-append_seam digits exponent)

-- all that stands behind a place
pub all_behind : (count : ℕ) (text : List ℕ) → take (length text - count) (drop count text) ≡ drop count text
all_behind count text =
    take_all (length text - count) (drop count text) (let long : length (drop count text) ≡ length text - count = length-drop count text in omega arith)

-- two parts make a number
pub kept_parts : (negative : Bool) (digits exponent text : List ℕ) (count : ℕ) → count ≡ length digits → text ≡ digits ++ exponent → IsDecimal digits (signed negative exponent) → IsSigned negative exponent → IsKeptScaled negative count text
kept_parts negative digits exponent text count is is' decimal sign =
    let front : take count text ≡ digits = front_part digits exponent text count is is' in
    let back : drop count text ≡ exponent = back_part digits exponent text count is is' in
    let long : length text ≡ length digits + length exponent = ap length is' ∙ length-append digits exponent in
    record {
      within = omega arith;
      decimal = rw (front, back) decimal;
      exponent = rw back sign;
    }

-- a sign and a number, where 0 has no minus
signed_numbers : (n n' : Bool) (a b : ℕ) → (n ≡ true → 0 < a) → (n' ≡ true → 0 < b) → (if n then neg_ℤ (pos a) else pos a) ≡ (if n' then neg_ℤ (pos b) else pos b) → (n ≡ n') × (a ≡ b)
signed_numbers false false a b some some' is = (refl, ap nat_abs is)
signed_numbers true true zero b some some' is = absurd (let none : 0 < 0 = some refl in omega arith)
signed_numbers true true (suc a) zero some some' is = absurd (let none : 0 < 0 = some' refl in omega arith)
signed_numbers true true (suc a) (suc b) some some' is = (refl, ap nat_abs is)
signed_numbers false true a zero some some' is = absurd (let none : 0 < 0 = some' refl in omega arith)
signed_numbers false true a (suc b) some some' is = absurd (let differs : false ≡ true = ap is_below_zero is in cc)
signed_numbers true false zero b some some' is = absurd (let none : 0 < 0 = some refl in omega arith)
signed_numbers true false (suc a) b some some' is = absurd (let differs : true ≡ false = ap is_below_zero is in cc)

-- a sign and digits are told by their number
pub signed_same : (n n' : Bool) (e e' : List ℕ) → IsSigned n e → IsSigned n' e' → signed n e ≡ signed n' e' → (n ≡ n') × (e ≡ e')
signed_same n n' e e' kept kept' is =
    let parts : (n ≡ n') × (digits_value 10 e ≡ digits_value 10 e') = signed_numbers n n' (digits_value 10 e) (digits_value 10 e') kept.sign kept'.sign is in
    (parts.0, kept.digits_again ∙ (ap numeral parts.1 ∙ sym kept'.digits_again))

-- a number is kept in one form
pub same_kept : (n n' : Bool) (c c' : ℕ) (t t' : List ℕ) → IsKeptScaled n c t → IsKeptScaled n' c' t' → Scaled (take c t) (signed n (drop c t)) ≡ Scaled (take c' t') (signed n' (drop c' t')) → (n ≡ n') × (c ≡ c') × (t ≡ t')
same_kept n n' c c' t t' kept kept' is =
    let digits : take c t ≡ take c' t' = ap number_digits is in
    let exponents : (n ≡ n') × (drop c t ≡ drop c' t') = signed_same n n' (drop c t) (drop c' t') kept.exponent kept'.exponent (ap number_exponent is) in
    let count : c ≡ c' = sym (length-take-le c t kept.within) ∙ (ap length digits ∙ length-take-le c' t' kept'.within) in
    let whole : t ≡ t' = sym (take-append-drop c t) ∙ (ap (λ ds. ds ++ drop c t) digits ∙ (ap (λ ds. take c' t' ++ ds) exponents.1 ∙ take-append-drop c' t')) in
    (exponents.0, count, whole)

-- one form is one number
pub one_view : (n n' : Bool) (c c' : ℕ) (t t' : List ℕ) → n ≡ n' → c ≡ c' → t ≡ t' → Scaled (take c t) (signed n (drop c t)) ≡ Scaled (take c' t') (signed n' (drop c' t'))
one_view n n' c c' t t' same same' same'' = rw (same, same', same'') refl

-- two texts are compared last, where the rest is the same
pub texts_tell : (n n' : Bool) (c c' : ℕ) (t t' : List ℕ) (a b : SpecNumber) → IsKeptScaled n c t → IsKeptScaled n' c' t' → Scaled (take c t) (signed n (drop c t)) ≡ a → Scaled (take c' t') (signed n' (drop c' t')) ≡ b → n ≡ n' → c ≡ c' → (pointwise nat_eq t t' ≡ true → a ≡ b) × (a ≡ b → pointwise nat_eq t t' ≡ true)
texts_tell n n' c c' t t' a b kept kept' view view' same same' = (
  λ equal. sym view ∙ (one_view n n' c c' t t' same same' (same_text t t' (sym equal)) ∙ view'),
  λ equal. by_test (pointwise nat_eq t t') (pointwise nat_eq t t' ≡ true) (λ e. e) (λ e. absurd (other_text t t' (sym e) (same_kept n n' c c' t t' kept kept' (view ∙ (equal ∙ sym view'))).2)),
)

-- two numbers of which some part differs are two
pub parts_tell : (n n' : Bool) (c c' : ℕ) (t t' : List ℕ) (a b : SpecNumber) → IsKeptScaled n c t → IsKeptScaled n' c' t' → Scaled (take c t) (signed n (drop c t)) ≡ a → Scaled (take c' t') (signed n' (drop c' t')) ≡ b → a ≡ b → (n ≡ n') × (c ≡ c')
parts_tell n n' c c' t t' a b kept kept' view view' equal =
    let same : (n ≡ n') × (c ≡ c') × (t ≡ t') = same_kept n n' c c' t t' kept kept' (view ∙ (equal ∙ sym view')) in
    (same.0, same.1)
