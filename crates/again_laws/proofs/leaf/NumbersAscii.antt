-- A number that is read is ASCII.
use Rattle.std.proofs.Common.{◌≡◌, ℕ, ◌<◌, ◌≤◌, ⊎_elim, Bool, true, false, cond, ◌&&◌, ◌||◌, not, List, [], ◌∷◌, ◌++◌, Option, Some, None, refl, sym, ap, subst, ◌∙◌, arith}
use Rattle.std.specs.Prelude.{◌==◌, if◌then◌else◌, nat_lt, unwrap_or}
use Rattle.std.specs.List.{list_all}
use Rattle.std.specs.Char.{is_digit}
use Rattle.std.proofs.lemmas.Bool.{cases_Bool, false≢true, and_parts, eqb-true, or_cases}
use Rattle.std.proofs.lemmas.Bool.Decides.{nat_tests}
use Rattle.base_number.specs.Numbers.{SpecNumber, number_of, number_by, prefix_radix, radix_of_letter, decimal_number, decimal_value, in_radix, is_legacy_octal, spells_octal, spells_non_octal, spells_integer, spells_digits, goes_on, spells_mantissa, spells_exponent, is_mark, none_left, unsigned, before, after, past_first, plain}
use Rattle.again_laws.proofs.tokens.Ascii.{is_ascii}
use Rattle.lex_literal.specs.Numbers.{big_of, big_by, spells_big_decimal}
use Rattle.again_laws.specs.Leaf.Laws.{NumberIsAscii, BigIsAscii}
use Rattle.again_laws.proofs.leaf.CanonicalNumbers.{some_if, prefix_ok}

onto : (c : ℕ) (cs : List ℕ) → nat_lt c 128 ≡ true → is_ascii cs ≡ true → is_ascii (c ∷ cs) ≡ true
onto c cs e f = both (nat_lt c 128) (is_ascii cs) e f
  where
    both : (a b : Bool) → a ≡ true → b ≡ true → (a && b) ≡ true
    both true b e f = f
    both false b e f = e

low_at : (c n : ℕ) → nat_lt n 128 ≡ true → (c == n) ≡ true → nat_lt c 128 ≡ true
low_at c n h e = subst (λ m. nat_lt m 128 ≡ true) (sym (eqb-true c n e)) h

digit_low : (c r : ℕ) → r ≤ 36 → is_digit c r ≡ true → nat_lt c 128 ≡ true
digit_low c r h e = grind (arith, nat_tests)

mark_low : (m c : ℕ) → m < 128 → is_mark m c ≡ true → nat_lt c 128 ≡ true
mark_low m c h e = grind (arith, nat_tests)

goes_low : (r : ℕ) (b : Bool) (text : List ℕ) → r ≤ 36 → goes_on r b text ≡ true → is_ascii text ≡ true
goes_low r b [] h e = refl
goes_low r b (c ∷ cs) h e = ⊎_elim
    (λ (t : is_digit c r ≡ true). onto c cs (digit_low c r h t) (goes_low r true cs h (sym (ap (λ v. cond v (goes_on r true cs) (b && (c == 95 && goes_on r false cs))) t) ∙ e)))
    (λ (f : is_digit c r ≡ false).
    let p = and_parts b _ (sym (ap (λ v. cond v (goes_on r true cs) (b && (c == 95 && goes_on r false cs))) f) ∙ e) in
    let q = and_parts (c == 95) (goes_on r false cs) p.1 in
    onto c cs (low_at c 95 refl q.0) (goes_low r false cs h q.1))
    (cases_Bool (is_digit c r))

all_low : (r : ℕ) (text : List ℕ) → r ≤ 36 → list_all (λ c. is_digit c r) text ≡ true → is_ascii text ≡ true
all_low r [] h e = refl
all_low r (c ∷ cs) h e = let p = and_parts (is_digit c r) (list_all (λ c. is_digit c r) cs) e in onto c cs (digit_low c r h p.0) (all_low r cs h p.1)

none_low : (text : List ℕ) → none_left text ≡ true → is_ascii text ≡ true
none_low [] e = refl
none_low (c ∷ cs) e = absurd (false≢true e)

integer_low : (text : List ℕ) → spells_integer text ≡ true → is_ascii text ≡ true
integer_low [] e = refl
integer_low (c ∷ cs) e = ⊎_elim
    (λ (t : (c == 48) ≡ true). onto c cs (low_at c 48 refl t) (⊎_elim (λ (n : none_left cs ≡ true). none_low cs n) (λ (n : spells_non_octal cs ≡ true). all_low 10 cs (omega arith) (and_parts (list_all (λ c. is_digit c 10) cs) _ n).0)
    (or_cases (none_left cs) (spells_non_octal cs) (sym (ap (λ v. cond v (none_left cs || spells_non_octal cs) (spells_digits 10 (c ∷ cs))) t) ∙ e))))
    (λ (f : (c == 48) ≡ false). goes_low 10 false (c ∷ cs) (omega arith) (sym (ap (λ v. cond v (none_left cs || spells_non_octal cs) (spells_digits 10 (c ∷ cs))) f) ∙ e))
    (cases_Bool (c == 48))

abbrev Low : Option (List ℕ) → Type 0
Low None = Unit {0}
Low (Some t) = is_ascii t ≡ true

split_low : (m : ℕ) (text : List ℕ) → m < 128 → is_ascii (before m text) ≡ true → Low (after m text) → is_ascii text ≡ true
split_low m [] h e f = refl
split_low m (c ∷ cs) h e f = by (is_mark m c) (λ t. t) (λ x y. split_low m cs h x y) e f
  where
    by : (b : Bool) → (b ≡ true → is_mark m c ≡ true) → (is_ascii (before m cs) ≡ true → Low (after m cs) → is_ascii cs ≡ true) → is_ascii (if b then [] else c ∷ before m cs) ≡ true → Low (if b then Some cs else after m cs) → is_ascii (c ∷ cs) ≡ true
    by true g i e f = onto c cs (mark_low m c h (g refl)) f
    by false g i e f = let p = and_parts (nat_lt c 128) (is_ascii (before m cs)) e in onto c cs p.0 (i p.1 f)

mantissa_low : (integer : List ℕ) (fraction : Option (List ℕ)) → spells_mantissa integer fraction ≡ true → (is_ascii integer ≡ true) × Low fraction
mantissa_low integer None e = (integer_low integer e, tt)
mantissa_low [] (Some f) e = (refl, goes_low 10 false f (omega arith) e)
mantissa_low (c ∷ cs) (Some f) e =
    let p = and_parts (spells_integer (c ∷ cs)) _ e in
    (integer_low (c ∷ cs) p.0, ⊎_elim (λ (n : none_left f ≡ true). none_low f n) (λ (n : spells_digits 10 f ≡ true). goes_low 10 false f (omega arith) n) (or_cases (none_left f) (spells_digits 10 f) p.1))

unsigned_low : (text : List ℕ) → is_ascii (unsigned text) ≡ true → is_ascii text ≡ true
unsigned_low [] e = refl
unsigned_low (c ∷ cs) e = by (c == 43 || c == 45) (λ t. ⊎_elim (λ (p : (c == 43) ≡ true). low_at c 43 refl p) (λ (p : (c == 45) ≡ true). low_at c 45 refl p) (or_cases (c == 43) (c == 45) t)) e
  where
    by : (b : Bool) → (b ≡ true → nat_lt c 128 ≡ true) → is_ascii (if b then cs else c ∷ cs) ≡ true → is_ascii (c ∷ cs) ≡ true
    by true g e = onto c cs (g refl) e
    by false g e = e

exponent_low : (o : Option (List ℕ)) → spells_exponent o ≡ true → Low o
exponent_low None e = tt
exponent_low (Some t) e = unsigned_low t (goes_low 10 false (unsigned t) (omega arith) e)

decimal_low : (text : List ℕ) (v : SpecNumber) → decimal_number text ≡ Some v → is_ascii text ≡ true
decimal_low text v e =
    let integer = before 46 (before 101 text) in
    let fraction = after 46 (before 101 text) in
    let p = some_if (spells_mantissa integer fraction && spells_exponent (after 101 text)) (decimal_value integer (unwrap_or fraction []) (after 101 text)) v e in
    let q = and_parts (spells_mantissa integer fraction) (spells_exponent (after 101 text)) p.0 in
    let m = mantissa_low integer fraction q.0 in
    split_low 101 text (omega arith) (split_low 46 (before 101 text) (omega arith) m.0 m.1) (exponent_low (after 101 text) q.1)

octal_low : (text : List ℕ) (v : SpecNumber) (b : Bool) → (b ≡ true → is_legacy_octal text ≡ true) → (if b then Some (in_radix 8 (past_first text)) else decimal_number text) ≡ Some v → is_ascii text ≡ true
octal_low [] v b f e = refl
octal_low (c ∷ cs) v true f e =
    let p = and_parts (c == 48) (spells_octal cs) (f refl) in
    let q = and_parts (not (none_left cs)) (list_all (λ c. is_digit c 8) cs) p.1 in
    onto c cs (low_at c 48 refl p.0) (all_low 8 cs (omega arith) q.1)
octal_low (c ∷ cs) v false f e = decimal_low (c ∷ cs) v e

letter_low : (l n : ℕ) (a b c : Bool) → (a ≡ true → is_mark 120 l ≡ true) → (b ≡ true → is_mark 111 l ≡ true) → (c ≡ true → is_mark 98 l ≡ true)
    → (if a then Some 16 else (if b then Some 8 else (if c then Some 2 else None))) ≡ Some n → nat_lt l 128 ≡ true
letter_low l n true b c f g h e = mark_low 120 l (omega arith) (f refl)
letter_low l n false true c f g h e = mark_low 111 l (omega arith) (g refl)
letter_low l n false false true f g h e = mark_low 98 l (omega arith) (h refl)
letter_low l n false false false f g h e = absurd cc

prefix_low : (text : List ℕ) (n : ℕ) → prefix_radix text ≡ Some n → is_ascii (past_first (past_first text)) ≡ true → is_ascii text ≡ true
prefix_low [] n e f = refl
prefix_low (c ∷ []) n e f = absurd cc
prefix_low (c ∷ l ∷ cs) n e f = by (c == 48) (λ t. t) e
  where
    by : (b : Bool) → (b ≡ true → (c == 48) ≡ true) → (if b then radix_of_letter l else None) ≡ Some n → is_ascii (c ∷ l ∷ cs) ≡ true
    by true g e = onto c (l ∷ cs) (low_at c 48 refl (g refl)) (onto l cs (letter_low l n (is_mark 120 l) (is_mark 111 l) (is_mark 98 l) (λ t. t) (λ t. t) (λ t. t) e) f)
    by false g e = absurd cc

number_low : (o : Option ℕ) (text : List ℕ) (v : SpecNumber) → prefix_radix text ≡ o → number_by o text ≡ Some v → is_ascii text ≡ true
number_low None text v f e = octal_low text v (is_legacy_octal text) (λ t. t) e
number_low (Some n) text v f e =
    let r = prefix_ok text n f in
    let ds = past_first (past_first text) in
    let p = some_if (spells_digits n ds) (in_radix n ds) v e in
    prefix_low text n f (goes_low n false ds (let m = r.most in omega (arith, m)) p.0)

pub number_is_ascii : NumberIsAscii
unfolding number_of
number_is_ascii text v e = number_low (prefix_radix text) text v refl e

-- ---- big integers

pub some_pair : (b : Bool) (x y : ℕ × List ℕ) → (if b then Some x else None) ≡ Some y → b ≡ true
some_pair true x y e = refl
some_pair false x y e = absurd cc

big_decimal_low : (text : List ℕ) → spells_big_decimal text ≡ true → is_ascii text ≡ true
big_decimal_low [] e = absurd (false≢true e)
big_decimal_low (c ∷ cs) e = ⊎_elim
    (λ (t : (c == 48) ≡ true). onto c cs (low_at c 48 refl t) (none_low cs (sym (ap (λ v. cond v (none_left cs) (spells_digits 10 (c ∷ cs))) t) ∙ e)))
    (λ (f : (c == 48) ≡ false). goes_low 10 false (c ∷ cs) (omega arith) (sym (ap (λ v. cond v (none_left cs) (spells_digits 10 (c ∷ cs))) f) ∙ e))
    (cases_Bool (c == 48))

big_low : (o : Option ℕ) (text : List ℕ) (v : ℕ × List ℕ) → prefix_radix text ≡ o → big_by o text ≡ Some v → is_ascii text ≡ true
big_low None text v f e = big_decimal_low text (some_pair (spells_big_decimal text) (10, plain text) v e)
big_low (Some n) text v f e =
    let r = prefix_ok text n f in
    let ds = past_first (past_first text) in
    prefix_low text n f (goes_low n false ds (let m = r.most in omega (arith, m)) (some_pair (spells_digits n ds) (n, plain ds) v e))

ascii_join : (xs ys : List ℕ) → is_ascii xs ≡ true → is_ascii ys ≡ true → is_ascii (xs ++ ys) ≡ true
ascii_join [] ys e f = f
ascii_join (x ∷ xs) ys e f = let p = and_parts (nat_lt x 128) (is_ascii xs) e in onto x (xs ++ ys) p.0 (ascii_join xs ys p.1 f)

pub big_is_ascii : BigIsAscii
unfolding big_of
big_is_ascii radix digits own h = subst (λ (l : List ℕ). is_ascii l ≡ true) (sym h.1) (ascii_join h.0 (110 ∷ []) (big_low (prefix_radix h.0) h.0 (radix, digits) refl h.2) refl)
