-- A number has no CR (ECMA-262, 12.9.3).
use Rattle.std.proofs.Common.{◌≡◌, ℕ, ◌<◌, ◌≤◌, ⊎_elim, Bool, true, false, cond, ◌&&◌, ◌||◌, not, List, [], ◌∷◌, Option, Some, None, refl, sym, ap, subst, ◌∙◌, arith}
use Rattle.std.specs.Prelude.{◌==◌, if◌then◌else◌, unwrap_or}
use Rattle.std.specs.List.{list_all}
use Rattle.std.specs.Char.{is_digit}
use Rattle.std.proofs.lemmas.Bool.{cases_Bool, false≢true, and_parts, eqb-true, or_cases, not-true}
use Rattle.std.proofs.lemmas.Bool.Decides.{nat_tests}
use Rattle.base_number.specs.Numbers.{SpecNumber, number_of, number_by, prefix_radix, radix_of_letter, decimal_number, decimal_value, in_radix, is_legacy_octal, spells_octal, spells_non_octal, spells_integer, spells_digits, goes_on, spells_mantissa, spells_exponent, is_mark, none_left, unsigned, before, after, past_first}
use Rattle.print_pages_spec.specs.Lines.Laws.{ends_with_cr}

abbrev is_other : ℕ → Bool
is_other c = not (c == 13)

abbrev no_cr : List ℕ → Bool
no_cr cs = list_all is_other cs

some_if : {A : Type 0} (b : Bool) (x v : A) → (if b then Some x else None) ≡ Some v → b ≡ true
some_if true x v e = refl
some_if false x v e = absurd cc

onto : (c : ℕ) (cs : List ℕ) → is_other c ≡ true → no_cr cs ≡ true → no_cr (c ∷ cs) ≡ true
onto c cs e f = both (is_other c) (no_cr cs) e f
  where
    both : (a b : Bool) → a ≡ true → b ≡ true → (a && b) ≡ true
    both true b e f = f
    both false b e f = e

other_at : (c n : ℕ) → is_other n ≡ true → (c == n) ≡ true → is_other c ≡ true
other_at c n h e = subst (λ m. is_other m ≡ true) (sym (eqb-true c n e)) h

digit_clear : (c r : ℕ) → r ≤ 36 → is_digit c r ≡ true → is_other c ≡ true
digit_clear c r h e = let f : (c == 13) ≡ false = grind (arith, nat_tests) in ap not f

mark_clear : (m c : ℕ) → 13 < m → is_mark m c ≡ true → is_other c ≡ true
mark_clear m c h e = let f : (c == 13) ≡ false = grind (arith, nat_tests) in ap not f

goes_clear : (r : ℕ) (b : Bool) (text : List ℕ) → r ≤ 36 → goes_on r b text ≡ true → no_cr text ≡ true
goes_clear r b [] h e = refl
goes_clear r b (c ∷ cs) h e = ⊎_elim
    (λ (t : is_digit c r ≡ true). onto c cs (digit_clear c r h t) (goes_clear r true cs h (sym (ap (λ v. cond v (goes_on r true cs) (b && (c == 95 && goes_on r false cs))) t) ∙ e)))
    (λ (f : is_digit c r ≡ false).
    let p = and_parts b _ (sym (ap (λ v. cond v (goes_on r true cs) (b && (c == 95 && goes_on r false cs))) f) ∙ e) in
    let q = and_parts (c == 95) (goes_on r false cs) p.1 in
    onto c cs (other_at c 95 refl q.0) (goes_clear r false cs h q.1))
    (cases_Bool (is_digit c r))

all_clear : (r : ℕ) (text : List ℕ) → r ≤ 36 → list_all (λ c. is_digit c r) text ≡ true → no_cr text ≡ true
all_clear r [] h e = refl
all_clear r (c ∷ cs) h e = let p = and_parts (is_digit c r) (list_all (λ c. is_digit c r) cs) e in onto c cs (digit_clear c r h p.0) (all_clear r cs h p.1)

none_clear : (text : List ℕ) → none_left text ≡ true → no_cr text ≡ true
none_clear [] e = refl
none_clear (c ∷ cs) e = absurd (false≢true e)

integer_clear : (text : List ℕ) → spells_integer text ≡ true → no_cr text ≡ true
integer_clear [] e = refl
integer_clear (c ∷ cs) e = ⊎_elim
    (λ (t : (c == 48) ≡ true). onto c cs (other_at c 48 refl t) (⊎_elim (λ (n : none_left cs ≡ true). none_clear cs n) (λ (n : spells_non_octal cs ≡ true). all_clear 10 cs (omega arith) (and_parts (list_all (λ c. is_digit c 10) cs) _ n).0)
    (or_cases (none_left cs) (spells_non_octal cs) (sym (ap (λ v. cond v (none_left cs || spells_non_octal cs) (spells_digits 10 (c ∷ cs))) t) ∙ e))))
    (λ (f : (c == 48) ≡ false). goes_clear 10 false (c ∷ cs) (omega arith) (sym (ap (λ v. cond v (none_left cs || spells_non_octal cs) (spells_digits 10 (c ∷ cs))) f) ∙ e))
    (cases_Bool (c == 48))

abbrev Clear : Option (List ℕ) → Type 0
Clear None = Unit {0}
Clear (Some t) = no_cr t ≡ true

split_clear : (m : ℕ) (text : List ℕ) → 13 < m → no_cr (before m text) ≡ true → Clear (after m text) → no_cr text ≡ true
split_clear m [] h e f = refl
split_clear m (c ∷ cs) h e f = by (is_mark m c) (λ t. t) (λ x y. split_clear m cs h x y) e f
  where
    by : (b : Bool) → (b ≡ true → is_mark m c ≡ true) → (no_cr (before m cs) ≡ true → Clear (after m cs) → no_cr cs ≡ true) → no_cr (if b then [] else c ∷ before m cs) ≡ true → Clear (if b then Some cs else after m cs) → no_cr (c ∷ cs) ≡ true
    by true g i e f = onto c cs (mark_clear m c h (g refl)) f
    by false g i e f = let p = and_parts (is_other c) (no_cr (before m cs)) e in onto c cs p.0 (i p.1 f)

mantissa_clear : (integer : List ℕ) (fraction : Option (List ℕ)) → spells_mantissa integer fraction ≡ true → (no_cr integer ≡ true) × Clear fraction
mantissa_clear integer None e = (integer_clear integer e, tt)
mantissa_clear [] (Some f) e = (refl, goes_clear 10 false f (omega arith) e)
mantissa_clear (c ∷ cs) (Some f) e =
    let p = and_parts (spells_integer (c ∷ cs)) _ e in
    (integer_clear (c ∷ cs) p.0, ⊎_elim (λ (n : none_left f ≡ true). none_clear f n) (λ (n : spells_digits 10 f ≡ true). goes_clear 10 false f (omega arith) n) (or_cases (none_left f) (spells_digits 10 f) p.1))

unsigned_clear : (text : List ℕ) → no_cr (unsigned text) ≡ true → no_cr text ≡ true
unsigned_clear [] e = refl
unsigned_clear (c ∷ cs) e = by (c == 43 || c == 45) (λ t. ⊎_elim (λ (p : (c == 43) ≡ true). other_at c 43 refl p) (λ (p : (c == 45) ≡ true). other_at c 45 refl p) (or_cases (c == 43) (c == 45) t)) e
  where
    by : (b : Bool) → (b ≡ true → is_other c ≡ true) → no_cr (if b then cs else c ∷ cs) ≡ true → no_cr (c ∷ cs) ≡ true
    by true g e = onto c cs (g refl) e
    by false g e = e

exponent_clear : (o : Option (List ℕ)) → spells_exponent o ≡ true → Clear o
exponent_clear None e = tt
exponent_clear (Some t) e = unsigned_clear t (goes_clear 10 false (unsigned t) (omega arith) e)

decimal_clear : (text : List ℕ) (v : SpecNumber) → decimal_number text ≡ Some v → no_cr text ≡ true
decimal_clear text v e =
    let integer = before 46 (before 101 text) in
    let fraction = after 46 (before 101 text) in
    let p = some_if (spells_mantissa integer fraction && spells_exponent (after 101 text)) (decimal_value integer (unwrap_or fraction []) (after 101 text)) v e in
    let q = and_parts (spells_mantissa integer fraction) (spells_exponent (after 101 text)) p in
    let m = mantissa_clear integer fraction q.0 in
    split_clear 101 text (omega arith) (split_clear 46 (before 101 text) (omega arith) m.0 m.1) (exponent_clear (after 101 text) q.1)

octal_clear : (text : List ℕ) (v : SpecNumber) (b : Bool) → (b ≡ true → is_legacy_octal text ≡ true) → (if b then Some (in_radix 8 (past_first text)) else decimal_number text) ≡ Some v → no_cr text ≡ true
octal_clear [] v b f e = refl
octal_clear (c ∷ cs) v true f e =
    let p = and_parts (c == 48) (spells_octal cs) (f refl) in
    let q = and_parts (not (none_left cs)) (list_all (λ c. is_digit c 8) cs) p.1 in
    onto c cs (other_at c 48 refl p.0) (all_clear 8 cs (omega arith) q.1)
octal_clear (c ∷ cs) v false f e = decimal_clear (c ∷ cs) v e

letter_clear : (l n : ℕ) (a b c : Bool) → (a ≡ true → is_mark 120 l ≡ true) → (b ≡ true → is_mark 111 l ≡ true) → (c ≡ true → is_mark 98 l ≡ true)
    → (if a then Some 16 else (if b then Some 8 else (if c then Some 2 else None))) ≡ Some n → is_other l ≡ true
letter_clear l n true b c f g h e = mark_clear 120 l (omega arith) (f refl)
letter_clear l n false true c f g h e = mark_clear 111 l (omega arith) (g refl)
letter_clear l n false false true f g h e = mark_clear 98 l (omega arith) (h refl)
letter_clear l n false false false f g h e = absurd cc

prefix_clear : (text : List ℕ) (n : ℕ) → prefix_radix text ≡ Some n → no_cr (past_first (past_first text)) ≡ true → no_cr text ≡ true
prefix_clear [] n e f = refl
prefix_clear (c ∷ []) n e f = absurd cc
prefix_clear (c ∷ l ∷ cs) n e f = by (c == 48) (λ t. t) e
  where
    by : (b : Bool) → (b ≡ true → (c == 48) ≡ true) → (if b then radix_of_letter l else None) ≡ Some n → no_cr (c ∷ l ∷ cs) ≡ true
    by true g e = onto c (l ∷ cs) (other_at c 48 refl (g refl)) (onto l cs (letter_clear l n (is_mark 120 l) (is_mark 111 l) (is_mark 98 l) (λ t. t) (λ t. t) (λ t. t) e) f)
    by false g e = absurd cc

radix_by : (a b c : Bool) (n : ℕ) → (if a then Some 16 else (if b then Some 8 else (if c then Some 2 else None))) ≡ Some n → n ≤ 36
radix_by true b c n e = let k : 16 ≡ n = cc in omega (arith, k)
radix_by false true c n e = let k : 8 ≡ n = cc in omega (arith, k)
radix_by false false true n e = let k : 2 ≡ n = cc in omega (arith, k)
radix_by false false false n e = absurd cc

radix_if : (b : Bool) (o : Option ℕ) (n : ℕ) → (o ≡ Some n → n ≤ 36) → (if b then o else None) ≡ Some n → n ≤ 36
radix_if true o n f e = f e
radix_if false o n f e = absurd cc

radix_low : (text : List ℕ) (n : ℕ) → prefix_radix text ≡ Some n → n ≤ 36
radix_low [] n e = absurd cc
radix_low (c ∷ []) n e = absurd cc
radix_low (c ∷ l ∷ cs) n e = radix_if (c == 48) (radix_of_letter l) n (λ g. radix_by (is_mark 120 l) (is_mark 111 l) (is_mark 98 l) n g) e

number_clear : (o : Option ℕ) (text : List ℕ) (v : SpecNumber) → prefix_radix text ≡ o → number_by o text ≡ Some v → no_cr text ≡ true
number_clear None text v f e = octal_clear text v (is_legacy_octal text) (λ t. t) e
number_clear (Some n) text v f e =
    let ds = past_first (past_first text) in
    let p = some_if (spells_digits n ds) (in_radix n ds) v e in
    prefix_clear text n f (goes_clear n false ds (radix_low text n f) p)

last_other : (c : ℕ) (cs : List ℕ) → no_cr (c ∷ cs) ≡ true → ends_with_cr (c ∷ cs) ≡ false
last_other c [] e = not-true (c == 13) (and_parts (is_other c) _ e).0
last_other c (d ∷ ds) e = last_other d ds (and_parts (is_other c) _ e).1

none_last : (cs : List ℕ) → no_cr cs ≡ true → ends_with_cr cs ≡ false
none_last [] e = refl
none_last (c ∷ cs) e = last_other c cs e

pub number_closed : (text : List ℕ) (v : SpecNumber) → number_of text ≡ Some v → ends_with_cr text ≡ false
unfolding number_of
number_closed text v e = none_last text (number_clear (prefix_radix text) text v refl e)
