-- A big integer is read as its radix and digits, and a minified number stands.
use Rattle.std.proofs.Common.{◌≡◌, ℕ, ◌≤◌, ⊎_elim, Bool, true, false, cond, List, [], ◌∷◌, ◌++◌, append_assoc, refl, sym, ap, subst, ◌∙◌, arith}
use Rattle.std.specs.Prelude.{◌&&◌, ◌==◌, not, if◌then◌else◌, Option, Some, None}
use Rattle.std.specs.Char.{is_digit, digit_value}
use Rattle.std.specs.Str.Parse.{AllDigits}
use Rattle.std.proofs.lemmas.Bool.{cases_Bool, eqb-true, ltb-true, false≢true}
use Rattle.std.proofs.lemmas.Bool.Decides.{nat_tests}
use Rattle.std.proofs.lemmas.Option.{same_Some}
use Rattle.base_number.specs.Numbers.{plain, prefix_radix, radix_of_letter, spells_digits, goes_on, past_first, none_left, is_mark}
use Rattle.base_number.proofs.DigitLemmas.{spelled_digits}
use Rattle.base_number.proofs.NumberLemmas.{no_separator}
use Rattle.lex_literal.specs.Numbers.{big_of, big_by, spells_big_decimal}
use Rattle.lex_literal.proofs.StandLemmas.{big_stands, number_stands}
use Rattle.print_spelling.specs.Number.Numbers.{letter, is_prefixed, big_prefix, big_text, BigIntIsRead, MinifiedStands, minified}
use Rattle.print_spelling.proofs.number.MinifiedLemmas.{plain_digits, digits_spelled, no_prefix, letter_is, minified_is_read}

pub minified_stands : MinifiedStands
minified_stands v rest c p may = number_stands v (minified v) rest (minified_is_read v c p) may

-- ---- the digits of a big integer

pub big_is : (text : List ℕ) → big_of text ≡ big_by (prefix_radix text) text
unfolding big_of
big_is text = refl

-- digits of a big integer, without `_`, are read again behind the prefix of their radix
pub record IsBig (radix : ℕ) (ds : List ℕ) : Type 0 where
  pub again : big_of (big_prefix radix ++ ds) ≡ Some (radix, ds)

prefixed_big : (radix d : ℕ) (ds : List ℕ) → is_prefixed radix ≡ true → radix ≤ 36 → AllDigits radix (d ∷ ds) → IsBig radix (d ∷ ds)
prefixed_big radix d ds p l h =
    let other : (radix == 10) ≡ false = grind (arith, nat_tests) in
    let at : big_prefix radix ≡ 48 ∷ letter radix ∷ [] = ap (λ b. if b then [] else 48 ∷ letter radix ∷ []) other in
    let in_radix : big_of (48 ∷ letter radix ∷ d ∷ ds) ≡ Some (radix, d ∷ ds) =
    big_is (48 ∷ letter radix ∷ d ∷ ds)
    ∙ ap (λ o. big_by o (48 ∷ letter radix ∷ d ∷ ds)) (letter_is radix p)
    ∙ ap (λ b. if b then Some (radix, plain (d ∷ ds)) else None) (digits_spelled radix d ds h)
    ∙ ap (λ x. Some (radix, x)) (plain_digits radix (d ∷ ds) l h) in
    record { again = ap (λ (x : List ℕ). big_of (x ++ (d ∷ ds))) at ∙ in_radix }

decimal_big : (d : ℕ) (ds : List ℕ) → (d == 48) ≡ false → AllDigits 10 (d ∷ ds) → IsBig 10 (d ∷ ds)
decimal_big d ds n h = record {
  again =
      big_is (d ∷ ds)
      ∙ ap (λ o. big_by o (d ∷ ds)) (no_prefix d ds n)
      ∙ ap (λ b. if (if b then none_left ds else spells_digits 10 (d ∷ ds)) then Some (10, plain (d ∷ ds)) else None) n
      ∙ ap (λ b. if b then Some (10, plain (d ∷ ds)) else None) (digits_spelled 10 d ds h)
      ∙ ap (λ x. Some (10, x)) (plain_digits 10 (d ∷ ds) (omega arith) h);
}

zero_big : IsBig 10 (48 ∷ [])
zero_big = record { again = big_is (48 ∷ []) }

-- what is spelled as digits begins with a digit
pub first_digit : (radix c : ℕ) (cs : List ℕ) → radix ≤ 36 → spells_digits radix (c ∷ cs) ≡ true → plain (c ∷ cs) ≡ c ∷ plain cs
first_digit radix c cs l h = ⊎_elim
    (λ (d : is_digit c radix ≡ true).
    let other : (c == 95) ≡ false = no_separator radix c l (ltb-true (digit_value c) radix d) in
    ap (λ b. cond (not b) (c ∷ plain cs) (plain cs)) other)
    (λ (d : is_digit c radix ≡ false).
    absurd (false≢true (sym (ap (λ b. cond b (goes_on radix true cs) (false && (c == 95 && goes_on radix false cs))) d) ∙ h)))
    (cases_Bool (is_digit c radix))

spelled_big : (radix c : ℕ) (cs : List ℕ) → radix ≤ 36 → ((d : ℕ) (ds : List ℕ) → AllDigits radix (d ∷ ds) → d ≡ c → IsBig radix (d ∷ ds))
    → spells_digits radix (c ∷ cs) ≡ true → IsBig radix (plain (c ∷ cs))
spelled_big radix c cs l make h =
    let first = first_digit radix c cs l h in
    let all = spelled_digits radix false (c ∷ cs) l h in
    subst (IsBig radix) (sym first) (make c (plain cs) (subst (λ (x : List ℕ). AllDigits radix x) first all) refl)

pub some_pair : (x y : ℕ × List ℕ) → Some x ≡ Some y → (x.0 ≡ y.0) × (x.1 ≡ y.1)
some_pair x y e = let s : x ≡ y = same_Some x y e in (ap (λ (p : ℕ × List ℕ). p.0) s, ap (λ (p : ℕ × List ℕ). p.1) s)

none_some : {A B : Type 0} {x : A} → None ≡ Some x → B
none_some e = cc

pub if_some : (b : Bool) (x y : ℕ × List ℕ) → (if b then Some x else None) ≡ Some y → (b ≡ true) × (Some x ≡ Some y)
if_some true x y e = (refl, e)
if_some false x y e = none_some e

decimal_case : (text digits : List ℕ) (radix : ℕ) → big_by None text ≡ Some (radix, digits) → IsBig radix digits
decimal_case [] digits radix h = none_some h
decimal_case (c ∷ cs) digits radix h =
    let parts = if_some (spells_big_decimal (c ∷ cs)) (10, plain (c ∷ cs)) (radix, digits) h in
    let same = some_pair (10, plain (c ∷ cs)) (radix, digits) parts.1 in
    subst (λ r. IsBig r digits) same.0 (subst (IsBig 10) same.1 (⊎_elim
    (λ (z : (c == 48) ≡ true).
    let none : none_left cs ≡ true = sym (ap (λ b. if b then none_left cs else spells_digits 10 (c ∷ cs)) z) ∙ parts.0 in
    alone cs (eqb-true c 48 z) none)
    (λ (z : (c == 48) ≡ false).
    let spelled : spells_digits 10 (c ∷ cs) ≡ true = sym (ap (λ b. if b then none_left cs else spells_digits 10 (c ∷ cs)) z) ∙ parts.0 in
    spelled_big 10 c cs (omega arith) (λ d ds all e. decimal_big d ds (ap (λ x. x == 48) e ∙ z) all) spelled)
    (cases_Bool (c == 48))))
  where
    alone : (xs : List ℕ) → c ≡ 48 → none_left xs ≡ true → IsBig 10 (plain (c ∷ xs))
    alone [] e n = subst (λ x. IsBig 10 (plain (x ∷ []))) (sym e) zero_big
    alone (x ∷ xs) e n = absurd (false≢true n)

radix_case : (text digits : List ℕ) (r radix : ℕ) → is_prefixed r ≡ true → big_by (Some r) text ≡ Some (radix, digits) → IsBig radix digits
radix_case text digits r radix p h =
    let behind = past_first (past_first text) in
    let parts = if_some (spells_digits r (past_first (past_first text))) (r, plain (past_first (past_first text))) (radix, digits) h in
    let same = some_pair (r, plain (past_first (past_first text))) (radix, digits) parts.1 in
    let low : r ≤ 36 = grind (arith, nat_tests) in
    subst (λ x. IsBig x digits) same.0 (subst (IsBig r) same.1 (by_list (past_first (past_first text)) low parts.0))
  where
    by_list : (xs : List ℕ) → r ≤ 36 → spells_digits r xs ≡ true → IsBig r (plain xs)
    by_list [] l e = absurd (false≢true e)
    by_list (c ∷ cs) l e = spelled_big r c cs l (λ d ds all _. prefixed_big r d ds p l all) e

letter_prefixed : (l r : ℕ) → radix_of_letter l ≡ Some r → is_prefixed r ≡ true
letter_prefixed l r h = ⊎_elim
    (λ (e : is_mark 120 l ≡ true). found 16 refl (sym (ap (λ b. if b then Some 16 else (if is_mark 111 l then Some 8 else (if is_mark 98 l then Some 2 else None))) e) ∙ h))
    (λ (e : is_mark 120 l ≡ false). ⊎_elim
    (λ (f : is_mark 111 l ≡ true).
    found 8 refl (sym (ap (λ b. if b then Some 16 else (if is_mark 111 l then Some 8 else (if is_mark 98 l then Some 2 else None))) e ∙ ap (λ b. if b then Some 8 else (if is_mark 98 l then Some 2 else None)) f) ∙ h))
    (λ (f : is_mark 111 l ≡ false). ⊎_elim
    (λ (g : is_mark 98 l ≡ true).
    found 2 refl (sym (ap (λ b. if b then Some 16 else (if is_mark 111 l then Some 8 else (if is_mark 98 l then Some 2 else None))) e ∙ ap (λ b. if b then Some 8 else (if is_mark 98 l then Some 2 else None)) f ∙ ap (λ b. if b then Some 2 else None) g) ∙ h))
    (λ (g : is_mark 98 l ≡ false).
    none_some (sym (ap (λ b. if b then Some 16 else (if is_mark 111 l then Some 8 else (if is_mark 98 l then Some 2 else None))) e ∙ ap (λ b. if b then Some 8 else (if is_mark 98 l then Some 2 else None)) f ∙ ap (λ b. if b then Some 2 else None) g) ∙ h))
    (cases_Bool (is_mark 98 l)))
    (cases_Bool (is_mark 111 l)))
    (cases_Bool (is_mark 120 l))
  where
    found : (x : ℕ) → is_prefixed x ≡ true → Some x ≡ Some r → is_prefixed r ≡ true
    found x p e = let same : x ≡ r = cc in subst (λ y. is_prefixed y ≡ true) same p

pub prefix_prefixed : (text : List ℕ) (r : ℕ) → prefix_radix text ≡ Some r → is_prefixed r ≡ true
prefix_prefixed [] r h = none_some h
prefix_prefixed (c ∷ []) r h = none_some h
prefix_prefixed (c ∷ (l ∷ ls)) r h = ⊎_elim
    (λ (e : (c == 48) ≡ true). letter_prefixed l r (sym (ap (λ b. if b then radix_of_letter l else None) e) ∙ h))
    (λ (e : (c == 48) ≡ false). none_some (sym (ap (λ b. if b then radix_of_letter l else None) e) ∙ h))
    (cases_Bool (c == 48))

pub big_again : (text digits : List ℕ) (radix : ℕ) → big_of text ≡ Some (radix, digits) → IsBig radix digits
big_again text digits radix h = by_radix (prefix_radix text) refl (sym (big_is text) ∙ h)
  where
    by_radix : (o : Option ℕ) → prefix_radix text ≡ o → big_by o text ≡ Some (radix, digits) → IsBig radix digits
    by_radix None e i = decimal_case text digits radix i
    by_radix (Some r) e i = radix_case text digits r radix (prefix_prefixed text r e) i

pub big_is_read : BigIntIsRead
big_is_read radix digits own rest h ends =
    let again = (big_again h.0 digits radix h.2).again in
    big_stands radix digits (big_text radix digits) rest
    (big_prefix radix ++ digits, sym (append_assoc (big_prefix radix) digits (110 ∷ [])), again) ends
