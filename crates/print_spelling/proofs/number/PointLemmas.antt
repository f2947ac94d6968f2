-- A number before the point of a member.
use Rattle.std.proofs.Common.{◌≡◌, ℕ, ⊎_elim, Bool, true, false, List, [], ◌∷◌, ◌++◌, append-nil, refl, sym, ap, subst, ◌∙◌, arith}
use Rattle.std.specs.Prelude.{◌&&◌, ◌||◌, ◌==◌, not, if◌then◌else◌, Option, Some, None, unwrap_or}
use Rattle.std.specs.Char.{is_digit}
use Rattle.std.specs.List.{list_all}
use Rattle.std.proofs.lemmas.Bool.{cases_Bool, false≢true, and_parts, not-true, and_right}
use Rattle.std.proofs.lemmas.Bool.Decides.{nat_tests}
use Rattle.unicode_ident.proofs.IdentLemmas.{is_xid_start-ascii}
use Rattle.base_number.specs.Numbers.{SpecNumber, number_of, prefix_radix, radix_of_letter, decimal_number, decimal_value, is_legacy_octal, spells_mantissa, spells_exponent, before, after, is_mark, none_left}
use Rattle.lex_literal.specs.Numbers.{Number, SpellsNumber, is_barred}
use Rattle.lex_literal.specs.Standing.{is_digit_or_separator, takes_point}
use Rattle.lex_literal.proofs.StandLemmas.{number_stands}
use Rattle.print_spelling.specs.Number.Numbers.{MemberStands}
use Rattle.print_spelling.proofs.number.MinifiedLemmas.{in_parts}
use Rattle.print_spelling.proofs.number.PlainLemmas.{if_some, is_unprefixed}

-- ---- digits and separators

no_e : (c : ℕ) → is_digit_or_separator c ≡ true → is_mark 101 c ≡ false
no_e c h = grind (arith, nat_tests)

no_point : (c : ℕ) → is_digit_or_separator c ≡ true → is_mark 46 c ≡ false
no_point c h = grind (arith, nat_tests)

before_on : (m : ℕ) → ((c : ℕ) → is_digit_or_separator c ≡ true → is_mark m c ≡ false) → (xs r : List ℕ) → list_all is_digit_or_separator xs ≡ true
    → before m (xs ++ r) ≡ xs ++ before m r
before_on m free [] r h = refl
before_on m free (c ∷ cs) r h =
    let p = and_parts (is_digit_or_separator c) (list_all is_digit_or_separator cs) h in
    ap (λ b. if b then [] else c ∷ before m (cs ++ r)) (free c p.0) ∙ ap (λ (x : List ℕ). c ∷ x) (before_on m free cs r p.1)

after_on : (m : ℕ) → ((c : ℕ) → is_digit_or_separator c ≡ true → is_mark m c ≡ false) → (xs r : List ℕ) → list_all is_digit_or_separator xs ≡ true
    → after m (xs ++ r) ≡ after m r
after_on m free [] r h = refl
after_on m free (c ∷ cs) r h =
    let p = and_parts (is_digit_or_separator c) (list_all is_digit_or_separator cs) h in
    ap (λ b. if b then Some (cs ++ r) else after m (cs ++ r)) (free c p.0) ∙ after_on m free cs r p.1

all_before : (m : ℕ) → ((c : ℕ) → is_digit_or_separator c ≡ true → is_mark m c ≡ false) → (xs : List ℕ) → list_all is_digit_or_separator xs ≡ true
    → before m xs ≡ xs
all_before m free xs h = ap (before m) (sym (append-nil xs)) ∙ before_on m free xs [] h ∙ append-nil xs

all_after : (m : ℕ) → ((c : ℕ) → is_digit_or_separator c ≡ true → is_mark m c ≡ false) → (xs : List ℕ) → list_all is_digit_or_separator xs ≡ true
    → after m xs ≡ None
all_after m free xs h = ap (after m) (sym (append-nil xs)) ∙ after_on m free xs [] h

no_letter : (l : ℕ) → is_digit_or_separator l ≡ true → radix_of_letter l ≡ None
no_letter l h =
    let x : is_mark 120 l ≡ false = grind (arith, nat_tests) in
    let o : is_mark 111 l ≡ false = grind (arith, nat_tests) in
    let b : is_mark 98 l ≡ false = grind (arith, nat_tests) in
    ap (λ t. if t then Some 16 else (if is_mark 111 l then Some 8 else (if is_mark 98 l then Some 2 else None))) x
    ∙ ap (λ t. if t then Some 8 else (if is_mark 98 l then Some 2 else None)) o
    ∙ ap (λ t. if t then Some 2 else None) b

either_none : (b : Bool) (o : Option ℕ) → o ≡ None → (if b then o else None) ≡ None
either_none true o e = e
either_none false o e = refl

no_prefix : (xs : List ℕ) → list_all is_digit_or_separator xs ≡ true → prefix_radix xs ≡ None
no_prefix [] h = refl
no_prefix (c ∷ []) h = refl
no_prefix (c ∷ (l ∷ ls)) h =
    let p = and_parts (is_digit_or_separator c) (list_all is_digit_or_separator (l ∷ ls)) h in
    let q = and_parts (is_digit_or_separator l) (list_all is_digit_or_separator ls) p.1 in
    either_none (c == 48) (radix_of_letter l) (no_letter l q.0)

no_prefix_point : (xs : List ℕ) → list_all is_digit_or_separator xs ≡ true → prefix_radix (xs ++ 46 ∷ []) ≡ None
no_prefix_point [] h = refl
no_prefix_point (c ∷ []) h = either_none (c == 48) (radix_of_letter 46) refl
no_prefix_point (c ∷ (l ∷ ls)) h =
    let p = and_parts (is_digit_or_separator c) (list_all is_digit_or_separator (l ∷ ls)) h in
    let q = and_parts (is_digit_or_separator l) (list_all is_digit_or_separator ls) p.1 in
    either_none (c == 48) (radix_of_letter l) (no_letter l q.0)

fails_point : (p : ℕ → Bool) → p 46 ≡ false → (xs : List ℕ) → list_all p (xs ++ 46 ∷ []) ≡ false
fails_point p e [] = ap (λ b. b && true) e
fails_point p e (x ∷ xs) = elim (p x) as (λ b. (b && list_all p (xs ++ 46 ∷ [])) ≡ false) [ true ↦ fails_point p e xs | false ↦ refl ]

no_legacy_point : (xs : List ℕ) → is_legacy_octal (xs ++ 46 ∷ []) ≡ false
no_legacy_point [] = refl
no_legacy_point (c ∷ cs) =
    ap (λ b. c == 48 && (not (none_left (cs ++ 46 ∷ [])) && b)) (fails_point (λ x. is_digit x 8) refl cs)
    ∙ ap (λ b. c == 48 && b) (and_right (not (none_left (cs ++ 46 ∷ []))) false refl) ∙ and_right (c == 48) false refl

-- ---- a number with a point behind it

with_point : (xs : List ℕ) → spells_mantissa xs None ≡ true → spells_mantissa xs (Some []) ≡ true
with_point [] h = absurd (false≢true h)
with_point (c ∷ cs) h = ap (λ b. b && true) h

pub pointed : (v : SpecNumber) (text : List ℕ) → takes_point text ≡ true → number_of text ≡ Some v → number_of (text ++ 46 ∷ []) ≡ Some v
pointed v text t h =
    let tests = and_parts (list_all is_digit_or_separator text) (not (is_legacy_octal text)) t in
    let all = tests.0 in
    let octal = not-true (is_legacy_octal text) tests.1 in
    let d : decimal_number text ≡ Some v = sym (is_unprefixed text (no_prefix text all) octal) ∙ h in
    let e = all_before 101 no_e text all in
    let own : decimal_number text ≡ (if spells_mantissa text None && true then Some (decimal_value text [] None) else None) =
    ap (λ m. if spells_mantissa (before 46 m) (after 46 m) && spells_exponent (after 101 text) then Some (decimal_value (before 46 m) (unwrap_or (after 46 m) []) (after 101 text)) else None) e
    ∙ ap (λ i. if spells_mantissa i (after 46 text) && spells_exponent (after 101 text) then Some (decimal_value i (unwrap_or (after 46 text) []) (after 101 text)) else None) (all_before 46 no_point text all)
    ∙ ap (λ f. if spells_mantissa text f && spells_exponent (after 101 text) then Some (decimal_value text (unwrap_or f []) (after 101 text)) else None) (all_after 46 no_point text all)
    ∙ ap (λ x. if spells_mantissa text None && spells_exponent x then Some (decimal_value text [] x) else None) (all_after 101 no_e text all) in
    let parts = if_some (spells_mantissa text None && true) (decimal_value text [] None) v (sym own ∙ d) in
    let spelled = (and_parts (spells_mantissa text None) true parts.0).0 in
    let m = before_on 101 no_e text (46 ∷ []) all in
    is_unprefixed (text ++ 46 ∷ []) (no_prefix_point text all) (no_legacy_point text)
    ∙ in_parts (text ++ 46 ∷ []) text (Some []) None (ap (before 46) m ∙ before_on 46 no_point text (46 ∷ []) all ∙ append-nil text)
    (ap (after 46) m ∙ after_on 46 no_point text (46 ∷ []) all) (after_on 101 no_e text (46 ∷ []) all) (with_point text spelled) refl
    ∙ parts.1

point_free : is_barred 46 ≡ false
point_free = ap (λ t. (t || false) || false) (is_xid_start-ascii 46 (omega arith))

pub takes_no_more : (text : List ℕ) → takes_point (text ++ 46 ∷ []) ≡ false
takes_no_more text = ap (λ b. b && not (is_legacy_octal (text ++ 46 ∷ []))) (fails_point is_digit_or_separator refl text)

pub member_stands : MemberStands
member_stands v text more h = ⊎_elim
    (λ (t : takes_point text ≡ true).
    subst (λ own. SpellsNumber (Number v) own (own ++ 46 ∷ more) (46 ∷ more)) (sym (ap (λ b. if b then text ++ 46 ∷ [] else text) t))
    (number_stands v (text ++ 46 ∷ []) (46 ∷ more) (pointed v text t h) (point_free, λ e. absurd (false≢true (sym (takes_no_more text) ∙ e)))))
    (λ (t : takes_point text ≡ false).
    subst (λ own. SpellsNumber (Number v) own (own ++ 46 ∷ more) (46 ∷ more)) (sym (ap (λ b. if b then text ++ 46 ∷ [] else text) t))
    (number_stands v text (46 ∷ more) h (point_free, λ e. absurd (false≢true (sym t ∙ e)))))
    (cases_Bool (takes_point text))
