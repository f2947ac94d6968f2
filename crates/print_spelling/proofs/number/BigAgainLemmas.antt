-- A number and a big integer as they were read are read again, and what is written of a big integer is written again.
use Rattle.std.proofs.Common.{◌≡◌, ℕ, ◌≤◌, ⊎_elim, Bool, true, false, List, [], ◌∷◌, ◌++◌, refl, sym, ap, ◌∙◌, arith}
use Rattle.std.specs.Prelude.{◌==◌, not, if◌then◌else◌, Option, Some, None}
use Rattle.std.proofs.lemmas.Bool.{cases_Bool}
use Rattle.std.proofs.lemmas.Bool.Decides.{nat_tests}
use Rattle.std.proofs.lemmas.List.Elements.{filter-append}
use Rattle.base_number.specs.Numbers.{plain, prefix_radix, radix_of_letter, spells_digits, past_first}
use Rattle.lex_literal.specs.Numbers.{BigInt, Spells, big_of, big_by, spells_big_decimal}
use Rattle.lex_literal.proofs.StandLemmas.{big_stands, number_stands}
use Rattle.print_spelling.specs.Styles.{is_below_es2021}
use Rattle.print_spelling.specs.Number.Numbers.{letter, is_prefixed, big_prefix, big_text, separated, formatted, FormattedStands, FormattedBigIsRead, FormattedBigAgain}
use Rattle.print_spelling.proofs.number.PlainLemmas.{plain_here, plain_twice, letter_here, none_some, spelled_plain, formatted_is_read}
use Rattle.print_spelling.proofs.number.AgainLemmas.{same_prefixed, plain_both, settled, separated_twice}
use Rattle.print_spelling.proofs.number.BigLemmas.{big_is, some_pair, if_some, big_again, prefix_prefixed, big_is_read}

-- ---- without separators

-- what stands behind a prefix
behind_plain : (text : List ℕ) (r : ℕ) → prefix_radix text ≡ Some r → past_first (past_first (plain text)) ≡ plain (past_first (past_first text))
behind_plain [] r p = none_some p
behind_plain (c ∷ []) r p = none_some p
behind_plain (c ∷ (l ∷ ls)) r p = ⊎_elim
    (λ (z : (c == 48) ≡ true).
    let same : radix_of_letter l ≡ Some r = sym (ap (λ b. if b then radix_of_letter l else None) z) ∙ p in
    let other : (c == 95) ≡ false = grind (arith, nat_tests) in
    ap (λ (x : List ℕ). past_first (past_first x)) (plain_here c (l ∷ ls) other ∙ ap (λ (x : List ℕ). c ∷ x) (plain_here l ls (letter_here l r same))))
    (λ (z : (c == 48) ≡ false). none_some (sym (ap (λ b. if b then radix_of_letter l else None) z) ∙ p))
    (cases_Bool (c == 48))

low_radix : (r : ℕ) → is_prefixed r ≡ true → r ≤ 36
low_radix r h = grind (arith, nat_tests)

-- radix and digits are those of the text without separators, and the digits have none
record IsPlain (radix : ℕ) (text digits : List ℕ) : Type 0 where
  same : big_of (plain text) ≡ Some (radix, digits)
  none : plain digits ≡ digits

big_plain : (text digits : List ℕ) (radix : ℕ) → big_of text ≡ Some (radix, digits) → IsPlain radix text digits
big_plain text digits radix h = by_radix (prefix_radix text) refl (sym (big_is text) ∙ h)
  where
    by_radix : (o : Option ℕ) → prefix_radix text ≡ o → big_by o text ≡ Some (radix, digits) → IsPlain radix text digits
    by_radix None e i =
        let parts = if_some (spells_big_decimal text) (10, plain text) (radix, digits) i in
        let same = some_pair (10, plain text) (radix, digits) parts.1 in record {
          same =
              ap big_of same.1 ∙ ap (λ (r : ℕ). big_of (big_prefix r ++ digits)) same.0
              ∙ (big_again text digits radix h).again;
          none = ap plain (sym same.1) ∙ plain_twice text ∙ same.1;
        }
    by_radix (Some r) e i =
        let parts = if_some (spells_digits r (past_first (past_first text))) (r, plain (past_first (past_first text))) (radix, digits) i in
        let same = some_pair (r, plain (past_first (past_first text))) (radix, digits) parts.1 in record {
          same =
              big_is (plain text)
              ∙ ap (λ o. big_by o (plain text)) (same_prefixed text r e)
              ∙ ap (λ (b : List ℕ). if spells_digits r b then Some (r, plain b) else None) (behind_plain text r e)
              ∙ ap (λ t. if t then Some (r, plain (plain (past_first (past_first text)))) else None)
              (spelled_plain r (past_first (past_first text)) (low_radix r (prefix_prefixed text r e)) parts.0)
              ∙ ap (λ (l : List ℕ). Some (r, l)) (plain_twice (past_first (past_first text)))
              ∙ parts.1;
          none = ap plain (sym same.1) ∙ plain_twice (past_first (past_first text)) ∙ same.1;
        }

plain_spells : (radix : ℕ) (digits own : List ℕ) → Spells (BigInt radix digits) own → Spells (BigInt radix digits) (plain own)
plain_spells radix digits own h =
    (plain h.0, ap plain h.1 ∙ filter-append (λ c. not (c == 95)) h.0 (110 ∷ []), (big_plain h.0 digits radix h.2).same)

-- ---- the laws

pub formatted_stands : FormattedStands
formatted_stands style v raw rest c p h may = number_stands v (formatted style v raw) rest (formatted_is_read style v raw c p h) may

pub formatted_big_is_read : FormattedBigIsRead
formatted_big_is_read style radix digits own None rest h raw ends = big_is_read radix digits own rest h ends
formatted_big_is_read style radix digits own (Some t) rest h raw ends =
    big_stands radix digits (separated style t) rest (by_edition (is_below_es2021 style)) ends
  where
    by_edition : (b : Bool) → Spells (BigInt radix digits) (if b then plain t else t)
    by_edition true = plain_spells radix digits t (raw t refl)
    by_edition false = raw t refl

letter_plain : (radix : ℕ) → plain (letter radix ∷ []) ≡ letter radix ∷ []
letter_plain radix = by_two (radix == 2) (radix == 8)
  where
    by_two : (a b : Bool) → plain ((if a then 98 else (if b then 111 else 120)) ∷ []) ≡ (if a then 98 else (if b then 111 else 120)) ∷ []
    by_two true b = refl
    by_two false true = refl
    by_two false false = refl

prefix_plain : (radix : ℕ) → plain (big_prefix radix) ≡ big_prefix radix
prefix_plain radix = by_ten (radix == 10)
  where
    by_ten : (b : Bool) → plain (if b then [] else 48 ∷ letter radix ∷ []) ≡ (if b then [] else 48 ∷ letter radix ∷ [])
    by_ten true = refl
    by_ten false = ap (λ (l : List ℕ). 48 ∷ l) (letter_plain radix)

pub formatted_big_again : FormattedBigAgain
formatted_big_again style radix digits own None h =
    settled style (big_text radix digits)
    (plain_both (big_prefix radix) (digits ++ 110 ∷ []) (prefix_plain radix) (plain_both digits (110 ∷ []) (big_plain h.0 digits radix h.2).none refl))
formatted_big_again style radix digits own (Some t) h = separated_twice style t
