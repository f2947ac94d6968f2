-- Numeric literals as the code reads them are those of the definition.
use Rattle.std.proofs.Common.{◌≡◌, ℕ, zero, suc, ◌<◌, true, false, cond, List, [], ◌∷◌, ◌++◌, get_or, length, refl, sym, ap, ◌∙◌, arith, IsUtf8}
use Rattle.std.specs.Prelude.{◌&&◌, ◌==◌, Some, None}
use Rattle.std.specs.Str.{IsAscii, chars}
use Rattle.std.proofs.lemmas.Bool.{false≢true, false_from_ne_true, and_parts}
use Rattle.std.proofs.lemmas.Bool.Decides.{nat_tests}
use Rattle.std.proofs.lemmas.Str.{encodes-IsAscii, encodes-chars, IsUtf8-from_ascii}
use Rattle.base_token.specs.Numbers.{number_of, spells_octal, spells_non_octal, unsigned, plain, before, is_mark}
use Rattle.base_token.specs.declared.error.SyntaxError.TheVariants.{ExpectedDigit, NumLitTerminatedWithExp, LegacyOctal, LegacyDecimal}
use Rattle.memchr.specs.Find.{IsFirstByte, is_byte}
use Rattle.lex_literal.specs.Escapes.{begins, is_decimal}
use Rattle.lex_literal.specs.Numbers.{flaw, missing_digits, barred_next, is_zero, is_some, takes_exponent, is_prefix_letter, is_exponent_mark, legacy_of_number}
use Rattle.lex_literal.proofs.StateLemmas.{by_test, digit, spelled, spelled_is, decimal_spelled, decimal_by, behind_zero}

-- ---- faults

pub flaw_end : (own rest : List ℕ) → rest ≡ [] → flaw own rest ≡ barred_next rest
flaw_end own [] e = elim (is_zero own) as (λ v. cond (v && false) (missing_digits ExpectedDigit (own ++ []) []) (cond (takes_exponent own && false) (missing_digits NumLitTerminatedWithExp (own ++ []) []) (barred_next [])) ≡ barred_next []) [
  | true ↦ elim (takes_exponent own) as (λ v. cond (v && false) (missing_digits NumLitTerminatedWithExp (own ++ []) []) (barred_next []) ≡ barred_next []) [ true ↦ refl | false ↦ refl ]
  | false ↦ elim (takes_exponent own) as (λ v. cond (v && false) (missing_digits NumLitTerminatedWithExp (own ++ []) []) (barred_next []) ≡ barred_next []) [ true ↦ refl | false ↦ refl ]
]
flaw_end own (c ∷ cs) e = absurd (let h : length (c ∷ cs) ≡ 0 = ap length e in omega arith)

pub flaw_prefix : (own cs : List ℕ) (c : ℕ) → is_zero own ≡ true → is_prefix_letter c ≡ true → flaw own (c ∷ cs) ≡ missing_digits ExpectedDigit (own ++ c ∷ cs) cs
flaw_prefix own cs c z l = rw (z, l) refl

pub flaw_exponent : (own cs : List ℕ) (c : ℕ) → (is_zero own && is_prefix_letter c) ≡ false → takes_exponent own ≡ true → is_exponent_mark c ≡ true
    → flaw own (c ∷ cs) ≡ missing_digits NumLitTerminatedWithExp (own ++ c ∷ cs) (unsigned cs)
flaw_exponent own cs c z t e = rw (z, t, e) refl

pub flaw_barred : (own cs : List ℕ) (c : ℕ) → (is_zero own && is_prefix_letter c) ≡ false → (takes_exponent own && is_exponent_mark c) ≡ false → flaw own (c ∷ cs) ≡ barred_next (c ∷ cs)
flaw_barred own cs c z t = rw (z, t) refl

-- ---- what strict code bars

pub legacy_octal : (own ds : List ℕ) → own ≡ 48 ∷ ds → spells_octal ds ≡ true → Some LegacyOctal ≡ legacy_of_number own
legacy_octal own ds e h = sym (ap legacy_of_number e ∙ rw h refl)

pub legacy_other : (own ds : List ℕ) (c : ℕ) → own ≡ c ∷ ds → (c ≡ 48 → ⊥) → None ≡ legacy_of_number own
legacy_other own ds c e h =
    let z : (c == 48) ≡ false = grind (arith, nat_tests) in
    sym (ap legacy_of_number e
    ∙ by_test (is_mark 101 c) (legacy_of_number (c ∷ ds) ≡ None) (λ i. rw (z, i) refl)
    (λ i. by_test (is_mark 46 c) (legacy_of_number (c ∷ ds) ≡ None) (λ j. rw (z, i, j) refl) (λ j. rw (z, i, j, z) refl)))

pub legacy_zero : (own ds : List ℕ) → own ≡ 48 ∷ ds → spells_octal ds ≡ false → begins is_decimal ds ≡ false → None ≡ legacy_of_number own
legacy_zero own [] e h b = sym (ap legacy_of_number e)
legacy_zero own (d ∷ cs) e h b =
    sym (ap legacy_of_number e
    ∙ by_test (is_mark 101 d) (legacy_of_number (48 ∷ d ∷ cs) ≡ None) (λ i. rw (h, i) refl)
    (λ i. by_test (is_mark 46 d) (legacy_of_number (48 ∷ d ∷ cs) ≡ None) (λ j. rw (h, i, j) refl) (λ j. rw (h, i, j, b) refl)))

pub legacy_decimal : (own ds : List ℕ) → own ≡ 48 ∷ ds → spells_octal ds ≡ false → begins is_decimal ds ≡ true → is_some (number_of own) ≡ true → Some LegacyDecimal ≡ legacy_of_number own
legacy_decimal own [] e h b n = absurd (false≢true b)
legacy_decimal own (d ∷ cs) e h b n =
    let f = digit d b in
    let whole : spelled (48 ∷ d ∷ cs) ≡ true = sym (spelled_is (48 ∷ d ∷ cs)) ∙ ap (λ l. is_some (number_of l)) (sym e) ∙ n in
    let decimal : decimal_spelled (48 ∷ d ∷ cs) ≡ true = rw (f.letter, h) at whole in
    let parts : decimal_by (λ l. spells_non_octal (d ∷ l)) cs ≡ true = sym (behind_zero d cs f.point f.exp) ∙ decimal in
    let first : spells_non_octal (d ∷ before 46 (before 101 cs)) ≡ true = (and_parts _ _ (and_parts _ _ parts).0).0 in
    sym (ap legacy_of_number e ∙ rw (h, f.exp, f.point, first) refl)

-- ---- digits of big integers

pub no_separator : (l : List ℕ) → ((k : ℕ) → k < length l → (get_or l k 0 == 95) ≡ false) → plain l ≡ l
no_separator [] h = refl
no_separator (c ∷ cs) h =
    let first : (c == 95) ≡ false = h 0 (omega arith) in
    rw first (ap (λ (l : List ℕ). c ∷ l) (no_separator cs (λ k l. h (suc k) (omega arith))))

plain_ascii : (l : List ℕ) → IsAscii l → IsAscii (plain l)
plain_ascii [] h = h
plain_ascii (c ∷ cs) h =
    by_test (c == 95) (IsAscii (plain (c ∷ cs)))
    (λ e. rw e (plain_ascii cs (λ i. h (suc i))))
    (λ e. rw e (cons_ascii c (plain cs) (h 0) (plain_ascii cs (λ i. h (suc i)))))
  where
    cons_ascii : (d : ℕ) (ds : List ℕ) → d < 128 → IsAscii ds → IsAscii (d ∷ ds)
    cons_ascii d ds l m zero = l
    cons_ascii d ds l m (suc i) = m i

pub plain_utf8 : (l : List ℕ) → IsAscii l → IsUtf8 (plain l)
plain_utf8 l h = IsUtf8-from_ascii (plain l) (plain_ascii l h)

-- a text whose characters are ASCII is its characters
pub ascii_chars : (s : List ℕ) → IsUtf8 s → IsAscii (chars s) → chars s ≡ s
ascii_chars s u h = sym (encodes-IsAscii (chars s) h) ∙ encodes-chars s u

-- where no separator is found
pub separated_none : (l : List ℕ) → IsFirstByte (is_byte 95) l None → plain l ≡ l
separated_none l h = no_separator l (λ k i. false_from_ne_true (get_or l k 0 == 95) (h k (omega arith) i))
