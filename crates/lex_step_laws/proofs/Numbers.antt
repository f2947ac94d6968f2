-- Whether a number stands at a front.
use Rattle.std.proofs.Common.{ℕ, ◌<◌, inl, inr, ⊎_elim, List, [], ◌∷◌, length, length-append, refl, ap, arith}
use Rattle.std.proofs.lemmas.Bool.{false≢true}
use Rattle.lex_literal.specs.Numbers.{Meaning, SpellsNumber, NoNumber, Spells}
use Rattle.lex_literal.proofs.NumeralLemmas.{numeral_starts}
use Rattle.lex_literal.proofs.NumberOrNone.{number_or_none}
use Rattle.lex_token.specs.Lexemes.{SpecLexeme, IsNumber, numeral_lexeme}
use Rattle.lex_step_laws.proofs.Deciding.{Decided}

pub number_or_not : (text : List ℕ) → Decided IsNumber text
number_or_not text = ⊎_elim
    (λ (h : (m : Meaning) × (own : List ℕ) × (rest : List ℕ) × SpellsNumber m own text rest). inl (numeral_lexeme h.0 h.1, h.2, (h.0, h.1, h.3, refl)))
    (λ (n : NoNumber text). inr (λ x rest h. n h.0 h.1 rest h.2))
    (number_or_none text)

-- ---- a number takes characters

no_empty : (m : Meaning) → Spells m [] → ⊥
no_empty m h = false≢true (numeral_starts m [] [] [] (record {
  parts = refl;
  spelled = h;
  longest = λ o other more g e. let k = ap length e in omega (arith, k, length-append other more);
  ended = tt;
}))

number_by : (m : Meaning) (own text rest : List ℕ) → SpellsNumber m own text rest → length rest < length text
number_by m [] text rest h = absurd (no_empty m h.spelled)
number_by m (c ∷ cs) text rest h = let e = ap length h.parts in omega (arith, e, length-append cs rest)

pub number_shorter : (text : List ℕ) (x : SpecLexeme) (rest : List ℕ) → IsNumber text x rest → length rest < length text
number_shorter text x rest h = number_by h.0 h.1 text rest h.2
