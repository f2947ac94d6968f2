-- Numeric literals (ECMA-262, 12.9.3 and B.1.1): how numbers are spelled, and what they stand for, is said in `base_number`.
use Rattle.std.specs.Prelude.{◌≡◌, ◌≢◌, ℕ, ◌≤◌, Bool, true, false, ◌&&◌, ◌||◌, ◌==◌, if◌then◌else◌, List, [], ◌∷◌, ◌++◌, length, codes, Option, Some, None, Result, Ok, Err}
use Rattle.std.specs.Cow.{cow_str_bytes}
use Rattle.std.specs.Str.{chars}
use Rattle.base_token.specs.Numbers.{SpecNumber, number_of, spells_digits, spells_non_octal, plain, prefix_radix, past_first, none_left, is_mark, unsigned, before, is_legacy_octal}
use Rattle.base_token.specs.declared.error.Error.{Error}
use Rattle.base_token.specs.declared.error.SyntaxError.{SyntaxError}
use Rattle.base_token.specs.declared.error.SyntaxError.TheVariants.{Memory, LegacyOctal, LegacyDecimal, ExpectedDigit, NumLitTerminatedWithExp, NumericSeparatorIsAllowedOnlyBetweenTwoDigits, IdentAfterNum}
use Rattle.lex_pieces.specs.Names.{is_opening}
use Rattle.lex_pieces.specs.Runs.{Ends}
use Rattle.lex_literal.specs.declared.number.Numeral.{Numeral}
use Rattle.lex_literal.specs.declared.number.Numeral.TheVariants as n
use Rattle.lex_literal.specs.declared.number.NumericLiteral.{NumericLiteral}
use Rattle.lex_literal.specs.Escapes.{begins, is_decimal}
use Rattle.lex_pieces.specs.Places.{IsAt}

-- what a numeric literal stands for: a number, or a big integer, by its radix and its digits
pub data Meaning : Type 0 where
  Number : SpecNumber → Meaning
  BigInt : ℕ → List ℕ → Meaning

-- the digits of DecimalBigIntegerLiteral: 0, or decimal digits that do not begin with 0
abbrev pub spells_big_decimal : List ℕ → Bool
spells_big_decimal [] = false
spells_big_decimal (c ∷ cs) = if c == 48 then none_left cs else spells_digits 10 (c ∷ cs)

-- radix and digits of a big integer, by the radix of its prefix, if it has one
abbrev pub big_by : Option ℕ → List ℕ → Option (ℕ × List ℕ)
big_by None text = if spells_big_decimal text then Some (10, plain text) else None
big_by (Some radix) text =
    if spells_digits radix (past_first (past_first text)) then Some (radix, plain (past_first (past_first text))) else None

-- what stands behind the prefix, if there is one
abbrev pub behind_prefix : Option ℕ → List ℕ → List ℕ
behind_prefix None text = text
behind_prefix (Some radix) text = past_first (past_first text)

-- radix and digits of a big integer, from what stands before its `n`
unfoldable pub big_of : List ℕ → Option (ℕ × List ℕ)
big_of text = big_by (prefix_radix text) text

-- NumericLiteral: the text is one, and stands for this.
abbrev pub Spells : Meaning → List ℕ → Type 0
Spells (Number value) own = number_of own ≡ Some value
Spells (BigInt radix digits) own = (text : List ℕ) × (own ≡ text ++ 110 ∷ []) × (big_of text ≡ Some (radix, digits))

-- No longer front of the text is one (clause 12).
abbrev pub Longest : List ℕ → List ℕ → Type 0
Longest own text = (m : Meaning) (other more : List ℕ) → Spells m other → text ≡ other ++ more → length other ≤ length own

-- what may not follow a numeric literal: DecimalDigit, IdentifierStart and the backslash of an escape
abbrev pub is_barred : ℕ → Bool
is_barred c = is_decimal c || is_opening c

-- The text begins with a numeric literal of this own text, up to the rest.
pub record SpellsNumber (m : Meaning) (own text rest : List ℕ) : Type 0 where
  pub parts : text ≡ own ++ rest
  pub spelled : Spells m own
  pub longest : Longest own text
  pub ended : Ends is_barred rest

-- No numeric literal stands at the front of the text.
abbrev pub NoNumber : List ℕ → Type 0
NoNumber text = (m : Meaning) (own rest : List ℕ) → SpellsNumber m own text rest → ⊥

-- ---- faults

-- a kind, and the fronts from which and up to which the fault lies
abbrev pub Flaw : Type 0
Flaw = SyntaxError × List ℕ × List ℕ

-- The fault is this one, at its place.
abbrev pub IsFlaw : ℕ → Flaw → Error → Type 0
IsFlaw end x e = (e.kind ≡ x.0) × IsAt end x.1 x.2 e.span

-- BigIntLiteralSuffix, NumericLiteralSeparator, the letters of prefixes and the ExponentIndicator
abbrev pub is_n : ℕ → Bool
is_n c = c == 110

abbrev pub is_separator : ℕ → Bool
is_separator c = c == 95

abbrev pub is_prefix_letter : ℕ → Bool
is_prefix_letter c = is_mark 120 c || (is_mark 111 c || is_mark 98 c)

abbrev pub is_exponent_mark : ℕ → Bool
is_exponent_mark c = is_mark 101 c

-- `0` alone
abbrev pub is_zero : List ℕ → Bool
is_zero [] = false
is_zero (c ∷ cs) = c == 48 && none_left cs

-- whether there is something
abbrev pub is_some : {A : Type 0} → Option A → Bool
is_some None = false
is_some (Some x) = true

-- whether an exponent may stand behind the number: with `e0` it is one, too (hexadecimal digits leave no `e` behind them)
abbrev pub takes_exponent : List ℕ → Bool
takes_exponent own = is_some (number_of (own ++ codes "e0"))

-- where digits were to come: a separator in their place, or else this
abbrev pub missing_digits : SyntaxError → List ℕ → List ℕ → Flaw
missing_digits kind text behind =
    if begins is_separator behind then (NumericSeparatorIsAllowedOnlyBetweenTwoDigits, behind, past_first behind) else (kind, text, behind)

-- what may not follow: a separator, or the front of a name or another digit
abbrev pub barred_next : List ℕ → Flaw
barred_next rest =
    (if begins is_separator rest then NumericSeparatorIsAllowedOnlyBetweenTwoDigits else IdentAfterNum, rest, past_first rest)

-- the fault behind the longest front that is a number: a prefix or an exponent without digits, or what may not follow
abbrev pub flaw : List ℕ → List ℕ → Flaw
flaw own rest =
    if is_zero own && begins is_prefix_letter rest then missing_digits ExpectedDigit (own ++ rest) (past_first rest)
    else (if takes_exponent own && begins is_exponent_mark rest then missing_digits NumLitTerminatedWithExp (own ++ rest) (unsigned (past_first rest))
    else barred_next rest)

-- The fault of a text that begins as a number does: the longest front that is one ends before what may not follow.
pub record IsNumberFault (end : ℕ) (text : List ℕ) (e : Error) : Type 0 where
  pub meaning : Meaning
  pub own : List ℕ
  pub rest : List ℕ
  pub parts : text ≡ own ++ rest
  pub spelled : Spells meaning own
  pub longest : Longest own text
  pub barred : begins is_barred rest ≡ true
  pub flawed : IsFlaw end (flaw own rest) e

-- ---- what reading answers

-- NonOctalDecimalIntegerLiteral as the integer of a number: 0 and digits with 8 or 9 among them
abbrev pub is_non_octal : List ℕ → Bool
is_non_octal [] = false
is_non_octal (c ∷ cs) = c == 48 && spells_non_octal cs

-- what strict code has against a number (12.9.3.1)
abbrev pub legacy_of_number : List ℕ → Option SyntaxError
legacy_of_number own =
    if is_legacy_octal own then Some LegacyOctal else (if is_non_octal (before 46 (before 101 own)) then Some LegacyDecimal else None)

-- and against a literal: big integers have no legacy form
abbrev pub legacy_of : Meaning → List ℕ → Option SyntaxError
legacy_of (Number value) own = legacy_of_number own
legacy_of (BigInt radix digits) own = None

-- what a value of the code stands for
abbrev pub meaning : Numeral → Meaning
meaning (n.Number value) = Number value
meaning (n.BigInt radix digits) = BigInt radix (cow_str_bytes digits)

-- What is known of a text from what reading its number answered.
abbrev pub ReadsNumber : ℕ → List ℕ → Result NumericLiteral Error → Type 0
ReadsNumber end text (Ok x) = SpellsNumber (meaning x.value) (chars x.raw.now) text (chars x.rest.now)
    × (x.legacy ≡ legacy_of (meaning x.value) (chars x.raw.now))
ReadsNumber end text (Err e) = e.kind ≢ Memory → NoNumber text × IsNumberFault end text e

-- a digit, or a dot and a digit
abbrev pub is_number_start : List ℕ → Bool
is_number_start [] = false
is_number_start (c ∷ cs) = is_decimal c || (c == 46 && begins is_decimal cs)

-- At most one numeric literal stands at a front.
abbrev pub OneNumber : Type 0
OneNumber = (m o : Meaning) (own other text r s : List ℕ) → SpellsNumber m own text r → SpellsNumber o other text s
    → (m ≡ o) × (own ≡ other) × (r ≡ s)
