-- Where a number stands, whatever comes behind it (ECMA-262, 12.9.3).
use Rattle.std.specs.Prelude.{◌≡◌, ℕ, Bool, true, false, not, ◌&&◌, ◌||◌, ◌==◌, List, ◌++◌, Some}
use Rattle.std.specs.Char.{is_digit}
use Rattle.std.specs.List.{list_all}
use Rattle.base_token.specs.Numbers.{SpecNumber, number_of, is_legacy_octal}
use Rattle.lex_pieces.specs.Runs.{Ends}
use Rattle.lex_literal.specs.Escapes.{begins}
use Rattle.lex_literal.specs.Numbers.{Number, BigInt, Spells, SpellsNumber, is_barred}

-- whether a text is digits and `_` alone, and no legacy octal number: a point behind it would be part of the number
abbrev pub is_digit_or_separator : ℕ → Bool
is_digit_or_separator c = is_digit c 10 || c == 95

abbrev pub takes_point : List ℕ → Bool
takes_point text = list_all is_digit_or_separator text && not (is_legacy_octal text)

abbrev pub is_point : ℕ → Bool
is_point c = c == 46

-- What may follow a number: no digit, nothing that a name begins with and no backslash; and no point where the number
-- would take it.
abbrev pub MayFollow : List ℕ → List ℕ → Type 0
MayFollow text rest = Ends is_barred rest × (takes_point text ≡ true → begins is_point rest ≡ false)

-- A spelling of a number is read as its value before any rest that may follow.
abbrev pub NumberStands : Type 0
NumberStands = (v : SpecNumber) (text rest : List ℕ) → number_of text ≡ Some v → MayFollow text rest
    → SpellsNumber (Number v) text (text ++ rest) rest

-- And so is one of a big integer, before any rest without a digit, what a name begins with or a backslash.
abbrev pub BigIntStands : Type 0
BigIntStands = (radix : ℕ) (digits text rest : List ℕ) → Spells (BigInt radix digits) text → Ends is_barred rest
    → SpellsNumber (BigInt radix digits) text (text ++ rest) rest
