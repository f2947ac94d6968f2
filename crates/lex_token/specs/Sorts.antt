-- How each sort of token begins: no two begin alike under one goal.
use Rattle.std.specs.Prelude.{ℕ, Bool, true, false, not, ◌&&◌, ◌||◌, ◌==◌, List, [], ◌∷◌, Option, Some, None, if◌then◌else◌}
use Rattle.lex_pieces.specs.declared.bytes.ByteClass.{ByteClass}
use Rattle.lex_pieces.specs.declared.bytes.ByteClass.TheVariants.{NameStart, Backslash, Digit, Quote}
use Rattle.lex_pieces.specs.Names.{is_opening}
use Rattle.lex_literal.specs.Escapes.{begins, is_decimal}
use Rattle.lex_literal.specs.Numbers.{is_number_start}
use Rattle.lex_literal.specs.Strings.{is_quote}
use Rattle.lex_token.specs.declared.goal.LexicalGoal.{LexicalGoal}
use Rattle.lex_token.specs.declared.goal.LexicalGoal.TheVariants.{RegExp}
use Rattle.lex_token.specs.declared.sort.Sort.{Sort}
use Rattle.lex_token.specs.declared.sort.Sort.TheVariants as s

abbrev pub is_slash : ℕ → Bool
is_slash c = c == 47

-- whether a slash opens a regular expression
abbrev pub opens_regexp : LexicalGoal → Bool
opens_regexp RegExp = true
opens_regexp _ = false

-- whether a text begins as a word, a number or a string does
abbrev pub begins_ordinary : List ℕ → Bool
begins_ordinary text = begins is_opening text || (is_number_start text || begins is_quote text)

-- what only a punctuator may begin with, a dot and a slash aside
abbrev pub begins_mark : ℕ → Bool
begins_mark c = not (is_opening c) && (not (is_decimal c) && not (is_quote c))

unfoldable pub sort_by : LexicalGoal → ℕ → List ℕ → Sort
sort_by goal c cs =
    if is_opening c then s.Word
    else (if is_number_start (c ∷ cs) then s.Number
    else (if is_quote c then s.Str
    else (if opens_regexp goal && is_slash c then s.RegExp
    else s.Punctuator)))

abbrev pub sort : LexicalGoal → List ℕ → Sort
sort goal [] = s.Punctuator
sort goal (c ∷ cs) = sort_by goal c cs

-- the sort that each character of the class begins, where the class alone tells
abbrev pub class_sort : ByteClass → Option Sort
class_sort NameStart = Some s.Word
class_sort Backslash = Some s.Word
class_sort Digit = Some s.Number
class_sort Quote = Some s.Str
class_sort _ = None
