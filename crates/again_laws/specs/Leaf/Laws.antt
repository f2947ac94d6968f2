-- Laws of literals and names as they are written: their statements.
use Rattle.std.specs.Prelude.{◌≡◌, ℕ, Bool, true, nat_lt, List, [], ◌++◌, Some}
use Rattle.std.specs.List.{list_all}
use lib.Utf8.{scalars}
use Rattle.base_number.specs.Numbers.{SpecNumber, number_of, IsCanonical}
use Rattle.lex_literal.specs.Numbers.{BigInt, Spells}
use Rattle.lex_literal.specs.Strings.{SpellsString}
use Rattle.print_spelling.specs.declared.style.Style.{Style}
use Rattle.print_spelling.specs.Number.Numbers.{HasPrefix}
use Rattle.print_spelling.specs.String.CodePoints.{AreUnits}
use Rattle.print_spelling.specs.String.Strings.{quoted}
use Rattle.print_spelling.specs.Template.Templates.{template_text}
use Rattle.again_laws.specs.Tokens.Lexicon.{Lexicon}

-- A number that is read is in its one form, and one of a radix has a prefix (12.9.3).
abbrev pub NumberIsCanonical : Type 0
NumberIsCanonical = (text : List ℕ) (v : SpecNumber) → number_of text ≡ Some v → IsCanonical v × HasPrefix v

abbrev pub is_ascii : List ℕ → Bool
is_ascii text = list_all (λ c. nat_lt c 128) text

-- The texts of numbers and of big integers are ASCII.
abbrev pub NumberIsAscii : Type 0
NumberIsAscii = (text : List ℕ) (v : SpecNumber) → number_of text ≡ Some v → is_ascii text ≡ true

abbrev pub BigIsAscii : Type 0
BigIsAscii = (radix : ℕ) (digits own : List ℕ) → Spells (BigInt radix digits) own → is_ascii own ≡ true

-- A string is read alone as it is before a rest (12.9.4).
abbrev pub StringAlone : Type 0
StringAlone = (u : List ℕ) (l : Bool) (own rest : List ℕ) → SpellsString u l (own ++ rest) rest → SpellsString u l own []

-- A string of scalar values reads as units of UTF-16.
abbrev pub StringUnits : Type 0
StringUnits = (u : List ℕ) (l : Bool) (text rest : List ℕ) → scalars text ≡ true → SpellsString u l text rest → AreUnits u

-- Units in quotes, and a piece of a template, are written in scalar values.
abbrev pub QuotedScalars : Type 0
QuotedScalars = (style : Style) (u : List ℕ) → AreUnits u → scalars (quoted style u []) ≡ true

abbrev pub TemplateScalars : Type 0
TemplateScalars = (style : Style) (raw : List ℕ) → scalars raw ≡ true → scalars (template_text style raw []) ≡ true

-- What texts mean, in each style.
abbrev pub TextsMean : Type 0
TextsMean = (style : Style) → Lexicon style
