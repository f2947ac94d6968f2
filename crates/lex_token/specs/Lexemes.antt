-- One token at the front of a text, under a lexical goal (ECMA-262, clause 12).
use Rattle.std.specs.Prelude.{◌≡◌, ◌≢◌, ℕ, Bool, true, false, ◌&&◌, ◌⊎◌, List, [], ◌∷◌, ◌++◌, if◌then◌else◌, Option, Some, None, encode_utf8_all}
use Rattle.base_token.specs.declared.context.Context.{Context}
use Rattle.base_token.specs.declared.error.Error.{Error}
use Rattle.base_token.specs.declared.error.SyntaxError.{SyntaxError}
use Rattle.base_token.specs.declared.error.SyntaxError.TheVariants.{EscapeInReservedWord, LegacyOctal, UnexpectedChar, UnterminatedTpl}
use Rattle.base_token.specs.declared.token.TokenKind.{TokenKind}
use Rattle.base_token.specs.Kinds.{back_quote_kind, big_int_kind, dollar_brace_kind, num_kind, regex_kind, str_kind, template_kind}
use Rattle.base_token.specs.Tokens.{Content, SpecToken, bare, word_token, BigNumeral, Named, Numeral, Pattern, Quoted, Piece}
use Rattle.base_token.specs.TokenViews.{token_kind_number}
use Rattle.base_token.specs.Words.{word_of}
use Rattle.lex_pieces.specs.Names.{IsName, IsNameFault, is_opening}
use Rattle.lex_pieces.specs.Places.{IsAt}
use Rattle.lex_pieces.specs.Punctuators.{IsPunctuator}
use Rattle.lex_pieces.specs.RegExps.{IsOpenSlash, IsRegExp, IsRegExpFault}
use Rattle.lex_pieces.specs.Words.{is_escaped_reserved}
use Rattle.lex_literal.specs.declared.template.Ending.{Ending}
use Rattle.lex_literal.specs.declared.template.Ending.TheVariants.{BackQuote, Substitution}
use Rattle.lex_literal.specs.Escapes.{begins}
use Rattle.lex_literal.specs.Numbers.{IsNumberFault, Meaning, Number, BigInt, SpellsNumber, is_number_start, legacy_of}
use Rattle.lex_literal.specs.Strings.{SpellsString, IsStringFault, is_quote}
use Rattle.lex_literal.specs.Templates.{Ends, SpellsPiece}
use Rattle.lex_token.specs.declared.goal.LexicalGoal.{LexicalGoal}
use Rattle.lex_token.specs.declared.goal.LexicalGoal.TheVariants.{Div, RegExp, TemplateTail, TemplateEnd}
use Rattle.lex_token.specs.Sorts.{begins_ordinary, is_slash, opens_regexp}

-- A token, whether it is a word that is spelled with an escape, and the fault that strict code has with its spelling.
pub record SpecLexeme : Type 0 where
  pub token : SpecToken
  pub escaped : Bool
  pub legacy : Option SyntaxError

abbrev pub plain : SpecToken → SpecLexeme
plain token = record { token = token; escaped = false; legacy = None }

-- ---- the sorts of tokens

-- the word of a name (12.7): the token of its text without escapes
abbrev pub word_spelled : List ℕ → Bool → SpecLexeme
word_spelled bytes escaped = record { token = word_token (word_of bytes); escaped = escaped; legacy = None }

abbrev pub word_lexeme : List ℕ → Bool → SpecLexeme
word_lexeme name escaped = word_spelled (encode_utf8_all name) escaped

-- whether the name is spelled otherwise than it reads: with an escape
abbrev pub IsMarked : List ℕ → List ℕ → List ℕ → Bool → Type 0
IsMarked text name rest true = text ≢ name ++ rest
IsMarked text name rest false = text ≡ name ++ rest

abbrev pub IsWord : List ℕ → SpecLexeme → List ℕ → Type 0
IsWord text x rest = (name : List ℕ) × (escaped : Bool) × IsName text name rest × IsMarked text name rest escaped
    × (x ≡ word_lexeme name escaped)

-- a string (12.9.4), as it is spelled and by its units; strict code bars the escapes of B.1.2
abbrev pub octal : Bool → Option SyntaxError
octal true = Some LegacyOctal
octal false = None

abbrev pub string_spelled : List ℕ → List ℕ → Bool → SpecLexeme
string_spelled units raw legacy = record { token = record { kind = str_kind; content = Quoted units raw }; escaped = false; legacy = octal legacy }

abbrev pub string_lexeme : List ℕ → List ℕ → Bool → SpecLexeme
string_lexeme units own legacy = string_spelled units (encode_utf8_all own) legacy

abbrev pub IsQuoted : List ℕ → SpecLexeme → List ℕ → Type 0
IsQuoted text x rest = (units own : List ℕ) × (legacy : Bool) × SpellsString units legacy text rest × (text ≡ own ++ rest)
    × (x ≡ string_lexeme units own legacy)

-- a number (12.9.3), by its value, or a big integer, by its radix and digits, as it is spelled; strict code bars the forms of B.1.1
abbrev pub numeral_token : Meaning → List ℕ → SpecToken
numeral_token (Number value) raw = record { kind = num_kind; content = Numeral value raw }
numeral_token (BigInt radix digits) raw = record { kind = big_int_kind; content = BigNumeral radix digits raw }

abbrev pub numeral_spelled : Meaning → List ℕ → Option SyntaxError → SpecLexeme
numeral_spelled m raw legacy = record { token = numeral_token m raw; escaped = false; legacy = legacy }

abbrev pub numeral_lexeme : Meaning → List ℕ → SpecLexeme
numeral_lexeme m own = numeral_spelled m (encode_utf8_all own) (legacy_of m own)

abbrev pub IsNumber : List ℕ → SpecLexeme → List ℕ → Type 0
IsNumber text x rest = (m : Meaning) × (own : List ℕ) × SpellsNumber m own text rest × (x ≡ numeral_lexeme m own)

-- a regular expression (12.9.5), by what stands between its slashes and its flags
abbrev pub pattern_token : List ℕ → List ℕ → SpecToken
pattern_token body flags = record { kind = regex_kind; content = Pattern body flags }

abbrev pub pattern_lexeme : List ℕ → List ℕ → SpecLexeme
pattern_lexeme body flags = plain (pattern_token (encode_utf8_all body) (encode_utf8_all flags))

abbrev pub IsPattern : List ℕ → SpecLexeme → List ℕ → Type 0
IsPattern text x rest = (body flags : List ℕ) × IsRegExp text body flags rest × (x ≡ pattern_lexeme body flags)

-- a punctuator (12.8)
abbrev pub IsMark : List ℕ → SpecLexeme → List ℕ → Type 0
IsMark text x rest = (kind : TokenKind) × IsPunctuator text kind rest × (x ≡ plain (bare (token_kind_number kind)))

-- the characters of a template up to what ends them (12.9.6), as they are spelled and by their cooked units
abbrev pub template_token : List ℕ → Option (List ℕ) → SpecToken
template_token raw units = record { kind = template_kind; content = Piece raw units }

abbrev pub template_lexeme : List ℕ → Option (List ℕ) → SpecLexeme
template_lexeme own units = plain (template_token (encode_utf8_all own) units)

abbrev pub IsCharacters : List ℕ → SpecLexeme → List ℕ → Type 0
IsCharacters text x rest = (own : List ℕ) × (units : Option (List ℕ)) × (ending : Ending) × (behind : List ℕ)
    × SpellsPiece own units ending text behind × Ends ending rest behind × (x ≡ template_lexeme own units)

-- what ends them
abbrev pub ending_kind : Ending → ℕ
ending_kind BackQuote = back_quote_kind
ending_kind Substitution = dollar_brace_kind

abbrev pub IsEnd : List ℕ → SpecLexeme → List ℕ → Type 0
IsEnd text x rest = (ending : Ending) × Ends ending text rest × (x ≡ plain (bare (ending_kind ending)))

-- ---- the token at a front

-- a word or a literal, under either goal
abbrev pub IsOrdinary : List ℕ → SpecLexeme → List ℕ → Type 0
IsOrdinary text x rest = IsWord text x rest ⊎ (IsNumber text x rest ⊎ IsQuoted text x rest)

-- a word, a literal, or a punctuator; where a slash opens a regular expression, that, and no punctuator with a slash in front
abbrev pub IsOutside : LexicalGoal → List ℕ → SpecLexeme → List ℕ → Type 0
IsOutside goal text x rest = IsOrdinary text x rest
    ⊎ (((opens_regexp goal ≡ true) × IsPattern text x rest)
    ⊎ (((opens_regexp goal && begins is_slash text) ≡ false) × IsMark text x rest))

-- The text begins with this token, up to the rest.
abbrev pub IsLexeme : LexicalGoal → List ℕ → SpecLexeme → List ℕ → Type 0
IsLexeme Div text x rest = IsOutside Div text x rest
IsLexeme RegExp text x rest = IsOutside RegExp text x rest
IsLexeme TemplateTail text x rest = IsCharacters text x rest
IsLexeme TemplateEnd text x rest = IsEnd text x rest

-- At most one token stands at the front of a text under one goal.
abbrev pub OneLexeme : LexicalGoal → List ℕ → Type 0
OneLexeme goal text = (x y : SpecLexeme) (r s : List ℕ) → IsLexeme goal text x r → IsLexeme goal text y s → (x ≡ y) × (r ≡ s)

-- ---- what a context has against a token

-- the text of a word, and none of any other token
abbrev pub text_in : Content → List ℕ
text_in (Named text) = text
text_in _ = []

-- The fault that a context has with the spelling of a token: that of a reserved word with an escape (12.7.2), and in strict code that of
-- an old form (12.9.3.1, 12.9.4.1).
abbrev pub fault_in : Context → SpecLexeme → Option SyntaxError
fault_in context x =
    if is_escaped_reserved context (text_in x.token.content) x.escaped then Some EscapeInReservedWord
    else (if context.strict then x.legacy else None)

-- ---- faults

-- The rest follows the first character of the text.
abbrev pub IsPast : List ℕ → List ℕ → Type 0
IsPast text rest = (c : ℕ) × (text ≡ c ∷ rest)

-- no token begins with the first character
abbrev pub IsStray : ℕ → List ℕ → Error → Type 0
IsStray end text e = (c : ℕ) × (rest : List ℕ) × (text ≡ c ∷ rest) × (e.kind ≡ UnexpectedChar) × IsAt end text rest e.span

-- no regular expression stands where a slash opens one: its body has no end, or a comment begins
abbrev pub IsPatternFault : ℕ → List ℕ → Error → Type 0
IsPatternFault end text e = IsRegExpFault end text e ⊎ ((IsOpenSlash text → ⊥) × IsStray end text e)

-- the characters of a template have no end
abbrev pub IsOpenTemplate : ℕ → List ℕ → Error → Type 0
IsOpenTemplate end text e = (e.kind ≡ UnterminatedTpl) × IsAt end text [] e.span

-- What is wrong at the front of a text with no token, which runs to the place `end`: the name or the literal that begins there goes wrong,
-- or nothing begins there.
abbrev pub IsOutsideFault : ℕ → LexicalGoal → List ℕ → Error → Type 0
IsOutsideFault end goal text e = ((begins is_opening text ≡ true) × IsNameFault end text e)
    ⊎ (((is_number_start text ≡ true) × IsNumberFault end text e)
    ⊎ (((begins is_quote text ≡ true) × IsStringFault end text e)
    ⊎ ((((opens_regexp goal && begins is_slash text) ≡ true) × IsPatternFault end text e)
    ⊎ ((begins_ordinary text ≡ false) × ((opens_regexp goal && begins is_slash text) ≡ false) × IsStray end text e))))

abbrev pub IsLexemeFault : ℕ → LexicalGoal → List ℕ → Error → Type 0
IsLexemeFault end Div text e = IsOutsideFault end Div text e
IsLexemeFault end RegExp text e = IsOutsideFault end RegExp text e
IsLexemeFault end TemplateTail text e = IsOpenTemplate end text e
IsLexemeFault end TemplateEnd text e = IsStray end text e
