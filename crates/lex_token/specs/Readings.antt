-- What is known of a text from what reading a token at its front answered.
use Rattle.std.specs.Prelude.{◌≡◌, ◌≢◌, ℕ, Bool, true, false, List, [], ◌++◌, Option, Some, None, Result, Ok, Err}
use Rattle.std.specs.Str.{chars}
use Rattle.base_token.specs.declared.error.Error.{Error}
use Rattle.base_token.specs.declared.error.SyntaxError.TheVariants.{Memory}
use Rattle.base_token.specs.declared.token.Token.{Token}
use Rattle.base_token.specs.declared.token.Token.TheVariants.{Template}
use Rattle.base_token.specs.TokenViews.{token_view}
use Rattle.lex_pieces.specs.declared.names.Name.{Name}
use Rattle.lex_pieces.specs.declared.names.Name.TheVariants.{Bare, Escaped}
use Rattle.lex_literal.specs.Templates.{IsFirstBad}
use Rattle.lex_token.specs.declared.goal.LexicalGoal.{LexicalGoal}
use Rattle.lex_token.specs.declared.goal.LexicalGoal.TheVariants.{TemplateTail}
use Rattle.lex_token.specs.declared.lexeme.Lexeme.{Lexeme}
use Rattle.lex_token.specs.Lexemes.{SpecLexeme, IsLexeme, IsLexemeFault}

-- what contracts see of a token that was read
abbrev pub lexeme_view : Lexeme → SpecLexeme
lexeme_view l = record { token = token_view l.token; escaped = l.escaped; legacy = l.legacy }

-- whether a name was spelled with an escape
abbrev pub has_escape : Name → Bool
has_escape (Bare own) = false
has_escape (Escaped own) = true

-- The text begins with these characters.
abbrev pub BeginsWith : List ℕ → List ℕ → Type 0
BeginsWith text own = (rest : List ℕ) × (text ≡ own ++ rest)

-- No token of these stands at the front.
abbrev pub NoneOf : (List ℕ → SpecLexeme → List ℕ → Type 0) → List ℕ → Type 0
NoneOf Stands text = (x : SpecLexeme) (rest : List ℕ) → Stands text x rest → ⊥

-- A token of a sort was read, or none of that sort stands there and this fault does.
abbrev pub ReadsAs : (List ℕ → SpecLexeme → List ℕ → Type 0) → (Error → Type 0) → List ℕ → Result Lexeme Error → Type 0
ReadsAs Stands Wrong text (Ok l) = Stands text (lexeme_view l) (chars l.rest.now)
ReadsAs Stands Wrong text (Err e) = e.kind ≢ Memory → NoneOf Stands text × Wrong e

-- A token was read; nothing, at the end of a text; or none stands there and this fault does.
abbrev pub Reads : (List ℕ → SpecLexeme → List ℕ → Type 0) → (Error → Type 0) → List ℕ → Result (Option Lexeme) Error → Type 0
Reads Stands Wrong text (Ok None) = (text ≡ []) × NoneOf Stands text
Reads Stands Wrong text (Ok (Some l)) = Stands text (lexeme_view l) (chars l.rest.now)
Reads Stands Wrong text (Err e) = e.kind ≢ Memory → NoneOf Stands text × Wrong e

-- the answer of reading the token at the front under a goal
abbrev pub ReadsLexeme : ℕ → LexicalGoal → List ℕ → Result (Option Lexeme) Error → Type 0
ReadsLexeme end goal text r = Reads (IsLexeme goal) (IsLexemeFault end goal text) text r

-- Where characters of a template have no units, their token has the fault of the first bad escape of the text.
abbrev pub HasFirstBad : ℕ → List ℕ → Token → Type 0
HasFirstBad end text (Template raw (Err e)) = IsFirstBad end text e
HasFirstBad end text _ = Unit {0}

-- and so has the token that was read under a goal, where such characters come
abbrev pub TellsFirstBad : ℕ → LexicalGoal → List ℕ → Result (Option Lexeme) Error → Type 0
TellsFirstBad end TemplateTail text (Ok (Some l)) = HasFirstBad end text l.token
TellsFirstBad end _ text r = Unit {0}
