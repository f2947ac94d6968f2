-- What is known of a lexer from what a step answered.
use Rattle.std.specs.Prelude.{◌≡◌, ℕ, Bool, List, Option, Some, Result, Ok, Err, option_map}
use Rattle.base_token.specs.declared.error.Error.{Error}
use Rattle.base_token.specs.declared.error.SyntaxError.TheVariants.{Memory}
use Rattle.base_token.specs.declared.token.TokenAndSpan.{TokenAndSpan}
use Rattle.base_token.specs.Tokens.{Spot}
use Rattle.lex_source.specs.Machine.{shown_spot}
use Rattle.lex_token.specs.Lexemes.{SpecLexeme}
use Rattle.lex_step_laws.specs.States.{State, behind, spot_at}

-- A step of this kind was made, or memory ran out.
abbrev pub Steps : (Option Spot → State → Type 0) → Result (Option TokenAndSpan) Error → State → Type 0
Steps Is (Ok t) new = Is (option_map shown_spot t) new
Steps Is (Err e) new = e.kind ≡ Memory

-- The token that stands between the first characters and the second was handed out.
abbrev pub IsTaken : Bool → List ℕ → SpecLexeme → List ℕ → State → Option Spot → State → Type 0
IsTaken line_break from x rest s out new =
    (out ≡ Some (spot_at s.tokens.end line_break x.token from rest)) × (new ≡ behind s line_break from x rest)
