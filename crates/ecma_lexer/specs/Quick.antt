-- The tokens that leave what a lexer keeps as it is: most of them.
use Rattle.std.specs.Prelude.{◌≡◌, ℕ, Bool, true, false, ◌==◌, ◌&&◌, ◌||◌, not, List, Option, Some}
use Rattle.base_token.specs.Kinds.{back_quote_kind, div_assign_kind, div_kind, dollar_brace_kind, template_kind}
use Rattle.base_token.specs.declared.token.TokenKind.{TokenKind}
use Rattle.base_token.specs.declared.token.TokenKind.TheVariants as kind
use Rattle.base_token.specs.declared.operator.BinOpToken.TheVariants as binary
use Rattle.base_token.specs.declared.operator.AssignOp.TheVariants as assign
use Rattle.base_token.specs.Tokens.{SpecToken, Spot}
use Rattle.lex_step_laws.specs.States.{Other, State, spot_at}

-- Whether a token of the kind opens and closes nothing where nothing is open, and is no slash and no part of a template.
abbrev pub is_quiet : ℕ → Bool
is_quiet k = not (k == template_kind) && (not (k == div_kind || k == div_assign_kind) && (not (k == back_quote_kind) && not (k == dollar_brace_kind)))

-- the same of a punctuator
abbrev pub is_quiet_mark : TokenKind → Bool
is_quiet_mark kind.BackQuote = false
is_quiet_mark (kind.BinOp binary.Div) = false
is_quiet_mark (kind.AssignOp assign.DivAssign) = false
is_quiet_mark _ = true

-- The state behind a quiet token: only what is left is less.
abbrev pub passed : State → Bool → List ℕ → State
passed s line_break rest = record { tokens = record { left = rest; end = s.tokens.end; last = Other; line_break = line_break }; settings = s.settings }

-- A token that stands between the first characters and the second is handed out, and only what is left is less.
abbrev pub IsHanded : Bool → SpecToken → List ℕ → List ℕ → State → Option Spot → State → Type 0
IsHanded line_break token from rest s out new = (out ≡ Some (spot_at s.tokens.end line_break token from rest)) × (new ≡ passed s line_break rest)
