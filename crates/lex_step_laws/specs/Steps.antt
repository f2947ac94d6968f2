-- One step of a lexer: the token that comes, and the state behind it (ECMA-262, clause 12 and 12.2 to 12.5, B.1).
--
-- The goal of each token: a template's own characters, or what ends them, where the template is the innermost context; RegExp for a slash
-- that is to be read again; else Div.
use Rattle.std.specs.Prelude.{◌≡◌, ◌≢◌, ℕ, Bool, false, ◌||◌, ◌⊎◌, List, [], Option, None, Some}
use Rattle.std.specs.List.{list_any}
use Rattle.base_token.specs.Tokens.{Spot}
use Rattle.lex_pieces.specs.declared.trivia.Goal.{Goal}
use Rattle.lex_pieces.specs.Trivia.{Piece, Follow, IsHashbang, IsLegacy, IsOpenBlock, IsSkipped, NoHashbang, breaks}
use Rattle.lex_token.specs.declared.goal.LexicalGoal.{LexicalGoal}
use Rattle.lex_token.specs.declared.goal.LexicalGoal.TheVariants.{Div, RegExp, TemplateTail}
use Rattle.lex_token.specs.Lexemes.{SpecLexeme, IsLexeme}
use Rattle.lex_token.specs.Readings.{NoneOf}
use Rattle.lex_step_laws.specs.States.{Last, Start, Fault, State, again, behind, ended, faulty, goal_of, is_start, shebang, spot_at, stopped, template_goal}

-- The token that stands here under the goal.
abbrev pub IsToken : LexicalGoal → Bool → List ℕ → State → Option Spot → State → Type 0
IsToken goal line_break from s out new = (x : SpecLexeme) × (rest : List ℕ) × IsLexeme goal from x rest
    × (out ≡ Some (spot_at s.tokens.end line_break x.token from rest)) × (new ≡ behind s line_break from x rest)

-- Whether the text ends here: not among the characters of a template, which have to be closed.
abbrev pub Ends : LexicalGoal → List ℕ → Type 0
Ends goal from = (goal ≢ TemplateTail) × (from ≡ [])

-- Nothing stands under the goal: a fault.
abbrev pub IsFault : LexicalGoal → Bool → List ℕ → State → Option Spot → State → Type 0
IsFault goal line_break from s out new = NoneOf (IsLexeme goal) from × (Ends goal from → ⊥)
    × (out ≡ Some (faulty s.tokens.end line_break from)) × (new ≡ stopped s line_break)

abbrev pub IsEnd : LexicalGoal → List ℕ → State → Option Spot → State → Type 0
IsEnd goal from s out new = Ends goal from × (out ≡ None) × (new ≡ ended s)

-- What stands here under the goal: a token, a fault, or the end.
abbrev pub IsRead : LexicalGoal → Bool → List ℕ → State → Option Spot → State → Type 0
IsRead goal line_break from s out new =
    IsToken goal line_break from s out new ⊎ (IsFault goal line_break from s out new ⊎ IsEnd goal from s out new)

-- Behind some trivia comes a block comment with no end, or a comment of the HTML form in a module.
abbrev pub IsBadTrivia : Goal → Bool → List ℕ → List ℕ → Type 0
IsBadTrivia goal first text rest = (ps : List Piece) × Follow goal first text ps rest
    × (IsOpenBlock rest ⊎ ((inner : List ℕ) × IsLegacy goal (first || list_any breaks ps) rest inner))

-- Trivia, and what stands behind it under the goal Div.
abbrev pub IsPlain : State → Option Spot → State → Type 0
IsPlain s out new =
    ((line_break : Bool) × (rest : List ℕ) × IsSkipped (goal_of s.settings.ctx) (is_start s.tokens.last) s.tokens.left line_break rest
    × IsRead Div line_break rest s out new)
    ⊎ ((rest : List ℕ) × IsBadTrivia (goal_of s.settings.ctx) (is_start s.tokens.last) s.tokens.left rest
    × (out ≡ Some (faulty s.tokens.end false rest)) × (new ≡ stopped s false))

-- At the start of the text, a hashbang first.
abbrev pub IsFirst : State → Option Spot → State → Type 0
IsFirst s out new =
    ((own : List ℕ) × (rest : List ℕ) × IsHashbang s.tokens.left own rest
    × (out ≡ Some (spot_at s.tokens.end false (shebang own).token s.tokens.left rest)) × (new ≡ behind s false s.tokens.left (shebang own) rest))
    ⊎ (NoHashbang s.tokens.left × IsPlain s out new)

-- outside of templates
abbrev pub IsOutside : Last → State → Option Spot → State → Type 0
IsOutside Start s out new = IsFirst s out new
IsOutside last s out new = IsPlain s out new

-- where no slash is to be read again
abbrev pub IsGoing : Option LexicalGoal → State → Option Spot → State → Type 0
IsGoing (Some goal) s out new = IsRead goal false s.tokens.left s out new
IsGoing None s out new = IsOutside s.tokens.last s out new

abbrev pub IsStepBy : Option (List ℕ) → State → Option Spot → State → Type 0
IsStepBy (Some from) s out new = IsRead RegExp s.tokens.line_break from s out new
IsStepBy None s out new = IsGoing (template_goal s.settings.contexts s.tokens.last) s out new

abbrev pub IsStepOf : Last → State → Option Spot → State → Type 0
IsStepOf Fault s out new = (out ≡ None) × (new ≡ s)
IsStepOf last s out new = IsStepBy (again s) s out new

-- The step from a state hands out this, and leaves that state.
pub record IsStep (s : State) (out : Option Spot) (new : State) : Type 0 where
  pub is : IsStepOf s.tokens.last s out new
