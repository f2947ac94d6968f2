-- Lists of steps of a lexer, each of which hands out a token.
use Rattle.std.specs.Prelude.{◌≡◌, ◌≢◌, List, [], ◌∷◌, None, Some}
use Rattle.base_token.specs.Kinds.{error_kind}
use Rattle.base_token.specs.Tokens.{Spot}
use Rattle.lex_source.specs.Machine.{told_of}
use Rattle.lex_source.specs.Settings.{Settings}
use Rattle.lex_step_laws.specs.States.{Start, State}
use Rattle.lex_step_laws.specs.Steps.{IsStep}

-- What may be told between two steps: anything but that a slash is to be read again.
abbrev pub NoReread : Settings → Settings → Type 0
NoReread old new = new.next_regexp ≡ None

-- These tokens are handed out one after the other, and after each something may be told.
abbrev pub AreSteps : (Settings → Settings → Type 0) → State → List Spot → State → Type 0
AreSteps May s [] new = s ≡ new
AreSteps May s (spot ∷ spots) new =
    (behind : State) × (told : Settings) × IsStep s (Some spot) behind × May behind.settings told × AreSteps May (told_of told behind) spots new

-- At the start of a text, with no slash to be read again.
pub record IsAtStart (s : State) : Type 0 where
  pub last : s.tokens.last ≡ Start
  pub next_regexp : s.settings.next_regexp ≡ None

-- no error token is among them
abbrev pub Clean : List Spot → Type 0
Clean [] = Unit {0}
Clean (spot ∷ spots) = (spot.token.kind ≢ error_kind) × Clean spots
