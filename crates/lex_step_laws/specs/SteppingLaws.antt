-- Laws of steps.
use Rattle.std.specs.Prelude.{◌≡◌, ◌+◌, length, Option, None, Some}
use Rattle.base_token.specs.Tokens.{Spot}
use Rattle.lex_source.specs.Machine.{SameContexts, told_of}
use Rattle.lex_source.specs.Settings.{Settings}
use Rattle.lex_step_laws.specs.States.{State, again, place}
use Rattle.lex_step_laws.specs.Steps.{IsStep}
use Rattle.lex_step_laws.specs.Bounds.{Falls, bound, characters_left, stands_by, unread}

-- A step is made from every state.
abbrev pub AlwaysSteps : Type 0
AlwaysSteps = (s : State) → (out : Option Spot) × (new : State) × IsStep s out new

-- A step that hands out a token lowers the bound on those to come, and no step raises it.
abbrev pub BoundFalls : Type 0
BoundFalls = (s new : State) (out : Option Spot) → IsStep s out new → Falls out (bound s.tokens) (bound new.tokens)

-- Behind the end the end comes again and nothing changes, whatever is told but a slash to be read again and other token contexts.
abbrev pub EndStays : Type 0
EndStays = (s new : State) (settings : Settings) → again s ≡ None → IsStep s None new → SameContexts new.settings settings
    → IsStep (told_of settings new) None (told_of settings new)

-- With a token at hand, how many tokens may come tells how many characters are unread; and these begin where that token ends, or where a slash begins. A fault takes the rest of the text.
abbrev pub TellsTokens : Type 0
TellsTokens = (s new : State) (spot : Spot) → IsStep s (Some spot) new
    → (characters_left (1 + bound new.tokens) ≡ length (unread new.tokens)) × (place new.tokens.end (unread new.tokens) ≡ stands_by new.tokens.last spot)

-- At the end it tells that none is left.
abbrev pub TellsEnds : Type 0
TellsEnds = (s new : State) → IsStep s None new → characters_left (bound new.tokens) ≡ 0
