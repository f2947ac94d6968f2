-- Laws of lists of steps.
use Rattle.std.specs.Prelude.{◌≡◌, ◌*◌, ◌≤◌, List, [], length, None}
use Rattle.base_token.specs.Tokens.{Spot}
use Rattle.lex_pieces.specs.Places.{bytes}
use Rattle.lex_source.specs.Machine.{SameContexts}
use Rattle.lex_step_laws.specs.States.{State, place}
use Rattle.lex_step_laws.specs.Steps.{IsStep}
use Rattle.lex_run_laws.specs.StepLists.{Clean, IsAtStart, NoReread, AreSteps}
use Rattle.lex_run_laws.specs.Spans.{Rise}
use Rattle.lex_run_laws.specs.Tilings.{Tile}

-- From the start of a text at most twice as many tokens are handed out as it has bytes.
abbrev pub TwoTokensAByte : Type 0
TwoTokensAByte = (s new : State) (spots : List Spot) → IsAtStart s → s.settings.contexts ≡ [] → AreSteps SameContexts s spots new
    → length spots ≤ 2 * bytes s.tokens.left

-- From the start of a text to its end, the tokens and the trivia between them tile it.
abbrev pub TilesText : Type 0
TilesText = (s new last : State) (spots : List Spot) → IsAtStart s → Clean spots → AreSteps NoReread s spots new → IsStep new None last
    → Tile s.tokens.end s.tokens.left spots

-- From the start of a text the places of tokens rise, and lie in the text.
abbrev pub SpansRise : Type 0
SpansRise = (s new : State) (spots : List Spot) → IsAtStart s → AreSteps NoReread s spots new
    → Rise (place s.tokens.end s.tokens.left) spots s.tokens.end
