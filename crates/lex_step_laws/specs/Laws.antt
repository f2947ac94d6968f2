-- Laws of steps.
use Rattle.std.specs.Prelude.{◌≡◌, Option, None}
use Rattle.base_token.specs.Tokens.{Spot}
use Rattle.lex_step_laws.specs.States.{Fault, State}
use Rattle.lex_step_laws.specs.Steps.{IsStep}

-- One step at most is made from a state: the token and the state behind it are determined.
abbrev pub OneStep : Type 0
OneStep = (s new other : State) (a b : Option Spot) → IsStep s a new → IsStep s b other → (a ≡ b) × (new ≡ other)

-- Behind a fault nothing comes, and nothing changes.
abbrev pub EndsByFault : Type 0
EndsByFault = (s new : State) (out : Option Spot) → s.tokens.last ≡ Fault → IsStep s out new → (out ≡ None) × (new ≡ s)
