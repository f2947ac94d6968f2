-- What a function of the parser says of where the parser stood and where it stands.
use Rattle.std.specs.Prelude.{ℕ, Result}
use Rattle.grammar_spec.specs.Tokens.Input.{Input}
use Rattle.grammar_spec.specs.Reader.Source as reading
use Rattle.grammar_spec.specs.Reader.Source.{Fault, Read, State, Stream}
use Rattle.lex_source.specs.Machine.{Machine, Source}
use Rattle.parse_state.specs.Answers.{Falls, Gives, Stays}
use Rattle.parse_state.specs.Cursors.{Cursor, stream_of}
use Rattle.parse_state.specs.States.{state_of}
use Rattle.parse_state.specs.declared.failure.Failure.{Failure}
use Rattle.parse_state.specs.declared.parser.Parser.{Parser}

-- Of anything that stands in front of tokens: how its tokens go on, and where it stands.
module _ {P S : Type 0} (m : Stream S) (stood : P → State S) where
  -- What was answered, seen by `view`, is what this reading function reads from the old place on, and behind that is the new place.
  abbrev pub ReadsOver : {X A : Type 0} → P → P → Result X Failure → (X → A) → Read S A → Type 0
  ReadsOver old new result view read = Gives (λ x. (view x, stood new)) (reading.bound m (stood new)) result (read (stood old))

  -- Fewer tokens may come than before.
  abbrev pub ShorterOver : {X : Type 0} → P → P → Result X Failure → Type 0
  ShorterOver old new result = Falls result (reading.bound m (stood new)) (reading.bound m (stood old))

-- Of a parser, by how its source goes on and where the source stands.
module _ {I S : Type 0} (machine : Machine S) (state : I → Source S) where
  -- the tokens at hand
  abbrev pub at_hand : Parser I → Input
  at_hand p = reading.input (stream_of machine) (state_of state p)

  -- how many tokens may come at most
  abbrev pub to_come : Parser I → ℕ
  to_come p = reading.bound (stream_of machine) (state_of state p)

  -- What was answered, seen by `view`, is what this reading function reads from where the parser stood, and behind that it stands.
  abbrev pub ReadsAs : {X A : Type 0} → Parser I → Parser I → Result X Failure → (X → A) → (Stream (Cursor S) → Read (Cursor S) A) → Type 0
  ReadsAs old new result view read = Gives (λ x. (view x, state_of state new)) (to_come new) result (read (stream_of machine) (state_of state old))

  -- The parser stands where this function goes on to from where it stood, and nothing is answered.
  abbrev pub Passes : {X : Type 0} → Parser I → Parser I → Result X Failure → (Stream (Cursor S) → State (Cursor S) → Result (State (Cursor S)) Fault) → Type 0
  Passes old new result read = Gives (λ _. state_of state new) (to_come new) result (read (stream_of machine) (state_of state old))

  -- Fewer tokens may come than before.
  abbrev pub Shorter : {X : Type 0} → Parser I → Parser I → Result X Failure → Type 0
  Shorter old new result = Falls result (to_come new) (to_come old)

  -- No more tokens may come than before.
  abbrev pub NotLonger : {X : Type 0} → Parser I → Parser I → Result X Failure → Type 0
  NotLonger old new result = Stays result (to_come new) (to_come old)
