-- What a function of the parser answers beside what the reading function answers.
use Rattle.std.specs.Prelude.{◌≡◌, ℕ, ◌<◌, ◌≤◌, Bool, true, false, Result, Ok, Err}
use Rattle.grammar_spec.specs.Reader.Source.{Fault, Unexpected, TooDeep, Step, go_on, finished}
use Rattle.parse_state.specs.declared.failure.Failure.{Failure}
use Rattle.parse_state.specs.declared.failure.Failure.TheVariants as failure

-- Where reading fails, so does the code, and why, with as many tokens left as may come where that is found; of want of memory nothing is said.
abbrev pub Fails : {Y : Type 0} → Failure → ℕ → Result Y Fault → Type 0
Fails failure.Memory left read = Unit {0}
Fails failure.TooDeep left read = read ≡ Err (TooDeep left)
Fails (failure.Syntax e) left read = read ≡ Err (Unexpected left)

-- What the code answered, seen by `view`, is what is read; where it fails, so many tokens may come.
abbrev pub Gives : {X Y : Type 0} → (X → Y) → ℕ → Result X Failure → Result Y Fault → Type 0
Gives view left (Ok x) read = read ≡ Ok (view x)
Gives view left (Err e) read = Fails e left read

-- an answer that the text has nothing to do with
abbrev pub IsMemory : Failure → Type 0
IsMemory failure.Memory = Unit {0}
IsMemory failure.TooDeep = ⊥
IsMemory (failure.Syntax e) = ⊥

-- a fault of the text
abbrev pub IsSyntax : Failure → Type 0
IsSyntax failure.Memory = ⊥
IsSyntax failure.TooDeep = ⊥
IsSyntax (failure.Syntax e) = Unit {0}

-- What is told of a number where the code fails: of want of memory nothing, of any other failure the number itself.
abbrev pub told : Failure → ℕ → ℕ
told failure.Memory n = 0
told failure.TooDeep n = n
told (failure.Syntax e) n = n

-- Less may come than before; where the code fails but for want of memory, no more.
abbrev pub Falls : {X : Type 0} → Result X Failure → ℕ → ℕ → Type 0
Falls (Ok x) new old = new < old
Falls (Err e) new old = told e new ≤ old

-- No more may come than before, also where the code fails but for want of memory.
abbrev pub Stays : {X : Type 0} → Result X Failure → ℕ → ℕ → Type 0
Stays (Ok x) new old = new ≤ old
Stays (Err e) new old = told e new ≤ old

-- a step's answer: whether to go on, and what was made so far
abbrev pub going_on : {A : Type 0} → Bool → A → Step A
going_on true x = go_on x
going_on false x = finished x
