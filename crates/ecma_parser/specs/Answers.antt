-- What an entry answers beside what is read.
use Rattle.std.specs.Prelude.{◌≡◌, ◌≢◌, ℕ, ◌≤◌, ◌++◌, List, Result, Ok, Err}
use Rattle.base_token.specs.declared.error.Error.{Error}
use Rattle.base_token.specs.declared.error.SyntaxError.{SyntaxError}
use Rattle.base_token.specs.declared.error.SyntaxError.TheVariants as kinds
use Rattle.base_token.specs.declared.syntax.EsSyntax.{EsSyntax}
use Rattle.tree_spec.specs.Tree.{Tree}
use Rattle.grammar_spec.specs.Judge.Early.{early_errors}
use Rattle.grammar_spec.specs.Tokens.Input.{lo}
use Rattle.grammar_spec.specs.Reader.Source.{Fault, Unexpected, TooDeep, Stream, State, bound, input}
use Rattle.parse_state.specs.declared.failure.Failure.{Failure}
use Rattle.parse_state.specs.Answers.{Fails}

-- An entry answers a fault of this kind, where so many tokens may come: too deep where reading is, another kind where nothing is read, and there that is found.
-- Of want of memory nothing is said.
pub record Refuses (k : SyntaxError) (left : ℕ) (read : Result Tree Fault) : Type 0 where
  pub deep : k ≡ kinds.TooDeep → read ≡ Err (TooDeep left)
  pub fault : k ≢ kinds.Memory → k ≢ kinds.TooDeep → read ≡ Err (Unexpected left)

-- the kind of fault that a failure is told as, whatever is read
abbrev pub Tells : Failure → SyntaxError → Type 0
Tells e k = (left : ℕ) (read : Result Tree Fault) → Fails e left read → Refuses k left read

-- An entry answers the tree that is read, and its early errors come behind the faults that were recorded; or it answers why nothing is read,
-- where as many tokens may come as are left, and records none.
abbrev pub ReadsProgram : {X : Type 0} → (X → Tree) → EsSyntax → ℕ → Result X Failure → Result Tree Fault → List Error → List Error → Type 0
ReadsProgram view syntax left (Ok x) read old new = (read ≡ Ok (view x)) × (new ≡ old ++ early_errors syntax (view x))
ReadsProgram view syntax left (Err e) read old new = Fails e left read × (new ≡ old)

-- The same of an entry that tells a fault.
abbrev pub Parses : {X : Type 0} → (X → Tree) → EsSyntax → ℕ → Result X Error → Result Tree Fault → List Error → List Error → Type 0
Parses view syntax left (Ok x) read old new = (read ≡ Ok (view x)) × (new ≡ old ++ early_errors syntax (view x))
Parses view syntax left (Err e) read old new = Refuses e.kind left read × (new ≡ old)

-- After a fault that is not want of memory the tokens that were read stay read: no more may come than from where the entry began to read, and the parser
-- stands no further back than where the fault begins.
abbrev pub StayRead : {X S : Type 0} → Stream S → Result X Error → State S → State S → Type 0
StayRead m (Ok x) began stands = Unit {0}
StayRead m (Err e) began stands = e.kind ≢ kinds.Memory → (bound m stands ≤ bound m began) × (e.span.lo.0 ≤ lo (input m stands))
