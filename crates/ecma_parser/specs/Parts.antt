-- What the entries for parts of programs answer.
use Rattle.std.specs.Prelude.{◌≡◌, ◌++◌, ℕ, List, Result, Ok, Err}
use Rattle.base_token.specs.declared.context.Context.{Context}
use Rattle.base_token.specs.declared.error.Error.{Error}
use Rattle.lex_source.specs.Machine as tokens
use Rattle.lex_source.specs.Machine.{Source}
use Rattle.lex_other_sources.specs.declared.rewinding.Rewinding.{Rewinding}
use Rattle.tree_spec.specs.Tree.{Tree}
use Rattle.grammar_spec.specs.Tokens.Input.{Code, script_code, module_code}
use Rattle.grammar_spec.specs.Reader.Source.{Fault, ◌>>=◌, Stream, State, Read, bound, retold}
use Rattle.parse_state.specs.Answers.{Fails}
use Rattle.parse_state.specs.Cursors.{Cursor}
use Rattle.parse_state.specs.declared.failure.Failure.{Failure}
use Rattle.parse_state.specs.declared.parser.Parser.{Parser}
use Rattle.ecma_parser.specs.declared.entries.Entries.{Entries}
use Rattle.ecma_parser.specs.Answers.{Refuses}
use Rattle.ecma_parser.specs.Entries.{limit_in, opened, syntax_in}

-- What is read where a parser stands, within its limit: in a script's code, and in a module's.
abbrev pub script_part : {I S : Type 0} → tokens.Machine S → (I → Source S) → (ℕ → Code → Read (Cursor S) Tree) → Entries (Parser (Rewinding I)) → Result (Tree × State (Cursor S)) Fault
script_part m state read e = read (limit_in e) (script_code (syntax_in state e)) (opened m state (script_code (syntax_in state e)).context e)

abbrev pub module_part : {I S : Type 0} → tokens.Machine S → (I → Source S) → (ℕ → Code → Read (Cursor S) Tree) → Entries (Parser (Rewinding I)) → Result (Tree × State (Cursor S)) Fault
module_part m state read e = read (limit_in e) (module_code (syntax_in state e)) (opened m state (module_code (syntax_in state e)).context e)

-- the tree alone
unfoldable pub tree_read : {S : Type 0} → Result (Tree × S) Fault → Result Tree Fault
tree_read r = r >>= λ x. Ok x.0

-- What is read is the tree that is answered, the parser stands behind it, and its early errors come behind the faults that were recorded; or the answer
-- is why nothing is read, the parser stands where that is found, and none is recorded.
abbrev pub ReadsPart : {X S : Type 0} → Stream S → (X → Tree) → (Tree → List Error) → Result X Failure → Result (Tree × State S) Fault → State S → List Error → List Error → Type 0
ReadsPart m view faults (Ok x) read stood old new = (read ≡ Ok (view x, stood)) × (new ≡ old ++ faults (view x))
ReadsPart m view faults (Err e) read stood old new = Fails e (bound m stood) (tree_read read) × (new ≡ old)

-- what is read, and then the source is told this code
unfoldable pub left_in : {S : Type 0} → Stream S → Context → Result (Tree × State S) Fault → Result (Tree × State S) Fault
left_in m ctx r = r >>= λ x. Ok (x.0, retold m ctx x.1)

-- The same of an entry, which tells a fault, and leaves the source told the code that it was told before.
abbrev pub ParsesPart : {X S : Type 0} → Stream S → Context → (X → Tree) → (Tree → List Error) → Result X Error → Result (Tree × State S) Fault → State S → List Error → List Error → Type 0
ParsesPart m ctx view faults (Ok x) read stood old new = (left_in m ctx read ≡ Ok (view x, stood)) × (new ≡ old ++ faults (view x))
ParsesPart m ctx view faults (Err e) read stood old new = Refuses e.kind (bound m stood) (tree_read read) × (new ≡ old)
