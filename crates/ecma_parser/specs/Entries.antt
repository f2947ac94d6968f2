-- A parser as a user holds it.
use Rattle.std.specs.Prelude.{◌≡◌, ℕ, true, List, [], Option, None, Some, Result, IfOk, if◌then◌else◌}
use Rattle.base_token.specs.declared.context.Context.{Context}
use Rattle.base_token.specs.declared.error.Error.{Error}
use Rattle.base_token.specs.declared.syntax.EsSyntax.{EsSyntax}
use Rattle.base_token.specs.Dialect.{parts_of}
use Rattle.lex_source.specs.Machine as tokens
use Rattle.lex_source.specs.Machine.{Source}
use Rattle.lex_other_sources.specs.Rewinding.{back_in}
use Rattle.lex_other_sources.specs.declared.rewinding.Rewinding.{Rewinding}
use Rattle.grammar_spec.specs.Reader.Source.{State}
use Rattle.parse_state.specs.Cursors.{Cursor, read_on, told_of}
use Rattle.parse_state.specs.States.{state_of}
use Rattle.parse_state.specs.declared.parser.Parser.{Parser}
use Rattle.ecma_parser.specs.declared.entries.Entries.{Entries}

-- the source of tokens, which stands behind the token that comes where one was read
abbrev pub source_in : {I S : Type 0} → (I → Source S) → Entries (Parser (Rewinding I)) → Source S
source_in state e = state e.reading.input.input

-- the optional parts of the language that are on
abbrev pub syntax_in : {I S : Type 0} → (I → Source S) → Entries (Parser (Rewinding I)) → EsSyntax
syntax_in state e = parts_of (state e.reading.input.input).settings.syntax

-- the code around the next token
abbrev pub ctx_in : {I S : Type 0} → (I → Source S) → Entries (Parser (Rewinding I)) → Context
ctx_in state e = (state e.reading.input.input).settings.ctx

-- how deep a tree may nest
abbrev pub limit_in : {P : Type 0} → Entries P → ℕ
limit_in e = e.limit

-- the faults that were recorded, in order
abbrev pub faults_in : {P : Type 0} → Entries P → List Error
faults_in e = e.faults.items

-- An entry leaves the source told the code that it was told before, and the limit as it was; where it answers, the first token was read.
abbrev pub Keeps : {X E I S : Type 0} → (I → Source S) → Result X E → Entries (Parser (Rewinding I)) → Entries (Parser (Rewinding I)) → Type 0
Keeps state result old new = (ctx_in state new ≡ ctx_in state old) × (limit_in new ≡ limit_in old) × IfOk result (λ x. new.started ≡ true)

-- in front of the first token of a source
abbrev pub first_of : {S : Type 0} → tokens.Machine S → Source S → State (Cursor S)
first_of m s = record { source = read_on (m.step s) s.settings.start; commas = [] }

-- where a parser stands: in front of the token that comes
abbrev pub stood : {I S : Type 0} → (I → Source S) → Entries (Parser (Rewinding I)) → State (Cursor S)
stood state e = state_of (λ r. state r.input) e.reading

-- the token that was read ahead waits, and the source behind it is told this code
abbrev pub waiting : {I S : Type 0} → (I → Source S) → Context → Entries (Parser (Rewinding I)) → State (Cursor S)
waiting state ctx e = record { source = record { first = e.reading.ahead; behind = Some (told_of ctx (source_in state e)); last = e.reading.last.0 }; commas = [] }

-- in front of the next token of a source that is told this code, behind one that ended there
abbrev pub ahead_of : {S : Type 0} → tokens.Machine S → Context → ℕ → Source S → State (Cursor S)
ahead_of m ctx last s = record { source = read_on (m.step (told_of ctx s)) last; commas = [] }

-- in front of the token that waits; or, where there is a source that stands before it, of what that hands out in this code
abbrev pub opened_by : {S : Type 0} → tokens.Machine S → Context → ℕ → Option (Source S) → State (Cursor S) → State (Cursor S)
opened_by m ctx last None waits = waits
opened_by m ctx last (Some s) waits = ahead_of m ctx last s

-- Where an entry begins to read in this code: in front of the first token; or of the token that was read ahead, which is read again where the code
-- turns module or strict, or is that no more, and an entry for a part read it.
abbrev pub opened : {I S : Type 0} → tokens.Machine S → (I → Source S) → Context → Entries (Parser (Rewinding I)) → State (Cursor S)
opened m state ctx e =
    if e.started then opened_by m ctx e.reading.last.0 (back_in m state ctx e.reading.input) (waiting state ctx e)
    else first_of m (told_of ctx (source_in state e))
