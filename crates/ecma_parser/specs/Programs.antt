-- What the entries for programs read.
use Rattle.std.specs.Prelude.{true, false, Result}
use Rattle.lex_source.specs.Machine as tokens
use Rattle.lex_source.specs.Machine.{Source}
use Rattle.lex_other_sources.specs.declared.rewinding.Rewinding.{Rewinding}
use Rattle.tree_spec.specs.Tree.{Tree}
use Rattle.grammar_spec.specs.Tokens.Input.{script_code, module_code}
use Rattle.grammar_spec.specs.Reader.Source.{Fault, State}
use Rattle.parse_state.specs.Cursors.{Cursor, stream_of}
use Rattle.parse_state.specs.declared.parser.Parser.{Parser}
use Rattle.parse_alone.specs.Within.{program_within}
use Rattle.ecma_parser.specs.declared.entries.Entries.{Entries}
use Rattle.ecma_parser.specs.Entries.{limit_in, opened, syntax_in}

-- Where an entry begins to read in a script's code, and in a module's.
abbrev pub script_start : {I S : Type 0} → tokens.Machine S → (I → Source S) → Entries (Parser (Rewinding I)) → State (Cursor S)
script_start m state e = opened m state (script_code (syntax_in state e)).context e

abbrev pub module_start : {I S : Type 0} → tokens.Machine S → (I → Source S) → Entries (Parser (Rewinding I)) → State (Cursor S)
module_start m state e = opened m state (module_code (syntax_in state e)).context e

-- The script, and the module, that is read from there within a parser's limit.
abbrev pub script_read : {I S : Type 0} → tokens.Machine S → (I → Source S) → Entries (Parser (Rewinding I)) → Result Tree Fault
script_read m state e = program_within (stream_of m) (limit_in e) false (script_code (syntax_in state e)) (script_start m state e)

abbrev pub module_read : {I S : Type 0} → tokens.Machine S → (I → Source S) → Entries (Parser (Rewinding I)) → Result Tree Fault
module_read m state e = program_within (stream_of m) (limit_in e) true (module_code (syntax_in state e)) (module_start m state e)
