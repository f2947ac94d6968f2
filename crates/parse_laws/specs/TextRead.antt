-- What a parser reads of a text through a lexer, by the trees that read the text: the statements of the law.
use Rattle.std.specs.Prelude.{ℕ, ◌+◌, Bool, List, Result}
use Rattle.base_token.specs.declared.syntax.EsSyntax.{EsSyntax}
use Rattle.base_token.specs.declared.syntax.Syntax.{Syntax}
use Rattle.base_token.specs.declared.version.EsVersion.TheVariants.{EsNext}
use Rattle.base_token.specs.Dialect.{parts_of}
use Rattle.lex_pieces.specs.Places.{bytes}
use Rattle.tree_spec.specs.Tree.{Tree}
use Rattle.grammar_spec.specs.Reader.Source.{Fault}
use Rattle.lex_step_laws.specs.States.{State, at_start_of}
use Rattle.parse_lexer_laws.specs.Machine.{lexer_machine}
use Rattle.parse_state.specs.Cursors.{read_on, told_of, stream_of}
use Rattle.grammar_text_spec.specs.Text.{Reads, code_of, text_start}
use Rattle.ecma_parser.specs.Passed.{program_within}
use Rattle.ecma_parser.specs.Entries.{first_of}
use Rattle.parse_lexer_laws.specs.Handed.{AtStart}
use Rattle.parse_laws.specs.Exact.{read_within}
use Rattle.parse_laws.specs.Judged.{Each, JudgedBy, Judged}

module _ (modules : Bool) (syntax : EsSyntax) (text : List ℕ) where
  -- Of every tree that reads the text, of whatever nesting, something holds.
  abbrev pub EachReads : (Tree → Type 0) → Type 0
  EachReads P = Each (λ t. Reads modules syntax t text) P

  -- What is read is the only tree that reads the text, within the limit; a token is unexpected where no tree reads the text; and reading is too deep where each that does nests deeper.
  abbrev pub TextBy : ℕ → Result Tree Fault → Type 0
  TextBy limit x = JudgedBy (λ t. Reads modules syntax t text) limit x

  -- A reading is settled by the text.
  abbrev pub TextSettled : ℕ → Result Tree Fault → Type 0
  TextSettled limit x = Judged (λ t. Reads modules syntax t text) limit x

-- What a parser reads through a lexer that stands at the start of a text, from its first token on, is settled by the text: a script, or a module.
abbrev pub TextsSettled : Type 0
TextsSettled = (limit : ℕ) (modules : Bool) (syntax : EsSyntax) (text : List ℕ) (s : State) → AtStart text_start modules text s
    → TextSettled modules syntax text limit (read_within (stream_of lexer_machine) limit modules syntax (read_on (lexer_machine.step s) text_start))

-- What reading a text comes to, as a script or a module and within a limit of nesting, by its characters alone: its tree; or that it nests too deep, or that a token
-- is unexpected, with how many tokens may come at most where that is found.
unfoldable pub read_text : Bool → Syntax → ℕ → List ℕ → Result Tree Fault
read_text modules syntax limit text = let code = code_of modules (parts_of syntax) in
    program_within (stream_of lexer_machine) limit modules code (first_of lexer_machine (told_of code.context (at_start_of syntax EsNext text_start text (text_start + bytes text))))

-- That is settled by the text.
abbrev pub ReadingSettled : Type 0
ReadingSettled = (limit : ℕ) (modules : Bool) (syntax : Syntax) (text : List ℕ) → TextSettled modules (parts_of syntax) text limit (read_text modules syntax limit text)
