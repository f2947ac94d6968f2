-- Tokens that tile a text are those that a lexer at its start hands out to a parser: the statements of the law.
use Rattle.std.specs.Prelude.{◌≡◌, ◌+◌, ℕ, Bool, List, [], ◌∷◌, None}
use Rattle.base_token.specs.declared.context.Context.{Context}
use Rattle.base_token.specs.declared.syntax.EsSyntax.{EsSyntax}
use Rattle.base_token.specs.declared.syntax.Syntax.{Syntax}
use Rattle.base_token.specs.declared.version.EsVersion.{EsVersion}
use Rattle.lex_pieces.specs.Places.{bytes}
use Rattle.tree_spec.specs.Tree.{Tree}
use Rattle.grammar_spec.specs.Tokens.Input.{PlacedToken}
use Rattle.grammar_laws.specs.Slash.TemplateLaws.{Outside, over}
use Rattle.lex_step_laws.specs.States.{Start, State, at_start_of}
use Rattle.ecma_lexer.specs.Machine.{lexer_machine}
use Rattle.parse_state.specs.Cursors.{place_of, read_on, told_of, stream_of}
use Rattle.parse_source_laws.specs.Sources.{HandsOut}
use Rattle.grammar_text_spec.specs.Text.{Reads, text_start}
use Rattle.grammar_text_spec.specs.Tiled.{Tile}

-- the tokens as a parser sees them
abbrev pub handed : List PlacedToken → List PlacedToken
handed [] = []
handed (p ∷ ps) = place_of p.spot ∷ handed ps

-- A lexer stands at the start of a text, whose characters begin at a place: of a script, or of a module.
pub record AtStart (start : ℕ) (modules : Bool) (text : List ℕ) (s : State) : Type 0 where
  pub left : s.tokens.left ≡ text
  pub end : s.tokens.end ≡ start + bytes text
  pub last : s.tokens.last ≡ Start
  pub contexts : s.settings.contexts ≡ []
  pub next_regexp : s.settings.next_regexp ≡ None
  pub goal : s.settings.ctx.module_ ≡ modules

-- So does a new lexer that was told the code.
abbrev pub NewAtStart : Type 0
NewAtStart = (syntax : Syntax) (target : EsVersion) (start : ℕ) (modules : Bool) (text : List ℕ) (x : Context) → x.module_ ≡ modules
    → AtStart start modules text (told_of x (at_start_of syntax target start text (start + bytes text)))

-- Tokens that tile the text, among which each brace and each template has its partner, are handed out: from the first one on, as a parser takes them.
abbrev pub TilesHanded : Type 0
TilesHanded = (start : ℕ) (modules : Bool) (text : List ℕ) (ps : List PlacedToken) (s : State) (last : ℕ) → AtStart start modules text s → Tile start modules text ps → over (Outside []) ps ≡ Outside []
    → HandsOut (stream_of lexer_machine) (handed ps) (read_on (lexer_machine.step s) last)

-- So the tokens by which a tree reads a text are handed out.
abbrev pub ReadHanded : Type 0
ReadHanded = (modules : Bool) (syntax : EsSyntax) (t : Tree) (text : List ℕ) (h : Reads modules syntax t text) (s : State) (last : ℕ) → AtStart text_start modules text s
    → HandsOut (stream_of lexer_machine) (handed h.0) (read_on (lexer_machine.step s) last)
