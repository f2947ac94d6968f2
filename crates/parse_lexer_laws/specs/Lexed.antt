-- The lexer as a source of tokens whose code around changes none.
use Rattle.std.specs.Prelude.{◌≡◌, ℕ, Bool, List, Ok}
use Rattle.base_token.specs.declared.syntax.EsSyntax.{EsSyntax}
use Rattle.tree_spec.specs.Tree.{Tree}
use Rattle.grammar_spec.specs.Tokens.Input.{PlacedToken}
use Rattle.grammar_spec.specs.Reader.Reading.{read_program, read_list}
use Rattle.lex_step_laws.specs.States.{State, Text}
use Rattle.ecma_lexer.specs.Machine.{lexer_machine}
use Rattle.parse_state.specs.Cursors.{Cursor, stream_of}
use Rattle.parse_source_laws.specs.Sources.{HandsOut}
use Rattle.parse_lexer_laws.specs.Constant.{Constant, Before}

-- the text of a script, or of a module
abbrev pub OfGoal : Bool → State → Type 0
OfGoal modules s = s.settings.ctx.module_ ≡ modules

-- The text is read from the same place on, among the same contexts, under the same goal. Whether its code is strict, and the like, may differ.
abbrev pub SameText : State → State → Type 0
SameText s t = (s.tokens ≡ t.tokens) × (s.settings.contexts ≡ t.settings.contexts) × (s.settings.next_regexp ≡ t.settings.next_regexp) × (s.settings.ctx.module_ ≡ t.settings.ctx.module_)

abbrev pub LexerConstant : Type 0
LexerConstant = (modules : Bool) → Constant lexer_machine (OfGoal modules) SameText modules

-- The lexer hands out the tokens of a list. What tree is read of the list is read of the lexer, as a script or a module, by calls so deep.
abbrev pub LexerRead : Type 0
LexerRead = (modules : Bool) (depth : ℕ) (syntax : EsSyntax) (q : Cursor Text) (ps : List PlacedToken) (t : Tree) → Before (OfGoal modules) q → HandsOut (stream_of lexer_machine) ps q
    → read_list depth modules syntax q.last ps ≡ Ok t → read_program (stream_of lexer_machine) depth modules syntax q ≡ Ok t
