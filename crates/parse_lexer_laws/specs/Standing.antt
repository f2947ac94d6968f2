-- The lexer as a source of tokens that reads a slash again in its place.
use Rattle.std.specs.Prelude.{◌≡◌, ℕ, Bool, true, List, Option, None, Some, Ok}
use Rattle.base_token.specs.declared.context.Context.{Context}
use Rattle.base_token.specs.declared.syntax.EsSyntax.{EsSyntax}
use Rattle.base_token.specs.Tokens.{Spot}
use Rattle.lex_literal.specs.Escapes.{begins}
use Rattle.lex_token.specs.Sorts as lexeme
use Rattle.tree_spec.specs.Tree.{Tree}
use Rattle.grammar_spec.specs.Tokens.Input.{PlacedToken}
use Rattle.grammar_spec.specs.Reader.Reading.{read_program, read_list}
use Rattle.lex_step_laws.specs.States.{Slash, State, Text, place}
use Rattle.ecma_lexer.specs.Machine.{lexer_machine}
use Rattle.parse_state.specs.Cursors.{Cursor, asked, told_of, in_place, stream_of}
use Rattle.parse_source_laws.specs.Sources.{is_slash, HandsOut}
use Rattle.parse_lexer_laws.specs.Lexed.{OfGoal}
use Rattle.parse_lexer_laws.specs.Constant.{Before}

-- Where a slash was the last token, the lexer knows the text from it on.
abbrev pub LastToken : Option Spot → State → Type 0
LastToken None s = Unit {0}
LastToken (Some t) s = is_slash t.token.kind ≡ true
    → (from : List ℕ) × (s.tokens.last ≡ Slash from) × (begins lexeme.is_slash from ≡ true) × (t.lo ≡ place s.tokens.end from) × (t.line_break ≡ s.tokens.line_break)

-- The token that a lexer handed out last is known behind it, and a slash that was is read again in its place: what then comes is a regular expression there, or a fault.
pub record LexerRereads : Type 0 where
  -- what a step hands out is the last token behind it, and stays it whatever the lexer is told
  pub last_step : (s : State) → LastToken (lexer_machine.step s).0 (lexer_machine.step s).1
  pub last_asked : (place : Option ℕ) (f : Option Spot) (s : State) → LastToken f s → LastToken f (asked place s)
  pub last_told : (x : Context) (f : Option Spot) (s : State) → LastToken f s → LastToken f (told_of x s)
  pub reread : (t p : Spot) (s : State) → LastToken (Some t) s → is_slash t.token.kind ≡ true → (lexer_machine.step (asked (Some t.lo) s)).0 ≡ Some p → in_place t (Some p) ≡ true

-- What tree is read of the lexer, as a script or a module, is read of a list of tokens that the lexer hands out, by calls so deep.
abbrev pub LexerConsumed : Type 0
LexerConsumed = (modules : Bool) (depth : ℕ) (syntax : EsSyntax) (q : Cursor Text) (t : Tree) → Before (OfGoal modules) q
    → read_program (stream_of lexer_machine) depth modules syntax q ≡ Ok t
    → (ps : List PlacedToken) × HandsOut (stream_of lexer_machine) ps q × (read_list depth modules syntax q.last ps ≡ Ok t)
