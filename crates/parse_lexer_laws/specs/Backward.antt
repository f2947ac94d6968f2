-- What is read of a parser's stream over a source of tokens is read of a list of its tokens: the statements of the law.
use Rattle.std.specs.Prelude.{◌≡◌, ℕ, Bool, List, Ok}
use Rattle.base_token.specs.declared.syntax.EsSyntax.{EsSyntax}
use Rattle.lex_source.specs.Machine.{Source, Machine}
use Rattle.tree_spec.specs.Tree.{Tree}
use Rattle.grammar_spec.specs.Tokens.Input.{PlacedToken}
use Rattle.grammar_spec.specs.Reader.Reading.{read_program, read_list}
use Rattle.parse_state.specs.Cursors.{Cursor, stream_of}
use Rattle.parse_source_laws.specs.Sources.{HandsOut}
use Rattle.parse_source_laws.specs.Consumed.{Backward}
use Rattle.parse_lexer_laws.specs.Constant.{Constant, Before}

module _ {S : Type 0} (m : Machine S) (Good : Source S → Type 0) (Same : Source S → Source S → Type 0) where
  -- The stream over a source whose tokens the code around doesn't change is orderly backward too.
  abbrev pub ParserBackward : Type 0
  ParserBackward = (modules : Bool) → Constant m Good Same modules → Backward (stream_of m) (Before Good) modules

  -- So what tree is read of such a source, as a script or a module, is read of a list of tokens that it hands out, by calls so deep.
  abbrev pub TokensConsumed : Type 0
  TokensConsumed = (modules : Bool) → Constant m Good Same modules → (depth : ℕ) (syntax : EsSyntax) (q : Cursor S) (t : Tree)
      → Before Good q → read_program (stream_of m) depth modules syntax q ≡ Ok t
      → (ps : List PlacedToken) × HandsOut (stream_of m) ps q × (read_list depth modules syntax q.last ps ≡ Ok t)
