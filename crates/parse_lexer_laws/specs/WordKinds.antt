-- Words that a source of tokens hands out are of their kinds: the statements of the law.
use Rattle.std.specs.Prelude.{◌≡◌, Bool, true, List, [], ◌∷◌, codes, Option, None, Some}
use Rattle.base_token.specs.Kinds.{async_kind}
use Rattle.base_token.specs.Tokens.{Spot}
use Rattle.base_token.specs.Words.{kind_of}
use Rattle.lex_source.specs.Machine.{Source, Machine}
use Rattle.grammar_spec.specs.Tokens.Input.{PlacedToken, is_word, text_in}
use Rattle.lex_step_laws.specs.States.{State}
use Rattle.ecma_lexer.specs.Machine.{lexer_machine}
use Rattle.parse_state.specs.Cursors.{Cursor, stream_of}
use Rattle.parse_source_laws.specs.Sources.{HandsOut}
use Rattle.parse_lexer_laws.specs.Constant.{Constant, Before}

-- A token that is a word is of the kind of its text (12.7).
abbrev pub IsOfKind : Spot → Type 0
IsOfKind t = is_word t.token.kind ≡ true → t.token.kind ≡ kind_of (text_in t.token.content)

abbrev pub ComesOfKind : Option Spot → Type 0
ComesOfKind None = Unit {0}
ComesOfKind (Some t) = IsOfKind t

abbrev pub AreOfKinds : List PlacedToken → Type 0
AreOfKinds [] = Unit {0}
AreOfKinds (p ∷ ps) = IsOfKind p.spot × AreOfKinds ps

module _ {S : Type 0} (m : Machine S) (Good : Source S → Type 0) (Same : Source S → Source S → Type 0) where
  -- Each token of a good source is so.
  abbrev pub TellsKinds : Type 0
  TellsKinds = (s : Source S) → Good s → ComesOfKind (m.step s).0

  -- So are all that it hands out to a parser, where the one that comes is.
  abbrev pub HandsKinds : Type 0
  HandsKinds = (modules : Bool) → Constant m Good Same modules → TellsKinds → (q : Cursor S) → Before Good q → ComesOfKind q.first → (ps : List PlacedToken) → HandsOut (stream_of m) ps q → AreOfKinds ps

-- Each token of a lexer is so, whatever was read and told before.
abbrev pub LexerTellsKinds : Type 0
LexerTellsKinds = (s : State) → ComesOfKind (lexer_machine.step s).0

-- Such a token that is the word `async` by its kind has that text.
abbrev pub AsyncTold : Type 0
AsyncTold = (t : Spot) → IsOfKind t → t.token.kind ≡ async_kind → text_in t.token.content ≡ codes "async"
