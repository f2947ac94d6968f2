-- Tokens that a lexer hands out stand in the order of their places: the statements of the law.
use Rattle.std.specs.Prelude.{◌≡◌, ◌≢◌, ◌≤◌, ◌<◌, ℕ, List, [], ◌∷◌, Option, None, Some}
use Rattle.base_token.specs.Kinds.{error_kind, template_kind}
use Rattle.base_token.specs.Tokens.{Spot}
use Rattle.base_token.specs.declared.context.Context.{Context}
use Rattle.lex_pieces.specs.Places.{bytes}
use Rattle.grammar_spec.specs.Tokens.Input.{PlacedToken}
use Rattle.grammar_laws.specs.CompleteBase.Laws.{InOrder}
use Rattle.lex_step_laws.specs.States.{Last, Slash, State, Text, place}
use Rattle.ecma_lexer.specs.Machine.{lexer_machine}
use Rattle.parse_state.specs.Cursors.{Cursor, read_on, told_of, stream_of}
use Rattle.parse_source_laws.specs.Sources.{HandsOut}

-- The slash that came last is in the text.
abbrev pub SlashFits : Last → ℕ → Type 0
SlashFits (Slash from) end = bytes from ≤ end
SlashFits last end = Unit {0}

-- What is left of the text takes no more bytes than the place at which it ends; and no slash is to be read again.
pub record Fits (s : State) : Type 0 where
  pub left : bytes s.tokens.left ≤ s.tokens.end
  pub slash : SlashFits s.tokens.last s.tokens.end
  pub unasked : s.settings.next_regexp ≡ None

-- A token lies between two places. Characters of a template may be none, and so is what is a fault where these don't end.
pub record Lies (from : ℕ) (t : Spot) (to : ℕ) : Type 0 where
  pub begins : from ≤ t.lo
  pub ends : t.hi ≡ to
  pub rises : t.lo ≤ t.hi
  pub some : t.token.kind ≢ template_kind → t.token.kind ≢ error_kind → t.lo < t.hi

-- A parser stands in front of a lexer: the token that comes lies between where the last one ended and what is left of the text.
abbrev pub InFrontOf : ℕ → Option Spot → Option State → Type 0
InFrontOf last None behind = Unit {0}
InFrontOf last (Some t) behind = (s : State) × (behind ≡ Some s) × Fits s × Lies last t (place s.tokens.end s.tokens.left)

abbrev pub InFront : Cursor Text → Type 0
InFront q = InFrontOf q.last q.first q.behind

-- No fault has no character: the text doesn't end among the characters of a template.
abbrev pub FaultsHaveCharacters : List PlacedToken → Type 0
FaultsHaveCharacters [] = Unit {0}
FaultsHaveCharacters (p ∷ ps) = (p.spot.token.kind ≡ error_kind → p.spot.lo < p.spot.hi) × FaultsHaveCharacters ps

-- Such tokens are handed out in the order of their places.
abbrev pub LexerHandsInOrder : Type 0
LexerHandsInOrder = (q : Cursor Text) → InFront q → (ps : List PlacedToken) → HandsOut (stream_of lexer_machine) ps q → FaultsHaveCharacters ps → InOrder q.last ps

-- A parser that reads the first token of a lexer stands in front of it, whatever code the lexer was told.
abbrev pub FirstInFront : Type 0
FirstInFront = (x : Context) (s : State) (last : ℕ) → Fits s → last ≤ place s.tokens.end s.tokens.left → InFront (read_on (lexer_machine.step (told_of x s)) last)
