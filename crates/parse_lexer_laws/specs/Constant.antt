-- What is asked of a source of tokens, so that a parser's stream over it is orderly, and that what is read of a list is read of it.
use Rattle.std.specs.Prelude.{◌≡◌, ◌<◌, ◌≤◌, ℕ, Bool, List, Option, None, Some, Ok}
use Rattle.base_token.specs.declared.context.Context.{Context}
use Rattle.base_token.specs.declared.syntax.EsSyntax.{EsSyntax}
use Rattle.base_token.specs.Tokens.{Spot}
use Rattle.lex_source.specs.Machine.{Source, Machine}
use Rattle.tree_spec.specs.Tree.{Tree}
use Rattle.grammar_spec.specs.Tokens.Input.{PlacedToken}
use Rattle.grammar_spec.specs.Reader.Reading.{read_program, read_list}
use Rattle.parse_state.specs.Cursors.{Cursor, asked, told_of, stream_of}
use Rattle.parse_source_laws.specs.Sources.{HandsOut, Orderly}

-- A bound falls where a token was handed out, and never rises.
abbrev pub Falls : Option Spot → ℕ → ℕ → Type 0
Falls None old new = new ≤ old
Falls (Some t) old new = new < old

-- Some sources are good: those of a script's tokens, or of a module's. Some are the same, but for what changes no token.
pub record Constant {S : Type 0} (m : Machine S) (Good : Source S → Type 0) (Same : Source S → Source S → Type 0) (modules : Bool) : Type 0 where
  pub falls : (s : Source S) → Good s → Falls (m.step s).0 (m.bound s.tokens) (m.bound (m.step s).1.tokens)
  -- a good source stays good
  pub good_step : (s : Source S) → Good s → Good (m.step s).1
  pub good_asked : (place : Option ℕ) (s : Source S) → Good s → Good (asked place s)
  pub good_told : (x : Context) (s : Source S) → x.module_ ≡ modules → Good s → Good (told_of x s)
  -- the same sources hand out the same token, and stay the same
  pub same_first : (s t : Source S) → Same s t → (m.step s).0 ≡ (m.step t).0
  pub same_step : (s t : Source S) → Same s t → Same (m.step s).1 (m.step t).1
  pub same_asked : (place : Option ℕ) (s t : Source S) → Same s t → Same (asked place s) (asked place t)
  pub same_back : (s t : Source S) → Same s t → Same t s
  -- the code around changes no token
  pub same_told : (x : Context) (s : Source S) → x.module_ ≡ modules → Good s → Same s (told_of x s)

-- a parser stands before a good source, and at no start
abbrev pub Before : {S : Type 0} → (Source S → Type 0) → Cursor S → Type 0
Before {S} Good q = (s : Source S) × (q.behind ≡ Some s) × Good s

module _ {S : Type 0} (m : Machine S) (Good : Source S → Type 0) (Same : Source S → Source S → Type 0) where
  -- The stream over such a source is orderly.
  abbrev pub ParserOrderly : Type 0
  ParserOrderly = (modules : Bool) → Constant m Good Same modules → Orderly (stream_of m) (Before Good) modules

  -- So what tree is read of a list is read of such a source that hands out the list's tokens, as a script or a module, by calls so deep.
  abbrev pub TokensRead : Type 0
  TokensRead = (modules : Bool) → Constant m Good Same modules → (depth : ℕ) (syntax : EsSyntax) (q : Cursor S) (ps : List PlacedToken) (t : Tree)
      → Before Good q → HandsOut (stream_of m) ps q → read_list depth modules syntax q.last ps ≡ Ok t → read_program (stream_of m) depth modules syntax q ≡ Ok t
