-- The pieces of a text, and what they are resolved to: bytes and marks.
use Rattle.std.specs.Prelude.{ℕ, List, [], ◌∷◌, Option, Some, None, codes}
use Rattle.base_token.specs.declared.place.BytePos.{BytePos}
use Rattle.base_token.specs.declared.place.Span.{Span}
use Rattle.print_writers.specs.Pages.{Page, put, put_line, put_mark, deeper, shallower}
use Rattle.print_writers.specs.States.{State, span_or_none, text, punct, line, increase, decrease, semi, commit, mark}

pub data Piece : Type 0 where
  -- a text, with its place in the source where it has one; a semicolon that must stand is one
  Text : Option Span → List ℕ → Piece
  -- the punctuator `}`
  Brace : Option Span → Piece
  Blank : Piece
  Line : Piece
  -- one level deeper, and one back
  Deeper : Piece
  Back : Piece
  -- a semicolon that may go
  Semicolon : Option Span → Piece
  -- a semicolon that waits is written here
  Commit : Piece
  -- a mark of a position
  Mark : BytePos → Piece

-- the end of a semicolon
abbrev pub semicolon : Span → Page → Page
semicolon span p = put (Some span) (codes ";") p

-- What pieces are resolved to where no semicolon goes: each stands where it is.
abbrev pub resolved : List Piece → Page → Page
resolved [] p = p
resolved (Text span bytes ∷ xs) p = resolved xs (put span bytes p)
resolved (Brace span ∷ xs) p = resolved xs (put span (codes "}") p)
resolved (Blank ∷ xs) p = resolved xs (put None (codes " ") p)
resolved (Line ∷ xs) p = resolved xs (put_line p)
resolved (Deeper ∷ xs) p = resolved xs (deeper p)
resolved (Back ∷ xs) p = resolved xs (shallower p)
resolved (Semicolon span ∷ xs) p = resolved xs (put span (codes ";") p)
resolved (Commit ∷ xs) p = resolved xs p
resolved (Mark pos ∷ xs) p = resolved xs (put_mark pos p)

-- What they are resolved to where a semicolon goes before `}`, with no line between. What follows a semicolon
-- says what becomes of it. A mark says nothing, and stands at the place reached, the semicolon not counted;
-- before `}` it goes; at the end of the pieces it still waits; before anything else it is written.
abbrev mutual
  pub shortened : List Piece → Page → Page
  shortened [] p = p
  shortened (Text span bytes ∷ xs) p = shortened xs (put span bytes p)
  shortened (Brace span ∷ xs) p = shortened xs (put span (codes "}") p)
  shortened (Blank ∷ xs) p = shortened xs (put None (codes " ") p)
  shortened (Line ∷ xs) p = shortened xs (put_line p)
  shortened (Deeper ∷ xs) p = shortened xs (deeper p)
  shortened (Back ∷ xs) p = shortened xs (shallower p)
  shortened (Semicolon span ∷ xs) p = behind (span_or_none span) xs p
  shortened (Commit ∷ xs) p = shortened xs p
  shortened (Mark pos ∷ xs) p = shortened xs (put_mark pos p)

  -- the pieces behind a semicolon with this span, which isn't written yet
  pub behind : Span → List Piece → Page → Page
  behind own [] p = p
  behind own (Text span bytes ∷ xs) p = shortened xs (put span bytes (semicolon own p))
  behind own (Brace span ∷ xs) p = shortened xs (put span (codes "}") p)
  behind own (Blank ∷ xs) p = shortened xs (put None (codes " ") (semicolon own p))
  behind own (Line ∷ xs) p = shortened xs (put_line (semicolon own p))
  behind own (Deeper ∷ xs) p = shortened xs (deeper (semicolon own p))
  behind own (Back ∷ xs) p = shortened xs (shallower (semicolon own p))
  behind own (Semicolon span ∷ xs) p = behind (span_or_none span) xs (semicolon own p)
  behind own (Commit ∷ xs) p = shortened xs (semicolon own p)
  behind own (Mark pos ∷ xs) p = behind own xs (put_mark pos p)

-- the call of a writer that a piece is
abbrev pub call : Piece → State → State
call (Text span bytes) s = text span bytes s
call (Brace span) s = punct span (codes "}") s
call Blank s = text None (codes " ") s
call Line s = line s
call Deeper s = increase s
call Back s = decrease s
call (Semicolon span) s = semi span s
call Commit s = commit s
call (Mark pos) s = mark pos s

-- the calls, one after another
abbrev pub calls : List Piece → State → State
calls [] s = s
calls (x ∷ xs) s = calls xs (call x s)
