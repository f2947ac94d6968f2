-- What a writer has written, and what it does next: the bytes, the indentation, whether a line starts, and the marks.
use Rattle.std.specs.Prelude.{◌≡◌, ℕ, zero, suc, ◌+◌, ◌-◌, ◌*◌, Bool, true, false, if◌then◌else◌, ◌==◌, nat_lt, ◌||◌, List, [], ◌∷◌, ◌++◌, length, Option, Some, None, option_map, option_and_then, IsSome}
use Rattle.std.specs.List.{list_any}
use Rattle.std.specs.Str.{chars}
use Rattle.base_token.specs.declared.place.BytePos.{BytePos}
use Rattle.base_token.specs.declared.place.LineCol.{LineCol}
use Rattle.base_token.specs.declared.place.Span.{Span}
use Rattle.print_writers.specs.Lines.{units, further, next_line, after_text}

-- The marks: pairs of a position in the source and a place in what is written.
pub record Marks : Type 0 where
  -- the place reached, or none once a line or a column is past the last
  pub reached : Option LineCol
  -- the pairs, in the order in which they were recorded
  pub pairs : List (BytePos × LineCol)
  -- those of them that were recorded since the place was reached
  pub here : List (BytePos × LineCol)
  -- the position that waits for the first text of the line
  pub waits : Option BytePos

pub record Page : Type 0 where
  -- the bytes written
  pub out : List ℕ
  -- how many levels the next line is indented
  pub depth : ℕ
  -- whether nothing stands in this line yet
  pub at_start : Bool
  -- where positions are kept, the marks
  pub marks : Option Marks
  -- what ends a line, and what one level of indentation is
  pub line_end : List ℕ
  pub indent : List ℕ

-- the deepest indentation
abbrev pub last_depth : ℕ
last_depth = 0xFFFF_FFFF

-- xs so many times
abbrev pub times : ℕ → List ℕ → List ℕ
times zero xs = []
times (suc n) xs = xs ++ times n xs

-- One more pair. A dummy makes none, and a position is recorded once at a place.
abbrev pub is_here : BytePos → List (BytePos × LineCol) → Bool
is_here pos here = list_any (λ pair. pair.0.0 == pos.0) here

unfoldable pub record_pair : BytePos → LineCol → Marks → Marks
record_pair pos place m =
    if pos.0 == 0 || is_here pos m.here then m
    else record m { pairs = m.pairs ++ (pos, place) ∷ []; here = m.here ++ (pos, place) ∷ [] }

abbrev pub record_here : BytePos → Marks → Marks
record_here pos m = elim m.reached [ None ↦ m | Some place ↦ record_pair pos place m ]

-- the marks with this position waiting
abbrev pub waiting_for : Option BytePos → Marks → Marks
waiting_for pos m = record m { waits = pos }

-- the marks after the place moves on
unfoldable pub moved : (LineCol → Option LineCol) → Marks → Marks
moved to m = record m { reached = option_and_then to m.reached; here = [] }

-- the marks once a line has its first text: the one that waits is recorded behind the indentation
unfoldable pub settled : Marks → Marks
settled m = elim m.waits [ None ↦ m | Some pos ↦ record_here pos (waiting_for None m) ]

-- The first text of a line follows the indentation.
unfoldable pub indented : Page → Page
indented p =
    if p.at_start then record p {
      out = p.out ++ times p.depth p.indent;
      at_start = false;
      marks = option_map (λ m. settled (moved (further (p.depth * units (chars p.indent))) m)) p.marks;
    } else p

-- more bytes, which are a text
unfoldable pub with_text : List ℕ → Page → Page
with_text bytes p = record p { out = p.out ++ bytes; marks = option_map (moved (λ place. after_text place (chars bytes))) p.marks }

-- a mark at the place reached, now
unfoldable pub marked : BytePos → Page → Page
marked pos p = record p { marks = option_map (record_here pos) p.marks }

-- where the text of this span begins, and where it ends
abbrev pub begun : Option Span → Page → Page
begun None p = p
begun (Some span) p = marked span.lo p

abbrev pub ended : Option Span → Page → Page
ended None p = p
ended (Some span) p = marked span.hi p

-- a text with its marks, before it and behind it; an empty one writes and marks nothing
abbrev pub put_some : Option Span → List ℕ → Page → Page
put_some span bytes p = ended span (with_text bytes (begun span (indented p)))

unfoldable pub put : Option Span → List ℕ → Page → Page
put span bytes p = if length bytes == 0 then p else put_some span bytes p

-- a text without indentation; whether a line starts stays
unfoldable pub put_preamble : List ℕ → Page → Page
put_preamble bytes p = if length bytes == 0 then p else with_text bytes p

-- the end of the line
unfoldable pub end_line : Page → Page
end_line p = record p { out = p.out ++ p.line_end; at_start = true; marks = option_map (moved next_line) p.marks }

-- A line, which is nothing where one starts. The mark that waits is dropped.
unfoldable pub put_line : Page → Page
put_line p =
    let q = record p { marks = option_map (waiting_for None) p.marks } in
    if p.at_start then q else end_line q

-- A mark at the place reached. At the start of a line it waits for the next text, in place of one that waits.
unfoldable pub put_mark : BytePos → Page → Page
put_mark pos p =
    if pos.0 == 0 then p
    else (if p.at_start then record p { marks = option_map (waiting_for (Some pos)) p.marks } else marked pos p)

-- The indentation stays between 0 and the deepest.
unfoldable pub deeper : Page → Page
deeper p = record p { depth = if nat_lt p.depth last_depth then p.depth + 1 else p.depth }

unfoldable pub shallower : Page → Page
shallower p = record p { depth = p.depth - 1 }

-- xs is a beginning of ys
abbrev pub IsFront : {A : Type 0} → List A → List A → Type 0
IsFront {A} xs ys = (rest : List A) × (ys ≡ xs ++ rest)

-- What is left where a call stopped on its way from `before` to `done`: a beginning of the bytes that it was to leave.
pub record IsLeft (before after done : Page) : Type 0 where
  pub kept : IsFront before.out after.out
  pub beginning : IsFront after.out done.out

-- a line or a column past the last was reached
abbrev pub IsPast : Page → Type 0
IsPast p = (m : Marks) × (p.marks ≡ Some m) × (m.reached ≡ None)

-- the bytes, where they are known
abbrev pub told : Option (List ℕ) → List ℕ
told None = []
told (Some bytes) = bytes

-- a writer that tells its bytes got these, or a beginning of them
abbrev pub Gets : Option (List ℕ) → Option (List ℕ) → List ℕ → Type 0
Gets old new bytes = IsSome old → IsSome new × (told new ≡ told old ++ bytes)

abbrev pub GetsFront : Option (List ℕ) → Option (List ℕ) → List ℕ → Type 0
GetsFront old new bytes = IsSome old → IsSome new × IsFront (told old) (told new) × IsFront (told new) (told old ++ bytes)
