-- How the comments of a gap are written, and what a reader finds there again: the comments, and how many line ends stand before each and behind the last.
use Rattle.std.specs.Prelude.{ℕ, zero, suc, ◌+◌, Bool, true, false, not, ◌&&◌, ◌||◌, nat_lt, min, max, if◌then◌else◌, List, [], ◌∷◌, ◌++◌}
use Rattle.std.specs.List.{list_any}
use Rattle.lex_pieces.specs.Characters.{is_line_terminator}
use Rattle.lex_pieces.specs.Classes.{is_line_char}
use Rattle.lex_pieces.specs.Comments.{NoEnd}
use Rattle.lex_pieces.specs.Runs.{Each}
use Rattle.lex_pieces.specs.declared.trivia.LineMark.TheVariants.{Slashes}
use Rattle.print_weave_laws.specs.Gaps.{Trivium, White, Feed, Return, Block, Line, Note, BlockNote, LineNote}

-- a comment, and the line ends before it
pub record Placed : Type 0 where
  pub lines : ℕ
  pub note : Note

-- the comments of a gap, and the line ends behind the last
pub record Noted : Type 0 where
  pub placed : List Placed
  pub behind : ℕ

-- ---- what is written

abbrev pub spaces : ℕ → List Trivium
spaces zero = []
spaces (suc n) = White 32 ∷ spaces n

abbrev pub feeds : ℕ → List Trivium
feeds zero = []
feeds (suc n) = Feed 10 ∷ feeds n

-- a blank, or line ends and the indentation of the next line
abbrev pub between : ℕ → ℕ → List Trivium
between zero depth = White 32 ∷ []
between (suc n) depth = Feed 10 ∷ (feeds n ++ spaces depth)

abbrev pub trivium : Note → Trivium
trivium (BlockNote own) = Block own
trivium (LineNote own) = Line Slashes own

-- the comments indented by one depth, and what follows them by another
abbrev pub written_by : ℕ → ℕ → List Placed → ℕ → List Trivium
written_by depth outer [] behind = between behind outer
written_by depth outer (p ∷ ps) behind = between p.lines depth ++ trivium p.note ∷ written_by depth outer ps behind

abbrev pub written : ℕ → ℕ → Noted → List Trivium
written depth outer n = written_by depth outer n.placed n.behind

-- ---- what is found

abbrev pub before_all : ℕ → Note → Noted → Noted
before_all n note m = record { placed = record { lines = n; note = note } ∷ m.placed; behind = m.behind }

abbrev pub told : ℕ → List Trivium → Noted
told n [] = record { placed = []; behind = n }
told n (White c ∷ us) = told n us
told n (Feed c ∷ us) = told (n + 1) us
told n (Return ∷ us) = told (n + 1) us
told n (Block own ∷ us) = before_all n (BlockNote own) (told 0 us)
told n (Line mark own ∷ us) = before_all n (LineNote own) (told 0 us)

-- ---- how many line ends are kept of a source: up to a greatest number, and one at least behind a comment of one line

abbrev pub is_line : Note → Bool
is_line (BlockNote own) = false
is_line (LineNote own) = true

abbrev pub kept_lines : ℕ → Bool → ℕ → ℕ
kept_lines most line n = if line then max 1 (min most n) else min most n

abbrev pub tidied_by : ℕ → Bool → List Placed → ℕ → Noted
tidied_by most line [] behind = record { placed = []; behind = kept_lines most line behind }
tidied_by most line (p ∷ ps) behind = before_all (kept_lines most line p.lines) p.note (tidied_by most (is_line p.note) ps behind)

abbrev pub tidied : ℕ → Noted → Noted
tidied most n = tidied_by most false n.placed n.behind

-- In a gap in which the layout ends a line one ends: before the comments or behind them, where the source has none.
abbrev pub some_line : List Placed → ℕ → Bool
some_line [] behind = nat_lt 0 behind
some_line (p ∷ ps) behind = nat_lt 0 p.lines || some_line ps behind

abbrev pub first_line : List Placed → List Placed
first_line [] = []
first_line (p ∷ ps) = record { lines = 1; note = p.note } ∷ ps

abbrev pub lined_by : Bool → Bool → Noted → Noted
lined_by true leads n = n
lined_by false true n = record { placed = first_line n.placed; behind = n.behind }
lined_by false false n = record { placed = n.placed; behind = 1 }

abbrev pub lined : Bool → Noted → Noted
lined leads n = lined_by (some_line n.placed n.behind) leads n

-- ---- what may be written

-- the text of a comment: no `*/` in a block, and no line terminator in one of one line (12.4)
abbrev pub IsNote : Note → Type 0
IsNote (BlockNote own) = NoEnd own
IsNote (LineNote own) = Each is_line_char own

abbrev pub AreNotes : List Placed → Type 0
AreNotes [] = Unit {0}
AreNotes (p ∷ ps) = IsNote p.note × AreNotes ps

-- A line ends behind each comment of one line. `line`: one stands before these.
abbrev pub lines_end : Bool → List Placed → ℕ → Bool
lines_end line [] behind = not line || nat_lt 0 behind
lines_end line (p ∷ ps) behind = (not line || nat_lt 0 p.lines) && lines_end (is_line p.note) ps behind

-- whether a line ends in the gap, also within a block
abbrev pub note_breaks : Note → Bool
note_breaks (BlockNote own) = list_any is_line_terminator own
note_breaks (LineNote own) = false

abbrev pub some_break : List Placed → ℕ → Bool
some_break [] behind = nat_lt 0 behind
some_break (p ∷ ps) behind = nat_lt 0 p.lines || (note_breaks p.note || some_break ps behind)
