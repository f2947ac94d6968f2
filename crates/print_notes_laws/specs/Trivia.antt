-- What is written in a gap, as white space, ends of lines and comments (ECMA-262, 12.2 to 12.4).
use Rattle.std.specs.Prelude.{ℕ, zero, suc, ◌+◌, Bool, true, false, if◌then◌else◌, List, [], ◌∷◌, ◌++◌, take, drop}
use Rattle.lex_pieces.specs.declared.trivia.LineMark.TheVariants.{Slashes}
use Rattle.print_weave_laws.specs.Gaps.{Trivium, White, Feed, Return, Block, Line, Note, BlockNote, LineNote, notes}
use Rattle.print_weave_laws.specs.Cells.{Cell}
use Rattle.print_notes.specs.Slots.{LaidToken, Remark, Looks}
use Rattle.print_notes.specs.Safe.{fitting}
use Rattle.print_notes.specs.Spacing.{Place, place_before, place_at_end, next_line, Form, form_of, Space, Tight, Blank, Lines, first_space, next_space, last_space}
use Rattle.print_notes.specs.Woven.{is_parted}

-- what ends a line: CR LF, or LF
abbrev pub line_text : Bool → List ℕ
line_text true = 13 ∷ 10 ∷ []
line_text false = 10 ∷ []

abbrev pub line_trivium : Bool → Trivium
line_trivium true = Return
line_trivium false = Feed 10

abbrev pub ends : Bool → ℕ → List Trivium
ends crlf zero = []
ends crlf (suc n) = line_trivium crlf ∷ ends crlf n

abbrev pub whites : List ℕ → List Trivium
whites [] = []
whites (c ∷ cs) = White c ∷ whites cs

abbrev pub indentation : Looks → List ℕ → Bool → List ℕ
indentation l indent deeper = indent ++ (if deeper then l.step else [])

abbrev pub space_trivia : Bool → Looks → List ℕ → Space → List Trivium
space_trivia crlf l indent Tight = []
space_trivia crlf l indent Blank = White 32 ∷ []
space_trivia crlf l indent (Lines n deeper) = ends crlf n ++ whites (indentation l indent deeper)

-- ---- comments

abbrev pub trivium_of : Bool → List ℕ → Trivium
trivium_of true own = Line Slashes own
trivium_of false own = Block own

abbrev pub note_by : Bool → List ℕ → Note
note_by true own = LineNote own
note_by false own = BlockNote own

abbrev pub note_of : Remark → Note
note_of r = note_by r.is_line r.text

-- behind a comment of a gap
abbrev pub behind_trivia : Bool → Looks → Place → Form → Remark → List Remark → List Trivium
behind_trivia crlf l p f q [] = space_trivia crlf l p.indent (last_space l p f q)
behind_trivia crlf l p f q (r ∷ rs) = space_trivia crlf l p.indent (next_space l p f q r) ++ (trivium_of r.is_line r.text ∷ behind_trivia crlf l p f r rs)

-- a gap with comments, of which this is the first
abbrev pub noted_trivia : Bool → Looks → Place → Form → Remark → List Remark → List Trivium
noted_trivia crlf l p f r rs = space_trivia crlf l p.indent (first_space l p f r) ++ (trivium_of r.is_line r.text ∷ behind_trivia crlf l p f r rs)

-- ---- all gaps

-- before a token, where these stand in the layout
abbrev pub gap_trivia : Bool → Looks → Place → LaidToken → List Trivium → List Remark → List Trivium
gap_trivia crlf l p t us [] = if is_parted l p t then space_trivia crlf l p.indent (Lines 2 false) else us
gap_trivia crlf l p t us (r ∷ rs) = noted_trivia crlf l p (form_of p (r ∷ rs)) r rs

abbrev pub end_trivia : Bool → Looks → Place → List Trivium → List Remark → List Trivium
end_trivia crlf l p us [] = us
end_trivia crlf l p us (r ∷ rs) = noted_trivia crlf l p (form_of p (r ∷ rs)) r rs

-- before each of the tokens, and behind the last
abbrev pub gaps_of : Bool → Looks → List ℕ → ℕ → ℕ → List LaidToken → List Cell → List Remark → List (List Trivium)
gaps_of crlf l line behind gap [] xs rs = []
gaps_of crlf l line behind gap (t ∷ ts) [] rs = []
gaps_of crlf l line behind gap (t ∷ ts) (x ∷ xs) rs =
    gap_trivia crlf l (place_before behind line t) t x.before (take (fitting gap behind t rs) rs)
    ∷ gaps_of crlf l (next_line line t) t.kind (gap + 1) ts xs (drop (fitting gap behind t rs) rs)

abbrev pub over_of : Bool → Looks → ℕ → ℕ → List LaidToken → List Trivium → List Remark → List Trivium
over_of crlf l behind gap [] tail rs = end_trivia crlf l (place_at_end behind) tail rs
over_of crlf l behind gap (t ∷ ts) tail rs = over_of crlf l t.kind (gap + 1) ts tail (drop (fitting gap behind t rs) rs)

abbrev pub all_notes : List (List Trivium) → List Trivium → List Note
all_notes [] over = notes over
all_notes (us ∷ gaps) over = notes us ++ all_notes gaps over
