-- Comments that are written stand where they may: the statement.
use Rattle.std.specs.Prelude.{◌≡◌, ℕ, Bool, true, false, ◌==◌, List, [], ◌∷◌, ◌++◌, map}
use Rattle.std.specs.List.{list_any}
use Rattle.base_token.specs.Kinds.{end_kind, div_kind}
use Rattle.lex_pieces.specs.Characters.{is_white_space, is_line_terminator}
use Rattle.lex_pieces.specs.Classes.{is_line_char}
use Rattle.lex_pieces.specs.Comments.{NoEnd}
use Rattle.lex_pieces.specs.Runs.{Each}
use Rattle.print_weave_laws.specs.Gaps.{Trivium, gap_before, breaks_line, ends_line, notes}
use Rattle.print_weave_laws.specs.Cells.{Cell, text_of, is_inner, is_no_slash, AllMayStand, at_front, woven}
use Rattle.print_notes.specs.Slots.{LaidToken, Remark, Looks}
use Rattle.print_notes.specs.Safe.{is_tied, touch}
use Rattle.print_notes.specs.Woven as spec
use Rattle.print_notes_laws.specs.Trivia.{line_text, note_of, all_notes}

-- ---- what is asked

-- What ends a line is CR LF or LF, and a step of the indentation is white space.
pub record IsLook (crlf : Bool) (l : Looks) : Type 0 where
  pub line_end : l.line_end ≡ line_text crlf
  pub step : Each is_white_space l.step

-- The token is this one, with what stands before it, which has no comments.
pub record IsToken (t : LaidToken) (x : Cell) : Type 0 where
  pub before : t.before ≡ gap_before x.before []
  pub own : t.own ≡ x.own
  pub closed : t.closed ≡ is_inner x.goal
  pub breaks : t.breaks ≡ breaks_line x.before
  pub indent : Each is_white_space t.indent
  pub bare : notes x.before ≡ []

-- A comment may begin behind a token of this kind and text, but for `/`.
abbrev pub IsOpen : ℕ → List ℕ → Type 0
IsOpen behind own = (behind == div_kind) ≡ false → is_no_slash own ≡ true

-- So is each, behind one of this kind and text.
abbrev pub AreTokens : ℕ → List ℕ → List LaidToken → List Cell → Type 0
AreTokens behind own [] [] = IsOpen behind own
AreTokens behind own [] (x ∷ xs) = ⊥
AreTokens behind own (t ∷ ts) [] = ⊥
AreTokens behind own (t ∷ ts) (x ∷ xs) = IsToken t x × (t.closed ≡ false → IsOpen behind own) × AreTokens t.kind x.own ts xs

-- The text of a comment has no end of it, and a block says whether a line ends in it (12.4).
pub record IsRemark (r : Remark) : Type 0 where
  pub line : r.is_line ≡ true → Each is_line_char r.text
  pub block : r.is_line ≡ false → NoEnd r.text
  pub breaks : r.is_line ≡ false → r.breaks ≡ list_any is_line_terminator r.text

abbrev pub AreRemarks : List Remark → Type 0
AreRemarks [] = Unit {0}
AreRemarks (r ∷ rs) = IsRemark r × AreRemarks rs

-- A line ends behind a hashbang.
abbrev pub LeadEnds : List ℕ → List Cell → List Trivium → Type 0
LeadEnds [] xs tail = Unit {0}
LeadEnds (c ∷ cs) [] tail = ends_line true tail ≡ true
LeadEnds (c ∷ cs) (x ∷ xs) tail = ends_line false x.before ≡ true

-- ---- what holds

-- Between tokens where no line may end one ends as it did, but before the first, where one may begin; what touches touches.
pub record IsKept (behind : ℕ) (t : LaidToken) (x : Cell) (us : List Trivium) : Type 0 where
  pub line : (behind == end_kind) ≡ false → is_tied behind t.kind ≡ true → breaks_line us ≡ breaks_line x.before
  pub start : breaks_line us ≡ false → breaks_line x.before ≡ false
  pub touches : touch behind t.kind ≡ true → us ≡ x.before

abbrev pub AreKept : ℕ → List LaidToken → List Cell → List (List Trivium) → Type 0
AreKept behind (t ∷ ts) (x ∷ xs) (us ∷ gaps) = IsKept behind t x us × AreKept t.kind ts xs gaps
AreKept behind ts xs gaps = Unit {0}

-- What is written is the tokens with other trivia between them, which may stand there, and its comments are these.
pub record IsNoted (l : Looks) (lead : List ℕ) (ts : List LaidToken) (xs : List Cell) (tail : List Trivium) (rs : List Remark) : Type 0 where
  pub gaps : List (List Trivium)
  pub over : List Trivium
  pub text : spec.woven l lead ts (gap_before tail []) rs ≡ lead ++ text_of (woven xs gaps) over
  pub stand : AllMayStand at_front xs gaps tail over
  pub kept : AreKept (spec.kind_of_lead lead) ts xs gaps
  pub lead_ends : LeadEnds lead (woven xs gaps) over
  pub notes_are : all_notes gaps over ≡ map note_of rs

abbrev pub NotesStand : Type 0
NotesStand = (crlf : Bool) (l : Looks) (lead : List ℕ) (ts : List LaidToken) (xs : List Cell) (tail : List Trivium) (rs : List Remark)
    → IsLook crlf l → AreTokens (spec.kind_of_lead lead) at_front ts xs → notes tail ≡ [] → LeadEnds lead xs tail → AreRemarks rs → IsNoted l lead ts xs tail rs
