-- Each call of a writer leaves a page of text where its piece is text.
use Rattle.std.proofs.Common.{ℕ, zero, suc, Bool, true, false, if◌then◌else◌, ◌==◌, List, [], ◌∷◌, ◌++◌, length, Option, None, Some, codes, IsUtf8, refl, subst}
use Rattle.std.proofs.lemmas.Str.{IsUtf8-append, IsUtf8-nil}
use Rattle.base_token.specs.declared.place.BytePos.{BytePos}
use Rattle.base_token.specs.declared.place.Span.{Span}
use Rattle.print_writers.specs.Pages.{Page, times, indented, with_text, marked, begun, ended, put, end_line, put_line, put_mark, deeper, shallower}
use Rattle.print_writers.specs.States.{State, commit, text, line, increase, decrease, semi, punct, mark, is_brace, span_or_none}
use Rattle.print_pages_spec.specs.Pieces.{Piece, Text, Brace, Blank, Line, Deeper, Back, Semicolon, Commit, Mark, call, calls}
use Rattle.print_pages_spec.specs.Utf8.{IsUtf8Page, IsUtf8Piece, AreUtf8Pieces, TextStays}
use Rattle.print_pages_spec.proofs.Resolving.{calls_resolve, calls_shorten}

-- the fixed texts
semicolon_text : IsUtf8 (codes ";")
unfolding lib.Utf8.encode
semicolon_text = (codes ";", (refl, refl))

brace_text : IsUtf8 (codes "}")
unfolding lib.Utf8.encode
brace_text = (codes "}", (refl, refl))

blank_text : IsUtf8 (codes " ")
unfolding lib.Utf8.encode
blank_text = (codes " ", (refl, refl))

-- ---- pages

either : (b : Bool) (q r : Page) → IsUtf8Page q → IsUtf8Page r → IsUtf8Page (if b then q else r)
either true q r x y = x
either false q r x y = y

pub times_text : (n : ℕ) (xs : List ℕ) → IsUtf8 xs → IsUtf8 (times n xs)
times_text zero xs u = IsUtf8-nil
times_text (suc n) xs u = IsUtf8-append xs (times n xs) u (times_text n xs u)

more_text : (p : Page) (bytes : List ℕ) → IsUtf8 bytes → IsUtf8Page p → IsUtf8 (p.out ++ bytes)
more_text p bytes u h = IsUtf8-append p.out bytes h.0 u

indented_text : (p : Page) → IsUtf8Page p → IsUtf8Page (indented p)
unfolding indented
indented_text p h = either p.at_start _ _ (more_text p (times p.depth p.indent) (times_text p.depth p.indent h.2) h, h.1, h.2) h

begun_text : (span : Option Span) (p : Page) → IsUtf8Page p → IsUtf8Page (begun span p)
unfolding marked
begun_text None p h = h
begun_text (Some span) p h = h

ended_text : (span : Option Span) (p : Page) → IsUtf8Page p → IsUtf8Page (ended span p)
unfolding marked
ended_text None p h = h
ended_text (Some span) p h = h

with_text_text : (bytes : List ℕ) (p : Page) → IsUtf8 bytes → IsUtf8Page p → IsUtf8Page (with_text bytes p)
unfolding with_text
with_text_text bytes p u h = (more_text p bytes u h, h.1, h.2)

put_text : (span : Option Span) (bytes : List ℕ) (p : Page) → IsUtf8 bytes → IsUtf8Page p → IsUtf8Page (put span bytes p)
unfolding put
put_text span bytes p u h = either (length bytes == 0) _ _ h (ended_text span _ (with_text_text bytes _ u (begun_text span _ (indented_text p h))))

line_text : (p : Page) → IsUtf8Page p → IsUtf8Page (put_line p)
unfolding put_line end_line
line_text p h = either p.at_start _ _ h (more_text p p.line_end h.1 h, h.1, h.2)

mark_text : (pos : BytePos) (p : Page) → IsUtf8Page p → IsUtf8Page (put_mark pos p)
unfolding put_mark marked
mark_text pos p h = either (pos.0 == 0) _ _ h (either p.at_start _ _ h h)

deeper_text : (p : Page) → IsUtf8Page p → IsUtf8Page (deeper p)
unfolding deeper
deeper_text p h = h

shallower_text : (p : Page) → IsUtf8Page p → IsUtf8Page (shallower p)
unfolding shallower
shallower_text p h = h

-- ---- calls

commit_text : (s : State) → IsUtf8Page s.page → IsUtf8Page (commit s).page
unfolding commit
commit_text s h = elim s.held as (λ (o : Option Span). IsUtf8Page (elim o [ None ↦ s.page | Some span ↦ put (Some span) (codes ";") s.page ])) [
  | None ↦ h
  | Some span ↦ put_text (Some span) (codes ";") s.page semicolon_text h
]

text_text : (span : Option Span) (bytes : List ℕ) (s : State) → IsUtf8 bytes → IsUtf8Page s.page → IsUtf8Page (text span bytes s).page
unfolding text
text_text span bytes s u h = put_text span bytes (commit s).page u (commit_text s h)

semi_text : (span : Option Span) (s : State) → IsUtf8Page s.page → IsUtf8Page (semi span s).page
unfolding semi
semi_text span s h = elim s.holds as (λ (b : Bool). IsUtf8Page (if b then record (commit s) { held = Some (span_or_none span) } else text span (codes ";") s).page) [
  | true ↦ commit_text s h
  | false ↦ text_text span (codes ";") s semicolon_text h
]

punct_text : (span : Option Span) (bytes : List ℕ) (s : State) → IsUtf8 bytes → IsUtf8Page s.page → IsUtf8Page (punct span bytes s).page
unfolding punct
punct_text span bytes s u h = elim (is_brace bytes) as (λ (b : Bool). IsUtf8Page (text span bytes (if b then record s { held = None } else s)).page) [
  | true ↦ text_text span bytes (record s { held = None }) u h
  | false ↦ text_text span bytes s u h
]

pub call_text : (x : Piece) (s : State) → IsUtf8Piece x → IsUtf8Page s.page → IsUtf8Page (call x s).page
unfolding line increase decrease mark
call_text (Text span bytes) s u h = text_text span bytes s u h
call_text (Brace span) s u h = punct_text span (codes "}") s brace_text h
call_text Blank s u h = text_text None (codes " ") s blank_text h
call_text Line s u h = line_text (commit s).page (commit_text s h)
call_text Deeper s u h = deeper_text (commit s).page (commit_text s h)
call_text Back s u h = shallower_text (commit s).page (commit_text s h)
call_text (Semicolon span) s u h = semi_text span s h
call_text Commit s u h = commit_text s h
call_text (Mark pos) s u h = mark_text pos s.page h

calls_text : (xs : List Piece) (s : State) → AreUtf8Pieces xs → IsUtf8Page s.page → IsUtf8Page (calls xs s).page
calls_text [] s u h = h
calls_text (x ∷ xs) s u h = calls_text xs (call x s) u.1 (call_text x s u.0 h)

pub text_stays : TextStays
text_stays xs p u h = (
  subst IsUtf8Page (calls_resolve xs p) (calls_text xs (record { page = p; held = None; holds = false }) u h),
  subst IsUtf8Page (calls_shorten xs p) (calls_text xs (record { page = p; held = None; holds = true }) u h),
)
