-- What pieces do to the marks of a page, by the pen alone.
use Rattle.std.proofs.Common.{◌≡◌, ℕ, ◌*◌, ⊎_elim, true, false, List, [], ◌∷◌, length, Option, Some, None, refl, ap, ◌∙◌, arith}
use Rattle.std.specs.Prelude.{if◌then◌else◌, ◌==◌, codes, option_map}
use Rattle.std.specs.Str.{chars}
use Rattle.std.proofs.lemmas.Bool.{cases_Bool}
use Rattle.std.proofs.lemmas.Bool.Decides.{nat_tests}
use Rattle.base_token.specs.declared.place.BytePos.{BytePos}
use Rattle.base_token.specs.declared.place.Span.{Span}
use Rattle.print_writers.specs.Lines.{further, next_line, units, after_text as after_characters}
use Rattle.print_writers.specs.Pages.{Page, Marks, record_here, waiting_for, moved, settled, indented, with_text, marked, begun, ended, put, end_line, put_line, put_mark, deeper, shallower}
use Rattle.print_pages_spec.specs.Pieces.{Piece, Text, Brace, Blank, Line, Deeper, Back, Semicolon, Commit, Mark, resolved}
use Rattle.print_layout_spec.specs.Looks.{texts_before}
use Rattle.again_laws.proofs.tiling.BetweenTexts.{after_texts}
use Rattle.again_laws.proofs.tiling.Pen.{Pen, pen, next, after_text, step, step_moves, by_step}

-- before the first text of a line, behind the indentation
abbrev pub led : Pen → Marks → Marks
led q m = if q.at_start then settled (moved (further (q.depth * units (chars q.indent))) m) else m

abbrev pub opened : Option Span → Marks → Marks
opened None m = m
opened (Some span) m = record_here span.lo m

abbrev pub closed : Option Span → Marks → Marks
closed None m = m
closed (Some span) m = record_here span.hi m

abbrev pub past : List ℕ → Marks → Marks
past bytes m = moved (λ place. after_characters place (chars bytes)) m

abbrev pub noted_text : Option Span → List ℕ → Pen → Marks → Marks
noted_text span [] q m = m
noted_text span (c ∷ cs) q m = closed span (past (c ∷ cs) (opened span (led q m)))

abbrev pub noted_line : Pen → Marks → Marks
noted_line q m = if q.at_start then waiting_for None m else moved next_line (waiting_for None m)

abbrev pub noted_mark : BytePos → Pen → Marks → Marks
noted_mark pos q m = if pos.0 == 0 then m else (if q.at_start then waiting_for (Some pos) m else record_here pos m)

-- what a piece does, and pieces one after another
abbrev pub noted : Piece → Pen → Marks → Marks
noted (Text span bytes) q m = noted_text span bytes q m
noted (Brace span) q m = noted_text span (codes "}") q m
noted Blank q m = noted_text None (codes " ") q m
noted Line q m = noted_line q m
noted Deeper q m = m
noted Back q m = m
noted (Semicolon span) q m = noted_text span (codes ";") q m
noted Commit q m = m
noted (Mark pos) q m = noted_mark pos q m

abbrev pub notes : List Piece → Pen → Marks → Marks
notes [] q m = m
notes (x ∷ xs) q m = notes xs (next x q) (noted x q m)

-- texts one after another
abbrev pub noted_texts : List (List ℕ) → Pen → Marks → Marks
noted_texts [] q m = m
noted_texts (own ∷ others) q m = noted_texts others (after_text own q) (noted_text None own q m)

pub notes_texts : (texts : List (List ℕ)) (ys : List Piece) (q : Pen) (m : Marks) → notes (texts_before texts ys) q m ≡ notes ys (after_texts texts q) (noted_texts texts q m)
notes_texts [] ys q m = refl
notes_texts (own ∷ others) ys q m = notes_texts others ys (after_text own q) (noted_text None own q m)

-- ---- on a page

module _ (m : Marks) where
  led_made : (p : Page) → p.marks ≡ Some m → (indented p).marks ≡ Some (led (pen p) m)
  unfolding indented
  led_made p h = ⊎_elim
      (λ (e : p.at_start ≡ true). rw e (ap (option_map (λ m. settled (moved (further (p.depth * units (chars p.indent))) m))) h))
      (λ (e : p.at_start ≡ false). rw e h)
      (cases_Bool p.at_start)

  opened_made : (span : Option Span) (p : Page) → p.marks ≡ Some m → (begun span p).marks ≡ Some (opened span m)
  unfolding marked
  opened_made None p h = h
  opened_made (Some span) p h = ap (option_map (record_here span.lo)) h

  closed_made : (span : Option Span) (p : Page) → p.marks ≡ Some m → (ended span p).marks ≡ Some (closed span m)
  unfolding marked
  closed_made None p h = h
  closed_made (Some span) p h = ap (option_map (record_here span.hi)) h

  past_made : (bytes : List ℕ) (p : Page) → p.marks ≡ Some m → (with_text bytes p).marks ≡ Some (past bytes m)
  unfolding with_text
  past_made bytes p h = ap (option_map (moved (λ place. after_characters place (chars bytes)))) h

  line_made : (p : Page) → p.marks ≡ Some m → (put_line p).marks ≡ Some (noted_line (pen p) m)
  unfolding put_line end_line
  line_made p h =
      let w = ap (option_map (waiting_for None)) h in ⊎_elim
      (λ (e : p.at_start ≡ true). rw e w)
      (λ (e : p.at_start ≡ false). rw e (ap (option_map (moved next_line)) w))
      (cases_Bool p.at_start)

  mark_made : (pos : BytePos) (p : Page) → p.marks ≡ Some m → (put_mark pos p).marks ≡ Some (noted_mark pos (pen p) m)
  unfolding put_mark marked
  mark_made pos p h = ⊎_elim
      (λ (z : (pos.0 == 0) ≡ true). rw z h)
      (λ (z : (pos.0 == 0) ≡ false). ⊎_elim
      (λ (e : p.at_start ≡ true). rw (z, e) (ap (option_map (waiting_for (Some pos))) h))
      (λ (e : p.at_start ≡ false). rw (z, e) (ap (option_map (record_here pos)) h))
      (cases_Bool p.at_start))
      (cases_Bool (pos.0 == 0))

text_made : (span : Option Span) (bytes : List ℕ) (p : Page) (m : Marks) → p.marks ≡ Some m → (put span bytes p).marks ≡ Some (noted_text span bytes (pen p) m)
unfolding put
text_made span [] p m h = h
text_made span (c ∷ cs) p m h =
    let e : (length (c ∷ cs) == 0) ≡ false = grind (arith, nat_tests) in
    rw e (closed_made _ span _ (past_made _ (c ∷ cs) _ (opened_made _ span _ (led_made m p h))))

step_made : (x : Piece) (p : Page) (m : Marks) → p.marks ≡ Some m → (step x p).marks ≡ Some (noted x (pen p) m)
unfolding step deeper shallower
step_made (Text span bytes) p m h = text_made span bytes p m h
step_made (Brace span) p m h = text_made span (codes "}") p m h
step_made Blank p m h = text_made None (codes " ") p m h
step_made Line p m h = line_made m p h
step_made Deeper p m h = h
step_made Back p m h = h
step_made (Semicolon span) p m h = text_made span (codes ";") p m h
step_made Commit p m h = h
step_made (Mark pos) p m h = mark_made m pos p h

-- The marks of a page behind pieces are those that the pieces make of its marks.
pub notes_made : (xs : List Piece) (p : Page) (m : Marks) → p.marks ≡ Some m → (resolved xs p).marks ≡ Some (notes xs (pen p) m)
notes_made [] p m h = h
notes_made (x ∷ xs) p m h =
    ap (λ (r : Page). r.marks) (by_step x xs p)
    ∙ (notes_made xs (step x p) (noted x (pen p) m) (step_made x p m h)
    ∙ ap (λ (q : Pen). Some (notes xs q (noted x (pen p) m))) (step_moves x p).pen_is)
