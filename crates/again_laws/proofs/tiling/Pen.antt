-- What pieces write on a page, as a list of its own, by the pen alone: how deep it is indented, and whether a line starts.
use Rattle.std.proofs.Common.{◌≡◌, ℕ, ◌+◌, ◌-◌, ⊎_elim, Bool, true, false, List, [], ◌∷◌, ◌++◌, length, Option, Some, None, refl, sym, ap, ◌∙◌, append_assoc, arith}
use Rattle.std.specs.Prelude.{if◌then◌else◌, ◌==◌, nat_lt, codes}
use Rattle.std.proofs.lemmas.Bool.{cases_Bool}
use Rattle.std.proofs.lemmas.Bool.Decides.{nat_tests}
use Rattle.std.proofs.lemmas.List.{append-nil}
use Rattle.base_token.specs.declared.place.Span.{Span}
use Rattle.base_token.specs.declared.place.BytePos.{BytePos}
use Rattle.print_writers.specs.Pages.{Page, put, put_some, put_line, put_mark, end_line, deeper, shallower, indented, with_text, marked, begun, ended, times, last_depth}
use Rattle.print_pages_spec.specs.Pieces.{Piece, Text, Brace, Blank, Line, Deeper, Back, Semicolon, Commit, Mark, resolved}

pub record Pen : Type 0 where
  pub depth : ℕ
  pub at_start : Bool
  pub line_end : List ℕ
  pub indent : List ℕ

abbrev pub pen : Page → Pen
pen p = record { depth = p.depth; at_start = p.at_start; line_end = p.line_end; indent = p.indent }

-- the indentation
abbrev pub lead : Pen → List ℕ
lead q = if q.at_start then times q.depth q.indent else []

abbrev pub own_text : List ℕ → Pen → List ℕ
own_text [] q = []
own_text (c ∷ cs) q = lead q ++ (c ∷ cs)

abbrev pub after_text : List ℕ → Pen → Pen
after_text [] q = q
after_text (c ∷ cs) q = record q { at_start = false }

-- what a piece writes
abbrev pub own : Piece → Pen → List ℕ
own (Text span bytes) q = own_text bytes q
own (Brace span) q = own_text (codes "}") q
own Blank q = own_text (codes " ") q
own Line q = if q.at_start then [] else q.line_end
own (Semicolon span) q = own_text (codes ";") q
own Deeper q = []
own Back q = []
own Commit q = []
own (Mark pos) q = []

-- and the pen behind it
abbrev pub next : Piece → Pen → Pen
next (Text span bytes) q = after_text bytes q
next (Brace span) q = after_text (codes "}") q
next Blank q = after_text (codes " ") q
next Line q = record q { at_start = true }
next (Semicolon span) q = after_text (codes ";") q
next Deeper q = record q { depth = if nat_lt q.depth last_depth then q.depth + 1 else q.depth }
next Back q = record q { depth = q.depth - 1 }
next Commit q = q
next (Mark pos) q = q

abbrev pub wrote : List Piece → Pen → List ℕ
wrote [] q = []
wrote (x ∷ xs) q = own x q ++ wrote xs (next x q)

-- ---- pages

pub record Moves (p r : Page) (bytes : List ℕ) (q : Pen) : Type 0 where
  pub out : r.out ≡ p.out ++ bytes
  pub pen_is : pen r ≡ q

begun_same : (s : Option Span) (p : Page) → Moves p (begun s p) [] (pen p)
unfolding marked
begun_same None p = record { out = sym (append-nil p.out); pen_is = refl }
begun_same (Some s) p = record { out = sym (append-nil p.out); pen_is = refl }

ended_same : (s : Option Span) (p : Page) → ((ended s p).out ≡ p.out) × (pen (ended s p) ≡ pen p)
unfolding marked
ended_same None p = (refl, refl)
ended_same (Some s) p = (refl, refl)

begun_out : (s : Option Span) (p : Page) → ((begun s p).out ≡ p.out) × (pen (begun s p) ≡ pen p)
unfolding marked
begun_out None p = (refl, refl)
begun_out (Some s) p = (refl, refl)

starts : (p : Page) → p.at_start ≡ true → ((indented p).out ≡ p.out ++ lead (pen p)) × (pen (indented p) ≡ record (pen p) { at_start = false })
unfolding indented
starts p e = (rw e refl, rw e refl)

goes : (p : Page) → p.at_start ≡ false → ((indented p).out ≡ p.out ++ lead (pen p)) × (pen (indented p) ≡ record (pen p) { at_start = false })
unfolding indented
goes p e = (rw e (sym (append-nil p.out)), rw e refl)

indented_moves : (p : Page) → ((indented p).out ≡ p.out ++ lead (pen p)) × (pen (indented p) ≡ record (pen p) { at_start = false })
indented_moves p = ⊎_elim (λ (e : p.at_start ≡ true). starts p e) (λ (e : p.at_start ≡ false). goes p e) (cases_Bool p.at_start)

with_text_out : (bytes : List ℕ) (p : Page) → ((with_text bytes p).out ≡ p.out ++ bytes) × (pen (with_text bytes p) ≡ pen p)
unfolding with_text
with_text_out bytes p = (refl, refl)

-- ---- a text

put_some_moves : (s : Option Span) (bytes : List ℕ) (p : Page) → Moves p (put_some s bytes p) (lead (pen p) ++ bytes) (record (pen p) { at_start = false })
put_some_moves s bytes p =
    let a = indented_moves p in
    let b = begun_out s (indented p) in
    let c = with_text_out bytes (begun s (indented p)) in
    let d = ended_same s (with_text bytes (begun s (indented p))) in record {
      out = d.0 ∙ (c.0 ∙ (ap (λ o. o ++ bytes) (b.0 ∙ a.0) ∙ append_assoc p.out (lead (pen p)) bytes));
      pen_is = d.1 ∙ (c.1 ∙ (b.1 ∙ a.1));
    }

put_moves : (s : Option Span) (bytes : List ℕ) (p : Page) → Moves p (put s bytes p) (own_text bytes (pen p)) (after_text bytes (pen p))
unfolding put
put_moves s [] p = record { out = sym (append-nil p.out); pen_is = refl }
put_moves s (c ∷ cs) p =
    let e : (length (c ∷ cs) == 0) ≡ false = grind (arith, nat_tests) in
    let m = put_some_moves s (c ∷ cs) p in record { out = rw e m.out; pen_is = rw e m.pen_is }

line_moves : (p : Page) → Moves p (put_line p) (own Line (pen p)) (record (pen p) { at_start = true })
unfolding put_line end_line
line_moves p = ⊎_elim
    (λ (e : p.at_start ≡ true). by_start p e)
    (λ (e : p.at_start ≡ false). by_end p e)
    (cases_Bool p.at_start)
  where
    by_start : (p : Page) → p.at_start ≡ true → Moves p (put_line p) (own Line (pen p)) (record (pen p) { at_start = true })
    by_start p e = record { out = rw e (sym (append-nil p.out)); pen_is = rw e refl }

    by_end : (p : Page) → p.at_start ≡ false → Moves p (put_line p) (own Line (pen p)) (record (pen p) { at_start = true })
    by_end p e = record { out = rw e refl; pen_is = rw e refl }

mark_moves : (pos : BytePos) (p : Page) → Moves p (put_mark pos p) [] (pen p)
unfolding put_mark marked
mark_moves pos p = ⊎_elim
    (λ (z : (pos.0 == 0) ≡ true). record { out = rw z (sym (append-nil p.out)); pen_is = rw z refl })
    (λ (z : (pos.0 == 0) ≡ false). ⊎_elim
    (λ (e : p.at_start ≡ true). record { out = rw z (rw e (sym (append-nil p.out))); pen_is = rw z (rw e refl) })
    (λ (e : p.at_start ≡ false). record { out = rw z (rw e (sym (append-nil p.out))); pen_is = rw z (rw e refl) })
    (cases_Bool p.at_start))
    (cases_Bool (pos.0 == 0))

-- ---- pieces

-- the page behind a piece
unfoldable pub step : Piece → Page → Page
step (Text span bytes) p = put span bytes p
step (Brace span) p = put span (codes "}") p
step Blank p = put None (codes " ") p
step Line p = put_line p
step Deeper p = deeper p
step Back p = shallower p
step (Semicolon span) p = put span (codes ";") p
step Commit p = p
step (Mark pos) p = put_mark pos p

pub step_moves : (x : Piece) (p : Page) → Moves p (step x p) (own x (pen p)) (next x (pen p))
unfolding step deeper shallower
step_moves (Text span bytes) p = put_moves span bytes p
step_moves (Brace span) p = put_moves span (codes "}") p
step_moves Blank p = put_moves None (codes " ") p
step_moves Line p = line_moves p
step_moves Deeper p = record { out = sym (append-nil p.out); pen_is = refl }
step_moves Back p = record { out = sym (append-nil p.out); pen_is = refl }
step_moves (Semicolon span) p = put_moves span (codes ";") p
step_moves Commit p = record { out = sym (append-nil p.out); pen_is = refl }
step_moves (Mark pos) p = mark_moves pos p

pub by_step : (x : Piece) (xs : List Piece) (p : Page) → resolved (x ∷ xs) p ≡ resolved xs (step x p)
unfolding step
by_step (Text span bytes) xs p = refl
by_step (Brace span) xs p = refl
by_step Blank xs p = refl
by_step Line xs p = refl
by_step Deeper xs p = refl
by_step Back xs p = refl
by_step (Semicolon span) xs p = refl
by_step Commit xs p = refl
by_step (Mark pos) xs p = refl

pub out_wrote : (xs : List Piece) (p : Page) → (resolved xs p).out ≡ p.out ++ wrote xs (pen p)
out_wrote [] p = sym (append-nil p.out)
out_wrote (x ∷ xs) p =
    let m = step_moves x p in
    ap (λ (q : Page). q.out) (by_step x xs p)
    ∙ (out_wrote xs (step x p)
    ∙ (ap (λ o. o ++ wrote xs (pen (step x p))) m.out
    ∙ (append_assoc p.out (own x (pen p)) (wrote xs (pen (step x p)))
    ∙ ap (λ q. p.out ++ (own x (pen p) ++ wrote xs q)) m.pen_is)))
