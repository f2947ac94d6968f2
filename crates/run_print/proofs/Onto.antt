-- Bytes that were written before stay in front of what is written, and change nothing else; where no marks are kept, none are.
use Rattle.std.proofs.Common.{◌≡◌, ℕ, Bool, true, false, if◌then◌else◌, ◌==◌, ◌*◌, List, [], ◌∷◌, ◌++◌, length, Option, Some, None, codes, refl, sym, ap, ◌∙◌, append_assoc}
use Rattle.std.specs.Option.{option_map}
use Rattle.base_token.specs.declared.place.BytePos.{BytePos}
use Rattle.base_token.specs.declared.place.Span.{Span}
use Rattle.std.specs.Str.{chars}
use Rattle.print_writers.specs.Lines.{units, further, next_line, after_text}
use Rattle.print_writers.specs.Pages.{Page, put, put_some, put_line, put_mark, deeper, shallower, indented, with_text, marked, begun, ended, end_line, times, moved, settled, waiting_for, record_here}
use Rattle.print_writers.specs.States.{span_or_none}
use Rattle.print_pages_spec.specs.Pieces.{Piece, Text, Brace, Blank, Line, Deeper, Back, Semicolon, Commit, Mark, resolved, shortened, behind, semicolon}
use Rattle.print_pages_spec.proofs.Unmarked.{plain, plain_put, plain_line, plain_deeper, plain_shallower}

-- what each step leaves to the page, pieces do
module _ (change : Page → Page) (on_put : (span : Option Span) (bytes : List ℕ) (p : Page) → change (put span bytes p) ≡ put span bytes (change p))
    (on_line : (p : Page) → change (put_line p) ≡ put_line (change p)) (on_mark : (pos : BytePos) (p : Page) → change (put_mark pos p) ≡ put_mark pos (change p))
    (on_deeper : (p : Page) → change (deeper p) ≡ deeper (change p)) (on_shallower : (p : Page) → change (shallower p) ≡ shallower (change p))
  where
    through_resolved : (xs : List Piece) (p : Page) → change (resolved xs p) ≡ resolved xs (change p)
    through_resolved [] p = refl
    through_resolved (Text span bytes ∷ xs) p = through_resolved xs _ ∙ ap (λ q. resolved xs q) (on_put span bytes p)
    through_resolved (Brace span ∷ xs) p = through_resolved xs _ ∙ ap (λ q. resolved xs q) (on_put span (codes "}") p)
    through_resolved (Blank ∷ xs) p = through_resolved xs _ ∙ ap (λ q. resolved xs q) (on_put None (codes " ") p)
    through_resolved (Line ∷ xs) p = through_resolved xs _ ∙ ap (λ q. resolved xs q) (on_line p)
    through_resolved (Deeper ∷ xs) p = through_resolved xs _ ∙ ap (λ q. resolved xs q) (on_deeper p)
    through_resolved (Back ∷ xs) p = through_resolved xs _ ∙ ap (λ q. resolved xs q) (on_shallower p)
    through_resolved (Semicolon span ∷ xs) p = through_resolved xs _ ∙ ap (λ q. resolved xs q) (on_put span (codes ";") p)
    through_resolved (Commit ∷ xs) p = through_resolved xs p
    through_resolved (Mark pos ∷ xs) p = through_resolved xs _ ∙ ap (λ q. resolved xs q) (on_mark pos p)

    mutual
      through_shortened : (xs : List Piece) (p : Page) → change (shortened xs p) ≡ shortened xs (change p)
      through_shortened [] p = refl
      through_shortened (Text span bytes ∷ xs) p = through_shortened xs _ ∙ ap (λ q. shortened xs q) (on_put span bytes p)
      through_shortened (Brace span ∷ xs) p = through_shortened xs _ ∙ ap (λ q. shortened xs q) (on_put span (codes "}") p)
      through_shortened (Blank ∷ xs) p = through_shortened xs _ ∙ ap (λ q. shortened xs q) (on_put None (codes " ") p)
      through_shortened (Line ∷ xs) p = through_shortened xs _ ∙ ap (λ q. shortened xs q) (on_line p)
      through_shortened (Deeper ∷ xs) p = through_shortened xs _ ∙ ap (λ q. shortened xs q) (on_deeper p)
      through_shortened (Back ∷ xs) p = through_shortened xs _ ∙ ap (λ q. shortened xs q) (on_shallower p)
      through_shortened (Semicolon span ∷ xs) p = through_behind (span_or_none span) xs p
      through_shortened (Commit ∷ xs) p = through_shortened xs p
      through_shortened (Mark pos ∷ xs) p = through_shortened xs _ ∙ ap (λ q. shortened xs q) (on_mark pos p)

      through_behind : (own : Span) (xs : List Piece) (p : Page) → change (behind own xs p) ≡ behind own xs (change p)
      through_behind own [] p = refl
      through_behind own (Text span bytes ∷ xs) p = through_shortened xs _ ∙ ap (λ q. shortened xs q) (on_put span bytes (semicolon own p) ∙ ap (λ q. put span bytes q) (on_put (Some own) (codes ";") p))
      through_behind own (Brace span ∷ xs) p = through_shortened xs _ ∙ ap (λ q. shortened xs q) (on_put span (codes "}") p)
      through_behind own (Blank ∷ xs) p = through_shortened xs _ ∙ ap (λ q. shortened xs q) (on_put None (codes " ") (semicolon own p) ∙ ap (λ q. put None (codes " ") q) (on_put (Some own) (codes ";") p))
      through_behind own (Line ∷ xs) p = through_shortened xs _ ∙ ap (λ q. shortened xs q) (on_line (semicolon own p) ∙ ap (λ q. put_line q) (on_put (Some own) (codes ";") p))
      through_behind own (Deeper ∷ xs) p = through_shortened xs _ ∙ ap (λ q. shortened xs q) (on_deeper (semicolon own p) ∙ ap (λ q. deeper q) (on_put (Some own) (codes ";") p))
      through_behind own (Back ∷ xs) p = through_shortened xs _ ∙ ap (λ q. shortened xs q) (on_shallower (semicolon own p) ∙ ap (λ q. shallower q) (on_put (Some own) (codes ";") p))
      through_behind own (Semicolon span ∷ xs) p = through_behind (span_or_none span) xs _ ∙ ap (λ q. behind (span_or_none span) xs q) (on_put (Some own) (codes ";") p)
      through_behind own (Commit ∷ xs) p = through_shortened xs _ ∙ ap (λ q. shortened xs q) (on_put (Some own) (codes ";") p)
      through_behind own (Mark pos ∷ xs) p = through_behind own xs _ ∙ ap (λ q. behind own xs q) (on_mark pos p)

-- ---- bytes written before

-- the page behind these bytes
abbrev pub onto : List ℕ → Page → Page
onto xs p = record p { out = xs ++ p.out }

module _ (front : List ℕ) where
  onto_if : (b : Bool) (p q : Page) → onto front (if b then p else q) ≡ (if b then onto front p else onto front q)
  onto_if true p q = refl
  onto_if false p q = refl

  -- a page to which bytes were added
  onto_grown : (q : Page) (own more : List ℕ) → onto front (record q { out = own ++ more }) ≡ record q { out = (front ++ own) ++ more }
  onto_grown q own more = ap (λ (l : List ℕ). record q { out = l }) (sym (append_assoc front own more))

  -- ---- each step

  onto_indented : (p : Page) → onto front (indented p) ≡ indented (onto front p)
  unfolding indented
  onto_indented p =
      let q = record p { at_start = false; marks = option_map (λ m. settled (moved (further (p.depth * units (chars p.indent))) m)) p.marks } in
      onto_if p.at_start (record q { out = p.out ++ times p.depth p.indent }) p ∙ ap (λ (r : Page). if p.at_start then r else onto front p) (onto_grown q p.out (times p.depth p.indent))

  onto_begun : (span : Option Span) (p : Page) → onto front (begun span p) ≡ begun span (onto front p)
  unfolding marked
  onto_begun None p = refl
  onto_begun (Some span) p = refl

  onto_ended : (span : Option Span) (p : Page) → onto front (ended span p) ≡ ended span (onto front p)
  unfolding marked
  onto_ended None p = refl
  onto_ended (Some span) p = refl

  onto_with_text : (bytes : List ℕ) (p : Page) → onto front (with_text bytes p) ≡ with_text bytes (onto front p)
  unfolding with_text
  onto_with_text bytes p = onto_grown (record p { marks = option_map (moved (λ place. after_text place (chars bytes))) p.marks }) p.out bytes

  onto_put_some : (span : Option Span) (bytes : List ℕ) (p : Page) → onto front (put_some span bytes p) ≡ put_some span bytes (onto front p)
  onto_put_some span bytes p =
      onto_ended span (with_text bytes (begun span (indented p)))
      ∙ ap (λ q. ended span q) (onto_with_text bytes (begun span (indented p))
      ∙ ap (λ q. with_text bytes q) (onto_begun span (indented p)
      ∙ ap (λ q. begun span q) (onto_indented p)))

  onto_put : (span : Option Span) (bytes : List ℕ) (p : Page) → onto front (put span bytes p) ≡ put span bytes (onto front p)
  unfolding put
  onto_put span bytes p = onto_if (length bytes == 0) p (put_some span bytes p) ∙ ap (λ (q : Page). if length bytes == 0 then onto front p else q) (onto_put_some span bytes p)

  onto_end : (p : Page) → onto front (end_line p) ≡ end_line (onto front p)
  unfolding end_line
  onto_end p = onto_grown (record p { at_start = true; marks = option_map (moved next_line) p.marks }) p.out p.line_end

  onto_line : (p : Page) → onto front (put_line p) ≡ put_line (onto front p)
  unfolding put_line
  onto_line p =
      let q = record p { marks = option_map (waiting_for None) p.marks } in
      onto_if p.at_start q (end_line q) ∙ ap (λ (r : Page). if p.at_start then onto front q else r) (onto_end q)

  onto_choice : (b c : Bool) (p q r : Page) → onto front (if b then p else (if c then q else r)) ≡ (if b then onto front p else (if c then onto front q else onto front r))
  onto_choice true c p q r = refl
  onto_choice false true p q r = refl
  onto_choice false false p q r = refl

  onto_mark : (pos : BytePos) (p : Page) → onto front (put_mark pos p) ≡ put_mark pos (onto front p)
  unfolding put_mark marked
  onto_mark pos p = onto_choice (pos.0 == 0) p.at_start p (record p { marks = option_map (waiting_for (Some pos)) p.marks }) (record p { marks = option_map (record_here pos) p.marks })

  onto_deeper : (p : Page) → onto front (deeper p) ≡ deeper (onto front p)
  unfolding deeper
  onto_deeper p = refl

  onto_shallower : (p : Page) → onto front (shallower p) ≡ shallower (onto front p)
  unfolding shallower
  onto_shallower p = refl

  pub onto_resolved : (xs : List Piece) (p : Page) → onto front (resolved xs p) ≡ resolved xs (onto front p)
  onto_resolved = through_resolved (onto front) onto_put onto_line onto_mark onto_deeper onto_shallower

  pub onto_shortened : (xs : List Piece) (p : Page) → onto front (shortened xs p) ≡ shortened xs (onto front p)
  onto_shortened = through_shortened (onto front) onto_put onto_line onto_mark onto_deeper onto_shallower

-- ---- no marks

plain_choice : (b c : Bool) (p q r : Page) → plain (if b then p else (if c then q else r)) ≡ (if b then plain p else (if c then plain q else plain r))
plain_choice true c p q r = refl
plain_choice false true p q r = refl
plain_choice false false p q r = refl

plain_mark : (pos : BytePos) (p : Page) → plain (put_mark pos p) ≡ put_mark pos (plain p)
unfolding put_mark marked
plain_mark pos p = plain_choice (pos.0 == 0) p.at_start p (record p { marks = option_map (waiting_for (Some pos)) p.marks }) (record p { marks = option_map (record_here pos) p.marks })

pub plain_resolved : (xs : List Piece) (p : Page) → plain (resolved xs p) ≡ resolved xs (plain p)
plain_resolved = through_resolved plain plain_put plain_line plain_mark plain_deeper plain_shallower

pub plain_shortened : (xs : List Piece) (p : Page) → plain (shortened xs p) ≡ shortened xs (plain p)
plain_shortened = through_shortened plain plain_put plain_line plain_mark plain_deeper plain_shallower
