-- What was written stays, and a place past the last stays past it.
use Rattle.std.specs.Prelude.{Bool, true, false, if◌then◌else◌, Result, Ok, Err, option_map, option_and_then, ◌==◌, length}
use Rattle.std.proofs.Common.{◌≡◌, ℕ, List, [], ◌++◌, Option, None, Some, refl, sym, ap, subst, ◌*◌, append_assoc, append-nil, ◌∙◌}
use Rattle.base_token.specs.declared.place.BytePos.{BytePos}
use Rattle.base_token.specs.declared.place.LineCol.{LineCol}
use Rattle.base_token.specs.declared.place.Span.{Span}
use Rattle.print_writers.specs.declared.fault.EmitError.{EmitError}
use Rattle.print_writers.specs.declared.fault.EmitError.TheVariants.{Write, Memory, Node, Position}
use Rattle.print_writers.specs.Pages.{Page, Marks, IsFront, IsLeft, IsPast, record_pair, record_here, moved, settled, waiting_for, times, indented, with_text, marked, begun, ended, put_some, put, end_line, put_line, put_mark, deeper, shallower}
use Rattle.std.specs.Str.{chars}
use Rattle.print_writers.specs.Lines.{further, units, after_text, next_line}
use Rattle.print_writers.specs.States.{PageDoes, FaultFits}

-- A step that only adds.
pub record Grows (f : Page → Page) : Type 0 where
  pub out : (p : Page) → IsFront p.out (f p).out
  pub past : (p : Page) → IsPast p → IsPast (f p)

pub front_same : (xs : List ℕ) → IsFront xs xs
front_same xs = ([], sym (append-nil xs))

pub front_trans : (xs ys zs : List ℕ) → IsFront xs ys → IsFront ys zs → IsFront xs zs
front_trans xs ys zs p q = (p.0 ++ q.0, q.1 ∙ ap (λ l. l ++ q.0) p.1 ∙ append_assoc xs p.0 q.0)

pub grows_both : (f g : Page → Page) → Grows f → Grows g → Grows (λ p. g (f p))
grows_both f g a b = record {
  out = λ p. front_trans p.out (f p).out (g (f p)).out (a.out p) (b.out (f p));
  past = λ p h. b.past (f p) (a.past p h);
}

-- marks of which the place is past the last stay so
abbrev Stays : (Marks → Marks) → Type 0
Stays f = (m : Marks) → m.reached ≡ None → (f m).reached ≡ None

past_marks : (f : Marks → Marks) → Stays f → (p q : Page) → q.marks ≡ option_map f p.marks → IsPast p → IsPast q
past_marks f h p q e past = (f past.0, e ∙ ap (λ o. option_map f o) past.1, h past.0 past.2)

stays_record : (pos : BytePos) → Stays (record_here pos)
stays_record pos m e = ap (λ (r : Option LineCol). let n : Marks = elim r [ None ↦ m | Some place ↦ record_pair pos place m ] in n.reached) e ∙ e

stays_moved : (to : LineCol → Option LineCol) → Stays (moved to)
unfolding moved
stays_moved to m e = ap (option_and_then to) e

stays_settled : Stays settled
unfolding settled
stays_settled m e = elim m.waits as (λ (w : Option BytePos). let n : Marks = elim w [ None ↦ m | Some pos ↦ record_here pos (waiting_for None m) ] in n.reached ≡ None) [
  | None ↦ e
  | Some pos ↦ stays_record pos (waiting_for None m) e
]

pub grows_same : Grows (λ p. p)
grows_same = record { out = λ p. front_same p.out; past = λ p h. h }

-- the page with its line's indentation
begin_page : Page → Page
begin_page p = record p {
  out = p.out ++ times p.depth p.indent;
  at_start = false;
  marks = option_map (λ m. settled (moved (further (p.depth * units (chars p.indent))) m)) p.marks;
}

pub grows_indented : Grows indented
unfolding indented begin_page
grows_indented = record {
  out = λ p. elim p.at_start as (λ b. IsFront p.out (if b then begin_page p else p).out) [ true ↦ (times p.depth p.indent, refl) | false ↦ front_same p.out ];
  past = λ p h. elim p.at_start as (λ b. IsPast (if b then begin_page p else p)) [
    | true ↦ past_marks (λ m. settled (moved (further (p.depth * units (chars p.indent))) m)) (λ m e. stays_settled (moved (further (p.depth * units (chars p.indent))) m) (stays_moved (further (p.depth * units (chars p.indent))) m e)) p (begin_page p) refl h
    | false ↦ h
  ];
}

pub grows_text : (bytes : List ℕ) → Grows (with_text bytes)
unfolding with_text
grows_text bytes = record {
  out = λ p. (bytes, refl);
  past = λ p h. past_marks (moved (λ place. after_text place (chars bytes))) (stays_moved (λ place. after_text place (chars bytes))) p (with_text bytes p) refl h;
}

pub grows_marked : (pos : BytePos) → Grows (marked pos)
unfolding marked
grows_marked pos = record {
  out = λ p. front_same p.out;
  past = λ p h. past_marks (record_here pos) (stays_record pos) p (marked pos p) refl h;
}

pub grows_begun : (span : Option Span) → Grows (begun span)
grows_begun None = grows_same
grows_begun (Some span) = grows_marked span.lo

pub grows_ended : (span : Option Span) → Grows (ended span)
grows_ended None = grows_same
grows_ended (Some span) = grows_marked span.hi

pub grows_behind : (span : Option Span) (bytes : List ℕ) → Grows (λ p. ended span (with_text bytes p))
grows_behind span bytes = grows_both (with_text bytes) (ended span) (grows_text bytes) (grows_ended span)

pub grows_begin : (span : Option Span) (bytes : List ℕ) → Grows (λ p. ended span (with_text bytes (begun span p)))
grows_begin span bytes = grows_both (begun span) (λ p. ended span (with_text bytes p)) (grows_begun span) (grows_behind span bytes)

pub grows_some : (span : Option Span) (bytes : List ℕ) → Grows (put_some span bytes)
grows_some span bytes = grows_both indented (λ p. ended span (with_text bytes (begun span p))) grows_indented (grows_begin span bytes)

either : (f g : Page → Page) (test : Page → Bool) → Grows f → Grows g → Grows (λ p. if test p then f p else g p)
either f g test a b = record {
  out = λ p. elim (test p) as (λ t. IsFront p.out (if t then f p else g p).out) [ true ↦ a.out p | false ↦ b.out p ];
  past = λ p h. elim (test p) as (λ t. IsPast (if t then f p else g p)) [ true ↦ a.past p h | false ↦ b.past p h ];
}

pub grows_put : (span : Option Span) (bytes : List ℕ) → Grows (put span bytes)
unfolding put
grows_put span bytes = either (λ p. p) (put_some span bytes) (λ p. length bytes == 0) grows_same (grows_some span bytes)

grows_end_line : Grows end_line
unfolding end_line
grows_end_line = record {
  out = λ p. (p.line_end, refl);
  past = λ p h. past_marks (moved next_line) (stays_moved next_line) p (end_line p) refl h;
}

grows_dropped : (pos : Option BytePos) → Grows (λ p. record p { marks = option_map (waiting_for pos) p.marks })
grows_dropped pos = record {
  out = λ p. front_same p.out;
  past = λ p h. past_marks (waiting_for pos) (λ m e. e) p (record p { marks = option_map (waiting_for pos) p.marks }) refl h;
}

pub grows_line : Grows put_line
unfolding put_line
grows_line = grows_both (λ p. record p { marks = option_map (waiting_for None) p.marks }) (λ q. if q.at_start then q else end_line q)
    (grows_dropped None) (either (λ p. p) end_line (λ q. q.at_start) grows_same grows_end_line)

pub grows_mark : (pos : BytePos) → Grows (put_mark pos)
unfolding put_mark
grows_mark pos = either (λ p. p) (λ p. if p.at_start then record p { marks = option_map (waiting_for (Some pos)) p.marks } else marked pos p) (λ p. pos.0 == 0)
    grows_same (either (λ p. record p { marks = option_map (waiting_for (Some pos)) p.marks }) (marked pos) (λ p. p.at_start) (grows_dropped (Some pos)) (grows_marked pos))

pub grows_deeper : Grows deeper
unfolding deeper
grows_deeper = record { out = λ p. front_same p.out; past = λ p h. h }

pub grows_shallower : Grows shallower
unfolding shallower
grows_shallower = record { out = λ p. front_same p.out; past = λ p h. h }

-- ---- what steps in a row do

pub fits_later : (g : Page → Page) → Grows g → (e : EmitError) (p : Page) → FaultFits e p → FaultFits e (g p)
fits_later g a (Write kind) p h = tt
fits_later g a Memory p h = tt
fits_later g a Node p h = tt
fits_later g a Position p h = a.past p h

pub left_later : (g : Page → Page) → Grows g → (a b p : Page) → IsLeft a b p → IsLeft a b (g p)
left_later g h a b p l = record { kept = l.kept; beginning = front_trans b.out p.out (g p).out l.beginning (h.out p) }

pub left_from : (a b c p : Page) → IsFront a.out b.out → IsLeft b c p → IsLeft a c p
left_from a b c p h l = record { kept = front_trans a.out b.out c.out h l.kept; beginning = l.beginning }

pub past_indented : (p : Page) (m : Marks) → p.at_start ≡ true → p.marks ≡ Some m → option_and_then (further (p.depth * units (chars p.indent))) m.reached ≡ None → IsPast (indented p)
unfolding indented moved
past_indented p m start is past =
    let go : Marks → Marks = λ m. settled (moved (further (p.depth * units (chars p.indent))) m) in
    let q : Page = record p { out = p.out ++ times p.depth p.indent; at_start = false; marks = option_map go p.marks } in
    subst (λ (b : Bool). IsPast (if b then q else p)) (sym start) (go m, ap (λ (o : Option Marks). option_map go o) is, stays_settled (moved (further (p.depth * units (chars p.indent))) m) past)

module _ {S : Type 0} (tells : S → Type 0) (page : S → Page) where
  -- the first step stopped, and the next one was not taken
  pub stopped : {A : Type 0} (f g : Page → Page) → Grows g → (old new : S) (e : EmitError) (r : Result A EmitError) → r ≡ Err e
      → (tells old → tells new × IsLeft (page old) (page new) (f (page old)) × FaultFits e (f (page old))) → PageDoes tells page (λ p. g (f p)) old new r
  stopped f g a old new e r is h = subst (PageDoes tells page (λ p. g (f p)) old new) (sym is) (λ t.
      let q = h t in
      (q.0, record { kept = q.1.kept; beginning = front_trans _ (f (page old)).out _ q.1.beginning (a.out (f (page old))) }, fits_later g a e (f (page old)) q.2))

  -- the first step was taken, and then the next, or a part of it
  pub then_does : {A : Type 0} (f g : Page → Page) → Grows f → (old mid new : S) (r : Result A EmitError)
      → (tells old → tells mid × (page mid ≡ f (page old))) → PageDoes tells page g mid new r → PageDoes tells page (λ p. g (f p)) old new r
  then_does f g a old mid new (Ok y) h k = λ t. let q = h t in let z = k q.0 in (z.0, z.1 ∙ ap g q.1)
  then_does f g a old mid new (Err e) h k = λ t.
      let q : tells mid × (page mid ≡ f (page old)) = h t in
      let z : tells new × IsLeft (page mid) (page new) (g (page mid)) × FaultFits e (g (page mid)) = k q.0 in (
        z.0,
        record {
          kept = front_trans _ (page mid).out _ (subst (λ (p : Page). IsFront (page old).out p.out) (sym q.1) (a.out (page old))) z.1.kept;
          beginning = subst (λ (p : Page). IsFront (page new).out (g p).out) q.1 z.1.beginning;
        },
        subst (λ (p : Page). FaultFits e (g p)) q.1 z.2,
      )

  -- a place past the last is seen before anything is written
  pub past_stops : {A : Type 0} (f : Page → Page) → Grows f → (old new : S) (e : EmitError) (r : Result A EmitError) → r ≡ Err e → e ≡ Position
      → (tells old → tells new) → page new ≡ page old → IsPast (f (page old)) → PageDoes tells page f old new r
  past_stops f a old new e r is position keeps same past = subst (PageDoes tells page f old new) (sym is) (λ t. (
    keeps t,
    record {
      kept = subst (λ (p : Page). IsFront (page old).out p.out) (sym same) (front_same (page old).out);
      beginning = subst (λ (p : Page). IsFront p.out (f (page old)).out) (sym same) (a.out (page old));
    },
    subst (λ (x : EmitError). FaultFits x (f (page old))) (sym position) past,
  ))
