-- Each call of a writer only adds to what is written.
use Rattle.std.proofs.Common.{ℕ, Bool, true, false, List, Option, Some, None, codes, if◌then◌else◌}
use Rattle.base_token.specs.declared.place.Span.{Span}
use Rattle.print_writers.specs.Pages.{Page, IsFront, IsPast, put, put_line, put_mark, deeper, shallower}
use Rattle.print_writers.specs.States.{State, FaultFits, commit, text, line, increase, decrease, semi, punct, mark, is_brace, span_or_none, on_page}
use Rattle.print_writers.specs.declared.fault.EmitError.{EmitError}
use Rattle.print_writers.specs.declared.fault.EmitError.TheVariants.{Write, Memory, Node, Position}
use Rattle.print_writers.proofs.Growing.{Grows, front_same, front_trans, grows_put, grows_line, grows_mark, grows_deeper, grows_shallower}
use Rattle.print_pages_spec.specs.Pieces.{Piece, Text, Brace, Blank, Line, Deeper, Back, Semicolon, Commit, Mark, call}

-- what is written stays, and a place past the last stays past it
pub record Onward (s t : State) : Type 0 where
  pub out : IsFront s.page.out t.page.out
  pub past : IsPast s.page → IsPast t.page

pub onward_same : (s : State) → Onward s s
onward_same s = record { out = front_same s.page.out; past = λ p. p }

pub onward_trans : (s t u : State) → Onward s t → Onward t u → Onward s u
onward_trans s t u a b = record { out = front_trans s.page.out t.page.out u.page.out a.out b.out; past = λ p. b.past (a.past p) }

-- a step of the page alone
on : (f : Page → Page) → Grows f → (s : State) (h : Option Span) → Onward s (record s { page = f s.page; held = h })
on f g s h = record { out = g.out s.page; past = g.past s.page }

commit_onward : (s : State) → Onward s (commit s)
unfolding commit
commit_onward s = elim s.held as (λ (h : Option Span). Onward s (record s { page = elim h [ None ↦ s.page | Some span ↦ put (Some span) (codes ";") s.page ]; held = None })) [
  | None ↦ record { out = front_same s.page.out; past = λ p. p }
  | Some span ↦ record { out = (grows_put (Some span) (codes ";")).out s.page; past = (grows_put (Some span) (codes ";")).past s.page }
]

page_onward : (f : Page → Page) → Grows f → (s : State) → Onward s (on_page f s)
page_onward f g s = onward_trans s (commit s) (on_page f s) (commit_onward s) (on f g (commit s) (commit s).held)

text_onward : (span : Option Span) (bytes : List ℕ) (s : State) → Onward s (text span bytes s)
unfolding text
text_onward span bytes s = page_onward (put span bytes) (grows_put span bytes) s

semi_onward : (span : Option Span) (s : State) → Onward s (semi span s)
unfolding semi
semi_onward span s = elim s.holds as (λ (b : Bool). Onward s (if b then record (commit s) { held = Some (span_or_none span) } else text span (codes ";") s)) [
  | true ↦ record { out = (commit_onward s).out; past = (commit_onward s).past }
  | false ↦ text_onward span (codes ";") s
]

punct_onward : (span : Option Span) (bytes : List ℕ) (s : State) → Onward s (punct span bytes s)
unfolding punct
punct_onward span bytes s = elim (is_brace bytes) as (λ (b : Bool). Onward s (text span bytes (if b then record s { held = None } else s))) [
  | true ↦ record { out = (text_onward span bytes (record s { held = None })).out; past = (text_onward span bytes (record s { held = None })).past }
  | false ↦ text_onward span bytes s
]

pub call_onward : (x : Piece) (s : State) → Onward s (call x s)
unfolding line increase decrease mark
call_onward (Text span bytes) s = text_onward span bytes s
call_onward (Brace span) s = punct_onward span (codes "}") s
call_onward Blank s = text_onward None (codes " ") s
call_onward Line s = page_onward put_line grows_line s
call_onward Deeper s = page_onward deeper grows_deeper s
call_onward Back s = page_onward shallower grows_shallower s
call_onward (Semicolon span) s = semi_onward span s
call_onward Commit s = commit_onward s
call_onward (Mark pos) s = on (put_mark pos) (grows_mark pos) s s.held

-- a fault that fits a state fits what is behind it
pub fits_on : (e : EmitError) (s t : State) → Onward s t → FaultFits e s.page → FaultFits e t.page
fits_on Position s t a f = a.past f
fits_on (Write kind) s t a f = tt
fits_on Memory s t a f = tt
fits_on Node s t a f = tt
