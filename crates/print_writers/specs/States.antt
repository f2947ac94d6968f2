-- The state of a writer, and what each call of `WriteJs` makes of it.
use Rattle.std.specs.Prelude.{◌≡◌, ℕ, Bool, true, false, if◌then◌else◌, List, Option, Some, None, is_some, codes, Result, Ok, Err}
use Rattle.std.specs.Option.{unwrap_or}
use Rattle.std.specs.Str.{bytes_eq}
use Rattle.base_token.specs.declared.place.BytePos.{BytePos}
use Rattle.base_token.specs.declared.place.Span.{Span}
use base.Fml.{GName}
use Rattle.base_token.specs.Counts.{count_after}
use Rattle.print_writers.specs.Pages.{Page, IsLeft, IsPast, put, put_line, put_mark, deeper, shallower}
use Rattle.print_writers.specs.declared.fault.EmitError.{EmitError}
use Rattle.print_writers.specs.declared.fault.EmitError.TheVariants.{Write, Memory, Node, Position}

pub record State : Type 0 where
  pub page : Page
  -- the semicolon that waits, with its span
  pub held : Option Span
  -- whether semicolons wait at all
  pub holds : Bool

-- the span of a semicolon that waits, which is that of no part of a text where it was given none
abbrev pub span_or_none : Option Span → Span
span_or_none span = unwrap_or span (record { lo = record { 0 = 0 }; hi = record { 0 = 0 } })

-- the semicolon that waits is written
unfoldable pub commit : State → State
commit s = record s { page = elim s.held [ None ↦ s.page | Some span ↦ put (Some span) (codes ";") s.page ]; held = None }

-- a call that is none of those below: it writes the semicolon first
abbrev pub on_page : (Page → Page) → State → State
on_page f s = let t = commit s in record t { page = f t.page }

unfoldable pub text : Option Span → List ℕ → State → State
text span bytes s = on_page (put span bytes) s

unfoldable pub line : State → State
line s = on_page put_line s

unfoldable pub increase : State → State
increase s = on_page deeper s

unfoldable pub decrease : State → State
decrease s = on_page shallower s

-- a semicolon, which waits where semicolons do
unfoldable pub semi : Option Span → State → State
semi span s = if s.holds then record (commit s) { held = Some (span_or_none span) } else text span (codes ";") s

-- a punctuator; before `}` the semicolon that waits is dropped
abbrev pub is_brace : List ℕ → Bool
is_brace bytes = bytes_eq bytes (codes "}")

unfoldable pub punct : Option Span → List ℕ → State → State
punct span bytes s = text span bytes (if is_brace bytes then record s { held = None } else s)

-- a mark, which leaves the semicolon that waits
unfoldable pub mark : BytePos → State → State
mark pos s = record s { page = put_mark pos s.page }

-- whether positions are kept
abbrev pub has_places : State → Bool
has_places s = is_some s.page.marks

-- What a fault says of the call: `Position` that a line or a column was reached that is past the last.
abbrev pub FaultFits : EmitError → Page → Type 0
FaultFits Position done = IsPast done
FaultFits _ done = Unit {0}

-- What a call did that makes `f` of the state, to a writer whose bytes are known.
abbrev pub Does : {S A : Type 0} → (S → Type 0) → (S → State) → (State → State) → S → S → Result A EmitError → Type 0
Does tells state f old new (Ok x) = tells old → tells new × (state new ≡ f (state old))
Does tells state f old new (Err e) = tells old → tells new × IsLeft (state old).page (state new).page (f (state old)).page × FaultFits e (f (state old)).page

-- What a call did that writes a text at once, or does nothing, and tells which.
abbrev pub Puts : {S : Type 0} → (S → Type 0) → (S → State) → List ℕ → S → S → Bool → Type 0
Puts tells state bytes old new done = tells old → tells new × (state new ≡ (if done then text None bytes (state old) else state old))

-- what such a call keeps
abbrev pub KeepsAll : {S : Type 0} → (S → State) → (S → ℕ) → (S → List GName) → S → S → Type 0
KeepsAll state failed loans old new = (has_places (state new) ≡ has_places (state old)) × (loans new ≡ loans old) × (failed new ≡ failed old)

-- The same for a call that makes `f` of the page.
abbrev pub PageDoes : {S A : Type 0} → (S → Type 0) → (S → Page) → (Page → Page) → S → S → Result A EmitError → Type 0
PageDoes tells page f old new (Ok x) = tells old → tells new × (page new ≡ f (page old))
PageDoes tells page f old new (Err e) = tells old → tells new × IsLeft (page old) (page new) (f (page old)) × FaultFits e (f (page old))

-- Which faults a call may answer: want of memory and a place past the last only where positions are kept, and no node.
abbrev pub MayAnswer : {A : Type 0} → Bool → Result A EmitError → Type 0
MayAnswer places (Ok x) = Unit {0}
MayAnswer places (Err (Write kind)) = Unit {0}
MayAnswer places (Err Memory) = places ≡ true
MayAnswer places (Err Position) = places ≡ true
MayAnswer places (Err Node) = ⊥

-- the fault, or the answer, says that the writer failed
abbrev pub is_write : EmitError → Bool
is_write (Write kind) = true
is_write Memory = false
is_write Node = false
is_write Position = false

abbrev pub answers_write : {A : Type 0} → Result A EmitError → Bool
answers_write (Ok x) = false
answers_write (Err e) = is_write e

-- What each call keeps, and which faults it may answer: positions are kept as before, the loans are the
-- same, and one more write has failed exactly where the answer is `Write`.
abbrev pub Keeps : {S A : Type 0} → (S → State) → (S → ℕ) → (S → List GName) → S → S → Result A EmitError → Type 0
Keeps state failed loans old new result = (has_places (state new) ≡ has_places (state old)) × (loans new ≡ loans old)
    × (failed new ≡ count_after (answers_write result) (failed old)) × MayAnswer (has_places (state old)) result
