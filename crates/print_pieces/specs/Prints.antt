-- What printing does to a writer.
use Rattle.std.specs.Prelude.{◌≡◌, ℕ, Bool, true, false, if◌then◌else◌, List, [], ◌∷◌, Option, Some, None}
use base.Fml.{GName}
use Rattle.base_token.specs.Counts.{count_after}
use Rattle.print_writers.specs.Pages.{IsFront}
use Rattle.print_writers.specs.States.{State, FaultFits, has_places, is_write}
use Rattle.print_writers.specs.declared.fault.EmitError.{EmitError}
use Rattle.print_writers.specs.declared.fault.EmitError.TheVariants.{Write, Memory, Node, Position}
use Rattle.print_pages_spec.specs.Pieces.{Piece, Text, Commit, Mark, call}
use Rattle.print_pages_spec.specs.Utf8.{IsUtf8Page}
use Rattle.print_layout_spec.specs.Looks.{Laid, nothing, one, meant, named, both, refused, texts_of}

-- What there is to write so far: the state that it makes of a writer, and whether something in it can't be printed, behind which
-- nothing is to be written. Beside it what a writer had at first: its bytes, whether they are known, whether its page is one of text, and
-- the count of failed writes, the loans and whether positions are kept.
pub record Asked : Type 0 where
  pub state : State
  pub stops : Bool
  pub before : List ℕ
  pub known : Bool
  pub textual : Bool
  pub failures : ℕ
  pub loans : List GName
  pub places : Bool

unfoldable pub ask : Piece → Asked → Asked
ask x a = if a.stops then a else record a { state = call x a.state }

unfoldable pub stop : Asked → Asked
stop a = record a { stops = true }

-- texts more, one after the other
abbrev pub lay_texts : List (List ℕ) → Asked → Asked
lay_texts [] a = a
lay_texts (own ∷ others) a = lay_texts others (ask (Text None own) a)

-- a part more
abbrev pub lay : Laid → Asked → Asked
lay nothing a = a
lay (one x) a = ask x a
lay (meant m) a = lay_texts (texts_of m) a
lay (named pos own) a = ask (Text None own) (ask (Mark pos) (ask Commit a))
lay (both f g) a = lay g (lay f a)
lay refused a = stop a

-- Which faults there may be: a node only where something can't be printed, want of memory and a place past the last only where positions
-- are kept.
abbrev pub MayFault : EmitError → Asked → Type 0
MayFault (Write kind) a = Unit {0}
MayFault Memory a = a.places ≡ true
MayFault Position a = a.places ≡ true
MayFault Node a = a.stops ≡ true

abbrev pub failed_by : Option EmitError → Bool
failed_by None = false
failed_by (Some e) = is_write e

-- What is written: without a fault all that there is to write, with one a beginning of it that has what was written at first.
abbrev pub Wrote : {S : Type 0} → (S → Type 0) → (S → State) → S → Option EmitError → Asked → Type 0
Wrote tells state w None a = (a.stops ≡ false) × (a.known ≡ true → tells w × (state w ≡ a.state))
Wrote tells state w (Some e) a = MayFault e a × (a.known ≡ true → tells w × IsFront a.before (state w).page.out × IsFront (state w).page.out a.state.page.out × FaultFits e a.state.page)

-- How far a writer is, with its fault. What there is to write begins with what was written at first, and is text where that was.
pub record IsAt {S : Type 0} (tells : S → Type 0) (state : S → State) (failed : S → ℕ) (loans : S → List GName) (w : S) (fault : Option EmitError) (a : Asked) : Type 0 where
  pub wrote : Wrote tells state w fault a
  pub begun : IsFront a.before a.state.page.out
  pub text : a.textual ≡ true → IsUtf8Page a.state.page
  pub failures : failed w ≡ count_after (failed_by fault) a.failures
  pub lent : loans w ≡ a.loans
  pub places : has_places (state w) ≡ a.places

-- What a part made of a writer and its fault: wherever they were in what there is to write, they are behind that part.
pub record Prints {S : Type 0} (tells : S → Type 0) (state : S → State) (failed : S → ℕ) (loans : S → List GName) (l : Laid) (w : S) (f : Option EmitError) (v : S) (g : Option EmitError) : Type 0 where
  pub so : (a : Asked) → IsAt tells state failed loans w f a → IsAt tells state failed loans v g (lay l a)
