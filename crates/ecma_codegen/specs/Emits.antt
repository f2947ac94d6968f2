-- What emitting a node makes of a writer.
use Rattle.std.specs.Prelude.{◌≡◌, ℕ, true, false, List, [], Option, None, Some, Result, Ok, Err}
use Rattle.std.specs.Borrow.{MutBor}
use base.Fml.{GName}
use Rattle.base_token.specs.Counts.{count_after}
use Rattle.print_writers.specs.Pages.{IsFront}
use Rattle.print_writers.specs.States.{State, FaultFits, answers_write, has_places}
use Rattle.print_writers.specs.declared.fault.EmitError.{EmitError}
use Rattle.print_writers.specs.declared.fault.EmitError.TheVariants.{Write, Memory, Node, Position}
use Rattle.print_pages_spec.specs.Pieces.{calls}
use Rattle.print_pages_spec.specs.Utf8.{IsUtf8Page}
use Rattle.print_layout_spec.specs.Looks.{Laid, listed, is_refused}

-- The state that a layout makes: its pieces, one after another.
abbrev pub emitted : Laid → State → State
emitted l s = calls (listed l []) s

-- A node is refused only where something of the layout can't be printed, want of memory and a place past the last are answered only
-- where positions are kept.
abbrev pub MayRefuse : EmitError → Laid → State → Type 0
MayRefuse (Write kind) l s = Unit {0}
MayRefuse Memory l s = has_places s ≡ true
MayRefuse Position l s = has_places s ≡ true
MayRefuse Node l s = is_refused l ≡ true

-- What was written and marked, to a writer whose bytes are known: the layout, or with a fault a beginning of it, behind what was written
-- before. What a page of text gets is text.
abbrev pub Emits : {S : Type 0} → (S → Type 0) → (S → State) → Laid → S → S → Result (Unit {0}) EmitError → Type 0
Emits tells state l old new (Ok x) =
    (is_refused l ≡ false) × (tells old → tells new × (state new ≡ emitted l (state old)) × (IsUtf8Page (state old).page → IsUtf8Page (state new).page))
Emits tells state l old new (Err e) =
    MayRefuse e l (state old)
    × (tells old → tells new × IsFront (state old).page.out (state new).page.out × IsFront (state new).page.out (emitted l (state old)).page.out × FaultFits e (emitted l (state old)).page)

-- Of a writer that writes comments between, whose bytes are not known: only whether something can't be printed.
abbrev pub Notes : {S : Type 0} → (S → State) → Laid → S → Result (Unit {0}) EmitError → Type 0
Notes state l old (Ok x) = is_refused l ≡ false
Notes state l old (Err e) = MayRefuse e l (state old)

-- What stays: whether positions are kept, the loans, and the count of failed writes, which rises by one exactly where the answer is `Write`.
abbrev pub Stays : {S : Type 0} → (S → State) → (S → ℕ) → (S → List GName) → S → S → Result (Unit {0}) EmitError → Type 0
Stays state failed loans old new r =
    (has_places (state new) ≡ has_places (state old)) × (loans new ≡ loans old) × (failed new ≡ count_after (answers_write r) (failed old))

-- The comments of a printer stay where they were lent; with none there are none.
abbrev pub IsHeld : {C : Type 0} → Option (MutBor C) → Option (MutBor C) → Type 0
IsHeld None new = new ≡ None
IsHeld (Some x) None = ⊥
IsHeld (Some x) (Some y) = y.ghost_name ≡ x.ghost_name
