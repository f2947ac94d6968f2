-- The state of a writer in which semicolons wait.
use Rattle.std.specs.Prelude.{◌≡◌, true, Option, Some, None, IsSome, Result, Ok, Err}
use Rattle.base_token.specs.declared.place.Span.{Span}
use Rattle.print_writers.specs.declared.omit.OmitTrailingSemi.{OmitTrailingSemi}
use Rattle.print_writers.specs.declared.fault.EmitError.{EmitError}
use Rattle.print_writers.specs.Pages.{IsLeft}
use Rattle.print_writers.specs.States.{State, commit, FaultFits}

-- the semicolon that waits, here or behind
abbrev pub waiting : Option Span → Option Span → Option Span
waiting None behind = behind
waiting (Some span) behind = Some span

abbrev pub omit_state : {W : Type 0} → (W → State) → OmitTrailingSemi W → State
omit_state state w = record { page = (state w.inner).page; held = waiting w.pending (state w.inner).held; holds = true }

-- the writer behind is known, and at most one semicolon waits
abbrev pub omit_tells : {W : Type 0} → (W → Type 0) → (W → State) → OmitTrailingSemi W → Type 0
omit_tells tells state w = tells w.inner × (IsSome w.pending → (state w.inner).held ≡ None)

-- The semicolon was written, and none waits here or behind.
abbrev pub Settles : {W A : Type 0} → (W → Type 0) → (W → State) → OmitTrailingSemi W → OmitTrailingSemi W → Result A EmitError → Type 0
Settles tells state old new (Ok x) = omit_tells tells state old → tells new.inner × (new.pending ≡ None)
    × (state new.inner ≡ record (state old.inner) { page = (commit (omit_state state old)).page; held = None })
Settles tells state old new (Err e) = omit_tells tells state old → omit_tells tells state new
    × IsLeft (omit_state state old).page (omit_state state new).page (commit (omit_state state old)).page × FaultFits e (commit (omit_state state old)).page
