-- What the steps of reading and printing answer.
use Rattle.std.specs.Prelude.{◌≡◌, ℕ, min, List, [], ◌∷◌, Option, Result, Ok, Err}
use Rattle.base_token.specs.declared.place.BytePos.{BytePos}
use Rattle.base_token.specs.declared.place.LineCol.{LineCol}
use Rattle.base_token.specs.declared.error.Error.{Error}
use Rattle.parse_state.specs.declared.failure.Failure.{Failure}
use Rattle.parse_state.specs.declared.failure.Failure.TheVariants as failures
use Rattle.print_writers.specs.declared.fault.EmitError.{EmitError}
use Rattle.print_writers.specs.declared.fault.EmitError.TheVariants as w
use Rattle.tree_spec.specs.Tree.{Tree}
use Rattle.run_command.specs.declared.options.Options.{Options}
use Rattle.run_print.specs.Prints.{IsDone, IsStopped}
use Rattle.ecma_front.specs.declared.fault.Fault.{Fault}
use Rattle.ecma_front.specs.declared.fault.Fault.TheVariants as f
use Rattle.ecma_front.specs.Formats.{IsProgramIn, IsRefused}

-- the same error, which begins at this place at the latest
abbrev pub held_before : ℕ → Error → Error
held_before place e = record { span = record { lo = record { 0 = min e.span.lo.0 place }; hi = e.span.hi }; kind = e.kind }

-- the fault of a run that a failure of the parser is, which begins at this place at the latest
abbrev pub fault_in : ℕ → Failure → Fault
fault_in place failures.Memory = f.Memory
fault_in place failures.TooDeep = f.TooDeep
fault_in place (failures.Syntax e) = f.Syntax (held_before place e)

-- What was parsed where no fault was recorded; else the first of them, or why nothing was parsed, which begins at this place at the latest.
abbrev pub Judges : {X : Type 0} → ℕ → Result X Failure → List Error → Result X Fault → Type 0
Judges place (Ok x) [] (Ok y) = y ≡ x
Judges place (Ok x) (e ∷ es) (Err fault) = fault ≡ f.Syntax e
Judges place (Err e) recorded (Err fault) = fault ≡ fault_in place e
Judges place parsed recorded answer = ⊥

-- the fault of a run that a fault of the printer is told as
abbrev pub fault_of : EmitError → Fault
fault_of (w.Write kind) = f.Write kind
fault_of w.Memory = f.Memory
fault_of w.Node = f.Node
fault_of w.Position = f.Position

-- What printing a program to a writer answers.
abbrev pub Writes : {P : Type 0} → (P → List (BytePos × LineCol)) → Options → Tree → Option (List ℕ) → Option (List ℕ) → Result (Option P) Fault → Type 0
Writes items o t before after (Ok positions) = IsDone items o t before after positions
Writes items o t before after (Err fault) = (e : EmitError) × (fault ≡ fault_of e) × IsStopped o t before after e

-- The program of the bytes; or why they have none within the limit.
abbrev pub ReadsBytes : Options → List ℕ → Result Tree Fault → Type 0
ReadsBytes o bytes (Ok t) = IsProgramIn o bytes t
ReadsBytes o bytes (Err fault) = IsRefused o bytes fault
