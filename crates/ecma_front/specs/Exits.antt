-- How a process ends by what a run came to: its status, and the line that tells a fault.
use Rattle.std.specs.Prelude.{◌≡◌, ◌⊎◌, ℕ, ◌+◌, true, if◌then◌else◌, List, ◌++◌, Option, None, Some, Result, Ok, Err, codes, decimal}
use Rattle.std.specs.Io.KnownBytes.{Appends}
use Rattle.base_token.specs.Counts.{one_more}
use Rattle.base_token.specs.Messages.{is_line}
use Rattle.base_token.specs.declared.place.LineCol.{LineCol}
use Rattle.print_writers.specs.Pages.{IsFront}
use Rattle.ecma_front.specs.declared.fault.Fault.{Fault}
use Rattle.ecma_front.specs.declared.fault.Fault.TheVariants as f
use Rattle.ecma_front.specs.Faults.{is_refusal}

-- ---- the status

-- the status by which a fault is told: 1 where it refuses the text that was read, else 3
abbrev pub status_in : Fault → ℕ
status_in fault = if is_refusal fault then 1 else 3

-- that of what a run came to: 0 where the program was written
abbrev pub status_of : {X : Type 0} → Result X Fault → ℕ
status_of (Ok x) = 0
status_of (Err fault) = status_in fault

-- ---- the line

-- What is wrong, in one line. Of a fault of the text any line is.
abbrev pub IsMessage : Fault → List ℕ → Type 0
IsMessage (f.Read kind) message = message ≡ codes "read failed"
IsMessage (f.NotUtf8 valid) message = message ≡ codes "the text is not UTF-8"
IsMessage f.TooLong message = message ≡ codes "the text is too long"
IsMessage (f.Syntax e) message = is_line message ≡ true
IsMessage f.TooDeep message = message ≡ codes "nested too deeply"
IsMessage f.Memory message = message ≡ codes "out of memory"
IsMessage (f.Write kind) message = message ≡ codes "write failed"
IsMessage f.Position message = message ≡ codes "position too large"
IsMessage f.Node message = message ≡ codes "node cannot be printed"
IsMessage f.Options message = message ≡ codes "options refused"

-- a place before a message: the line and the column, both from 1
abbrev pub place_told : LineCol → List ℕ
place_told place = decimal (place.line + 1) ++ (codes ":" ++ (decimal (place.col + 1) ++ codes ": "))

-- the line of a message, behind its place where it has one
abbrev pub line_of : Option LineCol → List ℕ → List ℕ
line_of None message = message ++ codes "\n"
line_of (Some place) message = place_told place ++ (message ++ codes "\n")

-- ---- what is printed

-- A writer got a beginning of the bytes.
abbrev pub Begins : Option (List ℕ) → Option (List ℕ) → List ℕ → Type 0
Begins before after bytes = (front : List ℕ) × IsFront front bytes × Appends before after front

-- It got the bytes, and none of its writes failed; or one did, and it got a beginning of them.
abbrev pub Prints : {E : Type 0} → (E → Option (List ℕ)) → (E → ℕ) → E → E → List ℕ → Type 0
Prints contents failures before after bytes =
    (Appends (contents before) (contents after) bytes × (failures after ≡ failures before))
    ⊎ (Begins (contents before) (contents after) bytes × (failures after ≡ one_more (failures before)))
