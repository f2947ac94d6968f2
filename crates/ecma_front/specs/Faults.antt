-- The faults of a run.
use Rattle.std.specs.Prelude.{Bool, true, false, Result, Ok, Err}
use Rattle.run_command.specs.declared.options.Options.{Options}
use Rattle.ecma_front.specs.declared.fault.Fault.{Fault}
use Rattle.ecma_front.specs.declared.fault.Fault.TheVariants.{Read, NotUtf8, TooLong, Syntax, TooDeep, Memory, Write, Position, Node}

-- the fault says that the reader failed
abbrev pub is_read_fault : Fault → Bool
is_read_fault (Read kind) = true
is_read_fault _ = false

-- the fault says that the writer failed
abbrev pub is_write_fault : Fault → Bool
is_write_fault (Write kind) = true
is_write_fault _ = false

-- the fault is one of the text itself, or of memory
abbrev pub is_text_fault : Fault → Bool
is_text_fault (NotUtf8 valid) = true
is_text_fault (Syntax e) = true
is_text_fault TooDeep = true
is_text_fault Memory = true
is_text_fault _ = false

-- the fault refuses the text that was read
abbrev pub is_refusal : Fault → Bool
is_refusal (NotUtf8 valid) = true
is_refusal TooLong = true
is_refusal (Syntax e) = true
is_refusal TooDeep = true
is_refusal _ = false

-- The fault may come once something is written; want of memory only where positions are kept.
abbrev pub is_of_writing : Options → Fault → Bool
is_of_writing o (Write kind) = true
is_of_writing o Position = true
is_of_writing o Memory = o.positions
is_of_writing o _ = false

-- the fault comes once the input was read to its end
abbrev pub is_past_input : Fault → Bool
is_past_input (NotUtf8 valid) = true
is_past_input (Syntax e) = true
is_past_input TooDeep = true
is_past_input (Write kind) = true
is_past_input Position = true
is_past_input Node = true
is_past_input _ = false

-- the fault is one of the reader, of the writer or of memory
abbrev pub is_failure : Fault → Bool
is_failure (Read kind) = true
is_failure (Write kind) = true
is_failure Memory = true
is_failure _ = false

-- the answer is a fault that passes
abbrev pub answers_fault : {A : Type 0} → (Fault → Bool) → Result A Fault → Bool
answers_fault p (Ok x) = false
answers_fault p (Err f) = p f

-- the answer comes once the input was read to its end
abbrev pub is_answered_past : {A : Type 0} → Result A Fault → Bool
is_answered_past (Ok x) = true
is_answered_past (Err f) = is_past_input f
