-- What reading a reader to its end may answer.
use Rattle.ecma_front.specs.declared.fault.Fault.{Fault}
use Rattle.ecma_front.specs.declared.fault.Fault.TheVariants.{Read, TooLong, Memory}

-- a fault of reading bytes, of their length, or of memory
abbrev pub IsInputFault : Fault → Type 0
IsInputFault (Read kind) = Unit {0}
IsInputFault TooLong = Unit {0}
IsInputFault Memory = Unit {0}
IsInputFault _ = ⊥
