-- The faults that a source of tokens recorded.
use Rattle.std.specs.Prelude.{List}
use Rattle.base_token.specs.declared.error.Error.{Error}
use Rattle.lex_source.specs.declared.faults.FaultLog.{FaultLog}

-- those that were recorded, in order
abbrev pub recorded_in : FaultLog → List Error
recorded_in f = f.recorded.items

-- those of modules, which wait until the text is known to be one
abbrev pub waiting_in : FaultLog → List Error
waiting_in f = f.waiting.items
