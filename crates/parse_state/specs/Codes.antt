-- The code around a token, as the parser hands it on.
use Rattle.std.specs.Prelude.{false, true}
use Rattle.grammar_spec.specs.Tokens.Input.{Code}
use Rattle.parse_state.specs.declared.code.Around.{Around}

-- Reading binds, judges places and sets apart nothing by the code, so these parts are fixed.
abbrev pub code_of : Around → Code
code_of a = record { syntax = a.syntax; context = a.context; listed = a.listed; binds = false; sets = false; placed = true }
