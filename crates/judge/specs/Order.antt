-- The order of faults as one number: the place where a fault starts, and its row in the table.
use Rattle.std.specs.Prelude.{ℕ, ◌+◌, ◌*◌}
use Rattle.base_token.specs.declared.error.Error.{Error}
use Rattle.grammar_spec.specs.Judge.Early.{row}

abbrev pub order_key : Error → ℕ
order_key e = e.span.lo.0 * 32 + row e.kind
