-- One layer of the readers.
use Rattle.std.proofs.Common.{◌≡◌, ℕ, zero, suc, ◌<◌, ◌-◌, refl, arith}
use Rattle.std.proofs.Math.Numerals.{sub-one}
use Rattle.grammar_spec.specs.Reader.Source.{Stream, Inner}
use Rattle.grammar_spec.specs.Reader.Expressions.{expr_by}
use Rattle.grammar_spec.specs.Reader.Statements.{pat_by, stmt_from, body_by, class_tail_by}
use Rattle.grammar_spec.specs.Reader.Reading.{readers}

abbrev pub layer : {S : Type 0} → Stream S → Inner S → Inner S
layer m inner = record { expr = expr_by m inner; pat = pat_by m inner; stmt = stmt_from m inner; body = body_by m inner; class_tail = class_tail_by m inner }

pub readers_go : {S : Type 0} (m : Stream S) (d : ℕ) → 0 < d → readers m d ≡ layer m (readers m (d - 1))
unfolding readers
readers_go m zero q = absurd (omega arith)
readers_go m (suc d) q = rw sub-one refl
