use Rattle.std.proofs.Common.{sym, arith}
use Rattle.std.specs.Str.{chars}
use Rattle.lex_pieces.proofs.EscapeLemmas.{hex_run_more, hex_run_all}
use Rattle.lex_pieces.proofs.escapes.hex_run.Goals as goal

pub loop-digit-preserved : goal.loop-digit-preserved
loop-digit-preserved c = (
  c.in-Some.ensures.rest.0,
  omega (arith, c.in-Some.ensures.rest.1),
  omega (arith, c.min-value.ensures),
  hex_run_more _ (chars c.loop-digit.rest.now) (chars c.in-Some.more.now) c.loop-digit.value c.in-Some.digit c.min-value.result c.loop-digit.invariant.3 (sym c.in-Some.ensures.value) c.min-value.ensures,
)

pub returns-clause-value : goal.returns-clause-value
returns-clause-value c = (hex_run_all _ (chars c.loop-digit.rest.now) c.loop-digit.value c.loop-digit.invariant.3 (sym c.in_default.ensures.value)).0

pub returns-clause-after : goal.returns-clause-after
returns-clause-after c = (hex_run_all _ (chars c.loop-digit.rest.now) c.loop-digit.value c.loop-digit.invariant.3 (sym c.in_default.ensures.value)).1
