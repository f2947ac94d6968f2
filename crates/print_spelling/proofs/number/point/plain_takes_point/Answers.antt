use Rattle.print_spelling.proofs.number.TakesPointLemmas.{plain_then, plain_else}
use Rattle.print_spelling.proofs.number.point.plain_takes_point.Goals as goal

pub returns-then-is_digits : goal.returns-then-is_digits
returns-then-is_digits c = plain_then c.args.raw.now c.is_digits.result c.is_plain_octal.result c.is_digits.ensures c.if-is_digits.true c.is_plain_octal.ensures

pub returns-else-is_digits : goal.returns-else-is_digits
returns-else-is_digits c = plain_else c.args.raw.now c.is_digits.result c.is_digits.ensures c.if-is_digits.false
