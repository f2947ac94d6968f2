use Rattle.std.proofs.Common.{rules, sym}
use Rattle.parse_expressions.proofs.turns.postfix.Goals as goal

pub returns-clause-value : goal.returns-clause-value
returns-clause-value g c = rw (sym c.requires.mark) (search rules)
