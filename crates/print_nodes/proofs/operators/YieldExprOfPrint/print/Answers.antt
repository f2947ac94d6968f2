use Rattle.print_pieces.proofs.Steps.{◌▸◌}
use Rattle.print_nodes.proofs.operators.YieldExprOfPrint.print.Goals as goal

pub returns-then-self-clause-laid : goal.returns-then-self-clause-laid
returns-then-self-clause-laid g c = rw c.if-self.true (c.start.ensures ▸ (c.text.ensures ▸ (c.text-then-self.ensures ▸ c.print_behind_gap.ensures)))

pub returns-else-self-clause-laid : goal.returns-else-self-clause-laid
returns-else-self-clause-laid g c = rw c.if-self.false (c.start.ensures ▸ (c.text.ensures ▸ c.print_operand.ensures))
