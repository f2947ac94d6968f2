use Rattle.std.proofs.Common.{ap, sym}
use Rattle.print_layout_spec.specs.Looks.{text}
use Rattle.print_pieces.proofs.Steps.{◌▸◌, laid_as}
use Rattle.print_nodes.proofs.operators.UpdateExprOfPrint.print.Goals as goal

pub returns-then-self-clause-laid : goal.returns-then-self-clause-laid
returns-then-self-clause-laid g c = rw c.if-self.true (c.start.ensures ▸ (laid_as (ap text c.update_sign.ensures) c.write.ensures ▸ c.print.ensures.laid))

pub returns-else-self-clause-laid : goal.returns-else-self-clause-laid
returns-else-self-clause-laid g c = rw c.if-self.false (c.start.ensures ▸ (c.print-else-self.ensures.laid ▸ rw (sym c.update_sign-else-self.ensures) c.write-else-self.ensures))
