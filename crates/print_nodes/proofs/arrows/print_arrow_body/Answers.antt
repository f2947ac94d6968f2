use Rattle.std.proofs.Common.{sym}
use Rattle.print_pieces.proofs.Steps.{◌▸◌}
use Rattle.print_nodes.proofs.arrows.print_arrow_body.Goals as goal

pub returns-then-is_block : goal.returns-then-is_block
returns-then-is_block g c = rw (sym c.is_block.ensures) (rw c.if-is_block.true c.print.ensures.laid)

pub returns-else-is_block : goal.returns-else-is_block
returns-else-is_block g c = rw (sym c.is_block.ensures) (rw c.if-is_block.false (c.deeper.ensures ▸ (c.print-else-is_block.ensures.laid ▸ c.back.ensures)))
