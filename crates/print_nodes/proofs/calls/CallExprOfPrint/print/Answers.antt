use Rattle.std.proofs.Common.{sym}
use Rattle.print_pieces.proofs.Steps.{◌▸◌}
use Rattle.print_nodes.proofs.calls.CallExprOfPrint.print.Goals as goal

pub returns-clause-laid : goal.returns-clause-laid
returns-clause-laid g c = c.commit.ensures ▸ (c.start.ensures ▸ (c.print.ensures.laid ▸ rw (sym c.as_slice.ensures.value) c.print_arguments.ensures))
