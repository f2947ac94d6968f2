use Rattle.std.proofs.Common.{sym}
use Rattle.print_pieces.proofs.Steps.{◌▸◌}
use Rattle.print_nodes.proofs.switches.SwitchStmtOfPrint.print.Goals as goal

pub returns-clause-laid : goal.returns-clause-laid
returns-clause-laid g c = c.commit.ensures ▸ (c.start.ensures ▸ (c.text.ensures ▸ (c.print_in_parens.ensures ▸ (c.text-2.ensures ▸ ((rw (sym c.as_slice.ensures.value) c.print_indented_rows.ensures) ▸ (c.last.ensures ▸ c.brace.ensures))))))
