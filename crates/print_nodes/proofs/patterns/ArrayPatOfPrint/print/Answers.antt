use Rattle.std.proofs.Common.{sym}
use Rattle.print_pieces.proofs.Steps.{◌▸◌}
use Rattle.print_nodes.proofs.patterns.ArrayPatOfPrint.print.Goals as goal

pub returns-clause-laid : goal.returns-clause-laid
returns-clause-laid g c = rw (sym c.as_slice-elems.ensures.value) (c.start.ensures ▸ (c.text.ensures ▸ (c.print_separated.ensures ▸ (c.print_last_hole.ensures ▸ (c.text-2.ensures ▸ c.end.ensures)))))
