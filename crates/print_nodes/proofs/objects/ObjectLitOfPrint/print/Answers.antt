use Rattle.std.proofs.Common.{sym}
use Rattle.print_pieces.proofs.Steps.{◌▸◌}
use Rattle.print_nodes.proofs.objects.ObjectLitOfPrint.print.Goals as goal

pub returns-clause-laid : goal.returns-clause-laid
returns-clause-laid g c = c.start.ensures ▸ (c.text.ensures ▸ (rw (sym c.as_slice.ensures.value) c.print_indented_list.ensures ▸ (c.last.ensures ▸ c.brace.ensures)))
