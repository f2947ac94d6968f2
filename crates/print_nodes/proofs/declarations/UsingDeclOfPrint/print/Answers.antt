use Rattle.std.proofs.Common.{sym}
use Rattle.print_pieces.proofs.Steps.{◌▸◌}
use Rattle.print_nodes.proofs.declarations.UsingDeclOfPrint.print.Goals as goal

pub returns-clause-laid : goal.returns-clause-laid
returns-clause-laid g c = c.commit.ensures ▸ (c.word_if.ensures ▸ (c.text.ensures ▸ (c.blank.ensures ▸ rw (sym c.as_slice.ensures.value) c.print_separated.ensures)))
