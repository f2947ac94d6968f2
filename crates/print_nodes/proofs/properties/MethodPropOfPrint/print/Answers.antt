use Rattle.std.proofs.Common.{ap}
use Rattle.print_pieces.proofs.Steps.{◌▸◌, laid_as}
use Rattle.print_nodes.proofs.Chosen.{same_marks, waits_of, generates_of}
use Rattle.print_nodes.proofs.properties.MethodPropOfPrint.print.Goals as goal

pub returns-clause-laid : goal.returns-clause-laid
returns-clause-laid g c =
    c.start.ensures ▸ (laid_as (same_marks (ap waits_of c.deref.ensures) (ap generates_of c.deref-2.ensures)) c.print_marks.ensures
    ▸ (c.print.ensures.laid ▸ (c.gap.ensures ▸ c.print-2.ensures.laid)))
