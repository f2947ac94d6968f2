use Rattle.std.proofs.Common.{ap}
use Rattle.print_layout_spec.specs.Looks.{text}
use Rattle.print_pieces.proofs.Steps.{◌▸◌, laid_as}
use Rattle.print_nodes.proofs.assignments.AssignExprOfPrint.print.Goals as goal

pub returns-clause-laid : goal.returns-clause-laid
returns-clause-laid g c = c.print.ensures.laid ▸ (c.gap.ensures ▸ (laid_as (ap text c.as_str.ensures) c.write.ensures ▸ (c.gap-2.ensures ▸ c.print-2.ensures.laid)))
