use Rattle.std.proofs.Common.{codes}
use Rattle.print_layout_spec.specs.Looks.{text}
use Rattle.print_pieces.proofs.Steps.{◌▸◌, when_as}
use Rattle.print_nodes.proofs.calls.ExprOrSpreadOfPrint.print.Goals as goal

pub returns-clause-laid : goal.returns-clause-laid
returns-clause-laid g c = when_as (text (codes "...")) c.is_some.ensures c.text_if.ensures ▸ c.print.ensures.laid
