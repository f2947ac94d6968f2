use Rattle.std.proofs.Common.{not, codes, ap}
use Rattle.print_layout_spec.specs.Looks.{text}
use Rattle.print_pieces.proofs.Steps.{◌▸◌, when_as}
use Rattle.print_nodes.proofs.chains.SuperPropExprOfPrint.print.Goals as goal

pub returns-clause-laid : goal.returns-clause-laid
returns-clause-laid g c = c.start.ensures ▸ (c.print.ensures.laid ▸ (when_as (text (codes ".")) (ap not c.is_computed_super.ensures) c.text_if.ensures ▸ c.print-2.ensures.laid))
