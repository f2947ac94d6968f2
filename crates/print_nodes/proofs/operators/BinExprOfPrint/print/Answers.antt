use Rattle.std.proofs.Common.{refl}
use Rattle.print_layout_spec.specs.Looks.{start}
use Rattle.print_pieces.proofs.Steps.{◌▸◌, when_as}
use Rattle.print_nodes.proofs.Parts.{laid_like}
use Rattle.print_nodes.proofs.Spines.{operator_as}
use Rattle.print_nodes.proofs.operators.BinExprOfPrint.print.Goals as goal

pub returns-clause-laid : goal.returns-clause-laid
returns-clause-laid g c = laid_like (λ a. refl)
    (when_as (start c.args.self.now.span) c.marks_operator.ensures c.start_if.ensures ▸ (c.print.ensures.laid ▸ (operator_as c.args.look _ c.gap_before-gap_before.ensures c.gap_after-gap_after.ensures c.print_operator.ensures ▸ c.print-2.ensures.laid)))
