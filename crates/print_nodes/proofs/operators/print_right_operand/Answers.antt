use Rattle.std.proofs.Common.{refl}
use Rattle.print_pieces.proofs.Steps.{◌▸◌}
use Rattle.print_nodes.proofs.Parts.{laid_like}
use Rattle.print_nodes.proofs.Spines.{operator_as}
use Rattle.print_nodes.proofs.operators.print_right_operand.Goals as goal

pub returns : goal.returns
returns g c = laid_like (λ a. refl) (operator_as c.args.look _ refl c.gap_after-gap_after.ensures c.print_operator.ensures ▸ c.print.ensures.laid)
