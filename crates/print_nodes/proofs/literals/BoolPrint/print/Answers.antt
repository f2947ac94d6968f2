use Rattle.std.proofs.Common.{ℕ, List, ap}
use Rattle.print_layout_spec.specs.Looks.{text}
use Rattle.print_pieces.proofs.Steps.{◌▸◌, laid_as}
use Rattle.print_nodes.proofs.literals.BoolPrint.print.Goals as goal

pub returns-clause-laid : goal.returns-clause-laid
returns-clause-laid g c = c.start.ensures ▸ laid_as (ap (λ (b : List ℕ). text b) c.bool_text.ensures) c.text.ensures
