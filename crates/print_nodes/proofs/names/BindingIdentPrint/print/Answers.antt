use Rattle.std.proofs.Common.{ℕ, List, ap}
use Rattle.print_layout_spec.specs.Literals.{identifier}
use Rattle.print_pieces.proofs.Steps.{laid_as}
use Rattle.print_nodes.proofs.names.BindingIdentPrint.print.Goals as goal

pub returns-clause-laid : goal.returns-clause-laid
returns-clause-laid g c = laid_as (ap (λ (b : List ℕ). identifier c.args.look c.args.self.now.span b) c.as_str.ensures) c.print_identifier.ensures
