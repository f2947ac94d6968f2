use Rattle.print_layout_spec.specs.Looks.{start}
use Rattle.print_pieces.proofs.Steps.{when_as}
use Rattle.print_nodes.proofs.literals.mark_expression.Goals as goal

pub returns : goal.returns
returns g c = when_as (start c.args.span) c.is_expression.ensures c.start_if.ensures
