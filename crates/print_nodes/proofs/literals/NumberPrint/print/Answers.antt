use Rattle.print_layout_spec.specs.Literals.{number}
use Rattle.print_pieces.proofs.Steps.{◌▸◌, laid_as}
use Rattle.print_nodes.proofs.Chosen.{same_two}
use Rattle.print_nodes.proofs.literals.NumberPrint.print.Goals as goal

pub returns-clause-laid : goal.returns-clause-laid
returns-clause-laid g c = c.mark_expression.ensures ▸ laid_as (same_two (number c.args.look c.args.self.now.span) c.deref.ensures c.read_text.ensures) c.print_number.ensures
