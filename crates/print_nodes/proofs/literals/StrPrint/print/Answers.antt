use Rattle.print_layout_spec.specs.Literals.{string}
use Rattle.print_pieces.proofs.Steps.{◌▸◌, laid_as}
use Rattle.print_nodes.proofs.Chosen.{same_two}
use Rattle.print_nodes.proofs.literals.StrPrint.print.Goals as goal

pub returns-clause-laid : goal.returns-clause-laid
returns-clause-laid g c = c.mark_expression.ensures ▸ laid_as (same_two (string c.args.look c.args.self.now.span) c.as_slice.ensures c.read_text.ensures) c.print_string.ensures
