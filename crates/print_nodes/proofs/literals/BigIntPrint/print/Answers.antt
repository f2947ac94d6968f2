use Rattle.print_layout_spec.specs.Literals.{big_integer}
use Rattle.print_pieces.proofs.Steps.{◌▸◌, laid_as}
use Rattle.print_nodes.proofs.Chosen.{same_two}
use Rattle.print_nodes.proofs.literals.BigIntPrint.print.Goals as goal

pub returns-clause-laid : goal.returns-clause-laid
returns-clause-laid g c =
    c.mark_expression.ensures
    ▸ laid_as (same_two (big_integer c.args.look c.args.self.now.span c.args.self.now.radix) c.as_str.ensures c.read_text.ensures) c.print_big_integer.ensures
