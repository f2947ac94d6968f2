use Rattle.print_layout_spec.specs.Literals.{number, number_before_point}
use Rattle.print_pieces.proofs.Steps.{◌▸◌, laid_as}
use Rattle.print_nodes.proofs.Chosen.{same_two}
use Rattle.print_nodes.proofs.chains.print_number_object.Goals as goal

pub returns-then-keeps : goal.returns-then-keeps
returns-then-keeps g c = rw c.if-keeps.true (c.start.ensures ▸ laid_as (same_two (number c.args.look c.args.n.now.span) c.deref.ensures c.read_text.ensures) c.print_number.ensures)

pub returns-else-keeps : goal.returns-else-keeps
returns-else-keeps g c = rw c.if-keeps.false (c.start.ensures ▸ laid_as (same_two (number_before_point c.args.look c.args.n.now.span) c.deref-else-keeps.ensures c.read_text-else-keeps.ensures) c.print_number_before_point.ensures)
