use Rattle.std.proofs.Common.{ap}
use Rattle.print_layout_spec.specs.Looks.{text}
use Rattle.print_pieces.proofs.Steps.{laid_as}
use Rattle.print_pieces.proofs.literals.templates.print_quasi.Goals as goal

pub returns-then-tagged : goal.returns-then-tagged
returns-then-tagged g c = rw c.if-tagged.true c.write.ensures

pub returns-else-tagged : goal.returns-else-tagged
returns-else-tagged g c = rw c.if-tagged.false (laid_as (ap text c.new.ensures) c.print_template_parts.ensures)
