use Rattle.print_pieces.proofs.Steps.{◌▸◌}
use Rattle.print_pieces.proofs.literals.numbers.print_number.Goals as goal

pub returns : goal.returns
returns g c = c.commit.ensures ▸ (c.start.ensures ▸ c.print_number_text.ensures)
