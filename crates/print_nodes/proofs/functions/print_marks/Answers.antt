use Rattle.print_pieces.proofs.Steps.{◌▸◌}
use Rattle.print_nodes.proofs.functions.print_marks.Goals as goal

pub returns : goal.returns
returns g c = c.word_if.ensures ▸ c.text_if.ensures
