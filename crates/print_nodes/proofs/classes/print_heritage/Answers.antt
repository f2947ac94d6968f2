use Rattle.print_pieces.proofs.Steps.{present, gap_as, ◌▸◌}
use Rattle.print_nodes.proofs.classes.print_heritage.Goals as goal

pub returns-in-Some : goal.returns-in-Some
returns-in-Some g c = rw c.in-Some.is (present c.print.ensures.there (c.blank.ensures ▸ (c.text.ensures ▸ (gap_as c.args.look c.starts_with_word.ensures c.gap_or.ensures ▸ c.print.ensures.laid))))
