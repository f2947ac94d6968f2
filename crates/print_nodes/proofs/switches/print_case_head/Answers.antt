use Rattle.std.proofs.Common.{codes}
use Rattle.print_layout_spec.specs.Looks.{text}
use Rattle.print_pieces.proofs.Steps.{◌▸◌, chosen, gap_as}
use Rattle.print_nodes.proofs.switches.print_case_head.Goals as goal

pub returns-in-Some : goal.returns-in-Some
returns-in-Some g c = rw c.in-Some.is (chosen (text (codes "default")) c.print.ensures.there (c.text.ensures ▸ (gap_as c.args.look c.starts_with_word.ensures c.gap_or.ensures ▸ c.print.ensures.laid)))
