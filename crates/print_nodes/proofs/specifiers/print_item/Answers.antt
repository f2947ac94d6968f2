use Rattle.std.proofs.Common.{sym, ◌∙◌}
use Rattle.print_pieces.proofs.Steps.{◌▸◌, present}
use Rattle.print_nodes.proofs.specifiers.print_item.Goals as goal

pub returns-clause-laid : goal.returns-clause-laid
returns-clause-laid g c = present (sym c.is_braced.ensures ∙ c.if-not-is_braced.false) (c.print_comma_if.ensures ▸ c.print.ensures.laid)
