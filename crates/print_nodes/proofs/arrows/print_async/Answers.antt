use Rattle.print_nodes.proofs.Arrowed.{blank_behind}
use Rattle.print_pieces.proofs.Steps.{◌▸◌, laid_as, present}
use Rattle.print_nodes.proofs.arrows.print_async.Goals as goal

pub returns-then-waits : goal.returns-then-waits
returns-then-waits g c = present c.if-waits.true (c.text.ensures ▸ laid_as (blank_behind c.args.look c.args.one_name) c.gap_or.ensures)
