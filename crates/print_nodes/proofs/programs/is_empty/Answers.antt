use Rattle.print_nodes.proofs.Chosen.{some_part}
use Rattle.print_nodes.proofs.programs.is_empty.Goals as goal

pub returns-in-len1-up : goal.returns-in-len1-up
returns-in-len1-up g c = some_part g.T.Print.tree c.args.items.now c.in-len1-up.len_at_least
