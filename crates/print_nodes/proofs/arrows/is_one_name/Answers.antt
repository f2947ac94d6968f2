use Rattle.print_nodes.proofs.Arrowed.{two_alone}
use Rattle.print_nodes.proofs.arrows.is_one_name.Goals as goal

pub returns-in_default-2 : goal.returns-in_default-2
returns-in_default-2 g c = two_alone g.T.Print.tree c.args.params.now c.in_default.len_at_least
