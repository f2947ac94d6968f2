use Rattle.print_nodes.proofs.Spines.{if_printed}
use Rattle.print_nodes.proofs.ifs.IfStmtOfPrint.print.Goals as goal

pub returns-clause-laid : goal.returns-clause-laid
returns-clause-laid g c = if_printed g.T.Print.tree c.args.look c.args.self.now c.is_block.ensures c.print_consequence.ensures c.print_alternative.ensures
