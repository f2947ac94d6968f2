use Rattle.print_nodes.proofs.properties.PropOfPrint.print.Goals as goal

pub returns-in-Getter-clause-laid : goal.returns-in-Getter-clause-laid
returns-in-Getter-clause-laid g c = rw c.in-Getter.is c.print-in-Getter.ensures.laid
