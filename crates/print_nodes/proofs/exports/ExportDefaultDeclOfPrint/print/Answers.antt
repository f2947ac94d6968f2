use Rattle.print_nodes.proofs.exports.ExportDefaultDeclOfPrint.print.Goals as goal

pub returns-in-Class-clause-laid : goal.returns-in-Class-clause-laid
returns-in-Class-clause-laid g c = rw c.in-Class.is c.print_default_class.ensures

pub returns-in-Fn-clause-laid : goal.returns-in-Fn-clause-laid
returns-in-Fn-clause-laid g c = rw c.in-Fn.is c.print_default_function.ensures
