use Rattle.std.proofs.Common.{refl}
use Rattle.print_nodes.proofs.Parts.{laid_like}
use Rattle.print_pieces.proofs.Steps.{◌▸◌}
use Rattle.print_nodes.proofs.exports.ExportDeclOfPrint.print.Goals as goal

pub returns-in-Class-clause-laid : goal.returns-in-Class-clause-laid
returns-in-Class-clause-laid g c = rw c.in-Class.is c.print_exported_class.ensures

pub returns-in-Fn-clause-laid : goal.returns-in-Fn-clause-laid
returns-in-Fn-clause-laid g c = rw c.in-Fn.is (laid_like (λ a. refl) c.print_exported.ensures)

pub returns-in-Var-clause-laid : goal.returns-in-Var-clause-laid
returns-in-Var-clause-laid g c = rw c.in-Var.is (laid_like (λ a. refl) (c.print_exported-in-Var.ensures ▸ (c.semi.ensures ▸ c.end.ensures)))

pub returns-in-Using-clause-laid : goal.returns-in-Using-clause-laid
returns-in-Using-clause-laid g c = rw c.in-Using.is (laid_like (λ a. refl) (c.print_exported-in-Using.ensures ▸ (c.semi-in-Using.ensures ▸ c.end-in-Using.ensures)))
