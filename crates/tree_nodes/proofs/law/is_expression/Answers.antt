use Rattle.tree_nodes.specs.Placed.{inner}
use Rattle.tree_nodes.proofs.Sorted.{expr_sort}
use Rattle.tree_nodes.proofs.law.is_expression.Goals as goal

pub returns : goal.returns
returns c = expr_sort inner c.args.kind.now
