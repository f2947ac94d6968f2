use Rattle.tree_nodes.specs.Placed.{inner}
use Rattle.tree_nodes.proofs.Sorted.{stmt_sort}
use Rattle.tree_nodes.proofs.law.is_statement.Goals as goal

pub returns : goal.returns
returns c = stmt_sort inner c.args.kind.now
