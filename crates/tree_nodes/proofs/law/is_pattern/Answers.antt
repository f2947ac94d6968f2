use Rattle.tree_nodes.specs.Placed.{inner}
use Rattle.tree_nodes.proofs.Sorted.{pat_sort}
use Rattle.tree_nodes.proofs.law.is_pattern.Goals as goal

pub returns : goal.returns
returns c = pat_sort inner c.args.kind.now
