use Rattle.std.proofs.Common.{rules}
use Rattle.tree_nodes.specs.Placed.{inner}
use Rattle.parse_operands.proofs.Packs.{packed_more}
use Rattle.parse_expressions.proofs.sequences.more_seq.Goals as goal

pub returns-clause-value : goal.returns-clause-value
returns-clause-value c = rw (packed_more (λ x. inner x.part.value) c.args.node.exprs.items c.args.right.expr) (search rules)
