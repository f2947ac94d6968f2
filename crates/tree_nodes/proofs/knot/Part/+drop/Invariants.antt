use Rattle.std.proofs.Common.{◌≤◌}
use Rattle.tree_nodes.specs.declared.knot.Expr.TheDeep.{size-Part}
use Rattle.tree_nodes.proofs.knot.Part.+drop.Given as goal

abbrev pub invariant-chain : goal.invariant-chain
invariant-chain l = size-Part l.self ≤ size-Part l.fn.self
