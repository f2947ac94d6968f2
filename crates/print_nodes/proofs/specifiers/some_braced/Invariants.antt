use Rattle.std.proofs.Common.{◌≡◌, drop}
use Rattle.tree_spec.specs.Tree.{trees_by}
use Rattle.print_nodes.specs.Specifiers.{some_stands}
use Rattle.print_nodes.proofs.specifiers.some_braced.Given as goal

abbrev pub invariant-loop-x : goal.invariant-loop-x
invariant-loop-x g l = some_stands g.T.PrintName.stands (trees_by g.T.Print.tree (drop l.x-index l.items)) ≡ some_stands g.T.PrintName.stands (trees_by g.T.Print.tree l.items)
