use Rattle.std.proofs.Common.{All}
use Rattle.tree_visit_mut.proofs.walk.walk_all.Given as goal

abbrev pub invariant-loop-x : goal.invariant-loop-x
invariant-loop-x g l = All g.X.WalkMut.fits l.x-items
