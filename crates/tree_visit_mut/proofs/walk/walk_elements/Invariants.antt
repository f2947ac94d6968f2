use Rattle.std.proofs.Common.{All}
use Rattle.tree_nodes.specs.Fits.{fits_held}
use Rattle.tree_visit_mut.proofs.walk.walk_elements.Given as goal

abbrev pub invariant-loop-x : goal.invariant-loop-x
invariant-loop-x g l = All (λ x. fits_held g.X.WalkMut.fits x) l.x-items
