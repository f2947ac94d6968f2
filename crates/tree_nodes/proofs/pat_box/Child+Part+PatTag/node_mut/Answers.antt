use Rattle.std.proofs.Common.{refl}
use Rattle.tree_nodes.proofs.pat_box.Child+Part+PatTag.node_mut.Goals as goal

pub returns : goal.returns
returns c = (rw c.deref_mut-part.ensures.value refl, rw (← c.deref_mut-part.ensures.value) c.pat_mut.ensures)
