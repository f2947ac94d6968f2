use Rattle.std.proofs.Common.{refl}
use Rattle.tree_nodes.proofs.expr_box.Child+Part+ExprTag.node_mut.Goals as goal

pub returns : goal.returns
returns c = (rw c.deref_mut-part.ensures.value refl, rw (← c.deref_mut-part.ensures.value) c.expr_mut.ensures)
