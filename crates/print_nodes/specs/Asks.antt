-- What a printer asks of a node.
use Rattle.std.specs.Prelude.{Bool, true, false, Option}
use Rattle.std.specs.declared.vec.Vec.{Vec}
use Rattle.std.specs.declared.alloc.Global.{Global}
use Rattle.tree_spec.specs.Tree.{Tree, number_lit, hole, list, part_by, trees_by}
use Rattle.tree_nodes.specs.View.{view_expr_or_spread}
use Rattle.tree_nodes.specs.declared.expressions.ExprOrSpreadOf.{ExprOrSpreadOf}

-- whether it is a number
abbrev pub is_number : Tree → Bool
is_number (number_lit span value raw) = true
is_number t = false

-- whether it is an element that is left out
abbrev pub is_hole : Tree → Bool
is_hole hole = true
is_hole t = false

-- the arguments of `new`, where it has a list of them
abbrev pub args_tree : {T : Type 0} → (T → Tree) → Option (Vec (ExprOrSpreadOf T) Global) → Tree
args_tree f args = part_by (λ x. list (trees_by (view_expr_or_spread f) x.items)) args
