-- That what stands in a place stays of its sort.
use Rattle.tree_nodes.specs.Placed.{Placed, in_expr, in_stmt, in_pat}

-- both are expressions, both statements, or both patterns
abbrev pub SameSort : Placed → Placed → Type 0
SameSort (in_expr s) (in_expr t) = Unit {0}
SameSort (in_stmt s) (in_stmt t) = Unit {0}
SameSort (in_pat s) (in_pat t) = Unit {0}
SameSort p q = ⊥
