-- What is of a sort stays of it.
use Rattle.tree_nodes.specs.Placed.{Placed, in_expr, in_stmt, in_pat, holds_expr, holds_stmt, holds_pat}
use Rattle.tree_visit_mut.specs.Sorts.{SameSort}

pub expr_stays : (p q : Placed) → SameSort p q → holds_expr p → holds_expr q
expr_stays (in_expr s) (in_expr t) same h = tt
expr_stays (in_stmt s) q same h = elim h [ ]
expr_stays (in_pat s) q same h = elim h [ ]
expr_stays (in_expr s) (in_stmt t) same h = elim same [ ]
expr_stays (in_expr s) (in_pat t) same h = elim same [ ]

pub stmt_stays : (p q : Placed) → SameSort p q → holds_stmt p → holds_stmt q
stmt_stays (in_stmt s) (in_stmt t) same h = tt
stmt_stays (in_expr s) q same h = elim h [ ]
stmt_stays (in_pat s) q same h = elim h [ ]
stmt_stays (in_stmt s) (in_expr t) same h = elim same [ ]
stmt_stays (in_stmt s) (in_pat t) same h = elim same [ ]

pub pat_stays : (p q : Placed) → SameSort p q → holds_pat p → holds_pat q
pat_stays (in_pat s) (in_pat t) same h = tt
pat_stays (in_expr s) q same h = elim h [ ]
pat_stays (in_stmt s) q same h = elim h [ ]
pat_stays (in_pat s) (in_expr t) same h = elim same [ ]
pat_stays (in_pat s) (in_stmt t) same h = elim same [ ]
