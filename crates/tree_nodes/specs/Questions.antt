-- Questions about a tree, and about what stands in a child's place.
use Rattle.std.specs.Prelude.{Bool, true, false}
use Rattle.tree_spec.specs.Tree.{Tree, absent, debugger_stmt, empty_stmt, expr_stmt, str_lit, ident, binding_ident}
use Rattle.tree_nodes.specs.Placed.{Placed, in_expr, in_stmt, in_pat}

-- the expression in a place, and its kin; what is of another sort counts as absent
abbrev pub expr_in : Placed → Tree
expr_in (in_expr t) = t
expr_in (in_stmt _) = absent
expr_in (in_pat _) = absent

abbrev pub stmt_in : Placed → Tree
stmt_in (in_expr _) = absent
stmt_in (in_stmt t) = t
stmt_in (in_pat _) = absent

abbrev pub pat_in : Placed → Tree
pat_in (in_expr _) = absent
pat_in (in_stmt _) = absent
pat_in (in_pat t) = t

-- `debugger;` (14.16)
abbrev pub is_debugger : Tree → Bool
is_debugger (debugger_stmt _) = true
is_debugger _ = false

-- `;` (14.4)
abbrev pub is_empty : Tree → Bool
is_empty (empty_stmt _) = true
is_empty _ = false

-- a string without parentheses as a statement, as a directive is (11.2.1)
abbrev pub is_directive : Tree → Bool
is_directive (expr_stmt _ (str_lit _ _ _)) = true
is_directive _ = false

-- a name, as an expression and as a pattern
abbrev pub is_name : Tree → Bool
is_name (ident _ _) = true
is_name _ = false

abbrev pub is_bound_name : Tree → Bool
is_bound_name (binding_ident _ _) = true
is_bound_name _ = false
