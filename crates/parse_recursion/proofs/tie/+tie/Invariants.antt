use Rattle.parse_recursion.proofs.tie.+tie.Given as goal

abbrev pub decreases-parse_expr : goal.decreases-parse_expr
decreases-parse_expr g l = l.depth

abbrev pub decreases-parse_pat : goal.decreases-parse_pat
decreases-parse_pat g l = l.depth

abbrev pub decreases-parse_stmt : goal.decreases-parse_stmt
decreases-parse_stmt g l = l.depth

abbrev pub decreases-parse_body : goal.decreases-parse_body
decreases-parse_body g l = l.depth

abbrev pub decreases-parse_class_tail : goal.decreases-parse_class_tail
decreases-parse_class_tail g l = l.depth
