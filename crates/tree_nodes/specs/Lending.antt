-- That a child which is lent is another tree once the loan is over.
use Rattle.std.specs.Prelude.{Option}
use Rattle.std.specs.Borrow.{Lends, LendsIf, MutBor, Fml}
use Rattle.tree_spec.specs.Tree.{Tree}
use Rattle.tree_nodes.specs.Placed.{in_expr, in_stmt, in_pat}
use Rattle.tree_nodes.specs.declared.knot.Part.{Part}
use Rattle.tree_nodes.specs.declared.knot.Child.{Child}
use Rattle.tree_nodes.specs.contracts.knot.Child.{the_row as child_row}
use Rattle.tree_nodes.specs.contracts.knot.Part.{the_row as part_row}
use Rattle.tree_nodes.specs.declared.knot.Expr.{Expr}
use Rattle.tree_nodes.specs.declared.knot.ExprTag.{ExprTag}
use Rattle.tree_nodes.specs.contracts.knot.Expr.{the_row as expr_row}
use Rattle.tree_nodes.specs.contracts.knot.ExprTag.{the_row as expr_tag_row}
use Rattle.tree_nodes.specs.declared.knot.Stmt.{Stmt}
use Rattle.tree_nodes.specs.declared.knot.StmtTag.{StmtTag}
use Rattle.tree_nodes.specs.contracts.knot.Stmt.{the_row as stmt_row}
use Rattle.tree_nodes.specs.contracts.knot.StmtTag.{the_row as stmt_tag_row}
use Rattle.tree_nodes.specs.declared.knot.Pat.{Pat}
use Rattle.tree_nodes.specs.declared.knot.PatTag.{PatTag}
use Rattle.tree_nodes.specs.contracts.knot.Pat.{the_row as pat_row}
use Rattle.tree_nodes.specs.contracts.knot.PatTag.{the_row as pat_tag_row}

abbrev pub LendsPartExpr : MutBor Part → Option (MutBor Expr) → Fml
LendsPartExpr s r = LendsIf part_row expr_row s r in_expr s.now

-- a child with another expression in it
abbrev pub with_expr : Child Part ExprTag → Tree → Child Part ExprTag
with_expr c t = record c { part = record c.part { value = in_expr t } }

abbrev pub LendsIfExpr : MutBor (Child Part ExprTag) → Option (MutBor Expr) → Fml
LendsIfExpr s r = LendsIf (child_row part_row expr_tag_row) expr_row s r (with_expr s.now) s.now

abbrev pub LendsExpr : MutBor (Child Part ExprTag) → MutBor Expr → Fml
LendsExpr s r = Lends (child_row part_row expr_tag_row) expr_row s r (with_expr s.now)

abbrev pub LendsPartStmt : MutBor Part → Option (MutBor Stmt) → Fml
LendsPartStmt s r = LendsIf part_row stmt_row s r in_stmt s.now

-- a child with another statement in it
abbrev pub with_stmt : Child Part StmtTag → Tree → Child Part StmtTag
with_stmt c t = record c { part = record c.part { value = in_stmt t } }

abbrev pub LendsIfStmt : MutBor (Child Part StmtTag) → Option (MutBor Stmt) → Fml
LendsIfStmt s r = LendsIf (child_row part_row stmt_tag_row) stmt_row s r (with_stmt s.now) s.now

abbrev pub LendsStmt : MutBor (Child Part StmtTag) → MutBor Stmt → Fml
LendsStmt s r = Lends (child_row part_row stmt_tag_row) stmt_row s r (with_stmt s.now)

abbrev pub LendsPartPat : MutBor Part → Option (MutBor Pat) → Fml
LendsPartPat s r = LendsIf part_row pat_row s r in_pat s.now

-- a child with another pattern in it
abbrev pub with_pat : Child Part PatTag → Tree → Child Part PatTag
with_pat c t = record c { part = record c.part { value = in_pat t } }

abbrev pub LendsIfPat : MutBor (Child Part PatTag) → Option (MutBor Pat) → Fml
LendsIfPat s r = LendsIf (child_row part_row pat_tag_row) pat_row s r (with_pat s.now) s.now

abbrev pub LendsPat : MutBor (Child Part PatTag) → MutBor Pat → Fml
LendsPat s r = Lends (child_row part_row pat_tag_row) pat_row s r (with_pat s.now)
