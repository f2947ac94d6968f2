-- What stands for nodes in which a block or a declaration stands beside a child. `s` says whether a child's part
-- is a statement, and `f` what stands for it; a statement in the place of an expression or a pattern, which no tree
-- has, is seen as `super`.
use Rattle.std.specs.Prelude.{ℕ, Bool, true, false, if◌then◌else◌}
use Rattle.tree_nodes.specs.declared.knot.Child.{Child}
use Rattle.tree_nodes.specs.Placed.{Placed, in_expr, in_stmt, in_pat}
use Rattle.tree_nodes.specs.View.{view_block_stmt, view_var_decl, view_using_decl, view_expr_kind, view_stmt_kind}
use Rattle.tree_nodes.specs.declared.statements.VarDeclOrExprOf.{VarDeclOrExprOf}
use Rattle.tree_nodes.specs.declared.statements.VarDeclOrExprOf.TheVariants as VarDeclOrExpr
use Rattle.tree_nodes.specs.declared.statements.ForHeadOf.{ForHeadOf}
use Rattle.tree_nodes.specs.declared.statements.ForHeadOf.TheVariants as ForHead
use Rattle.tree_nodes.specs.declared.expressions.BlockStmtOrExprOf.{BlockStmtOrExprOf}
use Rattle.tree_nodes.specs.declared.expressions.BlockStmtOrExprOf.TheVariants as BlockStmtOrExpr
use Rattle.tree_nodes.specs.declared.expressions.ArrowExprOf.{ArrowExprOf}
use Rattle.tree_nodes.specs.declared.statements.ForStmtOf.{ForStmtOf}
use Rattle.tree_nodes.specs.declared.statements.ForInStmtOf.{ForInStmtOf}
use Rattle.tree_nodes.specs.declared.statements.ForOfStmtOf.{ForOfStmtOf}
use Rattle.tree_nodes.specs.declared.expressions.ExprKindOf.{ExprKindOf}
use Rattle.tree_nodes.specs.declared.expressions.ExprKindOf.TheVariants as ExprKind
use Rattle.tree_nodes.specs.declared.statements.StmtKindOf.{StmtKindOf}
use Rattle.tree_nodes.specs.declared.statements.StmtKindOf.TheVariants as StmtKind
use Rattle.tree_spec.specs.Places.{no_place}
use Rattle.tree_spec.specs.Tree.{Tree, trees_by, part_by, super, arrow_expr, for_stmt, for_in_stmt, for_of_stmt}

-- whether a part is a statement
abbrev pub is_in_stmt : Placed → Bool
is_in_stmt (in_expr t) = false
is_in_stmt (in_stmt t) = true
is_in_stmt (in_pat t) = false

-- whether a part is a pattern
abbrev pub is_in_pat : Placed → Bool
is_in_pat (in_expr t) = false
is_in_pat (in_stmt t) = false
is_in_pat (in_pat t) = true

-- a number for each sort
abbrev pub sort_number : Placed → ℕ
sort_number (in_expr t) = 0
sort_number (in_stmt t) = 1
sort_number (in_pat t) = 2

-- a child where no statement may stand
abbrev pub in_place : {T K : Type 0} → (T → Bool) → (T → Tree) → Child T K → Tree
in_place s f c = if s c.part.value then super no_place else f c.part.value

abbrev pub seen_block_stmt_or_expr : {T : Type 0} → (T → Bool) → (T → Tree) → BlockStmtOrExprOf T → Tree
seen_block_stmt_or_expr s f (BlockStmtOrExpr.BlockStmt x) = view_block_stmt f x
seen_block_stmt_or_expr s f (BlockStmtOrExpr.Expr x) = in_place s f x

abbrev pub seen_for_head : {T : Type 0} → (T → Bool) → (T → Tree) → ForHeadOf T → Tree
seen_for_head s f (ForHead.VarDecl x) = view_var_decl f x.value
seen_for_head s f (ForHead.UsingDecl x) = view_using_decl f x.value
seen_for_head s f (ForHead.Pat x) = in_place s f x

abbrev pub seen_var_decl_or_expr : {T : Type 0} → (T → Bool) → (T → Tree) → VarDeclOrExprOf T → Tree
seen_var_decl_or_expr s f (VarDeclOrExpr.VarDecl x) = view_var_decl f x.value
seen_var_decl_or_expr s f (VarDeclOrExpr.UsingDecl x) = view_using_decl f x.value
seen_var_decl_or_expr s f (VarDeclOrExpr.Expr x) = in_place s f x

abbrev pub seen_arrow_expr : {T : Type 0} → (T → Bool) → (T → Tree) → ArrowExprOf T → Tree
seen_arrow_expr s f a = arrow_expr a.span (trees_by (λ x. f x.part.value) a.params.items) (seen_block_stmt_or_expr s f a.body) a.is_async

abbrev pub seen_for_stmt : {T : Type 0} → (T → Bool) → (T → Tree) → ForStmtOf T → Tree
seen_for_stmt s f a = for_stmt a.span (part_by (seen_var_decl_or_expr s f) a.init) (part_by (λ x. f x.part.value) a.test) (part_by (λ x. f x.part.value) a.update) (f a.body.part.value)

abbrev pub seen_for_in_stmt : {T : Type 0} → (T → Bool) → (T → Tree) → ForInStmtOf T → Tree
seen_for_in_stmt s f a = for_in_stmt a.span (seen_for_head s f a.left) (f a.right.part.value) (f a.body.part.value)

abbrev pub seen_for_of_stmt : {T : Type 0} → (T → Bool) → (T → Tree) → ForOfStmtOf T → Tree
seen_for_of_stmt s f a = for_of_stmt a.span a.is_await (seen_for_head s f a.left) (f a.right.part.value) (f a.body.part.value)

abbrev pub seen_expr_kind : {T : Type 0} → (T → Bool) → (T → Tree) → ExprKindOf T → Tree
seen_expr_kind s f (ExprKind.Arrow x) = seen_arrow_expr s f x
seen_expr_kind s f k = view_expr_kind f k

abbrev pub seen_stmt_kind : {T : Type 0} → (T → Bool) → (T → Tree) → StmtKindOf T → Tree
seen_stmt_kind s f (StmtKind.For x) = seen_for_stmt s f x
seen_stmt_kind s f (StmtKind.ForIn x) = seen_for_in_stmt s f x
seen_stmt_kind s f (StmtKind.ForOf x) = seen_for_of_stmt s f x
seen_stmt_kind s f k = view_stmt_kind f k
