-- What is seen of a node is what it stands for, where each child is of the sort of its place.
use Rattle.std.proofs.Common.{◌≡◌, Bool, if◌then◌else◌, Option, Some, None, refl, ap}
use Rattle.std.specs.Bool.{Decides}
use Rattle.tree_spec.specs.Tree.{Tree, trees_by, part_by, super, arrow_expr, for_stmt, for_in_stmt, for_of_stmt}
use Rattle.tree_spec.specs.Places.{no_place}
use Rattle.tree_program_spec.specs.Program.{IsSameProgram}
use Rattle.tree_program_spec.specs.Same.{same}
use Rattle.tree_program_spec.proofs.SameLemmas.{same_decides}
use Rattle.tree_nodes.specs.Placed.{Placed, inner, in_expr, in_stmt, in_pat, holds_expr, holds_pat}
use Rattle.tree_nodes.specs.Fits.{fits_held, fits_expr_kind, fits_stmt_kind, fits_block_stmt_or_expr, fits_for_head, fits_var_decl_or_expr}
use Rattle.tree_nodes.specs.View.{view_expr_kind, view_stmt_kind, view_block_stmt_or_expr, view_for_head, view_var_decl_or_expr}
use Rattle.tree_nodes.specs.declared.knot.Child.{Child}
use Rattle.tree_nodes.specs.declared.statements.VarDeclOrExprOf.{VarDeclOrExprOf}
use Rattle.tree_nodes.specs.declared.statements.VarDeclOrExprOf.TheVariants as VarDeclOrExpr
use Rattle.tree_nodes.specs.declared.statements.ForHeadOf.{ForHeadOf}
use Rattle.tree_nodes.specs.declared.statements.ForHeadOf.TheVariants as ForHead
use Rattle.tree_nodes.specs.declared.expressions.BlockStmtOrExprOf.{BlockStmtOrExprOf}
use Rattle.tree_nodes.specs.declared.expressions.BlockStmtOrExprOf.TheVariants as BlockStmtOrExpr
use Rattle.tree_nodes.specs.declared.expressions.ExprKindOf.{ExprKindOf}
use Rattle.tree_nodes.specs.declared.expressions.ExprKindOf.TheVariants as ExprKind
use Rattle.tree_nodes.specs.declared.statements.StmtKindOf.{StmtKindOf}
use Rattle.tree_nodes.specs.declared.statements.StmtKindOf.TheVariants as StmtKind
use Rattle.tree_same.specs.Seen.{is_in_stmt, in_place, seen_block_stmt_or_expr, seen_for_head, seen_var_decl_or_expr, seen_expr_kind, seen_stmt_kind}

pub program_decides : (r : Bool) (t u : Tree) → r ≡ same t u → Decides r (IsSameProgram t u)
program_decides r t u h = rw h (same_decides t u)

expr_here : {K : Type 0} (c : Child Placed K) → holds_expr c.part.value → in_place is_in_stmt inner c ≡ inner c.part.value
expr_here c h = here c.part.value h
  where
    here : (p : Placed) → holds_expr p → (if is_in_stmt p then super no_place else inner p) ≡ inner p
    here (in_expr t) h = refl
    here (in_stmt t) h = absurd h
    here (in_pat t) h = absurd h

pat_here : {K : Type 0} (c : Child Placed K) → holds_pat c.part.value → in_place is_in_stmt inner c ≡ inner c.part.value
pat_here c h = here c.part.value h
  where
    here : (p : Placed) → holds_pat p → (if is_in_stmt p then super no_place else inner p) ≡ inner p
    here (in_expr t) h = absurd h
    here (in_stmt t) h = absurd h
    here (in_pat t) h = refl

body : (b : BlockStmtOrExprOf Placed) → fits_block_stmt_or_expr (λ p. p) b → seen_block_stmt_or_expr is_in_stmt inner b ≡ view_block_stmt_or_expr inner b
body (BlockStmtOrExpr.BlockStmt x) h = refl
body (BlockStmtOrExpr.Expr x) h = expr_here x h

head : (b : ForHeadOf Placed) → fits_for_head (λ p. p) b → seen_for_head is_in_stmt inner b ≡ view_for_head inner b
head (ForHead.VarDecl x) h = refl
head (ForHead.UsingDecl x) h = refl
head (ForHead.Pat x) h = pat_here x h

begin : (b : VarDeclOrExprOf Placed) → fits_var_decl_or_expr (λ p. p) b → seen_var_decl_or_expr is_in_stmt inner b ≡ view_var_decl_or_expr inner b
begin (VarDeclOrExpr.VarDecl x) h = refl
begin (VarDeclOrExpr.UsingDecl x) h = refl
begin (VarDeclOrExpr.Expr x) h = expr_here x h

init : (o : Option (VarDeclOrExprOf Placed)) → fits_held (λ x. fits_var_decl_or_expr (λ p. p) x) o → part_by (seen_var_decl_or_expr is_in_stmt inner) o ≡ part_by (view_var_decl_or_expr inner) o
init None h = refl
init (Some b) h = begin b h

expr_seen : (k : ExprKindOf Placed) → fits_expr_kind (λ p. p) k → seen_expr_kind is_in_stmt inner k ≡ view_expr_kind inner k
expr_seen (ExprKind.Arrow x) h = ap (λ t. arrow_expr x.span (trees_by (λ c. inner c.part.value) x.params.items) t x.is_async) (body x.body h.1)
expr_seen k h = refl

stmt_seen : (k : StmtKindOf Placed) → fits_stmt_kind (λ p. p) k → seen_stmt_kind is_in_stmt inner k ≡ view_stmt_kind inner k
stmt_seen (StmtKind.For x) h = ap (λ t. for_stmt x.span t (part_by (λ c. inner c.part.value) x.test) (part_by (λ c. inner c.part.value) x.update) (inner x.body.part.value)) (init x.init h.0)
stmt_seen (StmtKind.ForIn x) h = ap (λ t. for_in_stmt x.span t (inner x.right.part.value) (inner x.body.part.value)) (head x.left h.0)
stmt_seen (StmtKind.ForOf x) h = ap (λ t. for_of_stmt x.span x.is_await t (inner x.right.part.value) (inner x.body.part.value)) (head x.left h.0)
stmt_seen k h = refl

pub expr_knot : (a b : ExprKindOf Placed) → fits_expr_kind (λ p. p) a → fits_expr_kind (λ p. p) b → same (seen_expr_kind is_in_stmt inner a) (seen_expr_kind is_in_stmt inner b) ≡ same (view_expr_kind inner a) (view_expr_kind inner b)
expr_knot a b h k = rw (expr_seen a h) (rw (expr_seen b k) refl)

pub stmt_knot : (a b : StmtKindOf Placed) → fits_stmt_kind (λ p. p) a → fits_stmt_kind (λ p. p) b → same (seen_stmt_kind is_in_stmt inner a) (seen_stmt_kind is_in_stmt inner b) ≡ same (view_stmt_kind inner a) (view_stmt_kind inner b)
stmt_knot a b h k = rw (stmt_seen a h) (rw (stmt_seen b k) refl)
