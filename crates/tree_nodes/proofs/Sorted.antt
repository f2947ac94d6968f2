-- Of which sort nodes are.
use Rattle.std.proofs.Common.{◌≡◌, refl}
use Rattle.tree_spec.specs.Tree.{Tree}
use Rattle.tree_nodes.specs.declared.declarations.DeclOf.{DeclOf}
use Rattle.tree_nodes.specs.declared.declarations.DeclOf.TheVariants as Decl
use Rattle.tree_nodes.specs.declared.literals.Lit.{Lit}
use Rattle.tree_nodes.specs.declared.literals.Lit.TheVariants as LitKind
use Rattle.tree_nodes.specs.declared.expressions.ExprKindOf.{ExprKindOf}
use Rattle.tree_nodes.specs.declared.expressions.ExprKindOf.TheVariants as ExprKind
use Rattle.tree_nodes.specs.declared.statements.StmtKindOf.{StmtKindOf}
use Rattle.tree_nodes.specs.declared.statements.StmtKindOf.TheVariants as StmtKind
use Rattle.tree_nodes.specs.declared.patterns.PatKindOf.{PatKindOf}
use Rattle.tree_nodes.specs.declared.patterns.PatKindOf.TheVariants as PatKind
use Rattle.tree_nodes.specs.View.{view_decl, view_lit, view_expr_kind, view_pat_kind, view_stmt_kind}
use Rattle.tree_nodes.specs.Sorts.{expression, statement, pattern, sort_of}

lit_sort : (l : Lit) → sort_of (view_lit l) ≡ expression
lit_sort (LitKind.Str x) = refl
lit_sort l = refl

decl_sort : {T : Type 0} (f : T → Tree) (d : DeclOf T) → sort_of (view_decl f d) ≡ statement
decl_sort f (Decl.Class x) = refl
decl_sort f d = refl

pub expr_sort : {T : Type 0} (f : T → Tree) (k : ExprKindOf T) → sort_of (view_expr_kind f k) ≡ expression
expr_sort f (ExprKind.Lit l) = lit_sort l
expr_sort f k = refl

pub stmt_sort : {T : Type 0} (f : T → Tree) (k : StmtKindOf T) → sort_of (view_stmt_kind f k) ≡ statement
stmt_sort f (StmtKind.Decl d) = decl_sort f d
stmt_sort f k = refl

pub pat_sort : {T : Type 0} (f : T → Tree) (k : PatKindOf T) → sort_of (view_pat_kind f k) ≡ pattern
pat_sort f (PatKind.Ident x) = refl
pat_sort f k = refl
