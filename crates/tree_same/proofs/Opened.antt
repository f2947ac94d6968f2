-- What an expression, a statement and a pattern of the code are in the spec tree.
use Rattle.std.proofs.Common.{◌≡◌, true, false, refl}
use Rattle.tree_spec.specs.Tree.{Tree}
use Rattle.tree_same.specs.Sorts.{is_statement, is_pattern, is_node}
use Rattle.tree_same.specs.Compared.{is_use_strict}
use Rattle.tree_nodes.specs.View.{view_lit, view_decl, view_expr_kind, view_stmt_kind, view_pat_kind}
use Rattle.tree_nodes.specs.declared.literals.Lit.{Lit}
use Rattle.tree_nodes.specs.declared.literals.Lit.TheVariants as Lit
use Rattle.tree_nodes.specs.declared.declarations.DeclOf.{DeclOf}
use Rattle.tree_nodes.specs.declared.declarations.DeclOf.TheVariants as Decl
use Rattle.tree_nodes.specs.declared.expressions.ExprKindOf.{ExprKindOf}
use Rattle.tree_nodes.specs.declared.expressions.ExprKindOf.TheVariants as ExprKind
use Rattle.tree_nodes.specs.declared.statements.StmtKindOf.{StmtKindOf}
use Rattle.tree_nodes.specs.declared.statements.StmtKindOf.TheVariants as StmtKind
use Rattle.tree_nodes.specs.declared.patterns.PatKindOf.{PatKindOf}
use Rattle.tree_nodes.specs.declared.patterns.PatKindOf.TheVariants as PatKind

lit_statement : (l : Lit) → is_statement (view_lit l) ≡ false
lit_statement (Lit.Str x) = refl
lit_statement l = refl

lit_pattern : (l : Lit) → is_pattern (view_lit l) ≡ false
lit_pattern (Lit.Str x) = refl
lit_pattern l = refl

lit_node : (l : Lit) → is_node (view_lit l) ≡ true
lit_node (Lit.Str x) = refl
lit_node l = refl

module _ {T : Type 0} (f : T → Tree) where
  pub expr_statement : (k : ExprKindOf T) → is_statement (view_expr_kind f k) ≡ false
  expr_statement (ExprKind.Lit x) = lit_statement x
  expr_statement k = refl

  pub expr_pattern : (k : ExprKindOf T) → is_pattern (view_expr_kind f k) ≡ false
  expr_pattern (ExprKind.Lit x) = lit_pattern x
  expr_pattern k = refl

  pub expr_node : (k : ExprKindOf T) → is_node (view_expr_kind f k) ≡ true
  expr_node (ExprKind.Lit x) = lit_node x
  expr_node k = refl

  decl_statement : (d : DeclOf T) → is_statement (view_decl f d) ≡ true
  decl_statement (Decl.Class x) = refl
  decl_statement d = refl

  decl_pattern : (d : DeclOf T) → is_pattern (view_decl f d) ≡ false
  decl_pattern (Decl.Class x) = refl
  decl_pattern d = refl

  decl_node : (d : DeclOf T) → is_node (view_decl f d) ≡ true
  decl_node (Decl.Class x) = refl
  decl_node d = refl

  decl_strict : (d : DeclOf T) → is_use_strict (view_decl f d) ≡ false
  decl_strict (Decl.Class x) = refl
  decl_strict d = refl

  pub stmt_statement : (k : StmtKindOf T) → is_statement (view_stmt_kind f k) ≡ true
  stmt_statement (StmtKind.Decl x) = decl_statement x
  stmt_statement k = refl

  pub stmt_pattern : (k : StmtKindOf T) → is_pattern (view_stmt_kind f k) ≡ false
  stmt_pattern (StmtKind.Decl x) = decl_pattern x
  stmt_pattern k = refl

  pub stmt_node : (k : StmtKindOf T) → is_node (view_stmt_kind f k) ≡ true
  stmt_node (StmtKind.Decl x) = decl_node x
  stmt_node k = refl

  pub stmt_not_strict : (k : StmtKindOf T) → is_use_strict (view_stmt_kind f k) ≡ false
  stmt_not_strict (StmtKind.Decl x) = decl_strict x
  stmt_not_strict k = refl

  pub pat_statement : (k : PatKindOf T) → is_statement (view_pat_kind f k) ≡ false
  pat_statement (PatKind.Ident x) = refl
  pat_statement k = refl

  pub pat_pattern : (k : PatKindOf T) → is_pattern (view_pat_kind f k) ≡ true
  pat_pattern (PatKind.Ident x) = refl
  pat_pattern k = refl

  pub pat_node : (k : PatKindOf T) → is_node (view_pat_kind f k) ≡ true
  pat_node (PatKind.Ident x) = refl
  pat_node k = refl

  pub pat_not_strict : (k : PatKindOf T) → is_use_strict (view_pat_kind f k) ≡ false
  pat_not_strict (PatKind.Ident x) = refl
  pat_not_strict k = refl

pub ruleset exprs = (expr_statement, expr_pattern, expr_node)

pub ruleset stmts = (stmt_statement, stmt_pattern, stmt_node)

pub ruleset pats = (pat_statement, pat_pattern, pat_node)
