-- Only an `if` statement is an `if`.
use Rattle.std.proofs.Common.{◌≡◌, Bool, false, refl}
use Rattle.tree_nodes.specs.Tree.{Tree}
use Rattle.tree_nesting.specs.Nesting.{is_if}
use Rattle.tree_nodes.specs.View.{view_lit, view_decl, view_expr_kind, view_pat_kind}
use Rattle.tree_nodes.specs.declared.literals.Lit.{Lit}
use Rattle.tree_nodes.specs.declared.literals.Lit.TheVariants as Lit
use Rattle.tree_nodes.specs.declared.declarations.DeclOf.{DeclOf}
use Rattle.tree_nodes.specs.declared.declarations.DeclOf.TheVariants as Decl
use Rattle.tree_nodes.specs.declared.expressions.ExprKindOf.{ExprKindOf}
use Rattle.tree_nodes.specs.declared.expressions.ExprKindOf.TheVariants as ExprKind
use Rattle.tree_nodes.specs.declared.patterns.PatKindOf.{PatKindOf}
use Rattle.tree_nodes.specs.declared.patterns.PatKindOf.TheVariants as PatKind

lit_no_if : (l : Lit) → is_if (view_lit l) ≡ false
lit_no_if (Lit.Str x) = refl
lit_no_if (Lit.Bool x) = refl
lit_no_if (Lit.Null x) = refl
lit_no_if (Lit.Num x) = refl
lit_no_if (Lit.BigInt x) = refl
lit_no_if (Lit.Regex x) = refl

module _ {T : Type 0} (f : T → Tree) where
  pub decl_no_if : (d : DeclOf T) → is_if (view_decl f d) ≡ false
  decl_no_if (Decl.Class x) = refl
  decl_no_if (Decl.Fn x) = refl
  decl_no_if (Decl.Var x) = refl
  decl_no_if (Decl.Using x) = refl

  pub expr_no_if : (k : ExprKindOf T) → is_if (view_expr_kind f k) ≡ false
  expr_no_if (ExprKind.This x) = refl
  expr_no_if (ExprKind.Array x) = refl
  expr_no_if (ExprKind.Object x) = refl
  expr_no_if (ExprKind.Fn x) = refl
  expr_no_if (ExprKind.Unary x) = refl
  expr_no_if (ExprKind.Update x) = refl
  expr_no_if (ExprKind.Bin x) = refl
  expr_no_if (ExprKind.Assign x) = refl
  expr_no_if (ExprKind.Member x) = refl
  expr_no_if (ExprKind.SuperProp x) = refl
  expr_no_if (ExprKind.Cond x) = refl
  expr_no_if (ExprKind.Call x) = refl
  expr_no_if (ExprKind.New x) = refl
  expr_no_if (ExprKind.Seq x) = refl
  expr_no_if (ExprKind.Ident x) = refl
  expr_no_if (ExprKind.Lit x) = lit_no_if x
  expr_no_if (ExprKind.Tpl x) = refl
  expr_no_if (ExprKind.TaggedTpl x) = refl
  expr_no_if (ExprKind.Arrow x) = refl
  expr_no_if (ExprKind.Class x) = refl
  expr_no_if (ExprKind.Yield x) = refl
  expr_no_if (ExprKind.MetaProp x) = refl
  expr_no_if (ExprKind.Await x) = refl
  expr_no_if (ExprKind.Paren x) = refl
  expr_no_if (ExprKind.PrivateName x) = refl
  expr_no_if (ExprKind.OptChain x) = refl
  expr_no_if (ExprKind.Invalid x) = refl

  pub pat_no_if : (k : PatKindOf T) → is_if (view_pat_kind f k) ≡ false
  pat_no_if (PatKind.Ident x) = refl
  pat_no_if (PatKind.Array x) = refl
  pat_no_if (PatKind.Rest x) = refl
  pat_no_if (PatKind.Object x) = refl
  pat_no_if (PatKind.Assign x) = refl
  pat_no_if (PatKind.Expr x) = refl
  pat_no_if (PatKind.Invalid x) = refl
