-- What is not asked of a sort.
use Rattle.std.proofs.Common.{◌≡◌, true, false, None, refl, sym}
use Rattle.tree_spec.specs.Tree.{Tree, while_stmt, do_while_stmt, for_stmt, for_in_stmt, for_of_stmt, labeled_stmt, block_stmt, using_decl, expr_stmt, ident, paren_expr, member_expr, super_prop_expr, binding_ident, absent, super, param}
use Rattle.grammar_spec.specs.Tokens.Shape.{is_bound_name, is_directive}
use Rattle.grammar_spec.specs.Judge.Early.{is_loop, is_updatable, name_in}
use Rattle.tree_nodes.specs.declared.programs.ModuleDeclOf.{ModuleDeclOf}
use Rattle.tree_nodes.specs.declared.programs.ModuleDeclOf.TheVariants as ModuleDecl
use Rattle.tree_nodes.specs.View.{view_module_decl}
use Rattle.judge.specs.Faults.Asked.{is_child, own_of, use_strict_of, using_of}
use Rattle.tree_nodes.specs.Sorts.{sort_of, is_expression, is_statement, is_pattern, is_sorted}

clash : {A : Type 0} → true ≡ false → A
clash h = absurd cc

-- ---- what is asked of one sort alone

pub child_sort : (t : Tree) → is_sorted (sort_of t) ≡ true → is_child t ≡ true
child_sort absent e = clash (sym e)
child_sort (super s) e = clash (sym e)
child_sort (param s ds p) e = clash (sym e)
child_sort t e = refl

pub loop_sort : (t : Tree) → is_statement (sort_of t) ≡ false → is_loop t ≡ false
loop_sort (while_stmt s t b) e = clash e
loop_sort (do_while_stmt s t b) e = clash e
loop_sort (for_stmt s i t u b) e = clash e
loop_sort (for_in_stmt s l r b) e = clash e
loop_sort (for_of_stmt s w l r b) e = clash e
loop_sort (labeled_stmt s l b) e = clash e
loop_sort t e = refl

pub directive_sort : (t : Tree) → is_statement (sort_of t) ≡ false → is_directive t ≡ false
directive_sort (expr_stmt s x) e = clash e
directive_sort t e = refl

pub use_strict_sort : (t : Tree) → is_statement (sort_of t) ≡ false → use_strict_of t ≡ None
use_strict_sort (expr_stmt s x) e = clash e
use_strict_sort t e = refl

pub own_sort : (t : Tree) → is_statement (sort_of t) ≡ false → own_of t ≡ None
own_sort (block_stmt s ss) e = clash e
own_sort t e = refl

pub using_sort : (t : Tree) → is_statement (sort_of t) ≡ false → using_of t ≡ None
using_sort (using_decl s w ds) e = clash e
using_sort t e = refl

pub updatable_sort : (t : Tree) → is_expression (sort_of t) ≡ false → is_updatable t ≡ false
updatable_sort (ident s n) e = clash e
updatable_sort (member_expr s o p) e = clash e
updatable_sort (super_prop_expr s o p) e = clash e
updatable_sort (paren_expr s x) e = clash e
updatable_sort t e = refl

pub name_sort : (t : Tree) → is_expression (sort_of t) ≡ false → name_in t ≡ None
name_sort (ident s n) e = clash e
name_sort (paren_expr s x) e = clash e
name_sort t e = refl

pub bound_sort : (t : Tree) → is_pattern (sort_of t) ≡ false → is_bound_name t ≡ false
bound_sort (binding_ident s i) e = clash e
bound_sort t e = refl

-- ---- module declarations are no directives

module _ {T : Type 0} (f : T → Tree) where
  pub no_directive : (d : ModuleDeclOf T) → is_directive (view_module_decl f d) ≡ false
  no_directive (ModuleDecl.Import x) = refl
  no_directive d = refl

  pub no_use_strict : (d : ModuleDeclOf T) → use_strict_of (view_module_decl f d) ≡ None
  no_use_strict (ModuleDecl.Import x) = refl
  no_use_strict d = refl
