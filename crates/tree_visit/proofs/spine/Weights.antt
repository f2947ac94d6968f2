-- What stands right of the left part of a link is smaller than the link without it, as the sizes of the code's boxes count. The names of
-- weights count the types below `kind`.
use Rattle.std.proofs.Common.{◌≡◌, ◌+◌, ◌*◌, ◌-◌, ◌≤◌, ◌<◌, ℕ, max, Bool, true, List, [], ◌∷◌, sym, ap, ◌∙◌, subst, arith}
use denote.Param.Weighed.{most}
use Rattle.tree_spec.specs.Tree.{Tree, trees_by, opt_chain_expr}
use Rattle.tree_spec.specs.Codes.{tree_size, trees_size}
use Rattle.base_token.specs.declared.place.Span.{Span}
use Rattle.tree_nodes.specs.Placed.{inner}
use Rattle.tree_nodes.specs.View.{view_bin_expr, view_call_expr, view_callee, view_computed_prop_name, view_expr_or_spread, view_member_expr, view_member_prop, view_opt_call, view_tagged_tpl}
use Rattle.tree_nodes.specs.declared.knot.Part.{Part}
use Rattle.tree_nodes.specs.declared.knot.Child.{Child}
use Rattle.tree_nodes.specs.declared.knot.ExprTag.{ExprTag}
use Rattle.tree_nodes.specs.declared.knot.Expr.TheDeep.{size-Part}
use Rattle.tree_nodes.specs.declared.knot.Expr.TheShapes.{weighed-Expr-kind-at-216, weighed-Expr-kind-at-217, weighed-Expr-kind-at-266, weighed-Expr-kind-at-408}
use Rattle.tree_nodes.specs.declared.functions.ComputedPropNameOf.{ComputedPropNameOf}
use Rattle.tree_nodes.specs.declared.expressions.BinExprOf.{BinExprOf}
use Rattle.tree_nodes.specs.declared.expressions.CallExprOf.{CallExprOf}
use Rattle.tree_nodes.specs.declared.expressions.ExprOrSpreadOf.{ExprOrSpreadOf}
use Rattle.tree_nodes.specs.declared.expressions.MemberExprOf.{MemberExprOf}
use Rattle.tree_nodes.specs.declared.expressions.MemberPropOf.{MemberPropOf}
use Rattle.tree_nodes.specs.declared.expressions.MemberPropOf.TheVariants as MemberProp
use Rattle.tree_nodes.specs.declared.expressions.OptCallOf.{OptCallOf}
use Rattle.tree_nodes.specs.declared.expressions.TaggedTplOf.{TaggedTplOf}
use Rattle.tree_visit.specs.Spine.Chains.{Linked, below, is_link, left_part}
use Rattle.tree_visit.proofs.spine.Chains.{callee_left, one_link, rest_falls}

most_double : {A : Type 0} (g : A → ℕ) (v : A → Tree) → ((x : A) → g x ≤ 2 * tree_size (v x) + 4) → (xs : List A) → most g xs ≤ 2 * trees_size (trees_by v xs) + 4
most_double g v h [] = omega arith
most_double g v h (x ∷ xs) = omega (arith, most_double g v h xs, h x)

module _ {T : Type 0} (μ : T → ℕ) (f : T → Tree) (h : (x : T) → μ x ≤ 2 * tree_size (f x) + 4) where
  computed : (s : ComputedPropNameOf T) → (weighed-Expr-kind-at-216).weight T μ s ≤ 2 * tree_size (view_computed_prop_name f s)
  computed s = omega (arith, h s.expr.part.value)

  name : (s : MemberPropOf T) → (weighed-Expr-kind-at-217).weight T μ s ≤ 2 * tree_size (view_member_prop f s)
  name (MemberProp.Ident x) = omega arith
  name (MemberProp.PrivateName x) = omega arith
  name (MemberProp.Computed x) = omega (arith, computed x)

  argument : (s : ExprOrSpreadOf T) → (weighed-Expr-kind-at-266).weight T μ s ≤ 2 * tree_size (view_expr_or_spread f s)
  argument s = omega (arith, h s.expr.part.value)

  arguments : (xs : List (ExprOrSpreadOf T)) → most ((weighed-Expr-kind-at-266).weight T μ) xs ≤ 2 * trees_size (trees_by (view_expr_or_spread f) xs) + 4
  arguments xs = most_double ((weighed-Expr-kind-at-266).weight T μ) (view_expr_or_spread f) (λ x. omega (arith, argument x)) xs

  expressions : (xs : List (Child T ExprTag)) → most ((weighed-Expr-kind-at-408).weight T μ) xs ≤ 2 * trees_size (trees_by (λ x. f x.part.value) xs) + 4
  expressions xs = most_double ((weighed-Expr-kind-at-408).weight T μ) (λ x. f x.part.value) (λ x. omega (arith, h x.part.value)) xs

part_size : (p : Part) → size-Part p ≤ 2 * tree_size (inner p) + 4
part_size p = omega arith

fits : (w n m : ℕ) (top t : Tree) → n ≡ 1 → top ≡ t → w + 2 * tree_size (left_part t) ≤ 2 * tree_size t → 2 * (tree_size top - tree_size (below n top)) + 1 ≡ m → w < m
fits w n m top t e v b h = rest_falls n m w top e (subst (λ x. w + 2 * tree_size (left_part x) ≤ 2 * tree_size x) (sym v) b) h

pub operand_falls : (n m : ℕ) (top : Tree) (x : BinExprOf Part) → n ≡ 1 → top ≡ view_bin_expr inner x → 2 * (tree_size top - tree_size (below n top)) + 1 ≡ m → max (size-Part x.right.part.value) 0 < m
operand_falls n m top x e v h = fits (max (size-Part x.right.part.value) 0) n m top (view_bin_expr inner x) e v (omega (arith, part_size x.right.part.value)) h

pub name_falls : (n m : ℕ) (top : Tree) (x : MemberExprOf Part) → n ≡ 1 → top ≡ view_member_expr inner x → 2 * (tree_size top - tree_size (below n top)) + 1 ≡ m → (weighed-Expr-kind-at-217).weight Part size-Part x.prop < m
name_falls n m top x e v h = fits ((weighed-Expr-kind-at-217).weight Part size-Part x.prop) n m top (view_member_expr inner x) e v (omega (arith, name size-Part inner part_size x.prop)) h

pub arguments_fall : (n m : ℕ) (top : Tree) (x : CallExprOf Part) → Linked n top → n ≡ 1 → top ≡ view_call_expr inner x → 2 * (tree_size top - tree_size (below n top)) + 1 ≡ m
    → most ((weighed-Expr-kind-at-266).weight Part size-Part) x.args.items < m
arguments_fall n m top x l e v h =
    let k : is_link (view_call_expr inner x) ≡ true = ap is_link (sym v) ∙ one_link top (subst (λ (z : ℕ). Linked z top) e l) in
    let c : left_part (view_call_expr inner x) ≡ view_callee inner x.callee = callee_left x.span (view_callee inner x.callee) (trees_by (view_expr_or_spread inner) x.args.items) k in
    let a : most ((weighed-Expr-kind-at-266).weight Part size-Part) x.args.items ≤ 2 * trees_size (trees_by (view_expr_or_spread inner) x.args.items) + 4 = arguments size-Part inner part_size x.args.items in
    fits (most ((weighed-Expr-kind-at-266).weight Part size-Part) x.args.items) n m top (view_call_expr inner x) e v (rw c (omega (arith, a))) h

pub template_falls : (n m : ℕ) (top : Tree) (x : TaggedTplOf Part) → n ≡ 1 → top ≡ view_tagged_tpl inner x → 2 * (tree_size top - tree_size (below n top)) + 1 ≡ m
    → max 0 (max (most ((weighed-Expr-kind-at-408).weight Part size-Part) x.tpl.value.exprs.items) 0) < m
template_falls n m top x e v h =
    let a : most ((weighed-Expr-kind-at-408).weight Part size-Part) x.tpl.value.exprs.items ≤ 2 * trees_size (trees_by (λ y. inner y.part.value) x.tpl.value.exprs.items) + 4 = expressions size-Part inner part_size x.tpl.value.exprs.items in
    fits (max 0 (max (most ((weighed-Expr-kind-at-408).weight Part size-Part) x.tpl.value.exprs.items) 0)) n m top (view_tagged_tpl inner x) e v (omega (arith, a)) h

pub chain_name_falls : (n m : ℕ) (top : Tree) (p : Span) (o : Bool) (x : MemberExprOf Part) → n ≡ 1 → top ≡ opt_chain_expr p o (view_member_expr inner x) → 2 * (tree_size top - tree_size (below n top)) + 1 ≡ m
    → (weighed-Expr-kind-at-217).weight Part size-Part x.prop < m
chain_name_falls n m top p o x e v h = fits ((weighed-Expr-kind-at-217).weight Part size-Part x.prop) n m top (opt_chain_expr p o (view_member_expr inner x)) e v (omega (arith, name size-Part inner part_size x.prop)) h

pub chain_arguments_fall : (n m : ℕ) (top : Tree) (p : Span) (o : Bool) (x : OptCallOf Part) → n ≡ 1 → top ≡ opt_chain_expr p o (view_opt_call inner x) → 2 * (tree_size top - tree_size (below n top)) + 1 ≡ m
    → most ((weighed-Expr-kind-at-266).weight Part size-Part) x.args.items < m
chain_arguments_fall n m top p o x e v h =
    let a : most ((weighed-Expr-kind-at-266).weight Part size-Part) x.args.items ≤ 2 * trees_size (trees_by (view_expr_or_spread inner) x.args.items) + 4 = arguments size-Part inner part_size x.args.items in
    fits (most ((weighed-Expr-kind-at-266).weight Part size-Part) x.args.items) n m top (opt_chain_expr p o (view_opt_call inner x)) e v (omega (arith, a)) h
