-- The last of a list tells whether a rest stands there.
use Rattle.std.proofs.Common.{◌≡◌, ◌-◌, Bool, false, List, [], ◌∷◌, length, Option, None, Some, map, refl, ap, sym, arith, ◌∙◌}
use Rattle.std.specs.List.{slice_get}
use Rattle.std.specs.Option.{is_some}
use Rattle.base_token.specs.declared.place.Span.{Span}
use Rattle.tree_spec.specs.Tree.{Tree, expr_or_spread}
use Rattle.grammar_spec.specs.Reader.Cover.{is_rest_item, last_rests}
use Rattle.tree_nodes.specs.Placed.{inner}
use Rattle.tree_nodes.specs.View.{view_expr_or_spread}
use Rattle.tree_nodes.specs.declared.expressions.ExprOrSpreadOf.{ExprOrSpreadOf}
use Rattle.tree_nodes.specs.declared.knot.Part.{Part}

abbrev told : {A : Type 0} → (A → Tree) → Option A → Bool
told f None = false
told f (Some x) = is_rest_item (f x)

by_index : {A : Type 0} (f : A → Tree) (x : A) (xs : List A) → last_rests (map f (x ∷ xs)) ≡ told f (slice_get (x ∷ xs) (length xs))
by_index f x [] = refl
by_index f x (y ∷ ys) = by_index f y ys

rests_by : {A : Type 0} (f : A → Tree) (xs : List A) → last_rests (map f xs) ≡ told f (slice_get xs (length xs - 1))
rests_by f [] = refl
rests_by f (x ∷ xs) =
    let at_last : length xs ≡ length (x ∷ xs) - 1 = omega arith in
    by_index f x xs ∙ ap (λ n. told f (slice_get (x ∷ xs) n)) at_last

spread_is : (s : Span) (d : Option Span) (t : Tree) → is_rest_item (expr_or_spread s d t) ≡ is_some d
spread_is s None t = refl
spread_is s (Some d) t = refl

pub rests_at : (xs : List (ExprOrSpreadOf Part)) (x : ExprOrSpreadOf Part) → Some x ≡ slice_get xs (length xs - 1) → is_some x.spread ≡ last_rests (map (view_expr_or_spread inner) xs)
rests_at xs x e = sym (spread_is x.span x.spread (inner x.expr.part.value)) ∙ ap (told (view_expr_or_spread inner)) e ∙ sym (rests_by (view_expr_or_spread inner) xs)

pub rests_none : (xs : List (ExprOrSpreadOf Part)) → None ≡ slice_get xs (length xs - 1) → false ≡ last_rests (map (view_expr_or_spread inner) xs)
rests_none xs e = ap (told (view_expr_or_spread inner)) e ∙ sym (rests_by (view_expr_or_spread inner) xs)
