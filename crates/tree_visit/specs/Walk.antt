-- A walk over a tree: each node is entered, then what is below it is gone over in the order of the source, then it
-- is left. What a visitor makes of it is a state that each of these steps changes.
use Rattle.std.specs.Prelude.{List, [], ◌∷◌, Option, Some, None}
use Rattle.tree_spec.specs.Tree.{Tree, Trees, do_while_stmt, function, class, class_prop, private_prop, auto_accessor, tpl}
use Rattle.tree_spec.specs.Folds.{fold, folds}
use Rattle.tree_visit.specs.Seen.{Seen, seen_of}

-- what a visitor is told
pub data Event : Type 0 where
  enter : Seen → Event
  leave : Seen → Event

-- what a walk over a tree makes of a state, and what the part of it makes that goes over what is below the tree
pub record Walked (S : Type 0) : Type 0 where
  pub whole : S → S
  pub inside : S → S

-- the walks over some trees, one after another
abbrev pub in_turn : {S : Type 0} → List (Walked S) → S → S
in_turn [] s = s
in_turn (w ∷ ws) s = in_turn ws (w.whole s)

-- the same of some fields
abbrev pub through : {S : Type 0} → List (List (Walked S)) → S → S
through [] s = s
through (ws ∷ fields) s = through fields (in_turn ws s)

-- the texts of a template and its expressions by turns
abbrev pub by_turns : {S : Type 0} → List (Walked S) → List (Walked S) → S → S
by_turns [] exprs s = in_turn exprs s
by_turns (text ∷ texts) [] s = by_turns texts [] (text.whole s)
by_turns (text ∷ texts) (expr ∷ exprs) s = by_turns texts exprs (expr.whole (text.whole s))

-- what is below a tree, in the order of the source
abbrev pub in_order : {S : Type 0} → Tree → List (List (Walked S)) → S → S
in_order (do_while_stmt _ _ _) (test ∷ body ∷ []) s = through (body ∷ test ∷ []) s
in_order (function _ _ _ _ _ _) (params ∷ decorators ∷ rest) s = through (decorators ∷ params ∷ rest) s
in_order (class _ _ _ _) (decorators ∷ body ∷ super_class ∷ []) s = through (decorators ∷ super_class ∷ body ∷ []) s
in_order (class_prop _ _ _ _ _) (key ∷ value ∷ decorators ∷ []) s = through (decorators ∷ key ∷ value ∷ []) s
in_order (private_prop _ _ _ _ _) (key ∷ value ∷ decorators ∷ []) s = through (decorators ∷ key ∷ value ∷ []) s
in_order (auto_accessor _ _ _ _ _) (key ∷ value ∷ decorators ∷ []) s = through (decorators ∷ key ∷ value ∷ []) s
in_order (tpl _ _ _) (exprs ∷ texts ∷ []) s = by_turns texts exprs s
in_order t fields s = through fields s

-- a tree is told of, where it is a node
abbrev pub told : {S : Type 0} → (Seen → S → S) → Option Seen → S → S
told f None s = s
told f (Some x) s = f x s

abbrev pub entered : {S : Type 0} → (Event → S → S) → Tree → S → S
entered step t s = told (λ x. step (enter x)) (seen_of t) s

abbrev pub left : {S : Type 0} → (Event → S → S) → Tree → S → S
left step t s = told (λ x. step (leave x)) (seen_of t) s

-- the walk over a tree from those over its fields
abbrev pub walk_step : {S : Type 0} → (Event → S → S) → Tree → List (List (Walked S)) → Walked S
walk_step step t fields = record {
  whole = λ s. left step t (in_order t fields (entered step t s));
  inside = λ s. in_order t fields s;
}

-- the walk over a tree, over what is below it, and over some trees
abbrev pub walk_of : {S : Type 0} → (Event → S → S) → Tree → S → S
walk_of step t s = (fold (walk_step step) t).whole s

abbrev pub inside_of : {S : Type 0} → (Event → S → S) → Tree → S → S
inside_of step t s = (fold (walk_step step) t).inside s

abbrev pub walk_of_all : {S : Type 0} → (Event → S → S) → Trees → S → S
walk_of_all step ts s = in_turn (folds (walk_step step) ts) s
