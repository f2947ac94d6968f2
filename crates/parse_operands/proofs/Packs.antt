-- Lists of trees as the tree has them.
use Rattle.std.proofs.Common.{◌≡◌, List, [], ◌∷◌, ◌++◌, map, refl, ap}
use Rattle.tree_nodes.specs.Tree.{Tree, more, pack, unpack, trees_by}
use Rattle.grammar_spec.specs.Tokens.Shape.{ends, last_ends}
use Rattle.grammar_spec.specs.Reader.Cover.{is_rest_item, last_rests}

pub packed : {A : Type 0} (f : A → Tree) (xs : List A) → pack (map f xs) ≡ trees_by f xs
packed f [] = refl
packed f (x ∷ xs) = ap (λ ts. more (f x) ts) (packed f xs)

pub packed_more : {A : Type 0} (f : A → Tree) (xs : List A) (y : A) → pack (unpack (trees_by f xs) ++ f y ∷ []) ≡ trees_by f (xs ++ y ∷ [])
packed_more f [] y = refl
packed_more f (x ∷ xs) y = ap (λ ts. more (f x) ts) (packed_more f xs y)

-- a list ends as its last does
pub ends_more : {A : Type 0} (f : A → Tree) (xs : List A) (y : A) → last_ends (trees_by f (xs ++ y ∷ [])) ≡ ends (f y)
ends_more f [] y = refl
ends_more f (x ∷ []) y = refl
ends_more f (x ∷ (z ∷ xs)) y = ends_more f (z ∷ xs) y

-- a list ends in a rest as its last does
pub rests_more : {A : Type 0} (f : A → Tree) (xs : List A) (y : A) → last_rests (map f (xs ++ y ∷ [])) ≡ is_rest_item (f y)
rests_more f [] y = refl
rests_more f (x ∷ []) y = refl
rests_more f (x ∷ (z ∷ xs)) y = rests_more f (z ∷ xs) y

pub ruleset packs = (packed, packed_more, ends_more)
