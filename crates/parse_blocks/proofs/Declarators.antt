-- Lists by what was added last.
use Rattle.std.proofs.Common.{◌≡◌, List, [], ◌∷◌, ◌++◌, map, refl}
use Rattle.tree_nodes.specs.Tree.{Tree, pack}
use Rattle.grammar_spec.specs.Tokens.Shape.{declarator_end, declarators_end}

-- declarators end as their last does
pub declared_more : {A : Type 0} (f : A → Tree) (xs : List A) (y : A) → declarators_end (pack (map f (xs ++ y ∷ []))) ≡ declarator_end (f y)
declared_more f [] y = refl
declared_more f (x ∷ []) y = refl
declared_more f (x ∷ (z ∷ xs)) y = declared_more f (z ∷ xs) y
