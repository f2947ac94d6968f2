-- The walk of a tree is what is told of the tree itself, and then of its parts in the code around them; its names are its own and those of its parts.
use Rattle.std.proofs.Common.{◌≡◌, List, [], ◌∷◌, ◌++◌, map, refl}
use Rattle.base_token.specs.declared.place.Span.{Span}
use Rattle.tree_spec.specs.Folds.{fold, folds, rebuild, rebuild_all}
use Rattle.tree_spec.specs.Tree.{Tree, Trees, script, ident}
use Rattle.tree_program_spec.specs.Names.Names.{joined, identifiers, identifiers_step}
use Rattle.judge_scopes_spec.specs.Declared.{Names}
use Rattle.judge_scopes_spec.specs.Scopes.{Told, Around, Inside, own, inside, within, step}
use Rattle.judge_scopes_spec.proofs.Parts.{parts}

-- what is told of some fields
abbrev pub told_within : List Trees → Inside → List Told
told_within fs c = within (map (λ ts. folds step ts) fs) c

pub walk_of : (t : Tree) (x : Around) → fold step t x ≡ own t x ++ told_within (parts t) (inside t x)
walk_of (script s ss l) x = refl
walk_of t x = refl

-- the names of some fields
abbrev pub names_within : List Trees → Names
names_within fs = joined (joined (map (λ ts. folds identifiers_step ts) fs))

abbrev pub own_name : Tree → Names
own_name (ident s n) = record { sym = n; span = s } ∷ []
own_name t = []

pub names_of : (t : Tree) → identifiers t ≡ own_name t ++ names_within (parts t)
names_of (ident s n) = refl
names_of t = refl

-- a tree, and some, with their places moved
abbrev pub elsewhere : (Span → Span) → Tree → Tree
elsewhere p t = rebuild p (λ u. u) t

abbrev pub all_elsewhere : (Span → Span) → Trees → Trees
all_elsewhere p ts = rebuild_all p (λ u. u) ts

pub parts_moved : (p : Span → Span) (t : Tree) → parts (elsewhere p t) ≡ map (λ ts. all_elsewhere p ts) (parts t)
parts_moved p (script s ss l) = refl
parts_moved p t = refl
