-- Which keys are private names, and answers of which one part is by a case.
use Rattle.std.proofs.Common.{◌≡◌, refl, Bool, true, false, if◌then◌else◌, Result, Ok}
use Rattle.grammar_spec.specs.Tokens.Shape.{is_private}
use Rattle.tree_spec.specs.Tree.{Tree}
use Rattle.tree_nodes.specs.View.{view_prop_name}
use Rattle.tree_nodes.specs.declared.functions.PropNameOf.{PropNameOf}
use Rattle.tree_nodes.specs.declared.functions.PropNameOf.TheVariants as PropName
use Rattle.grammar_spec.specs.Reader.Source.{Fault, State}

-- the key of a property is no private name
pub no_private : {T : Type 0} (f : T → Tree) (k : PropNameOf T) → is_private (view_prop_name f k) ≡ false
no_private f (PropName.Ident x) = refl
no_private f (PropName.Str x) = refl
no_private f (PropName.Num x) = refl
no_private f (PropName.BigInt x) = refl
no_private f (PropName.Computed x) = refl

pub ruleset keys = (no_private)

-- one of two trees before the same stand
pub one_of : {S : Type 0} (b : Bool) (x y : Tree) (r : State S) → ◌≡◌ {A = Result (Tree × State S) Fault} (if b then Ok (x, r) else Ok (y, r)) (Ok ((if b then x else y), r))
one_of true x y r = refl
one_of false x y r = refl

pub ruleset pairs = (one_of)
