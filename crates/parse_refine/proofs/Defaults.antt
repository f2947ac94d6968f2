-- An initialiser beside what it is assigned to.
use Rattle.std.proofs.Common.{◌≡◌, Bool, true, false, Ok, refl}
use Rattle.base_token.specs.declared.place.Span.{Span}
use Rattle.tree_spec.specs.Tree.{Tree, assign_pat}
use Rattle.tree_nodes.specs.declared.patterns.AssignTargetOf.{AssignTargetOf}
use Rattle.tree_nodes.specs.declared.patterns.AssignTargetOf.TheVariants as target
use Rattle.tree_nodes.specs.Placed.{Placed, inner}
use Rattle.tree_nodes.specs.View.{view_assign_target}
use Rattle.grammar_spec.specs.Reader.Source.{◌>>=◌}
use Rattle.grammar_spec.specs.Reader.Cover.{initialised}
use Rattle.parse_refine.specs.Items.{default_of}

pub initialised_is : (binds : Bool) (s : Span) (x : AssignTargetOf Placed) (e : Tree) → initialised binds s (view_assign_target inner x) e ≡ (default_of binds (view_assign_target inner x) >>= λ q. Ok (assign_pat s q e))
unfolding default_of
initialised_is binds s (target.Ident x) e = refl
initialised_is true s (target.Member x) e = refl
initialised_is false s (target.Member x) e = refl
initialised_is true s (target.SuperProp x) e = refl
initialised_is false s (target.SuperProp x) e = refl
initialised_is true s (target.Paren x) e = refl
initialised_is false s (target.Paren x) e = refl
initialised_is binds s (target.OptChain x) e = refl
initialised_is binds s (target.Array x) e = refl
initialised_is binds s (target.Object x) e = refl
initialised_is binds s (target.Invalid x) e = refl
