-- No property is a spread.
use Rattle.std.proofs.Common.{◌≡◌, false, refl, sym, subst, List, [], ◌∷◌, ◌++◌, All}
use Rattle.std.proofs.lemmas.List.Elements.{All-push}
use Rattle.tree_nodes.specs.Placed.{inner}
use Rattle.tree_nodes.specs.View.{view_prop}
use Rattle.tree_nodes.specs.declared.knot.Part.{Part}
use Rattle.tree_nodes.specs.declared.objects.PropOf.{PropOf}
use Rattle.tree_nodes.specs.declared.objects.PropOf.TheVariants as Prop
use Rattle.grammar_spec.specs.Reader.Cover.{is_rest_item}

pub no_spread : (x : PropOf Part) → is_rest_item (view_prop inner x) ≡ false
no_spread (Prop.Shorthand x) = refl
no_spread (Prop.KeyValue x) = refl
no_spread (Prop.Assign x) = refl
no_spread (Prop.Getter x) = refl
no_spread (Prop.Setter x) = refl
no_spread (Prop.Method x) = refl

-- what holds of each part still does with one more
pub all_more : {X : Type 0} (P : X → Type 0) (xs : List X) (x : X) (ys : List X) → ys ≡ xs ++ x ∷ [] → All P xs → P x → All P ys
all_more P xs x ys e a b = subst (λ zs. All P zs) (sym e) (All-push P xs x a b)
