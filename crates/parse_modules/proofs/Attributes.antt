-- Attributes one by one.
use Rattle.std.proofs.Common.{◌≡◌, ℕ, ◌+◌, ◌<◌, ◌≤◌, Bool, true, false, ◌&&◌, List, length, drop, slice_index_or, refl, sym, subst, ap, ◌∙◌}
use Rattle.std.proofs.lemmas.List.{drop_all, drop_more}
use Rattle.tree_spec.specs.Tree.{Tree, Trees, more, trees_by}
use Rattle.grammar_spec.specs.Tokens.Shape.{are_attributes}
use Rattle.tree_nodes.specs.Placed.{inner}
use Rattle.tree_nodes.specs.View.{view_prop, view_prop_or_spread}
use Rattle.tree_nodes.specs.declared.objects.PropOrSpreadOf.{PropOrSpreadOf}
use Rattle.tree_nodes.specs.declared.objects.PropOrSpreadOf.TheVariants as part
use Rattle.tree_nodes.specs.declared.objects.PropOf.{PropOf}
use Rattle.tree_nodes.specs.declared.objects.PropOf.TheVariants as prop
use Rattle.tree_nodes.specs.declared.knot.Part.{Part}
use Rattle.parse_modules.specs.Attributes.{is_attribute}

abbrev viewed : PropOrSpreadOf Part → Tree
viewed = view_prop_or_spread inner

more_prop : (x : PropOf Part) (ts : Trees) → are_attributes (more (view_prop inner x) ts) ≡ (is_attribute (view_prop inner x) && are_attributes ts)
more_prop (prop.Shorthand x) ts = refl
more_prop (prop.KeyValue x) ts = refl
more_prop (prop.Assign x) ts = refl
more_prop (prop.Getter x) ts = refl
more_prop (prop.Setter x) ts = refl
more_prop (prop.Method x) ts = refl

more_of : (x : PropOrSpreadOf Part) (ts : Trees) → are_attributes (more (viewed x) ts) ≡ (is_attribute (viewed x) && are_attributes ts)
more_of (part.Spread x) ts = refl
more_of (part.Prop x) ts = more_prop x.value ts

next : (xs : List (PropOrSpreadOf Part)) (i : ℕ) (x : PropOrSpreadOf Part) → i < length xs → x ≡ slice_index_or xs i x
    → are_attributes (trees_by viewed (drop i xs)) ≡ (is_attribute (viewed x) && are_attributes (trees_by viewed (drop (i + 1) xs)))
next xs i x lt e = ap (λ ys. are_attributes (trees_by viewed ys)) (drop_more xs i x lt) ∙ ap (λ y. are_attributes (more (viewed y) (trees_by viewed (drop (i + 1) xs)))) (sym e) ∙ more_of x (trees_by viewed (drop (i + 1) xs))

pub passed_over : (xs : List (PropOrSpreadOf Part)) (i : ℕ) (x : PropOrSpreadOf Part) (r : Bool) → i < length xs → x ≡ slice_index_or xs i x → is_attribute (viewed x) ≡ true
    → are_attributes (trees_by viewed (drop i xs)) ≡ r → are_attributes (trees_by viewed (drop (i + 1) xs)) ≡ r
passed_over xs i x r lt q e h = subst (λ (b : Bool). (b && are_attributes (trees_by viewed (drop (i + 1) xs))) ≡ r) e (sym (next xs i x lt q) ∙ h)

pub found : (xs : List (PropOrSpreadOf Part)) (i : ℕ) (x : PropOrSpreadOf Part) (r : Bool) → i < length xs → x ≡ slice_index_or xs i x → is_attribute (viewed x) ≡ false
    → are_attributes (trees_by viewed (drop i xs)) ≡ r → false ≡ r
found xs i x r lt q e h = subst (λ (b : Bool). (b && are_attributes (trees_by viewed (drop (i + 1) xs))) ≡ r) e (sym (next xs i x lt q) ∙ h)

pub none_found : (xs : List (PropOrSpreadOf Part)) (i : ℕ) (r : Bool) → length xs ≤ i → are_attributes (trees_by viewed (drop i xs)) ≡ r → true ≡ r
none_found xs i r le h = sym (ap (λ ys. are_attributes (trees_by viewed ys)) (drop_all i xs le)) ∙ h
