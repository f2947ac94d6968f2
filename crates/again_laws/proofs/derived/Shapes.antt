-- A tree given anew nests as deep, and nothing of a cover is left in it where nothing was.
use Rattle.std.proofs.Common.{◌≡◌, ◌+◌, ◌||◌, ℕ, max, Bool, true, false, if◌then◌else◌, List, [], ◌∷◌, refl, sym, ap, ◌∙◌}
use Rattle.base_token.specs.declared.place.Span.{Span}
use Rattle.tree_spec.specs.Tree.{Tree, none, more, if_stmt, assign_prop, list, absent}
use Rattle.tree_spec.specs.Folds.{fold}
use Rattle.tree_nesting.specs.Nesting.{deepest, is_if, nesting_step}
use Rattle.grammar_spec.specs.Tokens.Shape.{clean_step, is_clean}
use Rattle.print_layout_spec.specs.declared.look.Look.{Look}
use Rattle.print_layout_spec.specs.Looks.{formats}
use Rattle.again_laws.specs.Derived.Redo.{Mode, Plain, Leaves, kept_at, redo, Redone}
use Rattle.again_laws.specs.Derived.Written.{leaves_by, given_none, new_arguments}
use Rattle.again_laws.specs.Derived.Laws.{NestsAlike, CleanAlike}
use Rattle.again_laws.proofs.derived.Folded.{Kids, everywhere, folded, kids_equal}
use Rattle.again_laws.proofs.derived.Keys.{key_folded, constructor_key_folded}

re_is_if : (l : Leaves) (m : Mode) (t : Tree) → is_if (redo l m t) ≡ is_if t
re_is_if l m (if_stmt s t a b) = refl
re_is_if l m _ = refl

nests : (l : Leaves) (m : Mode) (t : Tree) (ks : List (List ℕ)) → nesting_step (redo l m t) ks ≡ nesting_step t ks
nests l m (if_stmt s t a b) (x ∷ (y ∷ zs)) = ap (λ (v : Bool). max (deepest (x ∷ y ∷ []) + 1) (if v then deepest zs else deepest zs + 1)) (re_is_if l Plain b)
nests l m _ ks = refl

cleans : (l : Leaves) (m : Mode) (t : Tree) (ks : List (List Bool)) → clean_step (redo l m t) ks ≡ clean_step t ks
cleans l m (assign_prop s k e) ks = refl
cleans l m _ ks = refl

-- what the arguments of a `new` without any come to, in parentheses and without
given_alike : {A : Type 0} (step : Tree → List (List A) → A) → step (list none) ([] ∷ []) ≡ step absent [] → (v : Bool) → (fold step (given_none v) ≡ step absent []) × (fold step (given_none v) ≡ step (list none) ([] ∷ []))
given_alike step e true = (e, refl)
given_alike step e false = (refl, sym e)

arguments_alike : {A : Type 0} (look : Look) (l : Leaves) (step : Tree → List (List A) → A) → step (list none) ([] ∷ []) ≡ step absent []
    → (b : Bool) (a : Tree) → fold step (redo l Plain a) ≡ fold step a → fold step (new_arguments look b (redo l Plain a)) ≡ fold step a
arguments_alike look l step e b absent h = (given_alike step e (formats look || b)).0
arguments_alike look l step e b (list none) h = (given_alike step e (formats look || b)).1
arguments_alike look l step e b (list (more t ts)) h = h
arguments_alike look l step e b _ h = h

abbrev Nothing : Mode → Tree → Type 0
Nothing m t = Unit {0}

-- what is folded by a step that asks no place, no spelling and no key
module _ {A : Type 0} (step : Tree → List (List A) → A) (alike : (l : Leaves) (m : Mode) (t : Tree) (ks : List (List A)) → step (redo l m t) ks ≡ step t ks) where
  keeps_node : (l : Leaves) (m : Mode) (t : Tree) (us vs : List (List A)) → Kids (λ a b. a ≡ b) us vs → step (redo l m t) us ≡ step t vs
  keeps_node l m t us vs h = ap (λ ks. step (redo l m t) ks) (kids_equal us vs h) ∙ alike l m t vs

  folded_kept : (places : ℕ → Span) (m : Mode) (t : Tree) → fold step (redo (kept_at places) m t) ≡ fold step t
  folded_kept places m t = folded (λ a b. a ≡ b) Nothing step (kept_at places) (record {
    node = λ m t e us vs h. keeps_node (kept_at places) m t us vs h;
    arguments = λ b a h. h;
    key = λ k e h. h;
    constructor_key = λ k e h. h;
  }) m t (everywhere Nothing (λ m t. tt) m t)

  module _ (none_alike : step (list none) ([] ∷ []) ≡ step absent []) (leaf_alike : (s : _) (n : List ℕ) (q : _) (u : List ℕ) (w : _) → fold step (Rattle.tree_spec.specs.Tree.str_lit q u w) ≡ fold step (Rattle.tree_spec.specs.Tree.ident_name s n)) (look : Look) (read written : ℕ → Span) where
    folded_written : (m : Mode) (t : Tree) → fold step (redo (leaves_by look read written) m t) ≡ fold step t
    folded_written m t = folded (λ a b. a ≡ b) Nothing step (leaves_by look read written) (record {
      node = λ m t e us vs h. keeps_node (leaves_by look read written) m t us vs h;
      arguments = λ b a h. arguments_alike look (leaves_by look read written) step none_alike b a h;
      key = λ k e h. key_folded (λ a b. a ≡ b) step (leaves_by look read written) look.style k (λ s n i q. leaf_alike s n _ _ _) h;
      constructor_key = λ k e h. constructor_key_folded (λ a b. a ≡ b) step (leaves_by look read written) k (λ s u w i. sym (leaf_alike _ _ s u w)) h;
    }) m t (everywhere Nothing (λ m t. tt) m t)

    folded_same : (m : Mode) (t u : Tree) → Redone (leaves_by look read written) m t u → fold step u ≡ fold step t
    folded_same m t u s = sym (folded_kept written Plain u) ∙ (ap (λ v. fold step v) (s.so Plain) ∙ folded_written m t)

pub nests_alike : NestsAlike
nests_alike look read written m t u s = folded_same nesting_step nests refl (λ s n q u w. refl) look read written m t u s

pub clean_alike : CleanAlike
unfolding is_clean
clean_alike look read written m t u s = folded_same clean_step cleans refl (λ s n q u w. refl) look read written m t u s
