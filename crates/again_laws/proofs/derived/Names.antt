-- The names of a tree that is given anew are its names, each with its place kept as given.
use Rattle.std.proofs.Common.{◌≡◌, ◌||◌, ℕ, Bool, true, false, List, [], ◌∷◌, ◌++◌, map, refl, sym, ap, ap₂, ◌∙◌}
use Rattle.base_token.specs.declared.place.Span.{Span}
use Rattle.tree_spec.specs.Tree.{Tree, none, more, ident, import_named_specifier, do_while_stmt, class, class_prop, private_prop, auto_accessor, list, absent}
use Rattle.tree_program_spec.specs.Names.Names.{Identifier, joined, in_order, identifiers, identifiers_step, name_of}
use Rattle.print_layout_spec.specs.declared.look.Look.{Look}
use Rattle.print_layout_spec.specs.Looks.{formats}
use Rattle.again_laws.specs.Derived.Redo.{Mode, Plain, Leaves, kept_at, redo}
use Rattle.again_laws.specs.Derived.Written.{leaves_by, given_none, new_arguments}
use Rattle.again_laws.specs.Derived.Laws.{NamesAlike}
use Rattle.again_laws.proofs.derived.Folded.{All, Kids, everywhere, folded}
use Rattle.again_laws.proofs.derived.Keys.{key_folded, constructor_key_folded}

-- a name with its place kept as this
abbrev placed : (ℕ → Span) → Identifier → Identifier
placed places i = record { sym = i.sym; span = places i.span.lo.0 }

-- ---- lists

append_map : {A B : Type 0} (f : A → B) (xs ys : List A) → map f xs ++ map f ys ≡ map f (xs ++ ys)
append_map f [] ys = refl
append_map f (x ∷ xs) ys = ap (λ zs. f x ∷ zs) (append_map f xs ys)

joined_map : {A B : Type 0} (f : A → B) (xss : List (List A)) → joined (map (λ xs. map f xs) xss) ≡ map f (joined xss)
joined_map f [] = refl
joined_map f (xs ∷ xss) = ap (λ zs. map f xs ++ zs) (joined_map f xss) ∙ append_map f xs (joined xss)

in_order_map : {A B : Type 0} (f : A → B) (l : Leaves) (m : Mode) (t : Tree) (fs : List A) → in_order (redo l m t) (map f fs) ≡ map f (in_order t fs)
in_order_map f l m (import_named_specifier s k i) (a ∷ b ∷ []) = refl
in_order_map f l m (do_while_stmt s t b) (x ∷ y ∷ []) = refl
in_order_map f l m (class s ds b p) (x ∷ y ∷ z ∷ []) = refl
in_order_map f l m (class_prop s k v i ds) (x ∷ y ∷ z ∷ []) = refl
in_order_map f l m (private_prop s k v i ds) (x ∷ y ∷ z ∷ []) = refl
in_order_map f l m (auto_accessor s k v i ds) (x ∷ y ∷ z ∷ []) = refl
in_order_map f l m _ fs = refl

-- names that are those of others, with their places kept so
abbrev pub AreKept : (ℕ → Span) → List Identifier → List Identifier → Type 0
AreKept places xs ys = xs ≡ map (placed places) ys

all_kept : (places : ℕ → Span) (us vs : List (List Identifier)) → All (AreKept places) us vs → us ≡ map (λ v. map (placed places) v) vs
all_kept places [] [] h = refl
all_kept places [] (v ∷ vs) h = absurd h
all_kept places (u ∷ us) [] h = absurd h
all_kept places (u ∷ us) (v ∷ vs) h = ap₂ (λ x xs. x ∷ xs) h.0 (all_kept places us vs h.1)

fields_kept : (places : ℕ → Span) (us vs : List (List (List Identifier))) → Kids (AreKept places) us vs → us ≡ map (λ v. map (λ w. map (placed places) w) v) vs
fields_kept places [] [] h = refl
fields_kept places [] (v ∷ vs) h = absurd h
fields_kept places (u ∷ us) [] h = absurd h
fields_kept places (u ∷ us) (v ∷ vs) h = ap₂ (λ x xs. x ∷ xs) (all_kept places u v h.0) (fields_kept places us vs h.1)

-- ---- a node

module _ (l : Leaves) where
  fields_joined : (m : Mode) (t : Tree) (us vs : List (List (List Identifier))) → Kids (AreKept l.read) us vs → AreKept l.read (joined (joined (in_order (redo l m t) us))) (joined (joined (in_order t vs)))
  fields_joined m t us vs h =
      let g = λ (w : List Identifier). map (placed l.read) w in
      ap (λ fs. joined (joined (in_order (redo l m t) fs))) (fields_kept l.read us vs h)
      ∙ (ap (λ fs. joined (joined fs)) (in_order_map (λ v. map g v) l m t vs) ∙ (ap (λ xs. joined xs) (joined_map g (in_order t vs)) ∙ joined_map (placed l.read) (joined (in_order t vs))))

  node_kept : (m : Mode) (t : Tree) (us vs : List (List (List Identifier))) → Kids (AreKept l.read) us vs → AreKept l.read (identifiers_step (redo l m t) us) (identifiers_step t vs)
  node_kept m (ident s n) us vs h = refl
  node_kept m t us vs h = fields_joined m t us vs h

-- ---- a tree

abbrev Nothing : Mode → Tree → Type 0
Nothing m t = Unit {0}

kept_as : (places : ℕ → Span) (t : Tree) → AreKept places (identifiers (redo (kept_at places) Plain t)) (identifiers t)
kept_as places t = folded (AreKept places) Nothing identifiers_step (kept_at places) (record {
  node = λ m t e us vs h. node_kept (kept_at places) m t us vs h;
  arguments = λ b a h. h;
  key = λ k e h. h;
  constructor_key = λ k e h. h;
}) Plain t (everywhere Nothing (λ m t. tt) Plain t)

given_empty : (v : Bool) → identifiers (given_none v) ≡ []
given_empty true = refl
given_empty false = refl

module _ (look : Look) (read written : ℕ → Span) where
  arguments_kept : (b : Bool) (a : Tree) → AreKept read (identifiers (redo (leaves_by look read written) Plain a)) (identifiers a)
      → AreKept read (identifiers (new_arguments look b (redo (leaves_by look read written) Plain a))) (identifiers a)
  arguments_kept b absent h = given_empty (formats look || b)
  arguments_kept b (list none) h = given_empty (formats look || b)
  arguments_kept b (list (more t ts)) h = h
  arguments_kept b _ h = h

  written_as : (m : Mode) (t : Tree) → AreKept read (identifiers (redo (leaves_by look read written) m t)) (identifiers t)
  written_as m t = folded (AreKept read) Nothing identifiers_step (leaves_by look read written) (record {
    node = λ m t e us vs h. node_kept (leaves_by look read written) m t us vs h;
    arguments = arguments_kept;
    key = λ k e h. key_folded (AreKept read) identifiers_step (leaves_by look read written) look.style k (λ s n i q. refl) h;
    constructor_key = λ k e h. constructor_key_folded (AreKept read) identifiers_step (leaves_by look read written) k (λ s u w i. refl) h;
  }) m t (everywhere Nothing (λ m t. tt) m t)

names_kept : (places : ℕ → Span) (is : List Identifier) → map (λ n. record { sym = n.sym; span = places n.at }) (map name_of is) ≡ map (placed places) is
names_kept places [] = refl
names_kept places (i ∷ is) = ap (λ xs. placed places i ∷ xs) (names_kept places is)

pub names_alike : NamesAlike
names_alike look read written m t u s =
    names_kept written (identifiers u) ∙ (sym (kept_as written u) ∙ (ap (λ v. identifiers v) (s.so Plain) ∙ (written_as look read written m t ∙ sym (names_kept read (identifiers t)))))
