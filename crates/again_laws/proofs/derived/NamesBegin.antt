-- The names of what is derived begin where its tokens do.
use Rattle.std.proofs.Common.{◌≡◌, ◌≤◌, ℕ, true, List, [], ◌∷◌, ◌++◌, map, refl, sym, subst, true≢false}
use Rattle.tree_spec.specs.Tree.{Tree, import_named_specifier, do_while_stmt, class, class_prop, private_prop, auto_accessor, ident}
use Rattle.tree_program_spec.specs.Names.Names.{Identifier, joined, in_order, identifiers, identifiers_step, name_of}
use Rattle.grammar_spec.specs.Tokens.Input.{PlacedToken, Input, others, kind_of, lo_of, is_word}
use Rattle.again_laws.specs.Derived.Redo.{Mode, Plain, kept}
use Rattle.again_laws.specs.Derived.Every.{every}
use Rattle.again_laws.specs.Derived.Read.{Knowledge, Read}
use Rattle.again_laws.specs.Derived.Begins.{BeginFrom, NamesFrom, NamesBeginThere}
use Rattle.again_laws.proofs.derived.Folded.{All, Kids, folded}
use Rattle.again_laws.proofs.derived.Found.{found}

-- ---- what holds of each of a list

abbrev Each : {A : Type 0} → (A → Type 0) → List A → Type 0
Each P [] = Unit {0}
Each P (x ∷ xs) = P x × Each P xs

each_of_both : {A : Type 0} (P : A → Type 0) (xs ys : List A) → Each P xs → Each P ys → Each P (xs ++ ys)
each_of_both P [] ys h k = k
each_of_both P (x ∷ xs) ys h k = (h.0, each_of_both P xs ys h.1 k)

each_joined : {A : Type 0} (P : A → Type 0) (xss : List (List A)) → Each (λ xs. Each P xs) xss → Each P (joined xss)
each_joined P [] h = tt
each_joined P (xs ∷ xss) h = each_of_both P xs (joined xss) h.0 (each_joined P xss h.1)

each_in_order : {A : Type 0} (P : A → Type 0) (t : Tree) (fs : List A) → Each P fs → Each P (in_order t fs)
each_in_order P (import_named_specifier s k i) (a ∷ b ∷ []) h = (h.1.0, (h.0, tt))
each_in_order P (do_while_stmt s t b) (x ∷ y ∷ []) h = (h.1.0, (h.0, tt))
each_in_order P (class s ds b p) (x ∷ y ∷ z ∷ []) h = (h.0, (h.1.1.0, (h.1.0, tt)))
each_in_order P (class_prop s k v i ds) (x ∷ y ∷ z ∷ []) h = (h.1.1.0, (h.0, (h.1.0, tt)))
each_in_order P (private_prop s k v i ds) (x ∷ y ∷ z ∷ []) h = (h.1.1.0, (h.0, (h.1.0, tt)))
each_in_order P (auto_accessor s k v i ds) (x ∷ y ∷ z ∷ []) h = (h.1.1.0, (h.0, (h.1.0, tt)))
each_in_order P _ fs h = h

-- ---- tokens

others_from : (n : ℕ) (ps : List PlacedToken) → BeginFrom n ps → BeginFrom n (others ps)
others_from n [] h = tt
others_from n (p ∷ ps) h = h.1

abbrev from : ℕ → Knowledge
from n = record { Known = λ ps. BeginFrom n ps; later = λ ts m e k. subst (λ (i : Input). BeginFrom n i.places) e (others_from n ts.places k) }

word_from : (n last : ℕ) (ps : List PlacedToken) → BeginFrom n ps → is_word (kind_of ps) ≡ true → n ≤ lo_of last ps
word_from n last [] k w = absurd (true≢false (sym w))
word_from n last (p ∷ ps) k w = k.0

-- ---- names

module _ (n : ℕ) where
  abbrev StandsFrom : Identifier → Type 0
  StandsFrom i = n ≤ i.span.lo.0

  abbrev pub AllStand : List Identifier → List Identifier → Type 0
  AllStand xs ys = Each StandsFrom ys

  field_from : (us vs : List (List Identifier)) → All AllStand us vs → Each (λ v. Each StandsFrom v) vs
  field_from [] [] h = tt
  field_from [] (v ∷ vs) h = absurd h
  field_from (u ∷ us) [] h = absurd h
  field_from (u ∷ us) (v ∷ vs) h = (h.0, field_from us vs h.1)

  fields_from : (us vs : List (List (List Identifier))) → Kids AllStand us vs → Each (λ f. Each (λ v. Each StandsFrom v) f) vs
  fields_from [] [] h = tt
  fields_from [] (v ∷ vs) h = absurd h
  fields_from (u ∷ us) [] h = absurd h
  fields_from (u ∷ us) (v ∷ vs) h = (field_from u v h.0, fields_from us vs h.1)

  parts_from : (t : Tree) (us vs : List (List (List Identifier))) → Kids AllStand us vs → Each StandsFrom (joined (joined (in_order t vs)))
  parts_from t us vs h = each_joined StandsFrom (joined (in_order t vs)) (each_joined (λ v. Each StandsFrom v) (in_order t vs) (each_in_order (λ f. Each (λ v. Each StandsFrom v) f) t vs (fields_from us vs h)))

  node_from : (m : Mode) (t : Tree) → every (Read (from n).Known) m t → (us vs : List (List (List Identifier))) → Kids AllStand us vs → Each StandsFrom (identifiers_step t vs)
  node_from m (ident s k) e us vs h = (subst (λ (i : ℕ). n ≤ i) (sym e.begins) (word_from n e.at.last e.at.places e.known e.word), tt)
  node_from m t e us vs h = parts_from t us vs h

  identifiers_from : (t : Tree) → every (Read (from n).Known) Plain t → Each StandsFrom (identifiers t)
  identifiers_from t e = folded AllStand (Read (from n).Known) identifiers_step kept (record {
    node = λ m t e us vs h. node_from m t e us vs h;
    arguments = λ b a h. h;
    key = λ k e h. h;
    constructor_key = λ k e h. h;
  }) Plain t e

  names_from : (is : List Identifier) → Each StandsFrom is → NamesFrom n (map name_of is)
  names_from [] h = tt
  names_from (i ∷ is) h = (h.0, names_from is h.1)

pub names_begin_there : NamesBeginThere
names_begin_there n t c ts r q h k = names_from n (identifiers t) (identifiers_from n t (found (from n) t Plain refl q c ts r h k).0)
