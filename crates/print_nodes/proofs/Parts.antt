-- Printing a list, part by part.
use Rattle.std.proofs.Common.{◌≡◌, not, suc, ◌-◌, arith, Some, None, ◌==◌, ℕ, ◌+◌, ◌<◌, ◌≤◌, length, Bool, true, false, List, [], ◌∷◌, Option, drop, slice_index_or, refl, sym, subst, ap, ◌∙◌}
use Rattle.std.proofs.lemmas.List.{drop_more, drop_all}
use base.Fml.{GName}
use Rattle.print_writers.specs.States.{State}
use Rattle.print_writers.specs.declared.fault.EmitError.{EmitError}
use Rattle.print_layout_spec.specs.declared.look.Look.{Look}
use Rattle.print_layout_spec.specs.declared.look.Stand.TheVariants.{Alone}
use Rattle.print_layout_spec.specs.Looks.{Laid, nothing, both, ◌·◌, when, line, deeper, back}
use Rattle.print_layout_spec.specs.Layout.{laid, closing, separated, rows, indented, indented_or_line, is_empty, ends_with_hole, has_arguments}
use Rattle.std.specs.List.{slice_get}
use Rattle.tree_spec.specs.Tree.{Tree, Trees, none, more, trees_by, hole, list}
use Rattle.print_nodes.specs.Asks.{is_hole}
use Rattle.print_pieces.specs.Prints.{Asked, lay, IsAt, Prints}

-- On the way through `whole`, with `left` still to print: where the writer was in what there is to write, it is now so far behind
-- that what is left completes the whole.
pub record Goes {S : Type 0} (tells : S → Type 0) (state : S → State) (failed : S → ℕ) (loans : S → List GName) (whole left : Laid) (w : S) (f : Option EmitError) (v : S) (g : Option EmitError) : Type 0 where
  pub so : (a : Asked) → IsAt tells state failed loans w f a → (b : Asked) × IsAt tells state failed loans v g b × (lay left b ≡ lay whole a)

module _ {S : Type 0} {tells : S → Type 0} {state : S → State} {failed : S → ℕ} {loans : S → List GName} where
  pub sets_out : {whole : Laid} {w : S} {f : Option EmitError} → Goes {S = S} tells state failed loans whole whole w f w f
  sets_out = record { so = λ a h. (a, h, refl) }

  pub goes_on : {whole x left : Laid} {w v u : S} {f g e : Option EmitError} → Goes {S = S} tells state failed loans whole (both x left) w f v g → Prints {S = S} tells state failed loans x v g u e → Goes {S = S} tells state failed loans whole left w f u e
  goes_on {whole} {x} {left} h k = record { so = λ a z. let y = h.so a z in (lay x y.0, k.so y.0 y.1, y.2) }

  pub arrives : {whole : Laid} {w v : S} {f g : Option EmitError} → Goes {S = S} tells state failed loans whole nothing w f v g → Prints {S = S} tells state failed loans whole w f v g
  arrives {whole} {w} {v} {f} {g} h = record { so = λ a z. let y = h.so a z in subst (IsAt {S = S} tells state failed loans v g) y.2 y.1 }

  -- what is left may be taken apart otherwise
  pub as_left : {whole left other : Laid} {w v : S} {f g : Option EmitError} → ((a : Asked) → lay other a ≡ lay left a) → Goes {S = S} tells state failed loans whole left w f v g → Goes {S = S} tells state failed loans whole other w f v g
  as_left q h = record { so = λ a z. let y = h.so a z in (y.0, y.1, q y.0 ∙ y.2) }

  -- the last of what is left
  pub goes_home : {whole x : Laid} {w v u : S} {f g e : Option EmitError} → Goes {S = S} tells state failed loans whole x w f v g → Prints {S = S} tells state failed loans x v g u e → Prints {S = S} tells state failed loans whole w f u e
  goes_home {whole} {x} {w} {v} {u} {f} {g} {e} h k = record { so = λ a z. let y = h.so a z in subst (IsAt {S = S} tells state failed loans u e) y.2 (k.so y.0 y.1) }

  -- the same for a layout that comes to the same
  pub laid_like : {l m : Laid} {w v : S} {f g : Option EmitError} → ((a : Asked) → lay l a ≡ lay m a) → Prints {S = S} tells state failed loans l w f v g → Prints {S = S} tells state failed loans m w f v g
  laid_like {l} {m} {w} {v} {f} {g} q h = record { so = λ a z. subst (IsAt {S = S} tells state failed loans v g) (q a) (h.so a z) }

-- what follows the first part of a list
abbrev pub behind : Laid → (Trees → Laid) → Trees → Laid
behind b f none = nothing
behind b f (more t ts) = b · f (more t ts)

pub separated_first : (look : Look) (b : Laid) (t : Tree) (ts : Trees) (a : Asked) → lay (laid look Alone t · behind b (separated look b) ts) a ≡ lay (separated look b (more t ts)) a
separated_first look b t none a = refl
separated_first look b t (more u us) a = refl

pub rows_first : (look : Look) (closed : Bool) (t : Tree) (ts : Trees) (a : Asked)
    → lay (laid look Alone t · (when closed (closing look t) · behind (line look) (rows look closed) ts)) a ≡ lay (rows look closed (more t ts)) a
rows_first look closed t none a = refl
rows_first look closed t (more u us) a = refl

-- a list that starts with a part
pub parts_are : {A : Type 0} (f : A → Tree) (xs : List A) (x : A) (rest : List A) → xs ≡ x ∷ rest → trees_by f xs ≡ more (f x) (trees_by f rest)
parts_are f xs x rest e = ap (trees_by f) e

-- the next part of a list, and its end
pub next_part : {A : Type 0} (f : A → Tree) (xs : List A) (i : ℕ) (x : A) → i < length xs → x ≡ slice_index_or xs i x → trees_by f (drop i xs) ≡ more (f x) (trees_by f (drop (i + 1) xs))
next_part f xs i x lt e = ap (trees_by f) (drop_more xs i x lt) ∙ ap (λ y. more (f y) (trees_by f (drop (i + 1) xs))) (sym e)

pub no_part : {A : Type 0} (f : A → Tree) (xs : List A) (i : ℕ) → length xs ≤ i → trees_by f (drop i xs) ≡ none
no_part f xs i le = ap (trees_by f) (drop_all i xs le)

module _ {S : Type 0} {tells : S → Type 0} {state : S → State} {failed : S → ℕ} {loans : S → List GName} where
  pub at_part : {A : Type 0} (F : Trees → Laid) (f : A → Tree) (xs : List A) (i : ℕ) (x : A) → i < length xs → x ≡ slice_index_or xs i x
      → {whole : Laid} {w v : S} {e g : Option EmitError} → Goes {S = S} tells state failed loans whole (F (trees_by f (drop i xs))) w e v g
      → Goes {S = S} tells state failed loans whole (F (more (f x) (trees_by f (drop (i + 1) xs)))) w e v g
  at_part F f xs i x lt q {whole} {w} {v} {e} {g} h = subst (λ (ts : Trees). Goes {S = S} tells state failed loans whole (F ts) w e v g) (next_part f xs i x lt q) h

  pub at_end : {A : Type 0} (F : Trees → Laid) (f : A → Tree) (xs : List A) (i : ℕ) → length xs ≤ i → F none ≡ nothing
      → {whole : Laid} {w v : S} {e g : Option EmitError} → Goes {S = S} tells state failed loans whole (F (trees_by f (drop i xs))) w e v g
      → Prints {S = S} tells state failed loans whole w e v g
  at_end F f xs i le q {whole} {w} {v} {e} {g} h =
      arrives (subst (λ (l : Laid). Goes {S = S} tells state failed loans whole l w e v g) (ap F (no_part f xs i le) ∙ q) h)

-- a list that isn't empty, one level deeper
pub indented_parts : {A : Type 0} (look : Look) (f : A → Tree) (xs : List A) (l : Laid) {b : Bool} → b ≡ (length xs == 0) → b ≡ false
    → (line look · deeper look · l · back look · line look) ≡ indented look (trees_by f xs) l
indented_parts look f [] l e n = absurd (cc)
indented_parts look f (x ∷ xs) l e n = refl

pub indented_lines : {A : Type 0} (look : Look) (f : A → Tree) (xs : List A) (l : Laid) {b : Bool} → b ≡ (length xs == 0) → b ≡ false
    → (line look · deeper look · l · back look · line look) ≡ indented_or_line look (trees_by f xs) l
indented_lines look f [] l e n = absurd (cc)
indented_lines look f (x ∷ xs) l e n = refl

-- a list that isn't empty
pub filled : {A : Type 0} (f : A → Tree) (xs : List A) {b : Bool} → b ≡ (length xs == 0) → b ≡ false → not (is_empty (trees_by f xs)) ≡ true
filled f [] e n = absurd (cc)
filled f (x ∷ xs) e n = refl

-- ---- the last element of a list with holes
hole_at_end : (t u : Tree) (ts : Trees) → ends_with_hole (more t (more u ts)) ≡ ends_with_hole (more u ts)
hole_at_end hole u ts = refl
hole_at_end t u ts = refl

hole_alone : (t : Tree) → ends_with_hole (more t none) ≡ is_hole t
hole_alone hole = refl
hole_alone t = refl

abbrev LastIs : {A : Type 0} → (A → Tree) → Option A → List A → Type 0
LastIs f None xs = ends_with_hole (trees_by f xs) ≡ false
LastIs f (Some y) xs = ends_with_hole (trees_by f xs) ≡ is_hole (f y)

further : {A : Type 0} (f : A → Tree) (o : Option A) (x y : A) (xs : List A) → LastIs f o (y ∷ xs) → LastIs f o (x ∷ y ∷ xs)
further f None x y xs h = hole_at_end (f x) (f y) (trees_by f xs) ∙ h
further f (Some z) x y xs h = hole_at_end (f x) (f y) (trees_by f xs) ∙ h

last_is : {A : Type 0} (f : A → Tree) (xs : List A) → LastIs f (slice_get xs (length xs - 1)) xs
last_is f [] = refl
last_is f (x ∷ []) = hole_alone (f x)
last_is f (x ∷ y ∷ xs) =
    let same : length (x ∷ y ∷ xs) - 1 ≡ suc (length (y ∷ xs) - 1) = omega arith in
    subst (λ (i : ℕ). LastIs f (slice_get (x ∷ y ∷ xs) i) (x ∷ y ∷ xs)) (sym same) (further f (slice_get (y ∷ xs) (length (y ∷ xs) - 1)) x y xs (last_is f (y ∷ xs)))

pub last_hole : {A : Type 0} (f : A → Tree) (xs : List A) (y : A) → Some y ≡ slice_get xs (length xs - 1) → ends_with_hole (trees_by f xs) ≡ is_hole (f y)
last_hole f xs y q = subst (λ z. LastIs f z xs) (sym q) (last_is f xs)

pub some_arguments : {A : Type 0} (f : A → Tree) (xs ys : List A) → ys ≡ xs → 1 ≤ length ys → true ≡ has_arguments (list (trees_by f xs))
some_arguments f [] [] e n = absurd (omega (arith, n))
some_arguments f [] (y ∷ ys) e n = absurd (cc)
some_arguments f (x ∷ xs) ys e n = refl
