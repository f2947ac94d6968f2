-- Parameters of arrows, and what is left out.
use Rattle.std.proofs.Common.{◌≡◌, ℕ, Bool, true, false, not, ◌&&◌, ◌||◌, codes, if◌then◌else◌, List, [], ◌∷◌, ◌≤◌, length, Option, arith, refl, sym, ap, ◌∙◌}
use base.Fml.{GName}
use Rattle.print_writers.specs.States.{State}
use Rattle.print_writers.specs.declared.fault.EmitError.{EmitError}
use Rattle.print_pieces.specs.Prints.{Prints}
use Rattle.print_pieces.proofs.Steps.{idle}
use Rattle.tree_spec.specs.Tree.{Tree, none, more, trees_by}
use Rattle.print_layout_spec.specs.declared.look.Look.{Look}
use Rattle.print_layout_spec.specs.Looks.{Laid, ◌·◌, text, blank, formats, gap_or, when}
use Rattle.print_layout_spec.specs.Layout.{is_one_name}
use Rattle.print_layout_spec.proofs.Parameters.{several}

pub blank_behind : (look : Look) (one : Bool) → gap_or look one ≡ when (formats look || one) blank
blank_behind look one = elim look.style.minify as (λ (b : Bool). when (one || not b) blank ≡ when (not b || one) blank) [
  | true ↦ elim one as (λ (c : Bool). when (c || false) blank ≡ when c blank) [ true ↦ refl | false ↦ refl ]
  | false ↦ elim one as (λ (c : Bool). when (c || true) blank ≡ when true blank) [ true ↦ refl | false ↦ refl ]
]

-- nothing is written where something doesn't hold
pub left_out : {S : Type 0} {tells : S → Type 0} {state : S → State} {failed : S → ℕ} {loans : S → List GName} (l : Laid) {w : S} {f : Option EmitError} {b : Bool}
    → b ≡ false → Prints {S = S} tells state failed loans (when b l) w f w f
left_out l e = rw e idle

pub one_alone : {A : Type 0} (f : A → Tree) (xs : List A) (x : A) {b : Bool} → xs ≡ x ∷ [] → b ≡ is_one_name (more (f x) none) → b ≡ is_one_name (trees_by f xs)
one_alone f xs x e h = h ∙ ap (λ ys. is_one_name (trees_by f ys)) (sym e)

pub none_alone : {A : Type 0} (f : A → Tree) (xs : List A) → length xs ≤ 0 → false ≡ is_one_name (trees_by f xs)
none_alone f [] e = refl
none_alone f (x ∷ xs) e = absurd (omega (arith, e))

pub two_alone : {A : Type 0} (f : A → Tree) (xs : List A) → 2 ≤ length xs → false ≡ is_one_name (trees_by f xs)
two_alone f [] e = absurd (omega (arith, e))
two_alone f (x ∷ []) e = absurd (omega (arith, e))
two_alone f (x ∷ y ∷ ys) e = sym (several (f x) (f y) (trees_by f ys))

-- the same where it is asked otherwise
pub waits_as : (look : Look) (waits : Bool) {b d : Bool} → b ≡ d → when waits (text (codes "async") · when (formats look || b) blank) ≡ when waits (text (codes "async") · when (formats look || d) blank)
waits_as look waits e = ap (λ (b : Bool). when waits (text (codes "async") · when (formats look || b) blank)) e

pub bare_as : (l m : Laid) (c : Bool) {b d : Bool} → b ≡ d → (if b && c then l else m) ≡ (if d && c then l else m)
bare_as l m c e = ap (λ (b : Bool). if b && c then l else m) e
