-- What is chosen, lists that aren't empty, the blank behind `static`, and the fields of a function and a class in a box.
use Rattle.std.proofs.Common.{◌≡◌, ℕ, Bool, true, false, not, ◌&&◌, ◌||◌, List, [], ◌∷◌, ◌≤◌, length, arith, Option, refl, ap, ◌∙◌, if◌then◌else◌}
use base.Fml.{GName}
use Rattle.print_writers.specs.States.{State}
use Rattle.print_writers.specs.declared.fault.EmitError.{EmitError}
use Rattle.print_layout_spec.specs.declared.look.Look.{Look}
use Rattle.print_layout_spec.specs.Looks.{Laid, blank, gap, gap_or}
use Rattle.print_layout_spec.specs.Layout.{method_marks, is_empty}
use Rattle.tree_spec.specs.Tree.{Tree, trees_by}
use Rattle.tree_nodes.specs.declared.functions.ClassOf.{ClassOf}
use Rattle.tree_nodes.specs.declared.functions.DecoratorOf.{DecoratorOf}
use Rattle.tree_nodes.specs.declared.functions.FunctionOf.{FunctionOf}
use Rattle.tree_nodes.specs.declared.functions.ParamOf.{ParamOf}
use Rattle.tree_nodes.specs.declared.statements.BlockStmtOf.{BlockStmtOf}
use Rattle.print_pieces.specs.Prints.{Prints}

-- the other of two
pub otherwise : {S : Type 0} {tells : S → Type 0} {state : S → State} {failed : S → ℕ} {loans : S → List GName} (l : Laid) {m : Laid} {w v : S} {f g : Option EmitError} {b : Bool}
    → b ≡ false → Prints {S = S} tells state failed loans m w f v g → Prints {S = S} tells state failed loans (if b then l else m) w f v g
otherwise l e h = rw e h

pub some_part : {A : Type 0} (f : A → Tree) (xs : List A) → 1 ≤ length xs → false ≡ is_empty (trees_by f xs)
some_part f [] n = absurd (omega (arith, n))
some_part f (x ∷ xs) n = refl

-- the blank behind `static` of a method, as one question
pub behind_static : (look : Look) (plain waits generates word : Bool)
    → gap_or look ((not plain || waits) || (not generates && word)) ≡ (if plain && not waits then (if generates then gap look else gap_or look word) else blank)
behind_static look true true generates word = refl
behind_static look true false true word = refl
behind_static look true false false word = refl
behind_static look false waits generates word = refl

pub same_marks : {a b c d : Bool} → a ≡ b → c ≡ d → method_marks a c ≡ method_marks b d
same_marks {a} {b} {c} {d} e h = ap (λ (x : Bool). method_marks x c) e ∙ ap (method_marks b) h

-- ---- the fields of what a box holds
abbrev pub waits_of : {T : Type 0} → FunctionOf T → Bool
waits_of f = f.is_async

abbrev pub generates_of : {T : Type 0} → FunctionOf T → Bool
generates_of f = f.is_generator

abbrev pub params_of : {T : Type 0} → FunctionOf T → List (ParamOf T)
params_of f = f.params.items

abbrev pub decorators_of : {T : Type 0} → FunctionOf T → List (DecoratorOf T)
decorators_of f = f.decorators.items

abbrev pub body_of : {T : Type 0} → FunctionOf T → BlockStmtOf T
body_of f = f.body

abbrev pub class_decorators_of : {T : Type 0} → ClassOf T → List (DecoratorOf T)
class_decorators_of s = s.decorators.items

-- what is laid out of two parts that are the same
pub same_two : {A B : Type 0} (f : A → B → Laid) {a b : A} {c d : B} → a ≡ b → c ≡ d → f a c ≡ f b d
same_two f {b = b} {c = c} e h = ap (λ x. f x c) e ∙ ap (f b) h

-- a declarator with an initialiser ends as that does
pub initial_end : {a c : Bool} (b : Bool) → c ≡ true → a ≡ (if c then a else b)
initial_end b e = rw e refl
