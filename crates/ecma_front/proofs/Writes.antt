-- Bytes that a writer got.
use Rattle.std.proofs.Common.{◌≡◌, ℕ, Bool, List, [], ◌++◌, Option, None, Some, Result, Ok, Err, inl, inr, refl, sym, ap, subst, ◌∙◌, append_assoc}
use Rattle.std.specs.Prelude.{true, false, OnOk, OnErr, IfErr}
use Rattle.std.specs.Option.{IsSome}
use Rattle.std.specs.Io.KnownBytes.{Appends}
use Rattle.std.proofs.lemmas.List.{append_cancel_left}
use Rattle.base_token.specs.Counts.{count_after}
use Rattle.print_writers.specs.Pages.{told, Gets, GetsFront, IsFront}
use Rattle.print_writers.specs.States.{answers_write, is_write}
use Rattle.print_writers.specs.declared.fault.EmitError.{EmitError}
use Rattle.ecma_front.specs.Exits.{Begins, Prints}

appended : (a b : Option (List ℕ)) (bytes : List ℕ) → Gets a b bytes → Appends a b bytes
appended None b bytes g = tt
appended (Some x) b bytes g = known b (g refl)
  where
    known : (b : Option (List ℕ)) → IsSome b × (told b ≡ x ++ bytes) → Appends (Some x) b bytes
    known None p = let e : false ≡ true = p.0 in absurd (cc)
    known (Some y) p = p.1

pub gets_as : (a b : Option (List ℕ)) (xs ys : List ℕ) → Gets a b xs → ys ≡ xs → Gets a b ys
gets_as a b xs ys g e = subst (λ (zs : List ℕ). Gets a b zs) (sym e) g

-- and a beginning of some
begun : (a b : Option (List ℕ)) (bytes : List ℕ) → GetsFront a b bytes → Begins a b bytes
begun None b bytes g = ([], (bytes, refl), tt)
begun (Some x) b bytes g = known b (g refl)
  where
    known : (b : Option (List ℕ)) → IsSome b × IsFront x (told b) × IsFront (told b) (x ++ bytes) → Begins (Some x) b bytes
    known None p = let e : false ≡ true = p.0 in absurd (cc)
    known (Some y) p =
        let whole : x ++ bytes ≡ x ++ (p.1.0 ++ p.2.0) = p.2.1 ∙ ap (λ (l : List ℕ). l ++ p.2.0) p.1.1 ∙ append_assoc x p.1.0 p.2.0 in
        (p.1.0, (p.2.0, append_cancel_left x bytes (p.1.0 ++ p.2.0) whole), p.1.1)

-- bytes that were written, or a beginning of them
pub printed : {E : Type 0} (contents : E → Option (List ℕ)) (failures : E → ℕ) (before after : E) (bytes : List ℕ) {A : Type 0} (result : Result A EmitError)
    → OnOk result (Gets (contents before) (contents after) bytes) → OnErr result (GetsFront (contents before) (contents after) bytes)
    → failures after ≡ count_after (answers_write result) (failures before) → IfErr result (λ e. is_write e ≡ true) → Prints contents failures before after bytes
printed contents failures before after bytes (Ok x) written front count kind = inl (appended _ _ bytes written, count)
printed contents failures before after bytes (Err e) written front count kind = inr (begun _ _ bytes front, count ∙ ap (λ (b : Bool). count_after b (failures before)) kind)
