-- The clone of a map of lists has the same list at each key.
use Rattle.std.proofs.Common.{◌≡◌, ℕ, Bool, true, false, List, [], ◌∷◌, refl}
use Rattle.std.specs.Prelude.{Vec, Option, Some, vec_len, if◌then◌else◌}
use Rattle.std.specs.List.{AllZip, each_same}
use Rattle.std.specs.Option.{option_map_or}
use Rattle.std.specs.Map.{lookup}
use Rattle.std.specs.declared.alloc.Global.{Global}

module _ {X : Type 0} where
  -- the list of an entry, if there is one
  abbrev items_of : Option (Vec X Global) → List X
  items_of o = option_map_or (λ v. v.items) o []

  either : (b : Bool) (v w : Vec X Global) (o p : Option (Vec X Global)) → w.items ≡ v.items → items_of p ≡ items_of o
      → items_of (if b then Some w else p) ≡ items_of (if b then Some v else o)
  either true v w o p here rest = here
  either false v w o p here rest = rest

  abbrev Clones : ℕ × Vec X Global → ℕ × Vec X Global → Type 0
  Clones p q = (q.0 ≡ p.0) × (AllZip (λ x y. y ≡ x) p.1.items q.1.items × (vec_len q.1 ≡ vec_len p.1))

  pub lookup-clones : (test : ℕ → Bool) (es fs : List (ℕ × Vec X Global)) → AllZip Clones es fs
      → items_of (lookup test fs) ≡ items_of (lookup test es)
  lookup-clones test [] [] c = refl
  lookup-clones test [] (f ∷ fs) c = absurd c
  lookup-clones test (e ∷ es) [] c = absurd c
  lookup-clones test (e ∷ es) (f ∷ fs) c =
      rw c.0.0 (either (test e.0) e.1 f.1 (lookup test es) (lookup test fs) (each_same e.1.items f.1.items c.0.1.0) (lookup-clones test es fs c.1))
