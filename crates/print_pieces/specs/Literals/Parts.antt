-- Texts that are printed in parts.
use Rattle.std.specs.Prelude.{◌≡◌, ℕ, Bool, if◌then◌else◌, List, [], ◌∷◌, ◌++◌, ◌≢◌, Option, None, IsUtf8}
use base.Fml.{GName}
use Rattle.print_writers.specs.States.{State, text}
use Rattle.print_writers.specs.declared.fault.EmitError.{EmitError}
use Rattle.print_layout_spec.specs.Looks as looks
use Rattle.print_pieces.specs.Prints.{Asked, lay, IsAt}

-- One text doesn't end with CR, or the other doesn't begin with LF. CR LF is one end of a line, so lines are counted alike in
-- the two and in both as one text.
abbrev pub EndsApart : List ℕ → List ℕ → Type 0
EndsApart one other = (front rest : List ℕ) → one ≡ front ++ 13 ∷ [] → other ≢ 10 ∷ rest

-- Two texts one after the other are written, marked and counted as they are as one.
abbrev pub InTwo : Type 0
InTwo = (one other : List ℕ) (s : State) → IsUtf8 one → IsUtf8 other → EndsApart one other
    → text None (one ++ other) s ≡ text None other (text None one s)

-- A CR at the end of a part is held back, since LF may follow it.
abbrev pub held_back : Bool → List ℕ
held_back held = if held then 13 ∷ [] else []

-- What was printed of a text that begins with `front`: all but `back` of that front, whatever follows it.
pub record Leaves {S : Type 0} (tells : S → Type 0) (state : S → State) (failed : S → ℕ) (loans : S → List GName) (front back : List ℕ) (w : S) (f : Option EmitError) (v : S) (g : Option EmitError) : Type 0 where
  pub so : (a : Asked) → IsAt tells state failed loans w f a
      → (b : Asked) × IsAt tells state failed loans v g b × ((rest : List ℕ) → lay (looks.text (back ++ rest)) b ≡ lay (looks.text (front ++ rest)) a)
