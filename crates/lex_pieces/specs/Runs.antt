-- Runs of characters of a class.
use Rattle.std.specs.Prelude.{◌≡◌, ℕ, Bool, true, false, List, [], ◌∷◌, ◌++◌, if◌then◌else◌}

-- each character passes
abbrev pub Each : (ℕ → Bool) → List ℕ → Type 0
Each p [] = Unit {0}
Each p (c ∷ cs) = (p c ≡ true) × Each p cs

-- no character that passes comes next: what is before is the longest
abbrev pub Ends : (ℕ → Bool) → List ℕ → Type 0
Ends p [] = Unit {0}
Ends p (c ∷ cs) = p c ≡ false

-- the characters at the front that pass, and what comes after them
abbrev pub run : (ℕ → Bool) → List ℕ → List ℕ
run p [] = []
run p (c ∷ cs) = if p c then c ∷ run p cs else []

abbrev pub after : (ℕ → Bool) → List ℕ → List ℕ
after p [] = []
after p (c ∷ cs) = if p c then after p cs else c ∷ cs

-- The characters are some that pass, and then the rest.
pub record Passed (p : ℕ → Bool) (cs rest : List ℕ) : Type 0 where
  pub front : List ℕ
  pub whole : cs ≡ front ++ rest
  pub each : Each p front
  pub ran : run p cs ≡ front ++ run p rest
  pub left : after p cs ≡ after p rest

-- the longest run at the front of the characters, and what comes after it
abbrev pub IsRun : (ℕ → Bool) → List ℕ → List ℕ → List ℕ → Type 0
IsRun p cs own rest = (cs ≡ own ++ rest) × Each p own × Ends p rest
