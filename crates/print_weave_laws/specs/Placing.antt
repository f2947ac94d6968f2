-- Where the comments of a source are written: each gap of the source has a target among the gaps of what is written, and what is written in a gap is what the gaps have whose target it is, in their order.
use Rattle.std.specs.Prelude.{◌≤◌, ◌<◌, ℕ, zero, suc, ◌==◌, if◌then◌else◌, List, [], ◌++◌}

-- of the first n gaps, what comes to the gap h
abbrev pub collected : {A : Type 0} → ℕ → (ℕ → ℕ) → (ℕ → List A) → ℕ → List A
collected zero t N h = []
collected (suc n) t N h = collected n t N h ++ (if t n == h then N n else [])

-- what the first n gaps have, one after another
abbrev pub all_of : {A : Type 0} → ℕ → (ℕ → List A) → List A
all_of zero N = []
all_of (suc n) N = all_of n N ++ N n

-- The targets of the first n gaps are in their order, and among the first m.
abbrev pub InOrder : ℕ → ℕ → (ℕ → ℕ) → Type 0
InOrder n m t = ((g h : ℕ) → g ≤ h → h < n → t g ≤ t h) × ((g : ℕ) → g < n → t g < m)
