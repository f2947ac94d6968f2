-- What the cells of a row hold. What they say is `Matches`, by the lemmas of `proofs/Deciding.antt`.
use Rattle.std.specs.Prelude.{◌≡◌, ◌==◌, ℕ, ◌+◌, ◌≤◌, Bool, true, false, not, ◌&&◌, ◌||◌, List, [], ◌∷◌, length, drop, slice_index_or}
use Rattle.run_ignore.specs.Classes.{holds}
use Rattle.run_ignore.specs.declared.matching.Cell.{Cell}
use Rattle.run_ignore.specs.declared.pieces.Piece.{Piece}
use Rattle.run_ignore.specs.declared.pieces.Piece.TheVariants.{Byte, One, Among, Star, Folders, Everything, Nothing}

-- the byte is a slash
abbrev pub is_slash : ℕ → Bool
is_slash byte = byte == 47

-- the test passes at what stands behind some slash
abbrev pub later : (List ℕ → Bool) → List ℕ → Bool
later test [] = false
later test (byte ∷ rest) = (is_slash byte && test rest) || later test rest

-- the test passes behind some run of bytes that are no slash
abbrev pub starred : (List ℕ → Bool) → List ℕ → Bool
starred test [] = test []
starred test (byte ∷ rest) = test (byte ∷ rest) || (not (is_slash byte) && starred test rest)

-- the first byte passes one test, and the rest another
abbrev pub headed : (ℕ → Bool) → (List ℕ → Bool) → List ℕ → Bool
headed first test [] = false
headed first test (byte ∷ rest) = first byte && test rest

-- nothing is left
abbrev pub is_end : List ℕ → Bool
is_end [] = true
is_end (byte ∷ rest) = false

-- the pieces match the path
abbrev pub can : List Piece → List ℕ → Bool
can [] path = is_end path
can (Byte byte ∷ more) path = headed (λ b. b == byte) (can more) path
can (One ∷ more) path = headed (λ b. not (is_slash b)) (can more) path
can (Among class ∷ more) path = headed (λ b. not (is_slash b) && holds class b) (can more) path
can (Star ∷ more) path = starred (can more) path
can (Folders ∷ more) path = can more path || later (can more) path
can (Everything ∷ more) path = true
can (Nothing ∷ more) path = false

-- the cell of pieces at a path
abbrev pub cell_of : List Piece → List ℕ → Cell
cell_of pieces path = record { here = can pieces path; later = later (can pieces) path }

-- the cells from this one on are those of the pieces from this one on
abbrev pub IsRowFrom : ℕ → List Cell → List Piece → List ℕ → Type 0
IsRowFrom from cells pieces path = (k : ℕ) → from ≤ k → k ≤ length pieces → (d : Cell) → slice_index_or cells k d ≡ cell_of (drop k pieces) path

-- a row has a cell for each end of the pieces
pub record IsRow (cells : List Cell) (pieces : List Piece) (path : List ℕ) : Type 0 where
  pub count : length cells ≡ length pieces + 1
  pub each : IsRowFrom 0 cells pieces path
