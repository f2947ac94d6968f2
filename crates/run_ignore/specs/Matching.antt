-- A pattern matches a path (gitignore(5), "Pattern format"). A path is its bytes, with a slash (47) between its names.
use Rattle.std.specs.Prelude.{◌≡◌, ◌≢◌, ℕ, ◌⊎◌, List, [], ◌∷◌, ◌++◌, IsTrue}
use Rattle.run_ignore.specs.Classes.{holds}
use Rattle.run_ignore.specs.declared.pieces.Piece.{Piece}
use Rattle.run_ignore.specs.declared.pieces.Piece.TheVariants.{Byte, One, Among, Star, Folders, Everything, Nothing}

-- the byte is of a name
abbrev pub IsOfName : ℕ → Type 0
IsOfName byte = byte ≢ 47

-- no byte of it is a slash
abbrev pub IsOfOneName : List ℕ → Type 0
IsOfOneName [] = Unit {0}
IsOfOneName (byte ∷ rest) = IsOfName byte × IsOfOneName rest

-- the pieces, one after the other, match the path:
-- "?" any one byte but a slash, a class one of its bytes, "*" any run without a slash,
-- a leading "**/" any folders, also none, a trailing "/**" everything inside
abbrev pub Matches : List Piece → List ℕ → Type 0
Matches [] path = path ≡ []
Matches (Byte byte ∷ more) path = (rest : List ℕ) × ((path ≡ byte ∷ rest) × Matches more rest)
Matches (One ∷ more) path = (byte : ℕ) × ((rest : List ℕ) × ((path ≡ byte ∷ rest) × (IsOfName byte × Matches more rest)))
Matches (Among class ∷ more) path = (byte : ℕ) × ((rest : List ℕ) × ((path ≡ byte ∷ rest) × (IsOfName byte × (IsTrue (holds class byte) × Matches more rest))))
Matches (Star ∷ more) path = (run : List ℕ) × ((rest : List ℕ) × ((path ≡ run ++ rest) × (IsOfOneName run × Matches more rest)))
Matches (Folders ∷ more) path = Matches more path ⊎ ((folders : List ℕ) × ((rest : List ℕ) × ((path ≡ folders ++ 47 ∷ rest) × Matches more rest)))
Matches (Everything ∷ more) path = Unit {0}
Matches (Nothing ∷ more) path = ⊥
