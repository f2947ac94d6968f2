-- What is written of mappings.
use Rattle.std.specs.Prelude.{ℕ, zero, suc, ◌+◌, ◌-◌, ◌*◌, ◌/◌, ◌%◌, List, [], ◌∷◌, ◌++◌, Option, Some, None, if◌then◌else◌, ◌==◌, nat_le, nat_lt, replicate}
use Rattle.base_token.specs.declared.place.LineCol.{LineCol}
use Rattle.print_source_map.specs.declared.mapping.Mapping.{Mapping}
use Rattle.print_source_map.specs.Mappings.{start}

-- the digit of a value below 64
abbrev pub digit_of : ℕ → ℕ
digit_of d = if nat_lt d 26 then d + 65 else if nat_lt d 52 then d + 71 else if nat_lt d 62 then d - 4 else if d == 62 then 43 else 47

-- the digits of a number, the lowest first, no more of them than so many
unfoldable pub some_digits : ℕ → ℕ → List ℕ
some_digits zero n = []
some_digits (suc k) n = if nat_lt n 32 then digit_of n ∷ [] else digit_of (n % 32 + 32) ∷ some_digits k (n / 32)

-- the digits of a number
unfoldable pub digits : ℕ → List ℕ
digits n = some_digits (suc n) n

-- the number that leads from one place to another
unfoldable pub difference : ℕ → ℕ → ℕ
difference from to = if nat_le from to then 2 * (to - from) else 2 * (from - to) + 1

-- a segment behind a column, and behind a place of the source
unfoldable pub segment : ℕ → LineCol → Mapping → List ℕ
segment column source m =
    digits (difference column m.written.col) ++ (65 ∷ (digits (difference source.line m.source.line) ++ digits (difference source.col m.source.col)))

-- a mapping behind another of its line
unfoldable pub in_line : Mapping → Mapping → List ℕ
in_line p m = 44 ∷ segment p.written.col p.source m

-- the first mapping of a line, so many lines further, behind a place of the source
unfoldable pub below : ℕ → LineCol → Mapping → List ℕ
below lines source m = replicate lines 59 ++ segment 0 source m

-- a mapping behind another, or the first
abbrev pub piece : Option Mapping → Mapping → List ℕ
piece None m = below m.written.line start.source m
piece (Some p) m = if p.written.line == m.written.line then in_line p m else below (m.written.line - p.written.line) p.source m

-- mappings behind another, or from the first on
unfoldable pub written : Option Mapping → List Mapping → List ℕ
written last [] = []
written last (m ∷ ms) = piece last m ++ written (Some m) ms
