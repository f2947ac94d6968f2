-- Lines and columns of what is written. A line ends at LF, CR or CR LF, a column counts UTF-16 units, and both are from 0.
use Rattle.std.specs.Prelude.{ℕ, ◌+◌, Bool, false, not, ◌&&◌, ◌||◌, List, [], ◌∷◌, if◌then◌else◌, ◌==◌, nat_le, nat_lt, Option, Some, None, option_and_then}
use Rattle.base_token.specs.declared.place.LineCol.{LineCol}

-- the last line, and the last column
abbrev pub last_place : ℕ
last_place = 0xFFFF_FFFF

-- Whether a character ends a line, before these characters. LF does, and CR where no LF follows it, since CR LF is one end.
abbrev pub begins_with_lf : List ℕ → Bool
begins_with_lf [] = false
begins_with_lf (c ∷ cs) = c == 10

abbrev pub ends_line : ℕ → List ℕ → Bool
ends_line c cs = c == 10 || (c == 13 && not (begins_with_lf cs))

-- how many UTF-16 units a character is, and all of these characters
abbrev pub units_of : ℕ → ℕ
units_of c = if nat_lt c 0x1_0000 then 1 else 2

abbrev pub units : List ℕ → ℕ
units [] = 0
units (c ∷ cs) = units_of c + units cs

-- so many columns further, where there are so many
abbrev pub further : ℕ → LineCol → Option LineCol
further n p = if nat_le (p.col + n) last_place then Some (record { line = p.line; col = p.col + n }) else None

-- the start of the next line, where there is one
abbrev pub next_line : LineCol → Option LineCol
next_line p = if nat_lt p.line last_place then Some (record { line = p.line + 1; col = 0 }) else None

-- where characters end that begin at this place, if no line and no column in them is past the last
abbrev pub after_text : LineCol → List ℕ → Option LineCol
after_text p [] = Some p
after_text p (c ∷ cs) = option_and_then (λ q. after_text q cs) (if ends_line c cs then next_line p else further (units_of c) p)
