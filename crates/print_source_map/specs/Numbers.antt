-- Numbers in base 64 VLQ, as the mappings of a source map have them (ECMA-426, "Base64 VLQ"). A text is a list of characters.
use Rattle.std.specs.Prelude.{ℕ, ◌+◌, ◌-◌, ◌*◌, ◌/◌, ◌%◌, ◌&&◌, List, [], ◌∷◌, Option, Some, None, if◌then◌else◌, ◌==◌, nat_le, nat_lt}

-- the value of a digit of base 64: A to Z, a to z, 0 to 9, + and / (RFC 4648, section 4)
abbrev pub digit : ℕ → Option ℕ
digit c =
    if nat_le 65 c && nat_le c 90 then Some (c - 65)
    else if nat_le 97 c && nat_le c 122 then Some (c - 71)
    else if nat_le 48 c && nat_le c 57 then Some (c + 4)
    else if c == 43 then Some 62
    else if c == 47 then Some 63
    else None

-- the numbers of a digit and of the digits behind it, which say these numbers: a digit below 32 is the last of a number, and a greater one has the low five bits
-- of the number that goes on behind it
abbrev pub with_low : ℕ → List ℕ → Option (List ℕ)
with_low low [] = None
with_low low (n ∷ ns) = Some ((low + 32 * n) ∷ ns)

abbrev pub with_digit : ℕ → List ℕ → Option (List ℕ)
with_digit d ns = if nat_lt d 32 then Some (d ∷ ns) else with_low (d - 32) ns

-- Where a place goes that is so far from another: of the number, of at most 32 bits, the lowest bit is the sign, and the others are how far. Minus nothing is
-- as far back as 32 bits reach. No place is before 0.
abbrev pub back : ℕ → ℕ → Option ℕ
back from by = if nat_le by from then Some (from - by) else None

unfoldable pub moved : ℕ → ℕ → Option ℕ
moved from n =
    if nat_le 0x1_0000_0000 n then None
    else if n % 2 == 0 then Some (from + n / 2)
    else if n == 1 then back from 0x8000_0000
    else back from (n / 2)
