-- Messages for a person.
use Rattle.std.specs.Prelude.{ℕ, Bool, true, false, ◌&&◌, nat_le, nat_lt, List, [], ◌∷◌}

-- printable ASCII characters alone
abbrev pub is_printable : List ℕ → Bool
is_printable [] = true
is_printable (c ∷ cs) = nat_le 32 c && nat_lt c 127 && is_printable cs

-- one line that says something
abbrev pub is_line : List ℕ → Bool
is_line [] = false
is_line (c ∷ cs) = is_printable (c ∷ cs)
