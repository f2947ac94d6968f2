-- Bytes of ASCII are their own characters.
use Rattle.std.proofs.Common.{◌≡◌, ℕ, zero, suc, true, List, [], ◌∷◌, arith, chars}
use Rattle.std.specs.Prelude.{nat_lt}
use Rattle.std.specs.List.{list_all}
use Rattle.std.specs.Str.{IsAscii}
use Rattle.std.proofs.lemmas.Bool.{and_parts, ltb-true}
use Rattle.std.proofs.lemmas.Str.{chars-IsAscii}

are_ascii : (bs : List ℕ) → list_all (λ c. nat_lt c 128) bs ≡ true → IsAscii bs
are_ascii [] h i = omega arith
are_ascii (c ∷ cs) h zero = ltb-true c 128 (and_parts _ _ h).0
are_ascii (c ∷ cs) h (suc i) = are_ascii cs (and_parts _ _ h).1 i

pub ascii_chars : (bs : List ℕ) → list_all (λ c. nat_lt c 128) bs ≡ true → chars bs ≡ bs
ascii_chars bs h = chars-IsAscii bs (are_ascii bs h)
