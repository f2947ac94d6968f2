-- Where pieces lie in a text. Places are counted back from the end of the text: what is left there says how far it is.
use Rattle.std.specs.Prelude.{◌≡◌, ℕ, ◌+◌, List, length, encode_utf8_all}
use Rattle.base_token.specs.declared.place.Span.{Span}

-- how many bytes these characters take
abbrev pub bytes : List ℕ → ℕ
bytes cs = length (encode_utf8_all cs)

-- The span is from where the first characters begin up to where the second begin. Both run to the place `end`.
abbrev pub IsAt : ℕ → List ℕ → List ℕ → Span → Type 0
IsAt end from to span = (span.lo.0 + bytes from ≡ end) × (span.hi.0 + bytes to ≡ end)
