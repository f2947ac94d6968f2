-- The own bytes of a token are those of its characters.
use Rattle.std.proofs.Common.{◌≡◌, ℕ, ◌+◌, ◌/◌, ltb, ◌<◌, ◌≤◌, ⊎_elim, true, false, List, [], ◌∷◌, ◌++◌, length, length-append, get_or, refl, ap, ◌∙◌, arith}
use Rattle.std.specs.Prelude.{encode_utf8_all}
use Rattle.std.specs.Fmt.{is_char_start}
use Rattle.std.proofs.Math.Utf8.{encodes}
use Rattle.std.proofs.lemmas.Str.{encode_ascii, encodes-append}
use Rattle.std.proofs.lemmas.Bool.{cases_lt}
use Rattle.std.proofs.lemmas.Bool.Decides.{nat_tests}
use lib.Utf8.{encode, next}
use Rattle.lex_pieces.specs.Places.{bytes}
use Rattle.lex_pieces.proofs.Wide.{encode_two, encode_three, encode_four}
use Rattle.lex_source.specs.Canonical.Canonical.{own_bytes}
use Rattle.lex_source.proofs.canonical.Again.{Starts, own_again, starts_append}
use Rattle.lex_step_laws.specs.States.{place}

-- ---- characters have bytes

-- a character's first byte begins it
record Heads (c : ℕ) : Type 0 where
  first : ℕ
  more : List ℕ
  whole : encode c ≡ first ∷ more
  start : is_char_start first ≡ true

low_start : (b : ℕ) → b < 128 → is_char_start b ≡ true
low_start b h = grind (arith, nat_tests)

high_start : (b : ℕ) → 192 ≤ b → is_char_start b ≡ true
high_start b h = grind (arith, nat_tests)

wide_heads : (c : ℕ) → 128 ≤ c → Heads c
wide_heads c h =
    let e : ltb c 128 ≡ false = grind (arith, nat_tests) in
    ⊎_elim
    (λ (short : c < 2048). record { first = 192 + c / 64; more = next c ∷ []; whole = encode_two c e (grind (arith, nat_tests)); start = high_start (192 + c / 64) (omega arith) })
    (λ (long : 2048 ≤ c). let f : ltb c 2048 ≡ false = grind (arith, nat_tests) in ⊎_elim
    (λ (short : c < 65536).
    record { first = 224 + c / 4096; more = next (c / 64) ∷ next c ∷ []; whole = encode_three c e f (grind (arith, nat_tests)); start = high_start (224 + c / 4096) (omega arith) })
    (λ (long : 65536 ≤ c). record {
      first = 240 + c / 262144;
      more = next (c / 4096) ∷ next (c / 64) ∷ next c ∷ [];
      whole = encode_four c e f (grind (arith, nat_tests));
      start = high_start (240 + c / 262144) (omega arith);
    })
    (cases_lt c 65536))
    (cases_lt c 2048)

heads_of : (c : ℕ) → Heads c
heads_of c = ⊎_elim
    (λ (short : c < 128). record { first = c; more = []; whole = encode_ascii c short; start = low_start c short })
    (λ (long : 128 ≤ c). wide_heads c long)
    (cases_lt c 128)

pub starts_encoded : (cs : List ℕ) → Starts (encode_utf8_all cs)
starts_encoded [] = refl
starts_encoded (c ∷ cs) =
    let h = heads_of c in
    let e : encode_utf8_all (c ∷ cs) ≡ h.first ∷ (h.more ++ encode_utf8_all cs) = ap (λ (l : List ℕ). l ++ encode_utf8_all cs) h.whole in
    ap (λ (l : List ℕ). is_char_start (get_or l 0 0)) e ∙ h.start

pub no_bytes : (cs : List ℕ) → bytes cs ≡ 0 → cs ≡ []
no_bytes [] e = refl
no_bytes (c ∷ cs) e =
    let h = heads_of c in
    let k = ap (λ (l : List ℕ). length (l ++ encode_utf8_all cs)) h.whole in
    absurd (omega (arith, e, k))

pub bytes_append : (a b : List ℕ) → bytes (a ++ b) ≡ bytes a + bytes b
bytes_append a b = ap length (encodes-append a b) ∙ length-append (encodes a) (encodes b)

-- ---- own bytes

pub own_is : (before own rest cs : List ℕ) (end : ℕ) → cs ≡ before ++ (own ++ rest) → end ≡ 1 + bytes cs
    → own_bytes (encode_utf8_all cs) (place end (own ++ rest)) (place end rest) ≡ encode_utf8_all own
own_is before own rest cs end e f =
    let a = bytes_append before (own ++ rest) in
    let b = bytes_append own rest in
    let size = ap bytes e in
    let parts : encode_utf8_all cs ≡ encode_utf8_all before ++ (encode_utf8_all own ++ encode_utf8_all rest) =
    ap encode_utf8_all e ∙ encodes-append before (own ++ rest) ∙ ap (λ (l : List ℕ). encode_utf8_all before ++ l) (encodes-append own rest) in
    let lo : place end (own ++ rest) ≡ length (encode_utf8_all before) + 1 = omega (arith, a, b, size, f) in
    let hi : place end rest ≡ place end (own ++ rest) + length (encode_utf8_all own) = omega (arith, a, b, size, f) in
    ap (λ (l : List ℕ). own_bytes l (place end (own ++ rest)) (place end rest)) parts
    ∙ own_again (encode_utf8_all before) (encode_utf8_all own) (encode_utf8_all rest) (place end (own ++ rest)) (place end rest)
    (starts_append (encode_utf8_all own) (encode_utf8_all rest) (starts_encoded own) (starts_encoded rest)) (starts_encoded rest) lo hi
