-- Escapes are ASCII.
use Rattle.std.proofs.Common.{◌≡◌, ℕ, ◌+◌, ◌/◌, ◌%◌, ◌<◌, Bool, true, false, List, [], ◌∷◌, ◌++◌, length, length-append, refl, ap, ◌∙◌, arith}
use Rattle.std.specs.Prelude.{if◌then◌else◌, nat_lt, encode_utf8_all}
use Rattle.std.specs.Char.{digit_char}
use Rattle.std.specs.Str.{IsAscii}
use Rattle.std.proofs.lemmas.Bool.Decides.{nat_tests}
use lib.Utf8.{encode}
use Rattle.std.proofs.lemmas.Str.{encodes-IsAscii, length-encode, len_utf8_bounds}
use Rattle.std.proofs.lemmas.Str.Ascii.{IsAscii-cons, IsAscii-nil}
use Rattle.print_spelling.specs.declared.form.Form.{Form}
use Rattle.print_spelling.specs.declared.form.Form.TheVariants.{Bare, Letter, Nul, Hex, Four, FourLower, Pair, Braced}
use Rattle.print_spelling.specs.Forms.{lower, upper, upper_digit, lead, trail, four, four_lower, braced_digits, written}

-- each is ASCII
abbrev pub Low : List ℕ → Type 0
Low [] = Unit {0}
Low (c ∷ cs) = (c < 128) × Low cs

pub low_ascii : (cs : List ℕ) → Low cs → IsAscii cs
low_ascii [] h = IsAscii-nil
low_ascii (c ∷ cs) h = IsAscii-cons c cs h.0 (low_ascii cs h.1)

pub low_encodes : (cs : List ℕ) → Low cs → encode_utf8_all cs ≡ cs
low_encodes cs h = encodes-IsAscii cs (low_ascii cs h)

digit_low : (d : ℕ) → d < 16 → upper_digit d < 128
digit_low d h = grind (arith, nat_tests)

small_low : (d : ℕ) → d < 16 → digit_char d < 128
small_low d h = grind (arith, nat_tests)

pub upper_low : (p c : ℕ) → upper p c < 128
upper_low p c = digit_low (c / p % 16) (omega arith)

pub lower_low : (p c : ℕ) → lower p c < 128
lower_low p c = small_low (c / p % 16) (omega arith)

pub four_low : (c : ℕ) (m : List ℕ) → Low m → Low (92 ∷ four c m)
four_low c m h = (omega arith, (omega arith, (upper_low 4096 c, (upper_low 256 c, (upper_low 16 c, (upper_low 1 c, h))))))

by_test : (b : Bool) (x y m : List ℕ) → Low (x ++ m) → Low (y ++ m) → Low ((if b then x else y) ++ m)
by_test true x y m f g = f
by_test false x y m f g = g

pub digits_low : (c : ℕ) (m : List ℕ) → Low m → Low (braced_digits c ++ m)
digits_low c m h =
    let a : Low ((upper 256 c ∷ upper 16 c ∷ upper 1 c ∷ []) ++ m) = (upper_low 256 c, (upper_low 16 c, (upper_low 1 c, h))) in
    by_test (nat_lt c 0x1000) _ _ m a (by_test (nat_lt c 0x1_0000) _ _ m (upper_low 4096 c, a)
    (by_test (nat_lt c 0x10_0000) _ _ m (upper_low 65536 c, (upper_low 4096 c, a)) (upper_low 1048576 c, (upper_low 65536 c, (upper_low 4096 c, a)))))

-- what is written of ASCII or by an escape is ASCII
pub written_low : (f : Form) (c : ℕ) (m : List ℕ) → (f ≡ Bare → c < 128) → ((l : ℕ) → f ≡ Letter l → l < 128) → Low m → Low (written f c m)
written_low Bare c m bare letter h = (bare refl, h)
written_low (Letter l) c m bare letter h = (omega arith, (letter l refl, h))
written_low Nul c m bare letter h = (omega arith, (omega arith, h))
written_low Hex c m bare letter h = (omega arith, (omega arith, (lower_low 16 c, (lower_low 1 c, h))))
written_low Four c m bare letter h = four_low c m h
written_low FourLower c m bare letter h = (omega arith, (omega arith, (lower_low 4096 c, (lower_low 256 c, (lower_low 16 c, (lower_low 1 c, h))))))
written_low Pair c m bare letter h = four_low (lead c) (92 ∷ four (trail c) m) (four_low (trail c) m h)
written_low Braced c m bare letter h = (omega arith, (omega arith, (omega arith, digits_low c (125 ∷ m) (omega arith, h))))

pub pair_ascii : (c : ℕ) → encode_utf8_all (written Pair c []) ≡ written Pair c []
pair_ascii c = low_encodes (written Pair c []) (written_low Pair c [] (λ e. cc) (λ l e. cc) tt)

pub braced_ascii : (c : ℕ) → encode_utf8_all (written Braced c []) ≡ written Braced c []
braced_ascii c = low_encodes (written Braced c []) (written_low Braced c [] (λ e. cc) (λ l e. cc) tt)

-- ---- nothing that is written is empty

pub bytes_some : (c : ℕ) (cs made : List ℕ) → made ≡ encode_utf8_all (c ∷ cs) → 0 < length made
bytes_some c cs made e =
    let l = ap length e in
    let n = length-append (encode c) (encode_utf8_all cs) in
    let m = length-encode c in
    let b = len_utf8_bounds c in
    let more : length made ≡ length (encode c) + length (encode_utf8_all cs) = l ∙ n in
    omega arith

pub written_some : (f : Form) (c : ℕ) → 0 < length (encode_utf8_all (written f c []))
written_some Bare c = bytes_some c [] _ refl
written_some (Letter l) c = bytes_some 92 (l ∷ []) _ refl
written_some Nul c = bytes_some 92 (48 ∷ []) _ refl
written_some Hex c = bytes_some 92 (120 ∷ lower 16 c ∷ lower 1 c ∷ []) _ refl
written_some Four c = bytes_some 92 (four c []) _ refl
written_some FourLower c = bytes_some 92 (four_lower c []) _ refl
written_some Pair c = bytes_some 92 (four (lead c) (92 ∷ four (trail c) [])) _ refl
written_some Braced c = bytes_some 92 (117 ∷ 123 ∷ (braced_digits c ++ 125 ∷ [])) _ refl
