-- Texts of scalar values, which can be written in UTF-8.
use Rattle.std.proofs.Common.{◌≡◌, ℕ, ◌<◌, Bool, true, false, List, [], ◌∷◌, ◌++◌, refl, arith}
use Rattle.std.specs.Prelude.{nat_lt, if◌then◌else◌}
use Rattle.std.specs.Char.{IsScalar}
use Rattle.std.proofs.lemmas.Bool.{and_parts, and_from}
use Rattle.std.proofs.lemmas.Bool.Decides.{nat_tests}
use lib.Utf8.{scalars, scalar}
use Rattle.print_spelling.specs.declared.form.Form.{Form}
use Rattle.print_spelling.specs.declared.form.Form.TheVariants.{Bare, Letter, Nul, Hex, Four, FourLower, Pair, Braced}
use Rattle.print_spelling.specs.Forms.{written, Writes, upper, braced_digits, lead, trail, four}
use Rattle.print_spelling.specs.declared.style.Style.{Style}
use Rattle.print_spelling.specs.String.Names.{AreNameChars, name_chars, name_form, form_in, is_latin}
use Rattle.print_spelling.proofs.string.QuotedLemmas.{scalar_code}
use Rattle.print_spelling.proofs.AsciiLemmas.{upper_low, lower_low}

low_scalar : (n : ℕ) → n < 128 → scalar n ≡ true
low_scalar n h = grind (arith, nat_tests)

pub scalar_is : (c : ℕ) → IsScalar c → scalar c ≡ true
scalar_is c h = h

pub scalars_join : (xs ys : List ℕ) → scalars xs ≡ true → scalars ys ≡ true → scalars (xs ++ ys) ≡ true
scalars_join [] ys e f = f
scalars_join (x ∷ xs) ys e f = let p = and_parts (scalar x) (scalars xs) e in and_from (scalar x) _ p.0 (scalars_join xs ys p.1 f)

-- The same, with its text kept in the type.
pub record Scal (xs : List ℕ) : Type 0 where
  pub so : scalars xs ≡ true

pub low : {n : ℕ} {xs : List ℕ} → n < 128 → Scal xs → Scal (n ∷ xs)
low {n = n} {xs = xs} h e = record { so = and_from (scalar n) (scalars xs) (low_scalar n h) e.so }

pub stop : Scal []
stop = record { so = refl }

pub digits : (c : ℕ) → Scal (upper 256 c ∷ upper 16 c ∷ upper 1 c ∷ [])
digits c = low (upper_low 256 c) (low (upper_low 16 c) (low (upper_low 1 c) stop))

pub braced_by : (c : ℕ) (x y z : Bool) → Scal (if x then upper 256 c ∷ upper 16 c ∷ upper 1 c ∷ []
    else (if y then upper 4096 c ∷ upper 256 c ∷ upper 16 c ∷ upper 1 c ∷ []
    else (if z then upper 65536 c ∷ upper 4096 c ∷ upper 256 c ∷ upper 16 c ∷ upper 1 c ∷ []
    else upper 1048576 c ∷ upper 65536 c ∷ upper 4096 c ∷ upper 256 c ∷ upper 16 c ∷ upper 1 c ∷ [])))
braced_by c true y z = digits c
braced_by c false true z = low (upper_low 4096 c) (digits c)
braced_by c false false true = low (upper_low 65536 c) (low (upper_low 4096 c) (digits c))
braced_by c false false false = low (upper_low 1048576 c) (low (upper_low 65536 c) (low (upper_low 4096 c) (digits c)))

-- ---- a character as it is written

four_scal : (c : ℕ) (m : List ℕ) → Scal m → Scal (92 ∷ four c m)
four_scal c m e = low (omega arith) (low (omega arith) (low (upper_low 4096 c) (low (upper_low 256 c) (low (upper_low 16 c) (low (upper_low 1 c) e)))))

-- What is written of a character that can be written is scalar values.
pub written_scal : (f : Form) (c : ℕ) (m : List ℕ) → Writes f c → Scal m → Scal (written f c m)
written_scal Bare c m h e = record { so = and_from (scalar c) (scalars m) h e.so }
written_scal (Letter l) c m h e = low (omega arith) (low h e)
written_scal Nul c m h e = low (omega arith) (low (omega arith) e)
written_scal Hex c m h e = low (omega arith) (low (omega arith) (low (lower_low 16 c) (low (lower_low 1 c) e)))
written_scal Four c m h e = four_scal c m e
written_scal FourLower c m h e = low (omega arith) (low (omega arith) (low (lower_low 4096 c) (low (lower_low 256 c) (low (lower_low 16 c) (low (lower_low 1 c) e)))))
written_scal Pair c m h e = four_scal (lead c) (92 ∷ four (trail c) m) (four_scal (trail c) m e)
written_scal Braced c m h e =
    let more : Scal (125 ∷ m) = low (omega arith) e in
    low (omega arith) (low (omega arith) (low (omega arith) (record { so = scalars_join (braced_digits c) (125 ∷ m) (braced_by c (nat_lt c 0x1000) (nat_lt c 0x1_0000) (nat_lt c 0x10_0000)).so more.so })))

-- ---- names

pub are_scalars : (first : Bool) (cs : List ℕ) → AreNameChars first cs → scalars cs ≡ true
are_scalars first [] h = refl
are_scalars first (c ∷ cs) h = and_from (scalar c) (scalars cs) (scalar_is c h.0) (are_scalars false cs h.2)

name_form_writes : (c : ℕ) → IsScalar c → (a b d e : Bool) → Writes (if a then Bare else (if b then (if d then FourLower else (if e then Four else Braced)) else Bare)) c
name_form_writes c h true b d e = h
name_form_writes c h false false d e = h
name_form_writes c h false true true e = scalar_code c h
name_form_writes c h false true false true = scalar_code c h
name_form_writes c h false true false false = scalar_code c h

form_writes : (style : Style) (quoted : Bool) (c : ℕ) → IsScalar c → Writes (form_in style quoted c) c
form_writes style false c h = name_form_writes c h (nat_lt c 0x7F) style.ascii_only (nat_lt c 0x100) (nat_lt c 0x1_0000)
form_writes style true c h = by (is_latin c)
  where
    by : (b : Bool) → Writes (if b then Hex else name_form style c) c
    by true = scalar_code c h
    by false = name_form_writes c h (nat_lt c 0x7F) style.ascii_only (nat_lt c 0x100) (nat_lt c 0x1_0000)

-- A name, and a word as a key in quotes, are written in scalar values.
pub name_scal : (style : Style) (quoted first : Bool) (cs m : List ℕ) → AreNameChars first cs → Scal m → Scal (name_chars style quoted cs m)
name_scal style quoted first [] m h e = e
name_scal style quoted first (c ∷ cs) m h e = written_scal (form_in style quoted c) c (name_chars style quoted cs m) (form_writes style quoted c h.0) (name_scal style quoted false cs m h.2 e)
