-- Hexadecimal digits as `from_str_radix` reads them.
use Rattle.std.proofs.Common.{◌≡◌, ℕ, zero, suc, ◌<◌, ◌≤◌, ◌^◌, ⊎_elim, true, false, cond, eqb, List, [], ◌∷◌, length, drop, refl, sym, ap, ◌∙◌, arith, IsUtf8}
use Rattle.std.specs.Prelude.{Some, None}
use Rattle.std.specs.Str.{IsAscii, chars}
use Rattle.std.specs.Str.Parse.{AllDigits, IsNumeral, digits_value, without_leading_plus}
use Rattle.std.proofs.lemmas.Bool.{cases_Bool}
use Rattle.std.proofs.lemmas.Bool.Decides.{nat_tests}
use Rattle.std.proofs.lemmas.Str.{encodes-IsAscii, encodes-chars}
use Rattle.lex_pieces.specs.Runs.{Each}
use Rattle.lex_literal.specs.Escapes.{is_hex, is_code, greatest_code}
use Rattle.lex_literal.specs.Reading.{code_of}

hex_small : (c : ℕ) → is_hex c ≡ true → c < 128
hex_small c e = grind (arith, nat_tests)

each_ascii : (cs : List ℕ) → Each is_hex cs → IsAscii cs
each_ascii [] h i = omega arith
each_ascii (c ∷ cs) h zero = hex_small c h.0
each_ascii (c ∷ cs) h (suc i) = each_ascii cs h.1 i

each_digits : (cs : List ℕ) → Each is_hex cs → AllDigits 16 cs
each_digits [] h = tt
each_digits (c ∷ cs) h = (grind (arith, nat_tests, h.0), each_digits cs h.1)

-- such a text is its characters
pub hex_chars : (s : List ℕ) → IsUtf8 s → Each is_hex (chars s) → chars s ≡ s
hex_chars s u h = sym (encodes-IsAscii (chars s) (each_ascii (chars s) h)) ∙ encodes-chars s u

no_plus : (cs : List ℕ) → Each is_hex cs → without_leading_plus cs ≡ cs
no_plus [] h = refl
no_plus (c ∷ cs) h =
    let e : eqb c 43 ≡ false = grind (arith, nat_tests, h.0) in
    ap (λ t. drop (cond t 1 0) (c ∷ cs)) e

-- what is parsed is the digits
pub parsed : (s : List ℕ) → IsUtf8 s → Each is_hex (chars s) → without_leading_plus s ≡ chars s
parsed s u h = let e = hex_chars s u h in ap without_leading_plus (sym e) ∙ no_plus (chars s) h

pub is_numeral : (cs : List ℕ) → Each is_hex cs → 0 < length cs → IsNumeral 16 cs
is_numeral cs h l = (l, each_digits cs h)

pub code_ok : (cs : List ℕ) (n : ℕ) → 0 < length cs → digits_value 16 cs ≡ n → n ≤ greatest_code → Some n ≡ code_of cs
code_ok cs n l e h =
    let t : is_code cs ≡ true = grind (arith, nat_tests) in
    ap Some (sym e) ∙ sym (ap (λ b. cond b (Some (digits_value 16 cs)) None) t)

pub code_none : (cs : List ℕ) → is_code cs ≡ false → None ≡ code_of cs
code_none cs t = sym (ap (λ b. cond b (Some (digits_value 16 cs)) None) t)

pub code_great : (cs : List ℕ) (n : ℕ) → digits_value 16 cs ≡ n → greatest_code < n → is_code cs ≡ false
code_great cs n e h = grind (arith, nat_tests)

is_code_parts : (cs : List ℕ) → is_code cs ≡ true → (0 < length cs) × (digits_value 16 cs < 2 ^ 32)
is_code_parts cs e = (grind (arith, nat_tests), grind (arith, nat_tests))

pub code_unparsed : (cs : List ℕ) → Each is_hex cs → (IsNumeral 16 cs × (digits_value 16 cs < 2 ^ 32) → ⊥) → is_code cs ≡ false
code_unparsed cs h refused = ⊎_elim
    (λ (e : is_code cs ≡ true). let p = is_code_parts cs e in absurd (refused (is_numeral cs h p.0, p.1)))
    (λ (e : is_code cs ≡ false). e)
    (cases_Bool (is_code cs))
