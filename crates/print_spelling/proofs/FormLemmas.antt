-- What each form is read as.
use Rattle.std.proofs.Common.{◌≡◌, ℕ, ◌/◌, ◌%◌, ◌<◌, ◌≤◌, inl, inr, true, false, cond, List, [], ◌∷◌, ◌++◌, refl, sym, ap, ◌∙◌, arith, append-nil}
use Rattle.std.specs.Prelude.{nat_lt, nat_le, length, ◌&&◌}
use Rattle.std.specs.Char.{digit_value}
use Rattle.std.specs.Char.Escape.{encode_utf16}
use Rattle.std.specs.Str.Parse.{digits_value}
use Rattle.std.proofs.lemmas.Bool.{lt-ltb, le-ltb, ltb-true, le-leb, cond_both}
use Rattle.std.proofs.lemmas.Bool.Decides.{nat_tests}
use Rattle.std.proofs.lemmas.Str.{digit_value-digit_char}
use Rattle.lex_pieces.specs.Runs.{Each}
use Rattle.lex_literal.specs.declared.escape.Escape.TheVariants.{Code}
use Rattle.lex_literal.specs.Escapes.{is_hex, is_special, single, is_decimal, begins, IsEscape}
use Rattle.lex_literal.specs.Strings.{Plain, Escaped}
use Rattle.print_spelling.specs.declared.form.Form.TheVariants.{Bare, Letter, Nul, Hex, Four, FourLower, Pair, Braced}
use Rattle.print_spelling.specs.Forms.{lower, upper, upper_digit, lead, trail, four, four_lower, braced_digits}
use Rattle.print_spelling.specs.Pieces.{IsQuoted, EachFormStands}

-- ---- digits

pub upper_value : (d : ℕ) → d < 16 → digit_value (upper_digit d) ≡ d
upper_value d h = grind (arith, nat_tests)

pub lower_is : (p c : ℕ) → digit_value (lower p c) ≡ c / p % 16
lower_is p c = digit_value-digit_char (c / p % 16) (let h : c / p % 16 < 16 = omega arith in omega arith)

pub upper_is : (p c : ℕ) → digit_value (upper p c) ≡ c / p % 16
upper_is p c = upper_value (c / p % 16) (omega arith)

pub lower_hex : (p c : ℕ) → is_hex (lower p c) ≡ true
lower_hex p c = ap (λ x. nat_lt x 16) (lower_is p c) ∙ lt-ltb (c / p % 16) 16 (omega arith)

pub upper_hex : (p c : ℕ) → is_hex (upper p c) ≡ true
upper_hex p c = ap (λ x. nat_lt x 16) (upper_is p c) ∙ lt-ltb (c / p % 16) 16 (omega arith)

-- ---- values

pub two_value : (c : ℕ) → c < 256 → c ≡ digits_value 16 (lower 16 c ∷ lower 1 c ∷ [])
two_value c h = let a = lower_is 16 c in let b = lower_is 1 c in omega arith

four_value : (c : ℕ) → c < 65536 → c ≡ digits_value 16 (upper 4096 c ∷ upper 256 c ∷ upper 16 c ∷ upper 1 c ∷ [])
four_value c h = let x = upper_is 4096 c in let y = upper_is 256 c in let a = upper_is 16 c in let b = upper_is 1 c in omega arith

four_lower_value : (c : ℕ) → c < 65536 → c ≡ digits_value 16 (lower 4096 c ∷ lower 256 c ∷ lower 16 c ∷ lower 1 c ∷ [])
four_lower_value c h = let x = lower_is 4096 c in let y = lower_is 256 c in let a = lower_is 16 c in let b = lower_is 1 c in omega arith

three_value : (c : ℕ) → c < 0x1000 → c ≡ digits_value 16 (upper 256 c ∷ upper 16 c ∷ upper 1 c ∷ [])
three_value c h = let y = upper_is 256 c in let a = upper_is 16 c in let b = upper_is 1 c in omega arith

five_value : (c : ℕ) → c < 0x10_0000 → c ≡ digits_value 16 (upper 65536 c ∷ upper 4096 c ∷ upper 256 c ∷ upper 16 c ∷ upper 1 c ∷ [])
five_value c h = let w = upper_is 65536 c in let x = upper_is 4096 c in let y = upper_is 256 c in let a = upper_is 16 c in let b = upper_is 1 c in omega arith

six_value : (c : ℕ) → c < 0x110000
    → c ≡ digits_value 16 (upper 1048576 c ∷ upper 65536 c ∷ upper 4096 c ∷ upper 256 c ∷ upper 16 c ∷ upper 1 c ∷ [])
six_value c h = let v = upper_is 1048576 c in let w = upper_is 65536 c in let x = upper_is 4096 c in let y = upper_is 256 c in let a = upper_is 16 c in let b = upper_is 1 c in omega arith

pub record IsDigitsOf (c : ℕ) (ds : List ℕ) : Type 0 where
  pub value : c ≡ digits_value 16 ds
  pub hex : Each is_hex ds
  pub some : nat_lt 0 (length ds) ≡ true

pub braced_are : (c : ℕ) → c < 0x110000 → IsDigitsOf c (braced_digits c)
braced_are c h =
    cond_both (nat_lt c 0x1000) _ _ (IsDigitsOf c)
    (λ e. record { value = three_value c (ltb-true c 0x1000 e); hex = (upper_hex 256 c, (upper_hex 16 c, (upper_hex 1 c, tt))); some = refl })
    (λ e. cond_both (nat_lt c 0x1_0000) _ _ (IsDigitsOf c)
    (λ f. record { value = four_value c (ltb-true c 0x1_0000 f); hex = (upper_hex 4096 c, (upper_hex 256 c, (upper_hex 16 c, (upper_hex 1 c, tt)))); some = refl })
    (λ f. cond_both (nat_lt c 0x10_0000) _ _ (IsDigitsOf c)
    (λ g. record {
      value = five_value c (ltb-true c 0x10_0000 g);
      hex = (upper_hex 65536 c, (upper_hex 4096 c, (upper_hex 256 c, (upper_hex 16 c, (upper_hex 1 c, tt)))));
      some = refl;
    })
    (λ g. record {
      value = six_value c h;
      hex = (upper_hex 1048576 c, (upper_hex 65536 c, (upper_hex 4096 c, (upper_hex 256 c, (upper_hex 16 c, (upper_hex 1 c, tt))))));
      some = refl;
    })))

-- ---- escapes

pub hex_escape : (c : ℕ) (m : List ℕ) → c < 256 → IsEscape (Code c) (120 ∷ lower 16 c ∷ lower 1 c ∷ m) m
hex_escape c m h = inr (inr (inl (lower 16 c, lower 1 c, refl, (lower_hex 16 c, (lower_hex 1 c, tt)), two_value c h)))

pub four_escape : (c : ℕ) (m : List ℕ) → c < 65536 → IsEscape (Code c) (four c m) m
four_escape c m h =
    inr (inr (inr (inl (
      upper 4096 c,
      upper 256 c,
      upper 16 c,
      upper 1 c,
      refl,
      (upper_hex 4096 c, (upper_hex 256 c, (upper_hex 16 c, (upper_hex 1 c, tt)))),
      four_value c h,
    ))))

pub four_lower_escape : (c : ℕ) (m : List ℕ) → c < 65536 → IsEscape (Code c) (four_lower c m) m
four_lower_escape c m h =
    inr (inr (inr (inl (
      lower 4096 c,
      lower 256 c,
      lower 16 c,
      lower 1 c,
      refl,
      (lower_hex 4096 c, (lower_hex 256 c, (lower_hex 16 c, (lower_hex 1 c, tt)))),
      four_lower_value c h,
    ))))

pub braced_escape : (c : ℕ) (m : List ℕ) → c < 0x110000 → IsEscape (Code c) (117 ∷ 123 ∷ (braced_digits c ++ 125 ∷ m)) m
braced_escape c m h =
    let d = braced_are c h in
    let small : nat_le (digits_value 16 (braced_digits c)) 0x10FFFF ≡ true = ap (λ n. nat_le n 0x10FFFF) (sym d.value) ∙ le-leb c 0x10FFFF (omega arith) in
    inr (inr (inr (inr (
      braced_digits c,
      refl,
      d.hex,
      ap (λ t. t && nat_le (digits_value 16 (braced_digits c)) 0x10FFFF) d.some ∙ small,
      d.value,
    ))))

pub letter_escape : (l c : ℕ) (m : List ℕ) → is_special l ≡ false → single l ≡ c → IsEscape (Code c) (l ∷ m) m
letter_escape l c m s e = inl (l, refl, s, sym e)

pub nul_escape : (c : ℕ) (m : List ℕ) → c ≡ 0 → begins is_decimal m ≡ false → IsEscape (Code c) (48 ∷ m) m
nul_escape c m e h = inr (inl (refl, h, e))

-- ---- the units of a pair

pub lead_low : (c : ℕ) → 65536 ≤ c → c < 0x110000 → lead c < 65536
lead_low c l h = omega arith

pub trail_low : (c : ℕ) → trail c < 65536
trail_low c = omega arith

pub one_unit : (c : ℕ) → c < 65536 → encode_utf16 c ≡ c ∷ []
one_unit c h = ap (λ b. cond b (c ∷ []) (lead c ∷ trail c ∷ [])) (lt-ltb c 65536 h)

pub two_units : (c : ℕ) → 65536 ≤ c → encode_utf16 c ≡ lead c ∷ trail c ∷ []
two_units c h = ap (λ b. cond b (c ∷ []) (lead c ∷ trail c ∷ [])) (le-ltb c 65536 h)

-- ---- in quotes

one : (quote c : ℕ) (text m : List ℕ) → IsEscape (Code c) text m → IsQuoted quote (92 ∷ text) (encode_utf16 c) m
one quote c text m h = record {
  pieces = Escaped (Code c) ∷ [];
  stand = (m, (text, refl, h), refl);
  value = sym (append-nil (encode_utf16 c));
  modern = refl;
}

pub form_stands : EachFormStands
form_stands quote Bare c m s p = record {
  pieces = Plain c ∷ [];
  stand = (m, (refl, p refl), refl);
  value = sym (append-nil (encode_utf16 c));
  modern = refl;
}
form_stands quote (Letter l) c m s p = one quote c (l ∷ m) m (letter_escape l c m s.0 s.1)
form_stands quote Nul c m s p = one quote c (48 ∷ m) m (nul_escape c m s.0 s.1)
form_stands quote Hex c m s p = one quote c (120 ∷ lower 16 c ∷ lower 1 c ∷ m) m (hex_escape c m s)
form_stands quote Four c m s p = one quote c (four c m) m (four_escape c m s)
form_stands quote FourLower c m s p = one quote c (four_lower c m) m (four_lower_escape c m s)
form_stands quote Pair c m s p = record {
  pieces = Escaped (Code (lead c)) ∷ Escaped (Code (trail c)) ∷ [];
  stand = (
    92 ∷ four (trail c) m,
    (four (lead c) (92 ∷ four (trail c) m), refl, four_escape (lead c) (92 ∷ four (trail c) m) (lead_low c s.0 s.1)),
    (m, (four (trail c) m, refl, four_escape (trail c) m (trail_low c)), refl),
  );
  value = two_units c s.0 ∙ sym (ap (λ (x : List ℕ). x ++ (encode_utf16 (trail c) ++ [])) (one_unit (lead c) (lead_low c s.0 s.1)) ∙ ap (λ (x : List ℕ). lead c ∷ (x ++ [])) (one_unit (trail c) (trail_low c)));
  modern = refl;
}
form_stands quote Braced c m s p = one quote c (117 ∷ 123 ∷ (braced_digits c ++ 125 ∷ m)) m (braced_escape c m s)
