-- A name is read as its characters, and a key in quotes as their units.
use Rattle.std.proofs.Common.{◌≡◌, ℕ, ◌+◌, ◌/◌, ◌%◌, ◌<◌, ◌≤◌, inl, inr, ⊎_elim, Bool, true, false, cond, List, [], ◌∷◌, ◌++◌, refl, sym, ap, subst, ◌∙◌, arith}
use Rattle.std.specs.Prelude.{if◌then◌else◌, nat_lt, ◌||◌, ◌==◌}
use Rattle.std.specs.Char.{IsScalar, digit_char, is_ascii_alphanumeric}
use Rattle.std.specs.Char.Escape.{encode_utf16}
use Rattle.std.specs.List.{flat_map, list_any}
use Rattle.std.proofs.lemmas.Bool.{cases_lt, lt-ltb, le-ltb, ltb-true, ltb-false, false≢true, and_parts, cond_both}
use Rattle.std.proofs.lemmas.Bool.Decides.{nat_tests}
use Rattle.unicode_ident.proofs.IdentLemmas.{is_xid_continue-ascii}
use Rattle.lex_pieces.specs.Characters.{is_name_part, is_hex_digit}
use Rattle.lex_pieces.specs.Escapes as e
use Rattle.lex_pieces.specs.Names.{IsName, IsNameChar, Spell, is_name_char}
use Rattle.lex_pieces.specs.Runs.{Each}
use Rattle.lex_pieces.proofs.NameLemmas.{part_of}
use Rattle.lex_literal.specs.Strings.{is_plain, SpellsString}
use Rattle.print_spelling.specs.declared.form.Form.{Form}
use Rattle.print_spelling.specs.declared.form.Form.TheVariants.{Bare}
use Rattle.print_spelling.specs.declared.style.Style.{Style}
use Rattle.print_spelling.specs.Forms.{written, Suits, lower, upper, upper_digit, four, four_lower, braced_digits}
use Rattle.print_spelling.specs.Pieces.{IsQuoted}
use Rattle.print_spelling.proofs.FormLemmas.{form_stands}
use Rattle.print_spelling.specs.String.Names.{is_latin, name_form, key_form, name_chars, name_text, AreNameChars, NameIsRead, KeyIsRead, KeyWordIsRead}
use Rattle.print_spelling.proofs.string.QuotedLemmas.{scalar_code}
use Rattle.print_spelling.proofs.string.StringLemmas.{quoted_on}

-- ---- digits, as names have them

upper_digit_hex : (d : ℕ) → d < 16 → is_hex_digit (upper_digit d) ≡ true
upper_digit_hex d h = grind (arith, nat_tests)

upper_digit_value : (d : ℕ) → d < 16 → e.digit (upper_digit d) ≡ d
upper_digit_value d h = ⊎_elim
    (λ (l : d < 10).
    let a : nat_lt d 10 ≡ true = lt-ltb d 10 l in
    ap (λ b. e.digit (if b then 48 + d else 55 + d)) a ∙ small d l)
    (λ (l : 10 ≤ d).
    let a : nat_lt d 10 ≡ false = le-ltb d 10 l in
    ap (λ b. e.digit (if b then 48 + d else 55 + d)) a ∙ large d l h)
    (cases_lt d 10)
  where
    small : (x : ℕ) → x < 10 → e.digit (48 + x) ≡ x
    small x l = grind (arith, nat_tests)

    large : (x : ℕ) → 10 ≤ x → x < 16 → e.digit (55 + x) ≡ x
    large x l m = grind (arith, nat_tests)

lower_digit_hex : (d : ℕ) → d < 16 → is_hex_digit (digit_char d) ≡ true
lower_digit_hex d h = grind (arith, nat_tests)

lower_digit_value : (d : ℕ) → d < 16 → e.digit (digit_char d) ≡ d
lower_digit_value d h = ⊎_elim
    (λ (l : d < 10).
    let a : nat_lt d 10 ≡ true = lt-ltb d 10 l in
    ap (λ b. e.digit (cond b (48 + d) (87 + d))) a ∙ small d l)
    (λ (l : 10 ≤ d).
    let a : nat_lt d 10 ≡ false = le-ltb d 10 l in
    ap (λ b. e.digit (cond b (48 + d) (87 + d))) a ∙ large d l h)
    (cases_lt d 10)
  where
    small : (x : ℕ) → x < 10 → e.digit (48 + x) ≡ x
    small x l = grind (arith, nat_tests)

    large : (x : ℕ) → 10 ≤ x → x < 16 → e.digit (87 + x) ≡ x
    large x l m = grind (arith, nat_tests)

up_hex : (p c : ℕ) → is_hex_digit (upper p c) ≡ true
up_hex p c = upper_digit_hex (c / p % 16) (omega arith)

up_is : (p c : ℕ) → e.digit (upper p c) ≡ c / p % 16
up_is p c = upper_digit_value (c / p % 16) (omega arith)

low_hex : (p c : ℕ) → is_hex_digit (lower p c) ≡ true
low_hex p c = lower_digit_hex (c / p % 16) (omega arith)

low_is : (p c : ℕ) → e.digit (lower p c) ≡ c / p % 16
low_is p c = lower_digit_value (c / p % 16) (omega arith)

-- ---- escapes

four_is : (c : ℕ) (m : List ℕ) → c < 65536 → e.IsEscape (92 ∷ four c m) c m
four_is c m h =
    let w = up_is 4096 c in let x = up_is 256 c in let y = up_is 16 c in let z = up_is 1 c in (
      upper 4096 c ∷ upper 256 c ∷ upper 16 c ∷ upper 1 c ∷ m,
      refl,
      inl (upper 4096 c, upper 256 c, upper 16 c, upper 1 c, refl, (up_hex 4096 c, (up_hex 256 c, (up_hex 16 c, (up_hex 1 c, tt)))), omega arith),
    )

four_lower_is : (c : ℕ) (m : List ℕ) → c < 65536 → e.IsEscape (92 ∷ four_lower c m) c m
four_lower_is c m h =
    let w = low_is 4096 c in let x = low_is 256 c in let y = low_is 16 c in let z = low_is 1 c in (
      lower 4096 c ∷ lower 256 c ∷ lower 16 c ∷ lower 1 c ∷ m,
      refl,
      inl (lower 4096 c, lower 256 c, lower 16 c, lower 1 c, refl, (low_hex 4096 c, (low_hex 256 c, (low_hex 16 c, (low_hex 1 c, tt)))), omega arith),
    )

-- from U+10000 on, as names have it
record Writing (c : ℕ) (ds : List ℕ) : Type 0 where
  some : ds ≡ [] → ⊥
  hex : Each is_hex_digit ds
  value : c ≡ e.value_after 0 ds

five_writing : (c : ℕ) → c < 0x10_0000 → Writing c (upper 65536 c ∷ upper 4096 c ∷ upper 256 c ∷ upper 16 c ∷ upper 1 c ∷ [])
five_writing c h =
    let v = up_is 65536 c in let w = up_is 4096 c in let x = up_is 256 c in let y = up_is 16 c in let z = up_is 1 c in
    record { some = λ n. cc; hex = (up_hex 65536 c, (up_hex 4096 c, (up_hex 256 c, (up_hex 16 c, (up_hex 1 c, tt))))); value = omega arith }

six_writing : (c : ℕ) → c < 0x110000 → Writing c (upper 1048576 c ∷ upper 65536 c ∷ upper 4096 c ∷ upper 256 c ∷ upper 16 c ∷ upper 1 c ∷ [])
six_writing c h =
    let u = up_is 1048576 c in let v = up_is 65536 c in let w = up_is 4096 c in let x = up_is 256 c in let y = up_is 16 c in let z = up_is 1 c in
    record { some = λ n. cc; hex = (up_hex 1048576 c, (up_hex 65536 c, (up_hex 4096 c, (up_hex 256 c, (up_hex 16 c, (up_hex 1 c, tt)))))); value = omega arith }

braced_writing : (c : ℕ) → 65536 ≤ c → c < 0x110000 → Writing c (braced_digits c)
braced_writing c l h =
    cond_both (nat_lt c 0x1000) _ _ (Writing c)
    (λ t. absurd (let x = ltb-true c 0x1000 t in omega arith))
    (λ t. cond_both (nat_lt c 0x1_0000) _ _ (Writing c)
    (λ u. absurd (let x = ltb-true c 0x1_0000 u in omega arith))
    (λ u. cond_both (nat_lt c 0x10_0000) _ _ (Writing c)
    (λ v. five_writing c (ltb-true c 0x10_0000 v))
    (λ v. six_writing c h)))

braced_is : (c : ℕ) (m : List ℕ) → 65536 ≤ c → c < 0x110000 → e.IsEscape (92 ∷ 117 ∷ 123 ∷ (braced_digits c ++ 125 ∷ m)) c m
braced_is c m l h =
    let w = braced_writing c l h in
    (123 ∷ (braced_digits c ++ 125 ∷ m), refl, inr (braced_digits c, refl, w.some, w.hex, w.value))

-- ---- a character of a name

record Named (first : Bool) (c : ℕ) (m : List ℕ) (f : Form) : Type 0 where
  stands : IsNameChar first (written f c m) c m

name_char : (style : Style) (first : Bool) (c : ℕ) (m : List ℕ) → IsScalar c → is_name_char first c ≡ true → Named first c m (name_form style c)
name_char style first c m s n =
    let code = scalar_code c s in
    cond_both (nat_lt c 0x7F) _ _ (Named first c m)
    (λ t. record { stands = (n, inl refl) })
    (λ t. cond_both style.ascii_only _ _ (Named first c m)
    (λ u. cond_both (nat_lt c 0x100) _ _ (Named first c m)
    (λ v. record { stands = (n, inr (s, four_lower_is c m (let x = ltb-true c 0x100 v in omega arith))) })
    (λ v. cond_both (nat_lt c 0x1_0000) _ _ (Named first c m)
    (λ w. record { stands = (n, inr (s, four_is c m (ltb-true c 0x1_0000 w))) })
    (λ w. record { stands = (n, inr (s, braced_is c m (ltb-false c 0x1_0000 w) code)) })))
    (λ u. record { stands = (n, inl refl) }))

chars_named : (style : Style) (first : Bool) (cs rest : List ℕ) → AreNameChars first cs → Spell first (name_chars style false cs rest) cs rest
chars_named style first [] rest h = refl
chars_named style first (c ∷ cs) rest h =
    (name_chars style false cs rest, (name_char style first c (name_chars style false cs rest) h.0 h.1).stands, chars_named style false cs rest h.2)

pub name_is_read : NameIsRead
name_is_read style cs rest some h ends = (some, chars_named style true cs rest h, ends)

-- ---- a key in quotes

low_plain : (c : ℕ) → c < 128 → is_name_part c ≡ true → is_plain 34 c ≡ true
low_plain c l h =
    let g : (is_ascii_alphanumeric c || (c == 95)) || (c == 36 || (c == 95 || (c == 0x200C || c == 0x200D))) ≡ true =
    sym (ap (λ t. t || (c == 36 || (c == 95 || (c == 0x200C || c == 0x200D)))) (is_xid_continue-ascii c l)) ∙ h in
    grind (arith, nat_tests)

record Keyed (c : ℕ) (m : List ℕ) (f : Form) : Type 0 where
  suits : Suits f c m
  bare : f ≡ Bare → is_plain 34 c ≡ true

key_char : (style : Style) (first : Bool) (c : ℕ) (m : List ℕ) → style.ascii_only ≡ true → IsScalar c → is_name_char first c ≡ true → Keyed c m (key_form style c)
key_char style first c m a s n =
    let code = scalar_code c s in
    cond_both (is_latin c) _ _ (Keyed c m)
    (λ t. record { suits = grind (arith, nat_tests); bare = λ x. cc })
    (λ t. cond_both (nat_lt c 0x7F) _ _ (Keyed c m)
    (λ u. record { suits = tt; bare = λ x. low_plain c (let y = ltb-true c 0x7F u in omega arith) (part_of first c n) })
    (λ u. cond_both style.ascii_only _ _ (Keyed c m)
    (λ v. cond_both (nat_lt c 0x100) _ _ (Keyed c m)
    (λ w. record { suits = (let y = ltb-true c 0x100 w in omega arith); bare = λ x. cc })
    (λ w. cond_both (nat_lt c 0x1_0000) _ _ (Keyed c m)
    (λ y. record { suits = ltb-true c 0x1_0000 y; bare = λ x. cc })
    (λ y. record { suits = code; bare = λ x. cc })))
    (λ v. absurd (false≢true (sym v ∙ a)))))

chars_keyed : (style : Style) (first : Bool) (cs rest : List ℕ) → style.ascii_only ≡ true → AreNameChars first cs
    → IsQuoted 34 (name_chars style true cs (34 ∷ rest)) (flat_map encode_utf16 cs) (34 ∷ rest)
chars_keyed style first [] rest a h = record { pieces = []; stand = refl; value = refl; modern = refl }
chars_keyed style first (c ∷ cs) rest a h =
    let m = name_chars style true cs (34 ∷ rest) in
    let k = key_char style first c m a h.0 h.1 in
    quoted_on 34 (written (key_form style c) c m) (encode_utf16 c) m (flat_map encode_utf16 cs) (34 ∷ rest)
    (form_stands 34 (key_form style c) c m k.suits k.bare) (chars_keyed style false cs rest a h.2)

pub key_is_read : KeyIsRead
key_is_read style cs rest q h =
    let parts = and_parts style.ascii_only (list_any is_latin cs) q in
    let x = chars_keyed style true cs rest parts.0 h in
    subst (λ (t : List ℕ). SpellsString (flat_map encode_utf16 cs) false t rest)
    (sym (ap (λ b. cond b (34 ∷ name_chars style true cs (34 ∷ rest)) (name_text style cs rest)) q))
    (x.pieces, (34, name_chars style true cs (34 ∷ rest), refl, refl, x.stand), x.value, sym x.modern)

pub key_word_is_read : KeyWordIsRead
key_word_is_read style cs rest q some h ends =
    subst (λ (t : List ℕ). IsName t cs rest) (sym (ap (λ b. cond b (34 ∷ name_chars style true cs (34 ∷ rest)) (name_text style cs rest)) q))
    (name_is_read style cs rest some h ends)
