-- Quoted units are read as these units.
use Rattle.std.proofs.Common.{◌≡◌, ℕ, ◌<◌, ◌≤◌, ⊎_elim, true, false, List, [], ◌∷◌, ◌++◌, append_assoc, refl, sym, ap, subst, ◌∙◌, arith}
use Rattle.std.specs.Prelude.{if◌then◌else◌, nat_lt, ◌||◌, ◌==◌}
use Rattle.std.specs.Char.Escape.{encode_utf16}
use Rattle.std.specs.List.{flat_map, list_any}
use Rattle.std.proofs.lemmas.Bool.{cases_Bool, ltb-true, ltb-false, eqb-true, false≢true, cond_both, or_parts}
use Rattle.std.proofs.lemmas.Bool.Decides.{nat_tests}
use Rattle.lex_literal.specs.Escapes.{begins, is_decimal, is_special, single}
use Rattle.lex_literal.specs.Strings.{Piece, Pieces, piece_units, has_legacy_escape, is_plain, is_quote}
use Rattle.print_spelling.specs.declared.form.Form.{Form}
use Rattle.print_spelling.specs.declared.form.Form.TheVariants.{Bare, Letter, Nul, Hex, Four, FourLower, Pair, Braced}
use Rattle.print_spelling.specs.declared.style.Style.{Style}
use Rattle.print_spelling.specs.Forms.{written, Suits}
use Rattle.print_spelling.specs.Styles.{is_below_es5, is_up_to_es5}
use Rattle.print_spelling.specs.Pieces.{IsQuoted}
use Rattle.print_spelling.proofs.FormLemmas.{form_stands}
use Rattle.print_spelling.specs.declared.string.quoted.Behind.{Behind}
use Rattle.print_spelling.specs.declared.string.quoted.Behind.TheVariants.{Other}
use Rattle.print_spelling.specs.String.CodePoints.{AreCodes, code_points}
use Rattle.print_spelling.specs.String.Strings.{behind, is_guarded, letter_of, is_never_bare, wide_form, lone_form, form_of, chars_text, quote_of, QuotedIsRead, count}
use Rattle.print_spelling.proofs.string.CodePointLemmas.{units_again, codes_are}

-- ---- parts of a string, one after the other

pieces_on : (quote : ℕ) (ps qs : List Piece) (text m r : List ℕ) → Pieces quote ps text m → Pieces quote qs m r → Pieces quote (ps ++ qs) text r
pieces_on quote [] qs text m r h i = subst (λ t. Pieces quote qs t r) (sym h) i
pieces_on quote (p ∷ ps) qs text m r h i = (h.0, h.1, pieces_on quote ps qs h.0 m r h.2 i)

units_on : (ps qs : List Piece) → flat_map piece_units (ps ++ qs) ≡ flat_map piece_units ps ++ flat_map piece_units qs
units_on [] qs = refl
units_on (p ∷ ps) qs =
    ap (λ (x : List ℕ). piece_units p ++ x) (units_on ps qs)
    ∙ sym (append_assoc (piece_units p) (flat_map piece_units ps) (flat_map piece_units qs))

modern_on : (ps qs : List Piece) → list_any has_legacy_escape ps ≡ false → list_any has_legacy_escape qs ≡ false → list_any has_legacy_escape (ps ++ qs) ≡ false
modern_on [] qs h i = i
modern_on (p ∷ ps) qs h i = ⊎_elim
    (λ (e : has_legacy_escape p ≡ true). absurd (false≢true (sym h ∙ ap (λ b. b || list_any has_legacy_escape ps) e)))
    (λ (e : has_legacy_escape p ≡ false).
    let more : list_any has_legacy_escape ps ≡ false = sym (ap (λ b. b || list_any has_legacy_escape ps) e) ∙ h in
    ap (λ b. b || list_any has_legacy_escape (ps ++ qs)) e ∙ modern_on ps qs more i)
    (cases_Bool (has_legacy_escape p))

pub quoted_on : (quote : ℕ) (text us m vs r : List ℕ) → IsQuoted quote text us m → IsQuoted quote m vs r → IsQuoted quote text (us ++ vs) r
quoted_on quote text us m vs r h i = record {
  pieces = h.pieces ++ i.pieces;
  stand = pieces_on quote h.pieces i.pieces text m r h.stand i.stand;
  value = ap (λ (x : List ℕ). x ++ vs) h.value ∙ ap (λ (x : List ℕ). flat_map piece_units h.pieces ++ x) i.value ∙ sym (units_on h.pieces i.pieces);
  modern = modern_on h.pieces i.pieces h.modern i.modern;
}

-- ---- the form of a character suits it

record Good (quote c : ℕ) (m : List ℕ) (f : Form) : Type 0 where
  suits : Suits f c m
  bare : f ≡ Bare → is_plain quote c ≡ true

module _ (style : Style) (quote c : ℕ) (m : List ℕ) (is_code : c < 0x110000) where
  bare_good : is_plain quote c ≡ true → Good quote c m Bare
  bare_good e = record { suits = tt; bare = λ _. e }

  wide_good : 0x100 ≤ c → quote < 128 → Good quote c m (wide_form style c)
  wide_good l q =
      let plain : is_plain quote c ≡ true = grind (arith, nat_tests) in
      cond_both (is_never_bare c) _ _ (Good quote c m)
      (λ e. record { suits = grind (arith, nat_tests); bare = λ x. cc })
      (λ e. cond_both (nat_lt c 0x1_0000) _ _ (Good quote c m)
      (λ f. cond_both style.ascii_only _ _ (Good quote c m)
      (λ g. record { suits = ltb-true c 0x1_0000 f; bare = λ x. cc })
      (λ g. bare_good plain))
      (λ f. cond_both (is_up_to_es5 style) _ _ (Good quote c m)
      (λ g. record { suits = (ltb-false c 0x1_0000 f, is_code); bare = λ x. cc })
      (λ g. cond_both style.ascii_only _ _ (Good quote c m)
      (λ h. record { suits = is_code; bare = λ x. cc })
      (λ h. bare_good plain))))

  letter_special : nat_lt 0 (letter_of c) ≡ true → is_special (letter_of c) ≡ false
  letter_special e = grind (arith, nat_tests)

  letter_single : nat_lt 0 (letter_of c) ≡ true → single (letter_of c) ≡ c
  letter_single e = grind (arith, nat_tests)

  lone_good : is_quote quote ≡ true → (c == quote) ≡ false → Good quote c m (lone_form style c)
  lone_good q n =
      let low : quote < 128 = grind (arith, nat_tests) in
      cond_both (nat_lt 0 (letter_of c)) _ _ (Good quote c m)
      (λ e. record { suits = (letter_special e, letter_single e); bare = λ x. cc })
      (λ e. cond_both (c == 9) _ _ (Good quote c m)
      (λ f. bare_good (grind (arith, nat_tests)))
      (λ f. cond_both (nat_lt c 0x20) _ _ (Good quote c m)
      (λ g. record { suits = grind (arith, nat_tests); bare = λ x. cc })
      (λ g. cond_both (nat_lt c 0x7F) _ _ (Good quote c m)
      (λ h. bare_good (grind (arith, nat_tests)))
      (λ h. cond_both (nat_lt c 0x100) _ _ (Good quote c m)
      (λ i. cond_both (style.ascii_only || is_up_to_es5 style) _ _ (Good quote c m)
      (λ j. record { suits = ltb-true c 0x100 i; bare = λ x. cc })
      (λ j. bare_good (grind (arith, nat_tests))))
      (λ i. wide_good (ltb-false c 0x100 i) low)))))

  form_good : (b : Behind) (cs : List ℕ) → is_quote quote ≡ true → (begins is_decimal cs ≡ false → begins is_decimal m ≡ false)
      → Good quote c m (form_of style quote b c cs)
  form_good b cs q next =
      cond_both (is_guarded style b c cs) _ _ (Good quote c m)
      (λ e. cond_both (c == 47) _ _ (Good quote c m)
      (λ f. record { suits = (refl, sym (eqb-true c 47 f)); bare = λ x. cc })
      (λ f. record { suits = guarded_low e; bare = λ x. cc }))
      (λ e. cond_both (c == quote) _ _ (Good quote c m)
      (λ f. record { suits = (quote_special q, quote_single q ∙ sym (eqb-true c quote f)); bare = λ x. cc })
      (λ f. cond_both (c == 0) _ _ (Good quote c m)
      (λ g. cond_both (is_below_es5 style || begins is_decimal cs) _ _ (Good quote c m)
      (λ h. record { suits = grind (arith, nat_tests); bare = λ x. cc })
      (λ h. record { suits = (eqb-true c 0 g, next (or_parts (is_below_es5 style) (begins is_decimal cs) h).1); bare = λ x. cc }))
      (λ g. lone_good q f)))
    where
      guarded_low : is_guarded style b c cs ≡ true → c < 256
      guarded_low e = grind (arith, nat_tests)

      quote_special : is_quote quote ≡ true → is_special quote ≡ false
      quote_special e = grind (arith, nat_tests)

      quote_single : is_quote quote ≡ true → single quote ≡ quote
      quote_single e = grind (arith, nat_tests)

-- ---- characters

-- what is written begins with the character or with a backslash
pub written_begins : (f : Form) (c : ℕ) (m : List ℕ) → is_decimal c ≡ false → begins is_decimal (written f c m) ≡ false
written_begins Bare c m e = e
written_begins (Letter l) c m e = refl
written_begins Nul c m e = refl
written_begins Hex c m e = refl
written_begins Four c m e = refl
written_begins FourLower c m e = refl
written_begins Pair c m e = refl
written_begins Braced c m e = refl

text_begins : (style : Style) (quote : ℕ) (b : Behind) (cs rest : List ℕ) → is_quote quote ≡ true → begins is_decimal cs ≡ false
    → begins is_decimal (chars_text style quote b cs (quote ∷ rest)) ≡ false
text_begins style quote b [] rest q e = grind (arith, nat_tests)
text_begins style quote b (c ∷ cs) rest q e = written_begins (form_of style quote b c cs) c (chars_text style quote (behind style b c) cs (quote ∷ rest)) e

pub chars_quoted : (style : Style) (quote : ℕ) (b : Behind) (cs rest : List ℕ) → is_quote quote ≡ true → AreCodes cs
    → IsQuoted quote (chars_text style quote b cs (quote ∷ rest)) (flat_map encode_utf16 cs) (quote ∷ rest)
chars_quoted style quote b [] rest q h = record { pieces = []; stand = refl; value = refl; modern = refl }
chars_quoted style quote b (c ∷ cs) rest q h =
    let m = chars_text style quote (behind style b c) cs (quote ∷ rest) in
    let good = form_good style quote c m h.0 b cs q (text_begins style quote (behind style b c) cs rest q) in
    quoted_on quote (written (form_of style quote b c cs) c m) (encode_utf16 c) m (flat_map encode_utf16 cs) (quote ∷ rest)
    (form_stands quote (form_of style quote b c cs) c m good.suits good.bare)
    (chars_quoted style quote (behind style b c) cs rest q h.1)

pub quote_is : (cs : List ℕ) → is_quote (quote_of cs) ≡ true
quote_is cs = elim (nat_lt (count 39 cs) (count 34 cs)) as (λ b. is_quote (if b then 39 else 34) ≡ true) [ true ↦ refl | false ↦ refl ]

pub quoted_is_read : QuotedIsRead
quoted_is_read style units rest h =
    let cs = code_points units in
    let quote = quote_of cs in
    let x = chars_quoted style quote Other cs rest (quote_is cs) (codes_are units h) in
    (x.pieces, (quote, chars_text style quote Other cs (quote ∷ rest), quote_is cs, refl, x.stand), sym (units_again units h) ∙ x.value, sym x.modern)
