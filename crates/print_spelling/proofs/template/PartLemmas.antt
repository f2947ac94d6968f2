-- What each written part of a template is read as.
use Rattle.std.proofs.Common.{◌≡◌, ℕ, ◌<◌, inl, inr, ⊎_elim, Bool, true, false, List, [], ◌∷◌, ◌++◌, append-nil, append_assoc, refl, sym, ap, subst, ◌∙◌, arith}
use Rattle.std.specs.Prelude.{nat_lt, ◌&&◌, ◌||◌, ◌==◌}
use Rattle.std.specs.Char.{digit_value}
use Rattle.std.specs.Char.Escape.{encode_utf16}
use Rattle.std.specs.List.{flat_map, list_any}
use Rattle.std.specs.Str.Parse.{digits_value}
use Rattle.std.proofs.lemmas.Bool.{cases_Bool, ltb-true, eqb-true, false≢true, and_parts, cond_both}
use Rattle.std.proofs.lemmas.Bool.Decides.{nat_tests}
use Rattle.lex_literal.specs.declared.escape.Escape.TheVariants.{Continuation, Code}
use Rattle.lex_literal.specs.Escapes.{begins, is_decimal, is_hex, is_special, single, IsEscape}
use Rattle.lex_literal.specs.Templates as t
use Rattle.lex_literal.specs.Templates.{Parts, part_units, is_bad, is_bare, is_brace}
use Rattle.print_spelling.specs.declared.form.Form.{Form}
use Rattle.print_spelling.specs.declared.form.Form.TheVariants as f
use Rattle.print_spelling.specs.declared.style.Style.{Style}
use Rattle.print_spelling.specs.Forms.{written, lower, four, braced_digits}
use Rattle.print_spelling.proofs.FormLemmas.{hex_escape, four_escape, braced_escape, letter_escape, nul_escape}
use Rattle.print_spelling.specs.declared.template.part.Part.{Part}
use Rattle.print_spelling.specs.declared.template.part.Part.TheVariants as p
use Rattle.print_spelling.specs.Template.Templates.{is_kept_code, is_printed, hex_part, is_separator, stays, escaped, form_of, part_text, digit_first, dollar_behind, parts_text}

-- ---- a text that is read as units

pub record IsRead (text units rest : List ℕ) : Type 0 where
  pub pieces : List t.Part
  pub stand : Parts pieces text rest
  pub value : units ≡ flat_map part_units pieces
  pub good : list_any is_bad pieces ≡ false

pub read_none : (text : List ℕ) → IsRead text [] text
read_none text = record { pieces = []; stand = refl; value = refl; good = refl }

pub bare_read : (c : ℕ) (m : List ℕ) → is_bare c ≡ true → (c ≡ 36 → begins is_brace m ≡ false) → IsRead (c ∷ m) (encode_utf16 c) m
bare_read c m b d = record {
  pieces = t.Bare c ∷ [];
  stand = (m, (refl, b, d), refl);
  value = sym (append-nil (encode_utf16 c));
  good = refl;
}

pub escape_read : (n : ℕ) (text m : List ℕ) → IsEscape (Code n) text m → IsRead (92 ∷ text) (encode_utf16 n) m
escape_read n text m e = record {
  pieces = t.Escaped (Code n) ∷ [];
  stand = (m, (text, refl, e, refl), refl);
  value = sym (append-nil (encode_utf16 n));
  good = refl;
}

pub line_read : (text m : List ℕ) → IsEscape Continuation text m → IsRead (92 ∷ text) [] m
line_read text m e = record { pieces = t.Escaped Continuation ∷ []; stand = (m, (text, refl, e, refl), refl); value = refl; good = refl }

parts_on : (ps qs : List t.Part) (text m r : List ℕ) → Parts ps text m → Parts qs m r → Parts (ps ++ qs) text r
parts_on [] qs text m r h i = subst (λ x. Parts qs x r) (sym h) i
parts_on (p ∷ ps) qs text m r h i = (h.0, h.1, parts_on ps qs h.0 m r h.2 i)

units_on : (ps qs : List t.Part) → flat_map part_units (ps ++ qs) ≡ flat_map part_units ps ++ flat_map part_units qs
units_on [] qs = refl
units_on (p ∷ ps) qs =
    ap (λ (x : List ℕ). part_units p ++ x) (units_on ps qs)
    ∙ sym (append_assoc (part_units p) (flat_map part_units ps) (flat_map part_units qs))

good_on : (ps qs : List t.Part) → list_any is_bad ps ≡ false → list_any is_bad qs ≡ false → list_any is_bad (ps ++ qs) ≡ false
good_on [] qs h i = i
good_on (p ∷ ps) qs h i = ⊎_elim
    (λ (e : is_bad p ≡ true). absurd (false≢true (sym h ∙ ap (λ b. b || list_any is_bad ps) e)))
    (λ (e : is_bad p ≡ false).
    let more : list_any is_bad ps ≡ false = sym (ap (λ b. b || list_any is_bad ps) e) ∙ h in
    ap (λ b. b || list_any is_bad (ps ++ qs)) e ∙ good_on ps qs more i)
    (cases_Bool (is_bad p))

pub read_on : (text us m vs r : List ℕ) → IsRead text us m → IsRead m vs r → IsRead text (us ++ vs) r
read_on text us m vs r h i = record {
  pieces = h.pieces ++ i.pieces;
  stand = parts_on h.pieces i.pieces text m r h.stand i.stand;
  value = ap (λ (x : List ℕ). x ++ vs) h.value ∙ ap (λ (x : List ℕ). flat_map part_units h.pieces ++ x) i.value ∙ sym (units_on h.pieces i.pieces);
  good = good_on h.pieces i.pieces h.good i.good;
}

-- ---- a part, before a text that digit and dollar speak of

pub record PartReads (style : Style) (p : Part) (units : List ℕ) : Type 0 where
  pub reads : (dollar digit : Bool) (m : List ℕ) → (digit ≡ false → begins is_decimal m ≡ false)
      → (dollar_behind dollar p ≡ true → begins is_brace m ≡ false) → IsRead (part_text style dollar digit p m) units m

-- the form of a bare character stands for it
record FormReads (c : ℕ) (m : List ℕ) (g : Form) : Type 0 where
  form : IsRead (written g c m) (encode_utf16 c) m

-- what a raw text has bare, or behind a backslash that is dropped
abbrev pub may_stand : ℕ → Bool
may_stand c = nat_lt c 0x110000 && is_bare c

module _ (style : Style) (c : ℕ) (m : List ℕ) (ok : may_stand c ≡ true) where
  is_code : c < 0x110000
  is_code = ltb-true c 0x110000 (and_parts (nat_lt c 0x110000) (is_bare c) ok).0

  stands_bare : is_bare c ≡ true
  stands_bare = (and_parts (nat_lt c 0x110000) (is_bare c) ok).1

  letter : (l : ℕ) → is_special l ≡ false → single l ≡ c → FormReads c m (f.Letter l)
  letter l s e = record { form = escape_read c (l ∷ m) m (letter_escape l c m s e) }

  hexed : c < 256 → FormReads c m f.Hex
  hexed h = record { form = escape_read c (120 ∷ lower 16 c ∷ lower 1 c ∷ m) m (hex_escape c m h) }

  bare : (c ≡ 36 → begins is_brace m ≡ false) → FormReads c m f.Bare
  bare d = record { form = bare_read c m stands_bare d }

  form_reads : (dollar digit : Bool) → (digit ≡ false → begins is_decimal m ≡ false) → (c ≡ 36 → begins is_brace m ≡ false)
      → FormReads c m (form_of style dollar digit c)
  form_reads dollar digit n d =
      cond_both (c == 0) _ _ (FormReads c m)
      (λ a. cond_both digit _ _ (FormReads c m)
      (λ b. hexed (let z = eqb-true c 0 a in omega arith))
      (λ b. record { form = escape_read c (48 ∷ m) m (nul_escape c m (eqb-true c 0 a) (n b)) }))
      (λ a. cond_both (c == 8) _ _ (FormReads c m)
      (λ b. letter 98 refl (sym (eqb-true c 8 b)))
      (λ b. cond_both (c == 11) _ _ (FormReads c m)
      (λ e. letter 118 refl (sym (eqb-true c 11 e)))
      (λ e. cond_both (c == 12) _ _ (FormReads c m)
      (λ g. letter 102 refl (sym (eqb-true c 12 g)))
      (λ g. cond_both (c == 123 && dollar) _ _ (FormReads c m)
      (λ h. letter 123 refl (sym (eqb-true c 123 (and_parts (c == 123) dollar h).0)))
      (λ h. cond_both (nat_lt c 0x7F) _ _ (FormReads c m)
      (λ i. bare d)
      (λ i. cond_both (nat_lt c 0x100) _ _ (FormReads c m)
      (λ j. hexed (ltb-true c 0x100 j))
      (λ j. cond_both (is_separator c || c == 0xFEFF) _ _ (FormReads c m)
      (λ k. record { form = escape_read c (four c m) m (four_escape c m (low k)) })
      (λ k. cond_both style.ascii_only _ _ (FormReads c m)
      (λ l. record { form = escape_read c (117 ∷ 123 ∷ (braced_digits c ++ 125 ∷ m)) m (braced_escape c m is_code) })
      (λ l. bare d)))))))))
    where
      low : (is_separator c || c == 0xFEFF) ≡ true → c < 65536
      low k = grind (arith, nat_tests)

pub code_reads : (style : Style) (c : ℕ) → may_stand c ≡ true → PartReads style (p.Code c) (encode_utf16 c)
code_reads style c ok = record {
  reads = λ dollar digit m n d. (form_reads style c m ok dollar digit n (λ e. d (ap (λ x. x == 36) e))).form;
}

pub pair_reads : (style : Style) (d n : ℕ) → is_special d ≡ false → single d ≡ n → PartReads style (p.Pair d) (encode_utf16 n)
pair_reads style d n s e = record { reads = λ dollar digit m i j. escape_read n (d ∷ m) m (letter_escape d n m s e) }

pub line_reads : (style : Style) → PartReads style (p.Pair 10) []
line_reads style = record { reads = λ dollar digit m i j. line_read (10 ∷ m) m (inr (10, refl, refl, λ e. cc)) }

pub nothing_reads : (style : Style) → PartReads style p.Nothing []
nothing_reads style = record { reads = λ dollar digit m i j. read_none m }

pub digits_reads : (style : Style) (a b n : ℕ) → is_hex a ≡ true → is_hex b ≡ true → n ≡ digits_value 16 (a ∷ b ∷ []) → PartReads style (p.Digits a b) (encode_utf16 n)
digits_reads style a b n h i e = record {
  reads = λ dollar digit m j k. escape_read n (120 ∷ a ∷ b ∷ m) m (inr (inr (inl (a, b, refl, (h, (i, tt)), e))));
}

pub hexed_reads : (style : Style) (v : ℕ) → v < 256 → PartReads style (p.Hexed v) (encode_utf16 v)
hexed_reads style v h = record { reads = λ dollar digit m i j. escape_read v (120 ∷ lower 16 v ∷ lower 1 v ∷ m) m (hex_escape v m h) }

-- ---- the part of each escape

pub printed_stands : (n : ℕ) → is_kept_code n ≡ false → is_printed n ≡ true → may_stand n ≡ true
printed_stands n k q = grind (arith, nat_tests)

pub separator_special : (d : ℕ) → is_separator d ≡ true → is_special d ≡ true
separator_special d e = grind (arith, nat_tests)

module _ (style : Style) where
  two_low : (a b n : ℕ) → is_hex a ≡ true → is_hex b ≡ true → n ≡ digits_value 16 (a ∷ b ∷ []) → n < 256
  two_low a b n h i e =
      let x = ltb-true (digit_value a) 16 h in
      let y = ltb-true (digit_value b) 16 i in
      omega arith

  pub hex_reads : (a b n : ℕ) → is_hex a ≡ true → is_hex b ≡ true → n ≡ digits_value 16 (a ∷ b ∷ []) → PartReads style (hex_part a b n) (encode_utf16 n)
  hex_reads a b n h i e =
      cond_both (is_kept_code n) _ _ (λ x. PartReads style x (encode_utf16 n))
      (λ k. digits_reads style a b n h i e)
      (λ k. cond_both (is_printed n) _ _ (λ x. PartReads style x (encode_utf16 n))
      (λ q. code_reads style n (printed_stands n k q))
      (λ q. hexed_reads style n (two_low a b n h i e)))

  not_x : (d : ℕ) → is_special d ≡ false → d == 120 ≡ true → ⊥
  not_x d s e = let x = eqb-true d 120 e in absurd (false≢true (sym s ∙ ap is_special x))

  plain_single : (d : ℕ) → (d == 110) ≡ false → (d == 116) ≡ false → stays d ≡ false → single d ≡ d
  plain_single d a b c = grind (arith, nat_tests)

  plain_stands : (d : ℕ) → d < 0x110000 → is_special d ≡ false → stays d ≡ false → may_stand d ≡ true
  plain_stands d h s e = grind (arith, nat_tests)

  pub single_reads : (d : ℕ) (cs : List ℕ) → d < 0x110000 → is_special d ≡ false → PartReads style (escaped d cs) (encode_utf16 (single d))
  single_reads d cs h s =
      let P : Part → Type 0 = λ x. PartReads style x (encode_utf16 (single d)) in
      cond_both (d == 120) _ _ P
      (λ e. absurd (not_x d s e))
      (λ _. cond_both (d == 110) _ _ P
      (λ e. subst (λ x. PartReads style (p.Code 10) (encode_utf16 (single x))) (sym (eqb-true d 110 e)) (code_reads style 10 refl))
      (λ n. cond_both (d == 116) _ _ P
      (λ e. subst (λ x. PartReads style (p.Code 9) (encode_utf16 (single x))) (sym (eqb-true d 116 e)) (code_reads style 9 refl))
      (λ t. cond_both (d == 48) _ _ P
      (λ e. absurd (false≢true (sym s ∙ ap is_special (eqb-true d 48 e))))
      (λ _. cond_both (is_separator d) _ _ P
      (λ e. absurd (false≢true (sym s ∙ separator_special d e)))
      (λ _. cond_both (stays d) _ _ P
      (λ e. pair_reads style d (single d) s refl)
      (λ e. cond_both (d == 36 && begins is_brace cs) _ _ P
      (λ _. pair_reads style d (single d) s refl)
      (λ _. subst (λ x. PartReads style (p.Code d) (encode_utf16 x)) (sym (plain_single d n t e)) (code_reads style d (plain_stands d h s e)))))))))

-- ---- what the text behind begins with

written_begins : (q : ℕ → Bool) (g : Form) (c : ℕ) (m : List ℕ) → q 92 ≡ false → q c ≡ false → begins q (written g c m) ≡ false
written_begins q f.Bare c m b e = e
written_begins q (f.Letter l) c m b e = b
written_begins q f.Nul c m b e = b
written_begins q f.Hex c m b e = b
written_begins q f.Four c m b e = b
written_begins q f.FourLower c m b e = b
written_begins q f.Pair c m b e = b
written_begins q f.Braced c m b e = b

pub no_digit : (style : Style) (dollar : Bool) (ps : List Part) (m : List ℕ) → begins is_decimal m ≡ false → digit_first ps ≡ false
    → begins is_decimal (parts_text style dollar ps m) ≡ false
no_digit style dollar [] m h e = h
no_digit style dollar (p.Pair d ∷ ps) m h e = refl
no_digit style dollar (p.Digits a b ∷ ps) m h e = refl
no_digit style dollar (p.Last ∷ ps) m h e = refl
no_digit style dollar (p.Nothing ∷ ps) m h e = no_digit style dollar ps m h e
no_digit style dollar (p.Hexed v ∷ ps) m h e = refl
no_digit style dollar (p.Code c ∷ ps) m h e =
    written_begins is_decimal (form_of style dollar (digit_first ps) c) c (parts_text style (c == 36) ps m) refl e

record NoBrace (c : ℕ) (m : List ℕ) (g : Form) : Type 0 where
  none : begins is_brace (written g c m) ≡ false

pub no_brace : (style : Style) (ps : List Part) (m : List ℕ) → begins is_brace m ≡ false → begins is_brace (parts_text style true ps m) ≡ false
no_brace style [] m h = h
no_brace style (p.Pair d ∷ ps) m h = refl
no_brace style (p.Digits a b ∷ ps) m h = refl
no_brace style (p.Last ∷ ps) m h = refl
no_brace style (p.Nothing ∷ ps) m h = no_brace style ps m h
no_brace style (p.Hexed v ∷ ps) m h = refl
no_brace style (p.Code c ∷ ps) m h = ⊎_elim
    (λ (e : (c == 123) ≡ true).
    let at = eqb-true c 123 e in
    ap (λ x. begins is_brace (written (form_of style true (digit_first ps) x) x (parts_text style (c == 36) ps m))) at)
    (λ (e : (c == 123) ≡ false). written_begins is_brace (form_of style true (digit_first ps) c) c (parts_text style (c == 36) ps m) refl e)
    (cases_Bool (c == 123))
