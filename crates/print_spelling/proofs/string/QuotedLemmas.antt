-- What is written of a string, piece by piece.
use Rattle.std.proofs.Common.{◌≡◌, ℕ, ◌-◌, ◌<◌, ◌≤◌, ◌⊎◌, ⊎_elim, Bool, true, false, cond, List, [], ◌∷◌, ◌++◌, append_assoc, length, take, drop, slice_index, refl, sym, ap, subst, ◌∙◌, arith}
use Rattle.std.specs.Prelude.{if◌then◌else◌, nat_lt, ◌&&◌, ◌||◌, ◌==◌, filter, encode_utf8_all}
use Rattle.std.specs.Char.{IsScalar}
use Rattle.std.specs.List.{list_any}
use Rattle.std.proofs.lemmas.Bool.{cases_Bool, lt-ltb, le-ltb, ltb-true, ltb-false, eqb-true, and_parts, and_right, and_cases, ne_eqb, false≢true, cond_both, cond-true, cond-false}
use Rattle.std.proofs.lemmas.Bool.Decides.{nat_tests}
use Rattle.std.proofs.lemmas.List.Elements.{filter-append}
use Rattle.std.proofs.lemmas.Str.{encode_ascii, encodes-append}
use Rattle.std.specs.Str.{IsAscii}
use Rattle.std.proofs.lemmas.Str.Ascii.{IsAscii-cons, IsAscii-nil}
use Rattle.lex_pieces.specs.Runs.{Each}
use Rattle.lex_literal.specs.Escapes.{begins, is_decimal}
use Rattle.lex_literal.specs.Strings.{is_quote}
use Rattle.print_spelling.specs.declared.form.Form.{Form}
use Rattle.print_spelling.specs.declared.form.Form.TheVariants.{Bare, Letter, Nul, Hex, Four, FourLower, Pair, Braced}
use Rattle.print_spelling.specs.declared.style.Style.{Style}
use Rattle.print_spelling.specs.Forms.{written, Writes, braced_digits}
use Rattle.print_spelling.specs.Styles.{is_below_es5, is_up_to_es5}
use Rattle.print_spelling.specs.declared.string.quoted.Behind.{Behind}
use Rattle.print_spelling.specs.declared.string.quoted.Behind.TheVariants.{Other, Less, Dash, Dashes}
use Rattle.print_spelling.specs.String.CodePoints.{code_points, onto, is_high, is_low, of_pair}
use Rattle.print_spelling.specs.String.QuotedTexts.{is_markup, is_plain_unit}
use Rattle.print_spelling.specs.String.Strings.{behind, is_guarded, opens_comment, closes_script, is_less, is_dash, is_dashes, letter_of, is_never_bare, lone_form, form_of, chars_text, count, quote_of}

-- ---- one character

pub written_on : (f : Form) (c : ℕ) (m : List ℕ) → written f c m ≡ written f c [] ++ m
written_on Bare c m = refl
written_on (Letter l) c m = refl
written_on Nul c m = refl
written_on Hex c m = refl
written_on Four c m = refl
written_on FourLower c m = refl
written_on Pair c m = refl
written_on Braced c m = ap (λ (x : List ℕ). 92 ∷ 117 ∷ 123 ∷ x) (sym (append_assoc (braced_digits c) (125 ∷ []) m))

pub char_bytes : (style : Style) (quote : ℕ) (b : Behind) (c : ℕ) (cs m bytes : List ℕ) (f : Form) → f ≡ form_of style quote b c cs
    → bytes ≡ encode_utf8_all (written f c [])
    → encode_utf8_all (chars_text style quote b (c ∷ cs) m) ≡ bytes ++ encode_utf8_all (chars_text style quote (behind style b c) cs m)
char_bytes style quote b c cs m bytes f e same =
    ap encode_utf8_all (written_on (form_of style quote b c cs) c (chars_text style quote (behind style b c) cs m))
    ∙ encodes-append (written (form_of style quote b c cs) c []) (chars_text style quote (behind style b c) cs m)
    ∙ ap (λ (l : List ℕ). l ++ encode_utf8_all (chars_text style quote (behind style b c) cs m)) (ap (λ g. encode_utf8_all (written g c [])) (sym e) ∙ sym same)

pub scalar_code : (c : ℕ) → IsScalar c → c < 0x110000
scalar_code c h = grind (arith, nat_tests)

-- what is written of a character can be written
record CanWrite (c : ℕ) (f : Form) : Type 0 where
  writes : Writes f c

low_scalar : (c : ℕ) → c < 0x100 → IsScalar c
low_scalar c h = grind (arith, nat_tests)

wide_scalar : (c : ℕ) → is_never_bare c ≡ false → c < 0x110000 → IsScalar c
wide_scalar c e h = grind (arith, nat_tests)

module _ (style : Style) (quote c : ℕ) (code : c < 0x110000) where
  letter_low : letter_of c < 128
  letter_low = grind (arith, nat_tests)

  lone_writes : CanWrite c (lone_form style c)
  lone_writes =
      cond_both (nat_lt 0 (letter_of c)) _ _ (CanWrite c)
      (λ e. record { writes = letter_low })
      (λ e. cond_both (c == 9) _ _ (CanWrite c)
      (λ f. record { writes = low_scalar c (let x = eqb-true c 9 f in omega arith) })
      (λ f. cond_both (nat_lt c 0x20) _ _ (CanWrite c)
      (λ g. record { writes = code })
      (λ g. cond_both (nat_lt c 0x7F) _ _ (CanWrite c)
      (λ h. record { writes = low_scalar c (let x = ltb-true c 0x7F h in omega arith) })
      (λ h. cond_both (nat_lt c 0x100) _ _ (CanWrite c)
      (λ i. cond_both (style.ascii_only || is_up_to_es5 style) _ _ (CanWrite c)
      (λ j. record { writes = code })
      (λ j. record { writes = low_scalar c (ltb-true c 0x100 i) }))
      (λ i. cond_both (is_never_bare c) _ _ (CanWrite c)
      (λ j. record { writes = code })
      (λ j. cond_both (nat_lt c 0x1_0000) _ _ (CanWrite c)
      (λ k. cond_both style.ascii_only _ _ (CanWrite c)
      (λ l. record { writes = code })
      (λ l. record { writes = wide_scalar c j code }))
      (λ k. cond_both (is_up_to_es5 style) _ _ (CanWrite c)
      (λ l. record { writes = (ltb-false c 0x1_0000 k, code) })
      (λ l. cond_both style.ascii_only _ _ (CanWrite c)
      (λ m. record { writes = code })
      (λ m. record { writes = wide_scalar c j code })))))))))

  form_writes : (b : Behind) (cs : List ℕ) → quote < 128 → CanWrite c (form_of style quote b c cs)
  form_writes b cs q =
      cond_both (is_guarded style b c cs) _ _ (CanWrite c)
      (λ e. cond_both (c == 47) _ _ (CanWrite c)
      (λ f. record { writes = omega arith })
      (λ f. record { writes = code }))
      (λ e. cond_both (c == quote) _ _ (CanWrite c)
      (λ f. record { writes = q })
      (λ f. cond_both (c == 0) _ _ (CanWrite c)
      (λ g. cond_both (is_below_es5 style || begins is_decimal cs) _ _ (CanWrite c)
      (λ h. record { writes = code })
      (λ h. record { writes = code }))
      (λ g. lone_writes)))

pub can_write : (style : Style) (quote c : ℕ) (b : Behind) (cs : List ℕ) (f : Form) → c < 0x110000 → quote < 128 → f ≡ form_of style quote b c cs → Writes f c
can_write style quote c b cs f h q e = subst (λ g. Writes g c) (sym e) (form_writes style quote c h b cs q).writes

pub quote_low : (quote : ℕ) → is_quote quote ≡ true → quote < 128
quote_low quote h = grind (arith, nat_tests)

-- ---- how often a character of ASCII comes, by units

onto_counted : (x u : ℕ) (cs : List ℕ) → x < 128 → filter (λ d. d == x) (onto u cs) ≡ filter (λ d. d == x) (u ∷ cs)
onto_counted x u [] l = refl
onto_counted x u (c ∷ cs) l = ⊎_elim
    (λ (e : (is_high u && is_low c) ≡ true).
    let parts = and_parts (is_high u) (is_low c) e in
    let a : (u == x) ≡ false = let h = parts.0 in grind (arith, nat_tests) in
    let b : (c == x) ≡ false = let h = parts.1 in grind (arith, nat_tests) in
    let d : (of_pair u c == x) ≡ false = ne_eqb (of_pair u c) x (λ same. absurd (omega arith)) in
    ap (λ b. filter (λ d. d == x) (cond b (of_pair u c ∷ cs) (u ∷ c ∷ cs))) e
    ∙ ap (λ t. cond t (of_pair u c ∷ filter (λ d. d == x) cs) (filter (λ d. d == x) cs)) d
    ∙ sym (ap (λ t. cond t (u ∷ filter (λ d. d == x) (c ∷ cs)) (filter (λ d. d == x) (c ∷ cs))) a
    ∙ ap (λ t. cond t (c ∷ filter (λ d. d == x) cs) (filter (λ d. d == x) cs)) b))
    (λ (e : (is_high u && is_low c) ≡ false).
    ap (λ b. filter (λ d. d == x) (cond b (of_pair u c ∷ cs) (u ∷ c ∷ cs))) e)
    (cases_Bool (is_high u && is_low c))

counted : (x : ℕ) (us : List ℕ) → x < 128 → filter (λ d. d == x) (code_points us) ≡ filter (λ d. d == x) us
counted x [] l = refl
counted x (u ∷ us) l =
    onto_counted x u (code_points us) l
    ∙ filter-append (λ d. d == x) (u ∷ []) (code_points us)
    ∙ ap (λ (y : List ℕ). filter (λ d. d == x) (u ∷ []) ++ y) (counted x us l)
    ∙ sym (filter-append (λ d. d == x) (u ∷ []) us)

pub counts : (x : ℕ) (us : List ℕ) → x < 128 → length (filter (λ d. d == x) us) ≡ count x (code_points us)
counts x us l = ap length (sym (counted x us l))

-- ---- the code point at the front

lone_onto : (u : ℕ) (cs : List ℕ) → is_high u ≡ false → onto u cs ≡ u ∷ cs
lone_onto u [] e = refl
lone_onto u (c ∷ cs) e = ap (λ b. cond (b && is_low c) (of_pair u c ∷ cs) (u ∷ c ∷ cs)) e

onto_other : (u : ℕ) (cs : List ℕ) → begins is_low cs ≡ false → onto u cs ≡ u ∷ cs
onto_other u [] e = refl
onto_other u (c ∷ cs) e = ap (λ b. cond b (of_pair u c ∷ cs) (u ∷ c ∷ cs)) (and_right (is_high u) (is_low c) e)

first_low : (v : ℕ) (cs : List ℕ) → is_low v ≡ false → begins is_low (onto v cs) ≡ false
first_low v [] e = e
first_low v (c ∷ cs) e = ⊎_elim
    (λ (p : (is_high v && is_low c) ≡ true).
    let far : is_low (of_pair v c) ≡ false = le_high (of_pair v c) (omega arith) in
    ap (λ b. begins is_low (cond b (of_pair v c ∷ cs) (v ∷ c ∷ cs))) p ∙ far)
    (λ (p : (is_high v && is_low c) ≡ false). ap (λ b. begins is_low (cond b (of_pair v c ∷ cs) (v ∷ c ∷ cs))) p ∙ e)
    (cases_Bool (is_high v && is_low c))
  where
    le_high : (n : ℕ) → 65536 ≤ n → is_low n ≡ false
    le_high n l = grind (arith, nat_tests)

low_not_high : (v : ℕ) → is_low v ≡ true → is_high v ≡ false
low_not_high v e = grind (arith, nat_tests)

-- a pair at the front, and a unit that is in none
pub pair_front : (us rest behind : List ℕ) (u v : ℕ) → us ≡ u ∷ rest → rest ≡ v ∷ behind → is_high u ≡ true → is_low v ≡ true
    → code_points us ≡ of_pair u v ∷ code_points behind
pair_front us rest behind u v e f h l =
    ap code_points (e ∙ ap (λ (x : List ℕ). u ∷ x) f)
    ∙ ap (onto u) (lone_onto v (code_points behind) (low_not_high v l))
    ∙ ap (λ b. cond (b && is_low v) (of_pair u v ∷ code_points behind) (u ∷ v ∷ code_points behind)) h
    ∙ ap (λ b. cond b (of_pair u v ∷ code_points behind) (u ∷ v ∷ code_points behind)) l

pub lone_front : (us rest : List ℕ) (u : ℕ) → us ≡ u ∷ rest → (is_high u && begins is_low rest) ≡ false → code_points us ≡ u ∷ code_points rest
lone_front us rest u e h = ap code_points e ∙ by_cases (and_cases (is_high u) (begins is_low rest) h)
  where
    by_rest : (xs : List ℕ) → begins is_low xs ≡ false → onto u (code_points xs) ≡ u ∷ code_points xs
    by_rest [] i = refl
    by_rest (v ∷ vs) i = onto_other u (onto v (code_points vs)) (first_low v (code_points vs) i)

    by_cases : (is_high u ≡ false) ⊎ (begins is_low rest ≡ false) → onto u (code_points rest) ≡ u ∷ code_points rest
    by_cases x = ⊎_elim (λ (i : is_high u ≡ false). lone_onto u (code_points rest) i) (λ (i : begins is_low rest ≡ false). by_rest rest i) x

-- ---- as the code meets it

pub push_bytes : (style : Style) (quote : ℕ) (b : Behind) (c : ℕ) (cs points m old new made : List ℕ) (f : Form) (d : Behind) → points ≡ c ∷ cs
    → f ≡ form_of style quote b c cs → made ≡ encode_utf8_all (written f c []) → new ≡ old ++ made → d ≡ behind style b c
    → old ++ encode_utf8_all (chars_text style quote b points m) ≡ new ++ encode_utf8_all (chars_text style quote d cs m)
push_bytes style quote b c cs points m old new made f d e g h i j =
    ap (λ l. old ++ encode_utf8_all (chars_text style quote b l m)) e
    ∙ ap (λ (l : List ℕ). old ++ l) (char_bytes style quote b c cs m made f g h)
    ∙ sym (append_assoc old made (encode_utf8_all (chars_text style quote (behind style b c) cs m)))
    ∙ ap (λ (l : List ℕ). l ++ encode_utf8_all (chars_text style quote (behind style b c) cs m)) (sym i)
    ∙ ap (λ x. new ++ encode_utf8_all (chars_text style quote x cs m)) (sym j)

-- ---- the quote

pub quote_more : (a b : ℕ) (cs : List ℕ) → a ≡ count 39 cs → b ≡ count 34 cs → a < b → 39 ≡ quote_of cs
quote_more a b cs e f h = sym (cond-true (nat_lt (count 39 cs) (count 34 cs)) 39 34 (lt-ltb (count 39 cs) (count 34 cs) (omega arith)))

pub quote_less : (a b : ℕ) (cs : List ℕ) → a ≡ count 39 cs → b ≡ count 34 cs → b ≤ a → 34 ≡ quote_of cs
quote_less a b cs e f h = sym (cond-false (nat_lt (count 39 cs) (count 34 cs)) 39 34 (le-ltb (count 39 cs) (count 34 cs) (omega arith)))

counts_none : (x : ℕ) (us : List ℕ) → list_any (λ c. c == x) us ≡ false → length (filter (λ c. c == x) us) ≡ 0
counts_none x [] h = refl
counts_none x (u ∷ us) h = ⊎_elim
    (λ (e : (u == x) ≡ true). absurd (false≢true (sym h ∙ ap (λ b. b || list_any (λ c. c == x) us) e)))
    (λ (e : (u == x) ≡ false).
    ap (λ b. length (cond b (u ∷ filter (λ c. c == x) us) (filter (λ c. c == x) us))) e
    ∙ counts_none x us (sym (ap (λ b. b || list_any (λ c. c == x) us) e) ∙ h))
    (cases_Bool (u == x))

-- where no quotation mark comes
pub quote_none : (us : List ℕ) → list_any (λ c. c == 34) us ≡ false → 34 ≡ quote_of (code_points us)
quote_none us h =
    quote_less (length (filter (λ c. c == 39) us)) (length (filter (λ c. c == 34) us)) (code_points us) (counts 39 us (omega arith))
    (counts 34 us (omega arith)) (let e = counts_none 34 us h in omega arith)

-- ---- a unit that stands for itself

module _ (style : Style) (c : ℕ) (p : is_plain_unit style c ≡ true) where
  plain_low : 32 ≤ c
  plain_low = grind (arith, nat_tests)

  plain_high : c ≤ 126
  plain_high = grind (arith, nat_tests)

  no_backslash : (c == 92) ≡ false
  no_backslash = grind (arith, nat_tests)

  no_quotes : (c == 34 || c == 39) ≡ false
  no_quotes = grind (arith, nat_tests)

  no_markup : style.inline_script ≡ true → is_markup c ≡ false
  no_markup e = grind (arith, nat_tests)

  unguarded : (b : Behind) (cs : List ℕ) → is_guarded style b c cs ≡ false
  unguarded b cs = ⊎_elim
      (λ (e : style.inline_script ≡ true).
      let m = no_markup e in
      let less : (c == 60) ≡ false = grind (arith, nat_tests) in
      let more : (c == 62) ≡ false = grind (arith, nat_tests) in
      let slash : (c == 47) ≡ false = grind (arith, nat_tests) in
      ap (λ t. t && ((c == 60 && opens_comment cs) || ((c == 62 && is_dashes b) || (c == 47 && (is_less b && closes_script cs))))) e
      ∙ ap (λ t. (t && opens_comment cs) || ((c == 62 && is_dashes b) || (c == 47 && (is_less b && closes_script cs)))) less
      ∙ ap (λ t. (t && is_dashes b) || (c == 47 && (is_less b && closes_script cs))) more
      ∙ ap (λ t. t && (is_less b && closes_script cs)) slash)
      (λ (e : style.inline_script ≡ false).
      ap (λ t. t && ((c == 60 && opens_comment cs) || ((c == 62 && is_dashes b) || (c == 47 && (is_less b && closes_script cs))))) e)
      (cases_Bool style.inline_script)

  plain_behind : (b : Behind) → behind style b c ≡ Other
  plain_behind b = ⊎_elim
      (λ (e : style.inline_script ≡ true).
      let m = no_markup e in
      let less : (c == 60) ≡ false = grind (arith, nat_tests) in
      let dash : (c == 45) ≡ false = grind (arith, nat_tests) in
      cond-true style.inline_script (if c == 60 then Less else (if c == 45 then (if is_dash b then Dashes else Dash) else Other)) Other e
      ∙ cond-false (c == 60) Less (if c == 45 then (if is_dash b then Dashes else Dash) else Other) less
      ∙ cond-false (c == 45) (if is_dash b then Dashes else Dash) Other dash)
      (λ (e : style.inline_script ≡ false).
      cond-false style.inline_script (if c == 60 then Less else (if c == 45 then (if is_dash b then Dashes else Dash) else Other)) Other e)
      (cases_Bool style.inline_script)

  plain_lone : lone_form style c ≡ Bare
  plain_lone =
      let no_letter : nat_lt 0 (letter_of c) ≡ false = grind (arith, nat_tests) in
      let no_tab : (c == 9) ≡ false = grind (arith, nat_tests) in
      let printed : nat_lt c 0x20 ≡ false = grind (arith, nat_tests) in
      let low : nat_lt c 0x7F ≡ true = grind (arith, nat_tests) in
      cond-false (nat_lt 0 (letter_of c)) (Letter (letter_of c)) _ no_letter ∙ cond-false (c == 9) Bare _ no_tab ∙ cond-false (nat_lt c 0x20) Hex _ printed
      ∙ cond-true (nat_lt c 0x7F) Bare _ low

  plain_form : (quote : ℕ) (b : Behind) (cs : List ℕ) → is_quote quote ≡ true → form_of style quote b c cs ≡ Bare
  plain_form quote b cs q =
      let other : (c == quote) ≡ false = let n = no_quotes in grind (arith, nat_tests) in
      let some : (c == 0) ≡ false = grind (arith, nat_tests) in
      cond-false (is_guarded style b c cs) _ _ (unguarded b cs) ∙ cond-false (c == quote) (Letter quote) _ other ∙ cond-false (c == 0) _ _ some ∙ plain_lone

plain_bytes : (style : Style) (quote : ℕ) (b : Behind) (u : ℕ) (units us m old new : List ℕ) → is_quote quote ≡ true → is_plain_unit style u ≡ true
    → units ≡ u ∷ us → new ≡ old ++ u ∷ []
    → old ++ encode_utf8_all (chars_text style quote b (code_points units) m) ≡ new ++ encode_utf8_all (chars_text style quote Other (code_points us) m)
plain_bytes style quote b u units us m old new q p e f =
    let low : u < 128 = let h = plain_high style u p in omega arith in
    let lone : is_high u ≡ false = let h = plain_high style u p in grind (arith, nat_tests) in
    push_bytes style quote b u (code_points us) (code_points units) m old new (u ∷ []) Bare Other
    (lone_front units us u e (ap (λ t. t && begins is_low us) lone))
    (sym (plain_form style u p quote b (code_points us) q)) (ap (λ (l : List ℕ). l ++ []) (sym (encode_ascii u low))) f (sym (plain_behind style u p b))

-- ---- a run of them

pub each_more : (q : ℕ → Bool) (xs : List ℕ) (x : ℕ) → Each q xs → q x ≡ true → Each q (xs ++ x ∷ [])
each_more q [] x h e = (e, tt)
each_more q (y ∷ ys) x h e = (h.0, each_more q ys x h.1 e)

pub run_more : (units xs us : List ℕ) (u : ℕ) → units ≡ xs ++ u ∷ us → units ≡ (xs ++ u ∷ []) ++ us
run_more units xs us u e = e ∙ sym (append_assoc xs (u ∷ []) us)

pub plain_byte : (style : Style) (u : ℕ) → is_plain_unit style u ≡ true → u < 128
plain_byte style u p = let h = plain_high style u p in omega arith

-- what follows the first
tail_is : (u : ℕ) (us : List ℕ) → take (length (u ∷ us) - 1) us ≡ us
tail_is u us = ap (λ m. take m us) (length_is us) ∙ whole us
  where
    length_is : (xs : List ℕ) → length (u ∷ xs) - 1 ≡ length xs
    length_is xs = omega arith

    whole : (xs : List ℕ) → take (length xs) xs ≡ xs
    whole [] = refl
    whole (x ∷ xs) = ap (λ (l : List ℕ). x ∷ l) (whole xs)

pub record OneMore (style : Style) (units new others : List ℕ) : Type 0 where
  pub cut : units ≡ new ++ others
  pub stand : Each (is_plain_unit style) new

-- one unit more is in the run
pub one_more : (style : Style) (w : ℕ) (units own left new : List ℕ) → 1 ≤ length left → units ≡ own ++ left → Each (is_plain_unit style) own
    → is_plain_unit style (slice_index left 0) ≡ true → (slice_index left 0 < 128 → w ≡ slice_index left 0) → new ≡ own ++ w ∷ []
    → OneMore style units new (take (length left - 1) (drop 1 left))
one_more style w units own [] new l e h p f g = absurd (omega arith)
one_more style w units own (u ∷ us) new l e h p f g =
    let same : w ≡ u = f (plain_byte style u p) in
    let is : new ≡ own ++ u ∷ [] = g ∙ ap (λ x. own ++ x ∷ []) same in record {
      cut = run_more units own us u e ∙ ap (λ (x : List ℕ). x ++ us) (sym is) ∙ ap (λ (x : List ℕ). new ++ x) (sym (tail_is u us));
      stand = subst (Each (is_plain_unit style)) (sym is) (each_more (is_plain_unit style) own u h p);
    }

pub run_some : (n : ℕ) (b : Bool) → b ≡ (n == 0) → b ≡ false → n ≡ 0 → ⊥
run_some n b e f z = grind (arith, nat_tests)

pub run_ascii : (style : Style) (xs : List ℕ) → Each (is_plain_unit style) xs → IsAscii xs
run_ascii style [] h = IsAscii-nil
run_ascii style (x ∷ xs) h = IsAscii-cons x xs (plain_byte style x h.0) (run_ascii style xs h.1)

run_on : (style : Style) (quote : ℕ) (b : Behind) (u : ℕ) (own us m old : List ℕ) → is_quote quote ≡ true → Each (is_plain_unit style) (u ∷ own)
    → old ++ encode_utf8_all (chars_text style quote b (code_points ((u ∷ own) ++ us)) m)
    ≡ (old ++ u ∷ own) ++ encode_utf8_all (chars_text style quote Other (code_points us) m)
run_on style quote b u [] us m old q h = plain_bytes style quote b u (u ∷ us) us m old (old ++ u ∷ []) q h.0 refl refl
run_on style quote b u (v ∷ own) us m old q h =
    plain_bytes style quote b u (u ∷ ((v ∷ own) ++ us)) ((v ∷ own) ++ us) m old (old ++ u ∷ []) q h.0 refl refl
    ∙ run_on style quote Other v own us m (old ++ u ∷ []) q h.1
    ∙ ap (λ (l : List ℕ). l ++ encode_utf8_all (chars_text style quote Other (code_points us) m)) (append_assoc old (u ∷ []) (v ∷ own))

pub run_bytes : (style : Style) (quote : ℕ) (b : Behind) (units own us m old new : List ℕ) → is_quote quote ≡ true → Each (is_plain_unit style) own
    → (length own ≡ 0 → ⊥) → units ≡ own ++ us → new ≡ old ++ own
    → old ++ encode_utf8_all (chars_text style quote b (code_points units) m) ≡ new ++ encode_utf8_all (chars_text style quote Other (code_points us) m)
run_bytes style quote b units [] us m old new q h some e f = absurd (some refl)
run_bytes style quote b units (u ∷ own) us m old new q h some e f =
    ap (λ l. old ++ encode_utf8_all (chars_text style quote b (code_points l) m)) e
    ∙ run_on style quote b u own us m old q h
    ∙ ap (λ (l : List ℕ). l ++ encode_utf8_all (chars_text style quote Other (code_points us) m)) (sym f)

-- ---- the end

pub closed_bytes : (style : Style) (quote : ℕ) (b : Behind) (units m mid text new : List ℕ) → length units ≡ 0 → text ≡ encode_utf8_all m
    → new ≡ mid ++ text → mid ++ encode_utf8_all (chars_text style quote b (code_points units) m) ≡ new
closed_bytes style quote b [] m mid text new e f g = ap (λ (l : List ℕ). mid ++ l) (sym f) ∙ sym g
closed_bytes style quote b (u ∷ units) m mid text new e f g = absurd (omega arith)
