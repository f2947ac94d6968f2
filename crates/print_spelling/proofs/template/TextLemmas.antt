-- What is written of a piece of a template, part by part.
use Rattle.std.proofs.Common.{◌≡◌, ℕ, zero, ◌<◌, ◌≤◌, Bool, true, false, List, [], ◌∷◌, ◌++◌, length, refl, sym, ap, subst, ◌∙◌, arith, IsUtf8}
use Rattle.std.specs.Prelude.{◌≢◌, nat_lt, ◌&&◌, ◌||◌, ◌==◌, encode_utf8_all}
use Rattle.std.specs.Char.{IsScalar}
use Rattle.std.specs.List.{prefix_len}
use Rattle.std.proofs.lemmas.Bool.{false≢true, and_parts, cond_both}
use Rattle.std.proofs.lemmas.Bool.Decides.{nat_tests}
use Rattle.std.proofs.lemmas.Str.{encodes-append}
use Rattle.lex_pieces.specs.Runs.{Each, run, after}
use Rattle.lex_literal.specs.Escapes.{is_decimal}
use Rattle.lex_literal.specs.Templates.{line_feeds}
use Rattle.lex_literal.proofs.RunLemmas.{Flat, Cut, cut_run, run_each, run_after}
use Rattle.print_spelling.specs.declared.form.Form.{Form}
use Rattle.print_spelling.specs.declared.form.Form.TheVariants as f
use Rattle.print_spelling.specs.declared.style.Style.{Style}
use Rattle.print_spelling.specs.Forms.{written, Writes}
use Rattle.print_spelling.proofs.AsciiLemmas.{bytes_some, written_some}
use Rattle.print_spelling.specs.declared.template.part.Part.{Part}
use Rattle.print_spelling.specs.declared.template.part.Part.TheVariants as p
use Rattle.print_spelling.specs.Template.Left.{past_nothing, is_plain_byte, is_kept_byte, left_bytes}
use Rattle.print_spelling.specs.Template.Templates.{is_separator, form_of, part_text, digit_first, dollar_behind, parts, parts_text}
use Rattle.print_spelling.proofs.template.LineLemmas.{is_other, fed_run, fed_other}
use Rattle.print_spelling.proofs.template.ReadLemmas.{part_text_more}
use Rattle.print_spelling.proofs.template.SplitLemmas.{bare_parts}
use Rattle.print_spelling.proofs.string.QuotedLemmas.{scalar_code}

-- ---- runs

kept_high : (b : ℕ) → 128 ≤ b → is_kept_byte b ≡ true
kept_high b h = grind (arith, nat_tests)

plain_high : (b : ℕ) → 128 ≤ b → is_plain_byte b ≡ false
plain_high b h = grind (arith, nat_tests)

kept_flat : Flat is_kept_byte
kept_flat = record { same = λ b h. kept_high b h ∙ sym (kept_high 128 (omega arith)) }

plain_flat : Flat is_plain_byte
plain_flat = record { same = λ b h. plain_high b h ∙ sym (plain_high 128 (omega arith)) }

cut : (q : ℕ → Bool) → Flat q → (text bytes : List ℕ) (n : ℕ) → IsUtf8 text → bytes ≡ text → n ≡ prefix_len q bytes → Cut q text n
cut q flat text bytes n u same e = subst (Cut q text) (sym (e ∙ ap (prefix_len q) same)) (cut_run q flat text u)

pub kept_cut : (text bytes : List ℕ) (n : ℕ) → IsUtf8 text → bytes ≡ text → n ≡ prefix_len is_kept_byte bytes → Cut is_kept_byte text n
kept_cut = cut is_kept_byte kept_flat

pub plain_cut : (text bytes : List ℕ) (n : ℕ) → IsUtf8 text → bytes ≡ text → n ≡ prefix_len is_plain_byte bytes → Cut is_plain_byte text n
plain_cut = cut is_plain_byte plain_flat

-- the characters of a run, and what follows it
whole : (q : ℕ → Bool) (cs own rest : List ℕ) → own ≡ run q cs → rest ≡ after q cs → cs ≡ own ++ rest
whole q cs own rest e f = run_after q cs ∙ ap (λ (l : List ℕ). l ++ after q cs) (sym e) ∙ ap (λ (l : List ℕ). own ++ l) (sym f)

pub kept_run : (style : Style) (cs own rest bytes : List ℕ) → own ≡ run is_kept_byte cs → rest ≡ after is_kept_byte cs → encode_utf8_all own ≡ bytes
    → left_bytes style true false cs ≡ bytes ++ left_bytes style true false rest
kept_run style cs own rest bytes e f same =
    ap (λ l. encode_utf8_all (line_feeds l)) (whole is_kept_byte cs own rest e f)
    ∙ ap encode_utf8_all (fed_run own rest (subst (Each is_kept_byte) (sym e) (run_each is_kept_byte cs)))
    ∙ encodes-append own (line_feeds rest)
    ∙ ap (λ (l : List ℕ). l ++ encode_utf8_all (line_feeds rest)) same

pub kept_first : (style : Style) (c : ℕ) (cs rest made : List ℕ) → line_feeds cs ≡ c ∷ line_feeds rest → made ≡ encode_utf8_all (written f.Bare c [])
    → left_bytes style true false cs ≡ made ++ left_bytes style true false rest
kept_first style c cs rest made e same =
    ap encode_utf8_all e ∙ encodes-append (c ∷ []) (line_feeds rest) ∙ ap (λ (l : List ℕ). l ++ encode_utf8_all (line_feeds rest)) (sym same)

-- ---- nothing that is written is empty

pub part_some : (style : Style) (dollar digit : Bool) (x : Part) (made : List ℕ) → x ≢ p.Nothing → made ≡ encode_utf8_all (part_text style dollar digit x [])
    → 0 < length made
part_some style dollar digit (p.Pair d) made n e = bytes_some 92 (d ∷ []) made e
part_some style dollar digit (p.Digits a b) made n e = bytes_some 92 (120 ∷ a ∷ b ∷ []) made e
part_some style dollar digit p.Last made n e = bytes_some 92 [] made e
part_some style dollar digit p.Nothing made n e = absurd (n refl)
part_some style dollar digit (p.Hexed v) made n e = let w = written_some f.Hex v in let l = ap length e in omega arith
part_some style dollar digit (p.Code c) made n e = let w = written_some (form_of style dollar digit c) c in let l = ap length e in omega arith

-- ---- parts that write nothing

digit_past : (ps : List Part) → digit_first (past_nothing ps) ≡ digit_first ps
digit_past [] = refl
digit_past (p.Pair d ∷ ps) = refl
digit_past (p.Digits a b ∷ ps) = refl
digit_past (p.Last ∷ ps) = refl
digit_past (p.Nothing ∷ ps) = digit_past ps
digit_past (p.Hexed v ∷ ps) = refl
digit_past (p.Code c ∷ ps) = refl

pub digit_code : (ps qs : List Part) (x : Part) (c : ℕ) (b : Bool) → past_nothing ps ≡ x ∷ qs → x ≡ p.Code c → b ≡ is_decimal c → b ≡ digit_first ps
digit_code ps qs x c b e is same =
    same ∙ sym (ap (λ y. digit_first (y ∷ qs)) is) ∙ sym (ap digit_first e) ∙ digit_past ps

other : (x : Part) (qs : List Part) → x ≢ p.Nothing → ((c : ℕ) → x ≡ p.Code c → ⊥) → digit_first (x ∷ qs) ≡ false
other (p.Pair d) qs n o = refl
other (p.Digits a b) qs n o = refl
other p.Last qs n o = refl
other p.Nothing qs n o = absurd (n refl)
other (p.Hexed v) qs n o = refl
other (p.Code c) qs n o = absurd (o c refl)

pub digit_other : (ps qs : List Part) (x : Part) → past_nothing ps ≡ x ∷ qs → x ≢ p.Nothing → ((c : ℕ) → x ≡ p.Code c → ⊥) → false ≡ digit_first ps
digit_other ps qs x e n o = sym (other x qs n o) ∙ sym (ap digit_first e) ∙ digit_past ps

pub digit_none : (ps : List Part) → past_nothing ps ≡ [] → false ≡ digit_first ps
digit_none ps e = sym (ap digit_first e) ∙ digit_past ps

text_past : (style : Style) (dollar : Bool) (ps : List Part) (m : List ℕ) → parts_text style dollar (past_nothing ps) m ≡ parts_text style dollar ps m
text_past style dollar [] m = refl
text_past style dollar (p.Pair d ∷ ps) m = refl
text_past style dollar (p.Digits a b ∷ ps) m = refl
text_past style dollar (p.Last ∷ ps) m = refl
text_past style dollar (p.Nothing ∷ ps) m = text_past style dollar ps m
text_past style dollar (p.Hexed v ∷ ps) m = refl
text_past style dollar (p.Code c ∷ ps) m = refl

pub none_left : (style : Style) (dollar : Bool) (ps : List Part) → past_nothing ps ≡ [] → encode_utf8_all (parts_text style dollar ps []) ≡ []
none_left style dollar ps e = ap encode_utf8_all (sym (text_past style dollar ps []) ∙ ap (λ l. parts_text style dollar l []) e)

pub part_bytes : (style : Style) (dollar d : Bool) (ps qs : List Part) (x : Part) (made : List ℕ) → past_nothing ps ≡ x ∷ qs
    → made ≡ encode_utf8_all (part_text style dollar (digit_first qs) x []) → d ≡ dollar_behind dollar x
    → encode_utf8_all (parts_text style dollar ps []) ≡ made ++ encode_utf8_all (parts_text style d qs [])
part_bytes style dollar d ps qs x made e same behind =
    ap encode_utf8_all (sym (text_past style dollar ps []) ∙ ap (λ l. parts_text style dollar l []) e
    ∙ part_text_more style dollar (digit_first qs) x [] (parts_text style (dollar_behind dollar x) qs []))
    ∙ encodes-append (part_text style dollar (digit_first qs) x []) (parts_text style (dollar_behind dollar x) qs [])
    ∙ ap (λ (l : List ℕ). l ++ encode_utf8_all (parts_text style (dollar_behind dollar x) qs [])) (sym same)
    ∙ ap (λ b. made ++ encode_utf8_all (parts_text style b qs [])) (sym behind)

-- ---- plain characters

record IsPlain (g : Form) : Type 0 where
  is : g ≡ f.Bare

plain_backslash : (c : ℕ) → is_plain_byte c ≡ true → (c == 92) ≡ false
plain_backslash c h = grind (arith, nat_tests)

plain_dollar : (c : ℕ) → is_plain_byte c ≡ true → (c == 36) ≡ false
plain_dollar c h = grind (arith, nat_tests)

plain_other : (c : ℕ) → is_plain_byte c ≡ true → is_other c ≡ true
plain_other c h = grind (arith, nat_tests)

module _ (c : ℕ) (h : is_plain_byte c ≡ true) where
  plain_zero : (c == 0) ≡ false
  plain_zero = grind (arith, nat_tests)

  plain_eight : (c == 8) ≡ false
  plain_eight = grind (arith, nat_tests)

  plain_tab : (c == 11) ≡ false
  plain_tab = grind (arith, nat_tests)

  plain_feed : (c == 12) ≡ false
  plain_feed = grind (arith, nat_tests)

  plain_brace : (c == 123) ≡ false
  plain_brace = grind (arith, nat_tests)

  plain_low : nat_lt c 0x7F ≡ true
  plain_low = grind (arith, nat_tests)

  plain_form : (style : Style) (dollar digit : Bool) → IsPlain (form_of style dollar digit c)
  plain_form style dollar digit =
      cond_both (c == 0) _ _ IsPlain
      (λ e. absurd (false≢true (sym plain_zero ∙ e)))
      (λ _. cond_both (c == 8) _ _ IsPlain
      (λ e. absurd (false≢true (sym plain_eight ∙ e)))
      (λ _. cond_both (c == 11) _ _ IsPlain
      (λ e. absurd (false≢true (sym plain_tab ∙ e)))
      (λ _. cond_both (c == 12) _ _ IsPlain
      (λ e. absurd (false≢true (sym plain_feed ∙ e)))
      (λ _. cond_both (c == 123 && dollar) _ _ IsPlain
      (λ e. absurd (false≢true (sym plain_brace ∙ (and_parts (c == 123) dollar e).0)))
      (λ _. cond_both (nat_lt c 0x7F) _ _ IsPlain
      (λ e. record { is = refl })
      (λ e. absurd (false≢true (sym e ∙ plain_low))))))))

plain_text : (style : Style) (dollar : Bool) (c : ℕ) (own cs m : List ℕ) → Each is_plain_byte (c ∷ own)
    → parts_text style dollar (parts zero (line_feeds ((c ∷ own) ++ cs))) m ≡ (c ∷ own) ++ parts_text style false (parts zero (line_feeds cs)) m
plain_text style dollar c own cs m h =
    ap (λ l. parts_text style dollar (parts zero l) m) (fed_other c (own ++ cs) (plain_other c h.0))
    ∙ ap (λ ps. parts_text style dollar ps m) (bare_parts c (line_feeds (own ++ cs)) (plain_backslash c h.0))
    ∙ ap (λ g. written g c (parts_text style (c == 36) (parts zero (line_feeds (own ++ cs))) m))
    (plain_form c h.0 style dollar (digit_first (parts zero (line_feeds (own ++ cs))))).is
    ∙ ap (λ b. c ∷ parts_text style b (parts zero (line_feeds (own ++ cs))) m) (plain_dollar c h.0)
    ∙ ap (λ (l : List ℕ). c ∷ l) (others own h.1)
  where
    others : (ds : List ℕ) → Each is_plain_byte ds → parts_text style false (parts zero (line_feeds (ds ++ cs))) m ≡ ds ++ parts_text style false (parts zero (line_feeds cs)) m
    others [] k = refl
    others (d ∷ ds) k =
        ap (λ l. parts_text style false (parts zero l) m) (fed_other d (ds ++ cs) (plain_other d k.0))
        ∙ ap (λ ps. parts_text style false ps m) (bare_parts d (line_feeds (ds ++ cs)) (plain_backslash d k.0))
        ∙ ap (λ g. written g d (parts_text style (d == 36) (parts zero (line_feeds (ds ++ cs))) m))
        (plain_form d k.0 style false (digit_first (parts zero (line_feeds (ds ++ cs))))).is
        ∙ ap (λ b. d ∷ parts_text style b (parts zero (line_feeds (ds ++ cs))) m) (plain_dollar d k.0)
        ∙ ap (λ (l : List ℕ). d ∷ l) (others ds k.1)

pub plain_run : (style : Style) (dollar : Bool) (cs own rest bytes : List ℕ) → own ≡ run is_plain_byte cs → rest ≡ after is_plain_byte cs
    → encode_utf8_all own ≡ bytes → 0 < length bytes → left_bytes style false dollar cs ≡ bytes ++ left_bytes style false false rest
plain_run style dollar cs [] rest bytes e f same some = absurd (let l = ap length same in omega arith)
plain_run style dollar cs (c ∷ own) rest bytes e f same some =
    ap (λ l. encode_utf8_all (parts_text style dollar (parts zero (line_feeds l)) [])) (whole is_plain_byte cs (c ∷ own) rest e f)
    ∙ ap encode_utf8_all (plain_text style dollar c own rest [] (subst (Each is_plain_byte) (sym e) (run_each is_plain_byte cs)))
    ∙ encodes-append (c ∷ own) (parts_text style false (parts zero (line_feeds rest)) [])
    ∙ ap (λ (l : List ℕ). l ++ encode_utf8_all (parts_text style false (parts zero (line_feeds rest)) [])) same

-- ---- what is written of a bare character can be written

record CanWrite (c : ℕ) (g : Form) : Type 0 where
  writes : Writes g c

pub can_write : (style : Style) (dollar digit : Bool) (c : ℕ) (g : Form) → IsScalar c → g ≡ form_of style dollar digit c → Writes g c
can_write style dollar digit c g s e =
    let code = scalar_code c s in
    let bare : CanWrite c f.Bare = record { writes = s } in
    let hex : CanWrite c f.Hex = record { writes = code } in
    subst (λ x. Writes x c) (sym e)
    (cond_both (c == 0) _ _ (CanWrite c)
    (λ _. cond_both digit _ _ (CanWrite c) (λ _. hex) (λ _. record { writes = code }))
    (λ _. cond_both (c == 8) _ _ (CanWrite c)
    (λ _. record { writes = omega arith })
    (λ _. cond_both (c == 11) _ _ (CanWrite c)
    (λ _. record { writes = omega arith })
    (λ _. cond_both (c == 12) _ _ (CanWrite c)
    (λ _. record { writes = omega arith })
    (λ _. cond_both (c == 123 && dollar) _ _ (CanWrite c)
    (λ _. record { writes = omega arith })
    (λ _. cond_both (nat_lt c 0x7F) _ _ (CanWrite c)
    (λ _. bare)
    (λ _. cond_both (nat_lt c 0x100) _ _ (CanWrite c)
    (λ _. hex)
    (λ _. cond_both (is_separator c || c == 0xFEFF) _ _ (CanWrite c)
    (λ _. record { writes = code })
    (λ _. cond_both style.ascii_only _ _ (CanWrite c)
    (λ _. record { writes = code })
    (λ _. bare)))))))))).writes
