-- A piece of an untagged template is read back.
use Rattle.std.proofs.Common.{◌≡◌, ℕ, zero, ◌⊎◌, inl, inr, ⊎_elim, Bool, true, false, List, [], ◌∷◌, ◌++◌, append-nil, append_assoc, refl, sym, ap, subst, ◌∙◌, arith}
use Rattle.std.specs.Prelude.{if◌then◌else◌, nat_lt, ◌==◌, Some, None}
use Rattle.std.specs.Char.Escape.{encode_utf16}
use Rattle.std.specs.List.{flat_map, list_any}
use Rattle.std.specs.Str.Parse.{digits_value}
use Rattle.std.proofs.lemmas.Bool.{cases_Bool, ltb-true, eqb-true, false≢true, and_from}
use Rattle.std.proofs.lemmas.Bool.Decides.{nat_tests}
use Rattle.std.proofs.lemmas.List.{append_cancel_right}
use Rattle.std.proofs.lemmas.Option.{same_Some}
use Rattle.lex_pieces.specs.Characters.{is_line_terminator}
use Rattle.lex_pieces.specs.Runs.{Each}
use Rattle.lex_pieces.proofs.Passing.{each_append}
use Rattle.lex_literal.specs.declared.escape.Escape.TheVariants.{Continuation, Code, Legacy}
use Rattle.lex_literal.specs.declared.template.Ending.{Ending}
use Rattle.lex_literal.specs.declared.template.Ending.TheVariants.{BackQuote, Substitution}
use Rattle.lex_literal.specs.Escapes.{begins, is_decimal, is_line_feed, IsEscape, IsSingle, IsNul, IsHexEscape, IsUnicodeEscape, IsBraced}
use Rattle.lex_literal.specs.Templates as t
use Rattle.lex_literal.specs.Templates.{Parts, Ends, SpellsPiece, part_units, is_bad, is_bare, is_brace, line_feeds, cooked}
use Rattle.print_spelling.specs.declared.form.Form.{Form}
use Rattle.print_spelling.specs.declared.form.Form.TheVariants as f
use Rattle.print_spelling.specs.declared.style.Style.{Style}
use Rattle.print_spelling.specs.Forms.{written, braced_digits}
use Rattle.print_spelling.specs.declared.template.part.Part.{Part}
use Rattle.print_spelling.specs.declared.template.part.Part.TheVariants as p
use Rattle.print_spelling.specs.Template.Laws.{is_code_point, TemplateIsRead}
use Rattle.print_spelling.specs.Template.Templates.{hex_part, escaped, parts, form_of, part_text, digit_first, dollar_behind, parts_text, keeps_raw}
use Rattle.print_spelling.proofs.template.LineLemmas.{is_other, fed_other, fed_run, fed_return, begins_front, begins_fed}
use Rattle.print_spelling.proofs.template.SplitLemmas.{bare_parts, pair_parts, no_special_x, no_special_return, hex_other, hex_parts, is_self, self_text, each_other, hexes_self}
use Rattle.print_spelling.proofs.template.TwiceLemmas.{IsSound, AreTwice, none_twice, part_twice, selves_twice, single_sound, hex_sound}
use Rattle.print_spelling.proofs.template.PartLemmas.{IsRead, read_none, bare_read, escape_read, line_read, read_on, PartReads, code_reads, line_reads, nothing_reads, hex_reads, single_reads, no_digit, no_brace}

-- ---- what may follow: neither a digit nor a brace

pub record Follows (m : List ℕ) : Type 0 where
  pub digit : begins is_decimal m ≡ false
  pub brace : begins is_brace m ≡ false

ends_follow : (e : Ending) (m r : List ℕ) → Ends e m r → Follows m
ends_follow BackQuote m r h = record { digit = ap (begins is_decimal) h; brace = ap (begins is_brace) h }
ends_follow Substitution m r h = record { digit = ap (begins is_decimal) h; brace = ap (begins is_brace) h }

-- ---- what is written of a raw text stands for these units

pub record Spelled (style : Style) (cs us : List ℕ) : Type 0 where
  pub stands : (dollar : Bool) (m : List ℕ) → Follows m → IsRead (parts_text style dollar (parts zero cs) m) us m
  pub twice : AreTwice style (parts zero cs)

spelled_none : (style : Style) → Spelled style [] []
spelled_none style = record { stands = λ dollar m a. read_none m; twice = none_twice style }

spelled_part : (style : Style) (x : Part) (cs rest us vs : List ℕ) → parts zero cs ≡ x ∷ parts zero rest → PartReads style x us → IsSound x rest
    → Spelled style rest vs → Spelled style cs (us ++ vs)
spelled_part style x cs rest us vs e h sound i = record {
  stands = λ dollar m a.
      let ps = parts zero rest in
      let after = parts_text style (dollar_behind dollar x) (parts zero rest) m in
      subst (λ l. IsRead (parts_text style dollar l m) (us ++ vs) m) (sym e)
      (read_on (part_text style dollar (digit_first (parts zero rest)) x (parts_text style (dollar_behind dollar x) (parts zero rest) m)) us
      (parts_text style (dollar_behind dollar x) (parts zero rest) m) vs m
      (h.reads dollar (digit_first (parts zero rest)) (parts_text style (dollar_behind dollar x) (parts zero rest) m)
      (λ n. no_digit style (dollar_behind dollar x) (parts zero rest) m a.digit n)
      (λ d. subst (λ b. begins is_brace (parts_text style b (parts zero rest) m) ≡ false) (sym d) (no_brace style (parts zero rest) m a.brace)))
      (i.stands (dollar_behind dollar x) m a));
  twice = subst (AreTwice style) (sym e) (part_twice style rest i.twice x sound);
}

-- ---- a raw text before what follows it, as it stands with line ends as LF and as it is written

pub record Reads (style : Style) (text m us : List ℕ) : Type 0 where
  pub own : List ℕ
  pub whole : text ≡ own ++ m
  pub kept : (a : List ℕ) → Follows a → IsRead (line_feeds own ++ a) us a
  pub spelled : Each is_code_point own → Spelled style (line_feeds own) us

reads_none : (style : Style) (text m : List ℕ) → text ≡ m → Reads style text m []
reads_none style text m e = record { own = []; whole = e; kept = λ a h. read_none a; spelled = λ h. spelled_none style }

-- what follows a part, in place of what followed it
record Instead (mid a : List ℕ) : Type 0 where
  digit : begins is_decimal mid ≡ false → begins is_decimal a ≡ false
  brace : begins is_brace mid ≡ false → begins is_brace a ≡ false

each_left : (q : ℕ → Bool) (xs ys : List ℕ) → Each q (xs ++ ys) → Each q xs
each_left q [] ys h = tt
each_left q (x ∷ xs) ys h = (h.0, each_left q xs ys h.1)

each_right : (q : ℕ → Bool) (xs ys : List ℕ) → Each q (xs ++ ys) → Each q ys
each_right q [] ys h = h
each_right q (x ∷ xs) ys h = each_right q xs ys h.1

-- one part more: its own text zs, which is xs with line ends as LF
step : (style : Style) (text mid m us vs zs xs : List ℕ) → text ≡ zs ++ mid → Reads style mid m vs
    → ((cs : List ℕ) → mid ≡ cs ++ m → line_feeds (zs ++ cs) ≡ xs ++ line_feeds cs)
    → ((a : List ℕ) → Instead mid a → IsRead (xs ++ a) us a)
    → (Each is_code_point zs → (rest ws : List ℕ) → Spelled style rest ws → Spelled style (xs ++ rest) (us ++ ws))
    → Reads style text m (us ++ vs)
step style text mid m us vs zs xs e i fed kept spelled = record {
  own = zs ++ i.own;
  whole = e ∙ ap (λ (l : List ℕ). zs ++ l) i.whole ∙ sym (append_assoc zs i.own m);
  kept = λ a h.
      subst (λ (l : List ℕ). IsRead l (us ++ vs) a)
      (sym (ap (λ (l : List ℕ). l ++ a) (fed i.own i.whole) ∙ append_assoc xs (line_feeds i.own) a))
      (read_on (xs ++ (line_feeds i.own ++ a)) us (line_feeds i.own ++ a) vs a
      (kept (line_feeds i.own ++ a) (record {
        digit = λ d. begins_fed is_decimal refl i.own m a h.digit (sym (ap (begins is_decimal) i.whole) ∙ d);
        brace = λ d. begins_fed is_brace refl i.own m a h.brace (sym (ap (begins is_brace) i.whole) ∙ d);
      }))
      (i.kept a h));
  spelled = λ h.
      subst (λ (l : List ℕ). Spelled style l (us ++ vs)) (sym (fed i.own i.whole))
      (spelled (each_left is_code_point zs i.own h) (line_feeds i.own) vs (i.spelled (each_right is_code_point zs i.own h)));
}

-- ---- bare characters and line breaks

bare_no_backslash : (c : ℕ) → is_bare c ≡ true → (c == 92) ≡ false
bare_no_backslash c b = grind (arith, nat_tests)

bare_no_return : (c : ℕ) → is_bare c ≡ true → is_other c ≡ true
bare_no_return c b = grind (arith, nat_tests)

bare_spelled : (style : Style) (c : ℕ) (rest ws : List ℕ) → is_bare c ≡ true → is_code_point c ≡ true → Spelled style rest ws
    → Spelled style (c ∷ rest) (encode_utf16 c ++ ws)
bare_spelled style c rest ws b k s =
    spelled_part style (p.Code c) (c ∷ rest) rest (encode_utf16 c) ws (bare_parts c rest (bare_no_backslash c b))
    (code_reads style c (and_from (nat_lt c 0x110000) (is_bare c) k b)) (and_from (nat_lt c 0x110000) (is_bare c) k b) s

bare_step : (style : Style) (text mid m vs : List ℕ) (c : ℕ) → t.Stands (t.Bare c) text mid → Reads style mid m vs → Reads style text m (encode_utf16 c ++ vs)
bare_step style text mid m vs c h i =
    step style text mid m (encode_utf16 c) vs (c ∷ []) (c ∷ []) h.0 i
    (λ cs e. fed_other c cs (bare_no_return c h.1))
    (λ a n. bare_read c a h.1 (λ d. n.brace (h.2 d)))
    (λ k rest ws s. bare_spelled style c rest ws h.1 k.0 s)

break_step : (style : Style) (text mid m vs : List ℕ) → t.Stands t.Break text mid → Reads style mid m vs → Reads style text m (10 ∷ vs)
break_step style text mid m vs h i = ⊎_elim
    (λ (e : text ≡ 13 ∷ 10 ∷ mid).
    step style text mid m (10 ∷ []) vs (13 ∷ 10 ∷ []) (10 ∷ []) e i (λ cs w. refl)
    (λ a n. bare_read 10 a refl (λ d. absurd (ten d)))
    (λ k rest ws s. bare_spelled style 10 rest ws refl refl s))
    (λ (e : (text ≡ 13 ∷ mid) × (begins is_line_feed mid ≡ false)).
    step style text mid m (10 ∷ []) vs (13 ∷ []) (10 ∷ []) e.0 i
    (λ cs w. fed_return cs (begins_front is_line_feed cs m (sym (ap (begins is_line_feed) w) ∙ e.1)))
    (λ a n. bare_read 10 a refl (λ d. absurd (ten d)))
    (λ k rest ws s. bare_spelled style 10 rest ws refl refl s))
    h
  where
    ten : ◌≡◌ {A = ℕ} 10 36 → ⊥
    ten d = cc

-- ---- a backslash before the end of a line

line_char : (c : ℕ) → is_line_terminator c ≡ true → (P : ℕ → Type 0) → P 10 → P 13 → P 0x2028 → P 0x2029 → P c
line_char c h P a b d e = ⊎_elim
    (λ (x : (c == 10) ≡ true). subst P (sym (eqb-true c 10 x)) a)
    (λ (x : (c == 10) ≡ false). ⊎_elim
    (λ (y : (c == 13) ≡ true). subst P (sym (eqb-true c 13 y)) b)
    (λ (y : (c == 13) ≡ false). ⊎_elim
    (λ (z : (c == 0x2028) ≡ true). subst P (sym (eqb-true c 0x2028 z)) d)
    (λ (z : (c == 0x2028) ≡ false). ⊎_elim
    (λ (w : (c == 0x2029) ≡ true). subst P (sym (eqb-true c 0x2029 w)) e)
    (λ (w : (c == 0x2029) ≡ false). absurd (none h x y z w))
    (cases_Bool (c == 0x2029)))
    (cases_Bool (c == 0x2028)))
    (cases_Bool (c == 13)))
    (cases_Bool (c == 10))
  where
    none : is_line_terminator c ≡ true → (c == 10) ≡ false → (c == 13) ≡ false → (c == 0x2028) ≡ false → (c == 0x2029) ≡ false → ⊥
    none h x y z w = grind (arith, nat_tests)

line_spelled : (style : Style) (rest ws : List ℕ) → Spelled style rest ws → Spelled style (92 ∷ 10 ∷ rest) ws
line_spelled style rest ws s = spelled_part style (p.Pair 10) (92 ∷ 10 ∷ rest) rest [] ws refl (line_reads style) (refl, refl, λ cs h. refl) s

record LineStep (style : Style) (text mid m vs : List ℕ) (c : ℕ) : Type 0 where
  goes : text ≡ 92 ∷ c ∷ mid → (c ≡ 13 → begins is_line_feed mid ≡ false) → Reads style mid m vs → Reads style text m vs

line_step : (style : Style) (text mid m vs : List ℕ) → t.Stands (t.Escaped Continuation) text mid → Reads style mid m vs → Reads style text m vs
line_step style text mid m vs h i = ⊎_elim
    (λ (e : h.0 ≡ 13 ∷ 10 ∷ mid).
    step style text mid m [] vs (92 ∷ 13 ∷ 10 ∷ []) (92 ∷ 10 ∷ []) (h.1 ∙ ap (λ (l : List ℕ). 92 ∷ l) e) i (λ cs w. refl) lf
    (λ k rest ws s. line_spelled style rest ws s))
    (λ (e : (c : ℕ) × (h.0 ≡ c ∷ mid) × (is_line_terminator c ≡ true) × (c ≡ 13 → begins is_line_feed mid ≡ false)).
    (line_char e.0 e.2 (LineStep style text mid m vs)
    (record {
      goes = λ same ret j. step style text mid m [] vs (92 ∷ 10 ∷ []) (92 ∷ 10 ∷ []) same j (λ cs w. refl) lf (λ k rest ws s. line_spelled style rest ws s);
    })
    (record {
      goes = λ same ret j. step style text mid m [] vs (92 ∷ 13 ∷ []) (92 ∷ 10 ∷ []) same j
          (λ cs w. ap (λ (l : List ℕ). 92 ∷ l) (fed_return cs (begins_front is_line_feed cs m (sym (ap (begins is_line_feed) w) ∙ ret refl))))
          lf
          (λ k rest ws s. line_spelled style rest ws s);
    })
    (record {
      goes = λ same ret j. step style text mid m [] vs (92 ∷ 0x2028 ∷ []) (92 ∷ 0x2028 ∷ []) same j (λ cs w. refl)
          (λ a n. line_read (0x2028 ∷ a) a (inr (0x2028, refl, refl, λ x. cc)))
          (λ k rest ws s. spelled_part style p.Nothing (92 ∷ 0x2028 ∷ rest) rest [] ws refl (nothing_reads style) tt s);
    })
    (record {
      goes = λ same ret j. step style text mid m [] vs (92 ∷ 0x2029 ∷ []) (92 ∷ 0x2029 ∷ []) same j (λ cs w. refl)
          (λ a n. line_read (0x2029 ∷ a) a (inr (0x2029, refl, refl, λ x. cc)))
          (λ k rest ws s. spelled_part style p.Nothing (92 ∷ 0x2029 ∷ rest) rest [] ws refl (nothing_reads style) tt s);
    })).goes (h.1 ∙ ap (λ (l : List ℕ). 92 ∷ l) e.1) e.3 i)
    h.2
  where
    lf : (a : List ℕ) → Instead mid a → IsRead (92 ∷ 10 ∷ a) [] a
    lf a n = line_read (10 ∷ a) a (inr (10, refl, refl, λ x. cc))

-- ---- escapes of one character

module _ (style : Style) (text mid m vs : List ℕ) (n : ℕ) (i : Reads style mid m vs) where
  single_step : (inner : List ℕ) → text ≡ 92 ∷ inner → IsSingle n inner mid → Reads style text m (encode_utf16 n ++ vs)
  single_step inner e h =
      step style text mid m (encode_utf16 n) vs (92 ∷ h.0 ∷ []) (92 ∷ h.0 ∷ []) (e ∙ ap (λ (l : List ℕ). 92 ∷ l) h.1) i
      (λ cs w. fed_run (92 ∷ h.0 ∷ []) cs (refl, (no_special_return h.0 h.2, tt)))
      (λ a x. escape_read n (h.0 ∷ a) a (inl (h.0, refl, h.2, h.3)))
      (λ k rest ws s.
      spelled_part style (escaped h.0 rest) (92 ∷ h.0 ∷ rest) rest (encode_utf16 n) ws (pair_parts h.0 rest (no_special_x h.0 h.2))
      (subst (λ x. PartReads style (escaped h.0 rest) (encode_utf16 x)) (sym h.3) (single_reads style h.0 rest (ltb-true h.0 0x110000 k.1.0) h.2))
      (single_sound h.0 rest (ltb-true h.0 0x110000 k.1.0) h.2) s)

  nul_step : (inner : List ℕ) → text ≡ 92 ∷ inner → IsNul n inner mid → Reads style text m (encode_utf16 n ++ vs)
  nul_step inner e h =
      step style text mid m (encode_utf16 n) vs (92 ∷ 48 ∷ []) (92 ∷ 48 ∷ []) (e ∙ ap (λ (l : List ℕ). 92 ∷ l) h.0) i (λ cs w. refl)
      (λ a x. escape_read n (48 ∷ a) a (inr (inl (refl, x.digit h.1, h.2))))
      (λ k rest ws s.
      spelled_part style (p.Code 0) (92 ∷ 48 ∷ rest) rest (encode_utf16 n) ws refl
      (subst (λ x. PartReads style (p.Code 0) (encode_utf16 x)) (sym h.2) (code_reads style 0 refl)) refl s)

  hex_step : (inner : List ℕ) → text ≡ 92 ∷ inner → IsHexEscape n inner mid → Reads style text m (encode_utf16 n ++ vs)
  hex_step inner e h =
      let a = h.0 in
      let b = h.1 in
      step style text mid m (encode_utf16 n) vs (92 ∷ 120 ∷ h.0 ∷ h.1 ∷ []) (92 ∷ 120 ∷ h.0 ∷ h.1 ∷ []) (e ∙ ap (λ (l : List ℕ). 92 ∷ l) h.2) i
      (λ cs w. fed_run (92 ∷ 120 ∷ h.0 ∷ h.1 ∷ []) cs (refl, (refl, (hex_other h.0 h.3.0, (hex_other h.1 h.3.1.0, tt)))))
      (λ a x. escape_read n (120 ∷ h.0 ∷ h.1 ∷ a) a (inr (inr (inl (h.0, h.1, refl, h.3, h.4)))))
      (λ k rest ws s.
      spelled_part style (hex_part h.0 h.1 (digits_value 16 (h.0 ∷ h.1 ∷ []))) (92 ∷ 120 ∷ h.0 ∷ h.1 ∷ rest) rest (encode_utf16 n) ws
      (hex_parts h.0 h.1 rest h.3.0 h.3.1.0)
      (subst (λ x. PartReads style (hex_part h.0 h.1 (digits_value 16 (h.0 ∷ h.1 ∷ []))) (encode_utf16 x)) (sym h.4)
      (hex_reads style h.0 h.1 (digits_value 16 (h.0 ∷ h.1 ∷ [])) h.3.0 h.3.1.0 refl)) (hex_sound h.0 h.1 rest h.3.0 h.3.1.0) s)

-- ---- escapes of code points, whose digits are bare characters

module _ (style : Style) (text mid m vs : List ℕ) (n : ℕ) (i : Reads style mid m vs) where
  code_step : (ds : List ℕ) → text ≡ 92 ∷ 117 ∷ (ds ++ mid) → Each is_self ds → ((a : List ℕ) → IsEscape (Code n) (117 ∷ (ds ++ a)) a)
      → Reads style text m (encode_utf16 n ++ vs)
  code_step ds e h stands =
      step style text mid m (encode_utf16 n) vs (92 ∷ 117 ∷ ds) (92 ∷ 117 ∷ ds) e i
      (λ cs w. fed_run (92 ∷ 117 ∷ ds) cs (refl, (refl, each_other ds h)))
      (λ a x. escape_read n (117 ∷ (ds ++ a)) a (stands a))
      (λ k rest ws s. record {
        stands = λ dollar l a.
            subst (λ (y : List ℕ). IsRead (92 ∷ 117 ∷ y) (encode_utf16 n ++ ws) l) (sym (self_text style ds rest l h))
            (read_on (92 ∷ 117 ∷ (ds ++ parts_text style false (parts zero rest) l)) (encode_utf16 n) (parts_text style false (parts zero rest) l) ws l
            (escape_read n (117 ∷ (ds ++ parts_text style false (parts zero rest) l)) (parts_text style false (parts zero rest) l)
            (stands (parts_text style false (parts zero rest) l)))
            (s.stands false l a));
        twice = part_twice style (ds ++ rest) (selves_twice style ds rest h s.twice) (p.Pair 117) (refl, refl, λ cs g. refl);
      })

  four_step : (inner : List ℕ) → text ≡ 92 ∷ inner → IsUnicodeEscape n inner mid → Reads style text m (encode_utf16 n ++ vs)
  four_step inner e h =
      code_step (h.0 ∷ h.1 ∷ h.2 ∷ h.3 ∷ []) (e ∙ ap (λ (l : List ℕ). 92 ∷ l) h.4) (hexes_self (h.0 ∷ h.1 ∷ h.2 ∷ h.3 ∷ []) h.5)
      (λ a. inr (inr (inr (inl (h.0, h.1, h.2, h.3, refl, h.5, h.6)))))

  braced_step : (inner : List ℕ) → text ≡ 92 ∷ inner → IsBraced n inner mid → Reads style text m (encode_utf16 n ++ vs)
  braced_step inner e h =
      code_step (123 ∷ (h.0 ++ 125 ∷ []))
      (e ∙ ap (λ (l : List ℕ). 92 ∷ l) h.1 ∙ ap (λ (l : List ℕ). 92 ∷ 117 ∷ 123 ∷ l) (sym (append_assoc h.0 (125 ∷ []) mid)))
      (refl, each_append is_self h.0 (125 ∷ []) (hexes_self h.0 h.2) (refl, tt))
      (λ a. inr (inr (inr (inr (h.0, ap (λ (l : List ℕ). 117 ∷ 123 ∷ l) (append_assoc h.0 (125 ∷ []) a), h.2, h.3, h.4)))))

  escape_step : (inner : List ℕ) → text ≡ 92 ∷ inner → IsEscape (Code n) inner mid → Reads style text m (encode_utf16 n ++ vs)
  escape_step inner e h = ⊎_elim
      (λ (a : IsSingle n inner mid). single_step style text mid m vs n i inner e a)
      (λ (b : IsNul n inner mid ⊎ (IsHexEscape n inner mid ⊎ (IsUnicodeEscape n inner mid ⊎ IsBraced n inner mid))). ⊎_elim
      (λ (a : IsNul n inner mid). nul_step style text mid m vs n i inner e a)
      (λ (b : IsHexEscape n inner mid ⊎ (IsUnicodeEscape n inner mid ⊎ IsBraced n inner mid)). ⊎_elim
      (λ (a : IsHexEscape n inner mid). hex_step style text mid m vs n i inner e a)
      (λ (b : IsUnicodeEscape n inner mid ⊎ IsBraced n inner mid). ⊎_elim
      (λ (a : IsUnicodeEscape n inner mid). four_step inner e a)
      (λ (a : IsBraced n inner mid). braced_step inner e a)
      b)
      b)
      b)
      h

-- ---- all parts of a piece

reads : (style : Style) (ps : List t.Part) (text m : List ℕ) → Parts ps text m → list_any is_bad ps ≡ false → Reads style text m (flat_map part_units ps)
reads style [] text m h g = reads_none style text m h
reads style (t.Bare c ∷ ps) text m h g = bare_step style text h.0 m (flat_map part_units ps) c h.1 (reads style ps h.0 m h.2 g)
reads style (t.Break ∷ ps) text m h g = break_step style text h.0 m (flat_map part_units ps) h.1 (reads style ps h.0 m h.2 g)
reads style (t.Escaped Continuation ∷ ps) text m h g = line_step style text h.0 m (flat_map part_units ps) h.1 (reads style ps h.0 m h.2 g)
reads style (t.Escaped (Code n) ∷ ps) text m h g =
    escape_step style text h.0 m (flat_map part_units ps) n (reads style ps h.0 m h.2 g) h.1.0 h.1.1 h.1.2
reads style (t.Escaped (Legacy n) ∷ ps) text m h g = absurd (false≢true (sym h.1.3))
reads style (t.Bad c ∷ ps) text m h g = absurd (false≢true (sym g))

-- ---- the text before what follows

pub written_more : (g : Form) (c : ℕ) (m r : List ℕ) → written g c (m ++ r) ≡ written g c m ++ r
written_more f.Bare c m r = refl
written_more (f.Letter l) c m r = refl
written_more f.Nul c m r = refl
written_more f.Hex c m r = refl
written_more f.Four c m r = refl
written_more f.FourLower c m r = refl
written_more f.Pair c m r = refl
written_more f.Braced c m r = sym (ap (λ (l : List ℕ). 92 ∷ 117 ∷ 123 ∷ l) (append_assoc (braced_digits c) (125 ∷ m) r))

pub part_text_more : (style : Style) (dollar digit : Bool) (x : Part) (m r : List ℕ) → part_text style dollar digit x (m ++ r) ≡ part_text style dollar digit x m ++ r
part_text_more style dollar digit (p.Pair d) m r = refl
part_text_more style dollar digit (p.Digits a b) m r = refl
part_text_more style dollar digit p.Last m r = refl
part_text_more style dollar digit p.Nothing m r = refl
part_text_more style dollar digit (p.Hexed v) m r = refl
part_text_more style dollar digit (p.Code c) m r = written_more (form_of style dollar digit c) c m r

pub parts_text_more : (style : Style) (dollar : Bool) (ps : List Part) (r : List ℕ) → parts_text style dollar ps r ≡ parts_text style dollar ps [] ++ r
parts_text_more style dollar [] r = refl
parts_text_more style dollar (x ∷ ps) r =
    ap (λ (l : List ℕ). part_text style dollar (digit_first ps) x l) (parts_text_more style (dollar_behind dollar x) ps r)
    ∙ part_text_more style dollar (digit_first ps) x (parts_text style (dollar_behind dollar x) ps []) r

-- ---- a piece

record IsCooked (units : List ℕ) (ps : List t.Part) : Type 0 where
  good : list_any is_bad ps ≡ false
  value : units ≡ flat_map part_units ps

not_none : (x : List ℕ) → Some x ≡ None → ⊥
not_none x e = cc

is_cooked : (units : List ℕ) (ps : List t.Part) → Some units ≡ cooked ps → IsCooked units ps
is_cooked units ps e = ⊎_elim
    (λ (b : list_any is_bad ps ≡ true). absurd (not_none units (e ∙ ap (λ x. if x then None else Some (flat_map part_units ps)) b)))
    (λ (b : list_any is_bad ps ≡ false).
    record { good = b; value = same_Some units (flat_map part_units ps) (e ∙ ap (λ x. if x then None else Some (flat_map part_units ps)) b) })
    (cases_Bool (list_any is_bad ps))

piece : (own text units after rest : List ℕ) (e : Ending) → IsRead text units after → Ends e after rest → text ≡ own ++ after → SpellsPiece own (Some units) e text rest
piece own text units after rest e h i w = (
  h.pieces,
  after,
  h.stand,
  i,
  w,
  ap Some h.value ∙ sym (ap (λ x. if x then None else Some (flat_map part_units h.pieces)) h.good),
)

pub template_is_read : TemplateIsRead
template_is_read style raw units before behind e h codes g after rest i =
    let c = is_cooked units h.0 h.5 in
    let r = reads style h.0 before h.1 h.2 c.good in
    let same : raw ≡ r.own = append_cancel_right raw r.own h.1 (sym h.4 ∙ r.whole) in
    let a = ends_follow g after rest i in
    let kept : IsRead (line_feeds raw ++ after) units after =
    subst (λ (l : List ℕ). IsRead (line_feeds l ++ after) units after) (sym same)
    (subst (λ (u : List ℕ). IsRead (line_feeds r.own ++ after) u after) (sym c.value) (r.kept after a)) in
    let spelled : Spelled style (line_feeds raw) units =
    subst (λ (l : List ℕ). Spelled style (line_feeds l) units) (sym same)
    (subst (λ (u : List ℕ). Spelled style (line_feeds r.own) u) (sym c.value) (r.spelled (subst (Each is_code_point) same codes))) in
    ⊎_elim
    (λ (b : keeps_raw style raw ≡ true).
    subst (λ x. SpellsPiece (if x then line_feeds raw ++ [] else parts_text style false (parts zero (line_feeds raw)) []) (Some units) g
    (if x then line_feeds raw ++ after else parts_text style false (parts zero (line_feeds raw)) after) rest) (sym b)
    (piece (line_feeds raw ++ []) (line_feeds raw ++ after) units after rest g kept i (ap (λ (l : List ℕ). l ++ after) (sym (append-nil (line_feeds raw))))))
    (λ (b : keeps_raw style raw ≡ false).
    subst (λ x. SpellsPiece (if x then line_feeds raw ++ [] else parts_text style false (parts zero (line_feeds raw)) []) (Some units) g
    (if x then line_feeds raw ++ after else parts_text style false (parts zero (line_feeds raw)) after) rest) (sym b)
    (piece (parts_text style false (parts zero (line_feeds raw)) []) (parts_text style false (parts zero (line_feeds raw)) after) units after rest g
    (spelled.stands false after a) i (parts_text_more style false (parts zero (line_feeds raw)) after)))
    (cases_Bool (keeps_raw style raw))

-- and what is written of it is written again
pub piece_twice : (style : Style) (raw units before behind : List ℕ) (e : Ending) → SpellsPiece raw (Some units) e before behind → Each is_code_point raw
    → AreTwice style (parts zero (line_feeds raw))
piece_twice style raw units before behind e h codes =
    let c = is_cooked units h.0 h.5 in
    let r = reads style h.0 before h.1 h.2 c.good in
    let same : raw ≡ r.own = append_cancel_right raw r.own h.1 (sym h.4 ∙ r.whole) in
    subst (λ (l : List ℕ). AreTwice style (parts zero (line_feeds l))) (sym same) (r.spelled (subst (Each is_code_point) same codes)).twice
