-- A string as it was read is read again, whatever follows; and formatting it twice changes nothing.
use Rattle.std.proofs.Common.{◌≡◌, ℕ, ◌⊎◌, inl, inr, ⊎_elim, Bool, true, false, cond, List, [], ◌∷◌, ◌++◌, append_assoc, refl, sym, ap, subst, ◌∙◌}
use Rattle.std.specs.Prelude.{if◌then◌else◌, ◌&&◌, ◌||◌, not, Some, None}
use Rattle.std.specs.List.{list_any, list_all}
use Rattle.std.proofs.lemmas.Bool.{cases_Bool}
use Rattle.lex_literal.specs.declared.escape.Escape.{Escape}
use Rattle.lex_literal.specs.declared.escape.Escape.TheVariants.{Continuation, Code, Legacy}
use Rattle.lex_literal.specs.Escapes.{IsEscape, IsLineEnd, IsSingle, IsNul, IsHexEscape, IsUnicodeEscape, IsBraced, IsOneOctal, AreTwoOctals, AreThreeOctals, IsEightOrNine, begins, is_line_feed}
use Rattle.lex_pieces.specs.Characters.{is_line_terminator}
use Rattle.lex_literal.specs.Strings.{Piece, Plain, Escaped, Stands, Pieces, SpellsString}
use Rattle.print_spelling.specs.declared.form.Form.{Form}
use Rattle.print_spelling.specs.declared.form.Form.TheVariants.{Bare, Letter, Nul, Hex, Four, FourLower, Pair, Braced}
use Rattle.print_spelling.specs.declared.style.Style.{Style}
use Rattle.print_spelling.specs.Forms.{written, braced_digits}
use Rattle.print_spelling.specs.declared.string.quoted.Behind.{Behind}
use Rattle.print_spelling.specs.declared.string.quoted.Behind.TheVariants.{Other}
use Rattle.print_spelling.specs.String.CodePoints.{code_points}
use Rattle.print_spelling.specs.String.Strings.{behind, form_of, chars_text, quote_of, quoted, keeps_raw, string_text, is_ascii, is_backslash, StringIsRead, FormattedAgain, MinifiedAlone}
use Rattle.print_spelling.proofs.string.StringLemmas.{quoted_is_read}

-- ---- an escape before a character stays one before whatever follows that

more : (text m r : List ℕ) → text ≡ m → text ++ r ≡ m ++ r
more text m r e = ap (λ (l : List ℕ). l ++ r) e

module _ (text : List ℕ) (x : ℕ) (xs r : List ℕ) where
  code_lasts : (n : ℕ) → IsEscape (Code n) text (x ∷ xs) → IsEscape (Code n) (text ++ r) (x ∷ (xs ++ r))
  code_lasts n h = ⊎_elim
      (λ (a : IsSingle n text (x ∷ xs)). inl (a.0, more text _ r a.1, a.2, a.3))
      (λ (b : IsNul n text (x ∷ xs) ⊎ (IsHexEscape n text (x ∷ xs) ⊎ (IsUnicodeEscape n text (x ∷ xs) ⊎ IsBraced n text (x ∷ xs)))). ⊎_elim
      (λ (a : IsNul n text (x ∷ xs)). inr (inl (more text _ r a.0, a.1, a.2)))
      (λ (b : IsHexEscape n text (x ∷ xs) ⊎ (IsUnicodeEscape n text (x ∷ xs) ⊎ IsBraced n text (x ∷ xs))). ⊎_elim
      (λ (a : IsHexEscape n text (x ∷ xs)). inr (inr (inl (a.0, a.1, more text _ r a.2, a.3, a.4))))
      (λ (b : IsUnicodeEscape n text (x ∷ xs) ⊎ IsBraced n text (x ∷ xs)). ⊎_elim
      (λ (a : IsUnicodeEscape n text (x ∷ xs)). inr (inr (inr (inl (a.0, a.1, a.2, a.3, more text _ r a.4, a.5, a.6)))))
      (λ (a : IsBraced n text (x ∷ xs)). inr (inr (inr (inr (
        a.0,
        more text _ r a.1 ∙ ap (λ (l : List ℕ). 117 ∷ 123 ∷ l) (append_assoc a.0 (125 ∷ x ∷ xs) r),
        a.2,
        a.3,
        a.4,
      )))))
      b)
      b)
      b)
      h

  legacy_lasts : (n : ℕ) → IsEscape (Legacy n) text (x ∷ xs) → IsEscape (Legacy n) (text ++ r) (x ∷ (xs ++ r))
  legacy_lasts n h = ⊎_elim
      (λ (a : IsOneOctal n text (x ∷ xs)). inl (a.0, more text _ r a.1, a.2, a.3, a.4, a.5))
      (λ (b : AreTwoOctals n text (x ∷ xs) ⊎ (AreThreeOctals n text (x ∷ xs) ⊎ IsEightOrNine n text (x ∷ xs))). ⊎_elim
      (λ (a : AreTwoOctals n text (x ∷ xs)). inr (inl (a.0, a.1, more text _ r a.2, a.3, a.4, a.5)))
      (λ (b : AreThreeOctals n text (x ∷ xs) ⊎ IsEightOrNine n text (x ∷ xs)). ⊎_elim
      (λ (a : AreThreeOctals n text (x ∷ xs)). inr (inr (inl (a.0, a.1, a.2, more text _ r a.3, a.4, a.5, a.6))))
      (λ (a : IsEightOrNine n text (x ∷ xs)). inr (inr (inr (more text _ r a.0, a.1))))
      b)
      b)
      h

  line_lasts : IsLineEnd text (x ∷ xs) → IsLineEnd (text ++ r) (x ∷ (xs ++ r))
  line_lasts h = ⊎_elim
      (λ (a : text ≡ 13 ∷ 10 ∷ x ∷ xs). inl (more text _ r a))
      (λ (a : (c : ℕ) × (text ≡ c ∷ x ∷ xs) × (is_line_terminator c ≡ true) × (c ≡ 13 → begins is_line_feed (x ∷ xs) ≡ false)).
      inr (a.0, more text _ r a.1, a.2, a.3))
      h

lasts : (e : Escape) (text : List ℕ) (x : ℕ) (xs r : List ℕ) → IsEscape e text (x ∷ xs) → IsEscape e (text ++ r) (x ∷ (xs ++ r))
lasts Continuation text x xs r h = line_lasts text x xs r h
lasts (Code n) text x xs r h = code_lasts text x xs r n h
lasts (Legacy n) text x xs r h = legacy_lasts text x xs r n h

-- ---- and so do the parts of a string

stands_on : (quote : ℕ) (p : Piece) (text : List ℕ) (x : ℕ) (xs r : List ℕ) → Stands quote p text (x ∷ xs) → Stands quote p (text ++ r) (x ∷ (xs ++ r))
stands_on quote (Plain c) text x xs r h = (more text _ r h.0, h.1)
stands_on quote (Escaped e) text x xs r h = (h.0 ++ r, more text _ r h.1, lasts e h.0 x xs r h.2)

not_nil : {A : Type 0} (c : ℕ) (cs : List ℕ) → [] ≡ c ∷ cs → A
not_nil c cs e = cc

none_from_nil : {A : Type 0} (quote : ℕ) (ps : List Piece) (x : ℕ) (xs : List ℕ) → Pieces quote ps [] (x ∷ xs) → A
none_from_nil quote [] x xs h = not_nil x xs h
none_from_nil quote (Plain c ∷ ps) x xs h = not_nil c h.0 h.1.0
none_from_nil quote (Escaped e ∷ ps) x xs h = not_nil 92 h.1.0 h.1.1

pieces_last : (quote : ℕ) (ps : List Piece) (text : List ℕ) (x : ℕ) (xs r : List ℕ) → Pieces quote ps text (x ∷ xs) → Pieces quote ps (text ++ r) (x ∷ (xs ++ r))
pieces_last quote [] text x xs r h = more text (x ∷ xs) r h
pieces_last quote (p ∷ ps) text x xs r h = at h.0 h.1 h.2 (λ y ys i. pieces_last quote ps (y ∷ ys) x xs r i)
  where
    at : (m : List ℕ) → Stands quote p text m → Pieces quote ps m (x ∷ xs)
        → ((y : ℕ) (ys : List ℕ) → Pieces quote ps (y ∷ ys) (x ∷ xs) → Pieces quote ps (y ∷ (ys ++ r)) (x ∷ (xs ++ r)))
        → Pieces quote (p ∷ ps) (text ++ r) (x ∷ (xs ++ r))
    at [] i j k = none_from_nil quote ps x xs j
    at (y ∷ ys) i j k = (y ∷ (ys ++ r), stands_on quote p text y ys r i, k y ys j)

pub raw_is_read : (units raw rest : List ℕ) (l : Bool) → SpellsString units l raw [] → SpellsString units l (raw ++ rest) rest
raw_is_read units raw rest l h =
    let s = h.1 in
    (h.0, (s.0, s.1 ++ rest, s.2, more raw _ rest s.3, pieces_last s.0 h.0 s.1 s.0 [] rest s.4), h.2, h.3)

-- ---- quoted units before a text

written_more : (f : Form) (c : ℕ) (m r : List ℕ) → written f c m ++ r ≡ written f c (m ++ r)
written_more Bare c m r = refl
written_more (Letter l) c m r = refl
written_more Nul c m r = refl
written_more Hex c m r = refl
written_more Four c m r = refl
written_more FourLower c m r = refl
written_more Pair c m r = refl
written_more Braced c m r = ap (λ (l : List ℕ). 92 ∷ 117 ∷ 123 ∷ l) (append_assoc (braced_digits c) (125 ∷ m) r)

chars_more : (style : Style) (quote : ℕ) (b : Behind) (cs m r : List ℕ) → chars_text style quote b cs m ++ r ≡ chars_text style quote b cs (m ++ r)
chars_more style quote b [] m r = refl
chars_more style quote b (c ∷ cs) m r =
    written_more (form_of style quote b c cs) c (chars_text style quote (behind style b c) cs m) r
    ∙ ap (written (form_of style quote b c cs) c) (chars_more style quote (behind style b c) cs m r)

quoted_more : (style : Style) (units r : List ℕ) → quoted style units [] ++ r ≡ quoted style units r
quoted_more style units r =
    let q = quote_of (code_points units) in
    ap (λ (l : List ℕ). quote_of (code_points units) ∷ l)
    (chars_more style (quote_of (code_points units)) Other (code_points units) (quote_of (code_points units) ∷ []) r)

pub string_is_read : StringIsRead
string_is_read style units None rest us h = (false, subst (λ t. SpellsString units false t rest) (sym (quoted_more style units rest)) (quoted_is_read style units rest us))
string_is_read style units (Some raw) rest us h = ⊎_elim
    (λ (e : keeps_raw style units raw ≡ true).
    let own = h raw refl in
    (own.0, subst (λ t. SpellsString units own.0 t rest) (sym (ap (λ b. cond b raw (quoted style units []) ++ rest) e)) (raw_is_read units raw rest own.0 own.1)))
    (λ (e : keeps_raw style units raw ≡ false).
    (false, subst (λ t. SpellsString units false t rest) (sym (ap (λ b. cond b raw (quoted style units []) ++ rest) e ∙ quoted_more style units rest)) (quoted_is_read style units rest us)))
    (cases_Bool (keeps_raw style units raw))

-- ---- once more

either : (b : Bool) (x : List ℕ) → (if b then x else x) ≡ x
either true x = refl
either false x = refl

pub formatted_again : FormattedAgain
formatted_again style units None = either (keeps_raw style units (quoted style units [])) (quoted style units [])
formatted_again style units (Some raw) = ⊎_elim
    (λ (e : keeps_raw style units raw ≡ true).
    let same : string_text style units (Some raw) ≡ raw = ap (λ b. cond b raw (quoted style units [])) e in
    ap (λ t. string_text style units (Some t)) same)
    (λ (e : keeps_raw style units raw ≡ false).
    let same : string_text style units (Some raw) ≡ quoted style units [] = ap (λ b. cond b raw (quoted style units [])) e in
    ap (λ t. string_text style units (Some t)) same ∙ either (keeps_raw style units (quoted style units [])) (quoted style units []) ∙ sym same)
    (cases_Bool (keeps_raw style units raw))

pub minified_alone : MinifiedAlone
minified_alone style units None m n = refl
minified_alone style units (Some raw) m n =
    let e : keeps_raw style units raw ≡ false =
    ap (λ b. (b && list_any is_backslash raw) || (not style.minify && (not style.ascii_only || list_all is_ascii raw))) n
    ∙ ap (λ b. not b && (not style.ascii_only || list_all is_ascii raw)) m in
    ap (λ b. cond b raw (quoted style units [])) e
