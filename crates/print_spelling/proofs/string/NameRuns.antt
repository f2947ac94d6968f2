-- What is written of a name, piece by piece.
use Rattle.std.proofs.Common.{◌≡◌, ℕ, ◌≤◌, Bool, true, false, List, [], ◌∷◌, ◌++◌, refl, sym, ap, subst, ◌∙◌, arith, IsUtf8}
use Rattle.std.specs.Prelude.{if◌then◌else◌, nat_lt, encode_utf8_all}
use Rattle.std.specs.Char.{IsScalar}
use Rattle.std.specs.List.{prefix_len}
use Rattle.std.proofs.lemmas.Bool.Decides.{nat_tests}
use Rattle.std.proofs.lemmas.Str.{encodes-append}
use Rattle.std.proofs.lemmas.Bool.{cond-true, cond-false}
use Rattle.lex_pieces.specs.Runs.{Each, run, after}
use Rattle.lex_literal.proofs.RunLemmas.{Flat, Cut, cut_run, run_each, run_after}
use Rattle.print_spelling.specs.declared.form.Form.{Form}
use Rattle.print_spelling.specs.declared.form.Form.TheVariants.{Bare}
use Rattle.print_spelling.specs.declared.style.Style.{Style}
use Rattle.print_spelling.specs.Forms.{written, Writes}
use Rattle.print_spelling.specs.String.Names.{is_latin, name_form, form_in, name_chars, is_plain_byte}
use Rattle.print_spelling.proofs.string.QuotedLemmas.{scalar_code, written_on}

plain_high : (b : ℕ) → 128 ≤ b → is_plain_byte b ≡ false
plain_high b h = grind (arith, nat_tests)

flat : Flat is_plain_byte
flat = record { same = λ b h. plain_high b h ∙ sym (plain_high 128 (omega arith)) }

pub plain_cut : (text bytes : List ℕ) (n : ℕ) → IsUtf8 text → bytes ≡ text → n ≡ prefix_len is_plain_byte bytes → Cut is_plain_byte text n
plain_cut text bytes n u same e = subst (Cut is_plain_byte text) (sym (e ∙ ap (prefix_len is_plain_byte) same)) (cut_run is_plain_byte flat text u)

no_latin : (c : ℕ) → is_plain_byte c ≡ true → is_latin c ≡ false
no_latin c h = grind (arith, nat_tests)

bare_in : (style : Style) (quoted : Bool) (c : ℕ) → is_plain_byte c ≡ true → form_in style quoted c ≡ Bare
bare_in style true c h = cond-false (is_latin c) _ _ (no_latin c h) ∙ cond-true (nat_lt c 0x7F) _ _ h
bare_in style false c h = cond-true (nat_lt c 0x7F) _ _ h

run_chars : (style : Style) (quoted : Bool) (own cs m : List ℕ) → Each is_plain_byte own
    → name_chars style quoted (own ++ cs) m ≡ own ++ name_chars style quoted cs m
run_chars style quoted [] cs m h = refl
run_chars style quoted (c ∷ own) cs m h =
    ap (λ f. written f c (name_chars style quoted (own ++ cs) m)) (bare_in style quoted c h.0) ∙ ap (λ (x : List ℕ). c ∷ x) (run_chars style quoted own cs m h.1)

pub run_bytes : (style : Style) (quoted : Bool) (cs own rest bytes m : List ℕ) → own ≡ run is_plain_byte cs → rest ≡ after is_plain_byte cs
    → encode_utf8_all own ≡ bytes → encode_utf8_all (name_chars style quoted cs m) ≡ bytes ++ encode_utf8_all (name_chars style quoted rest m)
run_bytes style quoted cs own rest bytes m e f same =
    ap (λ l. encode_utf8_all (name_chars style quoted l m)) (run_after is_plain_byte cs ∙ ap (λ l. l ++ after is_plain_byte cs) (sym e) ∙ ap (λ l. own ++ l) (sym f))
    ∙ ap encode_utf8_all (run_chars style quoted own rest m (subst (Each is_plain_byte) (sym e) (run_each is_plain_byte cs)))
    ∙ encodes-append own (name_chars style quoted rest m)
    ∙ ap (λ (l : List ℕ). l ++ encode_utf8_all (name_chars style quoted rest m)) same

pub char_bytes : (style : Style) (quoted : Bool) (c : ℕ) (cs m bytes : List ℕ) (f : Form) → f ≡ form_in style quoted c
    → bytes ≡ encode_utf8_all (written f c []) → encode_utf8_all (name_chars style quoted (c ∷ cs) m) ≡ bytes ++ encode_utf8_all (name_chars style quoted cs m)
char_bytes style quoted c cs m bytes f e same =
    ap encode_utf8_all (written_on (form_in style quoted c) c (name_chars style quoted cs m))
    ∙ encodes-append (written (form_in style quoted c) c []) (name_chars style quoted cs m)
    ∙ ap (λ (l : List ℕ). l ++ encode_utf8_all (name_chars style quoted cs m)) (ap (λ g. encode_utf8_all (written g c [])) (sym e) ∙ sym same)

record CanWrite (c : ℕ) (f : Form) : Type 0 where
  writes : Writes f c

by_form : (b : Bool) (f g : Form) (P : Form → Type 0) → P f → P g → P (if b then f else g)
by_form true f g P x y = x
by_form false f g P x y = y

pub can_write : (style : Style) (quoted : Bool) (c : ℕ) (f : Form) → IsScalar c → f ≡ form_in style quoted c → Writes f c
can_write style quoted c f s e =
    let code = scalar_code c s in
    let bare : CanWrite c Bare = record { writes = s } in
    let name : CanWrite c (name_form style c) =
    by_form (nat_lt c 0x7F) _ _ (CanWrite c) bare (by_form style.ascii_only _ _ (CanWrite c)
    (by_form (nat_lt c 0x100) _ _ (CanWrite c) (record { writes = code }) (by_form (nat_lt c 0x1_0000) _ _ (CanWrite c) (record { writes = code }) (record { writes = code })))
    bare) in
    subst (λ g. Writes g c) (sym e)
    (by_form quoted _ _ (CanWrite c) (by_form (is_latin c) _ _ (CanWrite c) (record { writes = code }) name) name).writes
