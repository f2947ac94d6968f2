-- Which text of a literal is written.
use Rattle.std.proofs.lemmas.Bool.Decides.{nat_tests}
use Rattle.std.proofs.Common.{◌≡◌, ℕ, Bool, true, false, if◌then◌else◌, List, [], ◌∷◌, ◌++◌, Option, Some, None, IsUtf8, append-nil, refl, sym, ap, ◌∙◌, length, arith}
use Rattle.std.specs.Prelude.{◌&&◌, ◌==◌, nat_lt, encode_utf8_all}
use Rattle.std.specs.List.{list_any}
use Rattle.std.specs.Str.{chars}
use Rattle.std.proofs.lemmas.Str.{encodes-chars}
use Rattle.base_number.specs.Numbers.{SpecNumber}
use Rattle.lex_literal.specs.Standing.{takes_point}
use Rattle.print_spelling.specs.declared.style.Style.{Style}
use Rattle.print_spelling.specs.String.Strings.{string_text, quoted, keeps_raw}
use Rattle.print_spelling.specs.Number.Numbers.{minified, formatted, formatted_big, before_member, big_text, separated}
use Rattle.print_spelling.specs.declared.form.Form.{Form}
use Rattle.print_spelling.specs.declared.form.Form.TheVariants.{Bare, Four, FourLower, Braced}
use Rattle.print_spelling.specs.Forms.{written}
use Rattle.print_spelling.specs.String.Names.{name_chars, name_text, is_latin}
use Rattle.print_spelling.specs.declared.number.text.NumberText.{NumberText}
use Rattle.print_spelling.specs.Number.NumberTexts.{joined}
use Rattle.base_token.specs.declared.place.Span.{Span}
use Rattle.print_layout_spec.specs.declared.look.Look.{Look}
use Rattle.print_layout_spec.specs.Looks.{◌·◌, text, commit, start}
use Rattle.print_layout_spec.specs.Literals.{number_bytes, big_bytes, name_bytes, key_bytes, name, key_word}

-- a string as it was read, and one in quotes
pub kept : (style : Style) (units raw : List ℕ) {b : Bool} → IsUtf8 raw → b ≡ keeps_raw style units (chars raw) → b ≡ true
    → raw ≡ encode_utf8_all (string_text style units (Some (chars raw)))
kept style units raw u e t = sym (encodes-chars raw u) ∙ ap (λ (k : Bool). encode_utf8_all (if k then chars raw else quoted style units [])) (sym t ∙ e)

pub not_kept : (style : Style) (units raw : List ℕ) {b : Bool} → b ≡ keeps_raw style units (chars raw) → b ≡ false
    → encode_utf8_all (quoted style units []) ≡ encode_utf8_all (string_text style units (Some (chars raw)))
not_kept style units raw e t = ap (λ (k : Bool). encode_utf8_all (if k then chars raw else quoted style units [])) (sym t ∙ e)

-- the text that was read counts when formatting alone
pub number_read : (style : Style) (v : SpecNumber) (raw : Option (List ℕ)) {o : Option (List ℕ)} → o ≡ (if style.minify then None else raw)
    → formatted style v o ≡ number_bytes style v raw
number_read style v raw e = ap (formatted style v) e ∙ chosen_by style.minify
  where
    chosen_by : (b : Bool) → formatted style v (if b then None else raw) ≡ (if b then minified v else formatted style v raw)
    chosen_by true = refl
    chosen_by false = refl

big_with : (style : Style) (radix : ℕ) (digits : List ℕ) (raw : Option (List ℕ)) → formatted_big style radix digits (if style.minify then None else raw) ≡ big_bytes style radix digits raw
big_with style radix digits None = chosen_by style.minify
  where
    chosen_by : (b : Bool) → formatted_big style radix digits (if b then None else None) ≡ big_text radix digits
    chosen_by true = refl
    chosen_by false = refl
big_with style radix digits (Some raw) = chosen_by style.minify
  where
    chosen_by : (b : Bool) → formatted_big style radix digits (if b then None else Some raw) ≡ (if b then big_text radix digits else separated style raw)
    chosen_by true = refl
    chosen_by false = refl

pub big_read : (style : Style) (radix : ℕ) (digits : List ℕ) (raw : Option (List ℕ)) {o : Option (List ℕ)} → o ≡ (if style.minify then None else raw)
    → formatted_big style radix digits o ≡ big_bytes style radix digits raw
big_read style radix digits raw e = ap (formatted_big style radix digits) e ∙ big_with style radix digits raw

pub number_minified : (style : Style) (v : SpecNumber) (raw : Option (List ℕ)) → style.minify ≡ true → minified v ≡ number_bytes style v raw
number_minified style v raw e = sym (ap (λ (b : Bool). if b then minified v else formatted style v raw) e)

-- three texts of which the last two are empty
no_bytes : (l : List ℕ) {b : Bool} → b ≡ (length l == 0) → b ≡ true → [] ≡ l
no_bytes [] e h = refl
no_bytes (x ∷ xs) e h = let z : (length (x ∷ xs) == 0) ≡ true = sym e ∙ h in absurd (grind (arith, nat_tests))

pub first_alone : (t : NumberText) {b d : Bool} → b ≡ (length t.second.now == 0) → b ≡ true → d ≡ (length t.third.now == 0) → d ≡ true → t.first.now ≡ joined t
first_alone t e h f k =
    sym (append-nil t.first.now) ∙ ap (λ (l : List ℕ). t.first.now ++ l) (ap (λ (l : List ℕ). [] ++ l) (no_bytes t.third.now f k) ∙ ap (λ (l : List ℕ). l ++ t.third.now) (no_bytes t.second.now e h))

-- a number before a point
pub with_point : (bytes : List ℕ) {text : List ℕ} {b : Bool} → text ≡ bytes → b ≡ takes_point bytes → b ≡ true → text ++ 46 ∷ [] ≡ before_member bytes
with_point bytes t e h = ap (λ (l : List ℕ). l ++ 46 ∷ []) t ∙ ap (λ (k : Bool). if k then bytes ++ 46 ∷ [] else bytes) (sym h ∙ e)

pub without_point : (bytes : List ℕ) {text : List ℕ} {b : Bool} → text ≡ bytes → b ≡ takes_point bytes → b ≡ false → text ≡ before_member bytes
without_point bytes t e h = t ∙ ap (λ (k : Bool). if k then bytes ++ 46 ∷ [] else bytes) (sym h ∙ e)

-- ---- a name or a key whose characters all stand as they are

bare_by : (low escapes : Bool) (form : Form) → escapes ≡ false → (if low then Bare else (if escapes then form else Bare)) ≡ Bare
bare_by true escapes form e = refl
bare_by false escapes form e = ap (λ (b : Bool). if b then form else Bare) e

bare_chars : (style : Style) → style.ascii_only ≡ false → (cs m : List ℕ) → name_chars style false cs m ≡ cs ++ m
bare_chars style e [] m = refl
bare_chars style e (c ∷ cs) m =
    ap (λ (f : Form). written f c (name_chars style false cs m)) (bare_by (nat_lt c 0x7F) style.ascii_only (if nat_lt c 0x100 then FourLower else (if nat_lt c 0x1_0000 then Four else Braced)) e)
    ∙ ap (λ (l : List ℕ). c ∷ l) (bare_chars style e cs m)

pub name_bare : (style : Style) (name : List ℕ) → IsUtf8 name → style.ascii_only ≡ false → name ≡ name_bytes style name
name_bare style name u e = sym (encodes-chars name u) ∙ ap encode_utf8_all (sym (bare_chars style e (chars name) [] ∙ append-nil (chars name)))

pub key_bare : (style : Style) (word : List ℕ) → IsUtf8 word → style.ascii_only ≡ false → word ≡ key_bytes style word
key_bare style word u e = name_bare style word u e ∙ ap encode_utf8_all (sym (unquoted style.ascii_only (list_any is_latin (chars word)) e))
  where
    unquoted : (escapes latin : Bool) → escapes ≡ false
        → (if escapes && latin then 34 ∷ name_chars style true (chars word) (34 ∷ []) else name_text style (chars word) []) ≡ name_text style (chars word) []
    unquoted escapes latin e = ap (λ (b : Bool). if b && latin then 34 ∷ name_chars style true (chars word) (34 ∷ []) else name_text style (chars word) []) e

-- ---- a word as a key or as a name

pub as_key : (look : Look) (span : Span) (key : Bool) (word : List ℕ) → key ≡ true
    → commit · start span · text (key_bytes look.style word) ≡ (if key then key_word look span word else name look span word)
as_key look span key word e = ap (λ (b : Bool). if b then key_word look span word else name look span word) (sym e)

pub as_name : (look : Look) (span : Span) (key : Bool) (word : List ℕ) → key ≡ false
    → commit · start span · text (name_bytes look.style word) ≡ (if key then key_word look span word else name look span word)
as_name look span key word e = ap (λ (b : Bool). if b then key_word look span word else name look span word) (sym e)

pub word_bare : (look : Look) (span : Span) (key : Bool) (word : List ℕ) → IsUtf8 word → look.style.ascii_only ≡ false
    → commit · start span · text word ≡ (if key then key_word look span word else name look span word)
word_bare look span true word u e = ap (λ (l : List ℕ). commit · start span · text l) (key_bare look.style word u e)
word_bare look span false word u e = ap (λ (l : List ℕ). commit · start span · text l) (name_bare look.style word u e)
