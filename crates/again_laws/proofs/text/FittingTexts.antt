-- The texts of names and literals that were read, as they are written, fit.
use Rattle.std.proofs.Common.{◌≡◌, ℕ, ⊎_elim, Bool, true, false, ◌||◌, if◌then◌else◌, List, [], ◌∷◌, ◌++◌, Option, Some, refl, sym, ap, subst, ◌∙◌}
use Rattle.std.specs.Prelude.{encode_utf8_all, is_some}
use Rattle.std.specs.Str.{chars}
use Rattle.std.specs.List.{flat_map}
use Rattle.std.specs.Char.Escape.{encode_utf16}
use Rattle.std.proofs.lemmas.Bool.{cases_Bool}
use Rattle.std.proofs.lemmas.List.{append-nil}
use Rattle.std.proofs.lemmas.Str.{chars-encodes}
use Rattle.base_number.specs.Numbers.{SpecNumber, number_of}
use Rattle.base_token.specs.Tokens.{Quoted, Numeral, BigNumeral, Piece, Pattern}
use Rattle.lex_pieces.specs.Names.{IsName}
use Rattle.lex_literal.specs.Numbers.{Number as NumberMeaning, BigInt}
use Rattle.lex_literal.specs.Strings.{SpellsString}
use Rattle.lex_literal.proofs.StandLemmas.{number_stands}
use Rattle.lex_token.specs.declared.goal.LexicalGoal.TheVariants.{Div, RegExp, TemplateTail}
use Rattle.print_spelling.specs.declared.style.Style.{Style}
use Rattle.print_spelling.specs.Forms.{written}
use Rattle.print_spelling.specs.String.Names.{name_text, name_chars, form_in, key_text, is_quoted_key}
use Rattle.print_spelling.specs.String.Strings.{string_text}
use Rattle.print_spelling.proofs.string.NameLemmas.{name_is_read, key_is_read}
use Rattle.print_spelling.proofs.string.RawLemmas.{raw_is_read}
use Rattle.print_spelling.specs.Number.Numbers.{before_member}
use Rattle.print_spelling.proofs.number.PointLemmas.{member_stands}
use Rattle.print_spelling.specs.Template.RegExps.{reg_exp_text}
use Rattle.print_spelling.proofs.template.ReadLemmas.{written_more}
use Rattle.grammar_spec.specs.Tokens.Input.{Input, is_word, kind, content, text}
use Rattle.print_layout_spec.specs.Looks.{regular_expression, joined, texts_of}
use Rattle.print_layout_spec.specs.Literals.{name_bytes, key_bytes, string_bytes, number_bytes, big_bytes, quasi_bytes}
use Rattle.again_laws.specs.Tokens.Means.{Known}
use Rattle.again_laws.proofs.leaf.Scalars.{stop, name_scal}
use Rattle.again_laws.proofs.leaf.NumbersAscii.{number_is_ascii, big_is_ascii}
use Rattle.again_laws.proofs.leaf.Words.{name_of, key_scalars}
use Rattle.again_laws.proofs.leaf.Literals.{string_written, number_written, big_written, piece_written, pattern_written}
use Rattle.again_laws.specs.Tiling.Categories.{Category, Word, Number, Big, Member, Str, Regex, Quasi}
use Rattle.again_laws.specs.Tiling.Goes.{Fits}
use Rattle.again_laws.specs.Text.Fitting.{class_of_key, TextsFit}
use Rattle.again_laws.proofs.text.Literals.{utf8_of, name_fits, string_fits, number_fits, member_fits, big_fits, regex_fits, quasi_fits}

-- ---- names and keys

chars_append : (style : Style) (quoted : Bool) (cs m n : List ℕ) → name_chars style quoted cs (m ++ n) ≡ name_chars style quoted cs m ++ n
chars_append style quoted [] m n = refl
chars_append style quoted (c ∷ cs) m n = ap (written (form_in style quoted c) c) (chars_append style quoted cs m n) ∙ written_more (form_in style quoted c) c (name_chars style quoted cs m) n

fits_at : (bytes own : List ℕ) (k : Category) → bytes ≡ encode_utf8_all own → Fits Div (encode_utf8_all own) k → Fits Div bytes k
fits_at bytes own k e f = subst (λ (l : List ℕ). Fits Div l k) (sym e) f

names : (style : Style) (ts : Input) → Known ts.places → is_word (kind ts) ≡ true → Fits Div (name_bytes style (text ts)) Word
names style ts k w =
    let f = name_of ts k w in
    let own = name_text style f.name [] in
    fits_at (name_bytes style (text ts)) own Word (ap (λ (l : List ℕ). encode_utf8_all (name_text style l [])) f.same)
    (name_fits own f.name (name_scal style false true f.name [] f.are stop).so
    (λ rest h. subst (λ (l : List ℕ). IsName l f.name rest) (chars_append style false f.name [] rest) (name_is_read style f.name rest f.some f.are h)))

quoted_key : (style : Style) (ts : Input) → Known ts.places → is_word (kind ts) ≡ true → is_quoted_key style (chars (text ts)) ≡ true → Fits Div (key_bytes style (text ts)) Str
quoted_key style ts k w q =
    let f = name_of ts k w in
    let own = key_text style f.name [] in
    let quoted : is_quoted_key style f.name ≡ true = sym (ap (is_quoted_key style) f.same) ∙ q in
    let read : SpellsString (flat_map encode_utf16 f.name) false own [] = key_is_read style f.name [] quoted f.are in
    fits_at (key_bytes style (text ts)) own Str (ap (λ (l : List ℕ). encode_utf8_all (key_text style l [])) f.same)
    (string_fits own (flat_map encode_utf16 f.name) false (key_scalars style f.name f.are quoted) (λ rest. raw_is_read (flat_map encode_utf16 f.name) own rest false read))

keys : (style : Style) (ts : Input) → Known ts.places → is_word (kind ts) ≡ true → Fits Div (key_bytes style (text ts)) (class_of_key style (text ts))
keys style ts k w = ⊎_elim
    (λ (t : is_quoted_key style (chars (text ts)) ≡ true). subst (λ (b : Bool). Fits Div (key_bytes style (text ts)) (if b then Str else Word)) (sym t) (quoted_key style ts k w t))
    (λ (e : is_quoted_key style (chars (text ts)) ≡ false). subst (λ (b : Bool). Fits Div (key_bytes style (text ts)) (if b then Str else Word)) (sym e)
    (subst (λ (b : Bool). Fits Div (encode_utf8_all (if b then 34 ∷ name_chars style true (chars (text ts)) (34 ∷ []) else name_text style (chars (text ts)) [])) Word) (sym e) (names style ts k w)))
    (cases_Bool (is_quoted_key style (chars (text ts))))

-- ---- literals

strings : (style : Style) (ts : Input) (u w : List ℕ) → Known ts.places → content ts ≡ Quoted u w → Fits Div (string_bytes style u (Some w)) Str
strings style ts u w k c =
    let f = string_written style ts u w k c in
    let own = string_text style u (Some (chars w)) in
    string_fits own u f.legacy f.are_scalars (λ rest. raw_is_read u own rest f.legacy f.read)

numbers : (style : Style) (ts : Input) (v : SpecNumber) (w : List ℕ) → Known ts.places → content ts ≡ Numeral v w → Fits Div (number_bytes style v (Some w)) Number
numbers style ts v w k c =
    let own = number_bytes style v (Some w) in
    let n = number_written style ts v w k c in
    number_fits own (NumberMeaning v) (number_is_ascii own v n) (λ rest h. number_stands v own rest n h)

pointed : (style : Style) (ts : Input) (v : SpecNumber) (w : List ℕ) → Known ts.places → content ts ≡ Numeral v w → Fits Div (before_member (number_bytes style v (Some w))) Member
pointed style ts v w k c =
    let own = number_bytes style v (Some w) in
    let n = number_written style ts v w k c in
    let m : number_of (before_member own) ≡ Some v = (member_stands v own [] n).spelled in
    member_fits (before_member own) (NumberMeaning v) (number_is_ascii (before_member own) v m) (λ more. member_stands v own more n) (number_stands v (before_member own) [] m (tt, λ _. refl))

big_integers : (style : Style) (ts : Input) (radix : ℕ) (digits w : List ℕ) → Known ts.places → content ts ≡ BigNumeral radix digits w → Fits Div (big_bytes style radix digits (Some w)) Big
big_integers style ts radix digits w k c =
    let own = big_bytes style radix digits (Some w) in
    big_fits own (BigInt radix digits) (big_is_ascii radix digits own (big_written style ts radix digits w k c [] tt).spelled) (λ rest h. big_written style ts radix digits w k c rest h)

characters : (style : Style) (ts : Input) (tagged : Bool) (w : List ℕ) (u : Option (List ℕ)) → Known ts.places → content ts ≡ Piece w u → (tagged || is_some u) ≡ true → Fits TemplateTail (quasi_bytes style tagged w) Quasi
characters style ts tagged w u k c t =
    let p = piece_written style ts tagged w u k c t in
    subst (λ (l : List ℕ). Fits TemplateTail l Quasi) (sym p.same) (quasi_fits p.text u p.are_scalars p.read)

patterns : (ts : Input) (b f : List ℕ) → Known ts.places → content ts ≡ Pattern b f → Fits RegExp (joined (texts_of (regular_expression b f))) Regex
patterns ts b f k c =
    let p = pattern_written ts b f k c in
    let own = reg_exp_text p.body p.flags [] in
    subst (λ (l : List ℕ). Fits RegExp l Regex) (sym p.same)
    (regex_fits (encode_utf8_all own) p.body p.flags (utf8_of own p.are_scalars) (chars-encodes own p.are_scalars ∙ ap (λ (l : List ℕ). 47 ∷ p.body ++ 47 ∷ l) (append-nil p.flags)) p.read.0 p.read.1.2.1)

pub texts_fit : TextsFit
texts_fit style = record {
  names = names style;
  keys = keys style;
  strings = strings style;
  numbers = numbers style;
  pointed = pointed style;
  big_integers = big_integers style;
  characters = characters style;
  patterns = patterns;
}
