-- What is written of a string is `use strict` where the string was.
use Rattle.std.proofs.Common.{◌≡◌, ℕ, ◌+◌, ◌-◌, ◌/◌, ◌%◌, ◌<◌, ⊎_elim, Bool, true, false, cond, ◌&&◌, List, [], ◌∷◌, ◌++◌, Some, refl, sym, ap, subst, ◌∙◌, arith}
use Rattle.std.specs.Prelude.{◌==◌, codes, nat_lt, encode_utf8_all, bytes_eq}
use Rattle.std.specs.Char.Escape.{encode_utf16}
use Rattle.std.specs.List.{flat_map, list_any, list_all}
use Rattle.std.specs.Str.{chars}
use Rattle.std.proofs.lemmas.Bool.{cases_Bool, false≢true, and_parts, eqb-true, or_cases, or_parts, ltb-true}
use Rattle.std.proofs.lemmas.Slice.Eq.{bytes_eq-Decides}
use Rattle.std.proofs.lemmas.Str.{chars-encodes}
use lib.Utf8.{scalars}
use Rattle.base_proofs.proofs.Bools.{and_false}
use Rattle.base_token.specs.Tokens.{Quoted}
use Rattle.lex_literal.specs.Strings.{Piece, Plain, Escaped, Pieces, SpellsString, is_quote, is_plain, piece_units}
use Rattle.print_spelling.specs.declared.style.Style.{Style}
use Rattle.print_spelling.specs.declared.form.Form.TheVariants.{Bare, Hex}
use Rattle.print_spelling.specs.Forms.{written}
use Rattle.print_spelling.specs.declared.string.quoted.Behind.{Behind}
use Rattle.print_spelling.specs.declared.string.quoted.Behind.TheVariants.{Other}
use Rattle.print_spelling.specs.String.CodePoints.{AreUnits}
use Rattle.print_spelling.specs.String.Strings.{quoted, keeps_raw, chars_text, form_of, behind, is_backslash}
use Rattle.grammar_spec.specs.Tokens.Input.{Input, content}
use Rattle.print_layout_spec.specs.Literals.{string_bytes}
use Rattle.again_laws.proofs.tokens.Ascii.{ascii, is_ascii}
use Rattle.again_laws.specs.Tokens.Means.{Known}
use Rattle.again_laws.specs.Tokens.Texts.{is_strict_text}
use Rattle.again_laws.proofs.leaf.Origins.{from_of}
use Rattle.lex_literal.proofs.StringLemmas.{one_string}
use Rattle.print_spelling.proofs.string.StringLemmas.{quoted_is_read}
use Rattle.again_laws.proofs.leaf.StringAlone.{string_alone}
use Rattle.again_laws.proofs.leaf.Units.{string_units}
use Rattle.again_laws.proofs.leaf.Quotes.{quoted_scalars}
use Rattle.again_laws.proofs.tokens.Known.{scalars_front}
use Rattle.again_laws.proofs.leaf.Literals.{decoded, same_ascii}

abbrev us : List ℕ
us = codes "use strict"

abbrev double : List ℕ
double = codes "\"use strict\""

abbrev single : List ℕ
single = codes "'use strict'"

-- ---- it is a string of these units

plains : List ℕ → List Piece
plains [] = []
plains (c ∷ cs) = Plain c ∷ plains cs

plain_pieces : (q : ℕ) (cs r : List ℕ) → list_all (is_plain q) cs ≡ true → Pieces q (plains cs) (cs ++ r) r
unfolding plains
plain_pieces q [] r e = refl
plain_pieces q (c ∷ cs) r e = let p = and_parts (is_plain q c) (list_all (is_plain q) cs) e in (cs ++ r, (refl, p.0), plain_pieces q cs r p.1)

double_spells : SpellsString us false double []
unfolding plains
double_spells = (plains us, (34, us ++ 34 ∷ [], refl, refl, plain_pieces 34 us (34 ∷ []) refl), refl, refl)

single_spells : SpellsString us false single []
unfolding plains
single_spells = (plains us, (39, us ++ 39 ∷ [], refl, refl, plain_pieces 39 us (39 ∷ []) refl), refl, refl)

same_bytes : (text own : List ℕ) → is_ascii own ≡ true → scalars text ≡ true → encode_utf8_all text ≡ own → text ≡ own
same_bytes text own a s e = sym (chars-encodes text s) ∙ (ap chars e ∙ (ascii own a).same)

units_differ : (u : List ℕ) (l : Bool) (text own : List ℕ) → SpellsString us false own [] → text ≡ own → SpellsString u l text [] → bytes_eq u us ≡ false → ⊥
units_differ u l text own h e g f =
    let same : u ≡ us = (one_string u us l false own [] [] (subst (λ (t : List ℕ). SpellsString u l t []) e g) h).0 in
    false≢true (sym f ∙ (bytes_eq-Decides u us).1 same)

no_strict : (u : List ℕ) (l : Bool) (text : List ℕ) → scalars text ≡ true → SpellsString u l text [] → bytes_eq u us ≡ false → is_strict_text (encode_utf8_all text) ≡ false
no_strict u l text s g f = ⊎_elim
    (λ (t : is_strict_text (encode_utf8_all text) ≡ true). absurd (⊎_elim
    (λ (a : bytes_eq (encode_utf8_all text) double ≡ true). units_differ u l text double double_spells (same_bytes text double refl s ((bytes_eq-Decides _ double).0 a)) g f)
    (λ (a : bytes_eq (encode_utf8_all text) single ≡ true). units_differ u l text single single_spells (same_bytes text single refl s ((bytes_eq-Decides _ single).0 a)) g f)
    (or_cases (bytes_eq (encode_utf8_all text) double) (bytes_eq (encode_utf8_all text) single) t)))
    (λ (n : is_strict_text (encode_utf8_all text) ≡ false). n)
    (cases_Bool (is_strict_text (encode_utf8_all text)))

-- ---- without a backslash it is no other

no_escape : (q : ℕ) (ps : List Piece) (text r : List ℕ) → Pieces q ps text r → list_any is_backslash text ≡ false → (cs : List ℕ) × (text ≡ cs ++ r) × (flat_map piece_units ps ≡ flat_map encode_utf16 cs)
no_escape q [] text r h e = ([], h, refl)
no_escape q (Plain c ∷ ps) text r h e =
    let f = or_parts (is_backslash c) (list_any is_backslash h.0) (sym (ap (list_any is_backslash) h.1.0) ∙ e) in
    let x = no_escape q ps h.0 r h.2 f.1 in
    (c ∷ x.0, h.1.0 ∙ ap (λ (l : List ℕ). c ∷ l) x.1, ap (λ (l : List ℕ). encode_utf16 c ++ l) x.2)
no_escape q (Escaped k ∷ ps) text r h e = absurd (false≢true (sym (sym (ap (list_any is_backslash) h.1.1) ∙ e)))

abbrev low : ℕ → Bool
low c = nat_lt c 128

far : (u x : ℕ) → u < 128 → 0xD800 + x ≡ u → ⊥
far u x h e = omega arith

no_high : (u x : ℕ) → nat_lt u 128 ≡ true → 0xD800 + x ≡ u → ⊥
no_high u x h e = far u x (ltb-true u 128 h) e

units_are : (cs ds : List ℕ) → list_all low ds ≡ true → flat_map encode_utf16 cs ≡ ds → cs ≡ ds
units_are [] ds l e = e
units_are (c ∷ cs) ds l e = ⊎_elim
    (λ (t : nat_lt c 0x1_0000 ≡ true). one ds (λ ds l e. units_are cs ds l e) l (sym (ap (λ b. cond b (c ∷ []) ((0xD800 + (c - 0x1_0000) / 0x400) ∷ (0xDC00 + (c - 0x1_0000) % 0x400) ∷ []) ++ flat_map encode_utf16 cs) t) ∙ e))
    (λ (f : nat_lt c 0x1_0000 ≡ false). absurd (two ds l (sym (ap (λ b. cond b (c ∷ []) ((0xD800 + (c - 0x1_0000) / 0x400) ∷ (0xDC00 + (c - 0x1_0000) % 0x400) ∷ []) ++ flat_map encode_utf16 cs) f) ∙ e)))
    (cases_Bool (nat_lt c 0x1_0000))
  where
    first_is : (x y : ℕ) (xs ys : List ℕ) → x ∷ xs ≡ y ∷ ys → (x ≡ y) × (xs ≡ ys)
    first_is x y xs ys e = (cc, cc)

    no_nil : (x : ℕ) (xs : List ℕ) → x ∷ xs ≡ [] → ⊥
    no_nil x xs e = cc

    one : (ds : List ℕ) → ((ds : List ℕ) → list_all low ds ≡ true → flat_map encode_utf16 cs ≡ ds → cs ≡ ds) → list_all low ds ≡ true → c ∷ flat_map encode_utf16 cs ≡ ds → c ∷ cs ≡ ds
    one [] ih l e = absurd (no_nil c _ e)
    one (d ∷ ds) ih l e = let p = first_is c d (flat_map encode_utf16 cs) ds e in ap (λ (n : ℕ). n ∷ cs) p.0 ∙ ap (λ (l : List ℕ). d ∷ l) (ih ds (and_parts (low d) (list_all low ds) l).1 p.1)

    two : (ds : List ℕ) → list_all low ds ≡ true → (0xD800 + (c - 0x1_0000) / 0x400) ∷ ((0xDC00 + (c - 0x1_0000) % 0x400) ∷ flat_map encode_utf16 cs) ≡ ds → ⊥
    two [] l e = no_nil _ _ e
    two (d ∷ ds) l e = no_high d ((c - 0x1_0000) / 0x400) (and_parts (low d) (list_all low ds) l).0 (first_is (0xD800 + (c - 0x1_0000) / 0x400) d _ ds e).0

is_strict : (q : ℕ) (own : List ℕ) → is_quote q ≡ true → own ≡ q ∷ us ++ q ∷ [] → is_strict_text (encode_utf8_all own) ≡ true
is_strict q own h e = ⊎_elim
    (λ (t : (q == 34) ≡ true). ap (λ (l : List ℕ). is_strict_text (encode_utf8_all l)) (e ∙ ap (λ n. n ∷ us ++ n ∷ []) (eqb-true q 34 t)) ∙ ap is_strict_text (same_ascii double refl))
    (λ (t : (q == 39) ≡ true). ap (λ (l : List ℕ). is_strict_text (encode_utf8_all l)) (e ∙ ap (λ n. n ∷ us ++ n ∷ []) (eqb-true q 39 t)) ∙ ap is_strict_text (same_ascii single refl))
    (or_cases (q == 34) (q == 39) h)

raw_strict : (l : Bool) (own : List ℕ) → SpellsString us l own [] → list_any is_backslash own ≡ false → is_strict_text (encode_utf8_all own) ≡ true
raw_strict l own h e =
    let s = h.1 in
    let f = or_parts (is_backslash s.0) (list_any is_backslash s.1) (sym (ap (list_any is_backslash) s.3) ∙ e) in
    let x = no_escape s.0 h.0 s.1 (s.0 ∷ []) s.4 f.1 in
    let c : x.0 ≡ us = units_are x.0 us refl (sym (h.2 ∙ x.2)) in
    is_strict s.0 own s.2 (s.3 ∙ ap (λ (l : List ℕ). s.0 ∷ l) (x.1 ∙ ap (λ (l : List ℕ). l ++ s.0 ∷ []) c))

-- ---- these units in quotes

abbrev BareChar : Style → ℕ → Type 0
BareChar style c = (b : Behind) (cs : List ℕ) → form_of style 34 b c cs ≡ Bare

b117 : (style : Style) → BareChar style 117
b117 style b cs = ap (λ v. cond v Hex Bare) (and_false style.inline_script)

b115 : (style : Style) → BareChar style 115
b115 style b cs = ap (λ v. cond v Hex Bare) (and_false style.inline_script)

b101 : (style : Style) → BareChar style 101
b101 style b cs = ap (λ v. cond v Hex Bare) (and_false style.inline_script)

b32 : (style : Style) → BareChar style 32
b32 style b cs = ap (λ v. cond v Hex Bare) (and_false style.inline_script)

b116 : (style : Style) → BareChar style 116
b116 style b cs = ap (λ v. cond v Hex Bare) (and_false style.inline_script)

b114 : (style : Style) → BareChar style 114
b114 style b cs = ap (λ v. cond v Hex Bare) (and_false style.inline_script)

b105 : (style : Style) → BareChar style 105
b105 style b cs = ap (λ v. cond v Hex Bare) (and_false style.inline_script)

b99 : (style : Style) → BareChar style 99
b99 style b cs = ap (λ v. cond v Hex Bare) (and_false style.inline_script)

abbrev AllBare : Style → List ℕ → Type 0
AllBare style [] = Unit {0}
AllBare style (c ∷ cs) = BareChar style c × AllBare style cs

bare_text : (style : Style) (b : Behind) (cs m : List ℕ) → AllBare style cs → chars_text style 34 b cs m ≡ cs ++ m
bare_text style b [] m a = refl
bare_text style b (c ∷ cs) m a = ap (λ f. written f c (chars_text style 34 (behind style b c) cs m)) (a.0 b cs) ∙ ap (λ (l : List ℕ). c ∷ l) (bare_text style (behind style b c) cs m a.1)

quoted_strict : (style : Style) → quoted style us [] ≡ double
quoted_strict style = ap (λ (l : List ℕ). 34 ∷ l) (bare_text style Other us (34 ∷ []) (b117 style, (b115 style, (b101 style, (b32 style, (b115 style, (b116 style, (b114 style, (b105 style, (b99 style, (b116 style, tt)))))))))))

-- ---- the field

pub strict_kept : (style : Style) (ts : Input) (u w : List ℕ) → Known ts.places → content ts ≡ Quoted u w
    → is_strict_text (string_bytes style u (Some w)) ≡ is_strict_text w
strict_kept style ts u w k c =
    let f = from_of ts (Quoted u w) k c in
    let own = f.origin.0 in
    let l = f.origin.1 in
    let raw : chars w ≡ own = decoded own w f.from f.behind f.are_scalars f.origin.3 f.origin.4 in
    let read : SpellsString u l own [] = string_alone u l own f.behind (subst (λ (t : List ℕ). SpellsString u l t f.behind) f.origin.3 f.origin.2) in
    let un : AreUnits u = string_units u l f.from f.behind f.are_scalars f.origin.2 in
    let s : scalars own ≡ true = scalars_front own f.behind (sym (ap scalars f.origin.3) ∙ f.are_scalars) in
    ⊎_elim
    (λ (t : keeps_raw style u (chars w) ≡ true). ap (λ b. is_strict_text (encode_utf8_all (cond b (chars w) (quoted style u [])))) t ∙ ap is_strict_text (ap encode_utf8_all raw ∙ sym f.origin.4))
    (λ (n : keeps_raw style u (chars w) ≡ false). ap (λ b. is_strict_text (encode_utf8_all (cond b (chars w) (quoted style u [])))) n ∙ (⊎_elim
    (λ (t : bytes_eq u us ≡ true).
    let same : u ≡ us = (bytes_eq-Decides u us).0 t in
    let bs : list_any is_backslash (chars w) ≡ false = sym (ap (λ b. b && list_any is_backslash (chars w)) t) ∙ (or_parts (bytes_eq u us && list_any is_backslash (chars w)) _ n).0 in
    (ap (λ (x : List ℕ). is_strict_text (encode_utf8_all (quoted style x []))) same ∙ ap (λ (x : List ℕ). is_strict_text (encode_utf8_all x)) (quoted_strict style) ∙ ap is_strict_text (same_ascii double refl))
    ∙ sym (ap is_strict_text f.origin.4 ∙ raw_strict l own (subst (λ (x : List ℕ). SpellsString x l own []) same read) (sym (ap (list_any is_backslash) raw) ∙ bs)))
    (λ (d : bytes_eq u us ≡ false).
    no_strict u false (quoted style u []) (quoted_scalars style u un) (quoted_is_read style u [] un) d ∙ sym (ap is_strict_text f.origin.4 ∙ no_strict u l own s read d))
    (cases_Bool (bytes_eq u us))))
    (cases_Bool (keeps_raw style u (chars w)))
