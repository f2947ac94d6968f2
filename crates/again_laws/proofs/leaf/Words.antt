-- The words of a source as they are written are these words again (ECMA-262, 12.7).
use Rattle.std.proofs.Common.{◌≡◌, ◌≢◌, ℕ, ◌⊎◌, inl, inr, ⊎_elim, Bool, true, false, cond, ◌&&◌, not, List, [], ◌∷◌, ◌++◌, refl, sym, ap, subst, ◌∙◌, arith}
use Rattle.std.specs.Prelude.{◌==◌, if◌then◌else◌, nat_lt, encode_utf8_all, bytes_eq}
use Rattle.std.specs.Str.{chars}
use Rattle.std.specs.List.{list_all, flat_map}
use Rattle.std.specs.Char.Escape.{encode_utf16}
use Rattle.std.proofs.lemmas.Bool.{cases_Bool, false≢true, and_parts, eqb-true, not-true}
use Rattle.std.proofs.lemmas.Bool.Decides.{nat_tests}
use Rattle.std.proofs.lemmas.Slice.Eq.{bytes_eq-Decides}
use Rattle.std.proofs.lemmas.List.{append-nil, append_cancel_right}
use Rattle.std.proofs.lemmas.Str.{chars-encodes}
use lib.Utf8.{scalars}
use Rattle.base_token.specs.Kinds.{name_kind, str_kind}
use Rattle.base_token.specs.Words.{own_words, kind_among, kind_of, word_of}
use Rattle.base_token.specs.Tokens.{SpecToken, Content, Quoted, word_token}
use Rattle.base_token.specs.TokenViews.{token_kind_number}
use Rattle.base_token.specs.declared.token.TokenKind.{TokenKind}
use Rattle.lex_source.specs.Machine.{told}
use Rattle.lex_pieces.specs.Names.{IsName, Spell}
use Rattle.lex_pieces.specs.Punctuators.{Spelling, punctuators as spellings, IsAmong}
use Rattle.lex_literal.specs.declared.template.Ending.{Ending}
use Rattle.lex_literal.specs.declared.template.Ending.TheVariants.{BackQuote, Substitution}
use Rattle.lex_literal.specs.Numbers.{Meaning, Number, BigInt}
use Rattle.lex_literal.specs.Strings.{SpellsString}
use Rattle.lex_token.specs.declared.goal.LexicalGoal.{LexicalGoal}
use Rattle.lex_token.specs.declared.goal.LexicalGoal.TheVariants.{Div, RegExp, TemplateTail, TemplateEnd}
use Rattle.lex_token.specs.Lexemes.{SpecLexeme, IsLexeme, IsOutside, IsMarked, word_lexeme, string_lexeme, numeral_lexeme, ending_kind}
use Rattle.lex_token.proofs.LexemeLemmas.{one_lexeme}
use Rattle.print_spelling.specs.declared.style.Style.{Style}
use Rattle.print_spelling.specs.declared.form.Form.TheVariants.{Bare, Four, FourLower, Braced}
use Rattle.print_spelling.specs.Forms.{written}
use Rattle.print_spelling.specs.String.Names.{name_text, name_chars, key_text, is_quoted_key, AreNameChars}
use Rattle.print_spelling.proofs.string.NameLemmas.{name_is_read, key_is_read}
use Rattle.grammar_spec.specs.Tokens.Input.{PlacedToken, Input, kind, kind_of as kind_at, text, text_in, content_of, is_word}
use Rattle.print_layout_spec.specs.Literals.{name_bytes, key_bytes}
use Rattle.again_laws.proofs.tokens.Ascii.{ascii, is_ascii}
use Rattle.again_laws.proofs.tokens.Known.{name_char}
use Rattle.again_laws.proofs.leaf.Scalars.{low, stop, are_scalars, name_scal}
use Rattle.again_laws.specs.Tokens.Means.{Means, IsRead, IsHashbangRead, Known}

-- ---- a token of a word's kind is a word

all_marks : List Spelling → Bool
all_marks [] = true
all_marks (x ∷ xs) = not (is_word (token_kind_number x.1)) && all_marks xs

spellings_marks : all_marks spellings ≡ true
unfolding all_marks
spellings_marks = refl

mark_no_word : (xs : List Spelling) (s : List ℕ) (t : TokenKind) → all_marks xs ≡ true → IsAmong xs s t → not (is_word (token_kind_number t)) ≡ true
unfolding all_marks
mark_no_word [] s t e h = absurd h
mark_no_word (x ∷ xs) s t e (inl h) = subst (λ (k : TokenKind). not (is_word (token_kind_number k)) ≡ true) h.1 (and_parts (not (is_word (token_kind_number x.1))) (all_marks xs) e).0
mark_no_word (x ∷ xs) s t e (inr h) = mark_no_word xs s t (and_parts (not (is_word (token_kind_number x.1))) (all_marks xs) e).1 h

abbrev Worded : List ℕ → List ℕ → SpecToken → Type 0
Worded from behind t = (name : List ℕ) × IsName from name behind × (t ≡ word_token (word_of (encode_utf8_all name)))

kind_no : (k : ℕ) → is_word k ≡ false → {A : Type 0} → is_word k ≡ true → A
kind_no k e {A = A} f = absurd (false≢true (sym e ∙ f))

numeral_no : (m : Meaning) (own : List ℕ) → is_word (numeral_lexeme m own).token.kind ≡ false
numeral_no (Number v) own = refl
numeral_no (BigInt radix digits) own = refl

ending_no : (e : Ending) → is_word (ending_kind e) ≡ false
ending_no BackQuote = refl
ending_no Substitution = refl

abbrev WordedBy : List ℕ → List ℕ → SpecLexeme → Type 0
WordedBy from behind l = is_word l.token.kind ≡ true → Worded from behind l.token

outside : (goal : LexicalGoal) (from : List ℕ) (l : SpecLexeme) (behind : List ℕ) → IsOutside goal from l behind → WordedBy from behind l
outside goal from l behind (inl (inl h)) = subst (λ (x : SpecLexeme). WordedBy from behind x) (sym h.4) (λ w. (h.0, h.2, refl))
outside goal from l behind (inl (inr (inl h))) = subst (λ (x : SpecLexeme). WordedBy from behind x) (sym h.3) (λ w. absurd (false≢true (sym (numeral_no h.0 h.1) ∙ w)))
outside goal from l behind (inl (inr (inr h))) = subst (λ (x : SpecLexeme). WordedBy from behind x) (sym h.5) (λ w. absurd (false≢true w))
outside goal from l behind (inr (inl h)) = subst (λ (x : SpecLexeme). WordedBy from behind x) (sym h.1.3) (λ w. absurd (false≢true w))
outside goal from l behind (inr (inr h)) = subst (λ (x : SpecLexeme). WordedBy from behind x) (sym h.1.2) (λ w. absurd (false≢true (sym (not-true _ (mark_no_word spellings h.1.1.1.0 h.1.0 spellings_marks h.1.1.1.1)) ∙ w)))

worded : (goal : LexicalGoal) (from : List ℕ) (l : SpecLexeme) (behind : List ℕ) → IsLexeme goal from l behind → WordedBy from behind l
worded Div from l behind h = outside Div from l behind h
worded RegExp from l behind h = outside RegExp from l behind h
worded TemplateTail from l behind h = subst (λ (x : SpecLexeme). WordedBy from behind x) (sym h.6) (λ w. absurd (false≢true w))
worded TemplateEnd from l behind h = subst (λ (x : SpecLexeme). WordedBy from behind x) (sym h.2) (λ w. absurd (false≢true (sym (ending_no h.0) ∙ w)))

-- The first token is a word that was read: of this name.
pub record Word (ps : List PlacedToken) : Type 0 where
  pub from : List ℕ
  pub behind : List ℕ
  pub are : scalars from ≡ true
  pub name : List ℕ
  pub is_name : IsName from name behind
  pub kind_is : kind_at ps ≡ kind_of (encode_utf8_all name)
  pub text_is : text_in (content_of ps) ≡ encode_utf8_all name

place_word : (p : PlacedToken) (ps : List PlacedToken) → IsRead p ⊎ IsHashbangRead p → is_word p.spot.token.kind ≡ true → Word (p ∷ ps)
place_word p ps (inl h) w =
    let g = worded h.0 h.1 h.2 h.3 h.5 (sym (ap (λ (t : SpecToken). is_word t.kind) h.6) ∙ w) in record {
      from = h.1;
      behind = h.3;
      are = h.4;
      name = g.0;
      is_name = g.1;
      kind_is = ap (λ (t : SpecToken). t.kind) h.6 ∙ ap (λ (t : SpecToken). t.kind) g.2;
      text_is = ap (λ (t : SpecToken). text_in t.content) h.6 ∙ ap (λ (t : SpecToken). text_in (told t).content) g.2;
    }
place_word p ps (inr h) w = absurd (false≢true (sym (ap (λ (t : SpecToken). is_word t.kind) h.2) ∙ w))

pub known_word : (ps : List PlacedToken) → Known ps → is_word (kind_at ps) ≡ true → Word ps
known_word [] k w = absurd (false≢true w)
known_word (p ∷ ps) k w = place_word p ps k.0 w

-- ---- the characters of a name

pub chars_are : (first : Bool) (from name behind : List ℕ) → scalars from ≡ true → Spell first from name behind → AreNameChars first name
chars_are first from [] behind s h = tt
chars_are first from (c ∷ cs) behind s h = let p = name_char first from c h.0 s h.1 in (p.0, h.1.0, chars_are false h.0 cs behind p.1 h.2)

-- ---- words with kinds of their own are written without escapes

is_low : ℕ → Bool
is_low c = nat_lt c 0x7F

unfoldable all_low : List (ℕ × List ℕ) → Bool
all_low [] = true
all_low (x ∷ xs) = list_all is_low x.1 && all_low xs

words_low : all_low own_words ≡ true
unfolding all_low is_low
words_low = refl

among_low : (xs : List (ℕ × List ℕ)) (n : List ℕ) → all_low xs ≡ true → (kind_among xs n == name_kind) ≡ false → list_all is_low n ≡ true
unfolding all_low
among_low [] n e k = absurd (false≢true (sym k))
among_low (x ∷ xs) n e k =
    let p = and_parts (list_all is_low x.1) (all_low xs) e in ⊎_elim
    (λ (t : bytes_eq x.1 n ≡ true). subst (λ (l : List ℕ). list_all is_low l ≡ true) ((bytes_eq-Decides x.1 n).0 t) p.0)
    (λ (f : bytes_eq x.1 n ≡ false). among_low xs n p.1 (sym (ap (λ b. (cond b x.0 (kind_among xs n)) == name_kind) f) ∙ k))
    (cases_Bool (bytes_eq x.1 n))

low_ascii : (n : List ℕ) → list_all is_low n ≡ true → is_ascii n ≡ true
unfolding is_low
low_ascii [] e = refl
low_ascii (c ∷ cs) e = let p = and_parts (is_low c) (list_all is_low cs) e in both (nat_lt c 128) (is_ascii cs) (under c p.0) (low_ascii cs p.1)
  where
    both : (a b : Bool) → a ≡ true → b ≡ true → (a && b) ≡ true
    both true b e f = f
    both false b e f = e

    under : (c : ℕ) → nat_lt c 0x7F ≡ true → nat_lt c 128 ≡ true
    under c h = grind (arith, nat_tests)

low_bare : (style : Style) (cs : List ℕ) → list_all is_low cs ≡ true → name_text style cs [] ≡ cs
unfolding is_low
low_bare style [] e = refl
low_bare style (c ∷ cs) e =
    let p = and_parts (is_low c) (list_all is_low cs) e in
    ap (λ b. written (cond b Bare (if style.ascii_only then (if nat_lt c 0x100 then FourLower else (if nat_lt c 0x1_0000 then Four else Braced)) else Bare)) c (name_text style cs [])) p.0
    ∙ ap (λ (l : List ℕ). c ∷ l) (low_bare style cs p.1)

low_name : (style : Style) (name : List ℕ) → AreNameChars true name → (kind_of (encode_utf8_all name) == name_kind) ≡ false → name_text style name [] ≡ name
unfolding kind_of
low_name style name a q =
    let l = among_low own_words (encode_utf8_all name) words_low q in
    let same : encode_utf8_all name ≡ name = sym (ascii (encode_utf8_all name) (low_ascii (encode_utf8_all name) l)).same ∙ chars-encodes name (are_scalars true name a) in
    low_bare style name (sym (ap (λ (n : List ℕ). list_all is_low n) same) ∙ l)

-- ---- a name

-- whether a name is spelled otherwise than it reads
pub same_mark : (text name : List ℕ) → (escaped : Bool) × ((rest : List ℕ) → IsMarked (text ++ rest) name rest escaped)
same_mark text name = ⊎_elim
    (λ (t : bytes_eq text name ≡ true). (false, λ rest. ap (λ (l : List ℕ). l ++ rest) ((bytes_eq-Decides text name).0 t)))
    (λ (f : bytes_eq text name ≡ false). (true, λ rest e. false≢true (sym f ∙ (bytes_eq-Decides text name).1 (append_cancel_right text name rest e))))
    (cases_Bool (bytes_eq text name))

-- The first token is a word: its name, by its characters.
pub record Name (ts : Input) : Type 0 where
  pub name : List ℕ
  pub some : name ≢ []
  pub are : AreNameChars true name
  pub same : chars (text ts) ≡ name
  pub kind_is : kind ts ≡ kind_of (encode_utf8_all name)
  pub text_is : text ts ≡ encode_utf8_all name

pub name_of : (ts : Input) → Known ts.places → is_word (kind ts) ≡ true → Name ts
name_of ts k w =
    let f = known_word ts.places k w in
    let a = chars_are true f.from f.name f.behind f.are f.is_name.1 in record {
      name = f.name;
      some = f.is_name.0;
      are = a;
      same = ap chars f.text_is ∙ chars-encodes f.name (are_scalars true f.name a);
      kind_is = f.kind_is;
      text_is = f.text_is;
    }

pub names : (style : Style) (ts : Input) (j : ℕ) (x : Content) (e : Bool) → Known ts.places → is_word (kind ts) ≡ true → Means Div (name_bytes style (text ts)) j x e
    → (j ≡ kind ts) × (text_in x ≡ text ts) × (e ≡ true → j ≡ name_kind)
names style ts j x e k w h =
    let f = name_of ts k w in
    let a = f.are in
    let own = name_text style f.name [] in
    let bytes : name_bytes style (text ts) ≡ encode_utf8_all own = ap (λ (l : List ℕ). encode_utf8_all (name_text style l [])) f.same in
    let m = same_mark own f.name in
    let marked = subst (λ (l : List ℕ). IsMarked l f.name [] m.0) (append-nil own) (m.1 []) in
    let read : IsName own f.name [] = name_is_read style f.name [] f.some a tt in
    let i : IsLexeme Div (chars (name_bytes style (text ts))) (word_lexeme f.name m.0) [] = subst (λ (l : List ℕ). IsLexeme Div l (word_lexeme f.name m.0) []) (sym (ap chars bytes ∙ chars-encodes own (name_scal style false true f.name [] a stop).so)) (inl (inl (f.name, m.0, read, marked, refl))) in
    let one = (one_lexeme Div (chars (name_bytes style (text ts))) h.0 (word_lexeme f.name m.0) [] [] h.1 i).0 in
    let kinds : j ≡ kind_of (encode_utf8_all f.name) = h.2 ∙ ap (λ (l : SpecLexeme). l.token.kind) one in
    let escape : e ≡ m.0 = h.4 ∙ ap (λ (l : SpecLexeme). l.escaped) one in (
      kinds ∙ sym f.kind_is,
      ap text_in h.3 ∙ (ap (λ (l : SpecLexeme). text_in (told l.token).content) one ∙ sym f.text_is),
      λ t. kinds ∙ plain f.name own (sym escape ∙ t) m.1 (low_name style f.name a),
    )
  where
    plain : (name own : List ℕ) {b : Bool} → b ≡ true → ((rest : List ℕ) → IsMarked (own ++ rest) name rest b) → ((kind_of (encode_utf8_all name) == name_kind) ≡ false → own ≡ name) → kind_of (encode_utf8_all name) ≡ name_kind
    plain name own {b = b} t m g = ⊎_elim
        (λ (y : (kind_of (encode_utf8_all name) == name_kind) ≡ true). eqb-true _ name_kind y)
        (λ (n : (kind_of (encode_utf8_all name) == name_kind) ≡ false). absurd (subst (λ (v : Bool). (rest : List ℕ) → IsMarked (own ++ rest) name rest v) t m [] (ap (λ (l : List ℕ). l ++ []) (g n))))
        (cases_Bool (kind_of (encode_utf8_all name) == name_kind))

-- ---- a word as a key in quotes

pub key_scalars : (style : Style) (cs : List ℕ) → AreNameChars true cs → is_quoted_key style cs ≡ true → scalars (key_text style cs []) ≡ true
key_scalars style cs a q =
    subst (λ (b : Bool). scalars (if b then 34 ∷ name_chars style true cs (34 ∷ []) else name_text style cs []) ≡ true) (sym q)
    (low {n = 34} (omega arith) (name_scal style true true cs (34 ∷ []) a (low {n = 34} (omega arith) stop))).so

pub quoted_keys : (style : Style) (ts : Input) (j : ℕ) (x : Content) (e : Bool) → Known ts.places → is_word (kind ts) ≡ true → is_quoted_key style (chars (text ts)) ≡ true
    → Means Div (key_bytes style (text ts)) j x e → (j ≡ str_kind) × (x ≡ Quoted (flat_map encode_utf16 (chars (text ts))) (key_bytes style (text ts)))
quoted_keys style ts j x e k w q h =
    let f = name_of ts k w in
    let a = f.are in
    let same = f.same in
    let own = key_text style f.name [] in
    let quoted : is_quoted_key style f.name ≡ true = sym (ap (is_quoted_key style) same) ∙ q in
    let units = flat_map encode_utf16 f.name in
    let bytes : key_bytes style (text ts) ≡ encode_utf8_all own = ap (λ (l : List ℕ). encode_utf8_all (key_text style l [])) same in
    let read : SpellsString units false own [] = key_is_read style f.name [] quoted a in
    let s : scalars own ≡ true = key_scalars style f.name a quoted in
    let i : IsLexeme Div (chars (key_bytes style (text ts))) (string_lexeme units own false) [] =
    subst (λ (l : List ℕ). IsLexeme Div l (string_lexeme units own false) []) (sym (ap chars bytes ∙ chars-encodes own s)) (inl (inr (inr (units, own, false, read, sym (append-nil own), refl)))) in
    let one = (one_lexeme Div (chars (key_bytes style (text ts))) h.0 (string_lexeme units own false) [] [] h.1 i).0 in (
      h.2 ∙ ap (λ (l : SpecLexeme). l.token.kind) one,
      h.3 ∙ (ap (λ (l : SpecLexeme). (told l.token).content) one ∙ (ap (λ (l : List ℕ). Quoted (flat_map encode_utf16 l) (encode_utf8_all own)) (sym same) ∙ ap (λ (l : List ℕ). Quoted (flat_map encode_utf16 (chars (text ts))) l) (sym bytes))),
    )
