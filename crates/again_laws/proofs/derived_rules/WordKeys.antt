-- The text of a word as a key, and the word `constructor`.
use Rattle.std.proofs.Common.{◌≡◌, ℕ, arith, Bool, true, false, if◌then◌else◌, List, [], ◌∷◌, refl, sym, ap, subst, ◌∙◌, true≢false, codes, bytes_eq, chars, encode_utf8_all}
use Rattle.std.specs.List.{list_any}
use Rattle.std.proofs.lemmas.Bool.{and_parts, false_from_ne_true}
use Rattle.std.proofs.lemmas.Slice.Eq.{bytes_eq-Decides}
use Rattle.unicode_ident.proofs.Computing.{unicode_ident}
use Rattle.base_token.specs.Kinds.{else_kind, name_kind}
use Rattle.base_token.specs.Tokens.{Content}
use Rattle.base_token.specs.Utf16.{utf16}
use Rattle.base_token.specs.Words.{kind_of}
use Rattle.lex_source.specs.Machine.{told}
use Rattle.lex_token.specs.declared.goal.LexicalGoal.TheVariants.{Div}
use Rattle.lex_token.specs.Lexemes.{SpecLexeme, IsLexeme, word_lexeme}
use Rattle.lex_token.proofs.LexemeLemmas.{one_lexeme}
use Rattle.lex_token.proofs.SpelledLemmas.{encoded}
use Rattle.print_spelling.specs.declared.style.Style.{Style}
use Rattle.print_spelling.specs.String.Names.{is_latin, is_quoted_key, name_chars, name_text}
use Rattle.grammar_spec.specs.Tokens.Input.{is_word, text_in}
use Rattle.print_layout_spec.specs.Literals.{key_bytes, name_bytes}
use Rattle.again_laws.specs.Tokens.Means.{Means}
use Rattle.again_laws.proofs.tokens.Ascii.{ascii, is_ascii}
use Rattle.again_laws.proofs.tokens.PlainWords.{is_plain_word, are_parts, plain_word_is}
use Rattle.again_laws.proofs.Latin.{latin_units}

-- a word that stays one is written as a name is
pub key_as_name : (style : Style) (n : List ℕ) → is_quoted_key style (chars n) ≡ false → key_bytes style n ≡ name_bytes style n
key_as_name style n e = ap (λ (v : Bool). encode_utf8_all (if v then 34 ∷ name_chars style true (chars n) (34 ∷ []) else name_text style (chars n) [])) e

-- ---- a word that becomes a string is not `constructor`

pub quoted_constructs : (style : Style) (n : List ℕ) → is_quoted_key style (chars n) ≡ true → bytes_eq (utf16 (chars n)) (codes "constructor") ≡ false
quoted_constructs style n e = false_from_ne_true (bytes_eq (utf16 (chars n)) (codes "constructor"))
    (λ i. true≢false (sym (latin_units (chars n) (and_parts style.ascii_only (list_any is_latin (chars n)) e).1) ∙ ap (λ (l : List ℕ). list_any is_latin l) ((bytes_eq-Decides (utf16 (chars n)) (codes "constructor")).0 i)))

-- ---- the text `constructor` is that word

is_constructor : (is_plain_word (codes "constructor") ≡ true) × (is_ascii (codes "constructor") ≡ true) × (kind_of (codes "constructor") ≡ name_kind)
unfolding is_plain_word are_parts kind_of unicode_ident
is_constructor = (refl, refl, refl)

pub constructor_means : (j : ℕ) (x : Content) (e : Bool) → Means Div (codes "constructor") j x e → (is_word j ≡ true) × (j ≡ else_kind → ⊥) × (text_in x ≡ codes "constructor")
constructor_means j x e h =
    let a = ascii (codes "constructor") is_constructor.1 in
    let own : IsLexeme Div (chars (codes "constructor")) (word_lexeme (codes "constructor") false) [] =
    subst (λ (l : List ℕ). IsLexeme Div l (word_lexeme (codes "constructor") false) []) (sym a.same) (plain_word_is 99 _ is_constructor.0) in
    let same = (one_lexeme Div (chars (codes "constructor")) h.0 (word_lexeme (codes "constructor") false) [] [] h.1 own).0 in
    let bytes : encode_utf8_all (codes "constructor") ≡ codes "constructor" = sym (ap encode_utf8_all a.same) ∙ sym (encoded (codes "constructor") a.utf8) in
    let kind : j ≡ name_kind = h.2 ∙ (ap (λ (l : SpecLexeme). l.token.kind) same ∙ (ap kind_of bytes ∙ is_constructor.2)) in
    (ap is_word kind, λ i. no_else (sym kind ∙ i), ap text_in h.3 ∙ (ap (λ (l : SpecLexeme). text_in (told l.token).content) same ∙ bytes))
  where
    no_else : name_kind ≡ else_kind → ⊥
    no_else i = omega arith
