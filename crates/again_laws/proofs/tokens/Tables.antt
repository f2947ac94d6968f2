-- Texts that tables have by kinds mean the tokens of these kinds.
use Rattle.std.proofs.Common.{◌≡◌, ℕ, ◌⊎◌, inl, inr, ⊎_elim, Bool, true, false, ◌&&◌, ◌||◌, not, List, [], ◌∷◌, ◌++◌, Option, Some, None, refl, sym, ap, subst, ◌∙◌}
use Rattle.std.specs.Prelude.{◌==◌, codes, if◌then◌else◌, encode_utf8_all}
use Rattle.std.specs.Str.{chars}
use Rattle.std.proofs.lemmas.Bool.{false≢true, and_parts, eqb-true, or_cases}
use Rattle.std.proofs.lemmas.List.{append-nil}
use Rattle.std.proofs.lemmas.Str.{chars-nil}
use Rattle.unicode_ident.proofs.Computing.{unicode_ident}
use Rattle.base_token.specs.Kinds.{plus_plus_kind, minus_minus_kind, bang_kind, tilde_kind, add_kind, sub_kind, back_quote_kind, dollar_brace_kind}
use Rattle.base_token.specs.Operators.{operators, operator_text}
use Rattle.base_token.specs.Words.{own_words, own_text, text_among, kind_of}
use Rattle.base_token.specs.Tokens.{Content, bare}
use Rattle.base_token.specs.TokenViews.{token_kind_number}
use Rattle.base_token.specs.declared.token.TokenKind.{TokenKind}
use Rattle.lex_pieces.specs.Characters.{is_decimal_digit}
use Rattle.lex_pieces.specs.Punctuators.{punctuators as spellings, IsNumberDot}
use Rattle.lex_literal.specs.declared.template.Ending.TheVariants.{BackQuote, Substitution}
use Rattle.lex_token.specs.declared.goal.LexicalGoal.TheVariants.{Div, TemplateEnd}
use Rattle.lex_token.specs.Lexemes.{SpecLexeme, IsLexeme, plain, word_lexeme}
use Rattle.lex_token.proofs.LexemeLemmas.{one_lexeme}
use Rattle.lex_token.proofs.SpelledLemmas.{encoded}
use Rattle.lex_run_laws.proofs.Marks.{is_some_text, some_text}
use Rattle.print_layout_spec.specs.Words.{sign_of}
use Rattle.again_laws.specs.Tokens.Means.{Means, TellsKinds}
use Rattle.again_laws.specs.Tokens.Texts.{punctuators, mark_text, ending_text, word_text}
use Rattle.again_laws.proofs.tokens.Ascii.{ascii, is_ascii}
use Rattle.again_laws.proofs.tokens.Punctuators.{look, stays, all_stay, punctuates, always}
use Rattle.again_laws.proofs.tokens.PlainWords.{is_plain_word, are_parts, plain_word_is}
use Rattle.lex_token.proofs.SortLemmas.{word_begins, string_begins}
use Rattle.lex_literal.proofs.NumeralLemmas.{numeral_starts}

-- ---- one text

record IsRead (k : ℕ) (s : List ℕ) : Type 0 where
  lexeme : SpecLexeme
  is_own : IsLexeme Div (chars s) lexeme []
  kind_is : lexeme.token.kind ≡ k
  plainly : lexeme.escaped ≡ false

unfoldable of_kind : Option TokenKind → ℕ → Bool
of_kind None k = false
of_kind (Some t) k = token_kind_number t == k

unfoldable dotless : List ℕ → Bool
dotless [] = true
dotless (c ∷ []) = true
dotless (c ∷ d ∷ cs) = not ((c == 46) && is_decimal_digit d)

unfoldable reads_mark : ℕ → List ℕ → Bool
reads_mark k s = of_kind (look spellings s) k && (dotless s && all_stay always s spellings)

unfoldable reads_word : ℕ → List ℕ → Bool
reads_word k s = is_plain_word s && (kind_of s == k)

unfoldable is_read : ℕ → List ℕ → Bool
is_read k s = is_ascii s && (reads_mark k s || reads_word k s)

no_dot : (s : List ℕ) → dotless s ≡ true → IsNumberDot s → ⊥
unfolding dotless
no_dot s e h = false≢true (sym (ap not h.3) ∙ (sym (ap dotless h.2) ∙ e))

mark_read : (k : ℕ) (s : List ℕ) → is_ascii s ≡ true → reads_mark k s ≡ true → IsRead k s
unfolding reads_mark of_kind
mark_read k s a e =
    let p = and_parts (of_kind (look spellings s) k) _ e in
    let q = and_parts (dotless s) (all_stay always s spellings) p.1 in by (look spellings s) refl p.0 q.0 q.1
  where
    by : (o : Option TokenKind) → look spellings s ≡ o → of_kind o k ≡ true → dotless s ≡ true → all_stay always s spellings ≡ true → IsRead k s
    by None f g d t = absurd (false≢true g)
    by (Some t) f g d w = record {
      lexeme = plain (bare (token_kind_number t));
      is_own = subst (λ (l : List ℕ). IsLexeme Div l (plain (bare (token_kind_number t))) []) (append-nil s ∙ sym (ascii s a).same)
          (inr (inr (refl, (t, punctuates always s [] t f w tt (subst (λ (l : List ℕ). IsNumberDot l → ⊥) (sym (append-nil s)) (no_dot s d)), refl))));
      kind_is = eqb-true (token_kind_number t) k g;
      plainly = refl;
    }

none_plain : is_plain_word [] ≡ true → false ≡ true
unfolding is_plain_word
none_plain e = e

word_read : (k : ℕ) (s : List ℕ) → is_ascii s ≡ true → reads_word k s ≡ true → IsRead k s
unfolding reads_word
word_read k [] a e = absurd (false≢true (none_plain (and_parts (is_plain_word []) (kind_of [] == k) e).0))
word_read k (c ∷ cs) a e =
    let p = and_parts (is_plain_word (c ∷ cs)) (kind_of (c ∷ cs) == k) e in
    let x = ascii (c ∷ cs) a in
    let same : encode_utf8_all (c ∷ cs) ≡ c ∷ cs = sym (ap encode_utf8_all x.same) ∙ sym (encoded (c ∷ cs) x.utf8) in record {
      lexeme = word_lexeme (c ∷ cs) false;
      is_own = subst (λ (l : List ℕ). IsLexeme Div l (word_lexeme (c ∷ cs) false) []) (sym x.same) (plain_word_is c cs p.0);
      kind_is = ap kind_of same ∙ eqb-true (kind_of (c ∷ cs)) k p.1;
      plainly = refl;
    }

text_read : (k : ℕ) (s : List ℕ) → is_read k s ≡ true → IsRead k s
unfolding is_read
text_read k s e =
    let p = and_parts (is_ascii s) _ e in
    ⊎_elim (λ (t : reads_mark k s ≡ true). mark_read k s p.0 t) (λ (t : reads_word k s ≡ true). word_read k s p.0 t) (or_cases (reads_mark k s) (reads_word k s) p.1)

-- ---- no token is nothing

front_none : (s r : List ℕ) → [] ≡ s ++ r → is_some_text s ≡ true → ⊥
front_none [] r e f = false≢true f
front_none (c ∷ cs) r e f = cc

pub no_lexeme : (l : SpecLexeme) → IsLexeme Div [] l [] → ⊥
no_lexeme l (inl (inl h)) = false≢true (word_begins [] h.0 [] h.2)
no_lexeme l (inl (inr (inl h))) = false≢true (numeral_starts h.0 h.1 [] [] h.2)
no_lexeme l (inl (inr (inr h))) = false≢true (string_begins h.0 h.2 [] [] h.3)
no_lexeme l (inr (inl h)) = false≢true h.0
no_lexeme l (inr (inr h)) = front_none h.1.1.1.0 [] h.1.1.1.2 (some_text h.1.1.1.0 h.1.0 h.1.1.1.1)

-- ---- tables

abbrev Reads : ℕ → List ℕ → Type 0
Reads k s = IsRead k s ⊎ (s ≡ [])

unfoldable all_read : List (ℕ × List ℕ) → Bool
all_read [] = true
all_read (x ∷ xs) = is_read x.0 x.1 && all_read xs

chosen : (k : ℕ) (b : Bool) (s t : List ℕ) → (b ≡ true → Reads k s) → (b ≡ false → Reads k t) → Reads k (if b then s else t)
chosen k true s t f g = f refl
chosen k false s t f g = g refl

among : (xs : List (ℕ × List ℕ)) (k : ℕ) → all_read xs ≡ true → Reads k (text_among xs k)
unfolding all_read
among [] k e = inr refl
among (x ∷ xs) k e =
    let p = and_parts (is_read x.0 x.1) (all_read xs) e in
    chosen k (x.0 == k) x.1 (text_among xs k) (λ t. inl (subst (λ n. IsRead n x.1) (eqb-true x.0 k t) (text_read x.0 x.1 p.0))) (λ f. among xs k p.1)

means_kind : (k : ℕ) (s : List ℕ) → Reads k s → (j : ℕ) (x : Content) (e : Bool) → Means Div s j x e → (j ≡ k) × (e ≡ false)
means_kind k s (inl r) j x e h =
    let same = (one_lexeme Div (chars s) h.0 r.lexeme [] [] h.1 r.is_own).0 in
    (h.2 ∙ (ap (λ (l : SpecLexeme). l.token.kind) same ∙ r.kind_is), h.4 ∙ (ap (λ (l : SpecLexeme). l.escaped) same ∙ r.plainly))
means_kind k s (inr n) j x e h = absurd (no_lexeme h.0 (subst (λ (l : List ℕ). IsLexeme Div l h.0 []) (ap chars n ∙ chars-nil) h.1))

marks_read : all_read punctuators ≡ true
unfolding all_read is_read reads_mark reads_word of_kind dotless look stays all_stay is_plain_word are_parts kind_of unicode_ident
marks_read = refl

words_read : all_read own_words ≡ true
unfolding all_read is_read reads_mark reads_word of_kind dotless look stays all_stay is_plain_word are_parts kind_of unicode_ident
words_read = refl

operators_read : all_read operators ≡ true
unfolding all_read is_read reads_mark reads_word of_kind dotless look stays all_stay is_plain_word are_parts kind_of unicode_ident
operators_read = refl

abbrev signs : List (ℕ × List ℕ)
signs = (plus_plus_kind, codes "++") ∷ (minus_minus_kind, codes "--") ∷ (bang_kind, codes "!") ∷ (tilde_kind, codes "~") ∷ (add_kind, codes "+") ∷ (sub_kind, codes "-") ∷ []

signs_read : all_read signs ≡ true
unfolding all_read is_read reads_mark reads_word of_kind dotless look stays all_stay is_plain_word are_parts kind_of unicode_ident
signs_read = refl

-- ---- the tables

pub marks : TellsKinds Div mark_text
marks k = means_kind k (mark_text k) (among punctuators k marks_read)

pub keywords : TellsKinds Div word_text
keywords k = means_kind k (word_text k) (among own_words k words_read)

pub words : TellsKinds Div own_text
unfolding own_text
words k = means_kind k (own_text k) (among own_words k words_read)

pub operators_mean : TellsKinds Div operator_text
unfolding operator_text
operators_mean k = means_kind k (operator_text k) (among operators k operators_read)

sign_read : (k n : ℕ) (s : List ℕ) → IsRead n s → (k == n) ≡ true → Reads k s
sign_read k n s r e = inl (subst (λ m. IsRead m s) (sym (eqb-true k n e)) r)

sign_told : (k : ℕ) → Reads k (sign_of k)
unfolding sign_of own_text all_read
sign_told k =
    let p1 = and_parts _ _ signs_read in
    let p2 = and_parts _ _ p1.1 in
    let p3 = and_parts _ _ p2.1 in
    let p4 = and_parts _ _ p3.1 in
    let p5 = and_parts _ _ p4.1 in
    let p6 = and_parts _ _ p5.1 in
    chosen k (k == plus_plus_kind) _ _ (sign_read k _ _ (text_read _ _ p1.0))
    (λ _. chosen k (k == minus_minus_kind) _ _ (sign_read k _ _ (text_read _ _ p2.0))
    (λ _. chosen k (k == bang_kind) _ _ (sign_read k _ _ (text_read _ _ p3.0))
    (λ _. chosen k (k == tilde_kind) _ _ (sign_read k _ _ (text_read _ _ p4.0))
    (λ _. chosen k (k == add_kind) _ _ (sign_read k _ _ (text_read _ _ p5.0))
    (λ _. chosen k (k == sub_kind) _ _ (sign_read k _ _ (text_read _ _ p6.0)) (λ _. among own_words k words_read))))))

pub signs_mean : TellsKinds Div sign_of
signs_mean k = means_kind k (sign_of k) (sign_told k)

-- ---- what ends the characters of a template

ending_means : (k : ℕ) (s : List ℕ) (l : SpecLexeme) → l.token.kind ≡ k → l.escaped ≡ false → IsLexeme TemplateEnd (chars s) l [] → (j : ℕ) (x : Content) (e : Bool) → Means TemplateEnd s j x e → (j ≡ k) × (e ≡ false)
ending_means k s l a b i j x e h =
    let same = (one_lexeme TemplateEnd (chars s) h.0 l [] [] h.1 i).0 in
    (h.2 ∙ (ap (λ (l : SpecLexeme). l.token.kind) same ∙ a), h.4 ∙ (ap (λ (l : SpecLexeme). l.escaped) same ∙ b))

quote_is : IsLexeme TemplateEnd (chars (codes "`")) (plain (bare back_quote_kind)) []
quote_is = subst (λ (l : List ℕ). IsLexeme TemplateEnd l (plain (bare back_quote_kind)) []) (sym (ascii (codes "`") refl).same) (BackQuote, refl, refl)

dollar_is : IsLexeme TemplateEnd (chars (codes "${")) (plain (bare dollar_brace_kind)) []
dollar_is = subst (λ (l : List ℕ). IsLexeme TemplateEnd l (plain (bare dollar_brace_kind)) []) (sym (ascii (codes "${") refl).same) (Substitution, refl, refl)

no_ending : (l : SpecLexeme) → IsLexeme TemplateEnd [] l [] → ⊥
no_ending l (BackQuote, h, q) = nil 96 [] h
  where
    nil : (c : ℕ) (cs : List ℕ) → [] ≡ c ∷ cs → ⊥
    nil c cs e = cc
no_ending l (Substitution, h, q) = nil 36 (123 ∷ []) h
  where
    nil : (c : ℕ) (cs : List ℕ) → [] ≡ c ∷ cs → ⊥
    nil c cs e = cc

pub endings_mean : TellsKinds TemplateEnd ending_text
endings_mean k j x e = by (back_quote_kind == k) (dollar_brace_kind == k) (λ t. eqb-true back_quote_kind k t) (λ t. eqb-true dollar_brace_kind k t)
  where
    by : (a b : Bool) → (a ≡ true → back_quote_kind ≡ k) → (b ≡ true → dollar_brace_kind ≡ k) → Means TemplateEnd (if a then codes "`" else (if b then codes "${" else [])) j x e → (j ≡ k) × (e ≡ false)
    by true b f g = ending_means k (codes "`") (plain (bare back_quote_kind)) (f refl) refl quote_is j x e
    by false true f g = ending_means k (codes "${") (plain (bare dollar_brace_kind)) (g refl) refl dollar_is j x e
    by false false f g = λ h. absurd (no_ending h.0 (subst (λ (l : List ℕ). IsLexeme TemplateEnd l h.0 []) chars-nil h.1))
