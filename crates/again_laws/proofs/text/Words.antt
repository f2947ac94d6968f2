-- Words are tokens of their category (ECMA-262, 12.7).
use Rattle.std.proofs.Common.{◌≡◌, ℕ, Bool, inl, ⊎_elim, true, false, ◌||◌, not, List, [], ◌∷◌, ◌++◌, refl, sym, ap, subst, ◌∙◌, ◌&&◌}
use Rattle.std.specs.Prelude.{◌==◌}
use Rattle.std.specs.List.{list_all}
use Rattle.std.specs.Str.{chars, IsUtf8}
use Rattle.std.proofs.lemmas.Bool.{cases_Bool, false≢true, and_parts, not-true, or_parts, or_from}
use Rattle.std.proofs.lemmas.List.{append-nil}
use Rattle.unicode_ident.proofs.Computing.{unicode_ident}
use Rattle.lex_pieces.specs.Characters.{is_among, is_white_space, is_line_terminator, white_space, line_terminators, is_name_start}
use Rattle.lex_pieces.specs.Names.{is_opening, is_continuing}
use Rattle.lex_pieces.specs.Runs.{Ends}
use Rattle.lex_pieces.proofs.Apart.{among_passes}
use Rattle.lex_literal.specs.Escapes.{is_decimal}
use Rattle.lex_literal.specs.Numbers.{is_barred}
use Rattle.lex_literal.specs.Standing.{is_point}
use Rattle.lex_token.specs.declared.goal.LexicalGoal.TheVariants.{Div}
use Rattle.lex_token.specs.Lexemes.{SpecLexeme, IsLexeme, IsWord, word_lexeme}
use Rattle.lex_token.proofs.SortLemmas.{digit_no_opening}
use Rattle.again_laws.proofs.tokens.Ascii.{ascii, is_ascii}
use Rattle.again_laws.proofs.tokens.PlainWords.{are_parts, is_plain_word, spell_parts}
use Rattle.again_laws.specs.Tiling.Categories.{Word}
use Rattle.again_laws.specs.Tiling.Following.{Starts, is_wordy, is_dotty, is_safe, never, QuietUnder}
use Rattle.again_laws.specs.Tiling.Goes.{Fits}
use Rattle.again_laws.proofs.tiling.Marks.{quiet_plain, is_lead}

-- ---- what a word begins with

abbrev others : List ℕ
others = 33 ∷ 35 ∷ 38 ∷ 42 ∷ 43 ∷ 45 ∷ 47 ∷ 60 ∷ 61 ∷ 62 ∷ 63 ∷ 124 ∷ []

no_opening : ℕ → Bool
no_opening c = not (is_opening c)

others_no : list_all no_opening others ≡ true
unfolding unicode_ident no_opening
others_no = refl

points_no : list_all no_opening (46 ∷ []) ≡ true
unfolding unicode_ident no_opening
points_no = refl

marks_no : list_all no_opening (47 ∷ 60 ∷ 45 ∷ []) ≡ true
unfolding unicode_ident no_opening
marks_no = refl

blanks_no : (list_all no_opening white_space && list_all no_opening line_terminators) ≡ true
unfolding unicode_ident no_opening
blanks_no = refl

not_among : (ns : List ℕ) (c : ℕ) → list_all no_opening ns ≡ true → is_opening c ≡ true → is_among ns c ≡ false
unfolding no_opening
not_among ns c e h = ⊎_elim
    (λ (t : is_among ns c ≡ true). absurd (false≢true (sym (not-true (is_opening c) (among_passes no_opening ns c e t)) ∙ h)))
    (λ (f : is_among ns c ≡ false). f)
    (cases_Bool (is_among ns c))

pub opening_safe : (c : ℕ) → is_opening c ≡ true → is_safe c ≡ true
opening_safe c h = ap not (not_among others c others_no h)

pub opening_dotless : (c : ℕ) → is_opening c ≡ true → is_dotty c ≡ false
opening_dotless c h = or_from (is_point c) (is_decimal c) (or_parts (c == 46) false (not_among (46 ∷ []) c points_no h)).0 (no_decimal c h)
  where
    no_decimal : (c : ℕ) → is_opening c ≡ true → is_decimal c ≡ false
    no_decimal c h = ⊎_elim (λ (t : is_decimal c ≡ true). absurd (false≢true (sym (digit_no_opening c t) ∙ h))) (λ (f : is_decimal c ≡ false). f) (cases_Bool (is_decimal c))

pub opening_no_lead : (c : ℕ) → is_opening c ≡ true → is_lead c ≡ false
opening_no_lead c h =
    let blanks = and_parts (list_all no_opening white_space) (list_all no_opening line_terminators) blanks_no in
    let m = not_among (47 ∷ 60 ∷ 45 ∷ []) c marks_no h in
    let a = or_parts (c == 47) _ m in
    let b = or_parts (c == 60) _ a.1 in
    let d = or_parts (c == 45) false b.1 in
    or_from (is_white_space c) _ (not_among white_space c blanks.0 h) (or_from (is_line_terminator c) _ (not_among line_terminators c blanks.1 h) (or_from (c == 47) _ a.0 (or_from (c == 60) _ b.0 d.0)))

wordy_continuing : (cs : List ℕ) → Ends is_wordy cs → Ends is_continuing cs
wordy_continuing [] h = tt
wordy_continuing (c ∷ cs) h = (or_parts (is_continuing c) (is_barred c) h).0

-- A text that is read as a word.
pub word_fits : (bytes cs : List ℕ) (c : ℕ) (ds : List ℕ) (x : SpecLexeme) → IsUtf8 bytes → chars bytes ≡ cs → cs ≡ c ∷ ds → is_opening c ≡ true
    → ((rest : List ℕ) → Ends is_continuing rest → IsWord (cs ++ rest) x rest) → Fits Div bytes Word
word_fits bytes cs c ds x u e w o r =
    let first : Starts is_safe is_dotty never cs = record { first = c; others = ds; whole = w; one = opening_safe c o; two = opening_dotless c o; three = refl } in record {
      kind_of = tt;
      utf8 = u;
      lexeme = x;
      front = subst (λ (l : List ℕ). Starts is_safe is_dotty never l) (sym e) first;
      is_own = subst (λ (l : List ℕ). IsLexeme Div l x []) (append-nil cs ∙ sym e) (inl (inl (r [] tt)));
      reads = λ rest h. subst (λ (l : List ℕ). IsLexeme Div (l ++ rest) x rest) (sym e) (inl (inl (r rest (wordy_continuing rest h))));
      quiet = λ rest h. subst (λ (l : List ℕ). QuietUnder Div Word (l ++ rest)) (sym (e ∙ w)) (quiet_plain c (ds ++ rest) (opening_no_lead c o));
    }

-- ---- words without escapes

starts_opens : (c : ℕ) → is_name_start c ≡ true → is_opening c ≡ true
starts_opens c e = ap (λ b. b || (c == 92)) e

pub keyword : (bytes : List ℕ) → is_plain_word bytes ≡ true → Fits Div bytes Word
unfolding is_plain_word
keyword [] e = absurd (false≢true e)
keyword (c ∷ cs) e =
    let p = and_parts (is_name_start c) _ e in
    let q = and_parts (is_ascii (c ∷ cs)) (are_parts cs) p.1 in
    let a = ascii (c ∷ cs) q.0 in
    word_fits (c ∷ cs) (c ∷ cs) c cs (word_lexeme (c ∷ cs) false) a.utf8 a.same refl (starts_opens c p.0)
    (λ rest h. (c ∷ cs, false, ((λ (n : c ∷ cs ≡ []). cc), (cs ++ rest, (p.0, inl refl), spell_parts cs rest q.1), h), refl, refl))
