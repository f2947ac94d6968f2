-- A token is determined by the front of a text, and the sort of what stands there by its first characters.
use Rattle.std.proofs.Common.{◌≡◌, ℕ, ◌⊎◌, inl, inr, Bool, true, false, List, [], ◌∷◌, ◌++◌, refl, sym, ap, subst, ◌∙◌, arith}
use Rattle.std.proofs.lemmas.List.{append_cancel_right}
use Rattle.std.specs.Prelude.{Result, Ok, Err}
use Rattle.std.proofs.lemmas.Bool.{and_parts, false≢true}
use Rattle.base_token.specs.declared.error.Error.{Error}
use Rattle.lex_pieces.proofs.Longest.{one_punctuator}
use Rattle.lex_pieces.proofs.NameLemmas.{one_name}
use Rattle.lex_pieces.proofs.RegExpLemmas.{one_reg_exp}
use Rattle.lex_pieces.proofs.ListLemmas.{same_head, same_tail}
use Rattle.base_token.specs.Tokens.{bare}
use Rattle.base_token.specs.TokenViews.{token_kind_number}
use Rattle.lex_pieces.specs.Names.{IsNameFault}
use Rattle.lex_literal.specs.Numbers.{IsNumberFault}
use Rattle.lex_literal.specs.Strings.{IsStringFault}
use Rattle.lex_literal.specs.declared.template.Ending.{Ending}
use Rattle.lex_literal.specs.declared.template.Ending.TheVariants.{BackQuote, Substitution}
use Rattle.lex_literal.specs.Templates.{Ends}
use Rattle.lex_literal.proofs.NumeralLemmas.{numeral_starts, one_number}
use Rattle.lex_literal.proofs.StringLemmas.{one_string}
use Rattle.lex_literal.proofs.TemplateLemmas.{one_piece}
use Rattle.lex_token.specs.declared.goal.LexicalGoal.{LexicalGoal}
use Rattle.lex_token.specs.declared.goal.LexicalGoal.TheVariants.{Div, RegExp, TemplateTail, TemplateEnd}
use Rattle.lex_token.specs.declared.lexeme.Lexeme.{Lexeme}
use Rattle.lex_token.specs.declared.sort.Sort.{Sort}
use Rattle.lex_token.specs.declared.sort.Sort.TheVariants as s
use Rattle.lex_token.specs.Lexemes.{SpecLexeme, IsCharacters, IsEnd, IsMark, IsMarked, IsNumber, IsOutside, IsOutsideFault, IsPattern, IsPatternFault, IsQuoted, IsStray, IsWord, OneLexeme, ending_kind, numeral_lexeme, pattern_lexeme, plain, string_lexeme, template_lexeme, word_lexeme}
use Rattle.lex_token.specs.Readings.{ReadsAs}
use Rattle.lex_token.specs.Sorts.{opens_regexp, is_slash, sort_by, sort}
use Rattle.lex_token.proofs.SortLemmas.{Holds, holds, mark_begins, pattern_begins, slash_sort, sort_mark, sort_number, sort_string, sort_word, string_begins, word_begins}

-- ---- at most one of each sort

abbrev Same : SpecLexeme → SpecLexeme → List ℕ → List ℕ → Type 0
Same x y r s = (x ≡ y) × (r ≡ s)

marked_same : (text name rest : List ℕ) (a b : Bool) → IsMarked text name rest a → IsMarked text name rest b → a ≡ b
marked_same text name rest true true h g = refl
marked_same text name rest true false h g = absurd (h g)
marked_same text name rest false true h g = absurd (g h)
marked_same text name rest false false h g = refl

one_word : (text : List ℕ) (x y : SpecLexeme) (r s : List ℕ) → IsWord text x r → IsWord text y s → Same x y r s
one_word text x y r s h g =
    let k = one_name text h.0 g.0 r s h.2 g.2 in
    let m = marked_same text g.0 s h.1 g.1 (subst (λ n. IsMarked text n s h.1) k.0 (subst (λ l. IsMarked text h.0 l h.1) k.1 h.3)) g.3 in
    (h.4 ∙ ap (λ n. word_lexeme n h.1) k.0 ∙ ap (word_lexeme g.0) m ∙ sym g.4, k.1)

one_own : (text own other r s : List ℕ) → text ≡ own ++ r → text ≡ other ++ s → r ≡ s → own ≡ other
one_own text own other r s e f k = append_cancel_right own other s (ap (λ l. own ++ l) (sym k) ∙ sym e ∙ f)

one_quoted : (text : List ℕ) (x y : SpecLexeme) (r s : List ℕ) → IsQuoted text x r → IsQuoted text y s → Same x y r s
one_quoted text x y r s h g =
    let k = one_string h.0 g.0 h.2 g.2 text r s h.3 g.3 in
    let o = one_own text h.1 g.1 r s h.4 g.4 k.2 in
    (h.5 ∙ ap (λ u. string_lexeme u h.1 h.2) k.0 ∙ ap (λ l. string_lexeme g.0 l h.2) o ∙ ap (string_lexeme g.0 g.1) k.1 ∙ sym g.5, k.2)

one_numeral : (text : List ℕ) (x y : SpecLexeme) (r s : List ℕ) → IsNumber text x r → IsNumber text y s → Same x y r s
one_numeral text x y r s h g =
    let k = one_number h.0 g.0 h.1 g.1 text r s h.2 g.2 in
    (h.3 ∙ ap (λ m. numeral_lexeme m h.1) k.0 ∙ ap (numeral_lexeme g.0) k.1 ∙ sym g.3, k.2)

one_pattern : (text : List ℕ) (x y : SpecLexeme) (r s : List ℕ) → IsPattern text x r → IsPattern text y s → Same x y r s
one_pattern text x y r s h g =
    let k = one_reg_exp text h.0 g.0 h.1 g.1 r s h.2 g.2 in
    (h.3 ∙ ap (λ b. pattern_lexeme b h.1) k.0 ∙ ap (pattern_lexeme g.0) k.1 ∙ sym g.3, k.2)

one_mark : (text : List ℕ) (x y : SpecLexeme) (r s : List ℕ) → IsMark text x r → IsMark text y s → Same x y r s
one_mark text x y r s h g =
    let k = one_punctuator text h.0 g.0 r s h.1 g.1 in
    (h.2 ∙ ap (λ n. plain (bare (token_kind_number n))) k.0 ∙ sym g.2, k.1)

-- ---- templates

pub same_ending : (ending : Ending) (a b r : List ℕ) → Ends ending a r → Ends ending b r → a ≡ b
same_ending BackQuote a b r h g = h ∙ sym g
same_ending Substitution a b r h g = h ∙ sym g

one_characters : (text : List ℕ) (x y : SpecLexeme) (r s : List ℕ) → IsCharacters text x r → IsCharacters text y s → Same x y r s
one_characters text x y r s h g =
    let k = one_piece h.0 g.0 h.1 g.1 h.2 g.2 text h.3 g.3 h.4 g.4 in
    let e = subst (λ b. Ends g.2 r b) k.3 (subst (λ a. Ends a r h.3) k.2 h.5) in
    (h.6 ∙ ap (λ o. template_lexeme o h.1) k.0 ∙ ap (template_lexeme g.0) k.1 ∙ sym g.6, same_ending g.2 r s g.3 e g.5)

quote_apart : (r s : List ℕ) → 96 ∷ r ≡ 36 ∷ 123 ∷ s → ⊥
quote_apart r s e = let k = same_head 96 36 r (123 ∷ s) e in omega (arith, k)

one_ending : (text : List ℕ) (a b : Ending) (r s : List ℕ) → Ends a text r → Ends b text s → (a ≡ b) × (r ≡ s)
one_ending text BackQuote BackQuote r s h g = (refl, same_tail 96 96 r s (sym h ∙ g))
one_ending text BackQuote Substitution r s h g = absurd (quote_apart r s (sym h ∙ g))
one_ending text Substitution BackQuote r s h g = absurd (quote_apart s r (sym g ∙ h))
one_ending text Substitution Substitution r s h g = (refl, same_tail 123 123 r s (same_tail 36 36 (123 ∷ r) (123 ∷ s) (sym h ∙ g)))

one_end : (text : List ℕ) (x y : SpecLexeme) (r s : List ℕ) → IsEnd text x r → IsEnd text y s → Same x y r s
one_end text x y r s h g =
    let k = one_ending text h.0 g.0 r s h.1 g.1 in
    (h.2 ∙ ap (λ a. plain (bare (ending_kind a))) k.0 ∙ sym g.2, k.1)

-- ---- the sort decides

abbrev pub IsOf : Sort → List ℕ → SpecLexeme → List ℕ → Type 0
IsOf s.Word = IsWord
IsOf s.Number = IsNumber
IsOf s.Str = IsQuoted
IsOf s.RegExp = IsPattern
IsOf s.Punctuator = IsMark

abbrev pub FaultOf : Sort → ℕ → List ℕ → Error → Type 0
FaultOf s.Word = IsNameFault
FaultOf s.Number = IsNumberFault
FaultOf s.Str = IsStringFault
FaultOf s.RegExp = IsPatternFault
FaultOf s.Punctuator = IsStray

of_ordinary : (goal : LexicalGoal) (text : List ℕ) (x : SpecLexeme) (rest : List ℕ) → IsWord text x rest ⊎ (IsNumber text x rest ⊎ IsQuoted text x rest) → IsOf (sort goal text) text x rest
of_ordinary goal text x rest (inl h) = subst (λ k. IsOf k text x rest) (sym (sort_word goal text (word_begins text h.0 rest h.2))) h
of_ordinary goal text x rest (inr (inl h)) = subst (λ k. IsOf k text x rest) (sym (sort_number goal text (numeral_starts h.0 h.1 text rest h.2))) h
of_ordinary goal text x rest (inr (inr h)) = subst (λ k. IsOf k text x rest) (sym (sort_string goal text (string_begins h.0 h.2 text rest h.3))) h

of_sort : (goal : LexicalGoal) (text : List ℕ) (x : SpecLexeme) (rest : List ℕ) → IsOutside goal text x rest → IsOf (sort goal text) text x rest
of_sort goal text x rest (inl h) = of_ordinary goal text x rest h
of_sort goal text x rest (inr (inl h)) =
    let b = pattern_begins text h.1.0 h.1.1 rest h.1.2 in
    subst (λ k. IsOf k text x rest) (sym (ap (sort goal) b.1 ∙ slash_sort goal b.0 h.0)) h.1
of_sort goal text x rest (inr (inr h)) = subst (λ k. IsOf k text x rest) (sym (sort_mark goal text h.1.0 rest h.0 h.1.1)) h.1

one_of : (k : Sort) (text : List ℕ) (x y : SpecLexeme) (r s : List ℕ) → IsOf k text x r → IsOf k text y s → Same x y r s
one_of s.Word = one_word
one_of s.Number = one_numeral
one_of s.Str = one_quoted
one_of s.RegExp = one_pattern
one_of s.Punctuator = one_mark

one_outside : (goal : LexicalGoal) (text : List ℕ) (x y : SpecLexeme) (r s : List ℕ) → IsOutside goal text x r → IsOutside goal text y s → Same x y r s
one_outside goal text x y r s h g = one_of (sort goal text) text x y r s (of_sort goal text x r h) (of_sort goal text y s g)

pub one_lexeme : (goal : LexicalGoal) (text : List ℕ) → OneLexeme goal text
one_lexeme Div text = one_outside Div text
one_lexeme RegExp text = one_outside RegExp text
one_lexeme TemplateTail text = one_characters text
one_lexeme TemplateEnd text = one_end text

-- ---- what reading a sort says of the whole

outside_of : (goal : LexicalGoal) (c : ℕ) (cs : List ℕ) (k : Sort) → Holds goal c cs k → (x : SpecLexeme) (rest : List ℕ) → IsOf k (c ∷ cs) x rest → IsOutside goal (c ∷ cs) x rest
outside_of goal c cs s.Word e x rest h = inl (inl h)
outside_of goal c cs s.Number e x rest h = inl (inr (inl h))
outside_of goal c cs s.Str e x rest h = inl (inr (inr h))
outside_of goal c cs s.RegExp e x rest h = inr (inl ((and_parts (opens_regexp goal) (is_slash c) e).0, h))
outside_of goal c cs s.Punctuator e x rest h = inr (inr (e.1, h))

outside_fault : (end : ℕ) (goal : LexicalGoal) (c : ℕ) (cs : List ℕ) (k : Sort) → Holds goal c cs k → (e : Error) → FaultOf k end (c ∷ cs) e → IsOutsideFault end goal (c ∷ cs) e
outside_fault end goal c cs s.Word o e h = inl (o, h)
outside_fault end goal c cs s.Number o e h = inr (inl (o, h))
outside_fault end goal c cs s.Str o e h = inr (inr (inl (o, h)))
outside_fault end goal c cs s.RegExp o e h = inr (inr (inr (inl (o, h))))
outside_fault end goal c cs s.Punctuator o e h = inr (inr (inr (inr (o.0, o.1, h))))

read_by : (end : ℕ) (goal : LexicalGoal) (c : ℕ) (cs : List ℕ) (k : Sort) → sort_by goal c cs ≡ k → (r : Result Lexeme Error)
    → ReadsAs (IsOf k) (FaultOf k end (c ∷ cs)) (c ∷ cs) r → ReadsAs (IsOutside goal) (IsOutsideFault end goal (c ∷ cs)) (c ∷ cs) r
read_by end goal c cs k e (Ok l) h = outside_of goal c cs k (subst (Holds goal c cs) e (holds goal c cs)) _ _ h
read_by end goal c cs k e (Err f) h = λ m. (
  λ x rest g. (h m).0 x rest (subst (λ j. IsOf j (c ∷ cs) x rest) e (of_sort goal (c ∷ cs) x rest g)),
  outside_fault end goal c cs k (subst (Holds goal c cs) e (holds goal c cs)) f (h m).1,
)

pub read_sort : (end : ℕ) (goal : LexicalGoal) (text : List ℕ) (c : ℕ) (cs : List ℕ) → text ≡ c ∷ cs → (k : Sort) → sort_by goal c cs ≡ k → (r : Result Lexeme Error)
    → ReadsAs (IsOf k) (FaultOf k end text) text r → ReadsAs (IsOutside goal) (IsOutsideFault end goal text) text r
read_sort end goal text c cs cut k e r h =
    subst (λ t. ReadsAs (IsOutside goal) (IsOutsideFault end goal t) t r) (sym cut) (read_by end goal c cs k e r (subst (λ t. ReadsAs (IsOf k) (FaultOf k end t) t r) cut h))

-- nothing stands at the end of a text
pub none_at_end : (goal : LexicalGoal) (text : List ℕ) → text ≡ [] → (x : SpecLexeme) (rest : List ℕ) → IsOutside goal text x rest → ⊥
none_at_end goal text e x rest h =
    let m = of_sort goal [] x rest (subst (λ t. IsOutside goal t x rest) e h) in
    false≢true (mark_begins [] m.0 rest m.1)
