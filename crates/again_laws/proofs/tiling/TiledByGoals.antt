-- Tokens that tile a text tile it under the goals that a derivation gives them.
use Rattle.std.proofs.Common.{◌≡◌, ℕ, ◌+◌, ◌⊎◌, inl, inr, ⊎_elim, Bool, true, false, ◌&&◌, ◌||◌, not, List, [], ◌∷◌, ◌++◌, refl, sym, ap, subst, ◌∙◌, arith}
use Rattle.std.specs.Prelude.{◌==◌, nat_le, if◌then◌else◌, bytes_eq}
use Rattle.std.proofs.lemmas.Bool.{cases_Bool, false≢true, and_parts, not-true, eqb-true, eq-eqb}
use Rattle.std.proofs.lemmas.Bool.Decides.{nat_tests}
use Rattle.base_token.specs.Kinds.{template_kind, dollar_brace_kind, back_quote_kind, regex_kind, div_kind, div_assign_kind, name_kind, shebang_kind}
use Rattle.base_token.specs.Words.{kind_of, kind_among, own_words}
use Rattle.base_token.specs.Tokens.{Spot, bare}
use Rattle.base_token.specs.TokenViews.{token_kind_number}
use Rattle.lex_pieces.specs.Punctuators.{punctuators}
use Rattle.lex_pieces.specs.Trivia.{IsSkipped, Follow}
use Rattle.lex_pieces.specs.declared.trivia.Goal.{Goal}
use Rattle.lex_literal.specs.declared.template.Ending.{Ending}
use Rattle.lex_literal.specs.declared.template.Ending.TheVariants.{BackQuote, Substitution}
use Rattle.lex_literal.specs.Escapes.{begins}
use Rattle.lex_literal.specs.Templates as templates
use Rattle.lex_token.specs.declared.goal.LexicalGoal.{LexicalGoal}
use Rattle.lex_token.specs.declared.goal.LexicalGoal.TheVariants.{Div, RegExp}
use Rattle.lex_token.specs.Lexemes.{SpecLexeme, IsLexeme, IsOutside, IsEnd, numeral_lexeme, plain}
use Rattle.lex_literal.specs.Numbers.{Meaning, Number, BigInt}
use Rattle.lex_token.specs.Sorts.{is_slash}
use Rattle.lex_token.proofs.LexemeLemmas.{one_lexeme}
use Rattle.lex_run_laws.proofs.Marks.{holds_all, among_holds}
use Rattle.grammar_spec.specs.Tokens.Input.{PlacedToken, usual}
use Rattle.grammar_laws.specs.Slash.TemplateLaws.{Region, Outside, Inside, Behind, Nowhere, after, fits, over}
use Rattle.grammar_laws.proofs.slash.Fits.{not_lost, fits_on}
use Rattle.lex_pieces.specs.Places.{bytes}
use Rattle.lex_step_laws.proofs.Bounds.{characters_kind}
use Rattle.grammar_text_spec.specs.Tiled.{goal_at, whole, IsBefore, IsTile, AreTiles, AfterHashbang}
use Rattle.again_laws.proofs.tokens.Ascii.{ascii}
use Rattle.again_laws.proofs.tiling.Gaps.{are_skipped}
use Rattle.again_laws.proofs.tiling.Marks.{quiet_plain, back_quote, back_quote_is}
use Rattle.again_laws.proofs.tiling.Tiling.{no_trivia}
use Rattle.again_laws.specs.Tiling.Tiles.{HasGoal, AllHaveGoals, SameToken, SameTokens}
use Rattle.again_laws.specs.Tiling.Laws.{TilesAgain}

-- ---- kinds

-- neither of a template nor a regular expression, a back quote or a slash
is_plain : ℕ → Bool
is_plain k = not (k == template_kind) && (not (k == dollar_brace_kind) && (not (k == regex_kind) && (not (k == back_quote_kind) && (not (k == div_kind) && not (k == div_assign_kind)))))

all_kinds : (ℕ → Bool) → List (ℕ × List ℕ) → Bool
all_kinds q [] = true
all_kinds q (w ∷ ws) = q w.0 && all_kinds q ws

among_kinds : (q : ℕ → Bool) (ws : List (ℕ × List ℕ)) (text : List ℕ) → all_kinds q ws ≡ true → q name_kind ≡ true → q (kind_among ws text) ≡ true
unfolding all_kinds
among_kinds q [] text e n = n
among_kinds q (w ∷ ws) text e n =
    let p = and_parts (q w.0) (all_kinds q ws) e in ⊎_elim
    (λ (t : bytes_eq w.1 text ≡ true). rw t p.0)
    (λ (f : bytes_eq w.1 text ≡ false). rw f (among_kinds q ws text p.1 n))
    (cases_Bool (bytes_eq w.1 text))

word_plain : (text : List ℕ) → is_plain (kind_of text) ≡ true
unfolding kind_of all_kinds is_plain
word_plain text = among_kinds is_plain own_words text refl refl

-- each punctuator: no part of a template but the back quote, no regular expression; what begins with a slash is one of the two; a back quote is itself
is_lone : List ℕ → ℕ → Bool
is_lone s k = (not (k == template_kind) && (not (k == dollar_brace_kind) && not (k == regex_kind)))

lone_marks : holds_all is_lone punctuators ≡ true
unfolding holds_all is_lone
lone_marks = refl

is_slashed : List ℕ → ℕ → Bool
is_slashed [] k = false
is_slashed (c ∷ cs) k = not (c == 47) || ((k == div_kind) || (k == div_assign_kind))

slashed_marks : holds_all is_slashed punctuators ≡ true
unfolding holds_all is_slashed
slashed_marks = refl

is_quoted : List ℕ → ℕ → Bool
is_quoted [] k = false
is_quoted (c ∷ cs) k = not (k == back_quote_kind) || (c == 96)

quoted_marks : holds_all is_quoted punctuators ≡ true
unfolding holds_all is_quoted
quoted_marks = refl

-- outside templates: no part of one but a back quote
record Kinds (k : ℕ) : Type 0 where
  no_template : (k == template_kind) ≡ false
  no_dollar : (k == dollar_brace_kind) ≡ false

plain_kinds : (k : ℕ) → is_plain k ≡ true → Kinds k
unfolding is_plain
plain_kinds k e = let p = and_parts (not (k == template_kind)) _ e in record { no_template = not-true _ p.0; no_dollar = not-true _ (and_parts (not (k == dollar_brace_kind)) _ p.1).0 }

at_kind : (P : ℕ → Type 0) (x y : SpecLexeme) → x ≡ y → P y.token.kind → P x.token.kind
at_kind P x y e h = subst (λ (z : SpecLexeme). P z.token.kind) (sym e) h

outside_kinds : (l : LexicalGoal) (text : List ℕ) (x : SpecLexeme) (rest : List ℕ) → IsOutside l text x rest → Kinds x.token.kind
unfolding is_lone
outside_kinds l text x rest (inl (inl h)) = at_kind Kinds x _ h.4 (plain_kinds _ (word_plain _))
outside_kinds l text x rest (inl (inr (inl h))) = at_kind Kinds x _ h.3 (by h.0)
  where
    by : (m : Meaning) → Kinds (numeral_lexeme m h.1).token.kind
    by (Number v) = record { no_template = refl; no_dollar = refl }
    by (BigInt r d) = record { no_template = refl; no_dollar = refl }
outside_kinds l text x rest (inl (inr (inr h))) = at_kind Kinds x _ h.5 (record { no_template = refl; no_dollar = refl })
outside_kinds l text x rest (inr (inl h)) = at_kind Kinds x _ h.1.3 (record { no_template = refl; no_dollar = refl })
outside_kinds l text x rest (inr (inr h)) = at_kind Kinds x _ h.1.2
    (let p = among_holds is_lone punctuators h.1.1.1.0 h.1.0 lone_marks h.1.1.1.1 in let q = and_parts (not (token_kind_number h.1.0 == template_kind)) _ p in
    record { no_template = not-true _ q.0; no_dollar = not-true _ (and_parts (not (token_kind_number h.1.0 == dollar_brace_kind)) _ q.1).0 })

-- ---- one lexeme under two goals

-- as an operator where it is no regular expression
to_div : (text : List ℕ) (x : SpecLexeme) (rest : List ℕ) → (x.token.kind == regex_kind) ≡ false → IsLexeme RegExp text x rest → IsLexeme Div text x rest
to_div text x rest k (inl h) = inl h
to_div text x rest k (inr (inl h)) = absurd (false≢true (sym k ∙ ap (λ (y : SpecLexeme). y.token.kind == regex_kind) h.1.3))
to_div text x rest k (inr (inr h)) = inr (inr (refl, h.1))

-- where it is no slash, as an operand
mark_no_slash : (s rest text : List ℕ) (k : ℕ) → text ≡ s ++ rest → is_slashed s k ≡ true → ((k == div_kind) || (k == div_assign_kind)) ≡ false → begins is_slash text ≡ false
unfolding is_slashed
mark_no_slash [] rest text k e i n = absurd (false≢true i)
mark_no_slash (c ∷ cs) rest text k e i n = ap (begins is_slash) e ∙ not_by (c == 47) _ i n
  where
    not_by : (a b : Bool) → (not a || b) ≡ true → b ≡ false → a ≡ false
    not_by true b i n = absurd (false≢true (sym n ∙ i))
    not_by false b i n = refl

to_regexp : (text : List ℕ) (x : SpecLexeme) (rest : List ℕ) → ((x.token.kind == div_kind) || (x.token.kind == div_assign_kind)) ≡ false → IsLexeme Div text x rest → IsLexeme RegExp text x rest
to_regexp text x rest k (inl h) = inl h
to_regexp text x rest k (inr (inl h)) = absurd (false≢true h.0)
to_regexp text x rest k (inr (inr h)) =
    let n : ((token_kind_number h.1.0 == div_kind) || (token_kind_number h.1.0 == div_assign_kind)) ≡ false = ap (λ (y : SpecLexeme). (y.token.kind == div_kind) || (y.token.kind == div_assign_kind)) (sym h.1.2) ∙ k in
    inr (inr (mark_no_slash h.1.1.1.0 rest text (token_kind_number h.1.0) h.1.1.1.2 (among_holds is_slashed punctuators h.1.1.1.0 h.1.0 slashed_marks h.1.1.1.1) n, h.1))

-- a regular expression is none under the goal of operators
div_no_regex : (text : List ℕ) (x : SpecLexeme) (rest : List ℕ) → IsLexeme Div text x rest → (x.token.kind == regex_kind) ≡ false
unfolding is_lone is_plain
div_no_regex text x rest (inl (inl h)) = at_kind (λ k. (k == regex_kind) ≡ false) x _ h.4 (word_regex _ (word_plain _))
  where
    word_regex : (k : ℕ) → is_plain k ≡ true → (k == regex_kind) ≡ false
    word_regex k e = not-true _ (and_parts (not (k == regex_kind)) _ (and_parts (not (k == dollar_brace_kind)) _ (and_parts (not (k == template_kind)) _ e).1).1).0
div_no_regex text x rest (inl (inr (inl h))) = at_kind (λ k. (k == regex_kind) ≡ false) x _ h.3 (by h.0)
  where
    by : (m : Meaning) → ((numeral_lexeme m h.1).token.kind == regex_kind) ≡ false
    by (Number v) = refl
    by (BigInt r d) = refl
div_no_regex text x rest (inl (inr (inr h))) = at_kind (λ k. (k == regex_kind) ≡ false) x _ h.5 refl
div_no_regex text x rest (inr (inl h)) = absurd (false≢true h.0)
div_no_regex text x rest (inr (inr h)) = at_kind (λ k. (k == regex_kind) ≡ false) x _ h.1.2
    (let p = among_holds is_lone punctuators h.1.1.1.0 h.1.0 lone_marks h.1.1.1.1 in not-true _ (and_parts (not (token_kind_number h.1.0 == dollar_brace_kind)) _ (and_parts (not (token_kind_number h.1.0 == template_kind)) _ p).1).1)

-- ---- goals that are usual

usual_cases : (k g : ℕ) → usual k g ≡ true → (((k == regex_kind) ≡ true) × (g ≡ 1)) ⊎ ((((k == regex_kind) ≡ false) × (g ≡ 0)) ⊎ ((((k == div_kind) || (k == div_assign_kind)) ≡ false) × (g ≡ 1)))
usual_cases k g e = ⊎_elim
    (λ (r : (k == regex_kind) ≡ true). inl (r, eqb-true g 1 (sym (ap (λ b. if b then g == 1 else (if (k == div_kind) || (k == div_assign_kind) then g == 0 else nat_le g 1)) r) ∙ e)))
    (λ (r : (k == regex_kind) ≡ false). inr (
    let f = sym (ap (λ b. if b then g == 1 else (if (k == div_kind) || (k == div_assign_kind) then g == 0 else nat_le g 1)) r) ∙ e in ⊎_elim
    (λ (d : ((k == div_kind) || (k == div_assign_kind)) ≡ true). inl (r, eqb-true g 0 (sym (ap (λ b. if b then g == 0 else nat_le g 1) d) ∙ f)))
    (λ (d : ((k == div_kind) || (k == div_assign_kind)) ≡ false). low (sym (ap (λ b. if b then g == 0 else nat_le g 1) d) ∙ f) r d)
    (cases_Bool ((k == div_kind) || (k == div_assign_kind)))))
    (cases_Bool (k == regex_kind))
  where
    low : nat_le g 1 ≡ true → (k == regex_kind) ≡ false → ((k == div_kind) || (k == div_assign_kind)) ≡ false → (((k == regex_kind) ≡ false) × (g ≡ 0)) ⊎ ((((k == div_kind) || (k == div_assign_kind)) ≡ false) × (g ≡ 1))
    low n r d = ⊎_elim (λ (z : (g == 0) ≡ true). inl (r, eqb-true g 0 z)) (λ (z : (g == 0) ≡ false). inr (d, one g n z)) (cases_Bool (g == 0))
      where
        one : (g : ℕ) → nat_le g 1 ≡ true → (g == 0) ≡ false → g ≡ 1
        one g n z = grind (arith, nat_tests)

-- outside templates, under the goal that is usual for the token
outside_usual : (g : ℕ) (text : List ℕ) (x : SpecLexeme) (rest : List ℕ) → usual x.token.kind g ≡ true → IsLexeme Div text x rest ⊎ IsLexeme RegExp text x rest → ((x.token.kind == regex_kind) ≡ true → IsLexeme RegExp text x rest)
    → IsLexeme (goal_at g) text x rest
outside_usual g text x rest u h k = by (usual_cases x.token.kind g u)
  where
    at : (n : ℕ) → g ≡ n → IsLexeme (goal_at n) text x rest → IsLexeme (goal_at g) text x rest
    at n e l = subst (λ (z : ℕ). IsLexeme (goal_at z) text x rest) (sym e) l

    div : (x.token.kind == regex_kind) ≡ false → IsLexeme Div text x rest
    div r = ⊎_elim (λ (l : IsLexeme Div text x rest). l) (λ (l : IsLexeme RegExp text x rest). to_div text x rest r l) h

    regexp : ((x.token.kind == div_kind) || (x.token.kind == div_assign_kind)) ≡ false → IsLexeme RegExp text x rest
    regexp d = ⊎_elim (λ (l : IsLexeme Div text x rest). to_regexp text x rest d l) (λ (l : IsLexeme RegExp text x rest). l) h

    by : (((x.token.kind == regex_kind) ≡ true) × (g ≡ 1)) ⊎ ((((x.token.kind == regex_kind) ≡ false) × (g ≡ 0)) ⊎ ((((x.token.kind == div_kind) || (x.token.kind == div_assign_kind)) ≡ false) × (g ≡ 1))) → IsLexeme (goal_at g) text x rest
    by (inl p) = at 1 p.1 (k p.0)
    by (inr (inl p)) = at 0 p.1 (div p.0)
    by (inr (inr p)) = at 1 p.1 (regexp p.0)

-- ---- regions

-- What ends the characters of a template comes next, behind them.
abbrev pub Opening : Region → List ℕ → Type 0
Opening (Behind s) text = (e : Ending) × (r : List ℕ) × templates.Ends e text r
Opening g text = Unit {0}

end_kinds : (text : List ℕ) (x : SpecLexeme) (rest : List ℕ) → IsEnd text x rest → (x.token.kind ≡ back_quote_kind) ⊎ (x.token.kind ≡ dollar_brace_kind)
end_kinds text x rest h = by h.0 (ap (λ (y : SpecLexeme). y.token.kind) h.2)
  where
    by : (e : Ending) → x.token.kind ≡ Rattle.lex_token.specs.Lexemes.ending_kind e → (x.token.kind ≡ back_quote_kind) ⊎ (x.token.kind ≡ dollar_brace_kind)
    by BackQuote k = inl k
    by Substitution k = inr k

-- outside templates nothing of one stands but a back quote
outside_not : (s : List Bool) (k : ℕ) → (after (Outside s) k ≡ Nowhere → ⊥) → (k ≡ template_kind → ⊥) × (k ≡ dollar_brace_kind → ⊥)
outside_not s k n = ((λ e. n (ap (after (Outside s)) e)), (λ e. n (ap (after (Outside s)) e)))

inside_is : (s : List Bool) (k : ℕ) → (after (Inside s) k ≡ Nowhere → ⊥) → k ≡ template_kind
inside_is s k n = ⊎_elim (λ (t : (k == template_kind) ≡ true). eqb-true k template_kind t) (λ (f : (k == template_kind) ≡ false). absurd (n (ap (λ b. if b then Behind s else Nowhere) f))) (cases_Bool (k == template_kind))

behind_is : (s : List Bool) (k : ℕ) → (after (Behind s) k ≡ Nowhere → ⊥) → (k ≡ back_quote_kind) ⊎ (k ≡ dollar_brace_kind)
behind_is s k n = ⊎_elim
    (λ (t : (k == back_quote_kind) ≡ true). inl (eqb-true k back_quote_kind t))
    (λ (f : (k == back_quote_kind) ≡ false). ⊎_elim
    (λ (t : (k == dollar_brace_kind) ≡ true). inr (eqb-true k dollar_brace_kind t))
    (λ (g : (k == dollar_brace_kind) ≡ false). absurd (n (rw f (rw g refl))))
    (cases_Bool (k == dollar_brace_kind)))
    (cases_Bool (k == back_quote_kind))

-- no trivia stands before what begins with none
none_skipped : (goal : Goal) (first : Bool) (c : ℕ) (cs : List ℕ) (b : Bool) (from : List ℕ) → Rattle.again_laws.proofs.tiling.Marks.is_lead c ≡ false → IsSkipped goal first (c ∷ cs) b from → (c ∷ cs ≡ from) × (b ≡ false)
none_skipped goal first c cs b from n h = by h.0 h.1.0 h.2
  where
    by : (ps : List Rattle.lex_pieces.specs.Trivia.Piece) → Follow goal first (c ∷ cs) ps from → b ≡ Rattle.std.specs.List.list_any Rattle.lex_pieces.specs.Trivia.breaks ps → (c ∷ cs ≡ from) × (b ≡ false)
    by [] f e = (f, e)
    by (p ∷ ps) f e = let q = quiet_plain c cs n in absurd ((no_trivia goal first (c ∷ cs) q.0 (λ t. q.1)).0 p f.0 f.1)

-- ---- back quotes

quote_reads : (rest : List ℕ) → IsLexeme Div (96 ∷ rest) (plain (bare back_quote_kind)) rest
quote_reads rest = subst (λ (y : SpecLexeme). IsLexeme Div (96 ∷ rest) y rest) back_quote_is (subst (λ (l : List ℕ). IsLexeme Div (l ++ rest) back_quote.lexeme rest) (ascii (96 ∷ []) refl).same (back_quote.reads rest tt))

differ : (k m n : ℕ) {A : Type 0} → k ≡ m → k ≡ n → (m == n) ≡ false → A
differ k m n e f d = absurd (false≢true (sym d ∙ eq-eqb m n (sym e ∙ f)))

-- a back quote that ends characters, under the goal of operators
as_mark : (from rest : List ℕ) (x : SpecLexeme) → IsEnd from x rest → (x.token.kind ≡ dollar_brace_kind → ⊥) → (from ≡ 96 ∷ rest) × IsLexeme Div from x rest
as_mark from rest x h n = by h.0 h.1 h.2
  where
    by : (e : Ending) → templates.Ends e from rest → x ≡ plain (bare (Rattle.lex_token.specs.Lexemes.ending_kind e)) → (from ≡ 96 ∷ rest) × IsLexeme Div from x rest
    by BackQuote e f = (e, subst (λ (l : List ℕ). IsLexeme Div l x rest) (sym e) (subst (λ (y : SpecLexeme). IsLexeme Div (96 ∷ rest) y rest) (sym f) (quote_reads rest)))
    by Substitution e f = absurd (n (ap (λ (y : SpecLexeme). y.token.kind) f))

-- what is a back quote begins with one
begins_quote : (text : List ℕ) (x : SpecLexeme) (rest : List ℕ) → IsLexeme Div text x rest → x.token.kind ≡ back_quote_kind → begins (λ c. c == 96) text ≡ true
unfolding is_quoted is_plain
begins_quote text x rest (inl (inl h)) k = absurd (false≢true (sym (word_quote _ (word_plain _)) ∙ eq-eqb _ back_quote_kind (ap (λ (y : SpecLexeme). y.token.kind) (sym h.4) ∙ k)))
  where
    word_quote : (n : ℕ) → is_plain n ≡ true → (n == back_quote_kind) ≡ false
    word_quote n e = not-true _ (and_parts (not (n == back_quote_kind)) _ (and_parts (not (n == regex_kind)) _ (and_parts (not (n == dollar_brace_kind)) _ (and_parts (not (n == template_kind)) _ e).1).1).1).0
begins_quote text x rest (inl (inr (inl h))) k = by h.0 (ap (λ (y : SpecLexeme). y.token.kind) (sym h.3) ∙ k)
  where
    by : (m : Meaning) → (numeral_lexeme m h.1).token.kind ≡ back_quote_kind → begins (λ c. c == 96) text ≡ true
    by (Number v) e = absurd (false≢true (eq-eqb _ back_quote_kind e))
    by (BigInt r d) e = absurd (false≢true (eq-eqb _ back_quote_kind e))
begins_quote text x rest (inl (inr (inr h))) k = absurd (false≢true (eq-eqb _ back_quote_kind (ap (λ (y : SpecLexeme). y.token.kind) (sym h.5) ∙ k)))
begins_quote text x rest (inr (inl h)) k = absurd (false≢true h.0)
begins_quote text x rest (inr (inr h)) k =
    by h.1.1.1.0 h.1.1.1.2 (among_holds is_quoted punctuators h.1.1.1.0 h.1.0 quoted_marks h.1.1.1.1) (eq-eqb _ back_quote_kind (ap (λ (y : SpecLexeme). y.token.kind) (sym h.1.2) ∙ k))
  where
    second : (a b : Bool) → (not a || b) ≡ true → a ≡ true → b ≡ true
    second true b e f = e
    second false b e f = absurd (false≢true f)

    by : (s : List ℕ) → text ≡ s ++ rest → is_quoted s (token_kind_number h.1.0) ≡ true → (token_kind_number h.1.0 == back_quote_kind) ≡ true → begins (λ c. c == 96) text ≡ true
    by [] e q f = absurd (false≢true q)
    by (c ∷ cs) e q f = ap (begins (λ c. c == 96)) e ∙ second _ _ q f

module _ (goal : Goal) (end : ℕ) where
  kind_of_tile : (first : Bool) (text rest : List ℕ) (t q : PlacedToken) → (h : IsTile end goal first text t rest) → SameToken t q → q.spot.token.kind ≡ h.2.token.kind
  kind_of_tile first text rest t q h m = ap (λ (y : Spot). y.token.kind) (sym m.0 ∙ h.5)

  -- the same tile under another goal
  under : (first : Bool) (text rest : List ℕ) (t q : PlacedToken) → (h : IsTile end goal first text t rest) → SameToken t q → IsBefore q.goal goal first text h.0 h.1 → IsLexeme (goal_at q.goal) h.1 h.2 rest → IsTile end goal first text q rest
  under first text rest t q h m b l = (h.0, h.1, h.2, b, l, sym m.0 ∙ h.5, sym m.1 ∙ h.6)

  -- outside of templates
  outside_tile : (s : List Bool) (first : Bool) (text rest : List ℕ) (t q : PlacedToken) → HasGoal t → IsTile end goal first text t rest → SameToken t q → fits (Outside s) q.spot.token.kind q.goal ≡ true → (after (Outside s) q.spot.token.kind ≡ Nowhere → ⊥)
      → IsTile end goal first text q rest
  outside_tile s first text rest t q k h m f n = by k
    where
      kind : q.spot.token.kind ≡ h.2.token.kind
      kind = kind_of_tile first text rest t q h m

      usually : usual h.2.token.kind q.goal ≡ true
      usually = subst (λ (z : ℕ). usual z q.goal ≡ true) kind (and_parts (usual q.spot.token.kind q.goal) _ f).0

      low : IsSkipped goal first text h.0 h.1 → IsBefore q.goal goal first text h.0 h.1
      low b = ⊎_elim
          (λ (e : ((h.2.token.kind == regex_kind) ≡ true) × (q.goal ≡ 1)). subst (λ (z : ℕ). IsBefore z goal first text h.0 h.1) (sym e.1) b)
          (λ (e : (((h.2.token.kind == regex_kind) ≡ false) × (q.goal ≡ 0)) ⊎ ((((h.2.token.kind == div_kind) || (h.2.token.kind == div_assign_kind)) ≡ false) × (q.goal ≡ 1))). ⊎_elim
          (λ (d : ((h.2.token.kind == regex_kind) ≡ false) × (q.goal ≡ 0)). subst (λ (z : ℕ). IsBefore z goal first text h.0 h.1) (sym d.1) b)
          (λ (d : (((h.2.token.kind == div_kind) || (h.2.token.kind == div_assign_kind)) ≡ false) × (q.goal ≡ 1)). subst (λ (z : ℕ). IsBefore z goal first text h.0 h.1) (sym d.1) b)
          e)
          (usual_cases h.2.token.kind q.goal usually)

      before_at : (z : ℕ) → t.goal ≡ z → IsBefore z goal first text h.0 h.1
      before_at z e = subst (λ (y : ℕ). IsBefore y goal first text h.0 h.1) e h.3

      lexeme_at : (z : ℕ) → t.goal ≡ z → IsLexeme (goal_at z) h.1 h.2 rest
      lexeme_at z e = subst (λ (y : ℕ). IsLexeme (goal_at y) h.1 h.2 rest) e h.4

      no_characters : h.2.token.kind ≡ template_kind → ⊥
      no_characters e = (outside_not s q.spot.token.kind n).0 (kind ∙ e)

      no_dollar : h.2.token.kind ≡ dollar_brace_kind → ⊥
      no_dollar e = (outside_not s q.spot.token.kind n).1 (kind ∙ e)

      quoted : t.goal ≡ 3 → IsTile end goal first text q rest
      quoted e =
          let b = before_at 3 e in
          let z = as_mark h.1 rest h.2 (lexeme_at 3 e) no_dollar in
          let quiet = quiet_plain 96 rest refl in
          let skipped : IsSkipped goal first h.1 false h.1 = subst (λ (l : List ℕ). IsSkipped goal first l false l) (sym z.0) (are_skipped goal first [] (96 ∷ rest) tt refl (no_trivia goal (first || false) (96 ∷ rest) quiet.0 (λ _. quiet.1))) in
          under first text rest t q h m (low (subst (λ (x : Bool). IsSkipped goal first text x h.1) (sym b.1) (subst (λ (l : List ℕ). IsSkipped goal first l false h.1) (sym b.0) skipped)))
          (outside_usual q.goal h.1 h.2 rest usually (inl z.1) (λ r. absurd (false≢true (sym (div_no_regex h.1 h.2 rest z.1) ∙ r))))

      by : HasGoal t → IsTile end goal first text q rest
      by (inl e) = let l = lexeme_at 0 e in under first text rest t q h m (low (before_at 0 e)) (outside_usual q.goal h.1 h.2 rest usually (inl l) (λ r. absurd (false≢true (sym (div_no_regex h.1 h.2 rest l) ∙ r))))
      by (inr (inl e)) = let l = lexeme_at 1 e in under first text rest t q h m (low (before_at 1 e)) (outside_usual q.goal h.1 h.2 rest usually (inr l) (λ r. l))
      by (inr (inr (inl e))) = absurd (no_characters (characters_kind h.1 h.2 rest (lexeme_at 2 e)))
      by (inr (inr (inr e))) = quoted e

  goal_is : (k g n : ℕ) → (g == n) ≡ true → g ≡ n
  goal_is k g n e = eqb-true g n e

  module _ (first : Bool) (text rest : List ℕ) (t q : PlacedToken) (h : IsTile end goal first text t rest) (m : SameToken t q) where
    tile_before : (z : ℕ) → t.goal ≡ z → IsBefore z goal first text h.0 h.1
    tile_before z e = subst (λ (y : ℕ). IsBefore y goal first text h.0 h.1) e h.3

    tile_lexeme : (z : ℕ) → t.goal ≡ z → IsLexeme (goal_at z) h.1 h.2 rest
    tile_lexeme z e = subst (λ (y : ℕ). IsLexeme (goal_at y) h.1 h.2 rest) e h.4

    under_same : (z : ℕ) → t.goal ≡ z → q.goal ≡ z → IsTile end goal first text q rest
    under_same z e f = under first text rest t q h m
        (subst (λ (y : ℕ). IsBefore y goal first text h.0 h.1) (sym f) (tile_before z e)) (subst (λ (y : ℕ). IsLexeme (goal_at y) h.1 h.2 rest) (sym f) (tile_lexeme z e))

    -- among the characters of a template
    inside_tile : HasGoal t → q.goal ≡ 2 → h.2.token.kind ≡ template_kind → IsTile end goal first text q rest × ((e : Ending) × (r : List ℕ) × templates.Ends e rest r)
    inside_tile (inl e) f k = absurd (false≢true (sym (outside_kinds Div h.1 h.2 rest (tile_lexeme 0 e)).no_template ∙ eq-eqb _ template_kind k))
    inside_tile (inr (inl e)) f k = absurd (false≢true (sym (outside_kinds RegExp h.1 h.2 rest (tile_lexeme 1 e)).no_template ∙ eq-eqb _ template_kind k))
    inside_tile (inr (inr (inl e))) f k = let l = tile_lexeme 2 e in (under_same 2 e f, (l.2, l.3, l.5))
    inside_tile (inr (inr (inr e))) f k = ⊎_elim
        (λ (d : h.2.token.kind ≡ back_quote_kind). differ _ _ _ k d refl)
        (λ (d : h.2.token.kind ≡ dollar_brace_kind). differ _ _ _ k d refl)
        (end_kinds h.1 h.2 rest (tile_lexeme 3 e))

    -- behind them
    mark_behind : q.goal ≡ 3 → IsSkipped goal first text h.0 h.1 → IsLexeme Div h.1 h.2 rest → h.2.token.kind ≡ back_quote_kind → (e : Ending) (r : List ℕ) → templates.Ends e text r → IsTile end goal first text q rest
    mark_behind f b l k BackQuote r o =
        let z = none_skipped goal first 96 r h.0 h.1 refl (subst (λ (c : List ℕ). IsSkipped goal first c h.0 h.1) o b) in
        let same = one_lexeme Div (96 ∷ r) h.2 (plain (bare back_quote_kind)) rest r (subst (λ (c : List ℕ). IsLexeme Div c h.2 rest) (sym z.0) l) (quote_reads r) in
        under first text rest t q h m
        (subst (λ (y : ℕ). IsBefore y goal first text h.0 h.1) (sym f) (o ∙ z.0, z.1))
        (subst (λ (y : ℕ). IsLexeme (goal_at y) h.1 h.2 rest) (sym f) (BackQuote, sym z.0 ∙ ap (λ (c : List ℕ). 96 ∷ c) (sym same.1), same.0))
    mark_behind f b l k Substitution r o =
        let z = none_skipped goal first 36 (123 ∷ r) h.0 h.1 refl (subst (λ (c : List ℕ). IsSkipped goal first c h.0 h.1) o b) in
        absurd (false≢true (ap (begins (λ c. c == 96)) z.0 ∙ begins_quote h.1 h.2 rest l k))

    behind_tile : HasGoal t → q.goal ≡ 3 → (h.2.token.kind ≡ back_quote_kind) ⊎ (h.2.token.kind ≡ dollar_brace_kind) → (e : Ending) (r : List ℕ) → templates.Ends e text r → IsTile end goal first text q rest
    behind_tile (inl e) f (inl k) x r o = mark_behind f (tile_before 0 e) (tile_lexeme 0 e) k x r o
    behind_tile (inl e) f (inr k) x r o = absurd (false≢true (sym (outside_kinds Div h.1 h.2 rest (tile_lexeme 0 e)).no_dollar ∙ eq-eqb _ dollar_brace_kind k))
    behind_tile (inr (inl e)) f (inl k) x r o = mark_behind f (tile_before 1 e) (to_div h.1 h.2 rest (ap (λ n. n == regex_kind) k) (tile_lexeme 1 e)) k x r o
    behind_tile (inr (inl e)) f (inr k) x r o = absurd (false≢true (sym (outside_kinds RegExp h.1 h.2 rest (tile_lexeme 1 e)).no_dollar ∙ eq-eqb _ dollar_brace_kind k))
    behind_tile (inr (inr (inl e))) f (inl k) x r o = differ _ _ _ (characters_kind h.1 h.2 rest (tile_lexeme 2 e)) k refl
    behind_tile (inr (inr (inl e))) f (inr k) x r o = differ _ _ _ (characters_kind h.1 h.2 rest (tile_lexeme 2 e)) k refl
    behind_tile (inr (inr (inr e))) f k x r o = under_same 3 e f

  opens_none : (s : List Bool) (k : ℕ) (text : List ℕ) → (k ≡ template_kind → ⊥) → Opening (after (Outside s) k) text
  opens_none s k text n = by (k == Rattle.base_token.specs.Kinds.left_brace_kind) (k == Rattle.base_token.specs.Kinds.right_brace_kind) (k == back_quote_kind) (k == template_kind || k == dollar_brace_kind)
    where
      closes : (s : List Bool) → Opening (Rattle.grammar_laws.specs.Slash.TemplateLaws.closing s) text
      closes [] = tt
      closes (false ∷ s) = tt
      closes (true ∷ s) = tt

      by : (a b c d : Bool) → Opening (if a then Outside (false ∷ s) else (if b then Rattle.grammar_laws.specs.Slash.TemplateLaws.closing s else (if c then Inside s else (if d then Nowhere else Outside s)))) text
      by true b c d = tt
      by false true c d = closes s
      by false false true d = tt
      by false false false true = tt
      by false false false false = tt

  pub retile : (g : Region) (first : Bool) (text : List ℕ) (ts qs : List PlacedToken) → AllHaveGoals ts → AreTiles end goal first text ts → SameTokens ts qs → over g qs ≡ Outside [] → Opening g text → AreTiles end goal first text qs
  retile g first text [] [] k h m o p = h
  retile (Outside s) first text (t ∷ ts) (q ∷ qs) k h m o p =
      let z = fits_on (Outside s) q qs o in
      let n : after (Outside s) q.spot.token.kind ≡ Nowhere → ⊥ = λ e. not_lost qs (subst (λ (r : Region). over r qs ≡ Outside []) e z.1) in
      (h.0, outside_tile s first text h.0 t q k.0 h.1 m.0 z.0 n, retile (after (Outside s) q.spot.token.kind) false h.0 ts qs k.1 h.2 m.1 z.1 (opens_none s q.spot.token.kind h.0 (outside_not s q.spot.token.kind n).0))
  retile (Inside s) first text (t ∷ ts) (q ∷ qs) k h m o p =
      let z = fits_on (Inside s) q qs o in
      let n : after (Inside s) q.spot.token.kind ≡ Nowhere → ⊥ = λ e. not_lost qs (subst (λ (r : Region). over r qs ≡ Outside []) e z.1) in
      let i = inside_is s q.spot.token.kind n in
      let x = inside_tile first text h.0 t q h.1 m.0 k.0 (eqb-true q.goal 2 z.0) (sym (kind_of_tile first text h.0 t q h.1 m.0) ∙ i) in
      (h.0, x.0, retile (Behind s) false h.0 ts qs k.1 h.2 m.1 (subst (λ (j : ℕ). over (after (Inside s) j) qs ≡ Outside []) i z.1) x.1)
  retile (Behind s) first text (t ∷ ts) (q ∷ qs) k h m o p =
      let z = fits_on (Behind s) q qs o in
      let n : after (Behind s) q.spot.token.kind ≡ Nowhere → ⊥ = λ e. not_lost qs (subst (λ (r : Region). over r qs ≡ Outside []) e z.1) in
      let kind = kind_of_tile first text h.0 t q h.1 m.0 in
      let i = behind_is s q.spot.token.kind n in (
        h.0,
        behind_tile first text h.0 t q h.1 m.0 k.0 (eqb-true q.goal 3 z.0) (⊎_elim (λ (e : q.spot.token.kind ≡ back_quote_kind). inl (sym kind ∙ e)) (λ (e : q.spot.token.kind ≡ dollar_brace_kind). inr (sym kind ∙ e)) i) p.0 p.1 p.2,
        retile (after (Behind s) q.spot.token.kind) false h.0 ts qs k.1 h.2 m.1 z.1 (behind_opens s q.spot.token.kind h.0 i),
      )
    where
      behind_opens : (s : List Bool) (k : ℕ) (text : List ℕ) → (k ≡ back_quote_kind) ⊎ (k ≡ dollar_brace_kind) → Opening (after (Behind s) k) text
      behind_opens s k text (inl e) = subst (λ (j : ℕ). Opening (after (Behind s) j) text) (sym e) tt
      behind_opens s k text (inr e) = subst (λ (j : ℕ). Opening (after (Behind s) j) text) (sym e) tt
  retile Nowhere first text (t ∷ ts) (q ∷ qs) k h m o p = absurd (not_lost (q ∷ qs) o)
  retile g first text [] (q ∷ qs) k h m o p = absurd m
  retile g first text (t ∷ ts) [] k h m o p = absurd m

-- behind a hashbang, under any goal
retile_after : (goal : Goal) (end : ℕ) (text : List ℕ) (ps qs : List PlacedToken) → AllHaveGoals ps → AfterHashbang end goal text ps → SameTokens ps qs → over (Outside []) qs ≡ Outside [] → AfterHashbang end goal text qs
retile_after goal end text [] qs k h m o = absurd h
retile_after goal end text (p ∷ ps) [] k h m o = absurd m
retile_after goal end text (p ∷ ps) (q ∷ qs) k h m o =
    let t = h.1 in
    let z = fits_on (Outside []) q qs o in
    let kind : q.spot.token.kind ≡ shebang_kind = ap (λ (x : Spot). x.token.kind) (sym m.0.0 ∙ t.2) in
    (h.0, (t.0, t.1, sym m.0.0 ∙ t.2, sym m.0.1 ∙ t.3), retile goal end (Outside []) false h.0 ps qs k.1 h.2 m.1 (subst (λ (j : ℕ). over (after (Outside []) j) qs ≡ Outside []) kind z.1) tt)

pub tiles_again : TilesAgain
tiles_again start modules text ps qs (inl h) k m o = inl (h.0, retile (whole modules) (start + bytes text) (Outside []) true text ps qs k h.1 m o tt)
tiles_again start modules text ps qs (inr h) k m o = inr (retile_after (whole modules) (start + bytes text) text ps qs k h m o)
