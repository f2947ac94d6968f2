-- The kinds of tokens outside of templates, and what stands before other text of these.
use Rattle.std.proofs.Common.{◌≡◌, ℕ, ◌<◌, ◌⊎◌, inl, inr, ⊎_elim, Bool, true, false, not, ◌||◌, List, [], ◌∷◌, ◌++◌, Some, None, refl, sym, ap, subst, ◌∙◌, arith}
use Rattle.std.specs.Prelude.{◌==◌, encode_utf8_all}
use Rattle.std.proofs.lemmas.Bool.{cases_Bool, false≢true, not-true, or_parts}
use Rattle.std.proofs.lemmas.Bool.Decides.{nat_tests}
use Rattle.base_token.specs.Kinds.{back_quote_kind, dollar_brace_kind, hash_kind, left_brace_kind, right_brace_kind, template_kind}
use Rattle.base_token.specs.TokenViews.{token_kind_number}
use Rattle.base_token.specs.Words.{kind_of}
use Rattle.lex_source.specs.declared.contexts.TokenContext.{TokenContext}
use Rattle.lex_source.specs.declared.contexts.TokenContext.TheVariants as t
use Rattle.lex_source.specs.Machine.{told}
use Rattle.lex_pieces.specs.Names.{is_opening}
use Rattle.lex_pieces.specs.Punctuators.{punctuators}
use Rattle.lex_literal.specs.Escapes.{begins}
use Rattle.lex_literal.specs.Numbers.{BigInt, Meaning, Number}
use Rattle.lex_token.specs.declared.goal.LexicalGoal.{LexicalGoal}
use Rattle.lex_token.specs.declared.goal.LexicalGoal.TheVariants.{Div, TemplateTail, TemplateEnd}
use Rattle.lex_token.specs.Lexemes.{SpecLexeme, IsMark, IsOutside, numeral_lexeme}
use Rattle.lex_token.proofs.SortLemmas.{word_begins}
use Rattle.lex_step_laws.specs.States.{Last, Start, Slash, Characters, Fault, Other, contexts_after, opened, template_goal}
use Rattle.lex_step_laws.proofs.Bounds.{word_past}
use Rattle.lex_source.specs.Canonical.Canonical.{is_word}
use Rattle.lex_run_laws.specs.Turns.{is_slash_kind}
use Rattle.lex_run_laws.proofs.Words.{Parted, word_before}
use Rattle.lex_run_laws.proofs.Strings.{string_before}
use Rattle.lex_run_laws.proofs.Marks.{among_holds, holds_all, is_lone, lone_before, mark_before, number_before}
use Rattle.lex_run_laws.proofs.Fronts.{Free, lone_free, mark_free, ordinary_free}

-- ---- no token outside is one of a template's

abbrev pub is_inner_kind : ℕ → Bool
is_inner_kind kind = kind == template_kind || kind == dollar_brace_kind

word_no_inner : (kind : ℕ) → 79 < kind → is_inner_kind kind ≡ false
word_no_inner kind h = grind (arith, nat_tests)

number_no_inner : (m : Meaning) (own : List ℕ) → is_inner_kind (numeral_lexeme m own).token.kind ≡ false
number_no_inner (Number v) own = refl
number_no_inner (BigInt radix digits) own = refl

marks_no_inner : holds_all (λ s k. not (is_inner_kind k)) punctuators ≡ true
unfolding holds_all
marks_no_inner = refl

pub no_inner : (goal : LexicalGoal) (text : List ℕ) (x : SpecLexeme) (rest : List ℕ) → IsOutside goal text x rest → is_inner_kind x.token.kind ≡ false
no_inner goal text x rest (inl (inl h)) =
    ap (λ (l : SpecLexeme). is_inner_kind l.token.kind) h.4 ∙ word_no_inner (kind_of (encode_utf8_all h.0)) (word_past (encode_utf8_all h.0))
no_inner goal text x rest (inl (inr (inl h))) = ap (λ (l : SpecLexeme). is_inner_kind l.token.kind) h.3 ∙ number_no_inner h.0 h.1
no_inner goal text x rest (inl (inr (inr h))) = ap (λ (l : SpecLexeme). is_inner_kind l.token.kind) h.5
no_inner goal text x rest (inr (inl h)) = ap (λ (l : SpecLexeme). is_inner_kind l.token.kind) h.1.3
no_inner goal text x rest (inr (inr h)) =
    ap (λ (l : SpecLexeme). is_inner_kind l.token.kind) h.1.2
    ∙ not-true (is_inner_kind (token_kind_number h.1.0)) (among_holds (λ s k. not (is_inner_kind k)) punctuators h.1.1.1.0 h.1.0 marks_no_inner h.1.1.1.1)

pub no_template : (kind : ℕ) → is_inner_kind kind ≡ false → (kind == template_kind) ≡ false
no_template kind e = (or_parts (kind == template_kind) (kind == dollar_brace_kind) e).0

-- ---- whether a word or a lone punctuator stands there

word_no_lone : (kind : ℕ) → 79 < kind → is_lone kind ≡ false
word_no_lone kind h = grind (arith, nat_tests)

number_no_lone : (m : Meaning) (own : List ℕ) → is_lone (numeral_lexeme m own).token.kind ≡ false
number_no_lone (Number v) own = refl
number_no_lone (BigInt radix digits) own = refl

number_no_word : (m : Meaning) (own : List ℕ) → is_word (told (numeral_lexeme m own).token).content ≡ false
number_no_word (Number v) own = refl
number_no_word (BigInt radix digits) own = refl

-- what is a word begins as one
pub word_opens : (text : List ℕ) (x : SpecLexeme) (rest : List ℕ) → IsOutside Div text x rest → is_word (told x.token).content ≡ true → begins is_opening text ≡ true
word_opens text x rest (inl (inl h)) w = word_begins text h.0 rest h.2
word_opens text x rest (inl (inr (inl h))) w =
    absurd (false≢true (sym (number_no_word h.0 h.1) ∙ sym (ap (λ (l : SpecLexeme). is_word (told l.token).content) h.3) ∙ w))
word_opens text x rest (inl (inr (inr h))) w = absurd (false≢true (sym (ap (λ (l : SpecLexeme). is_word (told l.token).content) h.5) ∙ w))
word_opens text x rest (inr (inl h)) w = absurd (false≢true h.0)
word_opens text x rest (inr (inr h)) w = absurd (false≢true (sym (ap (λ (l : SpecLexeme). is_word (told l.token).content) h.1.2) ∙ w))

-- ---- before what may follow in a canonical text

abbrev pub MayStandBefore : ℕ → List ℕ → Type 0
MayStandBefore kind r = (is_lone kind ≡ true) ⊎ Parted r

word_parted : (kind : ℕ) (r : List ℕ) → 79 < kind → MayStandBefore kind r → Parted r
word_parted kind r h (inl e) = absurd (false≢true (sym (word_no_lone kind h) ∙ e))
word_parted kind r h (inr p) = p

number_parted : (m : Meaning) (own r : List ℕ) → MayStandBefore (numeral_lexeme m own).token.kind r → Parted r
number_parted m own r (inl e) = absurd (false≢true (sym (number_no_lone m own) ∙ e))
number_parted m own r (inr p) = p

mark_by : (text own : List ℕ) (x : SpecLexeme) (rest r : List ℕ) → text ≡ own ++ rest → MayStandBefore x.token.kind r → IsMark text x rest
    → IsMark (own ++ r) x r × Free (own ++ r)
mark_by text own x rest r e (inl n) h = let k = lone_before text own x rest r e n h in (k, lone_free (own ++ r) x r k n)
mark_by text own x rest r e (inr p) h = let k = mark_before text own x rest r e p h in (k, mark_free (own ++ r) x r k p)

-- A token stands before it as well, and no trivia before the token.
pub stands_before : (text own : List ℕ) (x : SpecLexeme) (rest r : List ℕ) → text ≡ own ++ rest → MayStandBefore x.token.kind r → IsOutside Div text x rest
    → IsOutside Div (own ++ r) x r × Free (own ++ r)
stands_before text own x rest r e m (inl (inl h)) =
    let p = word_parted (kind_of (encode_utf8_all h.0)) r (word_past (encode_utf8_all h.0)) (subst (λ (l : SpecLexeme). MayStandBefore l.token.kind r) h.4 m) in
    let k = word_before text own x rest r e p h in
    (inl (inl k), ordinary_free (own ++ r) x r (inl k))
stands_before text own x rest r e m (inl (inr (inl h))) =
    let p = number_parted h.0 h.1 r (subst (λ (l : SpecLexeme). MayStandBefore l.token.kind r) h.3 m) in
    let k = number_before text own x rest r e p h in
    (inl (inr (inl k)), ordinary_free (own ++ r) x r (inr (inl k)))
stands_before text own x rest r e m (inl (inr (inr h))) =
    let k = string_before text own x rest r e h in
    (inl (inr (inr k)), ordinary_free (own ++ r) x r (inr (inr k)))
stands_before text own x rest r e m (inr (inl h)) = absurd (false≢true h.0)
stands_before text own x rest r e m (inr (inr h)) = let k = mark_by text own x rest r e m h.1 in (inr (inr (refl, k.0)), k.1)

-- ---- which goal comes behind a token

pub no_tpl : (cs : List TokenContext) (l m : Last) → template_goal cs l ≡ None → template_goal cs m ≡ None
no_tpl [] l m e = refl
no_tpl (t.BraceStmt ∷ cs) l m e = refl
no_tpl (t.BraceExpr ∷ cs) l m e = refl
no_tpl (t.TplQuasi ∷ cs) l m e = refl
no_tpl (t.ParenStmt is_for_loop ∷ cs) l m e = refl
no_tpl (t.ParenExpr ∷ cs) l m e = refl
no_tpl (t.Tpl ∷ cs) l m e = absurd (tpl l e)
  where
    tpl : (l : Last) → template_goal (t.Tpl ∷ cs) l ≡ None → ⊥
    tpl Start d = let k : Some TemplateTail ≡ None = d in cc
    tpl (Slash from) d = let k : Some TemplateTail ≡ None = d in cc
    tpl Characters d = let k : Some TemplateEnd ≡ None = d in cc
    tpl Fault d = let k : Some TemplateTail ≡ None = d in cc
    tpl Other d = let k : Some TemplateTail ≡ None = d in cc
no_tpl (t.FnExpr ∷ cs) l m e = refl
no_tpl (t.ClassExpr ∷ cs) l m e = refl

pub opened_none : (cs : List TokenContext) (m : Last) → template_goal (opened cs) m ≡ None
opened_none [] m = refl
opened_none (c ∷ cs) m = refl

-- behind a token that is none of a template's and no lone punctuator, no characters of a template come
pub none_after : (kind : ℕ) (cs : List TokenContext) (l m : Last) → template_goal cs l ≡ None → is_inner_kind kind ≡ false → is_lone kind ≡ false
    → template_goal (contexts_after kind cs) m ≡ None
none_after kind cs l m e i n =
    let inner = or_parts (kind == template_kind) (kind == dollar_brace_kind) i in
    let lone = or_parts (kind == hash_kind) (kind == back_quote_kind || kind == right_brace_kind) n in
    let lone2 = or_parts (kind == back_quote_kind) (kind == right_brace_kind) lone.1 in
    ⊎_elim
    (λ (b : (kind == left_brace_kind) ≡ true). rw b (opened_none cs m))
    (λ (b : (kind == left_brace_kind) ≡ false). rw b (rw lone2.1 (rw lone2.0 (rw inner.1 (no_tpl cs l m e)))))
    (cases_Bool (kind == left_brace_kind))

-- ---- slashes

pub slash_plain : (kind : ℕ) → is_slash_kind kind ≡ true → (is_lone kind ≡ false) × (is_inner_kind kind ≡ false) × ((kind == left_brace_kind) ≡ false)
slash_plain kind h = (grind (arith, nat_tests), grind (arith, nat_tests), grind (arith, nat_tests))
