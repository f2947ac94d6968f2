-- The common way of a step.
use Rattle.std.proofs.Common.{◌≡◌, ℕ, arith, inl, inr, Bool, true, false, List, [], ◌∷◌, ◌++◌, length, Option, Some, None, Result, Ok, Err, refl, sym, ap, subst, ◌∙◌, IsUtf8}
use Rattle.std.proofs.lemmas.Bool.{and_parts, eqb-true, false≢true}
use Rattle.std.specs.Prelude.{◌==◌, ◌&&◌, ◌||◌, not, if◌then◌else◌, OnOk, bytes_eq}
use Rattle.std.specs.Str.{chars}
use Rattle.base_token.specs.declared.error.Error.{Error}
use Rattle.base_token.specs.declared.place.Span.{Span}
use Rattle.base_token.specs.declared.token.Token.{Token}
use Rattle.base_token.specs.declared.token.TokenAndSpan.{TokenAndSpan}
use Rattle.base_token.specs.declared.token.TokenKind.{TokenKind}
use Rattle.base_token.specs.declared.token.TokenKind.TheVariants as kind
use Rattle.base_token.specs.Kinds.{back_quote_kind, div_assign_kind, div_kind, dollar_brace_kind, left_brace_kind, name_kind, right_brace_kind, template_kind}
use Rattle.base_token.specs.Tokens.{SpecToken, Spot, bare}
use Rattle.base_token.specs.TokenViews.{token_kind_number, token_view}
use Rattle.base_token.specs.Words.{kind_among, kind_of, own_words}
use Rattle.lex_literal.specs.Strings.{SpellsString}
use Rattle.lex_pieces.specs.Names.{IsName}
use Rattle.lex_pieces.specs.Punctuators.{IsPunctuator, punctuators}
use Rattle.lex_pieces.specs.Trivia.{IsSkipped}
use Rattle.lex_token.specs.declared.goal.LexicalGoal.TheVariants.{Div}
use Rattle.lex_token.specs.Lexemes as lexeme
use Rattle.lex_token.specs.Lexemes.{IsQuoted, SpecLexeme, plain, string_spelled, word_spelled}
use Rattle.lex_token.specs.Marks.{is_mark}
use Rattle.lex_token.proofs.SortLemmas.{all_kinds, among_kinds}
use Rattle.lex_token.proofs.SpelledLemmas.{encoded}
use Rattle.lex_source.specs.declared.contexts.TokenContext.{TokenContext}
use Rattle.lex_source.specs.declared.contexts.TokenContext.TheVariants.{TplQuasi}
use Rattle.lex_source.specs.Ahead.{is_bare}
use Rattle.lex_source.specs.Machine.{shown_spot, told}
use Rattle.lex_step_laws.specs.States.{Last, Slash, Characters, Other, State, again, again_by, behind, closed, contexts_after, goal_of, is_start, last_after, opened, quoted, spot_at, strict_faults, span_at, template_goal}
use Rattle.lex_step_laws.specs.Steps as steps
use Rattle.lex_step_laws.specs.Steps.{IsGoing, IsPlain, IsRead, IsStep, IsStepBy, IsStepOf}
use Rattle.ecma_lexer.specs.Quick.{IsHanded, is_quiet, is_quiet_mark, passed}
use Rattle.ecma_lexer.specs.Stepping.{Steps}

-- ---- quiet kinds

last_by : (a b c : Bool) (from : List ℕ) → (not a && (not b && c)) ≡ true → (if a then Characters else (if b then Slash from else Other)) ≡ Other
last_by true b c from h = absurd (false≢true h)
last_by false true c from h = absurd (false≢true h)
last_by false false c from h = refl

quiet_last : (k : ℕ) (from : List ℕ) → is_quiet k ≡ true → last_after k from ≡ Other
quiet_last k from h = last_by (k == template_kind) (k == div_kind || k == div_assign_kind) (not (k == back_quote_kind) && not (k == dollar_brace_kind)) from h

contexts_by : (a b c d : Bool) → (not c && not d) ≡ true
    → (if a then opened [] else (if b then closed [] else (if c then quoted [] else (if d then TplQuasi ∷ [] else [])))) ≡ []
contexts_by true b c d h = refl
contexts_by false true c d h = refl
contexts_by false false true d h = absurd (false≢true h)
contexts_by false false false true h = absurd (false≢true h)
contexts_by false false false false h = refl

quiet_contexts : (k : ℕ) → is_quiet k ≡ true → contexts_after k [] ≡ []
quiet_contexts k h =
    let p = and_parts (not (k == template_kind)) (not (k == div_kind || k == div_assign_kind) && (not (k == back_quote_kind) && not (k == dollar_brace_kind))) h in
    let q = and_parts (not (k == div_kind || k == div_assign_kind)) (not (k == back_quote_kind) && not (k == dollar_brace_kind)) p.1 in
    contexts_by (k == left_brace_kind) (k == right_brace_kind) (k == back_quote_kind) (k == dollar_brace_kind) q.1

all_words : (ℕ → Bool) → List (ℕ × List ℕ) → Bool
all_words p [] = true
all_words p (word ∷ words) = p word.0 && all_words p words

if_both : (p : ℕ → Bool) (b : Bool) (x y : ℕ) → p x ≡ true → p y ≡ true → p (if b then x else y) ≡ true
if_both p true x y h k = h
if_both p false x y h k = k

among_words : (p : ℕ → Bool) (words : List (ℕ × List ℕ)) (text : List ℕ) → all_words p words ≡ true → p name_kind ≡ true → p (kind_among words text) ≡ true
unfolding all_words
among_words p [] text h n = n
among_words p (word ∷ words) text h n =
    let parts = and_parts (p word.0) (all_words p words) h in
    if_both p (bytes_eq word.1 text) word.0 (kind_among words text) parts.0 (among_words p words text parts.1 n)

words_quiet : all_words is_quiet own_words ≡ true
unfolding all_words
words_quiet = refl

pub quiet_word : (text : List ℕ) → is_quiet (kind_of text) ≡ true
unfolding kind_of
quiet_word text = among_words is_quiet own_words text words_quiet refl

marks_quiet : all_kinds (λ k. not (is_quiet_mark k) || is_quiet (token_kind_number k)) punctuators ≡ true
unfolding all_kinds
marks_quiet = refl

or_second : (a b : Bool) → a ≡ true → (not a || b) ≡ true → b ≡ true
or_second true b h k = k
or_second false b h k = absurd (false≢true h)

pub quiet_mark : (text : List ℕ) (kind : TokenKind) (rest : List ℕ) → IsPunctuator text kind rest → is_quiet_mark kind ≡ true → is_quiet (token_kind_number kind) ≡ true
quiet_mark text kind rest h q =
    or_second (is_quiet_mark kind) (is_quiet (token_kind_number kind)) q
    (among_kinds (λ k. not (is_quiet_mark k) || is_quiet (token_kind_number k)) punctuators h.1.0 kind marks_quiet h.1.1)

-- ---- the state behind a quiet token

pub nil_of : {A : Type 0} (xs : List A) (b : Bool) → b ≡ (length xs == 0) → b ≡ true → xs ≡ []
nil_of [] b e h = refl
nil_of (x ∷ xs) b e h = let none : length (x ∷ xs) ≡ 0 = eqb-true (length (x ∷ xs)) 0 (sym e ∙ h) in absurd (omega (arith, none))

append_nil : {A : Type 0} (xs : List A) → xs ++ [] ≡ xs
append_nil [] = refl
append_nil (x ∷ xs) = ap (λ l. x ∷ l) (append_nil xs)

made : State → Bool → List ℕ → Last → List TokenContext → List Error → State
made s line_break rest last contexts recorded = record {
  tokens = record { left = rest; end = s.tokens.end; last = last; line_break = line_break };
  settings = record s.settings { contexts = contexts; recorded = recorded };
}

behind_is : (s : State) (line_break : Bool) (from rest : List ℕ) (x : SpecLexeme) → s.settings.contexts ≡ [] → is_quiet x.token.kind ≡ true → x.legacy ≡ None
    → behind s line_break from x rest ≡ passed s line_break rest
unfolding made
behind_is s line_break from rest x empty quiet legal =
    let last = quiet_last x.token.kind from quiet in
    let contexts : contexts_after x.token.kind s.settings.contexts ≡ s.settings.contexts = subst (λ l. contexts_after x.token.kind l ≡ l) (sym empty) (quiet_contexts x.token.kind quiet) in
    let recorded : s.settings.recorded ++ strict_faults s.settings.ctx (span_at s.tokens.end from rest) x.legacy ≡ s.settings.recorded =
    ap (λ l. s.settings.recorded ++ strict_faults s.settings.ctx (span_at s.tokens.end from rest) l) legal ∙ append_nil s.settings.recorded in
    ap (λ l. made s line_break rest l (contexts_after x.token.kind s.settings.contexts) (s.settings.recorded ++ strict_faults s.settings.ctx (span_at s.tokens.end from rest) x.legacy)) last
    ∙ (ap (λ c. made s line_break rest Other c (s.settings.recorded ++ strict_faults s.settings.ctx (span_at s.tokens.end from rest) x.legacy)) contexts
    ∙ ap (λ r. made s line_break rest Other s.settings.contexts r) recorded)

-- ---- the step

-- where no template is open, behind a token that is no slash, the next step is a plain one
plain_step : (s new : State) (out : Option Spot) → s.tokens.last ≡ Other → s.settings.contexts ≡ [] → IsPlain s out new → IsStep s out new
plain_step s new out last empty h =
    let first : again s ≡ None = ap (λ l. again_by l s.settings.next_regexp s.tokens.end) last in
    let second : template_goal s.settings.contexts s.tokens.last ≡ None = ap (λ c. template_goal c s.tokens.last) empty in
    let outside : steps.IsOutside s.tokens.last s out new = subst (λ l. steps.IsOutside l s out new) (sym last) h in
    let going : IsGoing (template_goal s.settings.contexts s.tokens.last) s out new = subst (λ g. IsGoing g s out new) (sym second) outside in
    let by : IsStepBy (again s) s out new = subst (λ o. IsStepBy o s out new) (sym first) going in
    record { is = subst (λ l. IsStepOf l s out new) (sym last) by }

skipped_is : (s : State) (line_break : Bool) (from : List ℕ) → s.tokens.last ≡ Other → IsSkipped (goal_of s.settings.ctx) false s.tokens.left line_break from
    → IsSkipped (goal_of s.settings.ctx) (is_start s.tokens.last) s.tokens.left line_break from
skipped_is s line_break from last h = subst (λ b. IsSkipped (goal_of s.settings.ctx) b s.tokens.left line_break from) (sym (ap is_start last)) h

-- what stands behind trivia is read
pub plain_steps : (s new : State) (line_break : Bool) (from : List ℕ) (r : Result (Option TokenAndSpan) Error) → s.tokens.last ≡ Other → s.settings.contexts ≡ []
    → IsSkipped (goal_of s.settings.ctx) false s.tokens.left line_break from → Steps (IsRead Div line_break from s) r new → Steps (IsStep s) r new
plain_steps s new line_break from (Ok t) last empty h k = plain_step s new _ last empty (inl (line_break, from, skipped_is s line_break from last h, k))
plain_steps s new line_break from (Err e) last empty h k = k

-- the same of a token that was put
pub plain_puts : {X E : Type 0} (s new : State) (line_break : Bool) (from : List ℕ) (out : Option Spot) (r : Result X E) → s.tokens.last ≡ Other → s.settings.contexts ≡ []
    → IsSkipped (goal_of s.settings.ctx) false s.tokens.left line_break from → OnOk r (IsRead Div line_break from s out new) → OnOk r (IsStep s out new)
plain_puts s new line_break from out (Ok t) last empty h k = plain_step s new out last empty (inl (line_break, from, skipped_is s line_break from last h, k))
plain_puts s new line_break from out (Err e) last empty h k = k

-- and so is a quiet token
pub quiet_step : (s new : State) (line_break : Bool) (from rest : List ℕ) (x : SpecLexeme) (out : Option Spot) → s.tokens.last ≡ Other → s.settings.contexts ≡ []
    → IsSkipped (goal_of s.settings.ctx) false s.tokens.left line_break from → lexeme.IsOutside Div from x rest → is_quiet x.token.kind ≡ true → x.legacy ≡ None
    → out ≡ Some (spot_at s.tokens.end line_break x.token from rest) → new ≡ passed s line_break rest → IsStep s out new
quiet_step s new line_break from rest x out last empty h stands quiet legal o n =
    plain_step s new out last empty
    (inl (line_break, from, skipped_is s line_break from last h, inl (x, rest, stands, o, n ∙ sym (behind_is s line_break from rest x empty quiet legal))))

pub word_stands : (text own rest : List ℕ) → IsUtf8 own → IsName text (chars own) rest × (text ≡ chars own ++ rest) → lexeme.IsOutside Div text (word_spelled own false) rest
word_stands text own rest u h = inl (inl (chars own, false, h.0, h.1, ap (λ b. word_spelled b false) (encoded own u)))

pub mark_stands : (text : List ℕ) (kind : TokenKind) (rest : List ℕ) → IsPunctuator text kind rest → lexeme.IsOutside Div text (plain (bare (token_kind_number kind))) rest
mark_stands text kind rest h = inr (inr (refl, (kind, h, refl)))

-- the same of what was handed out in this way
pub quiet_steps : (s new : State) (line_break : Bool) (from rest : List ℕ) (x : SpecLexeme) (r : Result (Option TokenAndSpan) Error) → s.tokens.last ≡ Other
    → s.settings.contexts ≡ [] → IsSkipped (goal_of s.settings.ctx) false s.tokens.left line_break from → lexeme.IsOutside Div from x rest → is_quiet x.token.kind ≡ true
    → x.legacy ≡ None → Steps (IsHanded line_break x.token from rest s) r new → Steps (IsStep s) r new
quiet_steps s new line_break from rest x (Ok t) last empty h stands quiet legal k = quiet_step s new line_break from rest x _ last empty h stands quiet legal k.0 k.1
quiet_steps s new line_break from rest x (Err e) last empty h stands quiet legal k = k

-- what is handed out of a token in its place
pub shown_spot_is : (end : ℕ) (line_break : Bool) (from rest : List ℕ) (token : Token) (x : SpecToken) (span : Span) → token_view token ≡ x → span ≡ span_at end from rest
    → Some (shown_spot (record { token = token; had_line_break = line_break; span = span })) ≡ Some (spot_at end line_break x from rest)
shown_spot_is end line_break from rest token x span view at =
    ap (λ (t : SpecToken). Some (record { token = told t; line_break = line_break; lo = span.lo.0; hi = span.hi.0 })) view
    ∙ ap (λ (p : Span). Some (record { token = told x; line_break = line_break; lo = p.lo.0; hi = p.hi.0 })) at

pub string_stands : (text : List ℕ) (x : SpecLexeme) (rest : List ℕ) → IsQuoted text x rest → lexeme.IsOutside Div text x rest
string_stands text x rest h = inl (inr (inr h))

-- what reading a string answers is one, by its own text, where no escape in it is one that strict code bars
pub string_quoted : (units raw text rest : List ℕ) (legacy : Bool) → IsUtf8 raw → legacy ≡ false → SpellsString units legacy text rest → text ≡ chars raw ++ rest
    → IsQuoted text (string_spelled units raw false) rest
string_quoted units raw text rest legacy u l h e =
    (units, chars raw, false, subst (λ (b : Bool). SpellsString units b text rest) l h, e, ap (λ b. string_spelled units b false) (encoded raw u))

-- a kind of a mark tells its token
pub mark_tells : (k : TokenKind) → is_mark k ≡ true → is_bare k ≡ true
mark_tells kind.Arrow h = refl
mark_tells kind.Hash h = refl
mark_tells kind.At h = refl
mark_tells kind.Dot h = refl
mark_tells kind.DotDotDot h = refl
mark_tells kind.Bang h = refl
mark_tells kind.LParen h = refl
mark_tells kind.RParen h = refl
mark_tells kind.LBracket h = refl
mark_tells kind.RBracket h = refl
mark_tells kind.LBrace h = refl
mark_tells kind.RBrace h = refl
mark_tells kind.Semi h = refl
mark_tells kind.Comma h = refl
mark_tells kind.BackQuote h = refl
mark_tells kind.Colon h = refl
mark_tells kind.QuestionMark h = refl
mark_tells kind.PlusPlus h = refl
mark_tells kind.MinusMinus h = refl
mark_tells kind.Tilde h = refl
mark_tells (kind.BinOp op) h = refl
mark_tells (kind.AssignOp op) h = refl
mark_tells (kind.Word word) h = absurd (false≢true h)
mark_tells kind.Template h = absurd (false≢true h)
mark_tells kind.Str h = absurd (false≢true h)
mark_tells kind.Regex h = absurd (false≢true h)
mark_tells kind.Num h = absurd (false≢true h)
mark_tells kind.BigInt h = absurd (false≢true h)
mark_tells kind.Shebang h = absurd (false≢true h)
mark_tells kind.Error h = absurd (false≢true h)
mark_tells kind.DollarLBrace h = absurd (false≢true h)
