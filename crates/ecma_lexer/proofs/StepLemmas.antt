-- A step, as the code makes it.
use Rattle.std.proofs.Common.{◌≡◌, ◌≢◌, ℕ, ◌+◌, ◌-◌, ◌==◌, inl, inr, Bool, true, false, List, [], ◌∷◌, length, IsUtf8, Option, Some, None, Result, Ok, Err, refl, sym, ap, subst, ◌∙◌, arith}
use Rattle.std.proofs.lemmas.Bool.{false≢true}
use Rattle.std.specs.Prelude.{MatchBool, option_map}
use Rattle.std.specs.Str.{chars}
use Rattle.std.proofs.lemmas.Str.{chars-nil}
use Rattle.base_token.specs.declared.error.Error.{Error}
use Rattle.base_token.specs.declared.token.TokenAndSpan.{TokenAndSpan}
use Rattle.base_token.specs.Kinds.{shebang_kind}
use Rattle.base_token.specs.Tokens.{Line, Spot}
use Rattle.lex_source.specs.Machine.{shown_spot}
use Rattle.lex_source.specs.Settings.{Settings}
use Rattle.lex_pieces.specs.declared.trivia.Goal.{Goal}
use Rattle.lex_pieces.specs.Names.{is_nil}
use Rattle.lex_pieces.specs.Places.{bytes}
use Rattle.lex_pieces.proofs.Following.{empty_text}
use Rattle.lex_pieces.specs.Trivia.{IsFaultAfter, IsHashbang, IsSkipped}
use Rattle.lex_token.specs.declared.goal.LexicalGoal.{LexicalGoal}
use Rattle.lex_token.specs.declared.goal.LexicalGoal.TheVariants.{Div, RegExp, TemplateTail}
use Rattle.lex_token.specs.Lexemes.{SpecLexeme, plain}
use Rattle.lex_token.proofs.SpelledLemmas.{encoded}
use Rattle.lex_step_laws.specs.States as spec
use Rattle.lex_step_laws.specs.States.{Fault, Last, Start, State, again, faulty, faulty_from, goal_of, is_start, place, shebang, stopped, template_goal}
use Rattle.lex_step_laws.specs.Steps.{Ends, IsBadTrivia, IsFirst, IsGoing, IsOutside, IsPlain, IsRead, IsStep, IsStepBy, IsStepOf}
use Rattle.ecma_lexer.specs.declared.last.Last as code
use Rattle.ecma_lexer.specs.declared.last.Last.TheVariants as l
use Rattle.ecma_lexer.specs.Last.{last_view}
use Rattle.ecma_lexer.specs.Stepping.{IsTaken, Steps}

-- an empty text has no characters
pub ruleset nothing_left = (chars-nil)

pub read_end : (goal : LexicalGoal) (line_break : Bool) (from : List ℕ) (s new : State) → Ends goal from → new ≡ spec.ended s → IsRead goal line_break from s None new
read_end goal line_break from s new e n = inr (inr (e, refl, n))

plain_skipped : (line_break : Bool) (rest : List ℕ) (s new : State) (r : Result (Option TokenAndSpan) Error)
    → IsSkipped (goal_of s.settings.ctx) (is_start s.tokens.last) s.tokens.left line_break rest → Steps (IsRead Div line_break rest s) r new → Steps (IsPlain s) r new
plain_skipped line_break rest s new (Ok t) h k = inl (line_break, rest, h, k)
plain_skipped line_break rest s new (Err e) h k = k

pub plain_read : (goal : Goal) (first line_break : Bool) (rest : List ℕ) (s new : State) (r : Result (Option TokenAndSpan) Error)
    → goal ≡ goal_of s.settings.ctx → first ≡ is_start s.tokens.last → IsSkipped goal first s.tokens.left line_break rest
    → Steps (IsRead Div line_break rest s) r new → Steps (IsPlain s) r new
plain_read goal first line_break rest s new r g f h k =
    plain_skipped line_break rest s new r (subst (λ x. IsSkipped (goal_of s.settings.ctx) x s.tokens.left line_break rest) f (subst (λ x. IsSkipped x first s.tokens.left line_break rest) g h)) k

record Bad (end : ℕ) (goal : Goal) (first : Bool) (text : List ℕ) (lo : ℕ) : Type 0 where
  rest : List ℕ
  is : IsBadTrivia goal first text rest
  at : lo + bytes rest ≡ end

bad_trivia : (end : ℕ) (goal : Goal) (first : Bool) (text : List ℕ) (e : Error) → IsFaultAfter end goal first text e → Bad end goal first text e.span.lo.0
bad_trivia end goal first text e (ps, rest, follow, inl h) = record { rest = rest; is = (ps, follow, inl h.1); at = h.2.0 }
bad_trivia end goal first text e (ps, rest, follow, inr h) = record { rest = rest; is = (ps, follow, inr (h.1.0, h.1.1)); at = h.1.2.0 }

faulty_is : (end : ℕ) (line_break : Bool) (from : List ℕ) (lo : ℕ) → lo + bytes from ≡ end → faulty_from end line_break lo ≡ faulty end line_break from
faulty_is end line_break from lo e =
    let here : lo ≡ place end from = omega (arith, e) in
    let there : end ≡ end - 0 = omega arith in
    rw here (ap (λ (hi : ℕ). record (faulty end line_break from) { hi = hi }) there)

pub plain_fault : (goal : Goal) (first : Bool) (s new : State) (out : Option Spot) (e : Error) → goal ≡ goal_of s.settings.ctx → first ≡ is_start s.tokens.last
    → IsFaultAfter s.tokens.end goal first s.tokens.left e → out ≡ Some (faulty_from s.tokens.end false e.span.lo.0) → new ≡ stopped s false → IsPlain s out new
plain_fault goal first s new out e g f h o n =
    let k = subst (λ x. IsFaultAfter s.tokens.end (goal_of s.settings.ctx) x s.tokens.left e) f (subst (λ x. IsFaultAfter s.tokens.end x first s.tokens.left e) g h) in
    let b = bad_trivia s.tokens.end (goal_of s.settings.ctx) (is_start s.tokens.last) s.tokens.left e k in
    inr (b.rest, b.is, o ∙ ap (λ (x : Spot). Some x) (faulty_is s.tokens.end false b.rest e.span.lo.0 b.at), n)

start_is : (l : Last) → is_start l ≡ true → l ≡ Start
start_is Start e = refl
start_is (spec.Slash from) e = absurd (false≢true e)
start_is spec.Characters e = absurd (false≢true e)
start_is Fault e = absurd (false≢true e)
start_is spec.Other e = absurd (false≢true e)

pub shebang_is : (own : List ℕ) → IsUtf8 own → plain (record { kind = shebang_kind; content = Line own }) ≡ shebang (chars own)
shebang_is own u = ap (λ (b : List ℕ). plain (record { kind = shebang_kind; content = Line b })) (encoded own u)

first_by : (own rest : List ℕ) (s new : State) (r : Result (Option TokenAndSpan) Error) → IsHashbang s.tokens.left own rest
    → Steps (IsTaken false s.tokens.left (shebang own) rest s) r new → Steps (IsFirst s) r new
first_by own rest s new (Ok t) h k = inl (own, rest, h, k.0, k.1)
first_by own rest s new (Err e) h k = k

pub first_line : (own rest : List ℕ) (x : SpecLexeme) (s new : State) (r : Result (Option TokenAndSpan) Error) → is_start s.tokens.last ≡ true
    → IsHashbang s.tokens.left own rest → x ≡ shebang own → Steps (IsTaken false s.tokens.left x rest s) r new → Steps (IsOutside s.tokens.last s) r new
first_line own rest x s new r e h same k =
    subst (λ l. Steps (IsOutside l s) r new) (sym (start_is s.tokens.last e)) (first_by own rest s new r h (subst (λ y. Steps (IsTaken false s.tokens.left y rest s) r new) same k))

pub ends_is : (goal : LexicalGoal) (s : List ℕ) (b : Bool) → IsUtf8 s → (goal ≢ TemplateTail) → b ≡ (length s == 0) → MatchBool b (Ends goal (chars s)) (Ends goal (chars s) → ⊥)
ends_is goal s true u g e = (g, nil_is (chars s) (sym (e ∙ empty_text s u)))
  where
    nil_is : (cs : List ℕ) → is_nil cs ≡ true → cs ≡ []
    nil_is [] h = refl
    nil_is (c ∷ cs) h = absurd (false≢true h)
ends_is goal s false u g e = λ h. false≢true (e ∙ empty_text s u ∙ ap is_nil h.1)

pub at_end : (s new : State) (b : Bool) (goal : LexicalGoal) (line_break : Bool) (from : List ℕ) → b ≡ true → MatchBool b (Ends goal from) (Ends goal from → ⊥)
    → new ≡ spec.ended s → IsRead goal line_break from s None new
at_end s new true goal line_break from e h n = read_end goal line_break from s new h n
at_end s new false goal line_break from e h n = absurd (false≢true e)

-- the state with these parts
made : List ℕ → ℕ → Last → Bool → Settings → State
made left end last line_break settings = record { tokens = record { left = left; end = end; last = last; line_break = line_break }; settings = settings }

pub emptied : (s new : State) → new.tokens.left ≡ [] → new.tokens.end ≡ s.tokens.end → new.tokens.last ≡ s.tokens.last → new.tokens.line_break ≡ s.tokens.line_break
    → new.settings ≡ s.settings → new ≡ spec.ended s
unfolding made
emptied s new l e t b g =
    ap (λ (x : List ℕ). made x new.tokens.end new.tokens.last new.tokens.line_break new.settings) l
    ∙ (ap (λ (x : ℕ). made [] x new.tokens.last new.tokens.line_break new.settings) e
    ∙ (ap (λ (x : Last). made [] s.tokens.end x new.tokens.line_break new.settings) t
    ∙ (ap (λ (x : Bool). made [] s.tokens.end s.tokens.last x new.settings) b
    ∙ ap (λ (x : Settings). made [] s.tokens.end s.tokens.last s.tokens.line_break x) g)))

-- ---- the step by what came last

is_fault : Last → Bool
is_fault Fault = true
is_fault _ = false

pub no_fault : (came : code.Last) (last : Last) → last_view came ≡ last → came ≢ l.Fault → last ≢ Fault
unfolding is_fault
no_fault l.Start last e n h = false≢true (ap is_fault (e ∙ h))
no_fault (l.Slash from) last e n h = false≢true (ap is_fault (e ∙ h))
no_fault l.Characters last e n h = false≢true (ap is_fault (e ∙ h))
no_fault l.Fault last e n h = n refl
no_fault l.Other last e n h = false≢true (ap is_fault (e ∙ h))

step_by : (last : Last) (s : State) (out : Option Spot) (new : State) → last ≢ Fault → IsStepBy (again s) s out new → IsStepOf last s out new
step_by Start s out new n h = h
step_by (spec.Slash from) s out new n h = h
step_by spec.Characters s out new n h = h
step_by Fault s out new n h = absurd (n refl)
step_by spec.Other s out new n h = h

-- a slash is read again
pub again_step : (s new : State) (line_break : Bool) (from : List ℕ) (r : Result (Option TokenAndSpan) Error) → s.tokens.last ≢ Fault → again s ≡ Some from
    → line_break ≡ s.tokens.line_break → Steps (IsRead RegExp line_break from s) r new → Steps (IsStep s) r new
again_step s new line_break from (Ok t) n a e h =
    let out = option_map shown_spot t in
    record { is = step_by s.tokens.last s out new n (subst (λ o. IsStepBy o s out new) (sym a) (subst (λ b. IsRead RegExp b from s out new) e h)) }
again_step s new line_break from (Err f) n a e h = h

-- what comes inside a template is read
pub template_step : (s new : State) (goal : LexicalGoal) (from : List ℕ) (r : Result (Option TokenAndSpan) Error) → s.tokens.last ≢ Fault → again s ≡ None
    → template_goal s.settings.contexts s.tokens.last ≡ Some goal → from ≡ s.tokens.left → Steps (IsRead goal false from s) r new → Steps (IsStep s) r new
template_step s new goal from (Ok t) n a g e h =
    let out = option_map shown_spot t in
    let going : IsGoing (template_goal s.settings.contexts s.tokens.last) s out new = subst (λ k. IsGoing k s out new) (sym g) (subst (λ l. IsRead goal false l s out new) e h) in
    record { is = step_by s.tokens.last s out new n (subst (λ o. IsStepBy o s out new) (sym a) going) }
template_step s new goal from (Err f) n a g e h = h
