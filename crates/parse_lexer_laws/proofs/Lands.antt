-- Where a token of a lexer lies, and of which kind it is.
use Rattle.std.proofs.Common.{◌≡◌, ◌≢◌, ◌<◌, inl, inr, ℕ, Bool, true, false, cond, List, [], length, Option, None, Some, refl, sym, ap, ◌∙◌, subst, true≢false}
use Rattle.std.specs.Prelude.{◌==◌}
use Rattle.std.proofs.lemmas.Option.{same_Some}
use Rattle.base_token.specs.Kinds.{error_kind, template_kind}
use Rattle.base_token.specs.TokenViews.{token_kind_number}
use Rattle.base_token.specs.Tokens.{SpecToken, Spot, bare}
use Rattle.base_token.specs.Words.{kind_of}
use Rattle.lex_literal.specs.Numbers.{Meaning, Number, BigInt}
use Rattle.lex_literal.specs.declared.template.Ending.{Ending}
use Rattle.lex_literal.specs.declared.template.Ending.TheVariants.{BackQuote, Substitution}
use Rattle.lex_token.specs.declared.goal.LexicalGoal.{LexicalGoal}
use Rattle.lex_token.specs.declared.goal.LexicalGoal.TheVariants.{Div, RegExp, TemplateTail, TemplateEnd}
use Rattle.lex_token.specs.Lexemes as lexeme
use Rattle.lex_token.specs.Lexemes.{SpecLexeme, IsLexeme, IsMark, IsOrdinary, ending_kind, numeral_lexeme, plain}
use Rattle.lex_source.specs.Machine.{told}
use Rattle.grammar_spec.specs.Tokens.Input.{is_word, text_in}
use Rattle.lex_step_laws.specs.States.{Last, Start, Slash, Characters, Fault, Other, State, again, behind, goal_of, is_start, last_after, place, shebang, stopped, template_goal}
use Rattle.lex_step_laws.specs.Steps.{IsRead, IsPlain, IsFirst, IsOutside, IsGoing, IsStepBy, IsStepOf, IsStep}
use Rattle.lex_step_laws.proofs.Going.{none_some}
use Rattle.lex_step_laws.proofs.Tokens.{token_shorter}
use Rattle.lex_step_laws.proofs.Trivia.{hashbang_shorter}
use Rattle.lex_run_laws.proofs.Behind.{Behind, here, nothing_behind, follow_behind, hashbang_behind, lexeme_behind}
use Rattle.parse_lexer_laws.specs.WordKinds.{IsOfKind}
use Rattle.parse_lexer_laws.proofs.Escapes.{no_word}

-- ---- kinds

-- a token that is told so
abbrev Kinded : SpecToken → Type 0
Kinded t = is_word t.kind ≡ true → t.kind ≡ kind_of (text_in (told t).content)

wordless : (t : SpecToken) → is_word t.kind ≡ false → Kinded t
wordless t e k = absurd (true≢false (sym k ∙ e))

number_kinded : (m : Meaning) (own : List ℕ) → Kinded (numeral_lexeme m own).token
number_kinded (Number value) own k = absurd (true≢false (sym k))
number_kinded (BigInt radix digits) own k = absurd (true≢false (sym k))

ending_kinded : (e : Ending) → Kinded (plain (bare (ending_kind e))).token
ending_kinded BackQuote k = absurd (true≢false (sym k))
ending_kinded Substitution k = absurd (true≢false (sym k))

module _ (text rest : List ℕ) where
  ordinary_kinded : (x : SpecLexeme) → IsOrdinary text x rest → Kinded x.token
  ordinary_kinded x (inl w) = subst (λ (z : SpecLexeme). Kinded z.token) (sym w.4) (λ k. refl)
  ordinary_kinded x (inr (inl w)) = subst (λ (z : SpecLexeme). Kinded z.token) (sym w.3) (number_kinded w.0 w.1)
  ordinary_kinded x (inr (inr w)) = subst (λ (z : SpecLexeme). Kinded z.token) (sym w.5) (λ k. absurd (true≢false (sym k)))

  mark_kinded : (x : SpecLexeme) → IsMark text x rest → Kinded x.token
  mark_kinded x w = subst (λ (z : SpecLexeme). Kinded z.token) (sym w.2) (wordless (bare (token_kind_number w.0)) (no_word text w.0 rest w.1))

  outside_kinded : (goal : LexicalGoal) (x : SpecLexeme) → lexeme.IsOutside goal text x rest → Kinded x.token
  outside_kinded goal x (inl w) = ordinary_kinded x w
  outside_kinded goal x (inr (inl w)) = subst (λ (z : SpecLexeme). Kinded z.token) (sym w.1.3) (λ k. absurd (true≢false (sym k)))
  outside_kinded goal x (inr (inr w)) = mark_kinded x w.1

  kinded : (goal : LexicalGoal) (x : SpecLexeme) → IsLexeme goal text x rest → Kinded x.token
  kinded Div x w = outside_kinded Div x w
  kinded RegExp x w = outside_kinded RegExp x w
  kinded TemplateTail x w = subst (λ (z : SpecLexeme). Kinded z.token) (sym w.6) (λ k. absurd (true≢false (sym k)))
  kinded TemplateEnd x w = subst (λ (z : SpecLexeme). Kinded z.token) (sym w.2) (ending_kinded w.0)

-- ---- places

-- a slash that came last began there
abbrev pub Began : List ℕ → Last → Type 0
Began from (Slash text) = text ≡ from
Began from last = Unit {0}

last_began : (kind : ℕ) (from : List ℕ) → Began from (last_after kind from)
last_began kind from = by_tests (kind == template_kind) _
  where
    by_tests : (a b : Bool) → Began from (cond a Characters (cond b (Slash from) Other))
    by_tests true b = tt
    by_tests false true = refl
    by_tests false false = tt

-- A token stands behind the first characters, and what is left stands behind it.
pub record Lands (s : State) (text : List ℕ) (t : Spot) (new : State) : Type 0 where
  pub kind : IsOfKind t
  pub from : List ℕ
  pub starts : Behind text from
  pub left : Behind from new.tokens.left
  pub begins : t.lo ≡ place s.tokens.end from
  pub ends : t.hi ≡ place s.tokens.end new.tokens.left
  pub some : t.token.kind ≢ template_kind → t.token.kind ≢ error_kind → length new.tokens.left < length from
  pub end : new.tokens.end ≡ s.tokens.end
  pub last : Began from new.tokens.last
  pub asked : new.settings.next_regexp ≡ s.settings.next_regexp

-- a token has a character, but for the characters of a template
shorter : (goal : LexicalGoal) (from : List ℕ) (x : SpecLexeme) (rest : List ℕ) → IsLexeme goal from x rest → x.token.kind ≢ template_kind → length rest < length from
shorter Div from x rest h n = token_shorter Div from x rest (λ k. cc) h
shorter RegExp from x rest h n = token_shorter RegExp from x rest (λ k. cc) h
shorter TemplateEnd from x rest h n = token_shorter TemplateEnd from x rest (λ k. cc) h
shorter TemplateTail from x rest h n = absurd (n (ap (λ (y : SpecLexeme). y.token.kind) h.6))

module _ (s new : State) (t : Spot) (text : List ℕ) where
  token_lands : (line_break : Bool) (from : List ℕ) (x : SpecLexeme) (rest : List ℕ) → Kinded x.token → Behind text from → Behind from rest → (x.token.kind ≢ template_kind → length rest < length from)
      → record { token = told x.token; line_break = line_break; lo = place s.tokens.end from; hi = place s.tokens.end rest } ≡ t → new ≡ behind s line_break from x rest → Lands s text t new
  token_lands line_break from x rest k a b c e n = subst (λ (z : State). Lands s text t z) (sym n) (subst (λ (z : Spot). Lands s text z (behind s line_break from x rest)) e (record {
    kind = k;
    from = from;
    starts = a;
    left = b;
    begins = refl;
    ends = refl;
    some = λ i j. c i;
    end = refl;
    last = last_began x.token.kind from;
    asked = refl;
  }))

  fault_lands : (line_break : Bool) (from : List ℕ) → Behind text from
      → record { token = told (bare error_kind); line_break = line_break; lo = place s.tokens.end from; hi = place s.tokens.end [] } ≡ t → new ≡ stopped s line_break → Lands s text t new
  fault_lands line_break from a e n = subst (λ (z : State). Lands s text t z) (sym n) (subst (λ (z : Spot). Lands s text z (stopped s line_break)) e (record {
    kind = λ k. absurd (true≢false (sym k));
    from = from;
    starts = a;
    left = nothing_behind from;
    begins = refl;
    ends = refl;
    some = λ i j. absurd (j refl);
    end = refl;
    last = tt;
    asked = refl;
  }))

  read_lands : (goal : LexicalGoal) (line_break : Bool) (from : List ℕ) → Behind text from → IsRead goal line_break from s (Some t) new → Lands s text t new
  read_lands goal line_break from a (inl h) = token_lands line_break from h.0 h.1 (kinded from h.1 goal h.0 h.2) a (lexeme_behind goal from h.0 h.1 h.2) (shorter goal from h.0 h.1 h.2) (sym (same_Some _ _ h.3)) h.4
  read_lands goal line_break from a (inr (inl h)) = fault_lands line_break from a (sym (same_Some _ _ h.2)) h.3
  read_lands goal line_break from a (inr (inr h)) = none_some (sym h.1)

-- the characters from which a step reads: from a slash on that is read again, or those that are left
abbrev pub from_by : State → Option (List ℕ) → List ℕ
from_by s (Some text) = text
from_by s None = s.tokens.left

module _ (s new : State) (t : Spot) where
  plain_lands : IsPlain s (Some t) new → Lands s s.tokens.left t new
  plain_lands (inl h) = read_lands s new t s.tokens.left Div h.0 h.1 (follow_behind (goal_of s.settings.ctx) (is_start s.tokens.last) s.tokens.left h.2.0 h.1 h.2.1.0) h.3
  plain_lands (inr h) = fault_lands s new t s.tokens.left false h.0 (follow_behind (goal_of s.settings.ctx) (is_start s.tokens.last) s.tokens.left h.1.0 h.0 h.1.1) (sym (same_Some _ _ h.2)) h.3

  first_lands : IsFirst s (Some t) new → Lands s s.tokens.left t new
  first_lands (inl h) = token_lands s new t s.tokens.left false s.tokens.left (shebang h.0) h.1 (λ k. absurd (true≢false (sym k))) (here s.tokens.left s.tokens.left refl) (hashbang_behind s.tokens.left h.0 h.1 h.2)
      (λ n. hashbang_shorter s.tokens.left h.0 h.1 h.2) (sym (same_Some _ _ h.3)) h.4
  first_lands (inr h) = plain_lands h.1

  outside_lands : (last : Last) → IsOutside last s (Some t) new → Lands s s.tokens.left t new
  outside_lands Start h = first_lands h
  outside_lands (Slash from) h = plain_lands h
  outside_lands Characters h = plain_lands h
  outside_lands Fault h = plain_lands h
  outside_lands Other h = plain_lands h

  going_lands : (goal : Option LexicalGoal) → IsGoing goal s (Some t) new → Lands s s.tokens.left t new
  going_lands (Some goal) h = read_lands s new t s.tokens.left goal false s.tokens.left (here s.tokens.left s.tokens.left refl) h
  going_lands None h = outside_lands s.tokens.last h

  by_lands : (o : Option (List ℕ)) → IsStepBy o s (Some t) new → Lands s (from_by s o) t new
  by_lands (Some text) h = read_lands s new t text RegExp s.tokens.line_break text (here text text refl) h
  by_lands None h = going_lands (template_goal s.settings.contexts s.tokens.last) h

  of_lands : (last : Last) → IsStepOf last s (Some t) new → Lands s (from_by s (again s)) t new
  of_lands Start h = by_lands (again s) h
  of_lands (Slash from) h = by_lands (again s) h
  of_lands Characters h = by_lands (again s) h
  of_lands Fault h = none_some (sym h.0)
  of_lands Other h = by_lands (again s) h

pub step_lands : (s new : State) (t : Spot) → IsStep s (Some t) new → Lands s (from_by s (again s)) t new
step_lands s new t h = of_lands s new t s.tokens.last h.is
